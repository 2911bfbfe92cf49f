-- A part of the memory that came back from `execute`: the memory is the old one with that part replaced.
use Prim.Native.Nat.{ℕ, ◌+◌, ◌-◌, ◌≤◌}
use lib.ListN.{length, take, drop}
use lib.Seq.{sets-eq, drop-drop}
use mathlib.Core.Bool.{true, false}
use mathlib.Core.List.{List, ◌++◌, append_assoc}
use mathlib.Core.Path.{◌≡◌, ap, sym, ◌∙◌}
use native.Mathlib.Omega.{arith}
use Rattle.execution.specs.Execution.{Execution, image_after, output_after, result_of}
use Rattle.execution.specs.declared.execute.Executed.{Executed}
use Rattle.execution.specs.declared.execute.Executed.TheVariants.{Refused}
use Rattle.frame.proofs.Copies.{reaches_there, length_part_inside}
use Rattle.frame.proofs.Picks.{pick_true, pick_false}
use Rattle.population.proofs.Populations.{cut, cut_is}
use Rattle.population.specs.Executing.{ExecutionAt, replaced}
use Rattle.population.specs.Places.{inside, image_at}
use Rattle.population.specs.declared.places.Place.{Place}

-- ---- a place in the memory

module _ (memory : List ℕ) (p : Place) (h : inside memory p ≡ true) where
  pub inside_there : p.from + p.size ≤ length memory
  unfolding inside
  inside_there = reaches_there memory p.from p.size h

  pub image_length : length (image_at memory p) ≡ p.size
  unfolding image_at
  image_length = length_part_inside memory p.from p.size inside_there

-- the memory round an image, as the code puts it back
abbrev pub round : List ℕ → Place → List ℕ → List ℕ
round memory p image = take p.from memory ++ (image ++ drop (p.from + p.size - p.from) (drop p.from memory))

round_is : (memory : List ℕ) (p : Place) (image : List ℕ) → inside memory p ≡ true → length image ≡ length (cut memory p)
    → round memory p image ≡ replaced memory p image
unfolding replaced
round_is memory p image h e =
    let whole : length image ≡ p.size = e ∙ ap (λ (l : List ℕ). length l) (cut_is memory p) ∙ image_length memory p h in
    let end : p.from + (p.from + p.size - p.from) ≡ p.from + length image = omega arith in
    let behind : drop (p.from + p.size - p.from) (drop p.from memory) ≡ drop (p.from + length image) memory =
    drop-drop (p.from + p.size - p.from) p.from memory ∙ ap (λ (n : ℕ). drop n memory) end
    in
    ap (λ (l : List ℕ). take p.from memory ++ (image ++ l)) behind
    ∙ sym (append_assoc (take p.from memory) image (drop (p.from + length image) memory))
    ∙ sym (sets-eq image memory p.from (omega (arith, inside_there memory p h)))

-- ---- the command

module _ (memory : List ℕ) (place : Place) (output : List ℕ) (code : ℕ) (p : List ℕ) where
  pub not_there : inside memory place ≡ false → ExecutionAt memory place output code p memory output Refused
  not_there h = record { memory_is = simp (h, pick_false); output_is = simp (h, pick_false); result_is = simp (h, pick_false) }

  pub ran_at : inside memory place ≡ true → (image output_left : List ℕ) (result : Executed)
      → length image ≡ length (cut memory place)
      → Execution (cut memory place) output code p image output_left result
      → ExecutionAt memory place output code p (round memory place image) output_left result
  ran_at h image output_left result e ran =
      let same : cut memory place ≡ image_at memory place = cut_is memory place in
      let new : image ≡ image_after (image_at memory place) output code p =
      ran.image_is ∙ ap (λ (l : List ℕ). image_after l output code p) same
      in
      record {
        memory_is = round_is memory place image h e ∙ ap (λ (l : List ℕ). replaced memory place l) new ∙ (simp (h, pick_true));
        output_is = ran.output_is ∙ ap (λ (l : List ℕ). output_after l output code p) same ∙ (simp (h, pick_true));
        result_is = ran.result_is ∙ ap (λ (l : List ℕ). result_of l output code p) same ∙ (simp (h, pick_true));
      }
