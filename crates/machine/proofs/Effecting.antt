-- The effect of each command, read for a crate: at the tag that it is aimed at, and at no other.
use Prim.Native.Nat.{ℕ, ◌<◌}
use borrow.Author.Tests.{eqb-true, eqb-false}
use lib.Dec.{eqb}
use mathlib.Core.Bool.{true}
use mathlib.Core.List.{List, [], ◌∷◌}
use mathlib.Core.Logic.{◌⊎◌, ◌≢◌, inl, inr, ⊎_elim}
use mathlib.Core.Path.{◌≡◌, refl, ap, sym, subst, ◌∙◌}
use native.Mathlib.Omega.{arith}
use Rattle.machine.proofs.Carrying.{commands_aim}
use Rattle.machine.proofs.Lowests.{lowest_good}
use Rattle.machine.proofs.Secrets.{code_there}
use Rattle.machine.proofs.Staying.{replaced_same, memory_is, aimed_others, hand_out_stores_nothing, selecting_memory, step_good}
use Rattle.machine.proofs.Steps.{Tested, found_tag, step_cases}
use Rattle.machine.specs.Claims.{code_of, parameters_of, AimedAt, made_at, WriteEffect, LockEffect, KillEffect, NoOtherEffect, GapsStay, PermalocksStay}
use Rattle.machine.specs.Machine.{State, Call, Step, code_at, parameters_at, waiting, unchanged, dropped, told, missed, image_for, act_for, acted, aimed, input_of, rest_of, step, after}
use Rattle.machine.specs.declared.deciding.Aimed.{Aimed}
use Rattle.effects.proofs.Claimed as effects
use Rattle.effects.proofs.Permalocked.{both, same}
use Rattle.effects.specs.Claims.{Overwritten, Effect, Written, NamedWords, pairs_after, Permalocks}
use Rattle.frame.proofs.Tests.{either}
use Rattle.frame.specs.Bytes.{byte, number, two_bytes}
use Rattle.frame.specs.Formats.{code_in}
use Rattle.image.specs.Image.{good}
use Rattle.population.proofs.Executes.{inside_there, image_length}
use Rattle.population.proofs.GoodPopulations.{population_facts}
use Rattle.population.proofs.Images.{image_same}
use Rattle.population.proofs.OnePlace.{length_changed}
use Rattle.population.specs.Claims.{image_of}
use Rattle.population.specs.Executing.{replaced}
use Rattle.population.specs.Places.{place_at, inside, image_at, good_population}
use Rattle.population.specs.declared.places.Place.{Place}
use Rattle.reader.specs.Outcomes.{number_of}
use Rattle.tag.specs.Answers.{changed}
use Rattle.tag.specs.Claims.{comes_to, outcome}
use Rattle.tag.specs.Commands.{act_of}
use Rattle.tag.specs.Locks.{pairs, bits_of}

-- ---- at the tag that it is aimed at

module _ (c : Call) (s : State) (n : ℕ) (p : Place) (at : AimedAt c s n p) where
  -- no test refused a call that answers 0
  tested : Tested (input_of c) s
  unfolding unchanged dropped number_of
  tested =
      step_cases c s (λ (x : Step). number_of x.outcome ≡ 0 → Tested (input_of c) s) (λ o m k e. absurd (m e)) (λ t k q w e. t) (λ t none r found some e. t)
      (λ pl a code e. a.tested)
      (λ pl a code none e. a.tested)
      (λ pl a code k q low e. a.tested)
      at.0.0

  image_good : good (image_of s.memory p) ≡ true
  unfolding image_at
  image_good = lowest_good s.memory s.tags s.places s.selection 0 tested.population_good n p (found_tag (input_of c) s tested 0 n p at.1)

  made_is : (code : ℕ) → code_of c s ≡ code → code ≢ 0x0C → comes_to (image_of s.memory p) code (parameters_of c s) ≡ made_at p (step c s)
  made_is code e other =
      ap (λ (k : ℕ). comes_to (image_of s.memory p) k (parameters_of c s)) (sym e)
      ∙ sym (commands_aim c s n p at.0 (λ f. other (sym e ∙ f)) at.1).it_comes_to

pub write_effect : WriteEffect
write_effect c s n p at code =
    let image : List ℕ = image_of s.memory p in
    subst
    (λ (made : List ℕ × List ℕ).
    Effect image made (λ new. Written image (parameters_of c s) new (number image 10)) × (byte made.0 2 ≢ 0xFF → NamedWords image (parameters_of c s)))
    (made_is c s n p at 0x49 code (omega arith))
    (effects.write_effect image (parameters_of c s) (image_good c s n p at))

pub lock_effect : LockEffect
lock_effect c s n p at code =
    let image : List ℕ = image_of s.memory p in
    subst (λ (made : List ℕ × List ℕ). Effect image made (Overwritten 20 (two_bytes (bits_of (pairs_after image (parameters_of c s)))) image))
    (made_is c s n p at 0x82 code (omega arith))
    (effects.lock_effect image (parameters_of c s) (image_good c s n p at))

pub kill_effect : KillEffect
kill_effect c s n p at code =
    let image : List ℕ = image_of s.memory p in
    subst (λ (made : List ℕ × List ℕ). Effect image made (Overwritten 22 (1 ∷ []) image))
    (made_is c s n p at 0x65 code (omega arith))
    (effects.kill_effect image (parameters_of c s) (image_good c s n p at))

-- ---- at every tag: its image stays, or is what some command comes to on it

abbrev After : List ℕ → List ℕ → Type 0
After image new = (new ≡ image) ⊎ ((code : ℕ) × (q : List ℕ) × (new ≡ (comes_to image code q).1))

-- a property of an image that every command keeps
after_keeps : (P : List ℕ → Type 0) (image new : List ℕ) → After image new → P image → ((code : ℕ) (q : List ℕ) → P (comes_to image code q).1) → P new
after_keeps P image new a same acts = ⊎_elim (λ e. subst P (sym e) same) (λ r. subst P (sym r.2) (acts r.0 r.1)) a

module _ (s : State) (a : Aimed) (q : List ℕ) (g : good_population s.memory s.tags s.places ≡ true) (h : a.number < s.tags)
    (here : a.place ≡ place_at s.places a.number) where
  at_the_tag : image_at (aimed s a q).next.memory (place_at s.places a.number) ≡ (comes_to (image_at s.memory (place_at s.places a.number)) a.code q).1
  unfolding outcome
  at_the_tag =
      let there = (population_facts s.memory s.tags s.places g).within a.number h in
      let place : Place = place_at s.places a.number in
      let image : List ℕ = image_at s.memory place in
      let new : List ℕ = changed image q (act_of image a.code q) in
      ap (λ (m : List ℕ). image_at m place) (memory_is s a q g h here)
      ∙ image_same s.memory place new (length_changed image q (act_of image a.code q) ∙ image_length s.memory place there) (inside_there s.memory place there)

  aimed_after : (j : ℕ) → j < s.tags → After (image_at s.memory (place_at s.places j)) (image_at (aimed s a q).next.memory (place_at s.places j))
  aimed_after j l =
      either (eqb a.number j)
      (λ e.
      subst (λ (k : ℕ). After (image_at s.memory (place_at s.places k)) (image_at (aimed s a q).next.memory (place_at s.places k))) (eqb-true a.number j e)
      (inr (a.code, q, at_the_tag)))
      (λ e. inl (aimed_others s a q g h here j l (eqb-false a.number j e)))

tag_after : (c : Call) (s : State) (j : ℕ) → j < s.tags
    → ((step c s).next.memory ≡ s.memory)
    ⊎ ((good_population s.memory s.tags s.places ≡ true) × After (image_at s.memory (place_at s.places j)) (image_at (step c s).next.memory (place_at s.places j)))
unfolding unchanged dropped missed told waiting
tag_after c s j l =
    step_cases c s
    (λ (x : Step).
    (x.next.memory ≡ s.memory)
    ⊎ ((good_population s.memory s.tags s.places ≡ true) × After (image_at s.memory (place_at s.places j)) (image_at x.next.memory (place_at s.places j))))
    (λ o m n. inl refl)
    (λ t n p e. inl (hand_out_stores_nothing (input_of c) s t n p (found_tag (input_of c) s t s.next n p e)))
    (λ t none r found some. inl refl)
    (λ pl a code. inl (selecting_memory s _ _))
    (λ pl a code none. inl refl)
    (λ pl a code n p e.
    let tag = found_tag (input_of c) s a.tested 0 n p e in
    inr (a.tested.population_good, aimed_after s _ _ a.tested.population_good tag.one_of tag.at_place j l))

pub no_other_effect : NoOtherEffect
unfolding unchanged dropped missed told waiting number_of aimed acted act_for image_for outcome code_in rest_of
no_other_effect c s other =
    step_cases c s (λ (x : Step). number_of x.outcome ≡ number_of (step c s).outcome → x.next.memory ≡ s.memory) (λ o m n e. refl)
    (λ t n p e z. hand_out_stores_nothing (input_of c) s t n p (found_tag (input_of c) s t s.next n p e))
    (λ t none r found some z. refl)
    (λ pl a code z. selecting_memory s _ _)
    (λ pl a code none z. refl)
    (λ pl a code n p low z.
    let tag = found_tag (input_of c) s a.tested 0 n p low in
    let there = (population_facts s.memory s.tags s.places a.tested.population_good).within n tag.one_of in
    let kept = other (sym z, a.none_waits) in
    let is = code_there (input_of c) s.reader.cursor in
    let image : List ℕ = image_at s.memory p in
    let q : List ℕ = parameters_at (input_of c) s.reader.cursor pl in
    ap (replaced s.memory p)
    (effects.no_other_effect image (code_at (input_of c) s.reader.cursor) q (λ f. kept.0 (sym is ∙ f)) (λ f. kept.1.0 (sym is ∙ f)) (λ f. kept.1.1 (sym is ∙ f)))
    ∙ replaced_same s.memory p (subst (λ (r : Place). inside s.memory r ≡ true) (sym tag.at_place) there))
    refl

-- a property of a tag's image that every command keeps, over one call
tag_keeps : (P : List ℕ → Type 0) (c : Call) (s : State) (j : ℕ) → j < s.tags → P (image_at s.memory (place_at s.places j))
    → (good (image_at s.memory (place_at s.places j)) ≡ true → (code : ℕ) (q : List ℕ) → P (comes_to (image_at s.memory (place_at s.places j)) code q).1)
    → P (image_at (step c s).next.memory (place_at s.places j))
tag_keeps P c s j l same acts =
    ⊎_elim (λ e. subst (λ (m : List ℕ). P (image_at m (place_at s.places j))) (sym e) same)
    (λ r. after_keeps P _ _ r.1 same (acts ((population_facts s.memory s.tags s.places r.0).images j l)))
    (tag_after c s j l)

pub gaps_stay : GapsStay
unfolding place_at image_at
gaps_stay c s j i l far gap =
    let image : List ℕ = image_at s.memory (place_at s.places j) in
    tag_keeps (λ (new : List ℕ). byte new i ≡ byte image i) c s j l refl (λ g code q. effects.gaps_stay image code q g i far gap)

pub permalocks_stay : PermalocksStay
unfolding after place_at image_at
permalocks_stay [] s j l = same _ _ refl
permalocks_stay (c ∷ calls) s j l =
    let image : List ℕ = image_at s.memory (place_at s.places j) in
    let still = step_good c s in
    both _ _ _
    (tag_keeps (λ (new : List ℕ). Permalocks (pairs (number image 20)) (pairs (number new 20))) c s j l (same _ _ refl)
    (λ g code q. effects.permalocks_stay image code q g))
    (subst (λ (places : List Place). Permalocks (pairs (number (image_at (step c s).next.memory (place_at places j)) 20)) (pairs (number (image_at (after calls (step c s).next).memory (place_at places j)) 20)))
    still.same_places
    (permalocks_stay calls (step c s).next j (omega (arith, l, still.same_tags))))
