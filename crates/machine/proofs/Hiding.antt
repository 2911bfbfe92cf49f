-- Several tags, of which some differ in hidden passwords between two runs: a command that carries none of these comes to the same on both memories, is
-- answered alike, and leaves each tag's pair of images as related as it was.
use Prim.Native.Nat.{ℕ, ◌<◌}
use lib.ListN.{length}
use mathlib.Core.Bool.{Bool, true, false, ◌&&◌}
use mathlib.Core.List.{List}
use mathlib.Core.Logic.{◌⊎◌, inl, inr, ⊎_elim}
use mathlib.Core.Path.{◌≡◌, ap, ap₂, sym, subst, ◌∙◌}
use Rattle.effects.proofs.Quiet.{Public, Untold, public_act, same_act}
use Rattle.effects.proofs.Secret.{Pair, sight, same_answer, pair_after}
use Rattle.effects.specs.Secrecy.{Hidden, Command}
use Rattle.machine.proofs.Choosing.{Blind, same_selected}
use Rattle.image.specs.Image.{good, view}
use Rattle.population.proofs.Executes.{image_length}
use Rattle.population.proofs.GoodPopulations.{PopulationFacts, good_still}
use Rattle.population.proofs.OnePlace.{length_changed}
use Rattle.population.proofs.Selects.{lowest_same}
use Rattle.population.proofs.TwoMemories.{Related, related_still}
use Rattle.population.specs.Executing.{replaced}
use Rattle.population.specs.Lowest.{selected_image, selected, selected_at, lowest}
use Rattle.population.specs.Places.{place_at, image_at}
use Rattle.population.specs.declared.places.Place.{Place}
use Rattle.tag.proofs.StaysGood.{stays_good}
use Rattle.tag.specs.Answers.{answer, changed}
use Rattle.tag.specs.Commands.{act_of}
use Rattle.tag.specs.Errors.{Verdict}

-- ---- one tag

-- its images a and b at the start, x and y now: the same in both runs, or its passwords are hidden, and `differs` tells which
pub record Secret (a b x y : List ℕ) : Type 0 where
  pub first_hidden : Hidden a
  pub second_hidden : Hidden b
  pub pair : Pair a b x y

abbrev pub AlikeTag : Bool → List ℕ → List ℕ → List ℕ → List ℕ → Type 0
AlikeTag differs a b x y = ((differs ≡ false) × (x ≡ y)) ⊎ ((differs ≡ true) × Secret a b x y)

-- a command carries no password of a tag that differs
abbrev pub Silent : Bool → List ℕ → List ℕ → Command → Type 0
Silent differs a b m = differs ≡ true → Untold a m × Untold b m

pub record ActedAlike (differs : Bool) (a b x y : List ℕ) (code : ℕ) (p : List ℕ) : Type 0 where
  pub act : act_of x code p ≡ act_of y code p
  pub frame : answer x (act_of x code p) ≡ answer y (act_of y code p)
  pub alike : AlikeTag differs a b (changed x p (act_of x code p)) (changed y p (act_of y code p))

module _ (differs : Bool) (a b x y : List ℕ) (code : ℕ) (p : List ℕ) where
  same_acted : differs ≡ false → x ≡ y → ActedAlike differs a b x y code p
  same_acted d e =
      record {
        act = ap (λ (l : List ℕ). act_of l code p) e;
        frame = ap (λ (l : List ℕ). answer l (act_of l code p)) e;
        alike = inl (d, ap (λ (l : List ℕ). changed l p (act_of l code p)) e);
      }

  secret_acted : differs ≡ true → Secret a b x y → Untold a record { code = code; parameters = p } → Untold b record { code = code; parameters = p }
      → ActedAlike differs a b x y code p
  secret_acted d s ua ub =
      let t : Pair a b x y = s.pair in
      let open-act : Public (view x) (act_of x code p) = public_act a x s.first_hidden t.first.kept p code ua in
      let same : act_of x code p ≡ act_of y code p =
      same_act a b x y s.first_hidden s.second_hidden t.first.kept t.second.kept (sight a b x y t) p code ua ub
      in
      let pair : Pair a b (changed x p (act_of x code p)) (changed y p (act_of y code p)) =
      subst (λ (act : Verdict). Pair a b (changed x p (act_of x code p)) (changed y p act)) same
      (pair_after a b x y t p (act_of x code p) open-act (stays_good x p code t.first.kept.image_good)
      (subst (λ (act : Verdict). good (changed y p act) ≡ true) (sym same) (stays_good y p code t.second.kept.image_good)))
      in
      record {
        act = same;
        frame = same_answer a b x y t (act_of x code p) open-act ∙ ap (answer y) same;
        alike = inr (d, record { first_hidden = s.first_hidden; second_hidden = s.second_hidden; pair = pair });
      }

  acted_alike : AlikeTag differs a b x y → Silent differs a b record { code = code; parameters = p } → ActedAlike differs a b x y code p
  acted_alike r silent =
      ⊎_elim (λ e. same_acted e.0 e.1) (λ d. let u = silent d.0 in secret_acted d.0 d.1 u.0 u.1) r

-- ---- the crate; a and b are the memories at the start

module _ (tags : ℕ) (places : List Place) (differs : ℕ → Bool) (a b : List ℕ) where
  abbrev pub TagAlike : ℕ → List ℕ → List ℕ → Type 0
  TagAlike i x y = AlikeTag (differs i) (image_at a (place_at places i)) (image_at b (place_at places i)) x y

  pub record Both (m n : List ℕ) : Type 0 where
    pub first : PopulationFacts m tags places
    pub second : PopulationFacts n tags places
    pub related : Related tags places TagAlike m n

  abbrev pub Quiet : ℕ → List ℕ → Type 0
  Quiet code p =
      (i : ℕ) → i < tags → Silent (differs i) (image_at a (place_at places i)) (image_at b (place_at places i)) record { code = code; parameters = p }

  module _ (m n : List ℕ) (r : Both m n) where
    -- the same tags are selected
    selected_same : (s : List ℕ) → Blind s → (i : ℕ) → i < tags → selected_at m s places i ≡ selected_at n s places i
    unfolding selected_at selected
    selected_same s blind i h =
        ap₂ (λ (p q : Bool). p && q) (r.first.within i h ∙ sym (r.second.within i h))
        (⊎_elim (λ e. ap (selected_image s) e.1) (λ d. same_selected _ _ _ _ d.1.pair s blind) (r.related.each i h))

    pub lowest_alike : (s : List ℕ) → Blind s → (start : ℕ) → lowest m tags places s start ≡ lowest n tags places s start
    lowest_alike s blind start = lowest_same m n tags places s start (λ i l h. selected_same s blind i h)

    -- and a command at one of them
    module _ (i : ℕ) (h : i < tags) (code : ℕ) (p : List ℕ) (quiet : Quiet code p) where
      abbrev x : List ℕ
      x = image_at m (place_at places i)

      abbrev y : List ℕ
      y = image_at n (place_at places i)

      pub acts : ActedAlike (differs i) (image_at a (place_at places i)) (image_at b (place_at places i)) x y code p
      acts = acted_alike (differs i) _ _ x y code p (r.related.each i h) (quiet i h)

      pub act_keeps : Both (replaced m (place_at places i) (changed x p (act_of x code p))) (replaced n (place_at places i) (changed y p (act_of y code p)))
      act_keeps =
          let lx : length (changed x p (act_of x code p)) ≡ (place_at places i).size =
          length_changed x p (act_of x code p) ∙ image_length m (place_at places i) (r.first.within i h)
          in
          let ly : length (changed y p (act_of y code p)) ≡ (place_at places i).size =
          length_changed y p (act_of y code p) ∙ image_length n (place_at places i) (r.second.within i h)
          in
          record {
            first = good_still m tags places r.first i h _ lx (stays_good x p code (r.first.images i h));
            second = good_still n tags places r.second i h _ ly (stays_good y p code (r.second.images i h));
            related = related_still tags places TagAlike m n r.first r.related i h _ _ lx ly acts.alike;
          }
