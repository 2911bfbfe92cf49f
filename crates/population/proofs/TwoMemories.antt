-- Two memories with the same places, whose images are related tag by tag, by a relation for each tag: they still are after an image of each is replaced by a
-- related one. What two runs have in common is carried from call to call by this, whatever the relation.
use Prim.Native.Nat.{ℕ, ◌<◌}
use borrow.Author.Tests.{eqb-true, eqb-false}
use lib.Dec.{eqb}
use lib.ListN.{length}
use mathlib.Core.List.{List}
use mathlib.Core.Path.{◌≡◌, sym, subst, ◌∙◌}
use native.Mathlib.Omega.{arith}
use Rattle.frame.proofs.Tests.{either}
use Rattle.frame.specs.Bytes.{byte}
use Rattle.population.proofs.Executes.{inside_there}
use Rattle.population.proofs.GoodPopulations.{PopulationFacts}
use Rattle.population.proofs.Images.{length_replaced, image_same, image_other, byte_outside}
use Rattle.population.specs.Claims.{Holds}
use Rattle.population.specs.Executing.{replaced}
use Rattle.population.specs.Places.{place_at, image_at}
use Rattle.population.specs.declared.places.Place.{Place}

pub record Related (tags : ℕ) (places : List Place) (R : ℕ → List ℕ → List ℕ → Type 0) (m n : List ℕ) : Type 0 where
  pub same_length : length m ≡ length n
  pub each : (i : ℕ) → i < tags → R i (image_at m (place_at places i)) (image_at n (place_at places i))
  pub outside : (k : ℕ) → ((i : ℕ) → i < tags → Holds (place_at places i) k → ⊥) → byte m k ≡ byte n k

module _ (tags : ℕ) (places : List Place) (R : ℕ → List ℕ → List ℕ → Type 0) (m n : List ℕ) (g : PopulationFacts m tags places)
    (r : Related tags places R m n) (i : ℕ) (h : i < tags) (x y : List ℕ) (x_size : length x ≡ (place_at places i).size)
    (y_size : length y ≡ (place_at places i).size) where
  -- the image that was replaced
  here : R i x y → R i (image_at (replaced m (place_at places i) x) (place_at places i)) (image_at (replaced n (place_at places i) y) (place_at places i))
  here new =
      let p : Place = place_at places i in
      let there = inside_there m p (g.within i h) in
      subst (λ (l : List ℕ). R i l (image_at (replaced n p y) p)) (sym (image_same m p x x_size there))
      (subst (λ (l : List ℕ). R i x l) (sym (image_same n p y y_size (omega (arith, there, r.same_length)))) new)

  -- another
  elsewhere : (j : ℕ) → j < tags → (i ≡ j → ⊥)
      → R j (image_at (replaced m (place_at places i) x) (place_at places j)) (image_at (replaced n (place_at places i) y) (place_at places j))
  elsewhere j l d =
      let p : Place = place_at places i in
      let q : Place = place_at places j in
      subst (λ (a : List ℕ). R j a (image_at (replaced n p y) q)) (sym (image_other m p x x_size q (g.apart_all i j h l d)))
      (subst (λ (a : List ℕ). R j (image_at m q) a) (sym (image_other n p y y_size q (g.apart_all i j h l d))) (r.each j l))

  pub related_still : R i x y → Related tags places R (replaced m (place_at places i) x) (replaced n (place_at places i) y)
  related_still new =
      let p : Place = place_at places i in
      record {
        same_length = length_replaced m p x x_size ∙ r.same_length ∙ sym (length_replaced n p y y_size);
        each = λ j l.
            either (eqb i j)
            (λ e. subst (λ (k : ℕ). R k (image_at (replaced m p x) (place_at places k)) (image_at (replaced n p y) (place_at places k))) (eqb-true i j e)
            (here new))
            (λ e. elsewhere j l (eqb-false i j e));
        outside = λ k out. byte_outside m p x x_size k (out i h) ∙ r.outside k out ∙ sym (byte_outside n p y y_size k (out i h));
      }
