-- The memory after one image was replaced by another of its size: at its place stands the new one, each image that stands apart is as it was, and so is every
-- byte outside.
use Prim.Native.Nat.{ℕ, ◌+◌, ◌≤◌}
use borrow.Author.Tests.{leb-true, leb-false}
use lib.Dec.{leb}
use lib.ListN.{length}
use lib.Seq.{sets, length-sets}
use mathlib.Core.Bool.{true}
use mathlib.Core.List.{List}
use mathlib.Core.Path.{◌≡◌, ap, sym, ◌∙◌}
use native.Mathlib.Omega.{arith}
use Rattle.frame.proofs.Stores.{part_sets, part_sets_before, part_sets_behind, byte_sets_before, byte_sets_behind}
use Rattle.frame.proofs.Tests.{either}
use Rattle.frame.specs.Bytes.{byte, part}
use Rattle.population.proofs.Overlaps.{apart_cases}
use Rattle.population.specs.Claims.{Holds}
use Rattle.population.specs.Executing.{replaced}
use Rattle.population.specs.Places.{image_at, apart}
use Rattle.population.specs.declared.places.Place.{Place}

module _ (memory : List ℕ) (p : Place) (image : List ℕ) (size : length image ≡ p.size) where
  pub length_replaced : length (replaced memory p image) ≡ length memory
  unfolding replaced
  length_replaced = length-sets memory p.from image

  pub image_same : p.from + p.size ≤ length memory → image_at (replaced memory p image) p ≡ image
  unfolding replaced image_at
  image_same h =
      ap (λ (n : ℕ). part (sets memory p.from image) p.from n) (sym size) ∙ part_sets memory p.from image (omega arith)

  pub image_other : (q : Place) → apart p q ≡ true → image_at (replaced memory p image) q ≡ image_at memory q
  unfolding replaced image_at
  image_other q h =
      apart_cases p q h
      (λ e. part_sets_behind memory p.from image q.from q.size (omega arith))
      (λ e. part_sets_before memory p.from image q.from q.size e)

  pub byte_outside : (k : ℕ) → (Holds p k → ⊥) → byte (replaced memory p image) k ≡ byte memory k
  unfolding replaced
  byte_outside k out =
      either (leb p.from k)
      (λ e. either (leb (p.from + p.size) k)
      (λ f. byte_sets_behind memory p.from image k (omega (arith, leb-true (p.from + p.size) k f)))
      (λ f. absurd (out (leb-true _ _ e, leb-false _ _ f))))
      (λ e. byte_sets_before memory p.from image k (leb-false _ _ e))
