-- The head, where it has room and where not.
use Prim.Native.Nat.{ℕ, ◌≤◌, ◌<◌}
use borrow.Author.Tests.{le-leb, lt-leb}
use lib.ListN.{length}
use mathlib.Core.Bool.{Bool, and-false}
use mathlib.Core.List.{List}
use mathlib.Core.Path.{◌≡◌, ◌∙◌}
use native.Mathlib.Omega.{arith}
use Rattle.frame.proofs.Picks.{pick_true, pick_false}
use Rattle.frame.specs.Putting.{Put}
use Rattle.head.specs.Head.{head_of, has_room, Headed}

-- ---- where it has room, and where not

module _ (numbered : Bool) (input sizes before : List ℕ) where
  pub too_many : 16 < length sizes → Headed numbered input sizes before before 0
  unfolding has_room
  too_many many =
      let none = lt-leb (length sizes) 16 many in
      record { bytes_are = simp (none, pick_false); result_is = simp (none, pick_false); within = omega arith }

  pub too_short : length before < 2048 → Headed numbered input sizes before before 0
  unfolding has_room
  too_short short =
      let none = lt-leb 2048 (length before) short in
      record { bytes_are = simp (none, and-false, pick_false); result_is = simp (none, and-false, pick_false); within = omega arith }

  -- what the writer leaves is what the lent buffer holds
  pub headed : (written after : List ℕ) (result : ℕ) → length sizes ≤ 16 → 2048 ≤ length before → after ≡ written
      → Put (head_of numbered input sizes) 0 before written result → length (head_of numbered input sizes) ≤ 2048
      → Headed numbered input sizes before after result
  unfolding has_room
  headed written after result few room same put short =
      let one = le-leb (length sizes) 16 few in
      let two = le-leb 2048 (length before) room in
      record {
        bytes_are = same ∙ put.output_is ∙ simp (one, two, pick_true);
        result_is = put.next_is ∙ simp (one, two, pick_true) (omega arith);
        within = omega (arith, put.next_is);
      }
