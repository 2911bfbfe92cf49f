-- Each end of an acknowledge call.
use Prim.Native.Nat.{ℕ, ◌-◌, ◌*◌, ◌%◌}
use borrow.Author.Tests.{eq-eqb, ne_eqb}
use lib.ListN.{length, set}
use mathlib.Core.Bool.{true, false}
use mathlib.Core.List.{List}
use mathlib.Core.Path.{◌≡◌, sym, ap, ap₂, ◌∙◌}
use Rattle.embed.specs.Acknowledged.{list_left_by, removed_in, acknowledged_on}
use Rattle.embed.specs.Packed.{held_in, records_fit}
use Rattle.failures.proofs.Moves.{kept_is}
use Rattle.failures.specs.Lists.{may_remove, kept_of, moved_up, room_in}
use Rattle.frame.proofs.Picks.{pick_true, pick_false}

module _ (records state : List ℕ) (n : ℕ) where
  pub not_thirteen : (length state ≡ 13 → ⊥) → list_left_by 20 records state ≡ acknowledged_on records state n
  unfolding acknowledged_on
  not_thirteen h = simp (ne_eqb (length state) 13 h, pick_true)

  pub no_records : length state ≡ 13 → (length records % 3 ≡ 0 → ⊥) → list_left_by 23 records state ≡ acknowledged_on records state n
  unfolding acknowledged_on records_fit
  no_records t h = simp (eq-eqb (length state) 13 t, ne_eqb (length records % 3) 0 h, pick_true, pick_false)

  pub not_acknowledged : length state ≡ 13 → length records % 3 ≡ 0 → may_remove (room_in records) (held_in state) n ≡ false
      → list_left_by 15 records state ≡ acknowledged_on records state n
  unfolding acknowledged_on records_fit
  not_acknowledged t h may = simp (eq-eqb (length state) 13 t, eq-eqb (length records % 3) 0 h, may, pick_false)

  pub is_acknowledged : length state ≡ 13 → length records % 3 ≡ 0 → may_remove (room_in records) (held_in state) n ≡ true
      → (left : ℕ) (records' : List ℕ) → left ≡ kept_of (room_in records) (held_in state) n
      → records' ≡ moved_up records (3 * n) (3 * kept_of (room_in records) (held_in state) n)
      → list_left_by 16 records' (set state 12 left) ≡ acknowledged_on records state n
  unfolding acknowledged_on records_fit removed_in
  is_acknowledged t h may left records' is moved =
      let rest : kept_of (room_in records) (held_in state) n ≡ held_in state - n = kept_is (room_in records) (held_in state) n may in
      ap₂ (λ (l : List ℕ) (k : ℕ). list_left_by 16 l (set state 12 k)) (moved ∙ ap (λ (k : ℕ). moved_up records (3 * n) (3 * k)) rest) (is ∙ rest)
      ∙ sym (simp (eq-eqb (length state) 13 t, eq-eqb (length records % 3) 0 h, may, pick_true, pick_false))
