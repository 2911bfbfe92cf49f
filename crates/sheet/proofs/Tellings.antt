-- The sheet in pieces: the laws of a text that is told part by part, for the parts of the sheet.
use Prim.Native.Nat.{ℕ, ◌+◌, ◌≤◌, ◌<◌}
use lib.ListN.{length}
use mathlib.Core.Bool.{Bool, false}
use mathlib.Core.List.{List}
use mathlib.Core.Path.{◌≡◌, sym, subst}
use native.Mathlib.Omega.{arith}
use Rattle.report.proofs.Reports.{less_left}
use Rattle.sheet.specs.Sheet.{Standing, teller}
use Rattle.sheet.specs.Writing.{longest_part, OnePart}
use Rattle.text.proofs.Told.{left_falls}
use Rattle.text.proofs.Written.{Going, further}
use Rattle.text.specs.Telling.{Piece, Wrote, left}
use Rattle.text.specs.declared.writer.Writer.{Writer}

-- every call after which the sheet goes on lowers the work that is left
pub falls : (input : List ℕ) (s : Standing) → (teller input).last s ≡ false → (teller input).work ((teller input).next s) < (teller input).work s
unfolding teller
falls input s more = less_left input s.bench more

abbrev pub GoingOn : List ℕ → List ℕ → Bool → Standing → List ℕ → ℕ → Bool → Standing → Type 0
GoingOn input before over₀ start buffer used over s = Going (teller input) (falls input) longest_part before over₀ start buffer used over s

module _ (input : List ℕ) where
  pub goes : (before : List ℕ) (over₀ : Bool) (start : Standing) {w after : Writer} (s next : Standing) (over last : Bool)
      → GoingOn input before over₀ start w.buffer.now w.at over s → over ≡ false → w.at + longest_part ≤ length w.buffer.now
      → OnePart input s w after next last → GoingOn input before over₀ start after.buffer.now after.at last next
  goes before over₀ start {w = w} {after = after} s next over last g not-over room one =
      rw (one.next_is, one.over_is)
      (further (teller input) (falls input) longest_part before over₀ start w.buffer.now after.buffer.now w.at after.at s (rw not-over at g) room
      (omega (arith, one.most)) one.put)

  -- each part leaves less to write
  pub less : {w after : Writer} (s next : Standing) (over last : Bool) → over ≡ false → OnePart input s w after next last
      → left (teller input) last next < left (teller input) over s
  less s next over last not-over one = rw (one.next_is, one.over_is, not-over) (left_falls (teller input) (falls input) s)

  -- what the writer leaves is what the buffer holds
  pub held : {piece : Piece Standing} {before written after : List ℕ} {used : ℕ} {over : Bool} {s : Standing} → after ≡ written
      → Wrote piece before written used over s → Wrote piece before after used over s
  held {piece = piece} {before = before} {used = used} {over = over} {s = s} same wrote =
      subst (λ (l : List ℕ). Wrote piece before l used over s) (sym same) wrote
