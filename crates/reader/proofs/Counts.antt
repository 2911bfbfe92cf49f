-- What one more answer, or one more drop, makes of a tally.
use Prim.Native.Nat.{ℕ, ◌+◌, ◌≤◌}
use lib.Dec.{eqb}
use mathlib.Core.Bool.{Bool, true, false, not}
use mathlib.Core.Path.{◌≡◌}
use native.Mathlib.Nat.{add-zero}
use native.Mathlib.Omega.{arith}
use Rattle.frame.proofs.Picks.{pick_true, pick_false}
use Rattle.frame.specs.Bytes.{pick}
use Rattle.frame.specs.Finding.{reason_number}
use Rattle.frame.specs.Frames.{sum}
use Rattle.frame.specs.declared.finding.Reason.{Reason}
use Rattle.frame.specs.declared.finding.Reason.TheVariants.{NoHeader, WrongType, TooLong, WrongCheck, WrongEnd}
use Rattle.reader.proofs.Tallies.{not_full, raised_below, raised_most}
use Rattle.reader.specs.Tallies.{tally_of, counts_of, full, with_good, with_error, with_dropped}
use Rattle.reader.specs.declared.tally.Tally.{Tally}

-- a drop raises the count of its reason, and no other
pub one_more : (t : Tally) → full t ≡ false → (r : Reason)
    → with_dropped r t
    ≡ record {
      good = t.good;
      error = t.error;
      header = t.header + pick (eqb (reason_number r) 1) 1 0;
      kind = t.kind + pick (eqb (reason_number r) 2) 1 0;
      long = t.long + pick (eqb (reason_number r) 3) 1 0;
      check = t.check + pick (eqb (reason_number r) 4) 1 0;
      end = t.end + pick (eqb (reason_number r) 5) 1 0;
    }
unfolding with_dropped reason_number
one_more t h NoHeader = simp (raised_below t.header (not_full t h 2 (omega arith)), pick_true, pick_false, add-zero)
one_more t h WrongType = simp (raised_below t.kind (not_full t h 3 (omega arith)), pick_true, pick_false, add-zero)
one_more t h TooLong = simp (raised_below t.long (not_full t h 4 (omega arith)), pick_true, pick_false, add-zero)
one_more t h WrongCheck = simp (raised_below t.check (not_full t h 5 (omega arith)), pick_true, pick_false, add-zero)
one_more t h WrongEnd = simp (raised_below t.end (not_full t h 6 (omega arith)), pick_true, pick_false, add-zero)

-- the choice of the count that an answer raises
pub raises : (t : Tally) (error : Bool) → full t ≡ false
    → pick error (with_error t) (with_good t)
    ≡ tally_of (t.good + pick (not error) 1 0) (t.error + pick error 1 0) (t.header + 0) (t.kind + 0) (t.long + 0) (t.check + 0) (t.end + 0)
unfolding pick
raises t true h =
    simp (raised_below t.error (not_full t h 1 (omega arith)), add-zero)
raises t false h =
    simp (raised_below t.good (not_full t h 0 (omega arith)), add-zero)

-- all counts together: an answer or a drop adds one at most
unfoldable pub total : Tally → ℕ
total t = sum (counts_of t)

pub one_answer_most : (t : Tally) (error : Bool) → total (pick error (with_error t) (with_good t)) ≤ total t + 1
unfolding total sum pick
one_answer_most t true = omega (arith, raised_most t.error)
one_answer_most t false = omega (arith, raised_most t.good)

pub dropped_most : (t : Tally) (r : Reason) → total (with_dropped r t) ≤ total t + 1
unfolding total with_dropped sum
dropped_most t NoHeader = omega (arith, raised_most t.header)
dropped_most t WrongType = omega (arith, raised_most t.kind)
dropped_most t TooLong = omega (arith, raised_most t.long)
dropped_most t WrongCheck = omega (arith, raised_most t.check)
dropped_most t WrongEnd = omega (arith, raised_most t.end)

-- every answer 0 or 3 lowers the work that is left
