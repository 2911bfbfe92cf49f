-- Pieces one behind the other are the report, and the claims on the report in pieces.
use Prim.Native.Nat.{ℕ, zero, suc, ◌+◌, ◌*◌, ◌/◌, ◌≤◌}
use borrow.Author.Tests.{eq-eqb}
use lib.ListN.{length, replicate}
use mathlib.Core.Bool.{Bool, true, false}
use mathlib.Core.List.{List, [], ◌∷◌, ◌++◌, append_assoc, append-nil}
use mathlib.Core.Path.{◌≡◌, refl, ap, sym, ◌∙◌}
use native.Mathlib.Nat.{sub-zero}
use native.Mathlib.Omega.{arith}
use Rattle.machine.specs.Machine.{State, call, Step, step, bytes_left, tags_left, work, after}
use Rattle.frame.proofs.Picks.{by_test, pick_false}
use Rattle.frame.proofs.Tests.{either}
use Rattle.report.proofs.Fitting.{over_is, no_room, piece_over, no_piece, splits, same_last, some}
use Rattle.report.proofs.Reports.{none_left, report_over}
use Rattle.report.proofs.Whole.{report_is, none_waits}
use Rattle.report.specs.Claims.{PieceByPiece, ShortBuffer, NothingLeft, PiecesAreTheReport, EnoughPieces}
use Rattle.report.specs.Lines.{ends}
use Rattle.report.specs.Pieces.{piece_of, left_by, over_by, pieces}
use Rattle.report.specs.Report.{steps_by, steps, steps_from, lines_of, report_from, last_state, fresh}

module _ (input : List ℕ) where
  all_bytes : (rooms : List ℕ) (over : Bool) (s : State)
      → (pieces input rooms over s).bytes ++ report_from input (pieces input rooms over s).over (pieces input rooms over s).state ≡ report_from input over s
  unfolding pieces
  all_bytes [] over s = refl
  all_bytes (room ∷ rooms) over s =
      let lines : List ℕ = lines_of input s (piece_of input room over s) in
      append_assoc lines _ _
      ∙ ap (λ (l : List ℕ). lines ++ l) (all_bytes rooms (over_by input room over s) (left_by input room over s))
      ∙ (splits input room over s).bytes

  all_steps : (rooms : List ℕ) (over : Bool) (s : State)
      → last_state input (pieces input rooms over s).over (pieces input rooms over s).state ≡ last_state input over s
  unfolding pieces
  all_steps [] over s = refl
  all_steps (room ∷ rooms) over s = all_steps rooms (over_by input room over s) (left_by input room over s) ∙ same_last input room over s

  last_is : (s : State) → last_state input true s ≡ s
  unfolding last_state after
  last_is s = rw (none_left input s)

  enough_by : (n room : ℕ) (over : Bool) (s : State) → 408 ≤ room → length (steps_from input over s) ≤ n → (pieces input (replicate n room) over s).over ≡ true
  unfolding pieces
  enough_by zero room over s h few = over_is input over s ∙ eq-eqb 0 (length (steps_from input over s)) (omega arith)
  enough_by (suc n) room over s h few =
      enough_by n room (over_by input room over s) (left_by input room over s) h
      (either over
      (λ ended. omega (arith, (splits input room over s).steps, ap length (none_left input s), ap (λ (b : Bool). length (steps_from input b s)) ended))
      (λ on. omega (arith, (splits input room over s).steps, rw (← on) at (some input room s h))))

steps_few : (most : ℕ) (input : List ℕ) (s : State) → length (steps_by most input s) ≤ most
unfolding steps_by
steps_few zero input s = omega arith
steps_few (suc most) input s =
    by_test (λ (rest : List Step). suc (length rest) ≤ suc most) (ends (step (call input) s).outcome) (λ h. omega arith)
    (λ h. omega (arith, steps_few most input (step (call input) s).next))

-- ---- the claims

pub piece_by_piece : PieceByPiece
piece_by_piece input room over s = (splits input room over s).bytes

pub short_buffer : ShortBuffer
short_buffer input room over s h = no_piece input room over s (no_room input room over s h)

pub nothing_left : NothingLeft
nothing_left input room s = no_piece input room true s (piece_over input room s)

pub pieces_are_the_report : PiecesAreTheReport
pieces_are_the_report commands memory sizes rooms short ended =
    let s : State = fresh memory sizes in
    let p = pieces commands rooms false s in (
      sym (append-nil p.bytes)
          ∙ ap (λ (l : List ℕ). p.bytes ++ l) (sym (report_over commands p.state))
          ∙ ap (λ (b : Bool). p.bytes ++ report_from commands b p.state) (sym ended)
          ∙ all_bytes commands rooms false s
          ∙ sym (report_is commands memory sizes short),
      sym (last_is commands p.state) ∙ ap (λ (b : Bool). last_state commands b p.state) (sym ended) ∙ all_steps commands rooms false s,
    )

pub work_at_start : (commands memory sizes : List ℕ) → work commands (fresh memory sizes) ≡ length commands + 15 * (length commands / 7)
unfolding fresh work bytes_left tags_left
work_at_start commands memory sizes = rw (none_waits memory sizes, sub-zero) (omega arith)

pub enough_pieces : EnoughPieces
unfolding steps_from steps
enough_pieces commands memory sizes room h =
    enough_by commands (suc (length commands + 15 * (length commands / 7))) room false (fresh memory sizes) h
    (rw (pick_false)
    (omega (arith, steps_few (suc (work commands (fresh memory sizes))) commands (fresh memory sizes), work_at_start commands memory sizes)))
