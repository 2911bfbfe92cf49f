-- Laws of a piece: which steps it has, and what it leaves.
use Prim.Native.Nat.{ℕ, zero, suc, ◌+◌, ◌-◌, ◌≤◌, ◌<◌}
use borrow.Author.Tests.{ltb-true, ltb-false, lt-ltb, le-ltb}
use lib.Dec.{eqb, ltb, eqb-zero-suc, eqb-suc-suc}
use lib.ListN.{length, replicate}
use mathlib.Core.Bool.{Bool, true, false}
use mathlib.Core.List.{List, [], ◌∷◌, ◌++◌, append_assoc}
use mathlib.Core.Path.{◌≡◌, refl, ap, sym, ◌∙◌}
use native.Mathlib.Nat.{zero-add, suc-add}
use native.Mathlib.Omega.{arith}
use Rattle.machine.specs.Machine.{State, Call, call, Step, step, after}
use Rattle.frame.proofs.Picks.{pick_true, pick_false}
use Rattle.frame.proofs.Tests.{either}
use Rattle.report.proofs.Reports.{none_left, one_left, report_more}
use Rattle.report.specs.Claims.{NoPiece}
use Rattle.report.specs.Lines.{line_of, ends}
use Rattle.report.specs.Pieces.{fitting, piece_of, left_by, over_by}
use Rattle.report.specs.Report.{steps_from, lines_of, report_from, last_state}

-- a report is over exactly where no step is left
pub over_is : (input : List ℕ) (over : Bool) (s : State) → over ≡ eqb 0 (length (steps_from input over s))
over_is input true s = rw (none_left input s)
over_is input false s =
    let x : Step = step (call input) s in
    rw (one_left input s) (sym (eqb-zero-suc (length (steps_from input (ends x.outcome) x.next))))

-- some calls, and then some more
pub after_more : (c : Call) (m k : ℕ) (s : State) → after (replicate k c) (after (replicate m c) s) ≡ after (replicate (m + k) c) s
unfolding after
after_more c zero k s = ap (λ (n : ℕ). after (replicate n c) s) (sym (zero-add k))
after_more c (suc m) k s = after_more c m k (step c s).next ∙ ap (λ (n : ℕ). after (replicate n c) s) (sym (suc-add m k))

module _ (input : List ℕ) where
  fit_none : (room : ℕ) (s : State) (all : List Step) → room < 408 → fitting input room s all ≡ []
  unfolding fitting
  fit_none room s [] h = refl
  fit_none room s (x ∷ all) h = simp (lt-ltb room 408 h, pick_true)

  pub no_room : (room : ℕ) (over : Bool) (s : State) → room < 408 → piece_of input room over s ≡ []
  unfolding piece_of
  no_room room over s h = fit_none room s (steps_from input over s) h

  pub piece_over : (room : ℕ) (s : State) → piece_of input room true s ≡ []
  unfolding piece_of fitting
  piece_over room s = ap (λ (all : List Step). fitting input room s all) (none_left input s)

  pub piece_more : (room : ℕ) (s : State) → 408 ≤ room
      → piece_of input room false s
      ≡ step (call input) s
      ∷ piece_of input (room - length (line_of input s (step (call input) s))) (ends (step (call input) s).outcome) (step (call input) s).next
  unfolding piece_of fitting
  piece_more room s h =
      ap (λ (all : List Step). fitting input room s all) (one_left input s) ∙ simp (le-ltb room 408 h, pick_false)

  -- ---- a piece and what it leaves

  pub record Splits (room : ℕ) (over : Bool) (s : State) : Type 0 where
    pub bytes : lines_of input s (piece_of input room over s) ++ report_from input (over_by input room over s) (left_by input room over s)
        ≡ report_from input over s
    pub steps : length (piece_of input room over s) + length (steps_from input (over_by input room over s) (left_by input room over s))
        ≡ length (steps_from input over s)

  -- where the piece has no steps, nothing changes
  pub no_piece : (room : ℕ) (over : Bool) (s : State) → piece_of input room over s ≡ [] → NoPiece input room over s
  unfolding lines_of left_by over_by after
  no_piece room over s none =
      record { no_line = rw none; state_stays = rw none; over_stays = rw none (sym (over_is input over s)) }

  nothing : (room : ℕ) (over : Bool) (s : State) → piece_of input room over s ≡ [] → Splits room over s
  nothing room over s none =
      let n = no_piece room over s none in
      record {
        bytes = rw (n.no_line, n.state_stays, n.over_stays);
        steps = rw (n.state_stays, n.over_stays, none) (zero-add _);
      }

  over_more : (room : ℕ) (s : State) → 408 ≤ room
      → over_by input room false s
      ≡ over_by input (room - length (line_of input s (step (call input) s))) (ends (step (call input) s).outcome) (step (call input) s).next
  unfolding over_by
  over_more room s h = simp (piece_more room s h, one_left input s, eqb-suc-suc)

  left_more : (room : ℕ) (s : State) → 408 ≤ room
      → left_by input room false s
      ≡ left_by input (room - length (line_of input s (step (call input) s))) (ends (step (call input) s).outcome) (step (call input) s).next
  unfolding left_by after
  left_more room s h = rw (piece_more room s h)

  -- what holds behind the piece is that behind the piece from the next state on
  more : (room : ℕ) (s : State) → 408 ≤ room
      → Splits (room - length (line_of input s (step (call input) s))) (ends (step (call input) s).outcome) (step (call input) s).next
      → Splits room false s
  unfolding lines_of
  more room s h rest =
      let x : Step = step (call input) s in
      let line : List ℕ = line_of input s x in
      record {
        bytes =
            rw (over_more room s h, left_more room s h, piece_more room s h)
            (append_assoc line _ _ ∙ ap (λ (l : List ℕ). line ++ l) rest.bytes ∙ sym (report_more input s));
        steps = rw (over_more room s h, left_more room s h, piece_more room s h, one_left input s) (omega (arith, rest.steps));
      }

  by_first : (room : ℕ) (over : Bool) (s : State)
      → (over ≡ false → Splits (room - length (line_of input s (step (call input) s))) (ends (step (call input) s).outcome) (step (call input) s).next)
      → Splits room over s
  by_first room true s rest = nothing room true s (piece_over room s)
  by_first room false s rest =
      either (ltb room 408) (λ short. nothing room false s (no_room room false s (ltb-true room 408 short)))
      (λ enough. more room s (ltb-false room 408 enough) (rest refl))

  splits_by : (n room : ℕ) (over : Bool) (s : State) → length (steps_from input over s) ≤ n → Splits room over s
  splits_by zero room over s h = by_first room over s (λ on. absurd (omega (arith, simp (on, one_left input s) at h)))
  splits_by (suc n) room over s h =
      by_first room over s (λ on. splits_by n _ _ _ (omega (arith, simp (on, one_left input s) at h)))

  pub splits : (room : ℕ) (over : Bool) (s : State) → Splits room over s
  splits room over s = splits_by (length (steps_from input over s)) room over s (omega arith)

  -- the last state of what is left is that of the whole
  pub same_last : (room : ℕ) (over : Bool) (s : State) → last_state input (over_by input room over s) (left_by input room over s) ≡ last_state input over s
  unfolding last_state left_by
  same_last room over s =
      after_more (call input) (length (piece_of input room over s)) _ s ∙ ap (λ (n : ℕ). after (replicate n (call input)) s) (splits room over s).steps

  -- a piece that has room has a step, unless the report is over
  pub some : (room : ℕ) (s : State) → 408 ≤ room → 0 < length (piece_of input room false s)
  some room s h = rw (piece_more room s h) (omega arith)
