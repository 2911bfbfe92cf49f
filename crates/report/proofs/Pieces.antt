-- The report in pieces: what holds of the buffer and the state at every line.
use Prim.Native.Nat.{ℕ, zero, suc, ◌+◌, ◌-◌, ◌≤◌, ◌<◌}
use borrow.Author.Tests.{eqb-true, eqb-false, eq-eqb, ne_eqb}
use lib.Dec.{eqb}
use lib.ListN.{length, replicate}
use lib.Seq.{length-sets}
use mathlib.Core.Bool.{Bool, true, false}
use mathlib.Core.List.{List, [], ◌++◌, append_assoc, append-nil}
use mathlib.Core.Path.{◌≡◌, refl, ap, sym, ◌∙◌}
use native.Mathlib.Nat.{zero-add, sub-zero}
use native.Mathlib.Omega.{arith}
use Rattle.machine.specs.Machine.{State, Call, call, Step, step, work, after}
use Rattle.frame.specs.Putting.{Put}
use Rattle.frame.proofs.Picks.{pick_true, pick_false}
use Rattle.frame.proofs.Tests.{either}
use Rattle.frame.specs.Bytes.{pick}
use Rattle.report.proofs.Fitting.{over_is, no_room, piece_over, piece_more}
use Rattle.report.proofs.Reports.{less_left, one_left}
use Rattle.report.specs.Lines.{line_of, ends}
use Rattle.report.specs.Pieces.{piece_of, left_by, over_by}
use Rattle.report.specs.Report.{steps_from, lines_of}
use Rattle.report.specs.Writing.{OneLine, Wrote}
use Rattle.text.proofs.Puts.{put_join}
use Rattle.text.proofs.Written.{put_first}
use Rattle.text.specs.declared.writer.Writer.{Writer}

-- one call more
one_more : (c : Call) (k : ℕ) (s : State) → (step c (after (replicate k c) s)).next ≡ after (replicate (suc k) c) s
unfolding after
one_more c zero s = refl
one_more c (suc k) s = one_more c k (step c s).next

module _ (input before : List ℕ) (start : State) (over₀ : Bool) where
  -- some calls were made and their lines put; what the rest of the buffer takes from here on is the rest of the piece
  pub record Going (buffer : List ℕ) (used : ℕ) (s : State) (over : Bool) : Type 0 where
    pub bytes : List ℕ
    pub calls : ℕ
    pub put : Put bytes 0 before buffer used
    pub within : used ≤ length before
    pub same : length buffer ≡ length before
    pub made : s ≡ after (replicate calls (call input)) start
    pub lines : lines_of input start (piece_of input (length before) over₀ start) ≡ bytes ++ lines_of input s (piece_of input (length before - used) over s)
    pub piece : length (piece_of input (length before) over₀ start) ≡ calls + length (piece_of input (length before - used) over s)
    pub left : length (steps_from input over₀ start) ≡ calls + length (steps_from input over s)

  pub going : Going before 0 start over₀
  unfolding after
  going =
      record {
        bytes = [];
        calls = 0;
        put = record { output_is = refl; next_is = refl };
        within = omega arith;
        same = refl;
        made = refl;
        lines = rw sub-zero;
        piece = rw (sub-zero, zero-add);
        left = omega arith;
      }

  -- one call more, and its line
  further : (buffer after : List ℕ) (used next : ℕ) (s : State) → Going buffer used s false → used + 408 ≤ length before → next ≤ length before
      → Put (line_of input s (step (call input) s)) used buffer after next
      → Going after next (step (call input) s).next (ends (step (call input) s).outcome)
  unfolding lines_of
  further buffer after used next s g room within put =
      let x : Step = step (call input) s in
      let line : List ℕ = line_of input s x in
      let behind : length before - used - length line ≡ length before - next = omega (arith, put.next_is) in
      let piece = piece_more input (length before - used) s (omega arith) in
      record {
        bytes = g.bytes ++ line;
        calls = suc g.calls;
        put = put_join g.bytes line 0 before buffer after used next g.put put;
        within = within;
        same = ap length put.output_is ∙ length-sets buffer used line ∙ g.same;
        made = ap (λ (t : State). (step (call input) t).next) g.made ∙ one_more (call input) g.calls start;
        lines = g.lines ∙ rw (piece, behind) (sym (append_assoc g.bytes line _));
        piece = g.piece ∙ rw (piece, behind) (omega arith);
        left = g.left ∙ rw (one_left input s) (omega arith);
      }

  pub goes : {w after : Writer} (s next : State) (over last : Bool) → Going w.buffer.now w.at s over → over ≡ false → w.at + 408 ≤ length w.buffer.now
      → OneLine input s w after next last → Going after.buffer.now after.at next last
  goes {w = w} {after = after} s next over last g not-over room one =
      let put = one.line.put room in
      rw (one.next_is, one.over_is)
      (further w.buffer.now after.buffer.now w.at after.at s (rw not-over at g) (omega (arith, g.same))
      (omega (arith, g.same, put.next_is, one.line.short)) put)

-- each line leaves less to write
pub falls : (input : List ℕ) {w after : Writer} (s next : State) (over last : Bool) → over ≡ false → OneLine input s w after next last
    → pick last 0 (suc (work input next)) < pick over 0 (suc (work input s))
falls input s next over last not-over one =
    either last (λ ended. simp (ended, not-over, pick_true, pick_false) (omega arith))
    (λ more.
    let less = less_left input s (sym one.over_is ∙ more) in
    simp (one.next_is, more, not-over, pick_false) (omega arith))

-- ---- what a call of `write` comes to

eqb_more : (k n : ℕ) → eqb 0 n ≡ eqb k (k + n)
eqb_more k n =
    either (eqb 0 n) (λ none. none ∙ sym (eq-eqb k (k + n) (omega (arith, eqb-true 0 n none))))
    (λ some. some ∙ sym (ne_eqb k (k + n) (λ e. eqb-false 0 n some (omega arith))))

module _ (input before : List ℕ) (start : State) (over₀ : Bool) where
  -- the rest of the buffer takes no more; what the writer leaves is what the buffer holds
  full : (buffer held : List ℕ) (used : ℕ) (s : State) (last : Bool) → 408 ≤ length before → held ≡ buffer
      → Going input before start over₀ buffer used s last
      → piece_of input (length before - used) last s ≡ [] → Wrote input before held start over₀ s last used
  unfolding lines_of left_by over_by
  full buffer held used s last long is g none =
      let bytes : lines_of input start (piece_of input (length before) over₀ start) ≡ g.bytes
      = g.lines ∙ rw none (append-nil g.bytes) in
      let calls : length (piece_of input (length before) over₀ start) ≡ g.calls = g.piece ∙ rw none (omega arith) in
      let first = put_first g.bytes before buffer used g.put (omega (arith, g.within, g.put.next_is)) in
      record {
        long = long;
        used_is = rw bytes first.0;
        within = g.within;
        buffer_is = is ∙ rw bytes first.1;
        next_is = g.made ∙ ap (λ (k : ℕ). after (replicate k (call input)) start) (sym calls);
        over_is =
            over_is input last s ∙ eqb_more g.calls (length (steps_from input last s)) ∙ rw (calls, g.left);
      }

  pub filled : (buffer held : List ℕ) (used : ℕ) (s : State) (last : Bool) → 408 ≤ length before → held ≡ buffer
      → Going input before start over₀ buffer used s last → length buffer < used + 408
      → Wrote input before held start over₀ s last used
  filled buffer held used s last long is g little =
      full buffer held used s last long is g (no_room input (length before - used) last s (omega (arith, g.within, g.same)))

  pub ended : (buffer held : List ℕ) (used : ℕ) (s : State) (last : Bool) → 408 ≤ length before → held ≡ buffer
      → Going input before start over₀ buffer used s last → last ≡ true
      → Wrote input before held start over₀ s last used
  ended buffer held used s last long is g over = full buffer held used s last long is g (rw over (piece_over input (length before - used) s))
