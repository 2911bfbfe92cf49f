-- A piece that is written part by part: what holds of the buffer and the state at every part, and at the end.
use Prim.Native.Nat.{ℕ, ◌+◌, ◌-◌, ◌≤◌, ◌<◌}
use lib.ListN.{length, drop}
use lib.Seq.{sets-eq, length-sets}
use mathlib.Core.Bool.{Bool, true, false}
use mathlib.Core.List.{List, [], ◌++◌, append_assoc, append-nil}
use mathlib.Core.Path.{◌≡◌, refl, ap, sym, ◌∙◌}
use native.Mathlib.Nat.{zero-add, sub-zero}
use native.Mathlib.Omega.{arith}
use Rattle.frame.specs.Frames.{written}
use Rattle.frame.specs.Putting.{Put}
use Rattle.text.proofs.Puts.{put_join}
use Rattle.text.proofs.Told.{fill_over, fill_short, fill_more}
use Rattle.text.specs.Telling.{Teller, Piece, nothing, behind, fill, Wrote}

-- what was put at the start of the buffer is written there
pub put_first : (bytes before new : List ℕ) (used : ℕ) → Put bytes 0 before new used → length bytes ≤ length before
    → (used ≡ length bytes) × (new ≡ written bytes before)
unfolding written
put_first bytes before new used put room = (
  omega (arith, put.next_is),
  put.output_is ∙ sets-eq bytes before 0 (omega arith) ∙ ap (λ (n : ℕ). bytes ++ drop n before) (zero-add (length bytes)),
)

module _ {S : Type 0} (t : Teller S) (falls : (s : S) → t.last s ≡ false → t.work (t.next s) < t.work s) (most : ℕ) (before : List ℕ) (over₀ : Bool) (start : S) where
  -- some parts were put; what the rest of the buffer takes from here on is the rest of the piece
  pub record Going (buffer : List ℕ) (used : ℕ) (over : Bool) (s : S) : Type 0 where
    pub bytes : List ℕ
    pub put : Put bytes 0 before buffer used
    pub within : used ≤ length before
    pub same : length buffer ≡ length before
    pub piece : fill t most (length before) over₀ start ≡ behind bytes (fill t most (length before - used) over s)

  pub going : Going before 0 over₀ start
  going =
      record {
        bytes = [];
        put = record { output_is = refl; next_is = refl };
        within = omega arith;
        same = refl;
        piece = rw sub-zero;
      }

  pub further : (buffer after : List ℕ) (used next : ℕ) (s : S) → Going buffer used false s → used + most ≤ length buffer → next ≤ length buffer
      → Put (t.part s) used buffer after next → Going after next (t.last s) (t.next s)
  further buffer after used next s g room within put =
      let part : List ℕ = t.part s in
      let rest : length before - used - length part ≡ length before - next = omega (arith, put.next_is) in
      record {
        bytes = g.bytes ++ part;
        put = put_join g.bytes part 0 before buffer after used next g.put put;
        within = omega (arith, g.same);
        same = ap length put.output_is ∙ length-sets buffer used part ∙ g.same;
        piece =
            g.piece
            ∙ rw (fill_more t falls most (length before - used) s (omega (arith, g.same)), rest)
            (ap (λ (l : List ℕ). record { bytes = l; over = (fill t most (length before - next) (t.last s) (t.next s)).over; state = (fill t most (length before - next) (t.last s) (t.next s)).state })
            (sym (append_assoc g.bytes part _)));
      }

  -- the rest of the buffer takes no more
  full : (buffer : List ℕ) (used : ℕ) (over : Bool) (s : S) → Going buffer used over s → fill t most (length before - used) over s ≡ nothing over s
      → Wrote (fill t most (length before) over₀ start) before buffer used over s
  full buffer used over s g none =
      let piece : fill t most (length before) over₀ start ≡ record { bytes = g.bytes; over = over; state = s }
      = g.piece ∙ rw none (ap (λ (l : List ℕ). record { bytes = l; over = over; state = s }) (append-nil g.bytes)) in
      let first = put_first g.bytes before buffer used g.put (omega (arith, g.within, g.put.next_is)) in
      record {
        used_is = first.0 ∙ ap (λ (p : Piece S). length p.bytes) (sym piece);
        within = g.within;
        buffer_is = first.1 ∙ ap (λ (p : Piece S). written p.bytes before) (sym piece);
        over_is = ap (λ (p : Piece S). p.over) (sym piece);
        state_is = ap (λ (p : Piece S). p.state) (sym piece);
      }

  pub filled : (buffer : List ℕ) (used : ℕ) (over : Bool) (s : S) → Going buffer used over s → length buffer < used + most
      → Wrote (fill t most (length before) over₀ start) before buffer used over s
  filled buffer used over s g little =
      full buffer used over s g (fill_short t falls most (length before - used) over s (omega (arith, g.within, g.same)))

  pub ended : (buffer : List ℕ) (used : ℕ) (over : Bool) (s : S) → Going buffer used over s → over ≡ true
      → Wrote (fill t most (length before) over₀ start) before buffer used over s
  ended buffer used over s g last = full buffer used over s g (rw last (fill_over t falls most (length before - used) s))
