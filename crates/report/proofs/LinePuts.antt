-- The line of a frame, byte by byte, and how long the lines are.
use Prim.Native.Nat.{ℕ, ◌+◌, ◌*◌, ◌≤◌, ◌<◌}
use lib.ListN.{length, drop, get_or, drop_of_length-le}
use lib.Seq.{drop-cons}
use mathlib.Core.List.{List, [], ◌∷◌, ◌++◌, append_assoc, append-nil}
use mathlib.Core.Path.{◌≡◌, refl, ap, sym, subst, ◌∙◌}
use native.Mathlib.Numerals.{add-one}
use native.Mathlib.Omega.{arith}
use Rattle.report.specs.Lines.{separator, frame_line}
use Rattle.text.proofs.Writing.{hex_put, put_behind, same_piece, more_room}
use Rattle.text.specs.Digits.{hex_byte}
use Rattle.text.specs.Writing.{Lays, Puts}
use Rattle.text.specs.declared.writer.Writer.{Writer}

pub separator_within : (frame : List ℕ) (next : ℕ) → next < length frame → 32 ≡ separator (drop next frame)
unfolding separator
separator_within frame next h = rw (drop-cons frame next 0 h)

pub separator_last : (frame : List ℕ) (next : ℕ) → length frame ≤ next → 10 ≡ separator (drop next frame)
unfolding separator
separator_last frame next h = rw (drop_of_length-le frame h)

frame_line_more : (b : ℕ) (bytes : List ℕ) → frame_line (b ∷ bytes) ≡ (hex_byte b ++ (separator bytes ∷ [])) ++ frame_line bytes
unfolding frame_line
frame_line_more b bytes = refl

frame_line_none : frame_line [] ≡ []
unfolding frame_line
frame_line_none = refl

-- the bytes before i are put, and with the line of those that are still to come they are the whole line
pub record SoFar (frame : List ℕ) (i : ℕ) (before after : Writer) : Type 0 where
  pub piece : List ℕ
  pub puts : Puts (3 * i) piece before after
  pub rest : piece ++ frame_line (drop i frame) ≡ frame_line frame

pub one_more : (frame : List ℕ) (i mark : ℕ) {before w1 w2 after : Writer} → i < length frame → mark ≡ separator (drop (i + 1) frame)
    → SoFar frame i before w1 → Lays (hex_byte (get_or frame i 0)) w1 w2 → Puts 1 (mark ∷ []) w2 after → SoFar frame (i + 1) before after
one_more frame i mark h e so_far hex behind =
    let b : ℕ = get_or frame i 0 in
    let split : drop i frame ≡ b ∷ drop (i + 1) frame = rw add-one (drop-cons frame i 0 h) in
    let line : frame_line (drop i frame) ≡ (hex_byte b ++ (mark ∷ [])) ++ frame_line (drop (i + 1) frame) =
    ap frame_line split
    ∙ frame_line_more b (drop (i + 1) frame)
    ∙ ap (λ (v : ℕ). (hex_byte b ++ (v ∷ [])) ++ frame_line (drop (i + 1) frame)) (sym e)
    in
    record {
      piece = so_far.piece ++ (hex_byte b ++ (mark ∷ []));
      puts = more_room (3 * (i + 1)) (omega arith) (put_behind so_far.puts (put_behind (hex_put b hex) behind));
      rest =
          append_assoc so_far.piece (hex_byte b ++ (mark ∷ [])) (frame_line (drop (i + 1) frame))
          ∙ ap (λ (l : List ℕ). so_far.piece ++ l) (sym line)
          ∙ so_far.rest;
    }

pub whole_frame : (frame : List ℕ) {i : ℕ} {before after : Writer} → i ≡ length frame → SoFar frame i before after
    → Puts (3 * length frame) (frame_line frame) before after
whole_frame frame {i = i} e so_far =
    let none : frame_line (drop i frame) ≡ [] = ap frame_line (drop_of_length-le frame (omega arith)) ∙ frame_line_none in
    more_room (3 * length frame) (omega arith)
    (same_piece (sym (append-nil so_far.piece) ∙ ap (λ (l : List ℕ). so_far.piece ++ l) (sym none) ∙ so_far.rest) so_far.puts)

-- of the writer that a branch left
pub put_same : {most : ℕ} {piece : List ℕ} {before left after : Writer} → after ≡ left → Puts most piece before left → Puts most piece before after
put_same {most = most} {piece = piece} {before = before} e = subst (λ (w : Writer). Puts most piece before w) (sym e)
