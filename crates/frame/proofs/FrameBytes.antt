-- Laws of a written frame: its length, its code, and what it leaves of the output.
use Rattle.std.proofs.Common.{◌≡◌, ℕ, ◌+◌, ◌≤◌, List, ◌∷◌, length, take, drop, refl, arith, length-append, length-drop, length-take}
use lib.Seq.{take-append_seam, drop-append_seam}
use Rattle.frame.specs.Bytes.{byte, bytes_of, part}
use Rattle.frame.specs.Frames.{checked, frame_of, written}

pub length_frame : (type code : ℕ) (p : List ℕ) → length (frame_of type code p) ≡ 7 + length p
unfolding frame_of checked bytes_of
length_frame type code p = simp length-append (omega arith)

pub code_frame : (type code : ℕ) (p output : List ℕ) → byte (written (frame_of type code p) output) 2 ≡ code
unfolding byte written frame_of checked
code_frame type code p output = refl

pub first_frame : (type code b : ℕ) (p output : List ℕ) → byte (written (frame_of type code (b ∷ p)) output) 5 ≡ b
unfolding byte written frame_of checked bytes_of
first_frame type code b p output = refl

pub length_part : (bytes : List ℕ) (i n : ℕ) → length (part bytes i n) ≤ n
unfolding part
length_part bytes i n = omega (arith, length-take n (drop i bytes))

pub length_written : (frame output : List ℕ) → length frame ≤ length output → length (written frame output) ≡ length output
unfolding written
length_written frame output h = omega (arith, length-append frame (drop (length frame) output), length-drop (length frame) output)

pub take_written : (frame output : List ℕ) → take (length frame) (written frame output) ≡ frame
unfolding written
take_written frame output = take-append_seam frame (drop (length frame) output)

pub drop_written : (frame output : List ℕ) → drop (length frame) (written frame output) ≡ drop (length frame) output
unfolding written
drop_written frame output = drop-append_seam frame (drop (length frame) output)
