-- A frame closed round parameters that stand where they go is the frame written over the output as it was.
use Prim.Native.Nat.{ℕ, ◌+◌, ◌≤◌}
use lib.ListN.{length}
use lib.Seq.{sets, length-sets}
use mathlib.Core.List.{List, ◌++◌}
use mathlib.Core.Path.{◌≡◌, ap, ◌∙◌}
use native.Mathlib.Omega.{arith}
use Rattle.frame.proofs.Closings.{closed_is, closed_length_is}
use Rattle.frame.proofs.FrameBytes.{length_frame}
use Rattle.frame.proofs.Stores.{drop_sets_behind, part_sets}
use Rattle.frame.specs.Bytes.{part}
use Rattle.frame.specs.Closing.{Closing}
use Rattle.frame.specs.Frames.{frame_of, written}
use Rattle.execution.specs.Execution.{FrameWritten}

module _ (frame output piece : List ℕ) where
  written_over : 5 + length piece ≤ length frame → written frame (sets output 5 piece) ≡ written frame output
  unfolding written
  written_over inside = ap (λ (l : List ℕ). frame ++ l) (drop_sets_behind (length frame) output 5 piece inside)

-- the parameters stand from byte 5 on, and the frame is closed round them
module _ (type code : ℕ) (piece output : List ℕ) (short : length piece ≤ 129) (room : 136 ≤ length output) where
  pub closed_round : (stored : List ℕ) → stored ≡ sets output 5 piece → (pl : ℕ) → pl ≡ length piece
      → (after : List ℕ) (result : ℕ) → Closing type code pl stored after result → FrameWritten (frame_of type code piece) output after result
  closed_round stored s pl n after result closing =
      let fits : 7 + pl ≤ length stored = omega (arith, ap length s, length-sets output 5 piece) in
      let few : pl ≤ 129 = omega arith in
      let parameters : part stored 5 pl ≡ piece = rw (s, n) (part_sets output 5 piece (omega arith)) in
      record {
        output_is =
            closing.output_is
            ∙ closed_is type code pl stored few fits
            ∙ ap (λ (l : List ℕ). written (frame_of type code l) stored) parameters
            ∙ ap (λ (l : List ℕ). written (frame_of type code piece) l) s
            ∙ written_over (frame_of type code piece) output piece (omega (arith, length_frame type code piece));
        length_is = closing.length_is ∙ closed_length_is type code pl stored few fits ∙ omega (arith, length_frame type code piece);
      }
