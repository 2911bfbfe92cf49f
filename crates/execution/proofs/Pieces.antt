-- The parameters of each answer, put piece behind piece, and the frame closed round them.
use Prim.Native.Nat.{ℕ, ◌+◌, ◌-◌, ◌≤◌}
use lib.ListN.{length, set, length-append, length-set}
use lib.Seq.{sets}
use mathlib.Core.List.{List, [], ◌∷◌, ◌++◌}
use mathlib.Core.Path.{◌≡◌, refl, ap, ◌∙◌}
use native.Mathlib.Omega.{arith}
use Rattle.frame.proofs.Copies.{length_part_inside, copied_is}
use Rattle.frame.proofs.Stores.{length_put, sets_join, set_join}
use Rattle.frame.specs.Bytes.{byte, number, part}
use Rattle.frame.specs.Closing.{Closing}
use Rattle.frame.specs.Copying.{copied}
use Rattle.frame.specs.Frames.{frame_of}
use Rattle.frame.specs.Putting.{Put}
use Rattle.tag.specs.Answers.{tail, answer}
use Rattle.image.specs.Image.{view, bank_at, rssi, pc_and_epc}
use Rattle.tag.specs.declared.commands.Act.TheVariants.{Notify, Give}
use Rattle.tag.specs.declared.errors.PlainError.{PlainError}
use Rattle.tag.specs.declared.errors.Refusal.TheVariants.{Tag}
use Rattle.tag.specs.declared.errors.TagError.{TagError}
use Rattle.tag.specs.Errors.{plain_byte, tag_byte}
use Rattle.std.specs.Prelude.{Ok, Err}
use Rattle.execution.proofs.Rounds.{closed_round}
use Rattle.execution.specs.Execution.{FrameWritten}

module _ (output : List ℕ) (room : 136 ≤ length output) where
  pub plain_closed : (e : PlainError) (byte : ℕ) → byte ≡ plain_byte e → (after : List ℕ) (result : ℕ) → Closing 0x01 0xFF 1 (set output 5 byte) after result
      → FrameWritten (frame_of 0x01 0xFF (plain_byte e ∷ [])) output after result
  plain_closed e byte is after result =
      closed_round 0x01 0xFF (plain_byte e ∷ []) output (omega arith) room (set output 5 byte) (ap (set output 5) is) 1 refl after result

  module _ (image : List ℕ) where
    pub tag_error_closed : (e : TagError) (byte : ℕ) → byte ≡ tag_byte e
        → (stored : List ℕ) (next : ℕ) → Put (tail image) 6 (set output 5 byte) stored next → next ≤ 71
        → (after : List ℕ) (result : ℕ) → Closing 0x01 0xFF (next - 5) stored after result → FrameWritten (answer image (Err (Tag e))) output after result
    unfolding answer
    tag_error_closed e byte is stored next put short =
        closed_round 0x01 0xFF (tag_byte e ∷ tail image) output (omega (arith, put.next_is)) room stored
        (put.output_is ∙ ap (λ (b : ℕ). sets (set output 5 b) 6 (tail image)) is) (next - 5) (omega (arith, put.next_is))

    pub done_closed : (code : ℕ) (stored : List ℕ) (next : ℕ) → Put (tail image) 5 output stored next → next ≤ 70
        → (after : List ℕ) (result : ℕ) → Closing 0x01 code (next + 1 - 5) (set stored next 0) after result
        → FrameWritten (frame_of 0x01 code (tail image ++ (0x00 ∷ []))) output after result
    done_closed code stored next put short =
        let whole : length (tail image ++ (0x00 ∷ [])) ≡ length (tail image) + 1 = length-append (tail image) (0x00 ∷ []) in
        let joined : set stored next 0 ≡ sets output 5 (tail image ++ (0x00 ∷ [])) =
        rw (put.output_is, put.next_is) (set_join output 5 (tail image) 0)
        in
        closed_round 0x01 code (tail image ++ (0x00 ∷ [])) output (omega (arith, put.next_is)) room (set stored next 0) joined (next + 1 - 5)
        (omega (arith, put.next_is))

    module _ (at n : ℕ) (there : at + n ≤ length image) (some : n ≤ 64) where
      pub give_closed : (stored : List ℕ) (next : ℕ) → Put (tail image) 5 output stored next → next ≤ 70
          → (copies : List ℕ) → copies ≡ copied image at n stored next
          → (after : List ℕ) (result : ℕ) → Closing 0x01 0x39 (next + n - 5) copies after result → FrameWritten (answer image (Ok (Give at n))) output after result
      unfolding answer
      give_closed stored next put short copies c =
          let words : length (part image at n) ≡ n = length_part_inside image at n there in
          let whole : length (tail image ++ part image at n) ≡ length (tail image) + length (part image at n) =
          length-append (tail image) (part image at n)
          in
          let same : length stored ≡ length output = length_put (tail image) 5 output stored next put in
          let copied_all : copied image at n stored next ≡ sets stored next (part image at n) =
          copied_is image at n stored next there (omega arith)
          in
          let joined : sets stored next (part image at n) ≡ sets output 5 (tail image ++ part image at n) =
          rw (put.output_is, put.next_is) (sets_join output 5 (tail image) (part image at n))
          in
          closed_round 0x01 0x39 (tail image ++ part image at n) output (omega (arith, put.next_is)) room copies (c ∙ copied_all ∙ joined) (next + n - 5)
          (omega (arith, put.next_is))

    pub notify_closed : (strength : ℕ) → strength ≡ byte image 23 → (stored : List ℕ) (next : ℕ)
        → Put (pc_and_epc image) 6 (set output 5 strength) stored next → next ≤ 70
        → (word : ℕ) → word ≡ number image 10 → word + 2 ≤ length image
        → (copies : List ℕ) → copies ≡ copied image word 2 stored next
        → (after : List ℕ) (result : ℕ) → Closing 0x02 0x22 (next + 2 - 5) copies after result → FrameWritten (answer image (Ok Notify)) output after result
    unfolding answer rssi view bank_at
    notify_closed strength s stored next put short word place there copies c =
        let crc : List ℕ = part image (number image 10) 2 in
        let two : length crc ≡ 2 = length_part_inside image (number image 10) 2 (omega arith) in
        let piece : List ℕ = pc_and_epc image ++ crc in
        let whole : length piece ≡ length (pc_and_epc image) + 2 =
        length-append (pc_and_epc image) crc ∙ ap (λ (n : ℕ). length (pc_and_epc image) + n) two
        in
        let same : length stored ≡ length output =
        length_put (pc_and_epc image) 6 (set output 5 strength) stored next put ∙ length-set output 5 strength
        in
        let copied_all : copied image word 2 stored next ≡ sets stored next crc =
        copied_is image word 2 stored next there (omega arith) ∙ ap (λ (n : ℕ). sets stored next (part image n 2)) place
        in
        let joined : sets stored next crc ≡ sets output 5 (byte image 23 ∷ piece) =
        rw (put.output_is, put.next_is, s) (sets_join (set output 5 (byte image 23)) 6 (pc_and_epc image) crc)
        in
        closed_round 0x02 0x22 (byte image 23 ∷ piece) output (omega (arith, put.next_is)) room copies
        (c ∙ copied_all ∙ joined) (next + 2 - 5) (omega (arith, put.next_is))
