-- Document 01, "The commands": the answer frame of a verdict, and the image after it.
use Rattle.std.specs.Prelude.{ℕ, ◌+◌, ◌*◌, Bool, true, false, List, [], ◌∷◌, ◌++◌, Ok, Err, eqb}
use Rattle.std.proofs.lemmas.List.Edits.{sets}
use Rattle.frame.specs.Bytes.{pick, bytes_of, part}
use Rattle.frame.specs.Frames.{frame_of}
use Rattle.tag.specs.Commands.{bank_in, data_in}
use Rattle.image.specs.Image.{view, rssi, epc_length, pc_and_epc, with_crc}
use Rattle.tag.specs.Errors.{plain_byte, tag_byte, Verdict}
use Rattle.tag.specs.declared.commands.Act.TheVariants.{Notify, Give, Store, Set}
use Rattle.tag.specs.declared.errors.Refusal.TheVariants.{Plain, Tag}

-- "'Tail' below is: one byte 2 + 2L, the PC, the EPC, as they stood before the command."
unfoldable pub tail : List ℕ → List ℕ
tail image = (2 + 2 * epc_length (view image).pc) ∷ pc_and_epc image

-- "A plain error frame has code FF and one byte; a tag error frame has code FF, the byte and the tail." 0x22: "type 02, code 22:
-- RSSI, PC, EPC, CRC-16 of PC and EPC"; P4: "inventory sends the stored word". 0x39: "the tail, then the words". 0x49, 0x82, 0x65: "tail, 00". "Unless said
-- otherwise an answer has type 01 and the command's code." The image is that before the command.
unfoldable pub answer : List ℕ → Verdict → List ℕ
answer image (Err (Plain e)) = frame_of 0x01 0xFF (plain_byte e ∷ [])
answer image (Err (Tag e)) = frame_of 0x01 0xFF (tag_byte e ∷ tail image)
answer image (Ok Notify) = frame_of 0x02 0x22 (rssi image ∷ (pc_and_epc image ++ part image (view image).epc.offset 2))
answer image (Ok (Give at n)) = frame_of 0x01 0x39 (tail image ++ part image at n)
answer image (Ok (Store at)) = frame_of 0x01 0x49 (tail image ++ (0x00 ∷ []))
answer image (Ok (Set code at count value)) = frame_of 0x01 code (tail image ++ (0x00 ∷ []))

-- P4: "the named words, and EPC word 0 kept by this rule". For any number of words, as they stand in the image now; `at` is where EPC word 0 stands
unfoldable pub crc_kept : ℕ → ℕ → List ℕ → List ℕ
crc_kept bank at image = pick (eqb bank 1) (with_crc at image) image

-- the image after a verdict: "all words are written", "all pairs are stored", "state becomes 1"; `p` are the command's parameters
unfoldable pub changed : List ℕ → List ℕ → Verdict → List ℕ
changed image p (Err refusal) = image
changed image p (Ok Notify) = image
changed image p (Ok (Give at n)) = image
changed image p (Ok (Store at)) = crc_kept (bank_in p) (view image).epc.offset (sets image at (data_in p))
changed image p (Ok (Set code at count value)) = sets image at (bytes_of count value)

-- "An error answer is one with code FF."
unfoldable pub is_error : Verdict → Bool
is_error (Err refusal) = true
is_error (Ok act) = false
