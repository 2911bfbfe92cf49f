-- Document 01, "The image".
use Rattle.std.specs.Prelude.{ℕ, ◌+◌, ◌*◌, ◌/◌, Bool, ◌&&◌, List, [], ◌∷◌, eqb, leb, ltb, length}
use Rattle.std.proofs.lemmas.List.Edits.{sets}
use Rattle.crc.specs.Crc.{tag_crc}
use Rattle.frame.specs.Bytes.{pick, all, byte, number, double, part, two_bytes}
use Rattle.image.specs.declared.header.Bank.{Bank}
use Rattle.image.specs.declared.header.View.{View}

-- The table of the header. Format 0-1; total bytes 2-3; words and offset of Reserved 4-7, EPC 8-11, TID 12-15, User 16-19;
-- lock bits 20-21; state 22. EPC word 1 is the PC.
unfoldable pub bank_at : List ℕ → ℕ → Bank
bank_at image i = record { words = number image i; offset = number image (i + 2) }

unfoldable pub view : List ℕ → View
view image =
    record {
      size = length image;
      format = number image 0;
      total = number image 2;
      reserved = bank_at image 4;
      epc = bank_at image 8;
      tid = bank_at image 12;
      user = bank_at image 16;
      locks = number image 20;
      state = byte image 22;
      pc = number image (number image 10 + 2);
    }

-- Byte 23: "RSSI, signed, dBm".
unfoldable pub rssi : List ℕ → ℕ
rssi image = byte image 23

-- "Bank numbers: 0 Reserved, 1 EPC, 2 TID, 3 User."
unfoldable pub bank_of : View → ℕ → Bank
bank_of v bank = pick (eqb bank 0) v.reserved (pick (eqb bank 1) v.epc (pick (eqb bank 2) v.tid v.user))

-- "A word is two bytes": where word `pointer` of a bank starts, and where the bank ends
unfoldable pub word_at : Bank → ℕ → ℕ
word_at b pointer = b.offset + 2 * pointer

unfoldable pub end_of : Bank → ℕ
end_of b = word_at b b.words

-- "EPC word 1 is the PC; its top five bits L count the EPC words that follow it"
unfoldable pub epc_length : ℕ → ℕ
epc_length pc = pc / 2048

-- the PC and the EPC: EPC word 1 and the L words that follow it
unfoldable pub pc_and_epc : List ℕ → List ℕ
pc_and_epc image = part image (word_at (view image).epc 1) (2 + 2 * epc_length (view image).pc)

-- P4: "the CRC-16 of the stored PC and its L EPC words"
unfoldable pub crc_word : List ℕ → ℕ
crc_word image = tag_crc (pc_and_epc image)

-- the image with its CRC word stored at a place
unfoldable pub with_crc : ℕ → List ℕ → List ℕ
with_crc at image = sets image at (two_bytes (crc_word image))

-- "Reserved words 0-1 are the kill password, 2-3 the access password."
unfoldable pub kill_password : List ℕ → ℕ
kill_password image = double image (view image).reserved.offset

unfoldable pub access_password : List ℕ → ℕ
access_password image = double image ((view image).reserved.offset + 4)

-- "format, must be 1"; "total bytes, equal to the lent length, 24 to 2,048"
unfoldable pub good_header : View → Bool
good_header v = all (leb 24 v.size ∷ eqb v.format 1 ∷ eqb v.total v.size ∷ leb v.size 2048 ∷ [])

-- Reserved "words (exactly 4)", EPC "words (2 to 33)", TID "words (1 to 32)", User "words (0 to 512)"; "The Reserved offset
-- is at least 24; each later offset is at least the end of the bank before; the last end is at most the total."
unfoldable pub good_banks : View → Bool
good_banks v =
    all
    (eqb v.reserved.words 4
    ∷ leb 2 v.epc.words
    ∷ leb v.epc.words 33
    ∷ leb 1 v.tid.words
    ∷ leb v.tid.words 32
    ∷ leb v.user.words 512
    ∷ leb 24 v.reserved.offset
    ∷ leb (end_of v.reserved) v.epc.offset
    ∷ leb (end_of v.epc) v.tid.offset
    ∷ leb (end_of v.tid) v.user.offset
    ∷ leb (end_of v.user) v.total
    ∷ [])

-- "lock bits; the upper six are 0"; "0 present, 1 killed, 2 out of the field"; "L + 2 is at most the EPC word count"
unfoldable pub good_tag : View → Bool
good_tag v = all (ltb v.locks 1024 ∷ leb v.state 2 ∷ leb (epc_length v.pc + 2) v.epc.words ∷ [])

-- P4: "A Gen2 tag holds its CRC-16 in EPC word 0 ..; that word of a good image equals the CRC-16"
unfoldable pub good_crc : List ℕ → Bool
good_crc image = eqb (number image (view image).epc.offset) (crc_word image)

-- "An image that breaks any of this is bad."
unfoldable pub good : List ℕ → Bool
good image = good_header (view image) && (good_banks (view image) && (good_tag (view image) && good_crc image))
