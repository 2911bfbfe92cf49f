-- The claims page of the image: document 01, "The image", once more and over raw bytes. It cites `good` alone, of which it is claimed. Proved in
-- proofs/Claimed.antt.
use Rattle.std.specs.Prelude.{ℕ, ◌+◌, ◌*◌, ◌/◌, ◌^◌, ◌≤◌, true, List, ◌≡◌, length}
use Rattle.crc.specs.Crc.{tag_crc}
use Rattle.frame.specs.Bytes.{byte, number, part}
use Rattle.image.specs.Image.{good}

-- The table of the header and the sentences under it: "all two-byte numbers high byte first".
pub record ImageRules (image : List ℕ) : Type 0 where
  -- "0-1 | format, must be 1"; "2-3 | total bytes, equal to the lent length, 24 to 2,048"
  pub format_must_be_1 : number image 0 ≡ 1
  pub total_is_the_lent_length : number image 2 ≡ length image
  pub total_from_24 : 24 ≤ number image 2
  pub total_to_2048 : number image 2 ≤ 2048
  -- words: Reserved "exactly 4", EPC "2 to 33", TID "1 to 32", User "0 to 512"
  pub reserved_exactly_4 : number image 4 ≡ 4
  pub epc_from_2 : 2 ≤ number image 8
  pub epc_to_33 : number image 8 ≤ 33
  pub tid_from_1 : 1 ≤ number image 12
  pub tid_to_32 : number image 12 ≤ 32
  pub user_to_512 : number image 16 ≤ 512
  -- "20-21 | lock bits; the upper six are 0"; "22 | 0 present, 1 killed, 2 out of the field"
  pub upper_six_are_0 : number image 20 / 2 ^ 10 ≡ 0
  pub state_to_2 : byte image 22 ≤ 2
  -- "The Reserved offset is at least 24; each later offset is at least the end of the bank before; the last end is at most the total."
  pub reserved_from_24 : 24 ≤ number image 6
  pub epc_behind_reserved : number image 6 + 2 * number image 4 ≤ number image 10
  pub tid_behind_epc : number image 10 + 2 * number image 8 ≤ number image 14
  pub user_behind_tid : number image 14 + 2 * number image 12 ≤ number image 18
  pub last_end_within : number image 18 + 2 * number image 16 ≤ number image 2
  -- "EPC word 1 is the PC; its top five bits L count the EPC words that follow it; L + 2 is at most the EPC word count."
  pub length_within : number image (number image 10 + 2) / 2 ^ 11 + 2 ≤ number image 8
  -- P4: "that word of a good image equals the CRC-16 of the stored PC and its L EPC words", "in EPC word 0"
  pub crc_in_word_0 : number image (number image 10) ≡ tag_crc (part image (number image 10 + 2) (2 + 2 * (number image (number image 10 + 2) / 2 ^ 11)))

-- "An image that breaks any of this is bad.", and no other is
abbrev pub GoodImages : Type 0
GoodImages = (image : List ℕ) → (good image ≡ true → ImageRules image) × (ImageRules image → good image ≡ true)
