-- P5: Set Select is "laid out as source document 001 gives it: SelParam (top bits first: target 000, action 000, or 100 to turn the match round, bank),
-- bit pointer, mask length in bits, truncate 0, the mask in whole bytes". A selection is the bytes of these parameters: SelParam is byte 0, the
-- pointer bytes 1 to 4, the length byte 5, truncate byte 6, and the mask begins with byte 7.
use Rattle.std.specs.Prelude.{ℕ, ◌+◌, ◌/◌, ◌%◌, Bool, true, ◌||◌, List, [], ◌∷◌, eqb, leb, length}
use Rattle.frame.specs.Bytes.{pick, all, byte, double}

unfoldable pub target_of : List ℕ → ℕ
target_of s = byte s 0 / 32

unfoldable pub action_of : List ℕ → ℕ
action_of s = byte s 0 / 4 % 8

unfoldable pub mask_bank : List ℕ → ℕ
mask_bank s = byte s 0 % 4

unfoldable pub mask_pointer : List ℕ → ℕ
mask_pointer s = double s 1

unfoldable pub mask_bits : List ℕ → ℕ
mask_bits s = byte s 5

unfoldable pub truncate_of : List ℕ → ℕ
truncate_of s = byte s 6

-- "the mask in whole bytes, spare last bits not looked at"
unfoldable pub mask_bytes : List ℕ → ℕ
mask_bytes s = (mask_bits s + 7) / 8

-- "action 000, or 100 to turn the match round"
abbrev pub known_action : ℕ → Bool
known_action action = eqb action 0 || eqb action 4

-- "anything else, or the Reserved bank, is plain 17": bank 0 is Reserved, and a byte more or less is anything else
unfoldable pub taken : List ℕ → Bool
taken s =
    all
    (eqb (target_of s) 0
    ∷ known_action (action_of s)
    ∷ leb 1 (mask_bank s)
    ∷ eqb (truncate_of s) 0
    ∷ eqb (length s) (7 + mask_bytes s)
    ∷ [])

-- "a selection that is neither empty nor one that Set Select takes" is bad
unfoldable pub good_selection : List ℕ → Bool
good_selection s = pick (eqb (length s) 0) true (taken s)
