-- P5: "An empty mask matches every tag; one that runs past the end of the bank does not; the turn comes last."
use Rattle.std.specs.Prelude.{ℕ, zero, suc, ◌+◌, ◌-◌, ◌*◌, ◌/◌, ◌%◌, ◌^◌, Bool, true, false, not, List, eqb, ltb, length}
use Rattle.frame.specs.Bytes.{pick, byte}
use Rattle.image.specs.Image.{view, bank_of}
use Rattle.image.specs.declared.header.Bank.{Bank}
use Rattle.population.specs.Below.{all_below}
use Rattle.population.specs.Selections.{action_of, mask_bank, mask_pointer, mask_bits}

-- bit j of the bytes, the highest bit of a byte first
unfoldable pub bit_at : List ℕ → ℕ → ℕ
bit_at bytes j = byte bytes (j / 8) / 2 ^ (7 - j % 8) % 2

-- the n bits from bit j on, as a number
unfoldable pub bits_from : List ℕ → ℕ → ℕ → ℕ
bits_from bytes j zero = 0
bits_from bytes j (suc n) = 2 * bits_from bytes j n + bit_at bytes (j + n)

-- bit k of the mask, which begins with byte 7, against bit `at` + k of the image
unfoldable pub same_bit : List ℕ → ℕ → List ℕ → ℕ → Bool
same_bit image at s k = eqb (bit_at image (at + k)) (bit_at s (56 + k))

unfoldable pub same_bits : List ℕ → ℕ → List ℕ → ℕ → Bool
same_bits image at s n = all_below (same_bit image at s) n

-- a bank ends with its last word, whatever L counts
unfoldable pub mask_found : List ℕ → List ℕ → Bool
mask_found image s =
    let bank : Bank = bank_of (view image) (mask_bank s) in
    pick (eqb (mask_bits s) 0) true
    (pick (ltb (16 * bank.words) (mask_pointer s + mask_bits s)) false
    (same_bits image (8 * bank.offset + mask_pointer s) s (mask_bits s)))

-- the empty selection has no mask at all; "action 000, or 100 to turn the match round"
unfoldable pub matches : List ℕ → List ℕ → Bool
matches image s = pick (eqb (length s) 0) true (pick (eqb (action_of s) 4) (not (mask_found image s)) (mask_found image s))
