-- The steps of a CRC go through exclusive or: what a register becomes is the sum of what its parts become. One law over the polynomial and
-- the direction, in registers of sixteen bits; the tables rest on it and on nothing else.
use Prim.Native.Nat.{ℕ, zero, suc, ◌+◌, ◌*◌, ◌/◌, ◌%◌, ◌≤◌, ◌<◌}
use borrow.Author.Tests.{leb-true, leb-false, eq-eqb, ne_eqb}
use lib.Bits.{bit_xor, xor_shr, xor_mod, xor_block, xor_lt}
use lib.Dec.{eqb, leb}
use mathlib.Core.Bool.{Bool, true, false}
use mathlib.Core.Path.{◌≡◌, refl, sym, ap, ap₂, ◌∙◌}
use native.Mathlib.Omega.{arith}
use Rattle.crc.proofs.Xors.{xor_both, xor_first, xor_assoc}
use Rattle.crc.specs.Crc.{leaving, shifted, added, bit_step, bit_steps}
use Rattle.crc.specs.declared.Direction.{Direction}
use Rattle.crc.specs.declared.Direction.TheVariants.{HighFirst, LowFirst}

-- the digit that leaves, as a number
abbrev digit_of : Direction → ℕ → ℕ
digit_of HighFirst register = register / 0x8000
digit_of LowFirst register = register % 2

digit_small : (direction : Direction) (register : ℕ) → register < 0x10000 → digit_of direction register < 2
digit_small HighFirst register h = omega arith
digit_small LowFirst register h = omega arith

-- the test of a bit is a test of that digit
high_digit : (register : ℕ) → register < 0x10000 → (t : Bool) → leb 0x8000 register ≡ t → t ≡ eqb (register / 0x8000) 1
high_digit register h true e =
    let low : 0x8000 ≤ register = leb-true 0x8000 register e in
    sym (eq-eqb (register / 0x8000) 1 (omega arith))
high_digit register h false e =
    let high : register < 0x8000 = leb-false 0x8000 register e in
    sym (ne_eqb (register / 0x8000) 1 (λ (q : register / 0x8000 ≡ 1). omega arith))

leaving_digit : (direction : Direction) (register : ℕ) → register < 0x10000 → leaving direction register ≡ eqb (digit_of direction register) 1
unfolding leaving
leaving_digit HighFirst register h = high_digit register h (leb 0x8000 register) refl
leaving_digit LowFirst register h = refl

-- two such digits, added
abbrev either : Bool → Bool → Bool
either true true = false
either true false = true
either false t = t

either_digits : (m n : ℕ) → m < 2 → n < 2 → eqb (bit_xor m n) 1 ≡ either (eqb m 1) (eqb n 1)
either_digits zero n h k = refl
either_digits (suc zero) zero h k = refl
either_digits (suc zero) (suc zero) h k = refl
either_digits (suc zero) (suc (suc n)) h k = absurd (omega arith)
either_digits (suc (suc m)) n h k = absurd (omega arith)

digit_xor : (direction : Direction) (a b : ℕ) → digit_of direction (bit_xor a b) ≡ bit_xor (digit_of direction a) (digit_of direction b)
digit_xor HighFirst a b = xor_shr a b 15
digit_xor LowFirst a b = xor_mod a b 1

double_xor : (a b : ℕ) → bit_xor (a * 2) (b * 2) ≡ bit_xor a b * 2
double_xor a b =
    let shifted-a : a * 2 + 0 ≡ a * 2 = omega arith in
    let shifted-b : b * 2 + 0 ≡ b * 2 = omega arith in
    ap₂ bit_xor (sym shifted-a) (sym shifted-b) ∙ (xor_block 1 a b 0 0 (omega arith) (omega arith) ∙ omega arith)

shifted_xor : (direction : Direction) (a b : ℕ) → shifted direction (bit_xor a b) ≡ bit_xor (shifted direction a) (shifted direction b)
unfolding shifted
shifted_xor HighFirst a b = ap (λ (x : ℕ). x % 0x10000) (sym (double_xor a b)) ∙ xor_mod (a * 2) (b * 2) 16
shifted_xor LowFirst a b = xor_shr a b 1

added_xor : (s t : Bool) (a b polynomial : ℕ)
    → added (either s t) (bit_xor a b) polynomial ≡ bit_xor (added s a polynomial) (added t b polynomial)
unfolding added
added_xor true true a b polynomial = sym (xor_both a b polynomial)
added_xor true false a b polynomial = xor_first a b polynomial
added_xor false true a b polynomial = xor_assoc a b polynomial
added_xor false false a b polynomial = refl

-- a register of sixteen bits stays one
pub shifted_small : (direction : Direction) (register : ℕ) → register < 0x10000 → shifted direction register < 0x10000
unfolding shifted
shifted_small HighFirst register h = omega arith
shifted_small LowFirst register h = omega arith

module _ (direction : Direction) (polynomial : ℕ) (small : polynomial < 0x10000) where
  added_small : (t : Bool) (a : ℕ) → a < 0x10000 → added t a polynomial < 0x10000
  unfolding added
  added_small true a h = xor_lt 16 a polynomial h small
  added_small false a h = h

  pub step_small : (a : ℕ) → a < 0x10000 → bit_step direction polynomial a < 0x10000
  unfolding bit_step
  step_small a h = added_small (leaving direction a) (shifted direction a) (shifted_small direction a h)

  pub steps_small : (n a : ℕ) → a < 0x10000 → bit_steps direction polynomial n a < 0x10000
  unfolding bit_steps
  steps_small zero a h = h
  steps_small (suc n) a h = steps_small n (bit_step direction polynomial a) (step_small a h)

  leaving_xor : (a b : ℕ) → a < 0x10000 → b < 0x10000
      → leaving direction (bit_xor a b) ≡ either (leaving direction a) (leaving direction b)
  leaving_xor a b h k =
      leaving_digit direction (bit_xor a b) (xor_lt 16 a b h k)
      ∙ (ap (λ (n : ℕ). eqb n 1) (digit_xor direction a b)
      ∙ (either_digits (digit_of direction a) (digit_of direction b) (digit_small direction a h) (digit_small direction b k)
      ∙ ap₂ either (sym (leaving_digit direction a h)) (sym (leaving_digit direction b k))))

  pub step_xor : (a b : ℕ) → a < 0x10000 → b < 0x10000
      → bit_step direction polynomial (bit_xor a b) ≡ bit_xor (bit_step direction polynomial a) (bit_step direction polynomial b)
  unfolding bit_step
  step_xor a b h k =
      ap₂ (λ (t : Bool) (x : ℕ). added t x polynomial) (leaving_xor a b h k) (shifted_xor direction a b)
      ∙ added_xor (leaving direction a) (leaving direction b) (shifted direction a) (shifted direction b) polynomial

  pub steps_xor : (n a b : ℕ) → a < 0x10000 → b < 0x10000
      → bit_steps direction polynomial n (bit_xor a b) ≡ bit_xor (bit_steps direction polynomial n a) (bit_steps direction polynomial n b)
  unfolding bit_steps
  steps_xor zero a b h k = refl
  steps_xor (suc n) a b h k =
      ap (bit_steps direction polynomial n) (step_xor a b h k)
      ∙ steps_xor n (bit_step direction polynomial a) (bit_step direction polynomial b) (step_small a h) (step_small b k)
