-- Laws of the decimal digits: how many there are, by tenths, and that a number of 64 bits has at most twenty.
use Prim.Native.Nat.{ℕ, zero, suc, ◌+◌, ◌-◌, ◌*◌, ◌/◌, ◌%◌, ◌^◌, max, ◌≤◌, ◌<◌}
use borrow.Author.Tests.{lt-ltb, le-ltb, ltb-true, ltb-false}
use lib.Dec.{ltb}
use lib.ListN.{length, set, length-append}
use lib.Seq.{sets}
use mathlib.Core.List.{List, [], ◌∷◌, ◌++◌}
use mathlib.Core.Path.{◌≡◌, refl, ap, sym, ◌∙◌}
use native.Mathlib.Omega.{arith}
use Rattle.frame.proofs.Stores.{set_join}
use Rattle.frame.proofs.Picks.{by_test, pick_true, pick_false}
use Rattle.frame.proofs.Tests.{either}
use Rattle.frame.specs.Bytes.{pick}
use Rattle.text.proofs.Puts.{set_before}
use Rattle.text.specs.Claims.{HexDigits, OneDigit, MoreDigits}
use Rattle.text.specs.Digits.{hex_digit, width_by, width, digits, decimal}

-- more tenths than needed change nothing
enough : (f g n : ℕ) → n ≤ f → n ≤ g → width_by f n ≡ width_by g n
unfolding width_by
enough zero zero n h k = refl
enough zero (suc g) n h k = simp (lt-ltb n 10 (omega arith), pick_true)
enough (suc f) zero n h k = simp (lt-ltb n 10 (omega arith), pick_true)
enough (suc f) (suc g) n h k =
    by_test (λ (w : ℕ). w ≡ pick (ltb n 10) 1 (1 + width_by g (n / 10))) (ltb n 10) (λ t. simp (t, pick_true))
    (λ t. let ten : 10 ≤ n = ltb-false n 10 t in simp (t, pick_false) (ap (λ (w : ℕ). 1 + w) (enough f g (n / 10) (omega arith) (omega arith))))

unfolded : (n : ℕ) → width_by (suc n) n ≡ pick (ltb n 10) 1 (1 + width_by n (n / 10))
unfolding width_by
unfolded n = refl

width_step : (n : ℕ) → width n ≡ pick (ltb n 10) 1 (1 + width (n / 10))
unfolding width
width_step n =
    enough n (suc n) n (omega arith) (omega arith)
    ∙ unfolded n
    ∙ ap (λ (w : ℕ). pick (ltb n 10) 1 (1 + w)) (enough n (n / 10) (n / 10) (omega arith) (omega arith))

pub width_one : (n : ℕ) → n < 10 → width n ≡ 1
width_one n h = width_step n ∙ simp (lt-ltb n 10 h, pick_true)

pub width_more : (n : ℕ) → 10 ≤ n → width n ≡ 1 + width (n / 10)
width_more n h = width_step n ∙ simp (le-ltb n 10 h, pick_false)

width_most : (k n : ℕ) → n < 10 ^ suc k → width n ≤ suc k
width_most zero n h = omega (arith, width_one n (omega arith))
width_most (suc k) n h =
    either (ltb n 10) (λ t. omega (arith, width_one n (ltb-true n 10 t)))
    (λ t. omega (arith, width_more n (ltb-false n 10 t), width_most k (n / 10) (omega arith)))

-- a number from one power of ten up to the next
pub width_between : (k n : ℕ) → 10 ^ k ≤ n → n < 10 * 10 ^ k → width n ≡ k + 1
width_between zero n least most = width_one n (omega arith)
width_between (suc k) n least most =
    omega (arith, width_more n (omega arith), width_between k (n / 10) (omega arith) (omega arith))

-- 0 has the one digit that 1 has
pub width_positive : (k n m : ℕ) → m ≡ max n 1 → 10 ^ k ≤ m → m < 10 * 10 ^ k → k + 1 ≡ width n
width_positive k zero m e least most = omega (arith, width_one 0 (omega arith), width_between k m least most, width_one m (omega arith))
width_positive k (suc n) m e least most =
    let same : m ≡ suc n = omega arith in
    sym (width_between k (suc n) (rw same at least) (rw same at most))

pub width_64 : (n : ℕ) → n < 18446744073709551616 → width n ≤ 20
width_64 n h = width_most 19 n (omega arith)

pub length_digits : (w n : ℕ) → length (digits w n) ≡ w
unfolding digits
length_digits zero n = refl
length_digits (suc w) n = length-append (digits w (n / 10)) _ ∙ omega (arith, length_digits w (n / 10))

digits_last : (w n : ℕ) → digits (suc w) n ≡ digits w (n / 10) ++ ((48 + n % 10) ∷ [])
unfolding digits
digits_last w n = refl

-- the last digit is stored, and those before it are still to come
last_put : (buffer : List ℕ) (at j left : ℕ) → sets (set buffer (at + j) (48 + left % 10)) at (digits j (left / 10)) ≡ sets buffer at (digits (suc j) left)
last_put buffer at j left =
    let few : length (digits j (left / 10)) ≡ j = length_digits j (left / 10) in
    set_before buffer at (digits j (left / 10)) (at + j) (48 + left % 10) (omega arith)
    ∙ ap (λ (n : ℕ). set (sets buffer at (digits j (left / 10))) (at + n) (48 + left % 10)) (sym few)
    ∙ set_join buffer at (digits j (left / 10)) (48 + left % 10)
    ∙ ap (λ (vs : List ℕ). sets buffer at vs) (sym (digits_last j left))

pub digit_put : (buffer : List ℕ) (at i left : ℕ) → 0 < i
    → sets (set buffer (at + (i - 1)) (48 + left % 10)) at (digits (i - 1) (left / 10)) ≡ sets buffer at (digits i left)
digit_put buffer at i left h =
    last_put buffer at (i - 1) left ∙ ap (λ (w : ℕ). sets buffer at (digits w left)) (omega arith)

-- no digit is left
pub digits_none : (left : ℕ) → digits 0 left ≡ []
unfolding digits
digits_none left = refl

pub length_decimal : (n w : ℕ) → w ≡ width n → length (decimal n) ≡ w
unfolding decimal
length_decimal n w e = length_digits (width n) n ∙ sym e

pub all_digits : (before : List ℕ) (at n w : ℕ) → w ≡ width n → sets before at (digits w n) ≡ sets before at (decimal n)
unfolding decimal
all_digits before at n w e = ap (λ (k : ℕ). sets before at (digits k n)) e

-- a number of 64 bits has room in twenty
pub decimal_64 : (n : ℕ) → n < 18446744073709551616 → length (decimal n) ≤ 20
decimal_64 n h = omega (arith, length_decimal n (width n) refl, width_64 n h)

-- ---- the digits of a number, by its tenths

pub one_digit : OneDigit
unfolding decimal digits
one_digit n h = rw (width_one n h) (ap (λ (d : ℕ). (48 + d) ∷ []) (omega arith))

pub more_digits : MoreDigits
unfolding decimal
more_digits n h = ap (λ (w : ℕ). digits w n) (width_more n h ∙ omega arith) ∙ digits_last (width (n / 10)) n

pub hex_digits : HexDigits
unfolding hex_digit pick
hex_digits = refl
