-- Eight bits that stand in two bytes, cut out of them by a shift; and several bits compared at once.
use Prim.Native.Nat.{ℕ, zero, suc, ◌+◌, ◌-◌, ◌*◌, ◌/◌, ◌%◌, ◌^◌, ◌≤◌, ◌<◌}
use borrow.Author.Tests.{eqb-true, eqb-false, eq-eqb, ne_eqb, leb-true, leb-false}
use lib.Dec.{eqb, leb}
use lib.Pow.{shr-shr, high, low, field, mod-mod-pow}
use mathlib.Core.Bool.{Bool, true, false, ◌&&◌}
use mathlib.Core.List.{List}
use mathlib.Core.Path.{◌≡◌, refl, ap, ap₂, sym, ◌∙◌}
use native.Mathlib.Nat.{add-suc}
use native.Mathlib.Omega.{arith}
use Rattle.frame.proofs.Tests.{either}
use Rattle.frame.specs.Bytes.{byte}
use Rattle.population.specs.Below.{all_below}
use Rattle.population.specs.Matching.{bit_at, bits_from, same_bit, same_bits}

-- ---- a digit of a number

-- a digit is the same after those above it are cut off
digit : (n d k : ℕ) → n % 2 ^ (d + 1 + k) / 2 ^ k % 2 ≡ n / 2 ^ k % 2
digit n d k = ap (λ (x : ℕ). x % 2) (field n (d + 1) k) ∙ mod-mod-pow (n / 2 ^ k) d 1

digit_of_eight : (n k : ℕ) → k < 8 → n % 256 / 2 ^ k % 2 ≡ n / 2 ^ k % 2
digit_of_eight n k h =
    let whole : 8 ≡ 7 - k + 1 + k = omega arith in
    ap (λ (e : ℕ). n % 2 ^ e / 2 ^ k % 2) whole ∙ digit n (7 - k) k

-- ---- eight bits in two bytes, from bit m of the first on

abbrev pub eight_of : ℕ → ℕ → ℕ → ℕ
eight_of hi lo m = (hi * 256 + lo) / 2 ^ (8 - m) % 256

-- bit t of the eight is one of the first byte, or of the second
module _ (hi lo : ℕ) (small : lo < 256) (m t : ℕ) (first : m < 8) (inside : t < 8) where
  cut_out : eight_of hi lo m / 2 ^ (7 - t) % 2 ≡ (hi * 256 + lo) / 2 ^ (8 - m + (7 - t)) % 2
  cut_out =
      digit_of_eight ((hi * 256 + lo) / 2 ^ (8 - m)) (7 - t) (omega arith)
      ∙ ap (λ (x : ℕ). x % 2) (shr-shr (hi * 256 + lo) (8 - m) (7 - t))

  in_first : m + t < 8 → eight_of hi lo m / 2 ^ (7 - t) % 2 ≡ hi / 2 ^ (7 - (m + t)) % 2
  in_first h =
      let e : 8 - m + (7 - t) ≡ 8 + (7 - (m + t)) = omega arith in
      cut_out
      ∙ ap (λ (k : ℕ). (hi * 256 + lo) / 2 ^ k % 2) e
      ∙ ap (λ (x : ℕ). x % 2) (sym (shr-shr (hi * 256 + lo) 8 (7 - (m + t))))
      ∙ ap (λ (x : ℕ). x / 2 ^ (7 - (m + t)) % 2) (high hi 8 small)

  in_second : 8 ≤ m + t → eight_of hi lo m / 2 ^ (7 - t) % 2 ≡ lo / 2 ^ (7 - (m + t - 8)) % 2
  in_second h =
      let e : 8 - m + (7 - t) ≡ 7 - (m + t - 8) = omega arith in
      cut_out
      ∙ ap (λ (k : ℕ). (hi * 256 + lo) / 2 ^ k % 2) e
      ∙ sym (digit_of_eight (hi * 256 + lo) (7 - (m + t - 8)) (omega arith))
      ∙ ap (λ (x : ℕ). x / 2 ^ (7 - (m + t - 8)) % 2) (low hi 8 small)

module _ (bytes : List ℕ) (j hi lo : ℕ) (one : hi ≡ byte bytes (j / 8)) (next : lo ≡ byte bytes (j / 8 + 1)) (small : lo < 256) where
  bit_of_eight : (t : ℕ) → t < 8 → bit_at bytes (j + t) ≡ eight_of hi lo (j % 8) / 2 ^ (7 - t) % 2
  unfolding bit_at
  bit_of_eight t h =
      either (leb 8 (j % 8 + t))
      (λ e.
      let far : 8 ≤ j % 8 + t = leb-true _ _ e in
      let at : (j + t) / 8 ≡ j / 8 + 1 = omega arith in
      let digits : (j + t) % 8 ≡ j % 8 + t - 8 = omega arith in
      rw (at, digits, ← next) (sym (in_second hi lo small (j % 8) t (omega arith) h far)))
      (λ e.
      let near : j % 8 + t < 8 = leb-false _ _ e in
      let at : (j + t) / 8 ≡ j / 8 = omega arith in
      let digits : (j + t) % 8 ≡ j % 8 + t = omega arith in
      rw (at, digits, ← one) (sym (in_first hi lo small (j % 8) t (omega arith) h near)))

  -- the first n of the eight
  pub bits_are : (n : ℕ) → n ≤ 8 → eight_of hi lo (j % 8) / 2 ^ (8 - n) ≡ bits_from bytes j n
  unfolding bits_from
  bits_are zero h = omega arith
  bits_are (suc n) h =
      let eight : ℕ = eight_of hi lo (j % 8) in
      let one_less : 8 - suc n ≡ 7 - n = omega arith in
      let one_more : 8 - n ≡ 7 - n + 1 = omega arith in
      let half : bits_from bytes j n ≡ eight / 2 ^ (7 - n) / 2 =
      sym (bits_are n (omega arith)) ∙ ap (λ (k : ℕ). eight / 2 ^ k) one_more ∙ sym (shr-shr eight (7 - n) 1)
      in
      let last : bit_at bytes (j + n) ≡ eight / 2 ^ (7 - n) % 2 = bit_of_eight n (omega arith) in
      ap (λ (k : ℕ). eight / 2 ^ k) one_less ∙ omega arith

-- ---- several bits compared at once

digits_same : (x y a b : ℕ) → a < 2 → b < 2 → eqb (2 * x + a) (2 * y + b) ≡ (eqb a b && eqb x y)
digits_same x y a b h k =
    either (eqb a b)
    (λ e. either (eqb x y)
    (λ f.
    let c : a ≡ b = eqb-true a b e in
    let d : x ≡ y = eqb-true x y f in
    simp (e, f, eq-eqb (2 * x + a) (2 * y + b) (omega arith)))
    (λ f. let d : x ≡ y → ⊥ = eqb-false x y f in simp (e, f, ne_eqb (2 * x + a) (2 * y + b) (λ z. d (omega arith)))))
    (λ e. let c : a ≡ b → ⊥ = eqb-false a b e in simp (e, ne_eqb (2 * x + a) (2 * y + b) (λ z. c (omega arith))))

bit_small : (bytes : List ℕ) (j : ℕ) → bit_at bytes j < 2
unfolding bit_at
bit_small bytes j = omega arith

and_assoc : (a b c : Bool) → (a && (b && c)) ≡ ((a && b) && c)
and_assoc true b c = refl
and_assoc false b c = refl

module _ (image : List ℕ) (at : ℕ) (s : List ℕ) (m : ℕ) where
  one_more : (n : ℕ) → same_bit image at s (m + n) ≡ eqb (bit_at image (at + m + n)) (bit_at s (56 + m + n))
  unfolding same_bit
  one_more n =
      let first : at + (m + n) ≡ at + m + n = omega arith in
      let second : 56 + (m + n) ≡ 56 + m + n = omega arith in
      rw (first, second)

  -- n bits more
  at_once : (n : ℕ)
      → all_below (same_bit image at s) (m + n) ≡ (eqb (bits_from image (at + m) n) (bits_from s (56 + m) n) && all_below (same_bit image at s) m)
  unfolding all_below bits_from
  at_once zero = let none : m + zero ≡ m = omega arith in ap (all_below (same_bit image at s)) none
  at_once (suc n) =
      let x : ℕ = bits_from image (at + m) n in
      let y : ℕ = bits_from s (56 + m) n in
      let a : ℕ = bit_at image (at + m + n) in
      let b : ℕ = bit_at s (56 + m + n) in
      ap (all_below (same_bit image at s)) (add-suc m n)
      ∙ ap₂ (λ (p q : Bool). p && q) (one_more n) (at_once n)
      ∙ and_assoc (eqb a b) (eqb x y) (all_below (same_bit image at s) m)
      ∙ ap (λ (p : Bool). p && all_below (same_bit image at s) m) (sym (digits_same x y a b (bit_small image _) (bit_small s _)))

  pub more_same : (n a b : ℕ) → a ≡ bits_from image (at + m) n → b ≡ bits_from s (56 + m) n → a ≡ b
      → all_below (same_bit image at s) (m + n) ≡ all_below (same_bit image at s) m
  more_same n a b first second e = at_once n ∙ simp (← first, ← second, eq-eqb a b e)

  pub more_differ : (n a b : ℕ) → a ≡ bits_from image (at + m) n → b ≡ bits_from s (56 + m) n → (a ≡ b → ⊥)
      → all_below (same_bit image at s) (m + n) ≡ false
  more_differ n a b first second e = at_once n ∙ simp (← first, ← second, ne_eqb a b e)

-- a byte more, as a loop that counts whole bytes down comes upon it
module _ (image : List ℕ) (at : ℕ) (s : List ℕ) (k : ℕ) (some : 0 < k) (a b : ℕ)
    (first : a ≡ bits_from image (at + 8 * (k - 1)) 8) (second : b ≡ bits_from s (56 + 8 * (k - 1)) 8) where
  eight_more : 8 * k ≡ 8 * (k - 1) + 8
  eight_more = omega arith

  pub byte_same : a ≡ b → all_below (same_bit image at s) (8 * k) ≡ all_below (same_bit image at s) (8 * (k - 1))
  byte_same e = ap (all_below (same_bit image at s)) eight_more ∙ more_same image at s (8 * (k - 1)) 8 a b first second e

  pub byte_differs : (a ≡ b → ⊥) → all_below (same_bit image at s) (8 * k) ≡ false
  byte_differs e = ap (all_below (same_bit image at s)) eight_more ∙ more_differ image at s (8 * (k - 1)) 8 a b first second e

-- all n bits: the last ones, then the whole bytes before them
module _ (image : List ℕ) (at : ℕ) (s : List ℕ) (n a b : ℕ)
    (first : a ≡ bits_from image (at + 8 * (n / 8)) (n % 8)) (second : b ≡ bits_from s (56 + 8 * (n / 8)) (n % 8)) where
  all_bits : n ≡ 8 * (n / 8) + n % 8
  all_bits = omega arith

  pub rest_differs : (a ≡ b → ⊥) → false ≡ same_bits image at s n
  unfolding same_bits
  rest_differs e = sym (ap (all_below (same_bit image at s)) all_bits ∙ more_differ image at s (8 * (n / 8)) (n % 8) a b first second e)

  pub rest_same : a ≡ b → (r : Bool) → r ≡ same_bits image at s (8 * (n / 8)) → r ≡ same_bits image at s n
  unfolding same_bits
  rest_same e r h = h ∙ sym (ap (all_below (same_bit image at s)) all_bits ∙ more_same image at s (8 * (n / 8)) (n % 8) a b first second e)
