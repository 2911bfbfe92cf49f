-- Exclusive or is associative, and what follows: the laws that the kit's library of bits leaves out.
use Prim.Native.Nat.{ℕ, zero, suc, ◌+◌, ◌*◌, ◌/◌, ◌%◌, ◌<◌}
use lib.Arith.{bin_ind}
use lib.Bits.{bit_xor, differ, xor_step, xor_comm, xor_self, xor_zero_r, xor_shr, xor_mod}
use mathlib.Core.Path.{◌≡◌, refl, sym, ap, ap₂, ◌∙◌}
use native.Mathlib.Omega.{arith}

data Digit (n : ℕ) : Type 0 where
  nought : n ≡ 0 → Digit n
  one : n ≡ 1 → Digit n

digit : (n : ℕ) → n < 2 → Digit n
digit zero h = nought refl
digit (suc zero) h = one refl
digit (suc (suc n)) h = absurd (omega arith)

xor_digits : (x y : ℕ) → Digit x → Digit y → bit_xor x y ≡ differ x y
xor_digits x y (nought p) q = rw p
xor_digits x y (one p) (nought q) = rw (p, q)
xor_digits x y (one p) (one q) = rw (p, q)

differ_assoc : (x y z : ℕ) → Digit x → Digit y → Digit z → differ (differ x y) z ≡ differ x (differ y z)
differ_assoc x y z (nought p) q r = rw p
differ_assoc x y z (one p) (nought q) r = rw (p, q)
differ_assoc x y z (one p) (one q) (nought r) = rw (p, q, r)
differ_assoc x y z (one p) (one q) (one r) = rw (p, q, r)

half : (a b : ℕ) → bit_xor a b / 2 ≡ bit_xor (a / 2) (b / 2)
half a b = xor_shr a b 1

last : (n : ℕ) → Digit (n % 2)
last n = digit (n % 2) (omega arith)

odd : (a b : ℕ) → bit_xor a b % 2 ≡ differ (a % 2) (b % 2)
odd a b = xor_mod a b 1 ∙ xor_digits _ _ (last a) (last b)

pub xor_assoc : (a b c : ℕ) → bit_xor (bit_xor a b) c ≡ bit_xor a (bit_xor b c)
xor_assoc a =
    bin_ind (λ (n : ℕ). (b c : ℕ) → bit_xor (bit_xor n b) c ≡ bit_xor n (bit_xor b c)) (λ b c. refl)
    (λ n before b c.
    xor_step (bit_xor n b) c
    ∙ ap₂ (λ (x y : ℕ). bit_xor x (c / 2) * 2 + differ y (c % 2)) (half n b) (odd n b)
    ∙ ap₂ (λ (x y : ℕ). x * 2 + y) (before (b / 2) (c / 2)) (differ_assoc _ _ _ (last n) (last b) (last c))
    ∙ ap₂ (λ (x y : ℕ). bit_xor (n / 2) x * 2 + differ (n % 2) y) (sym (half b c)) (sym (odd b c))
    ∙ sym (xor_step n (bit_xor b c)))
    a

-- of two pairs, the second of the first and the first of the second change places
pub xor_exchange : (a b c d : ℕ) → bit_xor (bit_xor a b) (bit_xor c d) ≡ bit_xor (bit_xor a c) (bit_xor b d)
xor_exchange a b c d =
    xor_assoc a b (bit_xor c d)
    ∙ ap (bit_xor a) (sym (xor_assoc b c d) ∙ (ap (λ (x : ℕ). bit_xor x d) (xor_comm b c) ∙ xor_assoc c b d))
    ∙ sym (xor_assoc a c (bit_xor b d))

-- what is added to both leaves the sum of the two
pub xor_both : (a b c : ℕ) → bit_xor (bit_xor a c) (bit_xor b c) ≡ bit_xor a b
xor_both a b c = xor_exchange a c b c ∙ (ap (bit_xor (bit_xor a b)) (xor_self c) ∙ xor_zero_r (bit_xor a b))

pub xor_first : (a b c : ℕ) → bit_xor (bit_xor a b) c ≡ bit_xor (bit_xor a c) b
xor_first a b c = xor_assoc a b c ∙ (ap (bit_xor a) (xor_comm b c) ∙ sym (xor_assoc a c b))
