-- A Lock's pairs by their bits: those that refuse, the new ones, and the two bytes that are stored.
use Prim.Native.Nat.{ℕ, ◌+◌, ◌*◌, ◌/◌, ◌%◌, ◌^◌, ◌≤◌, ◌<◌, zero, suc}
use borrow.Author.Tests.{ltb-true, ltb-false, eq-eqb, ne_eqb}
use lib.Dec.{eqb, ltb}
use mathlib.Core.Bool.{Bool, true, false, not, ◌&&◌, ◌||◌}
use mathlib.Core.List.{[], ◌∷◌}
use mathlib.Core.Path.{◌≡◌, refl, ap}
use native.Mathlib.Omega.{arith}
use Rattle.frame.proofs.Tests.{either}
use Rattle.frame.specs.Bytes.{pick, bytes_of, two_bytes}
use Rattle.tag.specs.Claims as Claims
use Rattle.tag.specs.Claims.{bit}
use Rattle.tag.specs.Locks.{pairs, bits_of, permalocked, refuses_pair, new_bit, masked_pair, new_pair, new_pairs}

-- a number below four by its two bits
pub record TwoBits (n high low : ℕ) : Type 0 where
  pub value : n ≡ 2 * high + low
  pub high_bit : high < 2
  pub low_bit : low < 2

-- the pair of a region in the mask (LD bits 19 to 10), in the action (9 to 0) and in the old lock bits
pub record PairOf (ld locks mask action old high low : ℕ) : Type 0 where
  pub of_mask : TwoBits mask (bit ld (10 + high)) (bit ld (10 + low))
  pub of_action : TwoBits action (bit ld high) (bit ld low)
  pub of_old : TwoBits old (bit locks high) (bit locks low)

pub kill_pair : (ld locks : ℕ) → PairOf ld locks (ld / 1024 / 256 % 4) (ld % 1024 / 256 % 4) (locks / 256 % 4) 9 8
kill_pair ld locks = record { of_mask = omega arith; of_action = omega arith; of_old = omega arith }

pub access_pair : (ld locks : ℕ) → PairOf ld locks (ld / 1024 / 64 % 4) (ld % 1024 / 64 % 4) (locks / 64 % 4) 7 6
access_pair ld locks = record { of_mask = omega arith; of_action = omega arith; of_old = omega arith }

pub epc_pair : (ld locks : ℕ) → PairOf ld locks (ld / 1024 / 16 % 4) (ld % 1024 / 16 % 4) (locks / 16 % 4) 5 4
epc_pair ld locks = record { of_mask = omega arith; of_action = omega arith; of_old = omega arith }

pub tid_pair : (ld locks : ℕ) → PairOf ld locks (ld / 1024 / 4 % 4) (ld % 1024 / 4 % 4) (locks / 4 % 4) 3 2
tid_pair ld locks = record { of_mask = omega arith; of_action = omega arith; of_old = omega arith }

pub user_pair : (ld locks : ℕ) → PairOf ld locks (ld / 1024 % 4) (ld % 1024 % 4) (locks % 4) 1 0
user_pair ld locks = record { of_mask = omega arith; of_action = omega arith; of_old = omega arith }

-- ---- one pair

pick_pair : (test : Bool) (o h l oh ol : ℕ) → o ≡ 2 * oh + ol → pick test o (h * 2 + l) ≡ 2 * pick test oh h + pick test ol l
unfolding pick
pick_pair true o h l oh ol e = e
pick_pair false o h l oh ol e = omega arith

-- a bit is 0 where it is not 1
pick_zero : (test rest : Bool) (al : ℕ) → al < 2 → pick test (eqb al 0) rest ≡ ((test && not (eqb al 1)) || (not test && rest))
unfolding pick
pick_zero true rest zero h = refl
pick_zero true rest (suc zero) h = refl
pick_zero true rest (suc (suc n)) h = absurd (omega arith)
pick_zero false rest al h = refl

module _ {m a o mh ml ah al oh ol : ℕ} (bm : TwoBits m mh ml) (ba : TwoBits a ah al) (bo : TwoBits o oh ol) where
  mask_high : m / 2 ≡ mh
  mask_high = omega (arith, bm.value, bm.low_bit)

  mask_low : m % 2 ≡ ml
  mask_low = omega (arith, bm.value, bm.low_bit)

  action_high : a / 2 ≡ ah
  action_high = omega (arith, ba.value, ba.low_bit)

  action_low : a % 2 ≡ al
  action_low = omega (arith, ba.value, ba.low_bit)

  old_high : o / 2 ≡ oh
  old_high = omega (arith, bo.value, bo.low_bit)

  old_low : o % 2 ≡ ol
  old_low = omega (arith, bo.value, bo.low_bit)

  new_is : new_pair m a o ≡ 2 * pick (eqb ol 1) oh (pick (eqb mh 1) ah oh) + pick (eqb ol 1) ol (pick (eqb ml 1) al ol)
  unfolding new_pair masked_pair new_bit permalocked
  new_is =
      simp (mask_high, mask_low, action_high, action_low, old_high, old_low)
      (pick_pair (eqb ol 1) o (pick (eqb mh 1) ah oh) (pick (eqb ml 1) al ol) oh ol bo.value)

  refuses_is : refuses_pair m a o ≡ (eqb ol 1 && ((eqb ml 1 && not (eqb al 1)) || (not (eqb ml 1) && (eqb mh 1 && not (eqb ah oh)))))
  unfolding refuses_pair permalocked
  refuses_is =
      simp (mask_high, mask_low, action_high, action_low, old_high, old_low)
      (ap (λ (t : Bool). eqb ol 1 && t) (pick_zero (eqb ml 1) (eqb mh 1 && not (eqb ah oh)) al ba.low_bit))

picked_small : (test : Bool) (a b : ℕ) → a < 2 → b < 2 → pick test a b < 2
unfolding pick
picked_small true a b h k = h
picked_small false a b h k = k

module _ {ld locks mask action old high low : ℕ} (b : PairOf ld locks mask action old high low) where
  pub renewed : new_pair mask action old ≡ 2 * Claims.new_bit locks ld low high + Claims.new_bit locks ld low low
  renewed = new_is b.of_mask b.of_action b.of_old

  pub new_small : (Claims.new_bit locks ld low high < 2) × (Claims.new_bit locks ld low low < 2)
  new_small = (
    picked_small _ _ _ b.of_old.high_bit (picked_small _ _ _ b.of_action.high_bit b.of_old.high_bit),
    picked_small _ _ _ b.of_old.low_bit (picked_small _ _ _ b.of_action.low_bit b.of_old.low_bit),
  )

  pub refused : refuses_pair mask action old ≡ Claims.refuses_region locks ld high low
  refused = refuses_is b.of_mask b.of_action b.of_old

-- ---- LD

pub top_four : (n : ℕ) → not (ltb n 0x100000) ≡ not (eqb (n / 2 ^ 20) 0)
top_four n =
    either (ltb n 0x100000)
    (λ h. let small : n < 0x100000 = ltb-true _ _ h in simp (h, eq-eqb (n / 2 ^ 20) 0 (omega arith)))
    (λ h. let large : 0x100000 ≤ n = ltb-false _ _ h in simp (h, ne_eqb (n / 2 ^ 20) 0 (omega arith)))

pub some_bit : (n high low : ℕ) → TwoBits n high low → not (eqb n 0) ≡ (eqb high 1 || eqb low 1)
some_bit n zero zero b = rw b.value
some_bit n zero (suc zero) b = rw b.value
some_bit n zero (suc (suc l)) b = absurd (omega arith)
some_bit n (suc zero) zero b = rw b.value
some_bit n (suc zero) (suc zero) b = rw b.value
some_bit n (suc zero) (suc (suc l)) b = absurd (omega arith)
some_bit n (suc (suc h)) low b = absurd (omega arith)

-- ---- the two bytes

-- ten bits, pair by pair, as two bytes
ten_bits : (b9 b8 b7 b6 b5 b4 b3 b2 b1 b0 : ℕ)
    → (b9 < 2) × (b8 < 2) → (b7 < 2) × (b6 < 2) → (b5 < 2) × (b4 < 2) → (b3 < 2) × (b2 < 2) → (b1 < 2) × (b0 < 2)
    → two_bytes ((2 * b9 + b8) * 256 + (2 * b7 + b6) * 64 + (2 * b5 + b4) * 16 + (2 * b3 + b2) * 4 + (2 * b1 + b0))
    ≡ (2 * b9 + b8) ∷ (128 * b7 + 64 * b6 + 32 * b5 + 16 * b4 + 8 * b3 + 4 * b2 + 2 * b1 + b0) ∷ []
unfolding bytes_of
ten_bits b9 b8 b7 b6 b5 b4 b3 b2 b1 b0 s9 s7 s5 s3 s1 =
    let n : ℕ = (2 * b9 + b8) * 256 + (2 * b7 + b6) * 64 + (2 * b5 + b4) * 16 + (2 * b3 + b2) * 4 + (2 * b1 + b0) in
    let first : n / 256 % 256 ≡ 2 * b9 + b8 = omega arith in
    let second : n % 256 ≡ 128 * b7 + 64 * b6 + 32 * b5 + 16 * b4 + 8 * b3 + 4 * b2 + 2 * b1 + b0 = omega arith in
    rw (first, second)

pub two_stored : (l n : ℕ)
    → let new : ℕ → ℕ → ℕ = Claims.new_bit n l in
    two_bytes (bits_of (new_pairs (pairs (l / 1024)) (pairs (l % 1024)) (pairs n)))
    ≡ (2 * new 8 9 + new 8 8)
    ∷ (128 * new 6 7 + 64 * new 6 6 + 32 * new 4 5 + 16 * new 4 4 + 8 * new 2 3 + 4 * new 2 2 + 2 * new 0 1 + new 0 0)
    ∷ []
unfolding bits_of new_pairs pairs
two_stored l n =
    rw (renewed (kill_pair l n), renewed (access_pair l n), renewed (epc_pair l n), renewed (tid_pair l n), renewed (user_pair l n))
    (ten_bits _ _ _ _ _ _ _ _ _ _ (new_small (kill_pair l n)) (new_small (access_pair l n)) (new_small (epc_pair l n)) (new_small (tid_pair l n))
    (new_small (user_pair l n)))
