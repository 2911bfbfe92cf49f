-- The tests of the definitions as tests on raw bytes: standings, banks, touched words, regions that a lock refuses.
use Prim.Native.Nat.{ℕ, ◌+◌, ◌*◌, ◌/◌, ◌%◌, ◌^◌, ◌≤◌, ◌<◌, ◌-◌, zero, suc}
use borrow.Author.Tests.{leb-true, leb-false, ltb-true, ltb-false, ne_eqb, le-leb, lt-leb, lt-ltb, le-ltb}
use lib.Dec.{eqb, leb, ltb}
use lib.ListN.{drop}
use mathlib.Core.Bool.{Bool, true, false, not, ◌&&◌, ◌||◌, or-false, and_assoc}
use mathlib.Core.List.{List}
use mathlib.Core.Path.{◌≡◌, refl, ap, sym, ◌∙◌}
use native.Mathlib.Omega.{arith}
use Rattle.frame.proofs.Picks.{pick_or}
use Rattle.frame.proofs.Tests.{either}
use Rattle.frame.specs.Bytes.{pick, byte, number}
use Rattle.tag.proofs.Data.{number_in_data}
use Rattle.tag.proofs.LockWords.{two_bits, lowest_bits}
use Rattle.tag.specs.Claims.{access_stored, wrong, secured, refuses, among}
use Rattle.tag.specs.Commands.{data_in, names_crc, length_broken}
use Rattle.image.specs.Image.{bank_at, view, bank_of, epc_length, access_password}
use Rattle.tag.specs.Locks.{pairs, standing_of, standing, is_secured, is_wrong, allows, touches, may_touch_passwords, may_read, may_write}
use Rattle.tag.specs.Errors.{Verdict}
use Rattle.tag.specs.declared.locks.Standing.{Standing}

-- ---- standings

pub wrong_is : (stored given : ℕ) → is_wrong (standing_of stored given) ≡ wrong stored given
unfolding standing_of is_wrong pick
wrong_is stored given =
    either (eqb given 0)
    (λ z. either (eqb stored 0) (λ h. simp (z, h)) (λ h. simp (z, h)))
    (λ z. either (eqb given stored) (λ h. simp (z, h)) (λ h. simp (z, h)))

pub secured_is : (stored given : ℕ) → is_secured (standing_of stored given) ≡ secured stored given
unfolding standing_of is_secured pick
secured_is stored given =
    either (eqb stored 0)
    (λ k. either (eqb given 0) (λ z. simp (z, k)) (λ z. either (eqb given stored) (λ h. simp (z, h, k)) (λ h. simp (z, h, k))))
    (λ k. either (eqb given 0) (λ z. simp (z, k)) (λ z. either (eqb given stored) (λ h. simp (z, h, k)) (λ h. simp (z, h, k))))

-- ---- banks

pub words_are : (image : List ℕ) (bank : ℕ) → bank ≤ 3 → (bank_of (view image) bank).words ≡ number image (4 + 4 * bank)
unfolding view bank_at bank_of pick
words_are image zero h = refl
words_are image (suc zero) h = refl
words_are image (suc (suc zero)) h = refl
words_are image (suc (suc (suc zero))) h = refl
words_are image (suc (suc (suc (suc n)))) h = absurd (omega arith)

pub offset_is : (image : List ℕ) (bank : ℕ) → bank ≤ 3 → (bank_of (view image) bank).offset ≡ number image (6 + 4 * bank)
unfolding view bank_at bank_of pick
offset_is image zero h = refl
offset_is image (suc zero) h = refl
offset_is image (suc (suc zero)) h = refl
offset_is image (suc (suc (suc zero))) h = refl
offset_is image (suc (suc (suc (suc n)))) h = absurd (omega arith)

-- ---- regions

-- a region of two words is touched if one of its words is
touched : (pointer count first : ℕ) → 1 ≤ count → touches pointer count first ≡ (among pointer count first || among pointer count (first + 1))
unfolding touches
touched pointer count first some =
    either (leb pointer first)
    (λ h.
    let low : pointer ≤ first = leb-true _ _ h in
    either (ltb first (pointer + count))
    (λ k. simp (h, k, lt-ltb pointer (first + 2) (omega arith)))
    (λ k.
    let far : pointer + count ≤ first = ltb-false _ _ k in
    simp (h, k, lt-ltb pointer (first + 2) (omega arith), le-leb pointer (first + 1) (omega arith), le-ltb (first + 1) (pointer + count) (omega arith))))
    (λ h.
    let high : first < pointer = leb-false _ _ h in
    either (leb pointer (first + 1))
    (λ k.
    let low : pointer ≤ first + 1 = leb-true _ _ k in
    simp (h, k, lt-ltb pointer (first + 2) (omega arith), lt-ltb first (pointer + count) (omega arith), lt-ltb (first + 1) (pointer + count) (omega arith)))
    (λ k.
    let over : first + 1 < pointer = leb-false _ _ k in
    simp (h, k, le-ltb pointer (first + 2) (omega arith))))

-- a pair that refuses, by its bits
refused_by : (pair high low : ℕ) (s : Standing) → pair ≡ 2 * high + low → high < 2 → low < 2
    → not (allows pair s) ≡ (eqb high 1 && (eqb low 1 || not (is_secured s)))
unfolding allows pick
refused_by pair zero zero s e h l = rw e
refused_by pair zero (suc zero) s e h l = rw e
refused_by pair zero (suc (suc n)) s e h l = absurd (omega arith)
refused_by pair (suc zero) zero s e h l = rw e
refused_by pair (suc zero) (suc zero) s e h l = rw e
refused_by pair (suc zero) (suc (suc n)) s e h l = absurd (omega arith)
refused_by pair (suc (suc n)) low s e h l = absurd (omega arith)

-- the pair whose lower bit has weight k
pair_refuses : (n k : ℕ) (s : Standing) → 0 < k
    → not (allows (n / k % 4) s) ≡ (eqb (n / (k * 2) % 2) 1 && (eqb (n / k % 2) 1 || not (is_secured s)))
pair_refuses n k s pos = refused_by (n / k % 4) (n / (k * 2) % 2) (n / k % 2) s (two_bits n k pos) (omega arith) (omega arith)

user_refuses : (n : ℕ) (s : Standing) → not (allows (n % 4) s) ≡ refuses n 1 0 (is_secured s)
user_refuses n s = refused_by (n % 4) (n / 2 % 2) (n / 1 % 2) s (lowest_bits n) (omega arith) (omega arith)

not_passwords : (is_reserved kill a access b : Bool)
    → not (pick is_reserved ((not kill || a) && (not access || b)) true) ≡ ((is_reserved && kill && not a) || (is_reserved && access && not b))
unfolding pick
not_passwords false kill a access b = refl
not_passwords true false a false b = refl
not_passwords true false a true b = refl
not_passwords true true true false b = refl
not_passwords true true true true b = refl
not_passwords true true false access b = refl

-- "A touched password region not readable", region by region
pub unreadable : (image : List ℕ) (given bank pointer count : ℕ) (x y : Verdict) → 1 ≤ count
    → pick (not (may_read (view image) (standing image given) bank pointer count)) x y
    ≡ pick (eqb bank 0 && (among pointer count 0 || among pointer count 1) && refuses (number image 20) 9 8 (secured (access_stored image) given)) x
    (pick (eqb bank 0 && (among pointer count 2 || among pointer count 3) && refuses (number image 20) 7 6 (secured (access_stored image) given)) x y)
unfolding standing access_password view bank_at may_read may_touch_passwords pairs
unreadable image given bank pointer count x y some =
    let n : ℕ = number image 20 in
    let s : Standing = standing image given in
    rw (
      not_passwords (eqb bank 0) (touches pointer count 0) (allows (n / 256 % 4) s) (touches pointer count 2) (allows (n / 64 % 4) s),
      touched pointer count 0 some,
      touched pointer count 2 some,
      pair_refuses n 256 s (omega arith),
      pair_refuses n 64 s (omega arith),
      secured_is (access_stored image) given,
      pick_or,
    )

not_writable : (bank : ℕ) (kill a access b epc tid user : Bool) → bank ≤ 3
    → not (pick (eqb bank 0) ((not kill || a) && (not access || b)) (pick (eqb bank 1) epc (pick (eqb bank 2) tid user)))
    ≡ ((eqb bank 0 && kill && not a) || (eqb bank 0 && access && not b) || (eqb bank 1 && not epc) || (eqb bank 2 && not tid) || (eqb bank 3 && not user))
unfolding pick
not_writable zero kill a access b epc tid user h = not_passwords true kill a access b ∙ simp or-false
not_writable (suc zero) kill a access b epc tid user h = simp or-false
not_writable (suc (suc zero)) kill a access b epc tid user h = simp or-false
not_writable (suc (suc (suc zero))) kill a access b epc tid user h = refl
not_writable (suc (suc (suc (suc n)))) kill a access b epc tid user h = absurd (omega arith)

-- "A touched region not writable", region by region
pub unwritable : (image : List ℕ) (given bank pointer count : ℕ) (x y : Verdict) → bank ≤ 3 → 1 ≤ count
    → pick (not (may_write (view image) (standing image given) bank pointer count)) x y
    ≡ pick (eqb bank 0 && (among pointer count 0 || among pointer count 1) && refuses (number image 20) 9 8 (secured (access_stored image) given)) x
    (pick (eqb bank 0 && (among pointer count 2 || among pointer count 3) && refuses (number image 20) 7 6 (secured (access_stored image) given)) x
    (pick (eqb bank 1 && refuses (number image 20) 5 4 (secured (access_stored image) given)) x
    (pick (eqb bank 2 && refuses (number image 20) 3 2 (secured (access_stored image) given)) x
    (pick (eqb bank 3 && refuses (number image 20) 1 0 (secured (access_stored image) given)) x y))))
unfolding standing access_password view bank_at may_write may_touch_passwords pairs
unwritable image given bank pointer count x y known some =
    let n : ℕ = number image 20 in
    let s : Standing = standing image given in
    rw (
      not_writable bank (touches pointer count 0) (allows (n / 256 % 4) s) (touches pointer count 2) (allows (n / 64 % 4) s)
          (allows (n / 16 % 4) s) (allows (n / 4 % 4) s) (allows (n % 4) s) known,
      touched pointer count 0 some,
      touched pointer count 2 some,
      pair_refuses n 256 s (omega arith),
      pair_refuses n 64 s (omega arith),
      pair_refuses n 16 s (omega arith),
      pair_refuses n 4 s (omega arith),
      user_refuses n s,
      secured_is (access_stored image) given,
      pick_or,
      pick_or,
      pick_or,
      pick_or,
    )

-- ---- a Write's lengths

-- a length that is too short is not the right one either
pub short_too : (n m : ℕ) (x y : Verdict) → 9 ≤ m → pick (not (eqb n m)) x y ≡ pick (ltb n 9) x (pick (not (eqb n m)) x y)
unfolding pick
short_too n m x y long = either (ltb n 9) (λ h. let short : n < 9 = ltb-true _ _ h in simp (h, ne_eqb n m (omega arith))) (λ h. simp h)

-- the first word is among the named ones where these begin with it
pub names_crc_lem : (bank pointer count : ℕ) → 1 ≤ count → names_crc bank pointer ≡ (eqb bank 1 && among pointer count 0)
unfolding names_crc
names_crc_lem bank zero count some =
    let more : ltb 0 (0 + count) ≡ true = lt-ltb 0 (0 + count) (omega arith) in
    ap (λ (t : Bool). eqb bank 1 && t) (sym more)
names_crc_lem bank (suc n) count some = simp (ne_eqb (suc n) 0 (omega arith), lt-leb (suc n) 0 (omega arith))

pub broken_is : (image p : List ℕ)
    → length_broken (view image) (byte p 4) (number p 5) (number p 7) (drop 9 p)
    ≡ (eqb (byte p 4) 1 && among (number p 5) (number p 7) 1 && ltb (number image 8) (number p (9 + 2 * (1 - number p 5)) / 2 ^ 11 + 2))
unfolding length_broken view bank_at epc_length data_in
broken_is image p = rw (number_in_data p (2 * (1 - number p 5))) (simp and_assoc)
