-- Plain steps of polynomial 1021 as a sum of shifts, sixteen, thirty-two and sixty-four at once. Both go through exclusive or, so they are the same on every number
-- because they are on the numbers with one bit: one computed test over each of the three.
use Prim.Native.Nat.{ℕ, zero, suc, ◌+◌, ◌-◌, ◌*◌, ◌/◌, ◌%◌, ◌^◌, ◌≤◌, ◌<◌}
use borrow.Author.Tests.{leb-true, leb-false}
use lib.Bits.{bit_xor, xor_shr, xor_mod, xor_block, xor_lt, xor_shifted}
use lib.Dec.{leb}
use lib.ListN.{length, take, drop, get_or}
use lib.Pow.{pow_pos}
use mathlib.Core.Bool.{Bool, true, false}
use mathlib.Core.List.{List, [], ◌∷◌}
use mathlib.Core.Path.{◌≡◌, refl, sym, ap, ap₂, ◌∙◌}
use native.Mathlib.Nat.{add-zero, pow-suc}
use native.Mathlib.Omega.{arith}
use Rattle.std.proofs.lemmas.List.{get_or-take}
use Rattle.std.specs.Int.{w32, w64, from_be_bytes}
use Rattle.std.specs.Simd.{first_chunks}
use Rattle.crc.proofs.Chunks.{chunk_byte}
use Rattle.crc.proofs.Linear.{steps_small, steps_xor}
use Rattle.crc.proofs.Steps.{two_bytes_next}
use Rattle.crc.proofs.Tables.{Bytes, up, sixteen}
use Rattle.crc.proofs.Xors.{xor_assoc, xor_exchange}
use Rattle.crc.specs.Crc.{leaving, shifted, added, bit_step, bit_steps, entered, byte_step, crc}
use Rattle.crc.specs.Shifts.{spread, steps, four_steps, eight_steps}
use Rattle.crc.specs.declared.Direction.TheVariants.{HighFirst}

-- ---- what goes through exclusive or

abbrev Adds : (ℕ → ℕ) → Type 0
Adds f = (a b : ℕ) → f (bit_xor a b) ≡ bit_xor (f a) (f b)

itself : Adds (λ n. n)
itself a b = refl

both : (f g : ℕ → ℕ) → Adds f → Adds g → Adds (λ n. bit_xor (f n) (g n))
both f g p q a b = ap₂ bit_xor (p a b) (q a b) ∙ xor_exchange (f a) (f b) (g a) (g b)

after : (f g : ℕ → ℕ) → Adds f → Adds g → Adds (λ n. f (g n))
after f g p q a b = ap f (q a b) ∙ p (g a) (g b)

over : (k : ℕ) → Adds (λ n. n / 2 ^ k)
over k a b = xor_shr a b k

under : (k : ℕ) → Adds (λ n. n % 2 ^ k)
under k a b = xor_mod a b k

times : (k : ℕ) → Adds (λ n. n * 2 ^ k)
times k a b =
    let block : bit_xor (a * 2 ^ k + 0) (b * 2 ^ k + 0) ≡ bit_xor a b * 2 ^ k + 0 = xor_block k a b 0 0 (pow_pos k) (pow_pos k) in
    sym (simp add-zero at block)

-- a number with one shift of it, with two and with three
one_shift : (i : ℕ) → Adds (λ n. bit_xor n (n / 2 ^ i))
one_shift i = both (λ n. n) (λ n. n / 2 ^ i) itself (over i)

two_shifts : (i j : ℕ) → Adds (λ n. bit_xor (bit_xor n (n / 2 ^ i)) (n / 2 ^ j))
two_shifts i j = both (λ n. bit_xor n (n / 2 ^ i)) (λ n. n / 2 ^ j) (one_shift i) (over j)

three_shifts : (i j k : ℕ) → Adds (λ n. bit_xor (bit_xor (bit_xor n (n / 2 ^ i)) (n / 2 ^ j)) (n / 2 ^ k))
three_shifts i j k = both (λ n. bit_xor (bit_xor n (n / 2 ^ i)) (n / 2 ^ j)) (λ n. n / 2 ^ k) (two_shifts i j) (over k)

spreads : Adds spread
spreads =
    both (λ n. bit_xor (n % 16 * 4096) (n % 2048 * 32)) (λ n. n)
    (both (λ n. n % 16 * 4096) (λ n. n % 2048 * 32)
    (after (λ n. n * 4096) (λ n. n % 16) (times 12) (under 4))
    (after (λ n. n * 32) (λ n. n % 2048) (times 5) (under 11)))
    itself

-- ---- numbers with one bit tell it for all

module _ (f g : ℕ → ℕ) (p : Adds f) (q : Adds g) (none : f 0 ≡ g 0) where
  -- the upper bit is there, or it is not
  by_upper : (n w : ℕ) → w < 2 ^ suc n → f (2 ^ n) ≡ g (2 ^ n) → ((v : ℕ) → v < 2 ^ n → f v ≡ g v) → (t : Bool) → leb (2 ^ n) w ≡ t → f w ≡ g w
  by_upper n w small bit below false e = below w (leb-false (2 ^ n) w e)
  by_upper n w small bit below true e =
      let there : 2 ^ n ≤ w = leb-true (2 ^ n) w e in
      let double : 2 ^ suc n ≡ 2 ^ n * 2 = pow-suc 2 n in
      let rest : w - 2 ^ n < 2 ^ n = omega (arith, there, double, small) in
      let one : 1 * 2 ^ n ≡ 2 ^ n = omega arith in
      let whole : w ≡ 1 * 2 ^ n + (w - 2 ^ n) = omega (arith, there) in
      let parts : w ≡ bit_xor (2 ^ n) (w - 2 ^ n) =
      whole ∙ sym (xor_shifted 1 n (w - 2 ^ n) rest) ∙ ap (λ (m : ℕ). bit_xor m (w - 2 ^ n)) one
      in
      ap f parts ∙ p (2 ^ n) (w - 2 ^ n) ∙ ap₂ bit_xor bit (below (w - 2 ^ n) rest) ∙ sym (q (2 ^ n) (w - 2 ^ n)) ∙ sym (ap g parts)

  by_bits : (n : ℕ) → ((k : ℕ) → k < n → f (2 ^ k) ≡ g (2 ^ k)) → (w : ℕ) → w < 2 ^ n → f w ≡ g w
  by_bits zero bits w small = let z : w ≡ 0 = omega arith in ap f z ∙ none ∙ sym (ap g z)
  by_bits (suc n) bits w small =
      by_upper n w small (bits n (omega arith)) (by_bits n (λ k l. bits k (omega arith))) (leb (2 ^ n) w) refl

unfoldable rows : (ℕ → ℕ) → ℕ → ℕ → List ℕ
rows f zero k = []
rows f (suc n) k = f (2 ^ k) ∷ rows f n (suc k)

row_at : (f : ℕ → ℕ) (n k i : ℕ) → i < n → get_or (rows f n k) i 0 ≡ f (2 ^ (k + i))
unfolding rows
row_at f zero k i inside = absurd (omega arith)
row_at f (suc n) k zero inside = ap (λ (m : ℕ). f (2 ^ m)) (sym (add-zero k))
row_at f (suc n) k (suc i) inside = row_at f n (suc k) i (omega arith) ∙ ap (λ (m : ℕ). f (2 ^ m)) (omega arith)

same_rows : (f g : ℕ → ℕ) (n : ℕ) → rows f n 0 ≡ rows g n 0 → (k : ℕ) → k < n → f (2 ^ k) ≡ g (2 ^ k)
same_rows f g n e k h =
    let plus : 0 + k ≡ k = omega arith in
    ap (λ (m : ℕ). f (2 ^ m)) (sym plus)
    ∙ (sym (row_at f n 0 k h) ∙ (ap (λ (l : List ℕ). get_or l k 0) e ∙ (row_at g n 0 k h ∙ ap (λ (m : ℕ). g (2 ^ m)) plus)))

-- ---- registers that go through exclusive or

record Register (f : ℕ → ℕ) : Type 0 where
  adds : Adds f
  small : (n : ℕ) → f n < 0x10000

piece : (k : ℕ) → Register (λ n. n / 2 ^ k % 0x10000)
piece k = record { adds = after (λ n. n % 0x10000) (λ n. n / 2 ^ k) (under 16) (over k); small = λ n. omega arith }

last_piece : Register (λ n. n % 0x10000)
last_piece = record { adds = under 16; small = λ n. omega arith }

stepped : (f : ℕ → ℕ) → Register f → Register (λ n. steps (f n))
stepped f r =
    record {
      adds = λ a b. ap steps (r.adds a b) ∙ steps_xor HighFirst 0x1021 (omega arith) 16 (f a) (f b) (r.small a) (r.small b);
      small = λ n. steps_small HighFirst 0x1021 (omega arith) 16 (f n) (r.small n);
    }

joined : (f g : ℕ → ℕ) → Register f → Register g → Register (λ n. bit_xor (f n) (g n))
joined f g r s = record { adds = both f g r.adds s.adds; small = λ n. xor_lt 16 (f n) (g n) (r.small n) (s.small n) }

-- ---- sixteen steps

abbrev near : ℕ → ℕ
near n = bit_xor n (n / 16)

abbrev sum : ℕ → ℕ
sum n = bit_xor (bit_xor (near n) (near n / 256)) (n / 2048)

sums : Adds sum
sums =
    both (λ n. bit_xor (near n) (near n / 256)) (λ n. n / 2048)
    (both near (λ n. near n / 256) (one_shift 4) (after (λ n. n / 256) near (over 8) (one_shift 4)))
    (over 11)

sixteen_rows : rows (λ n. spread (sum n)) 16 0 ≡ rows (λ n. steps (n % 0x10000)) 16 0
unfolding rows bit_steps bit_step leaving shifted added
sixteen_rows = refl

pub folded_is : (n : ℕ) → n < 0x10000 → spread (sum n) ≡ steps n
unfolding bit_steps bit_step leaving shifted added
folded_is n word =
    let whole : n % 0x10000 ≡ n = omega arith in
    by_bits (λ n. spread (sum n)) (λ n. steps (n % 0x10000)) (after spread sum spreads sums) (stepped (λ n. n % 0x10000) last_piece).adds refl 16
    (same_rows (λ n. spread (sum n)) (λ n. steps (n % 0x10000)) 16 sixteen_rows) n word
    ∙ ap steps whole

-- ---- thirty-two steps, of a number of two times sixteen bits

abbrev once : ℕ → ℕ
once n = bit_xor (bit_xor (bit_xor n (n / 16)) (n / 2048)) (n / 65536)

abbrev half_twice : ℕ → ℕ
half_twice n = bit_xor (bit_xor n (n / 256)) (n / 4194304)

abbrev half_sum : ℕ → ℕ
half_sum n = bit_xor (half_twice (once n)) (half_twice (once n) / 65536) % 65536

half_sums : Adds half_sum
half_sums =
    after (λ n. n % 65536) (λ n. bit_xor (half_twice (once n)) (half_twice (once n) / 65536)) (under 16)
    (after (λ n. bit_xor n (n / 65536)) (λ n. half_twice (once n)) (one_shift 16) (after half_twice once (two_shifts 8 22) (three_shifts 4 11 16)))

abbrev pair : ℕ → ℕ
pair n = bit_xor (steps (n / 65536 % 0x10000)) (n % 0x10000)

pairs : Register pair
pairs = joined (λ n. steps (n / 65536 % 0x10000)) (λ n. n % 0x10000) (stepped (λ n. n / 65536 % 0x10000) (piece 16)) last_piece

half_rows : rows (λ n. spread (half_sum n)) 32 0 ≡ rows (λ n. steps (pair n)) 32 0
unfolding rows bit_steps bit_step leaving shifted added
half_rows = refl

half_is : (n : ℕ) → n < 2 ^ 32 → spread (half_sum n) ≡ steps (pair n)
unfolding bit_steps bit_step leaving shifted added
half_is =
    by_bits (λ n. spread (half_sum n)) (λ n. steps (pair n)) (after spread half_sum spreads half_sums) (stepped pair pairs).adds refl 32
    (same_rows (λ n. spread (half_sum n)) (λ n. steps (pair n)) 32 half_rows)

pair_is : (n x l : ℕ) → x < 65536 → l < 65536 → n ≡ x * 65536 + l → steps (pair n) ≡ steps (bit_xor (steps x) l)
pair_is n x l word lower e =
    let one : n / 65536 % 65536 ≡ x = omega arith in
    let two : n % 65536 ≡ l = omega arith in
    ap steps (ap₂ (λ (a b : ℕ). bit_xor (steps a) b) one two)

pub half_folded : (register four : ℕ) → register < 0x10000 → four < 4294967296 → spread (half_sum (bit_xor (register * 65536) four)) ≡ four_steps register four
half_folded register four word small =
    let x : ℕ = bit_xor register (four / 65536) in
    let x-small : x < 0x10000 = xor_lt 16 register (four / 65536) word (omega arith) in
    let front : register * 65536 ≡ register * 65536 + 0 = omega arith in
    let behind : four ≡ four / 65536 * 65536 + four % 65536 = omega arith in
    let n : ℕ = bit_xor (register * 65536) four in
    let n-is : n ≡ x * 65536 + four % 65536 =
    ap₂ bit_xor front behind ∙ xor_block 16 register (four / 65536) 0 (four % 65536) (omega arith) (omega arith)
    in
    half_is n (omega (arith, n-is, x-small)) ∙ pair_is n x (four % 65536) x-small (omega arith) n-is

-- ---- sixty-four steps, of a number of four times sixteen bits

abbrev twice : ℕ → ℕ
twice n = bit_xor (bit_xor (bit_xor n (n / 256)) (n / 4194304)) (n / 4294967296)

abbrev four_times : ℕ → ℕ
four_times n = bit_xor (bit_xor n (n / 65536)) (n / 17592186044416)

abbrev eight_times : ℕ → ℕ
eight_times n = bit_xor n (n / 4294967296)

abbrev long_sum : ℕ → ℕ
long_sum n = eight_times (four_times (twice (once n))) % 65536

long_sums : Adds long_sum
long_sums =
    after (λ n. n % 65536) (λ n. eight_times (four_times (twice (once n)))) (under 16)
    (after eight_times (λ n. four_times (twice (once n))) (one_shift 32)
    (after four_times (λ n. twice (once n)) (two_shifts 16 44) (after twice once (three_shifts 8 22 32) (three_shifts 4 11 16))))

abbrev second : ℕ → ℕ
second n = bit_xor (steps (n / 281474976710656 % 0x10000)) (n / 4294967296 % 0x10000)

abbrev third : ℕ → ℕ
third n = bit_xor (steps (second n)) (n / 65536 % 0x10000)

abbrev fourth : ℕ → ℕ
fourth n = bit_xor (steps (third n)) (n % 0x10000)

seconds : Register second
seconds =
    joined (λ n. steps (n / 281474976710656 % 0x10000)) (λ n. n / 4294967296 % 0x10000) (stepped (λ n. n / 281474976710656 % 0x10000) (piece 48)) (piece 32)

thirds : Register third
thirds = joined (λ n. steps (second n)) (λ n. n / 65536 % 0x10000) (stepped second seconds) (piece 16)

fourths : Register fourth
fourths = joined (λ n. steps (third n)) (λ n. n % 0x10000) (stepped third thirds) last_piece

long_rows : rows (λ n. spread (long_sum n)) 64 0 ≡ rows (λ n. steps (fourth n)) 64 0
unfolding rows bit_steps bit_step leaving shifted added
long_rows = refl

long_is : (n : ℕ) → n < 2 ^ 64 → spread (long_sum n) ≡ steps (fourth n)
unfolding bit_steps bit_step leaving shifted added
long_is =
    by_bits (λ n. spread (long_sum n)) (λ n. steps (fourth n)) (after spread long_sum spreads long_sums) (stepped fourth fourths).adds refl 64
    (same_rows (λ n. spread (long_sum n)) (λ n. steps (fourth n)) 64 long_rows)

-- its four parts
fourth_is : (n x h l : ℕ) → x < 65536 → h < 65536 → l < 4294967296 → n ≡ x * 281474976710656 + (h * 4294967296 + l)
    → steps (fourth n) ≡ four_steps (steps (bit_xor (steps x) h)) l
fourth_is n x h l word upper lower e =
    let one : n / 281474976710656 % 65536 ≡ x = omega arith in
    let two : n / 4294967296 % 65536 ≡ h = omega arith in
    let three : n / 65536 % 65536 ≡ l / 65536 = omega arith in
    let four : n % 65536 ≡ l % 65536 = omega arith in
    ap steps
    (ap₂ (λ (a b : ℕ). bit_xor (steps (bit_xor (steps a) b)) (n % 65536)) (ap₂ (λ (a b : ℕ). bit_xor (steps a) b) one two) three
    ∙ ap (λ (b : ℕ). bit_xor (steps (bit_xor (steps (bit_xor (steps x) h)) (l / 65536))) b) four)

pub long_folded : (register eight : ℕ) → register < 0x10000 → eight < 2 ^ 64
    → spread (long_sum (bit_xor (register * 281474976710656) eight)) ≡ eight_steps register (eight / 2 ^ 32) (eight % 2 ^ 32)
long_folded register eight word small =
    let first : ℕ = eight / 2 ^ 32 / 65536 in
    let h : ℕ = eight / 2 ^ 32 % 65536 in
    let l : ℕ = eight % 2 ^ 32 in
    let d : ℕ = h * 4294967296 + l in
    let x : ℕ = bit_xor register first in
    let x-small : x < 0x10000 = xor_lt 16 register first word (omega arith) in
    let d_small : d < 281474976710656 = omega arith in
    let front : register * 281474976710656 ≡ register * 281474976710656 + 0 = omega arith in
    let behind : eight ≡ first * 281474976710656 + d = omega arith in
    let n : ℕ = bit_xor (register * 281474976710656) eight in
    let n-is : n ≡ x * 281474976710656 + d = ap₂ bit_xor front behind ∙ xor_block 48 register first 0 d (omega arith) d_small in
    long_is n (omega (arith, n-is, x-small, d_small)) ∙ fourth_is n x h l x-small (omega arith) (omega arith) n-is

-- ---- bytes enter together

pub entered_together : (register a b : ℕ) → register < 0x10000 → a < 256 → b < 256
    → steps (bit_xor register (a * 256 + b)) ≡ byte_step HighFirst 0x1021 (byte_step HighFirst 0x1021 register a) b
unfolding byte_step entered
entered_together register a b word first second =
    let met : ℕ = bit_xor register (a * 256) in
    let eight : ℕ → ℕ = bit_steps HighFirst 0x1021 8 in
    let met-small : met < 0x10000 = xor_lt 16 register (a * 256) word (omega arith) in
    let moves : eight b ≡ b * 256 = up 0x1021 8 b (omega arith) in
    ap steps (ap (bit_xor register) (sym (xor_shifted a 8 b second)) ∙ sym (xor_assoc register (a * 256) b))
    ∙ (sym (sixteen HighFirst 0x1021 (omega arith) (bit_xor met b))
    ∙ ap eight (steps_xor HighFirst 0x1021 (omega arith) 8 met b met-small (omega arith) ∙ ap (bit_xor (eight met)) moves))

-- four bytes as one number, the first of them highest
abbrev four_in : List ℕ → ℕ → ℕ
four_in bytes i = (get_or bytes i 0 * 256 + get_or bytes (i + 1) 0) * 65536 + (get_or bytes (i + 2) 0 * 256 + get_or bytes (i + 3) 0)

module _ (bytes : List ℕ) (are : Bytes bytes) where
  four_small : (i : ℕ) → four_in bytes i < 4294967296
  four_small i = omega (arith, are i, are (i + 1), are (i + 2), are (i + 3))

  entered_small : (register w : ℕ) → register < 0x10000 → w < 0x10000 → steps (bit_xor register w) < 0x10000
  entered_small register w word small = steps_small HighFirst 0x1021 (omega arith) 16 (bit_xor register w) (xor_lt 16 register w word small)

  two_next : (register i w : ℕ) → register < 0x10000 → 2 ≤ length bytes - i → w ≡ get_or bytes i 0 * 256 + get_or bytes (i + 1) 0
      → crc HighFirst 0x1021 (steps (bit_xor register w)) (drop (i + 2) bytes) ≡ crc HighFirst 0x1021 register (drop i bytes)
  two_next register i w word inside e =
      ap (λ (r : ℕ). crc HighFirst 0x1021 r (drop (i + 2) bytes))
      (ap (λ (v : ℕ). steps (bit_xor register v)) e ∙ entered_together register (get_or bytes i 0) (get_or bytes (i + 1) 0) word (are i) (are (i + 1)))
      ∙ two_bytes_next HighFirst 0x1021 bytes i register inside

  four_next : (register i : ℕ) → register < 0x10000 → 4 ≤ length bytes - i
      → crc HighFirst 0x1021 (four_steps register (four_in bytes i)) (drop (i + 4) bytes) ≡ crc HighFirst 0x1021 register (drop i bytes)
  four_next register i word inside =
      let four : ℕ = four_in bytes i in
      let first : four / 65536 ≡ get_or bytes i 0 * 256 + get_or bytes (i + 1) 0 = omega (arith, are i, are (i + 1), are (i + 2), are (i + 3)) in
      let last : i + 3 ≡ i + 2 + 1 = omega arith in
      let second : four % 65536 ≡ get_or bytes (i + 2) 0 * 256 + get_or bytes (i + 2 + 1) 0 =
      (let half : four % 65536 ≡ get_or bytes (i + 2) 0 * 256 + get_or bytes (i + 3) 0 = omega (arith, are i, are (i + 1), are (i + 2), are (i + 3)) in
      half ∙ ap (λ (k : ℕ). get_or bytes (i + 2) 0 * 256 + get_or bytes k 0) last)
      in
      let half-way : ℕ = steps (bit_xor register (four / 65536)) in
      let half-small : half-way < 0x10000 = entered_small register (four / 65536) word (omega (arith, four_small i)) in
      let ends : i + 4 ≡ i + 2 + 2 = omega arith in
      ap (λ (k : ℕ). crc HighFirst 0x1021 (four_steps register four) (drop k bytes)) ends
      ∙ two_next half-way (i + 2) (four % 65536) half-small (omega arith) second
      ∙ two_next register i (four / 65536) word (omega arith) first

  four_kept : (register i : ℕ) → register < 0x10000 → four_steps register (four_in bytes i) < 0x10000
  four_kept register i word =
      let four : ℕ = four_in bytes i in
      entered_small (steps (bit_xor register (four / 65536))) (four % 65536) (entered_small register (four / 65536) word (omega (arith, four_small i))) (omega arith)

  eight_kept : (register i : ℕ) → register < 0x10000 → eight_steps register (four_in bytes i) (four_in bytes (i + 4)) < 0x10000
  eight_kept register i word = four_kept (four_steps register (four_in bytes i)) (i + 4) (four_kept register i word)

  eight_next : (register i : ℕ) → register < 0x10000 → 8 ≤ length bytes - i
      → crc HighFirst 0x1021 (eight_steps register (four_in bytes i) (four_in bytes (i + 4))) (drop (i + 8) bytes) ≡ crc HighFirst 0x1021 register (drop i bytes)
  eight_next register i word inside =
      let four : ℕ = four_in bytes i in
      let ends : i + 8 ≡ i + 4 + 4 = omega arith in
      ap (λ (k : ℕ). crc HighFirst 0x1021 (eight_steps register four (four_in bytes (i + 4))) (drop k bytes)) ends
      ∙ four_next (four_steps register four) (i + 4) (four_kept register i word) (omega arith)
      ∙ four_next register i word (omega arith)

  -- four bytes at the front, as the array that is split off
  pub front_next : (register : ℕ) (four : List ℕ) → register < 0x10000 → 4 ≤ length bytes → four ≡ take 4 bytes
      → crc HighFirst 0x1021 (four_steps register (from_be_bytes w32 four)) (drop 4 bytes) ≡ crc HighFirst 0x1021 register bytes
  front_next register four word inside cut =
      let at : (j : ℕ) → j < 4 → get_or four j 0 ≡ get_or bytes j 0 = λ j here. ap (λ (xs : List ℕ). get_or xs j 0) cut ∙ get_or-take 4 bytes j 0 here in
      let number : from_be_bytes w32 four ≡ four_in bytes 0 =
      omega (arith, at 0 (omega arith), at 1 (omega arith), at 2 (omega arith), at 3 (omega arith))
      in
      rw number (four_next register 0 word (omega arith))

  -- eight bytes, as the array that they are cut into
  module _ (eights : List (List ℕ)) (k : ℕ) (cut : eights ≡ first_chunks 8 (length bytes / 8) bytes) (inside : k < length bytes / 8) where
    abbrev eight : ℕ
    eight = from_be_bytes w64 (get_or eights k [])

    halves : (eight / 2 ^ 32 ≡ four_in bytes (k * 8)) × (eight % 2 ^ 32 ≡ four_in bytes (k * 8 + 4))
    halves =
        let i : ℕ = k * 8 in
        let at : (j place : ℕ) → j < 8 → i + j ≡ place → get_or (get_or eights k []) j 0 ≡ get_or bytes place 0 =
        λ j place here is. chunk_byte bytes 8 (length bytes / 8) eights cut k j inside here ∙ ap (λ (m : ℕ). get_or bytes m 0) is
        in
        let high : four_in bytes i < 4294967296 = four_small i in
        let low : four_in bytes (i + 4) < 4294967296 = four_small (i + 4) in
        let whole : eight ≡ four_in bytes i * 4294967296 + four_in bytes (i + 4) =
        omega (
          arith,
          at 0 i (omega arith) (omega arith),
          at 1 (i + 1) (omega arith) (omega arith),
          at 2 (i + 2) (omega arith) (omega arith),
          at 3 (i + 3) (omega arith) (omega arith),
          at 4 (i + 4) (omega arith) (omega arith),
          at 5 (i + 4 + 1) (omega arith) (omega arith),
          at 6 (i + 4 + 2) (omega arith) (omega arith),
          at 7 (i + 4 + 3) (omega arith) (omega arith),
        )
        in
        (omega (arith, whole, high, low), omega (arith, whole, high, low))

    pub eights_kept : (register : ℕ) → register < 0x10000 → eight_steps register (eight / 2 ^ 32) (eight % 2 ^ 32) < 0x10000
    eights_kept register word = rw (halves.0, halves.1) (eight_kept register (k * 8) word)

    pub eights_next : (register : ℕ) → register < 0x10000
        → crc HighFirst 0x1021 (eight_steps register (eight / 2 ^ 32) (eight % 2 ^ 32)) (drop ((k + 1) * 8) bytes) ≡ crc HighFirst 0x1021 register (drop (k * 8) bytes)
    eights_next register word =
        let next : (k + 1) * 8 ≡ k * 8 + 8 = omega arith in
        rw (halves.0, halves.1, next) (eight_next register (k * 8) word (omega arith))
