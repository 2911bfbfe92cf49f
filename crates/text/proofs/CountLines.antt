-- How long the lines of the counts and of the refused number are, and what they are.
use Prim.Native.Nat.{ℕ, ◌+◌, ◌≤◌, ◌<◌}
use lib.ListN.{length, length-append}
use mathlib.Core.List.{List, [], ◌∷◌, ◌++◌, append_assoc}
use mathlib.Core.Path.{◌≡◌, refl}
use native.Mathlib.Omega.{arith}
use Rattle.reader.specs.declared.tally.Tally.{Tally}
use Rattle.text.proofs.Decimals.{decimal_64}
use Rattle.text.specs.Claims.{CountsInOrder, RefusedNumber}
use Rattle.text.specs.Counts.{good_word, error_word, dropped_word, space_word, left_word, refused_word, count_part, two_counts, tally_part, counts_line, refused_line}
use Rattle.text.specs.Digits.{decimal}

-- ---- how long they are

-- a number of 64 bits
abbrev pub Small : ℕ → Type 0
Small n = n < 18446744073709551616

pub count_short : (word : List ℕ) (n : ℕ) → Small n → length (count_part word n) ≤ length word + 20
unfolding count_part
count_short word n small = omega (arith, length-append word (decimal n), decimal_64 n small)

two_short : (first : List ℕ) (m : ℕ) (second : List ℕ) (n : ℕ) → Small m → Small n
    → length (two_counts first m second n) ≤ length first + 20 + length second + 20
unfolding two_counts
two_short first m second n small-m small_n =
    omega (arith, length-append (count_part first m) (count_part second n), count_short first m small-m, count_short second n small_n)

-- every number of a tally has 64 bits
pub record SmallTally (t : Tally) : Type 0 where
  pub good_small : Small t.good
  pub error_small : Small t.error
  pub header_small : Small t.header
  pub kind_small : Small t.kind
  pub long_small : Small t.long
  pub check_small : Small t.check
  pub end_small : Small t.end

tally_short : (t : Tally) → SmallTally t → length (tally_part t) ≤ 165
unfolding tally_part good_word error_word dropped_word space_word
tally_short t small =
    let a = two_short good_word t.good error_word t.error small.good_small small.error_small in
    let b = two_short dropped_word t.header space_word t.kind small.header_small small.kind_small in
    let c = two_short space_word t.long space_word t.check small.long_small small.check_small in
    let d = count_short space_word t.end small.end_small in
    simp length-append (omega (arith, a, b, c, d))

pub counts_short : (t : Tally) (left : ℕ) → SmallTally t → Small left → length (counts_line t left) ≤ 192
unfolding counts_line left_word
counts_short t left small small-left =
    let a = tally_short t small in
    let b = count_short left_word left small-left in
    simp length-append (omega (arith, a, b))

pub refused_short : (n : ℕ) → Small n → length (refused_line n) ≤ 29
unfolding refused_line refused_word
refused_short n small = omega (arith, length-append (count_part refused_word n) (10 ∷ []), count_short refused_word n small)

-- ---- the claims

regroup : (a b c d e f g l n : List ℕ) → (((((a ++ b) ++ (c ++ d)) ++ (e ++ f)) ++ g) ++ l) ++ n ≡ a ++ (b ++ (c ++ (d ++ (e ++ (f ++ (g ++ (l ++ n)))))))
regroup a b c d e f g l n = simp append_assoc

pub counts_in_order : CountsInOrder
unfolding good_word error_word dropped_word space_word left_word count_part two_counts tally_part counts_line
counts_in_order t left =
    regroup (count_part good_word t.good) (count_part error_word t.error) (count_part dropped_word t.header) (count_part space_word t.kind)
    (count_part space_word t.long) (count_part space_word t.check) (count_part space_word t.end) (count_part left_word left) (10 ∷ [])

pub refused_number : RefusedNumber
unfolding refused_word count_part refused_line
refused_number n = refl
