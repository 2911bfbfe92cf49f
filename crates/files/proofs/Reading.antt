-- Files that are read one behind the other: where the next one begins, and that it has room.
use Prim.Native.Nat.{ℕ, zero, suc, ◌+◌, ◌*◌, ◌≤◌, ◌<◌}
use lib.ListN.{length, take, get_or, set, length-set}
use lib.Seq.{take_all, take-set-le, get_or-set_same}
use mathlib.Core.List.{List, [], ◌∷◌}
use mathlib.Core.Path.{◌≡◌, refl, ap, ◌∙◌}
use native.Mathlib.Omega.{arith}
use Rattle.files.specs.Reads.{before_failure}
use Rattle.files.specs.declared.ReadError.{ReadError}
use Rattle.files.specs.declared.ReadError.TheVariants.{Unreadable}
use Rattle.frame.specs.Frames.{sum}
use Rattle.io.proofs.Counting.{prefix_len_of_le}
use Rattle.io.specs.Counts.{IsPrefixLen}

-- what had come of a file when a read failed
pub came : (e : ReadError) (n most : ℕ) → e ≡ Unreadable n → before_failure e ≤ most → n ≤ most
unfolding before_failure
came e n most is h = rw is at h

-- one file more
sum_next : (sizes : List ℕ) (i : ℕ) → sum (take (suc i) sizes) ≡ sum (take i sizes) + get_or sizes i 0
unfolding sum
sum_next [] zero = refl
sum_next [] (suc i) = refl
sum_next (n ∷ sizes) zero = omega arith
sum_next (n ∷ sizes) (suc i) = omega (arith, sum_next sizes i)

-- the first i files are read; the next one begins at `at`
pub record FilesRead (memory₀ sizes₀ memory sizes : List ℕ) (count at i : ℕ) : Type 0 where
  pub same_memory : length memory ≡ length memory₀
  pub same_sizes : length sizes ≡ length sizes₀
  pub memory_there : length memory ≡ 65536
  pub sizes_there : length sizes ≡ 17
  pub begins : at ≡ sum (take i sizes)
  pub little : at ≤ 3840 * i
  pub counted : count ≤ i
  pub within : i ≤ 17

pub none_read : (memory sizes : List ℕ) → length memory ≡ 65536 → length sizes ≡ 17 → FilesRead memory sizes memory sizes 0 0 0
unfolding sum
none_read memory sizes m n =
    record {
      same_memory = refl;
      same_sizes = refl;
      memory_there = m;
      sizes_there = n;
      begins = refl;
      little = omega arith;
      counted = omega arith;
      within = omega arith;
    }

module _ (memory₀ sizes₀ memory sizes : List ℕ) (count at i : ℕ) (f : FilesRead memory₀ sizes₀ memory sizes count at i) (h : i < 17) where
  pub one_more : (memory' : List ℕ) (got more : ℕ) → length memory' ≡ length memory → got ≤ 3840 → more ≤ i + 1
      → FilesRead memory₀ sizes₀ memory' (set sizes i got) more (at + got) (i + 1)
  one_more memory' got more same few prefix_len_of_le =
      let next : i + 1 ≡ suc i = omega arith in
      record {
        same_memory = same ∙ f.same_memory;
        same_sizes = length-set sizes i got ∙ f.same_sizes;
        memory_there = same ∙ f.memory_there;
        sizes_there = length-set sizes i got ∙ f.sizes_there;
        begins =
            omega (
              arith,
              f.begins,
              ap (λ (k : ℕ). sum (take k (set sizes i got))) next,
              sum_next (set sizes i got) i,
              ap sum (take-set-le i sizes i got (omega arith)),
              get_or-set_same sizes i got 0 (omega (arith, f.sizes_there)),
            );
        little = omega (arith, f.little);
        counted = prefix_len_of_le;
        within = omega arith;
      }

pub all_read : (memory₀ sizes₀ memory sizes : List ℕ) (count at i : ℕ) → FilesRead memory₀ sizes₀ memory sizes count at i → 17 ≤ i
    → IsPrefixLen count sizes × (IsPrefixLen at memory × (at ≡ sum sizes))
all_read memory₀ sizes₀ memory sizes count at i f h = (
  prefix_len_of_le count sizes (omega (arith, f.counted, f.within, f.sizes_there)),
  (
    prefix_len_of_le at memory (omega (arith, f.little, f.within, f.memory_there)),
    f.begins ∙ ap sum (take_all i sizes (omega (arith, f.sizes_there))),
  ),
)
