-- Every text of a row is of bytes from the space to `~`.
use Prim.Native.Nat.{ℕ}
use lib.Dec.{eqb}
use mathlib.Core.Bool.{true}
use mathlib.Core.List.{List, ◌++◌}
use mathlib.Core.Path.{◌≡◌, refl}
use Rattle.frame.proofs.Picks.{by_test}
use Rattle.naming.proofs.Printed.{joined, decimal_printed}
use Rattle.naming.specs.Claims.{printed}
use Rattle.rows.specs.Rows.{range_text, bytes_text, cell_text}

pub range_printed : (first last : ℕ) → printed (range_text first last) ≡ true
unfolding range_text
range_printed first last =
    by_test (λ (text : List ℕ). printed text ≡ true) (eqb first last) (λ _. decimal_printed first) (λ _. simp (joined, decimal_printed))

pub bytes_printed : (n : ℕ) → printed (bytes_text n) ≡ true
unfolding bytes_text
bytes_printed n =
    simp (joined, decimal_printed) (by_test (λ (text : List ℕ). printed text ≡ true) (eqb n 1) (λ _. refl) (λ _. refl))

-- a reason with its number
pub cell_printed : (n : ℕ) (word : List ℕ) → printed word ≡ true → printed (cell_text n word) ≡ true
unfolding cell_text
cell_printed n word p = simp (joined, decimal_printed, p)

-- how many bytes, and what became of them
pub fate_printed : (n : ℕ) (word : List ℕ) → printed word ≡ true → printed (bytes_text n ++ word) ≡ true
fate_printed n word p = simp (joined, bytes_printed, p)
