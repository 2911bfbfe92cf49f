-- How long the words of an error answer are at most.
use Prim.Native.Nat.{ℕ, ◌≤◌}
use borrow.Author.Tests.{leb-true}
use lib.Dec.{leb}
use lib.ListN.{length}
use mathlib.Core.Bool.{Bool, true, ◌&&◌}
use mathlib.Core.List.{List, [], ◌∷◌}
use mathlib.Core.Path.{◌≡◌, refl}
use native.Mathlib.Omega.{arith}
use Rattle.frame.proofs.Picks.{by_test}
use Rattle.frame.proofs.Tests.{and_left, and_right}
use Rattle.frame.specs.Bytes.{first_of}
use Rattle.naming.specs.Errors.{tag_words, error_words}

-- every text of a table is short
abbrev are_short : ℕ → List (Bool × List ℕ) → Bool
are_short most [] = true
are_short most (row ∷ rows) = leb (length row.1) most && are_short most rows

first_short : (most : ℕ) (rows : List (Bool × List ℕ)) (last : List ℕ) → are_short most rows ≡ true → length last ≤ most → length (first_of rows last) ≤ most
unfolding first_of
first_short most [] last all few = few
first_short most (row ∷ rows) last all few =
    by_test (λ (text : List ℕ). length text ≤ most) row.0 (λ _. leb-true _ _ (and_left (leb (length row.1) most) (are_short most rows) all))
    (λ _. first_short most rows last (and_right (leb (length row.1) most) (are_short most rows) all) few)

tag_words_short : (e : ℕ) → length (tag_words e) ≤ 33
unfolding tag_words
tag_words_short e = first_short 33 _ _ refl (omega arith)

pub error_words_short : (e : ℕ) → length (error_words e) ≤ 33
unfolding error_words
error_words_short e = first_short 33 _ _ refl (tag_words_short e)
