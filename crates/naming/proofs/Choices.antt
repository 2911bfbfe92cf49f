-- A text that is chosen by tests, once the tests are known.
use Prim.Native.Nat.{ℕ}
use borrow.Author.Tests.{ne_eqb}
use lib.Dec.{eqb}
use mathlib.Core.Bool.{Bool}
use mathlib.Core.List.{List, [], ◌∷◌}
use mathlib.Core.Path.{◌≡◌, refl, ◌∙◌}
use Rattle.frame.proofs.Picks.{pick_false}
use Rattle.frame.specs.Bytes.{first_of}
use Rattle.naming.specs.Commands.{bank_name}
use Rattle.naming.specs.Errors.{tag_words, error_words}
use Rattle.text.specs.Words.{ascii}

-- a row whose test fails is passed
first_not : (e k : ℕ) (text : List ℕ) (rows : List (Bool × List ℕ)) (last : List ℕ) → (e ≡ k → ⊥)
    → first_of rows last ≡ first_of ((eqb e k, text) ∷ rows) last
unfolding first_of
first_not e k text rows last other = simp (ne_eqb e k other, pick_false)

first_none : (last : List ℕ) → last ≡ first_of [] last
unfolding first_of
first_none last = refl

-- ---- the words of a byte that no table lists, and the name of a bank that is none of the first three

pub not_listed : (e : ℕ) → (e ≡ 0x16 → ⊥) → (e ≡ 0xA3 → ⊥) → (e ≡ 0xB3 → ⊥) → (e ≡ 0xA4 → ⊥) → (e ≡ 0xB4 → ⊥) → (e ≡ 0xC3 → ⊥) → (e ≡ 0xC4 → ⊥)
    → (e ≡ 0xD0 → ⊥) → ascii "not listed" ≡ tag_words e
unfolding tag_words
not_listed e a b c d f g h i =
    first_none _
    ∙ first_not _ _ _ _ _ i
    ∙ first_not _ _ _ _ _ h
    ∙ first_not _ _ _ _ _ g
    ∙ first_not _ _ _ _ _ f
    ∙ first_not _ _ _ _ _ d
    ∙ first_not _ _ _ _ _ c
    ∙ first_not _ _ _ _ _ b
    ∙ first_not _ _ _ _ _ a

pub other_error : (e : ℕ) → (e ≡ 0x17 → ⊥) → (e ≡ 0x15 → ⊥) → (e ≡ 0x09 → ⊥) → (e ≡ 0x10 → ⊥) → (e ≡ 0x13 → ⊥) → (e ≡ 0x12 → ⊥)
    → tag_words e ≡ error_words e
unfolding error_words
other_error e a b c d f g =
    first_none _
    ∙ first_not _ _ _ _ _ g
    ∙ first_not _ _ _ _ _ f
    ∙ first_not _ _ _ _ _ d
    ∙ first_not _ _ _ _ _ c
    ∙ first_not _ _ _ _ _ b
    ∙ first_not _ _ _ _ _ a

pub is_user : (bank : ℕ) → (bank ≡ 0 → ⊥) → (bank ≡ 1 → ⊥) → (bank ≡ 2 → ⊥) → ascii "User" ≡ bank_name bank
unfolding bank_name
is_user bank not_reserved not-epc not-tid = simp (ne_eqb bank 0 not_reserved, ne_eqb bank 1 not-epc, ne_eqb bank 2 not-tid, pick_false)
