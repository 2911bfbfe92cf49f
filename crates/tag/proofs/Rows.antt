-- Rows of the claims' tables: an act that is chosen by a test comes to the row of that test, or to what the rows behind it say.
use Prim.Native.Nat.{ℕ}
use mathlib.Core.Bool.{Bool, true, false}
use mathlib.Core.List.{List, [], ◌∷◌}
use mathlib.Core.Path.{◌≡◌, refl}
use Rattle.std.specs.Prelude.{Err}
use Rattle.frame.specs.Bytes.{pick, first_of, bytes_of}
use Rattle.frame.specs.Frames.{frame_of, checked, check_of}
use Rattle.tag.specs.Answers.{tail, answer, changed}
use Rattle.tag.specs.Claims.{outcome, plain, tag_error}
use Rattle.image.specs.Image.{bank_at, view, word_at, epc_length, pc_and_epc}
use Rattle.tag.specs.Errors.{plain_byte, tag_byte, Verdict}
use Rattle.tag.specs.declared.errors.PlainError.{PlainError}
use Rattle.tag.specs.declared.errors.Refusal.TheVariants.{Plain, Tag}
use Rattle.tag.specs.declared.errors.TagError.{TagError}

pub plain_is : (image p : List ℕ) (e : PlainError) → outcome image p (Err (Plain e)) ≡ plain image (plain_byte e)
unfolding outcome answer changed frame_of checked check_of bytes_of
plain_is image p e = refl

pub tag_error_is : (image p : List ℕ) (e : TagError) → outcome image p (Err (Tag e)) ≡ tag_error image (tag_byte e)
unfolding outcome answer changed frame_of checked check_of bytes_of tail pc_and_epc view bank_at word_at epc_length
tag_error_is image p e = refl

-- the definition's test is the row's; the rows behind it are reached where it fails
pub row : (image p : List ℕ) (x : Verdict) {value : List ℕ × List ℕ}
    (y : Verdict) (rows : List (Bool × (List ℕ × List ℕ))) (last : List ℕ × List ℕ) {a b : Bool}
    → outcome image p x ≡ value
    → a ≡ b
    → (b ≡ false → outcome image p y ≡ first_of rows last)
    → outcome image p (pick a x y) ≡ first_of ((b, value) ∷ rows) last
unfolding pick first_of
row image p x y rows last {b = true} v h k = rw h v
row image p x y rows last {b = false} v h k = rw h (k refl)

pub plain_row : (image p : List ℕ) (e : PlainError) (y : Verdict) (rows : List (Bool × (List ℕ × List ℕ))) (last : List ℕ × List ℕ) {a b : Bool}
    → a ≡ b
    → (b ≡ false → outcome image p y ≡ first_of rows last)
    → outcome image p (pick a (Err (Plain e)) y) ≡ first_of ((b, plain image (plain_byte e)) ∷ rows) last
plain_row image p e y rows last h k = row image p (Err (Plain e)) y rows last (plain_is image p e) h k

pub tag_row : (image p : List ℕ) (e : TagError) (y : Verdict) (rows : List (Bool × (List ℕ × List ℕ))) (last : List ℕ × List ℕ) {a b : Bool}
    → a ≡ b
    → (b ≡ false → outcome image p y ≡ first_of rows last)
    → outcome image p (pick a (Err (Tag e)) y) ≡ first_of ((b, tag_error image (tag_byte e)) ∷ rows) last
tag_row image p e y rows last h k = row image p (Err (Tag e)) y rows last (tag_error_is image p e) h k

pub last_row {ℓ} : {X : Type ℓ} {x last : X} → x ≡ last → x ≡ first_of [] last
unfolding first_of
last_row h = h
