-- What the sheet calls a command and an error answer is of bytes from the space to `~`.
use Prim.Native.Nat.{ℕ, zero, suc, ◌+◌, ◌/◌, ◌%◌, ◌≤◌, ◌<◌}
use borrow.Author.Tests.{le-leb}
use lib.Dec.{eqb, leb, ltb}
use mathlib.Core.Bool.{Bool, true, ◌&&◌, and_assoc}
use mathlib.Core.List.{List, [], ◌∷◌, ◌++◌}
use mathlib.Core.Path.{◌≡◌, refl, sym}
use native.Mathlib.Omega.{arith}
use Rattle.frame.proofs.Picks.{by_test}
use Rattle.frame.proofs.Tests.{and_left, and_right, and_both}
use Rattle.frame.specs.Bytes.{first_of}
use Rattle.naming.specs.Claims.{printed, PlainText}
use Rattle.naming.specs.Commands.{bank_name, aim_text, bits_text, lock_text, fields_text, command_text}
use Rattle.naming.specs.Errors.{tag_words, error_words, error_text}
use Rattle.tag.specs.declared.commands.Parsed.{Parsed}
use Rattle.tag.specs.declared.commands.Parsed.TheVariants.{Malformed, Inventory, Read, Write, Lock, Kill}
use Rattle.text.specs.Digits.{hex_digit, hex_byte, width, digits, decimal}

abbrev pub is_printed : ℕ → Bool
is_printed b = leb 32 b && leb b 126

printable : (b : ℕ) → 32 ≤ b → b ≤ 126 → is_printed b ≡ true
printable b h k = and_both (leb 32 b) (leb b 126) (le-leb 32 b h) (le-leb b 126 k)

pub joined : (a b : List ℕ) → printed (a ++ b) ≡ (printed a && printed b)
joined [] b = refl
joined (x ∷ a) b = rw (joined a b) (sym (and_assoc (is_printed x) (printed a) (printed b)))

-- every text of a table
abbrev are_printed : List (Bool × List ℕ) → Bool
are_printed [] = true
are_printed (row ∷ rows) = printed row.1 && are_printed rows

first_printed : (rows : List (Bool × List ℕ)) (last : List ℕ) → are_printed rows ≡ true → printed last ≡ true → printed (first_of rows last) ≡ true
unfolding first_of
first_printed [] last all p = p
first_printed (row ∷ rows) last all p =
    by_test (λ (text : List ℕ). printed text ≡ true) row.0 (λ _. and_left (printed row.1) (are_printed rows) all)
    (λ _. first_printed rows last (and_right (printed row.1) (are_printed rows) all) p)

-- ---- numbers

digits_printed : (w n : ℕ) → printed (digits w n) ≡ true
unfolding digits
digits_printed zero n = refl
digits_printed (suc w) n = simp (joined, digits_printed w (n / 10), printable (48 + n % 10) (omega arith) (omega arith))

pub decimal_printed : (n : ℕ) → printed (decimal n) ≡ true
unfolding decimal
decimal_printed n = digits_printed (width n) n

hex_digit_printed : (n : ℕ) → n < 16 → is_printed (hex_digit n) ≡ true
unfolding hex_digit
hex_digit_printed n h =
    by_test (λ (b : ℕ). is_printed b ≡ true) (ltb n 10) (λ _. printable (48 + n) (omega arith) (omega arith)) (λ _. printable (55 + n) (omega arith) (omega arith))

hex_printed : (b : ℕ) → b < 256 → printed (hex_byte b) ≡ true
unfolding hex_byte
hex_printed b h =
    and_both (is_printed (hex_digit (b / 16))) (is_printed (hex_digit (b % 16)) && true) (hex_digit_printed (b / 16) (omega arith))
    (and_both (is_printed (hex_digit (b % 16))) true (hex_digit_printed (b % 16) (omega arith)) refl)

-- ---- commands and errors

bank_printed : (bank : ℕ) → printed (bank_name bank) ≡ true
unfolding bank_name
bank_printed bank =
    by_test (λ (text : List ℕ). printed text ≡ true) (eqb bank 0) (λ _. refl)
    (λ _.
    by_test (λ (text : List ℕ). printed text ≡ true) (eqb bank 1) (λ _. refl)
    (λ _. by_test (λ (text : List ℕ). printed text ≡ true) (eqb bank 2) (λ _. refl) (λ _. refl)))

aim_printed : (bank pointer count : ℕ) → printed (aim_text bank pointer count) ≡ true
unfolding aim_text
aim_printed bank pointer count = simp (joined, bank_printed, decimal_printed)

bits_printed : (bits : ℕ) → printed (bits_text bits) ≡ true
unfolding bits_text
bits_printed bits = simp (joined, hex_printed (bits / 256 % 256) (omega arith), hex_printed (bits % 256) (omega arith))

lock_printed : (mask action : ℕ) → printed (lock_text mask action) ≡ true
unfolding lock_text
lock_printed mask action = simp (joined, bits_printed)

fields_printed : (parsed : Parsed) → printed (fields_text parsed) ≡ true
unfolding fields_text
fields_printed Malformed = refl
fields_printed Inventory = refl
fields_printed (Read password bank pointer count) = simp aim_printed
fields_printed (Write password bank pointer count) = simp aim_printed
fields_printed (Lock password mask action) = lock_printed _ _
fields_printed (Kill password) = refl

pub command_printed : (code : ℕ) (parsed : Parsed) → code < 256 → printed (command_text code parsed) ≡ true
unfolding command_text
command_printed code parsed h = simp (joined, hex_printed code h, fields_printed)

tag_words_printed : (e : ℕ) → printed (tag_words e) ≡ true
unfolding tag_words
tag_words_printed e = first_printed _ _ refl refl

error_words_printed : (e : ℕ) → printed (error_words e) ≡ true
unfolding error_words
error_words_printed e = first_printed _ (tag_words e) refl (tag_words_printed e)

pub error_printed : (e : ℕ) → e < 256 → printed (error_text e) ≡ true
unfolding error_text
error_printed e h = simp (joined, hex_printed e h, error_words_printed)

pub plain_text : PlainText
plain_text = record { command = command_printed; error = error_printed }
