-- How long the text of a command or of an error answer is at most.
use Prim.Native.Nat.{ℕ, zero, suc, ◌+◌, ◌/◌, ◌%◌, ◌^◌, ◌≤◌, ◌<◌}
use borrow.Author.Tests.{ltb-true, ltb-false}
use denote.Enum.Declared.{row}
use denote.Enum.Laws.{owed}
use denote.Laws.{Is}
use lib.Dec.{eqb, ltb}
use lib.ListN.{length, length-append}
use mathlib.Core.List.{List}
use mathlib.Core.Path.{refl}
use mir.Val.{Val}
use native.Mathlib.Omega.{arith}
use Rattle.frame.proofs.Picks.{by_test}
use Rattle.frame.proofs.Tests.{either}
use Rattle.naming.proofs.ErrorTexts.{error_words_short}
use Rattle.naming.specs.Claims.{ColumnsApart}
use Rattle.naming.specs.Commands.{bank_name, aim_text, bits_text, lock_text, fields_text, command_text}
use Rattle.naming.specs.Errors.{error_text}
use Rattle.tag.specs.contracts.commands.Parsed.{the_type}
use Rattle.tag.proofs.commands.Parsed.TheLaws.{the_laws}
use Rattle.tag.specs.declared.commands.Parsed.{Parsed}
use Rattle.tag.specs.declared.commands.Parsed.TheVariants.{Malformed, Inventory, Read, Write, Lock, Kill}
use Rattle.text.proofs.Lengths.{hex_short}
use Rattle.text.proofs.Decimals.{width_one, width_more, length_decimal, decimal_64}
use Rattle.text.specs.Digits.{width, decimal}

width_most : (k n : ℕ) → n < 10 ^ suc k → width n ≤ suc k
width_most zero n h = omega (arith, width_one n (omega arith))
width_most (suc k) n h =
    either (ltb n 10) (λ t. omega (arith, width_one n (ltb-true n 10 t)))
    (λ t. omega (arith, width_more n (ltb-false n 10 t), width_most k (n / 10) (omega arith)))

pub decimal_most : (k n : ℕ) → n < 10 ^ suc k → length (decimal n) ≤ suc k
decimal_most k n h = omega (arith, length_decimal n (width n) refl, width_most k n h)

pub bank_short : (bank : ℕ) → length (bank_name bank) ≤ 8
unfolding bank_name
bank_short bank =
    by_test (λ (text : List ℕ). length text ≤ 8) (eqb bank 0) (λ _. omega arith)
    (λ _.
    by_test (λ (text : List ℕ). length text ≤ 8) (eqb bank 1) (λ _. omega arith)
    (λ _. by_test (λ (text : List ℕ). length text ≤ 8) (eqb bank 2) (λ _. omega arith) (λ _. omega arith)))

-- by the digits of the pointer and of the count
aim_short : (bank pointer count p q : ℕ) → length (decimal pointer) ≤ p → length (decimal count) ≤ q → length (aim_text bank pointer count) ≤ 10 + p + q
unfolding aim_text
aim_short bank pointer count p q from words = simp length-append (omega (arith, bank_short bank))

bits_short : (bits : ℕ) → length (bits_text bits) ≤ 4
unfolding bits_text
bits_short bits = simp length-append (omega (arith, hex_short (bits / 256 % 256), hex_short (bits % 256)))

lock_short : (mask action : ℕ) → length (lock_text mask action) ≤ 27
unfolding lock_text
lock_short mask action = simp length-append (omega (arith, bits_short mask, bits_short action))

fields_malformed : length (fields_text Malformed) ≤ 27
unfolding fields_text
fields_malformed = omega arith

fields_inventory : length (fields_text Inventory) ≤ 27
unfolding fields_text
fields_inventory = omega arith

fields_read : (password bank pointer count p q : ℕ) → length (decimal pointer) ≤ p → length (decimal count) ≤ q
    → length (fields_text (Read password bank pointer count)) ≤ 17 + p + q
unfolding fields_text
fields_read password bank pointer count p q from words = simp length-append (omega (arith, aim_short bank pointer count p q from words))

fields_write : (password bank pointer count p q : ℕ) → length (decimal pointer) ≤ p → length (decimal count) ≤ q
    → length (fields_text (Write password bank pointer count)) ≤ 17 + p + q
unfolding fields_text
fields_write password bank pointer count p q from words = simp length-append (omega (arith, aim_short bank pointer count p q from words))

fields_lock : (password mask action : ℕ) → length (fields_text (Lock password mask action)) ≤ 27
unfolding fields_text
fields_lock password mask action = lock_short _ _

fields_kill : (password : ℕ) → length (fields_text (Kill password)) ≤ 27
unfolding fields_text
fields_kill password = omega arith

command_short : (code : ℕ) (parsed : Parsed) (most : ℕ) → length (fields_text parsed) ≤ most → length (command_text code parsed) ≤ 2 + most
unfolding command_text
command_short code parsed most few = simp length-append (omega (arith, hex_short code))

-- a command that a function is handed: its pointer and its count are numbers of 64 bits
fields_64 : (parsed : Parsed) (values : List Val) → Is (row the_type) parsed values → length (fields_text parsed) ≤ 57
fields_64 Malformed values good = omega (arith, fields_malformed)
fields_64 Inventory values good = omega (arith, fields_inventory)
fields_64 (Read password bank pointer count) values good =
    let numbers = owed the_type the_laws (Read password bank pointer count) values good in
    fields_read password bank pointer count 20 20 (decimal_64 pointer (omega (arith, numbers))) (decimal_64 count (omega (arith, numbers)))
fields_64 (Write password bank pointer count) values good =
    let numbers = owed the_type the_laws (Write password bank pointer count) values good in
    fields_write password bank pointer count 20 20 (decimal_64 pointer (omega (arith, numbers))) (decimal_64 count (omega (arith, numbers)))
fields_64 (Lock password mask action) values good = omega (arith, fields_lock password mask action)
fields_64 (Kill password) values good = omega (arith, fields_kill password)

pub command_64 : (code : ℕ) (parsed : Parsed) (values : List Val) → Is (row the_type) parsed values → length (command_text code parsed) ≤ 59
command_64 code parsed values good = command_short code parsed 57 (fields_64 parsed values good)

pub error_short : (e : ℕ) → length (error_text e) ≤ 36
unfolding error_text
error_short e = simp length-append (omega (arith, hex_short e, error_words_short e))

pub columns_apart : ColumnsApart
columns_apart =
    record {
      malformed = λ code. command_short code Malformed 27 fields_malformed;
      inventory = λ code. command_short code Inventory 27 fields_inventory;
      read = λ code p bank pointer count h k.
          command_short code (Read p bank pointer count) 27
          (omega (arith, fields_read p bank pointer count 5 2 (decimal_most 4 pointer (omega arith)) (decimal_most 1 count (omega arith))));
      write = λ code p bank pointer count h k.
          command_short code (Write p bank pointer count) 27
          (omega (arith, fields_write p bank pointer count 5 2 (decimal_most 4 pointer (omega arith)) (decimal_most 1 count (omega arith))));
      lock = λ code p mask action. command_short code (Lock p mask action) 27 (fields_lock p mask action);
      kill = λ code p. command_short code (Kill p) 27 (fields_kill p);
      error = error_short;
    }
