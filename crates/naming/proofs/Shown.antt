-- What is computed: the words of the errors, of the banks and of the commands.
use Prim.Native.Nat.{ℕ, ◌/◌, ◌%◌, ◌<◌}
use mathlib.Core.List.{append-nil}
use mathlib.Core.Path.{◌≡◌, refl}
use native.Mathlib.Omega.{arith}
use Rattle.frame.specs.Bytes.{pick, first_of}
use Rattle.naming.specs.Claims.{ErrorTable, BankNames, CommandTable, CommandWords, NoPassword}
use Rattle.naming.specs.Commands.{bank_name, aim_text, bits_text, lock_text, fields_text, command_text}
use Rattle.naming.specs.Errors.{tag_words, error_words, error_text}
use Rattle.text.specs.Digits.{hex_digit, hex_byte, width_by, width, digits, decimal}

pub error_table : ErrorTable
unfolding pick first_of tag_words error_words error_text hex_digit hex_byte
error_table = refl

pub bank_names : BankNames
unfolding pick bank_name
bank_names = refl

pub command_table : (password : ℕ) → CommandTable password
unfolding pick bank_name aim_text bits_text lock_text fields_text command_text hex_digit hex_byte width_by width digits decimal
command_table password = record { inventory = refl; read = refl; write = refl; lock = refl; kill = refl; malformed = refl }

pub no_password : (code p q : ℕ) → NoPassword code p q
unfolding command_text fields_text
no_password code p q = record { read = λ _ _ _. refl; write = λ _ _ _. refl; lock = λ _ _. refl; kill = refl }

-- two digits hold the upper byte of a number of sixteen bits
upper : (n : ℕ) → n < 65536 → n / 256 % 256 ≡ n / 256
upper n small = omega arith

pub command_words : (code password : ℕ) → CommandWords code password
unfolding command_text fields_text aim_text bits_text lock_text
command_words code password =
    record {
      inventory = refl;
      read = λ bank pointer count. refl;
      write = λ bank pointer count. refl;
      lock = λ mask action m a. rw (upper mask m, upper action a);
      kill = refl;
      malformed = append-nil (hex_byte code);
    }
