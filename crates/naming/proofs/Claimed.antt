-- Every claim of specs/Claims.antt holds.
use Prim.Native.Nat.{ℕ}
use Rattle.naming.proofs.Printed as printed
use Rattle.naming.proofs.Shown as shown
use Rattle.naming.proofs.Widths as widths
use Rattle.naming.specs.Claims.{ErrorTable, BankNames, CommandTable, CommandWords, NoPassword, ColumnsApart, PlainText}

pub error_table : ErrorTable
error_table = shown.error_table

pub bank_names : BankNames
bank_names = shown.bank_names

pub command_table : (password : ℕ) → CommandTable password
command_table = shown.command_table

pub command_words : (code password : ℕ) → CommandWords code password
command_words = shown.command_words

pub no_password : (code p q : ℕ) → NoPassword code p q
no_password = shown.no_password

pub columns_apart : ColumnsApart
columns_apart = widths.columns_apart

pub plain_text : PlainText
plain_text = printed.plain_text
