-- What the sheet shows of a command: its code, and where its fields are right its name and those of them that are no password and no data.
use Rattle.std.specs.Prelude.{ℕ, ◌/◌, ◌%◌, List, [], ◌++◌, eqb}
use Rattle.frame.specs.Bytes.{pick}
use Rattle.tag.specs.declared.commands.Parsed.{Parsed}
use Rattle.tag.specs.declared.commands.Parsed.TheVariants.{Malformed, Inventory, Read, Write, Lock, Kill}
use Rattle.text.specs.Digits.{hex_byte, decimal}
use Rattle.text.specs.Words.{ascii}

-- "Bank numbers: 0 Reserved, 1 EPC, 2 TID, 3 User."
unfoldable pub bank_name : ℕ → List ℕ
bank_name bank =
    pick (eqb bank 0) (ascii "Reserved") (pick (eqb bank 1) (ascii "EPC") (pick (eqb bank 2) (ascii "TID") (ascii "User")))

-- bank, pointer and count of a Read or a Write, as `User 7+2`
unfoldable pub aim_text : ℕ → ℕ → ℕ → List ℕ
aim_text bank pointer count = bank_name bank ++ ascii " " ++ decimal pointer ++ ascii "+" ++ decimal count

-- ten bits, in four hex digits
unfoldable pub bits_text : ℕ → List ℕ
bits_text bits = hex_byte (bits / 256 % 256) ++ hex_byte (bits % 256)

unfoldable pub lock_text : ℕ → ℕ → List ℕ
lock_text mask action = ascii " Lock mask " ++ bits_text mask ++ ascii " action " ++ bits_text action

-- "A malformed command shows its code and no fields."
unfoldable pub fields_text : Parsed → List ℕ
fields_text Malformed = []
fields_text Inventory = ascii " Inventory"
fields_text (Read password bank pointer count) = ascii " Read " ++ aim_text bank pointer count
fields_text (Write password bank pointer count) = ascii " Write " ++ aim_text bank pointer count
fields_text (Lock password mask action) = lock_text mask action
fields_text (Kill password) = ascii " Kill"

unfoldable pub command_text : ℕ → Parsed → List ℕ
command_text code parsed = hex_byte code ++ fields_text parsed
