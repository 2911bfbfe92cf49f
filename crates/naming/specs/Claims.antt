-- The claims page of the words of the sheet: how it calls each error answer and each command, as literal text. Each statement is proved in
-- proofs/Claimed.antt.
use Rattle.std.specs.Prelude.{ℕ, ◌/◌, ◌%◌, ◌≤◌, ◌<◌, Bool, true, ◌&&◌, List, [], ◌∷◌, ◌++◌, map, ◌≡◌, leb, length}
use Rattle.naming.specs.Commands.{bank_name, command_text}
use Rattle.naming.specs.Errors.{error_text}
use Rattle.tag.specs.declared.commands.Parsed.{Parsed}
use Rattle.tag.specs.declared.commands.Parsed.TheVariants.{Malformed, Inventory, Read, Write, Lock, Kill}
use Rattle.text.specs.Digits.{hex_byte, decimal}
use Rattle.text.specs.Words.{ascii}

-- "Words for every error byte and reason of README's tables."
abbrev pub ErrorTable : Type 0
ErrorTable =
    map error_text (0x17 ∷ 0x15 ∷ 0x09 ∷ 0x10 ∷ 0x13 ∷ 0x12 ∷ 0x16 ∷ 0xA3 ∷ 0xB3 ∷ 0xA4 ∷ 0xB4 ∷ 0xC3 ∷ 0xC4 ∷ 0xD0 ∷ [])
    -- "the code is not listed, or a field of the command is wrong"
    ≡ ascii "17 code not listed, or a wrong field"
    -- "Inventory, Read, Write, Lock, Kill: no tag that matches is present"; "13 also: the tag is not secured for a Lock; 12 also: another kill password"
    ∷ ascii "15 no tag present that matches"
    ∷ ascii "09 no tag present that matches"
    ∷ ascii "10 no tag present that matches"
    ∷ ascii "13 no tag present, or not secured"
    ∷ ascii "12 no tag, or another kill password"
    -- "the access password is wrong"
    ∷ ascii "16 wrong access password"
    -- "the bank does not have these words; B3 also: a new PC whose length does not fit the EPC bank"
    ∷ ascii "A3 the bank has no such words"
    ∷ ascii "B3 no such words, or PC does not fit"
    -- "a touched region is locked; B4 also: a Write names EPC word 0"
    ∷ ascii "A4 region locked"
    ∷ ascii "B4 region locked, or EPC word 0"
    -- "the mask touches User, and the tag has no User words"
    ∷ ascii "C3 the tag has no User words"
    -- "a region whose permalock bit is set is asked to clear it, or to change its password bit alone"
    ∷ ascii "C4 a permalocked region would change"
    -- "no kill password is stored"
    ∷ ascii "D0 no kill password is stored"
    ∷ []

-- "Bank numbers: 0 Reserved, 1 EPC, 2 TID, 3 User."
abbrev pub BankNames : Type 0
BankNames = map bank_name (0 ∷ 1 ∷ 2 ∷ 3 ∷ []) ≡ ascii "Reserved" ∷ ascii "EPC" ∷ ascii "TID" ∷ ascii "User" ∷ []

-- "The command is decoded from the input at the record's cursor: code, name, bank, pointer and count of a Read or Write, mask and action of a Lock": here for
-- every password. "A malformed command shows its code and no fields."
pub record CommandTable (password : ℕ) : Type 0 where
  pub inventory : command_text 0x22 Inventory ≡ ascii "22 Inventory"
  pub read : command_text 0x39 (Read password 3 7 2) ≡ ascii "39 Read User 7+2"
  pub write : command_text 0x49 (Write password 1 65535 32) ≡ ascii "49 Write EPC 65535+32"
  pub lock : command_text 0x82 (Lock password 0x203 0x080) ≡ ascii "82 Lock mask 0203 action 0080"
  pub kill : command_text 0x65 (Kill password) ≡ ascii "65 Kill"
  pub malformed : command_text 0x77 Malformed ≡ ascii "77"

-- and so for all fields: nothing of them is left out, and nothing else is there
pub record CommandWords (code password : ℕ) : Type 0 where
  pub inventory : command_text code Inventory ≡ hex_byte code ++ ascii " Inventory"
  pub read : (bank pointer count : ℕ)
      → command_text code (Read password bank pointer count) ≡ hex_byte code ++ (ascii " Read " ++ (bank_name bank ++ ascii " " ++ decimal pointer ++ ascii "+" ++ decimal count))
  pub write : (bank pointer count : ℕ)
      → command_text code (Write password bank pointer count) ≡ hex_byte code ++ (ascii " Write " ++ (bank_name bank ++ ascii " " ++ decimal pointer ++ ascii "+" ++ decimal count))
  pub lock : (mask action : ℕ) → mask < 65536 → action < 65536
      → command_text code (Lock password mask action)
      ≡ hex_byte code ++ (ascii " Lock mask " ++ (hex_byte (mask / 256) ++ hex_byte (mask % 256)) ++ ascii " action " ++ (hex_byte (action / 256) ++ hex_byte (action % 256)))
  pub kill : command_text code (Kill password) ≡ hex_byte code ++ ascii " Kill"
  pub malformed : command_text code Malformed ≡ hex_byte code

-- "Never a password": commands that differ in their passwords alone are shown the same.
pub record NoPassword (code p q : ℕ) : Type 0 where
  pub read : (bank pointer count : ℕ) → command_text code (Read p bank pointer count) ≡ command_text code (Read q bank pointer count)
  pub write : (bank pointer count : ℕ) → command_text code (Write p bank pointer count) ≡ command_text code (Write q bank pointer count)
  pub lock : (mask action : ℕ) → command_text code (Lock p mask action) ≡ command_text code (Lock q mask action)
  pub kill : command_text code (Kill p) ≡ command_text code (Kill q)

-- ---- "fixed width, 100 columns at most"

-- The command begins in column 20, the result in column 50, and the boxes in column 90: a space is left before the next. A command has "pointer (2)" and
-- "count .. 1 to 32".
pub record ColumnsApart : Type 0 where
  pub malformed : (code : ℕ) → length (command_text code Malformed) ≤ 29
  pub inventory : (code : ℕ) → length (command_text code Inventory) ≤ 29
  pub read : (code p bank pointer count : ℕ) → pointer < 65536 → count ≤ 32 → length (command_text code (Read p bank pointer count)) ≤ 29
  pub write : (code p bank pointer count : ℕ) → pointer < 65536 → count ≤ 32 → length (command_text code (Write p bank pointer count)) ≤ 29
  pub lock : (code p mask action : ℕ) → length (command_text code (Lock p mask action)) ≤ 29
  pub kill : (code p : ℕ) → length (command_text code (Kill p)) ≤ 29
  pub error : (e : ℕ) → length (error_text e) ≤ 36

-- "plain ASCII": bytes from the space to `~`
abbrev pub printed : List ℕ → Bool
printed [] = true
printed (b ∷ bytes) = (leb 32 b && leb b 126) && printed bytes

-- whatever the fields are; the code and the error are bytes
pub record PlainText : Type 0 where
  pub command : (code : ℕ) (parsed : Parsed) → code < 256 → printed (command_text code parsed) ≡ true
  pub error : (e : ℕ) → e < 256 → printed (error_text e) ≡ true
