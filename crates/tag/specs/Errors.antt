-- Document 01, "The commands, checks in order": the byte of each error.
use Rattle.std.specs.Prelude.{ℕ, Result}
use Rattle.tag.specs.declared.commands.Act.{Act}
use Rattle.tag.specs.declared.errors.PlainError.{PlainError}
use Rattle.tag.specs.declared.errors.PlainError.TheVariants.{NotInventoried, NotRead, NotWritten, NotLocked, NotKilled, NoCommand}
use Rattle.tag.specs.declared.errors.Refusal.{Refusal}
use Rattle.tag.specs.declared.errors.TagError.{TagError}
use Rattle.tag.specs.declared.errors.TagError.TheVariants.{WrongPassword, ReadOutside, ReadLocked, WriteOutside, WriteLocked, NoUserWords, Permalocked, NoKillPassword}

-- 0x22: "State not 0: plain 15." 0x39: "plain 09". 0x49: "plain 10". 0x82: "plain 13". 0x65: "plain 12". "Any code not listed: plain 17."
unfoldable pub plain_byte : PlainError → ℕ
plain_byte NotInventoried = 0x15
plain_byte NotRead = 0x09
plain_byte NotWritten = 0x10
plain_byte NotLocked = 0x13
plain_byte NotKilled = 0x12
plain_byte NoCommand = 0x17

-- "Wrong password: tag error 16." 0x39: "Pointer + count above the bank's words: A3." "A touched password region not readable: A4." 0x49: "Range: B3."
-- "A touched region not writable: B4." 0x82: "Mask touches User and User has 0 words: C3." P3: "refuses the whole command with C4". 0x65: "Stored one zero: D0."
unfoldable pub tag_byte : TagError → ℕ
tag_byte WrongPassword = 0x16
tag_byte ReadOutside = 0xA3
tag_byte ReadLocked = 0xA4
tag_byte WriteOutside = 0xB3
tag_byte WriteLocked = 0xB4
tag_byte NoUserWords = 0xC3
tag_byte Permalocked = 0xC4
tag_byte NoKillPassword = 0xD0

-- what a command comes to: an act, or why it is refused
abbrev pub Verdict : Type 0
Verdict = Result Act Refusal
