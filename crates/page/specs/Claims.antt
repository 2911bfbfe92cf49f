-- The claims page of the whole page: that it is head, rows and foot, or the one line where there is no sheet, and that this is what is printed. Each statement is
-- proved in proofs/Claimed.antt.
use Rattle.std.specs.Prelude.{ℕ, suc, ◌+◌, ◌*◌, ◌≤◌, Bool, true, false, List, [], ◌∷◌, ◌++◌, ◌≢◌, ◌≡◌, length, replicate}
use Rattle.effects.specs.Sample.{sample}
use Rattle.foot.specs.Foot.{foot}
use Rattle.frame.specs.Bytes.{pick, part}
use Rattle.head.specs.Commands.{commands_in}
use Rattle.head.specs.Head.{head_of}
use Rattle.machine.specs.Claims.{inventories, Premises}
use Rattle.machine.specs.Machine.{call}
use Rattle.machine.specs.Secrecy.{accepted}
use Rattle.page.specs.Page.{sheet_of, printed_sheet, beginning, has_rows}
use Rattle.population.specs.Places.{good_population}
use Rattle.population.specs.declared.places.Place.{Place}
use Rattle.report.specs.Claims.{sample_commands}
use Rattle.report.specs.Report.{any_long, too_long, places_of, fresh}
use Rattle.sheet.specs.Claims.{GoesOn}
use Rattle.sheet.specs.Itemised.{advanced, itemised, rows_from}
use Rattle.sheet.specs.Sheet.{teller, begun_on}
use Rattle.text.specs.Telling.{pieces}
use Rattle.text.specs.Words.{ascii}

-- ---- head, rows and foot, or one line

-- On a good crate it is the head, a row for each item of the run, numbered from 1, and the foot, whose last line is `END OF SHEET`: k calls take something, and
-- the next one is answered 1 or 2. The head's "9 commands taken" is the number of commands that these calls accept.
abbrev pub GoodCrateSheet : Type 0
GoodCrateSheet =
    (is_crate : Bool) (commands memory sizes : List ℕ)
    → too_long (length commands) sizes ≡ false
    → good_population memory (length sizes) (places_of sizes) ≡ true
    → (k : ℕ)
    × (k ≤ length commands + 15 * inventories (accepted (replicate k (call commands)) (fresh memory sizes)))
    × GoesOn k commands (fresh memory sizes)
    × (commands_in commands ≡ length (accepted (replicate k (call commands)) (fresh memory sizes)))
    × (sheet_of is_crate commands memory sizes
    ≡ head_of is_crate commands sizes
    ++ (rows_from 1 commands (itemised k commands (begun_on memory sizes))
    ++ foot commands (advanced k commands (begun_on memory sizes)).bench.reader (advanced k commands (begun_on memory sizes)).items.count))

-- "`REFUSED n`, `TOO LONG`, `UNREADABLE`: that one line"
abbrev pub NoSheet : Type 0
NoSheet =
    (is_crate : Bool) (commands memory sizes : List ℕ)
    → (printed_sheet false is_crate commands memory sizes ≡ ascii "UNREADABLE" ++ (10 ∷ []))
    × ((too_long (length commands) sizes ≡ true → sheet_of is_crate commands memory sizes ≡ ascii "TOO LONG" ++ (10 ∷ []))
    × (too_long (length commands) sizes ≡ false → good_population memory (length sizes) (places_of sizes) ≡ false
    → sheet_of is_crate commands memory sizes ≡ ascii "REFUSED 11" ++ (10 ∷ [])))

-- ---- what is printed

-- files that were read to their ends give the sheet, and no other text
abbrev pub ReadableSheet : Type 0
ReadableSheet = (is_crate : Bool) (commands memory sizes : List ℕ) → printed_sheet true is_crate commands memory sizes ≡ sheet_of is_crate commands memory sizes

-- What a program prints that begins a page and then goes on piece by piece where rows follow, until it is over: the text of the files, whole. Of sizes among which one
-- is too long the places are not asked.
abbrev pub PagePrinted : Type 0
PagePrinted =
    (readable is_crate : Bool) (commands memory sizes rooms : List ℕ) (places : List Place)
    → (any_long sizes ≡ false → places ≡ places_of sizes)
    → (has_rows readable commands memory sizes places ≡ true → (pieces (teller commands) 1024 rooms false (begun_on memory sizes)).over ≡ true)
    → beginning readable is_crate commands memory sizes places
    ++ pick (has_rows readable commands memory sizes places) (pieces (teller commands) 1024 rooms false (begun_on memory sizes)).bytes []
    ≡ printed_sheet readable is_crate commands memory sizes

-- ---- the passwords

-- "the sheet of two runs under demand 3's premises is the same text": head, rows and foot, of a crate and of one with the memory n in the place of its own. The
-- run goes on for k calls, and the next one ends it.
abbrev pub SamePage : Type 0
SamePage =
    (k : ℕ) (is_crate : Bool) (commands memory n sizes : List ℕ) (differs : ℕ → Bool)
    → Premises (fresh memory sizes) n differs (replicate (suc k) (call commands)) (fresh n sizes)
    → GoesOn k commands (fresh memory sizes)
    → sheet_of is_crate commands memory sizes ≡ sheet_of is_crate commands n sizes

-- These premises can be met: by a tag whose passwords are other ones in the one run than in the other, and a Read with neither of them, which has a row.
pub record PremisesMet (k : ℕ) (commands memory n sizes : List ℕ) (differs : ℕ → Bool) : Type 0 where
  pub premises : Premises (fresh memory sizes) n differs (replicate (suc k) (call commands)) (fresh n sizes)
  pub goes_on : GoesOn k commands (fresh memory sizes)
  pub first_differs : differs 0 ≡ true
  pub other_passwords : part memory 24 8 ≢ part n 24 8
  pub one_item : length (itemised k commands (begun_on memory sizes)) ≡ 1

abbrev pub SamePageCanBeMet : Type 0
SamePageCanBeMet = (k : ℕ) × (commands : List ℕ) × (memory : List ℕ) × (n : List ℕ) × (sizes : List ℕ) × (differs : ℕ → Bool) × PremisesMet k commands memory n sizes differs

-- ---- pages as literal text

-- the sheet of document 01's sample: a byte that is dropped, and a Kill that is answered well
abbrev pub SampleSheet : Type 0
SampleSheet =
    sheet_of false sample_commands sample (86 ∷ [])
    ≡ (ascii "POLDRISK FAILURE SHEET" ++ (10 ∷ []))
    ++ (ascii "commands.bin      12 bytes, 1 command taken" ++ (10 ∷ []))
    ++ (ascii "tag.img           86 bytes" ++ (10 ∷ []))
    ++ ((10 ∷ []))
    ++ (ascii "ITEM   BYTE         COMMAND                       RESULT                                MEANT FAULT" ++ (10 ∷ []))
    ++ (ascii "   1   0            1 byte dropped                1 no header                             [ ]   [ ]" ++ (10 ∷ []))
    ++ ((10 ∷ []))
    ++ (ascii "GOOD 1 ERROR 0 DROPPED 1 0 0 0 0 LEFT 0" ++ (10 ∷ []))
    ++ (ascii "FAILURES 1 = ERROR 0 + DROPPED 1, ITEMS 1" ++ (10 ∷ []))
    ++ ((10 ∷ []))
    ++ (ascii "Line builder ______________________   Inspector ______________________   Date ____________" ++ (10 ∷ []))
    ++ (ascii "END OF SHEET" ++ (10 ∷ []))

-- An inventory, a Read behind the last word of its bank, the same frame with a wrong check, a code that is not listed, a Kill with another password, and the first two
-- bytes of a frame.
abbrev pub failing_commands : List ℕ
failing_commands =
    (0xBB ∷ 0x00 ∷ 0x22 ∷ 0x00 ∷ 0x00 ∷ 0x22 ∷ 0x7E ∷ [])
    ++ (0xBB ∷ 0x00 ∷ 0x39 ∷ 0x00 ∷ 0x09 ∷ 0x00 ∷ 0x00 ∷ 0xFF ∷ 0xFF ∷ 0x03 ∷ 0x00 ∷ 0x0F ∷ 0x00 ∷ 0x02 ∷ 0x54 ∷ 0x7E ∷ [])
    ++ (0xBB ∷ 0x00 ∷ 0x39 ∷ 0x00 ∷ 0x09 ∷ 0x00 ∷ 0x00 ∷ 0xFF ∷ 0xFF ∷ 0x03 ∷ 0x00 ∷ 0x0F ∷ 0x00 ∷ 0x02 ∷ 0x55 ∷ 0x7E ∷ [])
    ++ (0xBB ∷ 0x00 ∷ 0x77 ∷ 0x00 ∷ 0x00 ∷ 0x77 ∷ 0x7E ∷ [])
    ++ (0xBB ∷ 0x00 ∷ 0x65 ∷ 0x00 ∷ 0x04 ∷ 0x00 ∷ 0x00 ∷ 0x00 ∷ 0x01 ∷ 0x6A ∷ 0x7E ∷ [])
    ++ (0xBB ∷ 0x00 ∷ [])

abbrev pub FailingSheet : Type 0
FailingSheet =
    sheet_of false failing_commands sample (86 ∷ [])
    ≡ (ascii "POLDRISK FAILURE SHEET" ++ (10 ∷ []))
    ++ (ascii "commands.bin      59 bytes, 4 commands taken" ++ (10 ∷ []))
    ++ (ascii "tag.img           86 bytes" ++ (10 ∷ []))
    ++ ((10 ∷ []))
    ++ (ascii "ITEM   BYTE         COMMAND                       RESULT                                MEANT FAULT" ++ (10 ∷ []))
    ++ (ascii "   1   7            39 Read User 15+2             A3 the bank has no such words           [ ]   [ ]" ++ (10 ∷ []))
    ++ (ascii "   2   23-38        16 bytes dropped              1 wrong check     15 no header          [ ]   [ ]" ++ (10 ∷ []))
    ++ (ascii "   3   39           77                            17 code not listed, or a wrong field    [ ]   [ ]" ++ (10 ∷ []))
    ++ (ascii "   4   46           65 Kill                       12 no tag, or another kill password     [ ]   [ ]" ++ (10 ∷ []))
    ++ (ascii "   -   57-58        2 bytes waiting               not a whole frame                       [ ]   [ ]" ++ (10 ∷ []))
    ++ ((10 ∷ []))
    ++ (ascii "GOOD 1 ERROR 3 DROPPED 15 0 0 1 0 LEFT 2" ++ (10 ∷ []))
    ++ (ascii "FAILURES 19 = ERROR 3 + DROPPED 16, ITEMS 4" ++ (10 ∷ []))
    ++ ((10 ∷ []))
    ++ (ascii "Line builder ______________________   Inspector ______________________   Date ____________" ++ (10 ∷ []))
    ++ (ascii "END OF SHEET" ++ (10 ∷ []))
