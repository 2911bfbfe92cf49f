-- What a row shows of a command, over the bytes of its frame; rows one behind the other; and where the sheet begins.
use Prim.Native.Nat.{ℕ}
use lib.ListN.{length}
use lib.Seq.{get_or-append-add, drop-append-add, drop-append_seam}
use mathlib.Core.List.{List, ◌++◌}
use mathlib.Core.Path.{◌≡◌, refl}
use Rattle.frame.specs.Bytes.{pick, byte, number, part}
use Rattle.machine.specs.Lent.{selection_in}
use Rattle.machine.specs.Machine.{code_at, parameters_at}
use Rattle.naming.specs.Commands.{command_text}
use Rattle.report.specs.Report.{fresh}
use Rattle.sheet.proofs.Computed.{opened}
use Rattle.sheet.specs.Claims.{shown_at, CommandsShown, RowsInTurn, BegunThere}
use Rattle.sheet.specs.Itemised.{rows_from}
use Rattle.sheet.specs.Sheet.{command_with, command_at}
use Rattle.tag.specs.Commands.{parse}

-- what stands before the frame is not looked at
at_the_frame : (before frame : List ℕ)
    → shown_at (before ++ frame) (length before) ≡ command_text (byte frame 2) (parse (byte frame 2) (part frame 5 (number frame 3)))
unfolding command_at command_with code_at parameters_at part byte
at_the_frame before frame = simp (get_or-append-add, drop-append-add, drop-append_seam)

pub commands_shown : (before behind : List ℕ) (p q r s d e : ℕ) → CommandsShown before behind p q r s d e
unfolding opened
commands_shown before behind p q r s d e =
    record {
      inventory = at_the_frame before _;
      read = at_the_frame before _;
      write = at_the_frame before _;
      lock = at_the_frame before _;
      kill = at_the_frame before _;
      not_listed = at_the_frame before _;
      short_read = at_the_frame before _;
      bank_four = at_the_frame before _;
      count_zero = at_the_frame before _;
      half_a_word = at_the_frame before _;
      top_bits = at_the_frame before _;
      half_a_password = at_the_frame before _;
      one_parameter = at_the_frame before _;
      set_select = at_the_frame before _;
    }

pub rows_in_turn : RowsInTurn
unfolding rows_from
rows_in_turn n input = record { none = refl; next = λ item items. refl }

pub begun_there : BegunThere
unfolding fresh selection_in pick
begun_there memory sizes = refl
