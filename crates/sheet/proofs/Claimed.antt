-- Every claim of specs/Claims.antt holds.
use Prim.Native.Nat.{ℕ}
use mathlib.Core.List.{List}
use Rattle.sheet.proofs.Balancing as Balancing
use Rattle.sheet.proofs.Itemising as Itemising
use Rattle.sheet.proofs.Measuring as Measuring
use Rattle.sheet.proofs.Numbered as Numbered
use Rattle.sheet.proofs.Ordering as Ordering
use Rattle.sheet.proofs.Pieces as Pieces
use Rattle.sheet.proofs.Secrets as Secrets
use Rattle.sheet.proofs.Shown as Shown
use Rattle.sheet.proofs.Summing as Summing
use Rattle.sheet.proofs.Together as Together
use Rattle.sheet.specs.Claims.{EveryFailureOnce, RowForEachItem, RowsInTurn, BegunThere, ItemsCounted, BalanceHolds, ReasonsSummed, BytesOfDrops, Rising, DropsTogether, CommandsShown, SameSheet, PieceByPiece, PiecesAreTheText, EnoughPieces}

-- ---- the items

pub every_failure_once : EveryFailureOnce
every_failure_once = Itemising.every_failure_once

pub row_for_each_item : RowForEachItem
row_for_each_item = Numbered.row_for_each_item

pub rows_in_turn : RowsInTurn
rows_in_turn = Shown.rows_in_turn

pub begun_there : BegunThere
begun_there = Shown.begun_there

pub items_counted : ItemsCounted
items_counted = Numbered.items_counted

pub balance_holds : BalanceHolds
balance_holds = Balancing.balance_holds

pub reasons_summed : ReasonsSummed
reasons_summed = Summing.reasons_summed

pub bytes_of_drops : BytesOfDrops
bytes_of_drops = Measuring.bytes_of_drops

pub rising : Rising
rising = Ordering.rising

pub drops_together : DropsTogether
drops_together = Together.drops_together

-- ---- the commands, and the passwords

pub commands_shown : (before behind : List ℕ) (p q r s d e : ℕ) → CommandsShown before behind p q r s d e
commands_shown = Shown.commands_shown

pub same_sheet : SameSheet
same_sheet = Secrets.same_sheet

-- ---- its pieces

pub piece_by_piece : PieceByPiece
piece_by_piece = Pieces.piece_by_piece

pub pieces_are_the_text : PiecesAreTheText
pieces_are_the_text = Pieces.pieces_are_the_text

pub enough_pieces : EnoughPieces
enough_pieces = Pieces.enough_pieces
