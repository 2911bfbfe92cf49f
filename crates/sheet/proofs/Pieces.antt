-- The sheet in pieces: the law of a text that is told part by part.
use Prim.Native.Nat.{ℕ, suc}
use mathlib.Core.Bool.{false}
use mathlib.Core.List.{List}
use mathlib.Core.Path.{◌≡◌}
use native.Mathlib.Omega.{arith}
use Rattle.machine.specs.Machine.{work}
use Rattle.sheet.proofs.Tellings.{falls}
use Rattle.sheet.specs.Claims.{PieceByPiece, PiecesAreTheText, EnoughPieces}
use Rattle.sheet.specs.Sheet.{Standing, teller}
use Rattle.text.proofs.Told.{left_is, splits, whole, enough}
use Rattle.text.specs.Telling.{left}

pub piece_by_piece : PieceByPiece
piece_by_piece input room over s = splits (teller input) (falls input) 1024 room over s

pub pieces_are_the_text : PiecesAreTheText
pieces_are_the_text input rooms s ended = whole (teller input) (falls input) 1024 rooms s ended

all_work : (input : List ℕ) (s : Standing) → left (teller input) false s ≡ suc (work input s.bench)
unfolding teller
all_work input s = left_is (teller input) (falls input) s

pub enough_pieces : EnoughPieces
enough_pieces input room s h = enough (teller input) (falls input) 1024 (suc (work input s.bench)) room false s h (omega (arith, all_work input s))
