-- `put_file` meets its contract: the name and the length over spaces, and the unit.
use native.Mathlib.Omega.{arith}
use Rattle.head.proofs.FilePuts.{file_put}
use Rattle.text.proofs.Decimals.{decimal_64}
use Rattle.text.proofs.Lengths.{length_spaces, either_short}
use Rattle.text.proofs.Writing.{short_put, text_put}
use Rattle.head.proofs.files.put_file.Goals as goal

pub returns : goal.returns
returns c =
    file_put _ _ c.requires (decimal_64 _ (omega arith)) (short_put (omega (arith, length_spaces 20)) c.put_spaces.ensures)
    (short_put c.requires c.put_text.ensures) c.put_right.ensures
    (text_put 6 c.word_for.ensures (either_short _ 6 _ _ (omega arith) (omega arith)) c.put_text-2.ensures)
