-- `put_cell` meets its contract: nothing, or the number and the word.
use mathlib.Core.Path.{refl, ap}
use native.Mathlib.Omega.{arith}
use Rattle.rows.proofs.Reasons.{no_cell, no_more, a_cell, one_more}
use Rattle.text.proofs.Decimals.{decimal_64}
use Rattle.text.proofs.Writing.{short_put, word_put, text_put, put_behind}
use Rattle.text.specs.Digits.{decimal}
use Rattle.rows.proofs.drops.put_cell.Goals as goal

pub returns-then-n-eq0-clause-cell : goal.returns-then-n-eq0-clause-cell
returns-then-n-eq0-clause-cell c =
    record { same_reference = refl; same_length = refl; bytes_are = no_cell _ _ _ _ _ c.if-n-eq0.true }

pub returns-then-n-eq0-clause-value : goal.returns-then-n-eq0-clause-value
returns-then-n-eq0-clause-value c = no_more _ _ c.if-n-eq0.true

pub returns-clause-cell : goal.returns-clause-cell
returns-clause-cell c =
    let number = text_put 20 (ap decimal c.from.ensures) (decimal_64 c.args.n (omega arith)) c.put_decimal.ensures in
    let cell = put_behind (put_behind number (word_put c.put_text.ensures)) (short_put {most = 11} c.requires.word_len_bound c.put_text-2.ensures) in
    record {
      same_reference = cell.same_reference;
      same_length = cell.same_length;
      bytes_are = a_cell _ _ _ _ _ _ _ c.if-n-eq0.false (cell.put (omega arith));
    }

pub returns-clause-value : goal.returns-clause-value
returns-clause-value c = one_more _ _ c.if-n-eq0.false
