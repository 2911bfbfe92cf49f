-- `put_drop_rows` meets its contract: as many rows as the reasons take, and each column laid over them.
use native.Mathlib.Omega.{arith}
use Rattle.rows.proofs.Reasons.{Short}
use Rattle.rows.proofs.RowPuts.{drop_rows_put}
use Rattle.text.proofs.Decimals.{decimal_64}
use Rattle.rows.proofs.row.put_drop_rows.Goals as goal

pub returns : goal.returns
returns c =
    let t = c.args.tally in
    let counts = c.well_formed.1.1.0 in
    let short : Short t
    = record {
      kind = decimal_64 t.kind (omega (arith, counts));
      long = decimal_64 t.long (omega (arith, counts));
      check = decimal_64 t.check (omega (arith, counts));
      end = decimal_64 t.end (omega (arith, counts));
      header = decimal_64 t.header (omega (arith, counts));
    } in
    drop_rows_put _ _ _ _ short (omega arith) c.reasons_in.ensures c.dropped_in.ensures.value c.put_blank.ensures c.put_right.ensures c.put_range.ensures
    c.put_fate.ensures c.put_reasons.ensures
