-- `shifted_crc` meets its contract: what is worked, with the bytes left, is the whole CRC.
use Rattle.std.proofs.Common.{◌∙◌, arith}
use Rattle.crc.proofs.Folds.{eights_next}
use Rattle.crc.proofs.Tables.{Bytes}
use Rattle.crc.proofs.shifts.shifted_crc.Goals as goal

pub loop-eight-preserved : goal.loop-eight-preserved
loop-eight-preserved c =
    let bytes = c.args.bytes.now in
    let are : Bytes bytes = λ i. omega (arith, c.type_inv.bytes i) in
    let cut = c.as_chunks.ensures in (
      omega arith,
      rw (c.eight_bytes-worked.ensures, c.from_be_bytes.ensures)
          (eights_next bytes are c.as_chunks.result.0.now c.loop-eight.eight-index cut.front (omega arith) c.loop-eight.worked c.loop-eight.invariant.0
          ∙ c.loop-eight.invariant.1),
    )
