-- `by_fours` meets its contract: what is worked, with the bytes left, is the whole CRC.
use Rattle.std.proofs.Common.{◌<◌, ap, ◌∙◌, rules, arith}
use Rattle.crc.proofs.Folds.{front_next}
use Rattle.crc.proofs.Tables.{Bytes}
use Rattle.crc.specs.Shifts.{four_steps}
use Rattle.crc.proofs.shifts.by_fours.Goals as goal

pub returns-in-Some : goal.returns-in-Some
returns-in-Some c =
    let given = c.args in
    let are : Bytes given.bytes.now = λ i. omega (arith, c.type_inv.bytes i) in
    let word : given.register < 0x10000 = search rules in
    let cut = c.in-Some.ensures.cases in
    let worked = c.four_bytes.ensures ∙ ap (four_steps given.register) c.from_be_bytes.ensures in
    c.by_twos.ensures ∙ rw (cut.1, worked) (front_next given.bytes.now are given.register c.in-Some.four.now word (omega (arith, cut.2)) cut.0)
