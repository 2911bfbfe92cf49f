-- `bound_crc` meets its contract: with the two tables of a direction, what is looked up is the plain number.
use Rattle.std.proofs.Common.{◌<◌, ◌^◌, ◌∙◌, rules, arith}
use Rattle.crc.specs.Tables.{near_table, far_table, polynomial_of}
use Rattle.crc.specs.declared.Direction.{Direction}
use Rattle.crc.specs.declared.Direction.TheVariants.{HighFirst, LowFirst}
use Rattle.crc.proofs.Tables.{Bytes, by_tables}
use Rattle.crc.proofs.lookup.bound_crc.Goals as goal

small : (direction : Direction) → polynomial_of direction < 2 ^ 16
unfolding polynomial_of
small HighFirst = omega arith
small LowFirst = omega arith

pub returns : goal.returns
unfolding near_table far_table
returns c =
    let given = c.args in
    let bytes : Bytes given.bytes.now = λ i. omega (arith, c.type_inv.bytes i) in
    let word : given.register < 0x10000 = search rules in
    c.crc_of.ensures
    ∙ by_tables given.direction (polynomial_of given.direction) (small given.direction)
    c.near.result c.far.result c.near.ensures c.far.ensures given.register given.bytes.now word bytes
