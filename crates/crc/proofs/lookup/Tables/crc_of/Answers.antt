-- `crc_of` meets its contract: what is worked, with the bytes left, is the whole CRC.
use Rattle.std.proofs.Common.{◌≡◌, ℕ, ◌*◌, drop, ap, ◌∙◌, arith}
use Rattle.crc.proofs.Lookups.{pair_next, one_left, none_left}
use Rattle.crc.specs.Tables.{table_crc}
use Rattle.crc.proofs.lookup.Tables.crc_of.Goals as goal

pub loop-pair-preserved : goal.loop-pair-preserved
loop-pair-preserved c =
    let cut = c.as_chunks.ensures in
    rw c.two_bytes-worked.ensures
    (pair_next _ _ _ c.args.bytes.now c.as_chunks.result.0.now c.loop-pair.pair-index _ cut.front (omega arith)
    ∙ c.loop-pair.invariant)

pub returns-in-len1 : goal.returns-in-len1
returns-in-len1 c =
    let left : c.as_chunks.result.1.now ≡ drop (c.loop-pair.pair-index * 2) c.args.bytes.now =
    c.as_chunks.ensures.back ∙ ap (λ (i : ℕ). drop i c.args.bytes.now) (omega arith)
    in
    c.one_byte.ensures
    ∙ one_left _ _ _ c.as_chunks.result.1.now _ (omega arith)
    ∙ ap (table_crc c.args.self.now.direction c.args.self.now.near.now c.args.self.now.far.now c.loop-pair.worked) left
    ∙ c.loop-pair.invariant

pub returns-in_default : goal.returns-in_default
returns-in_default c =
    let left : c.as_chunks.result.1.now ≡ drop (c.loop-pair.pair-index * 2) c.args.bytes.now =
    c.as_chunks.ensures.back ∙ ap (λ (i : ℕ). drop i c.args.bytes.now) (omega arith)
    in
    none_left _ _ _ c.as_chunks.result.1.now _ (omega arith)
    ∙ ap (table_crc c.args.self.now.direction c.args.self.now.near.now c.args.self.now.far.now c.loop-pair.worked) left
    ∙ c.loop-pair.invariant
