-- `by_twos` meets its contract: what is worked, with the bytes left, is the whole CRC.
use Rattle.std.proofs.Common.{◌≡◌, ℕ, ◌*◌, drop, ap, ◌∙◌, arith}
use Rattle.crc.proofs.Steps.{pair_next, one_left, none_left}
use Rattle.crc.specs.Crc.{crc}
use Rattle.crc.specs.declared.Direction.TheVariants.{HighFirst}
use Rattle.crc.proofs.shifts.by_twos.Goals as goal

pub loop-pair-preserved : goal.loop-pair-preserved
loop-pair-preserved c =
    let cut = c.as_chunks.ensures in
    rw c.two_bytes-worked.ensures
    (pair_next _ _ c.args.bytes.now c.as_chunks.result.0.now c.loop-pair.pair-index _ cut.front (omega arith)
    ∙ c.loop-pair.invariant)

pub returns-in-len1 : goal.returns-in-len1
returns-in-len1 c =
    let left : c.as_chunks.result.1.now ≡ drop (c.loop-pair.pair-index * 2) c.args.bytes.now =
    c.as_chunks.ensures.back ∙ ap (λ (i : ℕ). drop i c.args.bytes.now) (omega arith)
    in
    c.byte_step.ensures
    ∙ one_left _ _ c.as_chunks.result.1.now _ (omega arith)
    ∙ ap (crc HighFirst 0x1021 c.loop-pair.worked) left
    ∙ c.loop-pair.invariant

pub returns-in_default : goal.returns-in_default
returns-in_default c =
    let left : c.as_chunks.result.1.now ≡ drop (c.loop-pair.pair-index * 2) c.args.bytes.now =
    c.as_chunks.ensures.back ∙ ap (λ (i : ℕ). drop i c.args.bytes.now) (omega arith)
    in
    none_left _ _ c.as_chunks.result.1.now _ (omega arith)
    ∙ ap (crc HighFirst 0x1021 c.loop-pair.worked) left
    ∙ c.loop-pair.invariant
