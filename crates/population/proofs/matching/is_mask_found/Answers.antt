use mathlib.Core.Path.{sym, ◌∙◌}
use native.Mathlib.Omega.{arith}
use Rattle.population.proofs.Matches.{empty_mask, past_bank, in_bank}
use Rattle.population.proofs.matching.is_mask_found.Goals as goal

pub returns-then-n-eq0 : goal.returns-then-n-eq0
returns-then-n-eq0 c = empty_mask _ _ (sym (c.from-n.ensures ∙ c.byte_at.ensures) ∙ c.if-n-eq0.true)

pub returns-then-from-pointer : goal.returns-then-from-pointer
returns-then-from-pointer c =
    past_bank _ _ _ _ _ _ (c.from-n.ensures ∙ c.byte_at.ensures) c.if-n-eq0.false c.byte_at-2.ensures c.double_at-pointer.ensures
    (c.from.ensures ∙ (rw c.from-bank.ensures at c.number_at.ensures)) (omega arith)

pub returns : goal.returns
returns c =
    in_bank _ _ _ _ _ _ (c.from-n.ensures ∙ c.byte_at.ensures) c.if-n-eq0.false c.byte_at-2.ensures c.double_at-pointer.ensures
    (c.from.ensures ∙ (rw c.from-bank.ensures at c.number_at.ensures)) (omega arith)
    _ _ (c.from-2.ensures ∙ (rw c.from-bank.ensures at c.number_at-2.ensures)) c.is_same_bits.ensures
