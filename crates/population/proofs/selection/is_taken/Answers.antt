use mathlib.Core.Path.{refl, ◌∙◌}
use Rattle.frame.proofs.Tests.{holds, fails}
use Rattle.population.proofs.Takings.{other_target, other_action, reserved_bank, truncates, length_decides}
use Rattle.population.proofs.selection.is_taken.Goals as goal

pub returns-then-parameter-ne0 : goal.returns-then-parameter-ne0
returns-then-parameter-ne0 c = other_target _ _ c.byte_at-parameter.ensures c.if-parameter-ne0.true

pub returns-then-not-is_known_action : goal.returns-then-not-is_known_action
returns-then-not-is_known_action c =
    other_action _ _ c.byte_at-parameter.ensures (fails c.if-not-is_known_action.true c.is_known_action.ensures)

pub returns-then-parameter-eq0 : goal.returns-then-parameter-eq0
returns-then-parameter-eq0 c =
    reserved_bank _ _ c.byte_at-parameter.ensures c.if-parameter-eq0.true

pub returns-then-byte_at-ne0 : goal.returns-then-byte_at-ne0
returns-then-byte_at-ne0 c =
    truncates _ _ c.byte_at-parameter.ensures _ c.byte_at.ensures c.if-byte_at-ne0.true

pub returns : goal.returns
returns c =
    length_decides _ _ c.byte_at-parameter.ensures _ c.byte_at.ensures c.if-parameter-ne0.false
    (holds c.if-not-is_known_action.false c.is_known_action.ensures) c.if-parameter-eq0.false c.if-byte_at-ne0.false _ (c.from-bits.ensures ∙ c.byte_at-2.ensures) _ refl
