-- `execute` meets its contract: the tests that all commands share, and then act by act.
use Rattle.std.proofs.Common.{Ok, Err, refl, ap, ◌∙◌}
use Rattle.execution.proofs.Executions.{refused_short, refused_out, executed, acted_error, acted_good}
use Rattle.execution.proofs.ReachTests.{answerable_epc}
use Rattle.execution.specs.Reach.{has_named}
use Rattle.frame.proofs.Tests.{not_holds, not_fails}
use Rattle.tag.specs.Answers.{answer, changed, is_error}
use Rattle.execution.proofs.execute.execute.Goals as goal

pub returns-then-output-lt136 : goal.returns-then-output-lt136
returns-then-output-lt136 c = refused_short _ _ _ _ c.if-output-lt136.true

pub returns-then-not-is_answerable : goal.returns-then-not-is_answerable
returns-then-not-is_answerable c = refused_out _ _ _ _ c.if-output-lt136.false (not_holds c.if-not-is_answerable.true-raw c.is_answerable.ensures)

pub invariant_of-tag_error : goal.invariant_of-tag_error
invariant_of-tag_error c = record { has_epc = answerable_epc _ (not_fails c.if-not-is_answerable.false-raw c.is_answerable.ensures) }

pub invariant_of-notify : goal.invariant_of-notify
invariant_of-notify c = record { has_epc = answerable_epc _ (not_fails c.if-not-is_answerable.false-raw c.is_answerable.ensures) }

pub invariant_of-give : goal.invariant_of-give
invariant_of-give c = record { has_epc = answerable_epc _ (not_fails c.if-not-is_answerable.false-raw c.is_answerable.ensures) }

pub store-requires : goal.store-requires
store-requires c =
    (answerable_epc _ (not_fails c.if-not-is_answerable.false-raw c.is_answerable.ensures), c.if-output-lt136.false)

pub set-requires : goal.set-requires
set-requires c =
    (answerable_epc _ (not_fails c.if-not-is_answerable.false-raw c.is_answerable.ensures), c.if-output-lt136.false)

pub returns-in-Err-Plain : goal.returns-in-Err-Plain
unfolding has_named answer changed is_error
returns-in-Err-Plain c =
    executed _ _ _ _ c.if-output-lt136.false (not_fails c.if-not-is_answerable.false-raw c.is_answerable.ensures)
    c.act_of.ensures (c.in-Err-Plain.is ∙ ap Err c.in-Err-Plain.field-0-is) (acted_error _ _ _ _ refl _ _ _ c.plain_error.ensures refl refl)

pub returns-in-Err-Tag : goal.returns-in-Err-Tag
unfolding has_named answer changed is_error
returns-in-Err-Tag c =
    executed _ _ _ _ c.if-output-lt136.false (not_fails c.if-not-is_answerable.false-raw c.is_answerable.ensures)
    c.act_of.ensures (c.in-Err-Tag.is ∙ ap Err c.in-Err-Tag.field-0-is) (acted_error _ _ _ _ refl _ _ _ c.tag_error.ensures refl refl)

pub returns-in-Ok-Notify : goal.returns-in-Ok-Notify
unfolding has_named answer changed is_error
returns-in-Ok-Notify c =
    executed _ _ _ _ c.if-output-lt136.false (not_fails c.if-not-is_answerable.false-raw c.is_answerable.ensures)
    c.act_of.ensures (c.in-Ok-Notify.is ∙ ap Ok c.in-Ok-Notify.field-0-is) (acted_good _ _ _ _ refl _ _ _ c.notify.ensures refl refl)

pub returns-in-Ok-Give : goal.returns-in-Ok-Give
returns-in-Ok-Give c =
    executed _ _ _ _ c.if-output-lt136.false (not_fails c.if-not-is_answerable.false-raw c.is_answerable.ensures)
    c.act_of.ensures (c.in-Ok-Give.is ∙ ap Ok c.in-Ok-Give.field-0-is) (c.give.ensures _)

pub returns-in-Ok-Store : goal.returns-in-Ok-Store
returns-in-Ok-Store c =
    executed _ _ _ _ c.if-output-lt136.false (not_fails c.if-not-is_answerable.false-raw c.is_answerable.ensures)
    c.act_of.ensures (c.in-Ok-Store.is ∙ ap Ok c.in-Ok-Store.field-0-is) c.store.ensures

pub returns-in-Ok-Set : goal.returns-in-Ok-Set
returns-in-Ok-Set c =
    executed _ _ _ _ c.if-output-lt136.false (not_fails c.if-not-is_answerable.false-raw c.is_answerable.ensures)
    c.act_of.ensures (c.in-Ok-Set.is ∙ ap Ok c.in-Ok-Set.field-0-is) (c.set.ensures _)
