-- `error_without` meets its contract: a tag out of the field gives the plain error for no tag.
use Rattle.std.proofs.Common.{◌≡◌, ℕ, Err, ap, ◌∙◌, arith}
use Rattle.machine.proofs.Absents.{told_error, no_other}
use Rattle.frame.specs.Bytes.{byte}
use Rattle.machine.proofs.absent.error_without.Goals as goal

pub returns-in_default : goal.returns-in_default
unfolding byte
returns-in_default c = absurd (no_other _ _ (λ (z : ◌≡◌ {A = ℕ} 2 0). omega arith) _ _ c.act_of.ensures (λ e told. cc))

pub returns-in_default-2 : goal.returns-in_default-2
unfolding byte
returns-in_default-2 c = absurd (no_other _ _ (λ (z : ◌≡◌ {A = ℕ} 2 0). omega arith) _ _ c.act_of.ensures (λ e told. cc))

pub returns : goal.returns
unfolding byte
returns c =
    c.from.ensures
    ∙ told_error _ _ (λ (z : ◌≡◌ {A = ℕ} 2 0). omega arith) _ _ c.act_of.ensures _ (c.in-Err-Plain.is ∙ ap Err c.in-Err-Plain.field-0-is)
