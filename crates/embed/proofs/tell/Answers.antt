-- `tell` meets its contract: a drop, an answer, and any other end.
use mathlib.Core.Path.{ap, sym, ◌∙◌}
use Rattle.embed.proofs.Keeping.{others_kept}
use Rattle.embed.specs.Kept.{kept_by}
use Rattle.embed.proofs.tell.Goals as goal
use Rattle.embed.proofs.tell.Goals.{in-Dropped, in-Answered, in_default}

pub returns : goal.returns
unfolding kept_by
returns c = (
  c.from.ensures,
  elim c.match-called.branch [
    | in-Dropped w ↦ w.state-is ∙ w.keep_drop.ensures ∙ sym (ap (kept_by _ _ _) w.in-Dropped.is)
    | in-Answered w ↦ w.state-is ∙ w.keep_answer.ensures ∙ sym (ap (kept_by _ _ _) w.in-Answered.is)
    | in_default w ↦ w.state-is ∙ w.keep.ensures ∙ others_kept _ _ _ _ w.in_default.not-Answered w.in_default.not-Dropped
  ],
)
