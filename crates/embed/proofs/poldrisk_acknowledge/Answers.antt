-- `poldrisk_acknowledge` meets its contract: three refusals, and else the first records go.
use mathlib.Core.Path.{sym}
use Rattle.embed.proofs.Acknowledging.{not_thirteen, no_records, not_acknowledged, is_acknowledged}
use Rattle.frame.proofs.Tests.{holds, fails}
use Rattle.embed.proofs.poldrisk_acknowledge.Goals as goal

pub returns-in_default : goal.returns-in_default
returns-in_default c = not_thirteen _ _ _ c.in_default.ensures.cases

pub returns-then-records-ne0 : goal.returns-then-records-ne0
returns-then-records-ne0 c =
    let thirteen = c.in-Some.ensures.cases in
    rw thirteen.same (no_records _ _ _ thirteen.long c.if-records-ne0.true)

pub returns-then-not-may_acknowledge : goal.returns-then-not-may_acknowledge
returns-then-not-may_acknowledge c =
    let thirteen = c.in-Some.ensures.cases in
    rw thirteen.same
    (not_acknowledged _ _ _ thirteen.long c.if-records-ne0.false (fails c.if-not-may_acknowledge.true (rw (sym thirteen.same) c.may_acknowledge.ensures)))

pub returns : goal.returns
returns c =
    let thirteen = c.in-Some.ensures.cases in
    rw thirteen.same
    (is_acknowledged _ _ _ thirteen.long c.if-records-ne0.false (holds c.if-not-may_acknowledge.false (rw (sym thirteen.same) c.may_acknowledge.ensures)) _ _
    (rw (sym thirteen.same) c.remove_numbers-left.ensures.0) (rw (sym thirteen.same) c.remove_numbers-left.ensures.1))
