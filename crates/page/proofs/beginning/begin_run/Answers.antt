-- `begin_run` meets its contract: a bad crate, or the head.
use Rattle.page.proofs.Beginnings.{refused_begins, head_begins}
use Rattle.reader.specs.Outcomes.{number_of}
use Rattle.std.proofs.Common.{rules}
use Rattle.page.proofs.beginning.begin_run.Goals as goal

pub returns-then-not-is_good : goal.returns-then-not-is_good
unfolding number_of
returns-then-not-is_good c =
    refused_begins _ c.requires _ _ _ _ _ _ _ _ c.is_good.ensures _ _ c.if-not-is_good.true-raw c.from.ensures (search rules)
    c.put_refused.ensures.laid

pub returns : goal.returns
returns c =
    head_begins _ c.requires _ _ _ _ _ _ _ _ c.is_good.ensures c.if-not-is_good.false-raw c.write_head-used.ensures
