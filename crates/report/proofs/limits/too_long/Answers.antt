-- `too_long` meets its contract: the commands first, then the tags.
use lib.Dec.{ltb}
use Rattle.std.proofs.Common.{rules, tests}
use Rattle.std.proofs.lemmas.Iterator.{YieldsList-from_slice}
use Rattle.std.proofs.lemmas.Iterator.Search.{any_from_yields_List}
use Rattle.report.proofs.NotRun.{by_commands, by_sizes}
use Rattle.report.proofs.limits.too_long.Goals as goal

pub returns-then-commands-gt32768 : goal.returns-then-commands-gt32768
returns-then-commands-gt32768 c = by_commands _ _ c.if-commands-gt32768.true

pub returns-else-commands-gt32768 : goal.returns-else-commands-gt32768
returns-else-commands-gt32768 c =
    let long = any_from_yields_List (ltb 2048) _ _ c.any.result c.any.ensures.ran
    (YieldsList-from_slice c.args.sizes.now cc) (λ x b q k. search (rules, tests)) in
    by_sizes _ _ _ c.if-commands-gt32768.false long
