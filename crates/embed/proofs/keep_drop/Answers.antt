-- `keep_drop` meets its contract, reason by reason.
use Rattle.embed.proofs.Keeping.{drop_stored}
use Rattle.frame.specs.declared.finding.Reason.TheVariants.{NoHeader, WrongType, TooLong, WrongCheck, WrongEnd}
use Rattle.embed.specs.Kept.{count_for, place_for}
use Rattle.embed.proofs.keep_drop.Goals as goal

pub returns-in-NoHeader : goal.returns-in-NoHeader
unfolding count_for place_for
returns-in-NoHeader c =
    rw c.from-in-NoHeader.ensures (drop_stored c.args.state.now c.args.reader _ NoHeader _ _ c.from.ensures c.in-NoHeader.is)

pub returns-in-WrongType : goal.returns-in-WrongType
unfolding count_for place_for
returns-in-WrongType c =
    rw c.from-in-WrongType.ensures (drop_stored c.args.state.now c.args.reader _ WrongType _ _ c.from.ensures c.in-WrongType.is)

pub returns-in-TooLong : goal.returns-in-TooLong
unfolding count_for place_for
returns-in-TooLong c =
    rw c.from-in-TooLong.ensures (drop_stored c.args.state.now c.args.reader _ TooLong _ _ c.from.ensures c.in-TooLong.is)

pub returns-in-WrongCheck : goal.returns-in-WrongCheck
unfolding count_for place_for
returns-in-WrongCheck c =
    rw c.from-in-WrongCheck.ensures (drop_stored c.args.state.now c.args.reader _ WrongCheck _ _ c.from.ensures c.in-WrongCheck.is)

pub returns-in-WrongEnd : goal.returns-in-WrongEnd
unfolding count_for place_for
returns-in-WrongEnd c =
    rw c.from-in-WrongEnd.ensures (drop_stored c.args.state.now c.args.reader _ WrongEnd _ _ c.from.ensures c.in-WrongEnd.is)
