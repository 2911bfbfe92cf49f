-- `failure_of` meets its contract: an error answer and a drop are listed, and nothing else.
use Rattle.failures.proofs.Besides.{small_reason, as_told, good_told, error_told, drop_told, none_told}
use Rattle.failures.proofs.listing.failure_of.Goals as goal

pub returns-then-byte_at-ne255 : goal.returns-then-byte_at-ne255
returns-then-byte_at-ne255 c = as_told _ _ _ _ _ _ c.in-Answered.is (good_told _ _ _ _ c.byte_at.ensures c.if-byte_at-ne255.true)

pub overflow_cast-result : goal.overflow_cast-result
overflow_cast-result c = record { fits = small_reason _ _ c.from-in-Dropped.ensures }

pub returns-else-byte_at-ne255 : goal.returns-else-byte_at-ne255
returns-else-byte_at-ne255 c =
    as_told _ _ _ _ _ _ c.in-Answered.is
    (error_told _ _ _ _ _ c.byte_at.ensures c.if-byte_at-ne255.false c.byte_at-in-Answered.ensures _ c.from.ensures)

pub returns-in-Dropped : goal.returns-in-Dropped
returns-in-Dropped c = as_told _ _ _ _ _ _ c.in-Dropped.is (drop_told _ _ _ _ _ c.from-in-Dropped.ensures)

pub returns-in_default : goal.returns-in_default
returns-in_default c = none_told _ _ _ _ c.in_default.not-Answered c.in_default.not-Dropped
