use borrow.Author.Tests.{eqb-true, eqb-false}
use Rattle.frame.proofs.Tests.{holds, fails}
use Rattle.population.proofs.Matches.{match_empty, match_turned, match_plain}
use Rattle.population.proofs.matching.is_match.Goals as goal

pub returns-then-is_empty : goal.returns-then-is_empty
returns-then-is_empty c = match_empty _ _ (eqb-true _ _ (holds c.if-is_empty.true c.is_empty.ensures))

pub returns-then-byte_at-eq4 : goal.returns-then-byte_at-eq4
returns-then-byte_at-eq4 c =
    match_turned _ _ (eqb-false _ _ (fails c.if-is_empty.false c.is_empty.ensures)) _ _ c.byte_at.ensures c.is_mask_found-found.ensures
    c.if-byte_at-eq4.true

pub returns : goal.returns
returns c =
    match_plain _ _ (eqb-false _ _ (fails c.if-is_empty.false c.is_empty.ensures)) _ _ c.byte_at.ensures c.is_mask_found-found.ensures
    c.if-byte_at-eq4.false
