-- `poldrisk_call` meets its contract: four refusals of its own, and else the crate's call between unpacking and storing.
use mathlib.Core.Path.{ap, sym, ◌∙◌}
use Rattle.embed.proofs.Packing.{not_thirteen, out_of_range, no_places, no_records, carried_out_lem}
use Rattle.embed.specs.Packed.{reader_in}
use Rattle.frame.proofs.Tests.{holds, fails}
use Rattle.embed.proofs.poldrisk_call.Goals as goal

pub returns-in_default : goal.returns-in_default
returns-in_default c = not_thirteen _ _ _ _ _ _ _ c.in_default.ensures.cases

pub returns-in_default-reader_of : goal.returns-in_default-reader_of
returns-in_default-reader_of c =
    let thirteen = c.in-Some.ensures.cases in
    rw thirteen.same
    (out_of_range _ _ _ _ _ _ _ _ thirteen.long (c.reader_of.ensures ∙ ap reader_in thirteen.same) c.in_default-reader_of.is)

pub returns-then-not-are_places : goal.returns-then-not-are_places
returns-then-not-are_places c =
    let thirteen = c.in-Some.ensures.cases in
    rw thirteen.same
    (no_places _ _ _ _ _ _ _ _ _ thirteen.long (c.reader_of.ensures ∙ ap reader_in thirteen.same) c.in-Some-reader_of.is
    (fails c.if-not-are_places.true c.are_places.ensures))

pub returns-then-records-ne0 : goal.returns-then-records-ne0
returns-then-records-ne0 c =
    let thirteen = c.in-Some.ensures.cases in
    rw thirteen.same
    (no_records _ _ _ _ _ _ _ _ _ thirteen.long (c.reader_of.ensures ∙ ap reader_in thirteen.same) c.in-Some-reader_of.is
    (holds c.if-not-are_places.false c.are_places.ensures) c.if-records-ne0.true)

pub call_on-requires : goal.call_on-requires
call_on-requires c =
    record {
      fits = sym c.reader_of.ensures ∙ c.in-Some-reader_of.is;
      are_places = holds c.if-not-are_places.false c.are_places.ensures;
    }

pub returns : goal.returns
returns c =
    let thirteen = c.in-Some.ensures.cases in
    carried_out_lem _ _ _ _ _ _ _ _ _ thirteen.long (c.reader_of.ensures ∙ ap reader_in thirteen.same) c.in-Some-reader_of.is
    (holds c.if-not-are_places.false c.are_places.ensures) c.if-records-ne0.false _ (rw (sym thirteen.same) c.call_on.ensures)
