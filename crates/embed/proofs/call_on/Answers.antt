-- `call_on` meets its contract: the crate's call between unpacking and storing.
use Prim.Native.Nat.{◌+◌, ◌*◌}
use lib.ListN.{set, get_or}
use mathlib.Core.List.{List}
use mathlib.Core.Path.{◌≡◌, refl, ap, sym, ◌∙◌}
use native.Mathlib.Omega.{arith}
use Rattle.population.specs.declared.places.Place.{Place}
use Rattle.reader.specs.Tallies.{limit}
use Rattle.embed.proofs.Keeping.{stored_is}
use Rattle.embed.proofs.Packing.{listed_by, packed_step}
use Rattle.embed.proofs.Placing.{used_small, used_there, fit_small, small_each, placed_more}
use Rattle.embed.specs.Placed.{placed}
use Rattle.embed.proofs.call_on.Goals as goal
use Rattle.embed.proofs.call_on.Goals.{in-Some, in_default}

pub loop-i-init : goal.loop-i-init
unfolding placed
loop-i-init c =
    let numbers = c.args.numbers.now in
    record {
      few = used_small _ _ c.used_of-i-end.ensures;
      there = used_there numbers _ c.used_of-i-end.ensures;
      small = fit_small numbers c.requires.are_places _ c.used_of-i-end.ensures;
      places_are = refl;
      tags_are = refl;
    }

pub overflow_cast-population : goal.overflow_cast-population
unfolding limit
overflow_cast-population c = omega (arith, small_each _ _ c.loop-i.invariant.small (2 * c.loop-i.i) (omega arith))

pub overflow_cast-population-in-loop-i : goal.overflow_cast-population-in-loop-i
unfolding limit
overflow_cast-population-in-loop-i c = omega (arith, small_each _ _ c.loop-i.invariant.small (2 * c.loop-i.i + 1) (omega arith))

pub loop-i-preserved : goal.loop-i-preserved
loop-i-preserved c =
    let at = c.loop-i in
    let numbers = c.args.numbers.now in
    record {
      few = at.invariant.few;
      there = at.invariant.there;
      small = at.invariant.small;
      tags_are = at.invariant.tags_are;
      places_are =
          ap (λ (l : List Place). set l at.i record { from = get_or numbers (2 * at.i) 0; size = get_or numbers (2 * at.i + 1) 0 }) at.invariant.places_are
          ∙ placed_more numbers at.i;
    }

pub returns : goal.returns
unfolding listed_by
returns c =
    let a = c.args in
    let all : c.loop-i.i ≡ c.used_of-i-end.result = omega (arith, c.loop-i-test.false) in
    let inv = c.loop-i.invariant in
    let beside = rw inv.tags_are at c.call_beside-listed.ensures in
    let list : c.match-listed.records ≡ listed_by a.records.now (get_or a.state.now 12 0) c.call_beside-listed.result.failure =
    elim c.match-listed.branch [
      | in-Some w ↦ w.records-is ∙ w.add_numbers.ensures ∙ sym (ap (listed_by _ _) w.in-Some.is)
      | in_default w ↦ w.records-is ∙ sym (ap (listed_by _ _) w.in_default.is)
    ]
    in
    packed_step a.input.now a.memory.now a.output.now a.numbers.now a.selection.now a.records.now a.state.now a.reader _ c.used_of-i-end.ensures
    c.loop-i.population.places (inv.places_are ∙ ap (placed _) all) _ _ _ _ beside _ _ _ c.tell.ensures.0 list
    (c.tell.ensures.1
    ∙ stored_is a.input.now a.memory.now a.output.now c.loop-i.population.places _ _ a.selection.now a.state.now a.reader _ _ _ _ _ c.told-state
    c.requires.fits beside)
