use Prim.Native.Nat.{◌≤◌}
use borrow.Author.Tests.{lt-leb}
use lib.ListN.{get_or}
use mathlib.Core.Bool.{true}
use mathlib.Core.Path.{refl, sym}
use native.Mathlib.Omega.{arith}
use Rattle.frame.proofs.Tests.{holds, fails}
use Rattle.population.proofs.Below.{none_below, below_more}
use Rattle.population.proofs.Populations.{not_alone, alone_decides, population_not, population_is}
use Rattle.population.proofs.Rising.{rising_apart, ends_more}
use Rattle.population.specs.Places.{place_at, good_population}
use Rattle.population.proofs.places.Population.is_good.Goals as goal

pub returns-then-self-gt16 : goal.returns-then-self-gt16
unfolding good_population
returns-then-self-gt16 c = simp (lt-leb _ 16 c.if-self-gt16.true)

pub loop-i-init : goal.loop-i-init
loop-i-init c = (none_below _ 0 refl, none_below _ 0 refl)

pub returns-then-not-is_good_in : goal.returns-then-not-is_good_in
unfolding place_at
returns-then-not-is_good_in c =
    population_not _ _ _ c.if-self-gt16.false _ c.loop-i-test.true
    (not_alone _ _ _ (fails c.if-not-is_good_in.true c.is_good_in.ensures))

pub loop-i-preserved : goal.loop-i-preserved
unfolding place_at
loop-i-preserved c =
    let rises : c.loop-i.end ≤ (get_or c.args.self.now.places c.loop-i.i record { from = 0; size = 0 }).from = omega arith in
    let apart-too = rising_apart _ _ _ c.loop-i.invariant.1 rises in (
      below_more _ _ c.loop-i.invariant.0
          (sym (alone_decides _ _ _ apart-too true (sym (holds c.if-not-is_good_in.false c.is_good_in.ensures)))),
      (let more = ends_more _ _ _ c.loop-i.invariant.1 rises in cc),
    )

pub returns : goal.returns
returns c = population_is _ _ _ c.if-self-gt16.false _ (omega arith) c.loop-i-test.false c.loop-i.invariant.0
