-- Places that rise: each begins behind the end of all before it, so that it overlaps none of them.
use Prim.Native.Nat.{ℕ, ◌+◌, ◌≤◌, ◌<◌}
use borrow.Author.Tests.{le-leb, leb-true}
use lib.Dec.{leb}
use mathlib.Core.Bool.{Bool, true}
use mathlib.Core.List.{List}
use mathlib.Core.Path.{◌≡◌}
use native.Mathlib.Omega.{arith}
use Rattle.frame.proofs.Tests.{or_second}
use Rattle.population.proofs.Below.{below_all, below_each, below_more}
use Rattle.population.specs.Below.{all_below}
use Rattle.population.specs.Places.{place_at, apart, apart_from, apart_below}
use Rattle.population.specs.declared.places.Place.{Place}

-- where place j ends; and that it ends by `limit`
abbrev pub end_at : List Place → ℕ → ℕ
end_at places j = (place_at places j).from + (place_at places j).size

unfoldable pub ends_by : List Place → ℕ → ℕ → Bool
ends_by places limit j = leb (end_at places j) limit

apart_behind : (p q : Place) → q.from + q.size ≤ p.from → apart p q ≡ true
unfolding apart
apart_behind p q h = or_second (leb (p.from + p.size) q.from) _ (le-leb (q.from + q.size) p.from h)

-- all before place i end by `limit`, and it begins there or behind
module _ (places : List Place) (i limit : ℕ) (below : all_below (ends_by places limit) i ≡ true) (rises : limit ≤ (place_at places i).from) where
  ends : (j : ℕ) → j < i → end_at places j ≤ limit
  unfolding ends_by
  ends j l = leb-true _ _ (below_each (ends_by places limit) i below j l)

  pub rising_apart : apart_below places i ≡ true
  unfolding apart_below apart_from
  rising_apart = below_all (apart_from places i) i (λ j l. apart_behind (place_at places i) (place_at places j) (omega (arith, ends j l)))

  pub ends_more : all_below (ends_by places (end_at places i)) (i + 1) ≡ true
  unfolding ends_by
  ends_more =
      below_more (ends_by places (end_at places i)) i
      (below_all (ends_by places (end_at places i)) i (λ j l. le-leb (end_at places j) (end_at places i) (omega (arith, ends j l))))
      (le-leb (end_at places i) (end_at places i) (omega arith))
