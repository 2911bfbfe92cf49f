-- What each call makes of the items, case by case.
use Prim.Native.Nat.{ℕ, ◌+◌, ◌<◌, min}
use borrow.Author.Tests.{eqb-true, eqb-false, eq-eqb, ne_eqb}
use lib.Dec.{eqb}
use mathlib.Core.Bool.{true, false}
use mathlib.Core.List.{List}
use mathlib.Core.Path.{◌≡◌, refl, ap, sym, ◌∙◌}
use native.Mathlib.Omega.{arith}
use Rattle.frame.proofs.Picks.{pick_true, pick_false}
use Rattle.frame.proofs.Tests.{either}
use Rattle.frame.specs.Bytes.{byte}
use Rattle.frame.specs.declared.finding.Reason.{Reason}
use Rattle.reader.specs.Tallies.{fresh_tally, with_dropped}
use Rattle.reader.specs.declared.outcome.Outcome.{Outcome}
use Rattle.reader.specs.declared.outcome.Outcome.TheVariants.{Answered, AtEnd, Incomplete, Dropped, PastEnd, BadImage, ShortOutput, FullTally, FullList}
use Rattle.reader.specs.declared.tally.Tally.{Tally}
use Rattle.sheet.specs.Items.{item_of, items_of, failing, joins, grown, one_more, items_after}
use Rattle.sheet.specs.declared.items.Failing.TheVariants.{Passed, Error, Drop}
use Rattle.sheet.specs.declared.items.Items.{Items}
use Rattle.std.proofs.Common.{◌⊎◌}

-- ---- what a call means

module _ (output : List ℕ) (code : ℕ) (is : code ≡ byte output 2) where
  pub passed : (code ≡ 0xFF → ⊥) → Passed ≡ failing output Answered
  unfolding failing
  passed other = sym (rw (ne_eqb (byte output 2) 0xFF (λ e. other (is ∙ e)), pick_false))

  pub failed : (error : ℕ) → code ≡ 0xFF → error ≡ byte output 5 → Error error ≡ failing output Answered
  unfolding failing
  failed error e error_is = ap Error error_is ∙ sym (rw (eq-eqb (byte output 2) 0xFF (sym is ∙ e), pick_true))

-- a call that ended in another way is no failure
pub none_failed : (output : List ℕ) (o : Outcome)
    → (o ≡ AtEnd) ⊎ ((o ≡ Incomplete) ⊎ ((o ≡ PastEnd) ⊎ ((o ≡ BadImage) ⊎ ((o ≡ ShortOutput) ⊎ ((o ≡ FullTally) ⊎ (o ≡ FullList))))))
    → Passed ≡ failing output o
unfolding failing
none_failed output AtEnd other = refl
none_failed output Incomplete other = refl
none_failed output PastEnd other = refl
none_failed output BadImage other = refl
none_failed output ShortOutput other = refl
none_failed output FullTally other = refl
none_failed output FullList other = refl
none_failed output Answered other = grind arith
none_failed output (Dropped r) other = grind arith

-- ---- one more item

pub saturated : (n more : ℕ) → n < 18446744073709551616 → more ≡ min (n + 1) 18446744073709551615 → more ≡ one_more n
unfolding one_more
saturated n more small e =
    either (eqb n 18446744073709551615) (λ most. rw (most, pick_true) (omega (arith, eqb-true n 18446744073709551615 most)))
    (λ less. rw (less, pick_false) (omega (arith, eqb-false n 18446744073709551615 less)))

-- ---- the items behind a call

module _ (items : Items) (cursor : ℕ) where
  pub error_item : (count error : ℕ) (fresh : Tally) → count ≡ one_more items.count → fresh ≡ fresh_tally
      → items_of count (item_of cursor cursor error fresh) ≡ items_after items cursor (Error error)
  unfolding items_after
  error_item count error fresh more none = rw (more, none)

  pub drop_grown : (r : Reason) (drops : Tally) → joins items cursor ≡ true → drops ≡ with_dropped r items.last.drops
      → items_of items.count (item_of items.last.first cursor 0 drops) ≡ items_after items cursor (Drop r)
  unfolding items_after grown
  drop_grown r drops joined more = rw (joined, pick_true, more)

  pub drop_item : (r : Reason) (count : ℕ) (fresh drops : Tally) → joins items cursor ≡ false → count ≡ one_more items.count → fresh ≡ fresh_tally
      → drops ≡ with_dropped r fresh
      → items_of count (item_of cursor cursor 0 drops) ≡ items_after items cursor (Drop r)
  unfolding items_after
  drop_item r count fresh drops apart more none dropped = rw (apart, pick_false, more, dropped, none)
