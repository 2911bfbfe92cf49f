-- The packed state: what the stores leave, what its numbers are as a reader's state, and each end of a call.
use Prim.Native.Nat.{ℕ, zero, suc, ◌/◌, ◌%◌, ◌^◌, ◌≤◌, ◌<◌}
use borrow.Author.Tests.{ltb-false, le-ltb, eq-eqb, ne_eqb}
use lib.Bits.{bit_or, or_lt}
use lib.Dec.{ltb}
use lib.ListN.{length, get_or}
use mathlib.Core.Bool.{Bool, true, false}
use mathlib.Core.List.{List, [], ◌∷◌}
use mathlib.Core.Path.{◌≡◌, refl, sym, ap, ap₂, ◌∙◌}
use native.Mathlib.Omega.{arith}
use Rattle.reader.specs.Outcomes.{number_of, reason_of}
use Rattle.machine.specs.Lent.{selection_in}
use Rattle.calls.specs.Calls.{Lent, lent_of, lent_by}
use Rattle.machine.specs.Machine.{State, state_of, Step}
use Rattle.embed.specs.Packed.{packed, counts_in, any_above, reader_at, reader_in, held_in, records_fit, Left, left_by, told, state_in, listed_in, stepped, called_with, called}
use Rattle.embed.specs.Placed.{tags_in, used_of, places_fit, placed}
use Rattle.std.specs.Prelude.{Option, None, Some}
use Rattle.failures.proofs.Threes.{with_behind}
use Rattle.failures.specs.Listing.{as_failure, place_for, record_in, is_list_full, step_beside, failure_beside, Beside}
use Rattle.failures.specs.Records.{blank}
use Rattle.failures.specs.Lists.{room_in, numbers_with}
use Rattle.failures.specs.declared.listing.Listed.{Listed}
use Rattle.failures.specs.declared.record.Record.{Record}
use Rattle.frame.proofs.Picks.{pick_true, pick_false}
use Rattle.frame.proofs.Tests.{either, or_neither}
use Rattle.population.specs.declared.places.Place.{Place}
use Rattle.reader.proofs.Tallies.{or_most_l, or_most_r, or_all}
use Rattle.reader.specs.Tallies.{limit}
use Rattle.reader.specs.declared.state.Reader.{Reader}

-- a list of thirteen numbers, number by number
pub thirteen_cases : (P : List ℕ → Type 0)
    → ((s0 s1 s2 s3 s4 s5 s6 s7 s8 s9 s10 s11 s12 : ℕ) → P (s0 ∷ s1 ∷ s2 ∷ s3 ∷ s4 ∷ s5 ∷ s6 ∷ s7 ∷ s8 ∷ s9 ∷ s10 ∷ s11 ∷ s12 ∷ []))
    → (state : List ℕ) → length state ≡ 13 → P state
thirteen_cases P thirteen (s0 ∷ s1 ∷ s2 ∷ s3 ∷ s4 ∷ s5 ∷ s6 ∷ s7 ∷ s8 ∷ s9 ∷ s10 ∷ s11 ∷ s12 ∷ []) h = thirteen s0 s1 s2 s3 s4 s5 s6 s7 s8 s9 s10 s11 s12
thirteen_cases P thirteen [] h = absurd (omega arith)
thirteen_cases P thirteen (s0 ∷ []) h = absurd (omega arith)
thirteen_cases P thirteen (s0 ∷ s1 ∷ []) h = absurd (omega arith)
thirteen_cases P thirteen (s0 ∷ s1 ∷ s2 ∷ []) h = absurd (omega arith)
thirteen_cases P thirteen (s0 ∷ s1 ∷ s2 ∷ s3 ∷ []) h = absurd (omega arith)
thirteen_cases P thirteen (s0 ∷ s1 ∷ s2 ∷ s3 ∷ s4 ∷ []) h = absurd (omega arith)
thirteen_cases P thirteen (s0 ∷ s1 ∷ s2 ∷ s3 ∷ s4 ∷ s5 ∷ []) h = absurd (omega arith)
thirteen_cases P thirteen (s0 ∷ s1 ∷ s2 ∷ s3 ∷ s4 ∷ s5 ∷ s6 ∷ []) h = absurd (omega arith)
thirteen_cases P thirteen (s0 ∷ s1 ∷ s2 ∷ s3 ∷ s4 ∷ s5 ∷ s6 ∷ s7 ∷ []) h = absurd (omega arith)
thirteen_cases P thirteen (s0 ∷ s1 ∷ s2 ∷ s3 ∷ s4 ∷ s5 ∷ s6 ∷ s7 ∷ s8 ∷ []) h = absurd (omega arith)
thirteen_cases P thirteen (s0 ∷ s1 ∷ s2 ∷ s3 ∷ s4 ∷ s5 ∷ s6 ∷ s7 ∷ s8 ∷ s9 ∷ []) h = absurd (omega arith)
thirteen_cases P thirteen (s0 ∷ s1 ∷ s2 ∷ s3 ∷ s4 ∷ s5 ∷ s6 ∷ s7 ∷ s8 ∷ s9 ∷ s10 ∷ []) h = absurd (omega arith)
thirteen_cases P thirteen (s0 ∷ s1 ∷ s2 ∷ s3 ∷ s4 ∷ s5 ∷ s6 ∷ s7 ∷ s8 ∷ s9 ∷ s10 ∷ s11 ∷ []) h = absurd (omega arith)
thirteen_cases P thirteen (s0 ∷ s1 ∷ s2 ∷ s3 ∷ s4 ∷ s5 ∷ s6 ∷ s7 ∷ s8 ∷ s9 ∷ s10 ∷ s11 ∷ s12 ∷ s13 ∷ s) h = absurd (omega arith)

-- ---- the reader: its seven counts

pub not_above : (n : ℕ) (counts : List ℕ) {b : Bool} → n ≤ limit → any_above counts ≡ b → any_above (n ∷ counts) ≡ b
unfolding any_above
not_above n counts h e = simp (le-ltb limit n h) e

-- the counts together have no bit above those of a count exactly if none of them has
pub within : (n : ℕ) (counts : List ℕ) → or_all n counts ≤ limit → (n ≤ limit) × (any_above counts ≡ false)
unfolding any_above
within n [] h = (h, refl)
within n (m ∷ counts) h =
    let rest : (bit_or n m ≤ limit) × (any_above counts ≡ false) = within (bit_or n m) counts h in
    (omega (arith, or_most_l n m, rest.0), not_above m counts (omega (arith, or_most_r n m, rest.0)) rest.1)

none_at : (counts : List ℕ) → any_above counts ≡ false → (k : ℕ) → get_or counts k 0 ≤ limit
unfolding any_above limit
none_at [] none k = omega arith
none_at (n ∷ counts) none zero = ltb-false limit n (or_neither (ltb limit n) (any_above counts) none).0
none_at (n ∷ counts) none (suc k) = none_at counts (or_neither (ltb limit n) (any_above counts) none).1 k

bits_within : (n : ℕ) (counts : List ℕ) → n ≤ limit → any_above counts ≡ false → or_all n counts ≤ limit
unfolding any_above limit
bits_within n [] h none = h
bits_within n (m ∷ counts) h none =
    let each : (ltb limit m ≡ false) × (any_above counts ≡ false) = or_neither (ltb limit m) (any_above counts) none in
    let most : m ≤ limit = ltb-false limit m each.0 in
    let small : bit_or n m < 2 ^ 32 = or_lt 32 n m (omega arith) (omega arith) in
    bits_within (bit_or n m) counts (omega arith) each.1

pub fit_together : (n : ℕ) (counts : List ℕ) → or_all n counts ≤ limit → any_above (n ∷ counts) ≡ false
fit_together n counts h = not_above n counts (within n counts h).0 (within n counts h).1

pub too_high_together : (n : ℕ) (counts : List ℕ) → limit < or_all n counts → any_above (n ∷ counts) ≡ true
unfolding any_above
too_high_together n counts h =
    either (any_above (n ∷ counts)) (λ e. e)
    (λ none.
    let each : (ltb limit n ≡ false) × (any_above counts ≡ false) = or_neither (ltb limit n) (any_above counts) none in
    absurd (omega (arith, bits_within n counts (ltb-false limit n each.0) each.1)))

module _ (state : List ℕ) where
  -- each of the counts is one that a tally can hold
  pub counts_fit :
      (k : ℕ)
      → or_all (get_or state 1 0) (get_or state 2 0 ∷ get_or state 3 0 ∷ get_or state 4 0 ∷ get_or state 5 0 ∷ get_or state 6 0 ∷ get_or state 7 0 ∷ []) ≤ limit
      → get_or (counts_in state) k 0 ≤ limit
  counts_fit k h = none_at (counts_in state) (fit_together _ _ h) k

  pub too_high : any_above (counts_in state) ≡ true → None ≡ reader_in state
  unfolding reader_in
  too_high h = simp (h, pick_true)

  pub all_fit : any_above (counts_in state) ≡ false
      → Some (reader_at state) ≡ reader_in state
  unfolding reader_in
  all_fit h = simp (h, pick_false)

-- ---- the ends of a call

module _ (input memory output numbers bytes records state : List ℕ) where
  pub not_thirteen : (length state ≡ 13 → ⊥) → left_by 20 memory output bytes records state ≡ called input memory output numbers bytes records state
  unfolding called
  not_thirteen h = simp (ne_eqb (length state) 13 h, pick_true)

  -- what a call on thirteen numbers comes to, by what they are as a reader's state
  made_known : (made known : Option Reader) → length state ≡ 13 → made ≡ reader_in state → made ≡ known
      → called_with input memory output numbers bytes records state known ≡ called input memory output numbers bytes records state
  unfolding called
  made_known made known h e k = simp (eq-eqb (length state) 13 h, pick_false, sym e, k)

  pub out_of_range : (made : Option Reader) → length state ≡ 13 → made ≡ reader_in state → made ≡ None
      → left_by 21 memory output bytes records state ≡ called input memory output numbers bytes records state
  unfolding called_with
  out_of_range made h e k = made_known made None h e k

  module _ (made : Option Reader) (reader : Reader) (thirteen : length state ≡ 13) (is : made ≡ reader_in state) (fit : made ≡ Some reader) where
    pub no_places : places_fit numbers ≡ false → left_by 22 memory output bytes records state ≡ called input memory output numbers bytes records state
    unfolding called_with
    no_places p = sym (simp (p, pick_true)) ∙ made_known made (Some reader) thirteen is fit

    pub no_records : places_fit numbers ≡ true → (length records % 3 ≡ 0 → ⊥)
        → left_by 23 memory output bytes records state ≡ called input memory output numbers bytes records state
    unfolding called_with records_fit
    no_records p h =
        sym (simp (p, ne_eqb (length records % 3) 0 h, pick_true, pick_false)) ∙ made_known made (Some reader) thirteen is fit

    pub carried_out_lem : places_fit numbers ≡ true → length records % 3 ≡ 0
        → (left : Left)
        → left ≡ stepped input (state_in memory output numbers bytes state reader) (lent_of bytes (get_or state 11 0)) records (held_in state)
        → left ≡ called input memory output numbers bytes records state
    unfolding called_with records_fit
    carried_out_lem p h left done =
        done ∙ sym (simp (p, eq-eqb (length records % 3) 0 h, pick_false)) ∙ made_known made (Some reader) thirteen is fit

-- ---- the call between unpacking and storing

-- the list with the failure of a call, if there is one
unfoldable pub listed_by : List ℕ → ℕ → Option Record → List ℕ
listed_by records held None = records
listed_by records held (Some r) = numbers_with records held r

listed_same : (records : List ℕ) (held : ℕ) (f : List Record) → listed_by records held (as_failure f) ≡ listed_in records held f
unfolding listed_by as_failure listed_in place_for record_in
listed_same records held [] = sym (with_behind records (room_in records) blank (omega arith))
listed_same records held (r ∷ rest) = refl

-- all that a call leaves, of what it hands back and of the list
abbrev left_of : Listed → List ℕ → List ℕ → List ℕ → List ℕ → Left
left_of r memory output bytes records =
    left_by (number_of r.called.outcome) memory output bytes records
    (packed r.called.state.reader r.called.length (reason_of r.called.outcome) r.called.state.next r.called.state.selected r.held)

module _ (input memory output numbers bytes records state : List ℕ) (reader : Reader) where
  abbrev state_with : List Place → State
  state_with row = state_of memory row (length numbers / 2) (selection_in bytes (get_or state 11 0)) output reader (get_or state 10 0)

  -- with any row of places
  beside_step : (row : List Place) (r : Listed) (memory' output' bytes' : List ℕ)
      → Beside input (state_with row) bytes (get_or state 11 0) (room_in records) (held_in state) memory' bytes' output' r
      → left_of r memory' output' bytes' (listed_by records (held_in state) r.failure)
      ≡ stepped input (state_with row) (lent_of bytes (get_or state 11 0)) records (held_in state)
  unfolding stepped told listed_in
  beside_step row r memory' output' bytes' b =
      let f : List Record = failure_beside input (state_with row) (room_in records) (held_in state) in
      let x : Step = step_beside input (state_with row) (room_in records) (held_in state) in
      let m : Lent = lent_by (is_list_full (room_in records) (held_in state)) input (state_with row) (lent_of bytes (get_or state 11 0)) in
      ap₂ (λ (y : Step) (l : Lent). told y l (listed_by records (held_in state) r.failure) r.held) b.step_is b.lent_is
      ∙ ap (λ (l : List ℕ). told x m l r.held) (ap (listed_by records (held_in state)) b.failure_is ∙ listed_same records (held_in state) f)
      ∙ ap (told x m (listed_in records (held_in state) f)) b.held_is

  pub packed_step : (used : ℕ) → used ≡ used_of (length numbers / 2) → (row : List Place) → row ≡ placed numbers used
      → (r : Listed) (memory' output' bytes' : List ℕ)
      → Beside input (state_with row) bytes (get_or state 11 0) (room_in records) (held_in state) memory' bytes' output' r
      → (answer : ℕ) (records' state' : List ℕ) → answer ≡ number_of r.called.outcome
      → records' ≡ listed_by records (held_in state) r.failure
      → state' ≡ packed r.called.state.reader r.called.length (reason_of r.called.outcome) r.called.state.next r.called.state.selected r.held
      → left_by answer memory' output' bytes' records' state'
      ≡ stepped input (state_in memory output numbers bytes state reader) (lent_of bytes (get_or state 11 0)) records (held_in state)
  unfolding state_in tags_in
  packed_step used u row w r memory' output' bytes' b answer records' state' n list q =
      let same : row ≡ placed numbers (used_of (length numbers / 2)) = w ∙ ap (placed numbers) u in
      ap (λ (a : ℕ). left_by a memory' output' bytes' records' state') n
      ∙ ap₂ (left_by (number_of r.called.outcome) memory' output' bytes') list q
      ∙ beside_step row r memory' output' bytes' b
      ∙ ap (λ (places : List Place). stepped input (state_with places) (lent_of bytes (get_or state 11 0)) records (held_in state)) same
