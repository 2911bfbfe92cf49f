-- What is decided, test by test, as the code comes upon it.
use Prim.Native.Nat.{ℕ, zero, suc, ◌+◌, ◌-◌, ◌≤◌, ◌<◌}
use borrow.Author.Tests.{lt-ltb, le-ltb, le-leb, lt-leb, eq-eqb, ne_eqb}
use lib.ListN.{length, take, drop, get_or, replicate, length-drop, get_or-eq_default}
use lib.Seq.{take_all}
use mathlib.Core.Bool.{Bool, true, false}
use mathlib.Core.List.{List, ◌∷◌}
use mathlib.Core.Path.{◌≡◌, refl, ap, sym, ◌∙◌}
use native.Mathlib.Nat.{add_assoc}
use native.Mathlib.Omega.{arith}
use Rattle.reader.specs.declared.outcome.Outcome.TheVariants.{AtEnd, Incomplete, PastEnd, BadImage, ShortOutput, FullTally}
use Rattle.machine.specs.Lent.{selection_in}
use Rattle.machine.specs.Machine.{State, code_at, parameters_at, error_without, aim_job, command_job, found_job, find_job, hand_out, waiting, decide}
use Rattle.machine.specs.declared.deciding.Job.{Job}
use Rattle.machine.specs.declared.deciding.Job.TheVariants.{Stay, DropByte, Select, Miss, Aim}
use Rattle.frame.proofs.Accepting.{accepted}
use Rattle.frame.proofs.Picks.{pick_true, pick_false}
use Rattle.frame.specs.Bytes.{all, byte, part}
use Rattle.frame.specs.Finding.{find}
use Rattle.frame.specs.Formats.{commands}
use Rattle.frame.specs.Frames.{frame_length, longest_answer}
use Rattle.frame.specs.declared.finding.Found.{Found}
use Rattle.frame.specs.declared.finding.Found.TheVariants.{End, Drop, Wait, Accept}
use Rattle.frame.specs.declared.finding.Reason.{Reason}
use Rattle.population.specs.Lowest.{lowest, no_tag, tag_at}
use Rattle.population.specs.Places.{good_population}
use Rattle.population.specs.Selections.{target_of, action_of, mask_bank, taken, good_selection}
use Rattle.std.specs.List.{slice_range}
use Rattle.std.specs.Prelude.{Option}
use Rattle.population.specs.declared.places.Place.{Place}
use Rattle.reader.specs.Tallies.{full}
use Rattle.tag.specs.Commands.{parse}

-- ---- the lent selection

-- what is handed out of the lent bytes, where so many are there, is the selection
module _ (bytes : List ℕ) (count : ℕ) (cut : List ℕ) (is : cut ≡ slice_range bytes 0 count) (few : count ≤ 39) where
  pub selection_whole : cut ≡ selection_in bytes count
  unfolding selection_in
  selection_whole =
      let k : count - 0 ≡ count = omega arith in
      is ∙ ap (λ (n : ℕ). take n bytes) k ∙ sym (simp (le-leb count 39 few, pick_true))

  pub selection_judged : (r : Bool) → r ≡ good_selection cut → r ≡ good_selection (selection_in bytes count)
  selection_judged r e = e ∙ ap good_selection selection_whole

  pub lowest_whole : (memory : List ℕ) (tags : ℕ) (places : List Place) (start : ℕ) (r : Option (ℕ × Place))
      → r ≡ lowest memory tags places cut start → r ≡ lowest memory tags places (selection_in bytes count) start
  lowest_whole memory tags places start r e = e ∙ ap (λ (l : List ℕ). lowest memory tags places l start) selection_whole

  pub job_whole : (input memory : List ℕ) (tags : ℕ) (places : List Place) (cursor : ℕ) (r : Job)
      → r ≡ find_job input memory tags places cut cursor
      → r ≡ find_job input memory tags places (selection_in bytes count) cursor
  job_whole input memory tags places cursor r e = e ∙ ap (λ (l : List ℕ). find_job input memory tags places l cursor) selection_whole

zero_not_taken : (l : List ℕ) → taken (0 ∷ l) ≡ false
unfolding taken all target_of action_of mask_bank byte
zero_not_taken l = refl

zeros_bad : (n : ℕ) → 0 < n → good_selection (replicate n 0) ≡ false
unfolding good_selection
zeros_bad zero h = absurd (omega arith)
zeros_bad (suc n) h = simp (ne_eqb (suc (length (replicate {A = ℕ} n 0))) 0 (λ e. omega arith), pick_false) (zero_not_taken (replicate n 0))

pub too_many_bad : (bytes : List ℕ) (count : ℕ) → 39 < count → good_selection (selection_in bytes count) ≡ false
unfolding selection_in
too_many_bad bytes count many = simp (lt-leb count 39 many, pick_false) (zeros_bad count (omega arith))

-- ---- the code at the cursor

pub no_code : (input : List ℕ) (cursor : ℕ) → length input ≤ cursor → 0 ≡ code_at input cursor
unfolding code_at byte
no_code input cursor h = sym (get_or-eq_default input 0 (omega arith))

-- ---- what is found

module _ (input : List ℕ) (cursor : ℕ) (told kind : Found) where
  pub found_is : told ≡ find commands (take (length input - cursor) (drop cursor input)) → told ≡ kind → find commands (drop cursor input) ≡ kind
  found_is e k =
      let whole : take (length input - cursor) (drop cursor input) ≡ drop cursor input =
      take_all (length input - cursor) (drop cursor input) (omega (arith, length-drop cursor input))
      in
      ap (find commands) (sym whole) ∙ sym e ∙ k

pub frame_there : (input : List ℕ) (cursor pl : ℕ) → cursor ≤ length input → find commands (drop cursor input) ≡ Accept pl
    → cursor + (7 + pl) ≤ length input
frame_there input cursor pl h e = omega (arith, (accepted commands (drop cursor input) pl e).fits, length-drop cursor input)

module _ (input memory : List ℕ) (tags : ℕ) (places : List Place) (selection : List ℕ) (cursor : ℕ) where
  abbrev Finds : Job → Type 0
  Finds job = job ≡ find_job input memory tags places selection cursor

  pub finds : (kind : Found) → find commands (drop cursor input) ≡ kind → Finds (found_job input memory tags places selection cursor kind)
  unfolding find_job
  finds kind e = sym (ap (found_job input memory tags places selection cursor) e)

  pub finds_end : find commands (drop cursor input) ≡ End → Finds (Stay AtEnd)
  unfolding found_job
  finds_end e = finds End e

  pub finds_wait : find commands (drop cursor input) ≡ Wait → Finds (Stay Incomplete)
  unfolding found_job
  finds_wait e = finds Wait e

  pub finds_drop : (r : Reason) → find commands (drop cursor input) ≡ Drop r → Finds (DropByte r)
  unfolding found_job
  finds_drop r e = finds (Drop r) e

  pub finds_command : (pl : ℕ) → find commands (drop cursor input) ≡ Accept pl → (job : Job)
      → job ≡ command_job input memory tags places selection cursor pl → Finds job
  unfolding found_job
  finds_command pl e job c = c ∙ finds (Accept pl) e

  -- ---- an accepted command

  module _ (pl : ℕ) where
    abbrev Commands : Job → Type 0
    Commands job = job ≡ command_job input memory tags places selection cursor pl

    pub selects : get_or input (cursor + 2) 0 ≡ 0x0C → Commands (Select pl)
    unfolding command_job code_at byte
    selects e = simp (eq-eqb (get_or input (cursor + 2) 0) 0x0C e, pick_true)

    module _ (other : get_or input (cursor + 2) 0 ≡ 0x0C → ⊥) (told : Option (ℕ × Place)) (low : told ≡ lowest memory tags places selection 0) where
      aims_at : (kind : Option (ℕ × Place)) → told ≡ kind → Commands (aim_job input cursor pl kind)
      unfolding command_job code_at byte
      aims_at kind e = simp (ne_eqb (get_or input (cursor + 2) 0) 0x0C other, pick_false, ← low, e)

      pub misses : told ≡ no_tag → (e : ℕ)
          → e ≡ error_without (parse (get_or input (cursor + 2) 0) (take (cursor + 5 + pl - (cursor + 5)) (drop (cursor + 5) input)))
          → Commands (Miss e pl)
      unfolding aim_job code_at parameters_at byte part
      misses none e is =
          let n : cursor + 5 + pl - (cursor + 5) ≡ pl = omega arith in
          let error : e ≡ error_without (parse (get_or input (cursor + 2) 0) (take pl (drop (cursor + 5) input))) =
          is ∙ ap (λ (k : ℕ). error_without (parse (get_or input (cursor + 2) 0) (take k (drop (cursor + 5) input)))) n
          in
          ap (λ (k : ℕ). Miss k pl) error ∙ aims_at no_tag none

      pub aims : (number : ℕ) (place : Place) → told ≡ tag_at number place
          → Commands
          (Aim
          record { number = number; place = place; code = get_or input (cursor + 2) 0; first = cursor + 5; pl = pl; behind = cursor + 7 + pl })
      unfolding aim_job code_at byte frame_length
      aims number place e =
          ap
          (λ (n : ℕ).
          Aim record { number = number; place = place; code = get_or input (cursor + 2) 0; first = cursor + 5; pl = pl; behind = n })
          (add_assoc cursor 7 pl)
          ∙ aims_at (tag_at number place) e

-- ---- the tests before

module _ (input : List ℕ) (s : State) where
  pub past : length input < s.reader.cursor → Stay PastEnd ≡ decide input s
  unfolding decide
  past h = simp (lt-ltb (length input) s.reader.cursor h, pick_true)

  module _ (h : s.reader.cursor ≤ length input) where
    pub bad_selection : good_selection s.selection ≡ false → Stay BadImage ≡ decide input s
    unfolding decide
    bad_selection c = simp (le-ltb (length input) s.reader.cursor h, c, pick_true, pick_false)

    module _ (c : good_selection s.selection ≡ true) where
      pub bad_population : good_population s.memory s.tags s.places ≡ false → Stay BadImage ≡ decide input s
      unfolding decide
      bad_population g = simp (le-ltb (length input) s.reader.cursor h, c, g, pick_true, pick_false)

      module _ (g : good_population s.memory s.tags s.places ≡ true) where
        pub short : length s.output < 136 → Stay ShortOutput ≡ decide input s
        unfolding decide longest_answer
        short o = simp (le-ltb (length input) s.reader.cursor h, c, g, lt-ltb (length s.output) 136 o, pick_true, pick_false)

        module _ (o : 136 ≤ length s.output) where
          pub filled : full s.reader.tally ≡ true → Stay FullTally ≡ decide input s
          unfolding decide longest_answer
          filled f =
              simp (le-ltb (length input) s.reader.cursor h, c, g, le-ltb (length s.output) 136 o, f, pick_true, pick_false)

          module _ (f : full s.reader.tally ≡ false) where
            abbrev found : Job
            found = find_job input s.memory s.tags s.places s.selection s.reader.cursor

            pub tested : decide input s ≡ hand_out s.reader.cursor found (waiting s)
            unfolding decide longest_answer
            tested = simp (le-ltb (length input) s.reader.cursor h, c, g, le-ltb (length s.output) 136 o, f, pick_false)

            module _ (told : Option (ℕ × Place)) (low : told ≡ lowest s.memory s.tags s.places s.selection s.next) where
              turn : (kind : Option (ℕ × Place)) → told ≡ kind → hand_out s.reader.cursor found kind ≡ decide input s
              unfolding waiting
              turn kind e = ap (hand_out s.reader.cursor found) (sym e ∙ low) ∙ sym tested

              pub hands_out : (number : ℕ) (place : Place) → told ≡ tag_at number place
                  → Aim record { number = number; place = place; code = 0x22; first = 0; pl = 0; behind = s.reader.cursor } ≡ decide input s
              unfolding hand_out
              hands_out number place e = turn (tag_at number place) e

              pub hands_none : told ≡ no_tag → (job : Job) → job ≡ found → job ≡ decide input s
              unfolding hand_out
              hands_none e job is = is ∙ turn no_tag e
