-- What holds between two pieces of a sheet that is printed, and that each piece brings its end nearer.
use Prim.Native.Nat.{ℕ, ◌+◌, ◌≤◌, ◌<◌}
use lib.ListN.{length, replicate}
use mathlib.Core.Bool.{Bool, true, false}
use mathlib.Core.List.{List}
use mathlib.Core.Path.{◌≡◌, refl, ap, sym, subst, ◌∙◌}
use native.Mathlib.Omega.{arith}
use Rattle.frame.proofs.Picks.{pick_false}
use Rattle.frame.specs.Bytes.{pick}
use Rattle.machine.specs.Lent.{selection_in}
use Rattle.page.proofs.Beginnings.{rows_short}
use Rattle.page.specs.Beginning.{Begins}
use Rattle.page.specs.Page.{has_rows}
use Rattle.page.specs.declared.beginning.Begun.{Begun}
use Rattle.population.specs.Places.{nowhere}
use Rattle.population.specs.declared.places.Place.{Place}
use Rattle.population.specs.declared.places.Population.{Population}
use Rattle.report.specs.Report.{any_long, places_of, fresh}
use Rattle.sheet.proofs.Advancing.{advanced_more, filled}
use Rattle.sheet.proofs.Claimed.{begun_there}
use Rattle.sheet.proofs.Tellings.{falls}
use Rattle.sheet.specs.Itemised.{advanced, LeftBySome}
use Rattle.sheet.specs.Sheet.{Standing, teller, begun_on}
use Rattle.sheet.specs.Writing.{begun, longest_part, standing_at}
use Rattle.sheet.specs.declared.telling.Progress.{Progress}
use Rattle.text.proofs.Told.{less_behind}
use Rattle.text.specs.Telling.{left, fill, Wrote}

module _ (commands : List ℕ) (population : Population) where
  abbrev Start : List ℕ → List ℕ → Standing
  Start memory output = standing_at memory population (replicate 39 0) output begun

  -- the buffers are as long as at first, and the sheet stands where some calls of the run leave it
  pub record Going (memory₀ output₀ buffer₀ memory output bytes buffer : List ℕ) (progress : Progress) : Type 0 where
    pub memory_length : length memory ≡ length memory₀
    pub output_length : length output ≡ length output₀
    pub buffer_length : length buffer ≡ length buffer₀
    pub calls : ℕ
    pub made : standing_at memory population bytes output progress ≡ advanced calls commands (Start memory₀ output₀)

  -- no byte of the selection is in use at first
  begins : (memory output bytes : List ℕ) → standing_at memory population bytes output begun ≡ Start memory output
  unfolding selection_in pick
  begins memory output bytes = refl

  pub going : (memory output bytes buffer : List ℕ) (progress : Progress) → progress ≡ begun → Going memory output buffer memory output bytes buffer progress
  unfolding advanced
  going memory output bytes buffer progress e =
      record {
        memory_length = refl;
        output_length = refl;
        buffer_length = refl;
        calls = 0;
        made = ap (λ (p : Progress). standing_at memory population bytes output p) e ∙ begins memory output bytes;
      }

  pub left_by : (memory₀ output₀ buffer₀ memory output bytes buffer : List ℕ) (progress : Progress) → Going memory₀ output₀ buffer₀ memory output bytes buffer progress
      → LeftBySome commands (Start memory₀ output₀) memory
  left_by memory₀ output₀ buffer₀ memory output bytes buffer progress g = (g.calls, ap (λ (s : Standing). s.bench.memory) g.made)

  module _ (memory₀ output₀ buffer₀ memory output bytes buffer memory' output' bytes' buffer' : List ℕ) (progress progress' : Progress) (used : ℕ)
      (g : Going memory₀ output₀ buffer₀ memory output bytes buffer progress)
      (room : 1024 ≤ length buffer₀)
      (w : Wrote (fill (teller commands) longest_part (length buffer) progress.over (standing_at memory population bytes output progress)) buffer buffer' used progress'.over
      (standing_at memory' population bytes' output' progress'))
      (same_memory : length memory' ≡ length memory)
      (same_output : length output' ≡ length output)
      (same-buffer : length buffer' ≡ length buffer) where
    abbrev before : Standing
    before = standing_at memory population bytes output progress

    pub used_there : used ≤ length buffer'
    used_there = omega (arith, w.within)

    pub goes_on : Going memory₀ output₀ buffer₀ memory' output' bytes' buffer' progress'
    goes_on =
        let piece = filled commands (length buffer) progress.over before in
        record {
          memory_length = same_memory ∙ g.memory_length;
          output_length = same_output ∙ g.output_length;
          buffer_length = same-buffer ∙ g.buffer_length;
          calls = g.calls + piece.0;
          made =
              w.state_is
              ∙ piece.1
              ∙ ap (advanced piece.0 commands) g.made
              ∙ advanced_more commands g.calls piece.0 (Start memory₀ output₀);
        }

    -- fewer parts are left behind a piece
    pub nearer : progress.over ≡ false
        → left (teller commands) progress'.over (standing_at memory' population bytes' output' progress') < left (teller commands) progress.over before
    nearer on = rw (w.over_is, w.state_is, on) (less_behind (teller commands) (falls commands) longest_part (length buffer) before (omega (arith, g.buffer_length)))

-- ---- the whole page

-- nothing was run
pub not_run : (commands memory sizes : List ℕ) → LeftBySome commands (begun_on memory sizes) memory
unfolding advanced fresh
not_run commands memory sizes = (0, refl)

-- where rows follow, the tags lie one behind the other
pub rows_run : (readable : Bool) (commands memory sizes text before after memory' : List ℕ) (places : List Place) (r : Begun)
    → places ≡ pick (any_long sizes) (replicate 16 nowhere) (places_of sizes)
    → Begins text (has_rows readable commands memory sizes places) before after r → 2048 ≤ length before → r.rows ≡ true
    → LeftBySome commands (standing_at memory (record { places = places; tags = length sizes }) (replicate 39 0) (replicate 136 0) begun) memory'
    → LeftBySome commands (begun_on memory sizes) memory'
rows_run readable commands memory sizes text before after memory' places r laid begins room rows run =
    let has : has_rows readable commands memory sizes places ≡ true = sym (begins.long room).1.0 ∙ rows in
    let there : places ≡ places_of sizes = laid ∙ rw (rows_short readable commands memory sizes places has, pick_false) in
    subst (λ (s : Standing). LeftBySome commands s memory')
    (ap (λ (p : List Place). standing_at memory (record { places = p; tags = length sizes }) (replicate 39 0) (replicate 136 0) begun) there ∙ begun_there memory sizes) run
