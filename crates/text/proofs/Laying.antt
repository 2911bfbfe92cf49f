-- A piece that has room is put; one that has none leaves all as it was.
use Prim.Native.Nat.{ℕ, ◌+◌, ◌≤◌, ◌<◌}
use borrow.Author.Tests.{lt-leb}
use mathlib.Core.Bool.{true, false}
use mathlib.Core.List.{List}
use mathlib.Core.Path.{◌≡◌, ◌∙◌}
use lib.ListN.{length}
use Rattle.frame.proofs.Copies.{there_reaches}
use Rattle.frame.proofs.Picks.{pick_true, pick_false}
use Rattle.frame.specs.Bytes.{reaches}
use Rattle.frame.specs.Putting.{Put}
use Rattle.text.specs.Laying.{Laid, LaidWithin}

module _ (piece : List ℕ) (at : ℕ) (before : List ℕ) where
  pub laid_put : (after : List ℕ) (result : ℕ) → at + length piece ≤ length before → Laid piece at before after result → Put piece at before after result
  laid_put after result room laid =
      let fits : reaches before at (length piece) ≡ true = there_reaches before at (length piece) room in
      record {
        output_is = laid.bytes_are ∙ simp (fits, pick_true);
        next_is = laid.result_is ∙ simp (fits, pick_true);
      }

  pub laid_none : (after : List ℕ) (result : ℕ) → length before < at + length piece → Laid piece at before after result → (result ≡ at) × (after ≡ before)
  unfolding reaches
  laid_none after result short laid =
      let none : reaches before at (length piece) ≡ false = lt-leb (at + length piece) (length before) short in
      (laid.result_is ∙ simp (none, pick_false), laid.bytes_are ∙ simp (none, pick_false))

  pub put_laid : (after : List ℕ) (result : ℕ) → reaches before at (length piece) ≡ true → Put piece at before after result → Laid piece at before after result
  put_laid after result fits put =
      record {
        bytes_are = put.output_is ∙ simp (fits, pick_true);
        result_is = put.next_is ∙ simp (fits, pick_true);
      }

  pub none_laid : reaches before at (length piece) ≡ false → Laid piece at before before at
  none_laid none = record { bytes_are = simp (none, pick_false); result_is = simp (none, pick_false) }

-- ---- a piece of at most so many bytes

module _ (most : ℕ) (piece : List ℕ) (at : ℕ) (before : List ℕ) where
  pub within_put : (after : List ℕ) (result : ℕ) → at + most ≤ length before → LaidWithin most piece at before after result → Put piece at before after result
  within_put after result room laid =
      let fits : reaches before at most ≡ true = there_reaches before at most room in
      record {
        output_is = laid.bytes_are ∙ simp (fits, pick_true);
        next_is = laid.result_is ∙ simp (fits, pick_true);
      }

  pub put_within : (after : List ℕ) (result : ℕ) → reaches before at most ≡ true → length piece ≤ most → Put piece at before after result
      → LaidWithin most piece at before after result
  put_within after result fits short put =
      record {
        bytes_are = put.output_is ∙ simp (fits, pick_true);
        result_is = put.next_is ∙ simp (fits, pick_true);
        short = short;
      }

  pub none_within : reaches before at most ≡ false → length piece ≤ most → LaidWithin most piece at before before at
  none_within none short = record { bytes_are = simp (none, pick_false); result_is = simp (none, pick_false); short = short }
