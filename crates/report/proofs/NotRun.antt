-- The report on files that are not run, and which those are.
use Prim.Native.Nat.{ℕ, zero, suc, ◌≤◌, ◌<◌}
use borrow.Author.Tests.{ltb-false, lt-ltb, le-ltb, not-true, not-false}
use lib.Dec.{ltb}
use lib.ListN.{length, get_or}
use mathlib.Core.Bool.{Bool, true, false, not, ◌||◌}
use mathlib.Core.List.{List, [], ◌∷◌}
use mathlib.Core.Logic.{◌≢◌}
use mathlib.Core.Path.{◌≡◌, refl, ap, sym, ◌∙◌}
use native.Mathlib.Omega.{arith}
use Rattle.frame.proofs.Picks.{pick_true, pick_false}
use Rattle.frame.proofs.Tests.{holds, fails, either, or_neither}
use Rattle.frame.specs.Bytes.{pick}
use Rattle.frame.specs.Frames.{written}
use Rattle.report.specs.Claims.{LongFiles, UnreadableReport, NoticeAlone, RunPrinted}
use Rattle.report.specs.Lines.{too_long_line, unreadable_line}
use Rattle.report.specs.Report.{report_from, any_long, too_long, fresh, report_of, files_of, notice_of, printed}
use Rattle.report.specs.Writing.{Told}
use Rattle.report.specs.declared.limits.Unfit.{Unfit}
use Rattle.report.specs.declared.limits.Unfit.TheVariants.{Unreadable, TooLong}
use Rattle.std.proofs.Common.{Result, Ok, Err}
use Rattle.std.specs.List.{list_any}
use Rattle.text.proofs.Written.{put_first}
use Rattle.text.proofs.Laying.{laid_put, laid_none}
use Rattle.text.specs.Laying.{Laid}
use Rattle.text.specs.Writing.{Lays}
use Rattle.text.specs.declared.writer.Writer.{Writer}

pub by_commands : (commands : ℕ) (sizes : List ℕ) → 32768 < commands → ltb 32768 commands ≡ too_long commands sizes
unfolding too_long
by_commands commands sizes h = simp (lt-ltb 32768 commands h)

any_is : (sizes : List ℕ) → list_any (ltb 2048) sizes ≡ any_long sizes
unfolding any_long
any_is [] = refl
any_is (n ∷ sizes) = ap (λ (b : Bool). ltb 2048 n || b) (any_is sizes)

pub by_sizes : (commands : ℕ) (sizes : List ℕ) (long : Bool) → commands ≤ 32768 → long ≡ list_any (ltb 2048) sizes → long ≡ too_long commands sizes
unfolding too_long
by_sizes commands sizes long h e = e ∙ any_is sizes ∙ sym (simp (le-ltb 32768 commands h))

pub each_short : (sizes : List ℕ) → any_long sizes ≡ false → (i : ℕ) → i < length sizes → get_or sizes i 0 ≤ 2048
unfolding any_long
each_short [] h i l = absurd (omega arith)
each_short (n ∷ sizes) h zero l = ltb-false 2048 n (or_neither (ltb 2048 n) (any_long sizes) h).0
each_short (n ∷ sizes) h (suc i) l = each_short sizes (or_neither (ltb 2048 n) (any_long sizes) h).1 i (omega arith)

all_short : (sizes : List ℕ) → ((i : ℕ) → i < length sizes → get_or sizes i 0 ≤ 2048) → any_long sizes ≡ false
unfolding any_long
all_short [] h = refl
all_short (n ∷ sizes) h = simp (le-ltb 2048 n (h 0 (omega arith))) (all_short sizes (λ i l. h (suc i) (omega arith)))

-- a line that a writer lays at the start of the lent buffer; what the writer leaves is what the buffer holds
pub told : (line : List ℕ) (writer : Writer) {after : Writer} (held : List ℕ) → writer.at ≡ 0 → held ≡ after.buffer.now → Lays line writer after
    → Told line writer.buffer.now held after.at
told line writer {after = after} held start same lays =
    let laid : Laid line 0 writer.buffer.now held after.at = rw (same, ← start) lays.laid in
    record {
      short = λ k. laid_none line 0 writer.buffer.now held after.at (omega arith) laid;
      long = λ k. put_first line writer.buffer.now held after.at (laid_put line 0 writer.buffer.now held after.at (omega arith) laid) k;
    }

none_told : (buffer : List ℕ) → Told [] buffer buffer 0
unfolding written
none_told buffer = record { short = λ k. absurd (omega arith); long = λ k. (refl, refl) }

-- files of which no line is told are those that fit
pub fit_told : (files : Result (Unit {0}) Unfit) (buffer : List ℕ) → ((unfit : Unfit) → files ≡ Err unfit → ⊥) → Told (notice_of files) buffer buffer 0
unfolding notice_of
fit_told (Ok u) buffer none = none_told buffer
fit_told (Err unfit) buffer none = absurd (none unfit refl)

-- ---- which files are run

pub not_readable : (readable : Bool) (commands : ℕ) (sizes : List ℕ) → not readable ≡ true → Err Unreadable ≡ files_of readable commands sizes
unfolding files_of
not_readable readable commands sizes h = rw (not-true readable h, pick_false)

pub readable_long : (readable long : Bool) (commands : ℕ) (sizes : List ℕ) → not readable ≡ false → long ≡ true → long ≡ too_long commands sizes
    → Err TooLong ≡ files_of readable commands sizes
unfolding files_of
readable_long readable long commands sizes r h is = rw (not-false readable r, holds h is, pick_true, pick_true)

pub readable_fit : (readable long : Bool) (commands : ℕ) (sizes : List ℕ) → not readable ≡ false → long ≡ false → long ≡ too_long commands sizes
    → Ok tt ≡ files_of readable commands sizes
unfolding files_of
readable_fit readable long commands sizes r h is = rw (not-false readable r, fails h is, pick_true, pick_false)

-- files that fit are not long
pub fit_short : (readable : Bool) (commands : ℕ) (sizes : List ℕ) → files_of readable commands sizes ≡ Ok tt → any_long sizes ≡ false
unfolding files_of too_long pick
fit_short false commands sizes h = let z : ◌≡◌ {A = ℕ} 0 1 = cc in absurd (omega arith)
fit_short true commands sizes h =
    either (ltb 32768 commands || any_long sizes)
    (λ long. let bad : ◌≡◌ {A = Result (Unit {0}) Unfit} (Err TooLong) (Ok tt)
    = sym (ap (λ (b : Bool). pick b (Err TooLong) (Ok tt)) long) ∙ h in let z : ◌≡◌ {A = ℕ} 0 1 = cc in absurd (omega arith))
    (λ short. (or_neither (ltb 32768 commands) (any_long sizes) short).1)

-- ---- the claims

pub long_files : LongFiles
unfolding too_long
long_files commands sizes = (
  λ h.
      let each = or_neither (ltb 32768 commands) (any_long sizes) h in
      (ltb-false 32768 commands each.0, each_short sizes each.1),
  λ r. simp (le-ltb 32768 commands r.0) (all_short sizes r.1),
)

pub unreadable_report : UnreadableReport
unfolding printed unreadable_line
unreadable_report commands memory sizes = pick_false _ _

abbrev judged : Bool → Bool → Result (Unit {0}) Unfit
judged readable long = pick readable (pick long (Err TooLong) (Ok tt)) (Err Unreadable)

module _ (commands memory sizes : List ℕ) where
  abbrev Alone : Bool → Bool → Type 0
  Alone readable long =
      judged readable long ≢ Ok tt
      → pick readable (pick long too_long_line (report_from commands false (fresh memory sizes))) unreadable_line
      ≡ notice_of (judged readable long)

  abbrev Whole : Bool → Bool → Type 0
  Whole readable long =
      judged readable long ≡ Ok tt
      → pick readable (pick long too_long_line (report_from commands false (fresh memory sizes))) unreadable_line
      ≡ report_from commands false (fresh memory sizes)

  alone : (readable long : Bool) → Alone readable long
  unfolding pick notice_of
  alone true true h = refl
  alone true false h = absurd (h refl)
  alone false long h = refl

  whole : (readable long : Bool) → Whole readable long
  unfolding pick
  whole true true h = let z : ◌≡◌ {A = ℕ} 0 1 = cc in absurd (omega arith)
  whole true false h = refl
  whole false long h = let z : ◌≡◌ {A = ℕ} 0 1 = cc in absurd (omega arith)

pub notice_alone : NoticeAlone
unfolding printed report_of files_of
notice_alone readable commands memory sizes = alone commands memory sizes readable (too_long (length commands) sizes)

pub run_printed : RunPrinted
unfolding printed report_of files_of
run_printed readable commands memory sizes = whole commands memory sizes readable (too_long (length commands) sizes)
