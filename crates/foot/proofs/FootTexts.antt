-- The foot of the sheet, put piece behind piece, and where it has no room.
use Prim.Native.Nat.{ℕ, ◌+◌, ◌≤◌, ◌<◌}
use borrow.Author.Tests.{le-leb, lt-leb}
use lib.ListN.{length}
use mathlib.Core.Bool.{true, false}
use mathlib.Core.List.{List, []}
use mathlib.Core.Path.{◌≡◌, refl, sym, ap, subst, ◌∙◌}
use native.Mathlib.Omega.{arith}
use Rattle.foot.specs.Ending.{Ends}
use Rattle.foot.specs.Foot.{waiting_rows, foot, end_for, Ended}
use Rattle.frame.proofs.Copies.{there_reaches}
use Rattle.frame.proofs.Picks.{pick_true, pick_false}
use Rattle.frame.specs.Bytes.{reaches}
use Rattle.frame.specs.Putting.{Put}
use Rattle.frame.specs.declared.finding.Reason.{Reason}
use Rattle.reader.specs.Outcomes.{number_of}
use Rattle.reader.specs.declared.outcome.Outcome.{Outcome}
use Rattle.reader.specs.declared.outcome.Outcome.TheVariants.{Answered, AtEnd, Incomplete, Dropped, PastEnd, BadImage, ShortOutput, FullTally, FullList}
use Rattle.reader.specs.declared.state.Reader.{Reader}
use Rattle.rows.specs.Rows.{waiting_row}
use Rattle.std.proofs.Common.{◌⊎◌, inl, inr}
use Rattle.text.proofs.Writing.{nothing_put, within_puts}
use Rattle.text.specs.Counts.{refused_line}
use Rattle.text.specs.Writing.{LaysWithin, Puts}
use Rattle.text.specs.declared.writer.Writer.{Writer}

-- ---- what waits

module _ (cursor size : ℕ) where
  pub waits_not : (writer : Writer) → size ≤ cursor → Puts 100 (waiting_rows cursor size) writer writer
  unfolding waiting_rows
  waits_not writer h = rw (le-leb size cursor h, pick_true) (nothing_put 100 writer)

  pub waits : {before after : Writer} → cursor < size → LaysWithin 100 (waiting_row cursor size) before after
      → Puts 100 (waiting_rows cursor size) before after
  unfolding waiting_rows
  waits h lays = rw (lt-leb size cursor h, pick_false) (within_puts lays)

-- ---- by how the call ended

-- it ends with its number
abbrev told : List ℕ → Reader → ℕ → Outcome → Type 0
told input reader items o = refused_line (number_of o) ≡ end_for input reader items o

module _ (input : List ℕ) (reader : Reader) (items : ℕ) {o : Outcome} where
  pub no_end : (o ≡ Answered) ⊎ ((r : Reason) × (o ≡ Dropped r)) → [] ≡ end_for input reader items o
  unfolding end_for
  no_end cases = elim cases [ inl e ↦ ap (end_for input reader items) (sym e) | inr d ↦ ap (end_for input reader items) (sym d.1) ]

  pub whole_end : (o ≡ AtEnd) ⊎ (o ≡ Incomplete) → foot input reader items ≡ end_for input reader items o
  unfolding end_for
  whole_end cases = elim cases [ inl e ↦ ap (end_for input reader items) (sym e) | inr e ↦ ap (end_for input reader items) (sym e) ]

  pub refused_end : (o ≡ PastEnd) ⊎ ((o ≡ BadImage) ⊎ ((o ≡ ShortOutput) ⊎ ((o ≡ FullTally) ⊎ (o ≡ FullList)))) → told input reader items o
  unfolding end_for
  refused_end cases =
      elim cases [
        | inl e ↦ subst (told input reader items) (sym e) refl
        | inr cases ↦ elim cases [
          | inl e ↦ subst (told input reader items) (sym e) refl
          | inr cases ↦ elim cases [
            | inl e ↦ subst (told input reader items) (sym e) refl
            | inr cases ↦ elim cases [ inl e ↦ subst (told input reader items) (sym e) refl | inr e ↦ subst (told input reader items) (sym e) refl ]
          ]
        ]
      ]

-- ---- in any buffer

module _ (text : List ℕ) where
  pub ends : {before after : Writer} → before.at + 516 ≤ length before.buffer.now → Puts 516 text before after → Ends text before after
  ends {before = before} room puts =
      let fits : reaches before.buffer.now before.at 516 ≡ true = there_reaches before.buffer.now before.at 516 room in
      let put = puts.put room in
      record {
        same_reference = puts.same_reference;
        ended =
            record {
              bytes_are = put.output_is ∙ sym (rw (fits, pick_true));
              result_is = put.next_is ∙ sym (rw (fits, pick_true));
              most = omega (arith, put.next_is, puts.short);
            };
      }

  pub ends_nothing : (writer : Writer) → length writer.buffer.now < writer.at + 516 → Ends text writer writer
  unfolding reaches
  ends_nothing writer short =
      let none : reaches writer.buffer.now writer.at 516 ≡ false = lt-leb (writer.at + 516) (length writer.buffer.now) short in
      record {
        same_reference = refl;
        ended = record { bytes_are = sym (rw (none, pick_false)); result_is = sym (rw (none, pick_false)); most = omega arith };
      }

  pub ended_put : (at : ℕ) (before after : List ℕ) (result : ℕ) → at + 516 ≤ length before → Ended text at before after result
      → Put text at before after result × (result ≤ at + 516)
  ended_put at before after result room e =
      let fits : reaches before at 516 ≡ true = there_reaches before at 516 room in
      (record { output_is = e.bytes_are ∙ rw (fits, pick_true); next_is = e.result_is ∙ rw (fits, pick_true) }, e.most)
