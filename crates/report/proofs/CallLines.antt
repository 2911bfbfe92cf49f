-- The line of a call, by its outcome, and that every frame answered with has one.
use Prim.Native.Nat.{ℕ, ◌-◌, ◌<◌}
use borrow.Author.Tests.{lt-leb}
use lib.ListN.{length, take}
use mathlib.Core.Bool.{Bool, true, false}
use mathlib.Core.List.{List}
use mathlib.Core.Path.{◌≡◌, refl, ap, sym, subst, ◌∙◌}
use Rattle.reader.specs.Outcomes.{number_of}
use Rattle.reader.specs.declared.outcome.Outcome.{Outcome}
use Rattle.reader.specs.declared.outcome.Outcome.TheVariants.{Answered, AtEnd, Incomplete, Dropped, PastEnd, BadImage, ShortOutput, FullTally, FullList}
use Rattle.machine.proofs.Claimed.{answer_is_one_frame}
use Rattle.machine.proofs.Listing.{room_step}
use Rattle.machine.specs.Lent.{selection_in}
use Rattle.calls.specs.Calls.{step_of}
use Rattle.machine.specs.Machine.{State, state_of, Call, call, Step, step}
use Rattle.calls.specs.declared.calling.Called.{Called}
use Rattle.failures.specs.Listing.{is_list_full, Beside}
use Rattle.failures.specs.declared.listing.Listed.{Listed}
use Rattle.frame.specs.Bytes.{byte}
use Rattle.frame.specs.declared.finding.Reason.{Reason}
use Rattle.report.specs.Lines.{drop_line, frame_line, line_for, line_of, ends}
use Rattle.report.specs.Writing.{Framed, line_by, OneLine}
use Rattle.std.proofs.Common.{◌⊎◌, inl, inr}
use Rattle.text.specs.Counts.{counts_line, refused_line}
use Rattle.text.specs.Writing.{Puts}
use Rattle.text.specs.declared.writer.Writer.{Writer}

-- ---- the line, by how the call ended

module _ (input output : List ℕ) (cursor : ℕ) (r : Called) {before after : Writer} where
  pub frame_put : r.outcome ≡ Answered → Puts 408 (frame_line (take r.length output)) before after → Puts 408 (line_by input cursor r output) before after
  unfolding line_for
  frame_put e line = rw e line

  pub drop_put : (d : Reason) (b : ℕ) → r.outcome ≡ Dropped d → b ≡ byte input cursor → Puts 408 (drop_line b) before after → Puts 408 (line_by input cursor r output) before after
  unfolding line_for
  drop_put d b e is line = rw e (rw is at line)

  pub counts_put : (left : ℕ) → (r.outcome ≡ AtEnd) ⊎ (r.outcome ≡ Incomplete) → left ≡ length input - r.state.reader.cursor
      → Puts 408 (counts_line r.state.reader.tally left) before after → Puts 408 (line_by input cursor r output) before after
  unfolding line_for
  counts_put left over is line = elim over [ inl e ↦ rw e (rw is at line) | inr e ↦ rw e (rw is at line) ]

  pub refused_put : (n : ℕ)
      → (r.outcome ≡ PastEnd) ⊎ ((r.outcome ≡ BadImage) ⊎ ((r.outcome ≡ ShortOutput) ⊎ ((r.outcome ≡ FullTally) ⊎ (r.outcome ≡ FullList))))
      → n ≡ number_of r.outcome → Puts 408 (refused_line n) before after → Puts 408 (line_by input cursor r output) before after
  unfolding line_for
  refused_put n refused is line =
      let told : Puts 408 (refused_line (number_of r.outcome)) before after = rw is at line in
      elim refused [
        | inl e ↦ rw e (rw e at told)
        | inr rest ↦ elim rest [
          | inl e ↦ rw e (rw e at told)
          | inr rest ↦ elim rest [
            | inl e ↦ rw e (rw e at told)
            | inr rest ↦ elim rest [ inl e ↦ rw e (rw e at told) | inr e ↦ rw e (rw e at told) ]
          ]
        ]
      ]

-- ---- whether the report goes on

pub goes_on : (o : Outcome) → (o ≡ Answered) ⊎ ((d : Reason) × (o ≡ Dropped d)) → false ≡ ends o
unfolding ends
goes_on o more = elim more [ inl e ↦ ap ends (sym e) | inr d ↦ ap ends (sym d.1) ]

pub is_over : (o : Outcome) → (o ≡ Answered → ⊥) → ((d : Reason) → o ≡ Dropped d → ⊥) → true ≡ ends o
unfolding ends
is_over Answered h k = absurd (h refl)
is_over (Dropped d) h k = absurd (k d refl)
is_over AtEnd h k = refl
is_over Incomplete h k = refl
is_over PastEnd h k = refl
is_over BadImage h k = refl
is_over ShortOutput h k = refl
is_over FullTally h k = refl
is_over FullList h k = refl

-- ---- the frame of an answer

step_framed : (c : Call) (s : State) → (step c s).outcome ≡ Answered → Framed (step c s).length (length (step c s).next.output)
unfolding number_of
step_framed c s e =
    let f = answer_is_one_frame c s (ap number_of e) in
    record { some = f.some; at_most_136 = f.at_most_136; there = f.in_the_output }

-- ---- what is known of a call that was made

-- a list with room is not full
room_left : (held : ℕ) → held < 8 → is_list_full 8 held ≡ false
unfolding is_list_full
room_left held h = lt-leb 8 held h

module _ (input : List ℕ) (s : State) (bytes₀ : List ℕ) (count held : ℕ) (room : held < 8) (r : Listed) (memory bytes output : List ℕ)
    (made : Beside input s bytes₀ count 8 held memory bytes output r) where
  -- beside such a list the call is that of the crate
  made_is : step_of r.called memory s.places s.tags bytes output ≡ step (call input) s
  made_is = made.step_is ∙ room_step (is_list_full 8 held) (call input) s (room_left held room)

  pub called_framed : r.called.outcome ≡ Answered → Framed r.called.length (length output)
  called_framed = subst (λ (x : Step). x.outcome ≡ Answered → Framed x.length (length x.next.output)) (sym made_is) (step_framed (call input) s)

  pub called_line : {before after : Writer} (over : Bool) → Puts 408 (line_by input s.reader.cursor r.called output) before after → over ≡ ends r.called.outcome
      → OneLine input s before after (state_of memory s.places s.tags (selection_in bytes r.called.state.selected) output r.called.state.reader r.called.state.next) over
  unfolding line_of
  called_line {before = before} {after = after} over line last =
      record {
        line = subst (λ (x : Step). Puts 408 (line_of input s x) before after) made_is line;
        next_is = ap (λ (x : Step). x.next) made_is;
        over_is = last ∙ ap (λ (x : Step). ends x.outcome) made_is;
      }
