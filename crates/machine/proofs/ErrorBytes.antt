-- No error answer has the byte 0.
use Prim.Native.Nat.{ℕ, ◌<◌}
use borrow.Author.Tests.{eq-eqb}
use mathlib.Core.List.{List, [], ◌∷◌}
use mathlib.Core.Path.{◌≡◌, sym, ◌∙◌}
use native.Mathlib.Omega.{arith}
use Rattle.frame.proofs.FrameBytes.{code_frame, first_frame}
use Rattle.frame.proofs.Picks.{by_test}
use Rattle.frame.specs.Bytes.{byte}
use Rattle.frame.specs.Frames.{frame_of}
use Rattle.machine.proofs.Steps.{error_at, step_cases}
use Rattle.machine.specs.Machine.{State, Call, Step, error_without, unchanged, dropped, told, selecting, missed, image_for, act_for, acted, aimed, input_of, step}
use Rattle.machine.specs.declared.deciding.Aimed.{Aimed}
use Rattle.population.specs.Selections.{taken}
use Rattle.reader.specs.Outcomes.{number_of}
use Rattle.reader.specs.declared.state.Reader.{Reader}
use Rattle.tag.proofs.AnswerBytes.{error_code, error_named}
use Rattle.tag.specs.declared.commands.Parsed.{Parsed}
use Rattle.tag.specs.declared.commands.Parsed.TheVariants.{Malformed, Inventory, Read, Write, Lock, Kill}

-- what an answer's error frame says
abbrev Named : Step → Type 0
Named x = number_of x.outcome ≡ 0 → byte x.next.output 2 ≡ 0xFF → 0 < byte x.next.output 5

without_named : (m : Parsed) → 0 < error_without m
unfolding error_without
without_named Malformed = omega arith
without_named Inventory = omega arith
without_named (Read password bank pointer count) = omega arith
without_named (Write password bank pointer count) = omega arith
without_named (Lock password mask action) = omega arith
without_named (Kill password) = omega arith

module _ (s : State) where
  -- by a tag
  aimed_named : (a : Aimed) (p : List ℕ) → Named (aimed s a p)
  unfolding aimed acted act_for
  aimed_named a p answered error =
      error_named (image_for s a) p a.code s.output (sym (error_code (image_for s a) p a.code s.output) ∙ eq-eqb _ _ error)

  -- by the reader
  told_named : (e : ℕ) (selection : List ℕ) (reader : Reader) → 0 < e → Named (told s (frame_of 0x01 0xFF (e ∷ [])) selection reader)
  unfolding told
  told_named e selection reader some answered error = omega (arith, first_frame 0x01 0xFF e [] s.output)

  -- a selection that is taken is no error
  not_error : (selection : List ℕ) (reader : Reader) → byte (told s (frame_of 0x01 0x0C (0x00 ∷ [])) selection reader).next.output 2 ≡ 0xFF → ◌≡◌ {A = ℕ} 0x0C 0xFF
  unfolding told
  not_error selection reader error = sym (code_frame 0x01 0x0C (0x00 ∷ []) s.output) ∙ error

  selecting_named : (p : List ℕ) (behind : ℕ) → Named (selecting s p behind)
  unfolding selecting
  selecting_named p behind =
      by_test Named (taken p) (λ _ answered error. absurd (omega (arith, not_error _ _ error))) (λ _. told_named 0x17 _ _ (omega arith))

pub errors_named : (c : Call) (s : State) → Named (step c s)
unfolding unchanged dropped missed number_of
errors_named c s =
    step_cases c s Named (λ o not0 not3 answered error. absurd (not0 answered))
    (λ t n p e. aimed_named s _ _)
    (λ t none r found some answered error. absurd (omega (arith, answered)))
    (λ pl a code. selecting_named s _ _)
    (λ pl a code none. told_named s (error_at (input_of c) s pl) _ _ (without_named _))
    (λ pl a code n p e. aimed_named s _ _)
