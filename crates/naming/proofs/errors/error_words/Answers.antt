-- `error_words` meets its contract: each byte has its words, and those of a tag error follow.
use mathlib.Core.Path.{ap, sym, ◌∙◌}
use native.Mathlib.Omega.{arith}
use Rattle.frame.specs.Bytes.{pick, first_of}
use Rattle.naming.proofs.Choices.{other_error}
use Rattle.naming.specs.Errors.{error_words}
use Rattle.std.proofs.Common.{inl, inr}
use Rattle.naming.proofs.errors.error_words.Goals as goal

pub returns-in-23 : goal.returns-in-23
unfolding error_words first_of pick
returns-in-23 c = ap error_words (sym c.in-23.is)

pub returns-in-21 : goal.returns-in-21
unfolding error_words first_of pick
returns-in-21 c =
    elim c.in-21.is [
      | inl e ↦ ap error_words (sym e)
      | inr other ↦ elim other [ inl e ↦ ap error_words (sym e) | inr e ↦ ap error_words (sym e) ]
    ]

pub returns-in-19 : goal.returns-in-19
unfolding error_words first_of pick
returns-in-19 c = ap error_words (sym c.in-19.is)

pub returns-in-18 : goal.returns-in-18
unfolding error_words first_of pick
returns-in-18 c = ap error_words (sym c.in-18.is)

pub returns-in_default : goal.returns-in_default
returns-in_default c =
    c.tag_words.ensures ∙ other_error _ (omega arith) (grind arith) (grind arith) (grind arith) (omega arith) (omega arith)
