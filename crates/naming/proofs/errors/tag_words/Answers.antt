-- `tag_words` meets its contract: each byte has its words.
use mathlib.Core.Path.{ap, sym}
use native.Mathlib.Omega.{arith}
use Rattle.frame.specs.Bytes.{pick, first_of}
use Rattle.naming.proofs.Choices.{not_listed}
use Rattle.naming.specs.Errors.{tag_words}
use Rattle.naming.proofs.errors.tag_words.Goals as goal

pub returns-in-22 : goal.returns-in-22
unfolding tag_words first_of pick
returns-in-22 c = ap tag_words (sym c.in-22.is)

pub returns-in-163 : goal.returns-in-163
unfolding tag_words first_of pick
returns-in-163 c = ap tag_words (sym c.in-163.is)

pub returns-in-179 : goal.returns-in-179
unfolding tag_words first_of pick
returns-in-179 c = ap tag_words (sym c.in-179.is)

pub returns-in-164 : goal.returns-in-164
unfolding tag_words first_of pick
returns-in-164 c = ap tag_words (sym c.in-164.is)

pub returns-in-180 : goal.returns-in-180
unfolding tag_words first_of pick
returns-in-180 c = ap tag_words (sym c.in-180.is)

pub returns-in-195 : goal.returns-in-195
unfolding tag_words first_of pick
returns-in-195 c = ap tag_words (sym c.in-195.is)

pub returns-in-196 : goal.returns-in-196
unfolding tag_words first_of pick
returns-in-196 c = ap tag_words (sym c.in-196.is)

pub returns-in-208 : goal.returns-in-208
unfolding tag_words first_of pick
returns-in-208 c = ap tag_words (sym c.in-208.is)

pub returns-in_default : goal.returns-in_default
returns-in_default c =
    not_listed _ (omega arith) (omega arith) (omega arith) (omega arith) (omega arith) (omega arith) (omega arith) (omega arith)
