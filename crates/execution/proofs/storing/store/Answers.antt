-- `store` meets its contract: a Write's data are not there or have no room, or they are stored behind the answer, and the CRC word with them.
use mathlib.Core.Path.{refl, ◌∙◌}
use native.Mathlib.Omega.{arith}
use Rattle.execution.proofs.Acts.{store_copied}
use Rattle.execution.proofs.Executions.{undone, acted_good}
use Rattle.execution.proofs.ReachTests.{stored_short, stored_out, stored_there}
use Rattle.execution.proofs.Tails.{word_there}
use Rattle.frame.proofs.Copies.{reaches_there}
use Rattle.frame.proofs.Tests.{not_holds, not_fails}
use Rattle.frame.specs.Bytes.{byte}
use Rattle.image.specs.Image.{view, bank_at}
use Rattle.tag.specs.Answers.{answer, is_error}
use Rattle.execution.proofs.storing.store.Goals as goal

pub returns-then-parameters-lt9 : goal.returns-then-parameters-lt9
returns-then-parameters-lt9 c = undone _ _ _ _ (stored_short _ _ _ c.if-parameters-lt9.true)

pub returns-then-not-reaches : goal.returns-then-not-reaches
returns-then-not-reaches c = undone _ _ _ _ (stored_out _ _ _ (not_holds c.if-not-reaches.true-raw c.reaches.ensures))

pub keep_crc-requires : goal.keep_crc-requires
unfolding view bank_at
keep_crc-requires c =
    omega (arith, word_there _ c.requires.0, c.from-word.ensures, c.number_at.ensures)

pub returns : goal.returns
unfolding byte answer is_error
returns c =
    let fields = c.if-parameters-lt9.false in
    let there = not_fails c.if-not-reaches.false-raw c.reaches.ensures in
    acted_good _ _ _ _ (stored_there _ _ _ fields there) _ _ _ c.done-length.ensures
    (store_copied _ _ _ _ _ _ fields (reaches_there _ _ _ there) c.copy.ensures (c.from-word.ensures ∙ c.number_at.ensures) c.keep_crc.ensures) refl
