-- `copy` meets its contract: where either slice is too short nothing is stored, else byte by byte what it takes.
use Rattle.std.proofs.Common.{◌≡◌, ◌+◌, get_or, set, ap, ◌∙◌, arith, length-set, refl}
use lib.Seq.{paste, paste-zero}
use Rattle.frame.proofs.Copies.{reaches_there, copied_short, copied_no_room, copied_more, copied_whole}
use Rattle.frame.proofs.Tests.{holds, fails}
use Rattle.frame.specs.Bytes.{part}
use Rattle.frame.proofs.copying.copy.Goals as goal
use Rattle.frame.proofs.copying.copy.Goals.{else-reaches-via-then-reaches+else-reaches-2, else-reaches-via-else-reaches}

pub loop-i-init : goal.loop-i-init
loop-i-init c =
    let a = c.args in
    record {
      there = reaches_there _ _ _ (holds c.if-reaches.true c.reaches.ensures);
      room = reaches_there _ _ _ (holds c.if-reaches-2.true c.reaches-then-reaches.ensures);
      copied_is = paste-zero a.to.now a.at (part a.from.now a.start a.n);
      same_length = refl;
    }

pub loop-i-preserved : goal.loop-i-preserved
loop-i-preserved c =
    let a = c.args in
    let i = c.loop-i.i in
    let inv = c.loop-i.invariant in
    record {
      there = inv.there;
      room = inv.room;
      copied_is =
          ap (λ l. set l (a.at + i) (get_or a.from.now (a.start + i) 0)) inv.copied_is
          ∙ copied_more a.from.now a.start a.n a.to.now a.at inv.there inv.room i (omega arith);
      same_length = simp length-set inv.same_length;
    }

pub returns-after-loop-i : goal.returns-after-loop-i
returns-after-loop-i c =
    let a = c.args in
    let inv = c.loop-i.invariant in
    let all : c.loop-i.i ≡ a.n = omega arith in
    inv.copied_is
    ∙ ap (λ i. paste a.to.now a.at (part a.from.now a.start a.n) i) all
    ∙ copied_whole a.from.now a.start a.n a.to.now a.at inv.there inv.room

pub returns-else-reaches : goal.returns-else-reaches
returns-else-reaches c =
    elim c.else-reaches.branch [
      | else-reaches-via-then-reaches+else-reaches-2 w ↦ copied_no_room _ _ _ _ _ (fails w.if-reaches-2.false w.reaches-then-reaches.ensures)
      | else-reaches-via-else-reaches w ↦ copied_short _ _ _ _ _ (fails w.if-reaches.false c.reaches.ensures)
    ]
