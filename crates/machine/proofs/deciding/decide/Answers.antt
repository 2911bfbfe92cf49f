-- `decide` meets its contract: each early return is the test that refuses; then a tag is handed out, or the finding rules decide.
use Rattle.machine.proofs.Jobs.{selection_judged, lowest_whole, job_whole, too_many_bad, past, bad_selection, bad_population, short, filled, hands_out, hands_none}
use Rattle.machine.proofs.Listing.{room_job, refused_first, full_list}
use mathlib.Core.Logic.{⊎_elim}
use mathlib.Core.Path.{refl}
use native.Mathlib.Omega.{arith}
use Rattle.frame.proofs.Tests.{holds, fails}
use Rattle.reader.specs.Outcomes.{number_of}
use Rattle.machine.proofs.deciding.decide.Goals as goal
use Rattle.machine.proofs.deciding.decide.Goals.{then-not-is_good_selection-via-then-not-is_good_selection, then-not-is_good_selection-via-else-not-is_good_selection+then-not-is_good}

pub returns-then-input-cursor : goal.returns-then-input-cursor
unfolding number_of
returns-then-input-cursor c = refused_first _ _ _ refl (past _ _ (omega arith))

pub returns-in_default : goal.returns-in_default
unfolding number_of
returns-in_default c =
    refused_first _ _ _ refl
    (bad_selection _ _ (omega arith) (too_many_bad _ _ (⊎_elim (λ h. absurd (omega arith)) (λ h. omega arith) c.in_default.ensures.lookup.0)))

pub returns-then-not-is_good_selection : goal.returns-then-not-is_good_selection
unfolding number_of
returns-then-not-is_good_selection c =
    let kept = c.in-Some.ensures.lookup.0 in
    let judged = selection_judged c.args.selection.now c.args.state.selected _ kept.2 (omega (arith, kept.1)) _ c.is_good_selection.ensures in
    refused_first _ _ _ refl
    (elim c.then-not-is_good_selection.branch [
      | then-not-is_good_selection-via-then-not-is_good_selection w ↦ bad_selection _ _ (omega arith) (fails w.if-not-is_good_selection.true judged)
      | then-not-is_good_selection-via-else-not-is_good_selection+then-not-is_good w ↦
          bad_population _ _ (omega arith) (holds w.if-not-is_good_selection.false judged) (fails w.if-not-is_good.true w.is_good.ensures)
    ])

pub returns-then-output-lt136 : goal.returns-then-output-lt136
unfolding number_of
returns-then-output-lt136 c =
    let kept = c.in-Some.ensures.lookup.0 in
    let judged = selection_judged c.args.selection.now c.args.state.selected _ kept.2 (omega (arith, kept.1)) _ c.is_good_selection.ensures in
    refused_first _ _ _ refl
    (short _ _ (omega arith) (holds c.if-not-is_good_selection.false judged)
    (holds c.if-not-is_good.false c.is_good.ensures) (omega arith))

pub returns-then-is_full : goal.returns-then-is_full
unfolding number_of
returns-then-is_full c =
    let kept = c.in-Some.ensures.lookup.0 in
    let judged = selection_judged c.args.selection.now c.args.state.selected _ kept.2 (omega (arith, kept.1)) _ c.is_good_selection.ensures in
    refused_first _ _ _ refl
    (filled _ _ (omega arith) (holds c.if-not-is_good_selection.false judged)
    (holds c.if-not-is_good.false c.is_good.ensures) (omega arith) (cc))

pub returns-then-full : goal.returns-then-full
returns-then-full c =
    let kept = c.in-Some.ensures.lookup.0 in
    let judged = selection_judged c.args.selection.now c.args.state.selected _ kept.2 (omega (arith, kept.1)) _ c.is_good_selection.ensures in
    full_list _ _ (omega arith) (holds c.if-not-is_good_selection.false judged)
    (holds c.if-not-is_good.false c.is_good.ensures) (omega arith) (cc) _ c.if-full.true

pub returns-in-Some-lowest : goal.returns-in-Some-lowest
returns-in-Some-lowest c =
    let kept = c.in-Some.ensures.lookup.0 in
    let judged = selection_judged c.args.selection.now c.args.state.selected _ kept.2 (omega (arith, kept.1)) _ c.is_good_selection.ensures in
    let low = lowest_whole c.args.selection.now c.args.state.selected _ kept.2 (omega (arith, kept.1)) _ _ _ _ _ c.lowest.ensures in
    room_job _ _ _ c.if-full.false
    (hands_out _ _ (omega arith) (holds c.if-not-is_good_selection.false judged)
    (holds c.if-not-is_good.false c.is_good.ensures) (omega arith) (cc) _ low _ _ c.in-Some-lowest.is)

pub returns-in-None : goal.returns-in-None
returns-in-None c =
    let kept = c.in-Some.ensures.lookup.0 in
    let judged = selection_judged c.args.selection.now c.args.state.selected _ kept.2 (omega (arith, kept.1)) _ c.is_good_selection.ensures in
    let low = lowest_whole c.args.selection.now c.args.state.selected _ kept.2 (omega (arith, kept.1)) _ _ _ _ _ c.lowest.ensures in
    let job = job_whole c.args.selection.now c.args.state.selected _ kept.2 (omega (arith, kept.1)) _ _ _ _ _ _ c.find_job.ensures in
    room_job _ _ _ c.if-full.false
    (hands_none _ _ (omega arith) (holds c.if-not-is_good_selection.false judged)
    (holds c.if-not-is_good.false c.is_good.ensures) (omega arith) (cc) _ low c.in-None.is _ job)
