-- A way leads out from the first place from which one does.
use Rattle.aom_warnings.proofs.Ways.{keeps_by, keeps_more, keeps_unmarked, leads_out}
use Rattle.aom_warnings.proofs.flow.way_out.Goals as goal
use Rattle.aom_warnings.proofs.flow.way_out.Goals.{then-marks-place+in_default, else-marks-place}

pub returns-in-Some : goal.returns-in-Some
returns-in-Some c = leads_out c.args.code.now c.args.marks.now c.loop-place.place _ _ c.in-Some.next c.loop-place-test.true c.index-code-place.is c.transfer.ensures
    c.if-marks-place.true (rw c.in-Some.is at c.out_by.ensures)

pub loop-place-preserved : goal.loop-place-preserved
loop-place-preserved c =
    keeps_more c.args.code.now c.args.marks.now c.loop-place.place c.loop-place.invariant (elim c.if-marks-place.branch [
      | then-marks-place+in_default w ↦ keeps_by c.args.code.now c.args.marks.now c.loop-place.place _ _ c.loop-place-test.true c.index-code-place.is w.transfer.ensures (rw w.in_default.is at w.out_by.ensures)
      | else-marks-place w ↦ keeps_unmarked c.args.code.now c.args.marks.now c.loop-place.place w.if-marks-place.false
    ])
