use Rattle.std.proofs.Common.{refl}
use Rattle.aom_machine_instructions.proofs.GoneActs.{go_alone_does}
use Rattle.aom_machine_instructions.proofs.Resulting.{on_top_runs}
use Rattle.aom_machine_instructions.specs.Acts.{going_at}
use Rattle.aom_machine_instructions.proofs.going.reclaim_alone.Goals as goal

pub returns-clause-gone : goal.returns-clause-gone
returns-clause-gone c = λ p quiet.
    let m = c.args.parts.now in
    let gone = rw c.living-id.ensures.value at c.release.ensures.gone in
    let shut = rw c.living-id.ensures.value at c.close.ensures in
    rw (c.next.ensures, c.push.ensures)
    (go_alone_does p (going_at c.args.number m) c.release.new.self c.close.new.self c.args.number c.class-class.result c.args.lines.now refl
    c.class-class.ensures gone c.release.ensures.count shut quiet)

pub returns-clause-runs : goal.returns-clause-runs
returns-clause-runs c = rw c.next.ensures (on_top_runs _ _ c.requires.runs)
