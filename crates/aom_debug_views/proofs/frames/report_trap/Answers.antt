-- Of the frame that stands there in each state.
use Rattle.std.proofs.lemmas.Result.{IfErr-weaker, IfOk-weaker}
use Rattle.aom_semantics.specs.Owned.{over}
use Rattle.aom_machine_state.specs.Stands.{MachineModel}
use Rattle.aom_debug_views.specs.Frames.{trap_in}
use Rattle.aom_debug_views.specs.Reporting.{listed}
use Rattle.aom_debug_views.proofs.Contents.{part_here, reported_here, trap_there}
use Rattle.aom_debug_views.proofs.frames.report_trap.Goals as goal

pub returns-clause-ok : goal.returns-clause-ok
returns-clause-ok g c = IfOk-weaker c.report_any_by.result _ _ (λ _ put p sh f shown.
    let m : MachineModel = record { image = p; parts = c.args.parts.now } in
    reported_here c.args.names.now m (listed c.trap_under.result) (λ s. listed (trap_in s.tasks c.args.depth (over s.tasks c.args.depth))) _ _
    (λ s st. trap_there m sh f c.args.depth shown s st c.trap_under.result (c.trap_under.ensures p s st)) put) c.report_any_by.ensures.ok

pub returns-clause-err : goal.returns-clause-err
returns-clause-err g c = IfErr-weaker c.report_any_by.result _ _ (λ fault cut p sh f shown.
    let m : MachineModel = record { image = p; parts = c.args.parts.now } in
    part_here c.args.names.now m (listed c.trap_under.result) (λ s. listed (trap_in s.tasks c.args.depth (over s.tasks c.args.depth))) _ _ _ _
    (λ s st. trap_there m sh f c.args.depth shown s st c.trap_under.result (c.trap_under.ensures p s st)) cut) c.report_any_by.ensures.err
