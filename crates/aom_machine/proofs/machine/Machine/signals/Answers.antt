-- The machine counts the signals of the checked machine.
use Rattle.std.proofs.Common.{[], subst, ◌∷◌, ◌≡◌}
use Rattle.aom_semantics.specs.State.{Dispatch, Dispatched, State}
use Rattle.aom_semantics.specs.World.{ready_count, signal_count}
use Rattle.aom_machine_state.specs.Stands.{MachineModel, Refines}
use Rattle.aom_machine.proofs.Turning.{ready_at_end, ready_between, signals_reported}
use Rattle.aom_machine.proofs.machine.Machine.signals.Goals as goal

pub returns-clause-signals : goal.returns-clause-signals
returns-clause-signals c =
    let m : MachineModel = record { image = c.self.inside.accepted.now; parts = c.self.inside.parts } in
    subst (λ (n : MachineModel). (s : State) → Refines n s → c.signals.result ≡ signal_count s.cells) c.self.view_is
    (λ s st. signals_reported m c.signals.result c.signals.ensures s st)

pub returns-clause-between : goal.returns-clause-between
returns-clause-between c =
    let m : MachineModel = record { image = c.self.inside.accepted.now; parts = c.self.inside.parts } in
    subst (λ (n : MachineModel). (s : State) → Refines n s → s.tasks ≡ [] → c.signals.result ≡ ready_count s.cells) c.self.view_is
    (λ s st. ready_between m c.signals.result c.signals.ensures s st)

pub returns-clause-at_end : goal.returns-clause-at_end
returns-clause-at_end c =
    let m : MachineModel = record { image = c.self.inside.accepted.now; parts = c.self.inside.parts } in
    subst (λ (n : MachineModel). (s : State) → Refines n s → (d : Dispatch) → s.tasks ≡ Dispatched d ∷ [] → c.signals.result ≡ ready_count s.cells) c.self.view_is
    (λ s st. ready_at_end m c.signals.result c.signals.ensures s st)
