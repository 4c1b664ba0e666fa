-- A native is polled.
use Rattle.std.proofs.Common.{ap, length, subst, sym, ◌≡◌}
use Rattle.aom_semantics.specs.State.{State}
use Rattle.aom_machine_state.specs.declared.parts.Parts.{Parts}
use Rattle.aom_machine_state.specs.declared.progress.Progress.TheVariants.{Turned}
use Rattle.aom_machine_state.specs.Stands.{MachineModel, Stands, Refines}
use Rattle.aom_machine.specs.Steps.{progress, timers}
use Rattle.aom_machine.specs.Turns.{NoneDue}
use Rattle.aom_machine.proofs.Polling.{IsOwed, PollsAll, owed_pending, polled_again, polled_timers, polls_well}
use Rattle.aom_machine.proofs.Timers.{none_due_still}
use Rattle.aom_machine.proofs.Agreeing.{agrees_in_all}
use Rattle.aom_machine.proofs.machine.Machine.polled.Goals as goal

pub polled-requires-clause-pending : goal.polled-requires-clause-pending
polled-requires-clause-pending c =
    let owed = subst (λ (m : MachineModel). IsOwed m c.args.native c.args.completion) (sym c.self.view_is) c.requires.owed in
    owed_pending c.self.inside.accepted.now c.self.inside.parts c.args.native c.args.completion owed

pub invariant_of-self : goal.invariant_of-self
invariant_of-self c =
    let p = c.self.inside.accepted.now in
    let turned = subst (λ (m : MachineModel). progress m ≡ Turned) (sym c.self.view_is) c.requires.between in
    let owed = subst (λ (m : MachineModel). IsOwed m c.args.native c.args.completion) (sym c.self.view_is) c.requires.owed in
    subst (λ x. Stands (record { image = p; parts = x })) (sym c.polled.ensures.rest) (polled_again p c.self.inside.parts c.args.native turned c.args.completion
    c.polled.new.parts.active c.polled.ensures.word owed c.polled.ensures.finishes c.self.invariant)

pub returns-clause-polled : goal.returns-clause-polled
returns-clause-polled c =
    let p = c.self.inside.accepted.now in
    let turned = subst (λ (m : MachineModel). progress m ≡ Turned) (sym c.self.view_is) c.requires.between in
    let owed = subst (λ (m : MachineModel). IsOwed m c.args.native c.args.completion) (sym c.self.view_is) c.requires.owed in
    subst (λ (old : MachineModel). PollsAll c.args.native c.args.completion old (record { image = p; parts = c.polled.new.parts })) c.self.view_is (subst (λ x.
    PollsAll c.args.native c.args.completion (record { image = p; parts = c.self.inside.parts }) (record { image = p; parts = x })) (sym c.polled.ensures.rest)
    (polls_well p c.self.inside.parts c.args.native turned c.args.completion c.polled.new.parts.active c.polled.ensures.word owed c.polled.ensures.finishes))

pub returns-clause-none_due : goal.returns-clause-none_due
returns-clause-none_due c =
    let p = c.self.inside.accepted.now in
    let m = c.self.inside.parts in
    let owed = subst (λ (m : MachineModel). IsOwed m c.args.native c.args.completion) (sym c.self.view_is) c.requires.owed in
    let same = polled_timers p m c.args.native c.args.completion c.polled.new.parts.active owed c.polled.ensures.finishes in
    subst (λ (old : MachineModel). ((s : State) → Refines old s → NoneDue s) → (s : State) → Refines (record { image = p; parts = c.polled.new.parts }) s →
    NoneDue s) c.self.view_is (none_due_still (record { image = p; parts = m }) (record { image = p; parts = c.polled.new.parts }) c.self.invariant same
    (ap (λ (x : Parts). x.rest.clock) c.polled.ensures.rest))

pub returns-clause-timers : goal.returns-clause-timers
returns-clause-timers c =
    let p = c.self.inside.accepted.now in
    let owed = subst (λ (m : MachineModel). IsOwed m c.args.native c.args.completion) (sym c.self.view_is) c.requires.owed in
    subst (λ (old : MachineModel). timers (record { image = p; parts = c.polled.new.parts }) ≡ timers old) c.self.view_is
    (ap length (polled_timers p c.self.inside.parts c.args.native c.args.completion c.polled.new.parts.active owed c.polled.ensures.finishes))

pub returns-clause-agrees : goal.returns-clause-agrees
returns-clause-agrees c = agrees_in_all _
