-- A client does what it is told.
use Rattle.std.proofs.Common.{refl, None, Option, Some, ap, arith, length, subst, ℕ, ◌++◌, ◌≡◌, ◌≤◌}
use Rattle.std.proofs.lemmas.List.{length-append}
use Rattle.aom_clients.specs.declared.refusal.CommandRefusal.{CommandRefusal}
use Rattle.aom_semantics.specs.Clients.{refusal}
use Rattle.aom_semantics.specs.Lines.{refusal_line}
use Rattle.aom_semantics.specs.State.{Counters, State}
use Rattle.aom_machine_state.specs.LineBuffer.{LineBuffer}
use Rattle.aom_machine_state.specs.Stands.{MachineModel, Refines}
use Rattle.aom_machine.specs.Clients.{Executed}
use Rattle.aom_machine.specs.Steps.{timers}
use Rattle.aom_machine.specs.Turns.{NoneDue}
use Rattle.aom_machine.proofs.Timers.{none_due_still}
use Rattle.aom_machine.proofs.Seen.{seen_as}
use Rattle.aom_image.specs.Image.{Image}
use Rattle.aom_machine.proofs.Agreeing.{agrees_in_all}
use Rattle.aom_machine.proofs.machine.Machine.execute.Goals as goal

pub invariant_of-self : goal.invariant_of-self
invariant_of-self c = let executed = seen_as (λ (old : MachineModel) (p : Image). (s : State) → Refines old s → Executed old s c.args.client
    c.args.command c.args.lines.now c.execute.new.lines (record { image = p; parts = c.execute.new.parts })) c.linked.ensures refl c.execute.ensures.executed in
    let t = executed c.self.invariant.0 c.self.invariant.1 in
    (t.2.state, t.2.stands)

pub returns-clause-executed : goal.returns-clause-executed
returns-clause-executed c = seen_as (λ (old : MachineModel) (p : Image). (s : State) → Refines old s → Executed old s c.args.client
    c.args.command c.args.lines.now c.execute.new.lines (record { image = p; parts = c.execute.new.parts })) c.linked.ensures c.self.view_is c.execute.ensures.executed

-- a refusal is told by one line
few_refused : (client : ℕ) (r : Option CommandRefusal) → length (refusal_line client r) ≤ 1
few_refused client None = omega arith
few_refused client (Some r) = omega arith

pub returns-clause-reported : goal.returns-clause-reported
returns-clause-reported c =
    let p = c.self.inside.accepted.now in
    let executed = seen_as (λ (old : MachineModel) (p : Image). (s : State) → Refines old s → Executed old s c.args.client
    c.args.command c.args.lines.now c.execute.new.lines (record { image = p; parts = c.execute.new.parts })) c.linked.ensures refl c.execute.ensures.executed in
    let t = executed c.self.invariant.0 c.self.invariant.1 in
    let r = refusal p c.args.client c.self.invariant.0 c.args.command in
    let lines : length c.execute.new.lines.lines ≡ length (c.args.lines.now.lines ++ refusal_line c.args.client r) =
    ap (λ (x : LineBuffer). length x.lines) t.2.lines in
    let all = length-append c.args.lines.now.lines (refusal_line c.args.client r) in
    let few = few_refused c.args.client r in
    omega (arith, lines, all, few)

pub returns-clause-none_due : goal.returns-clause-none_due
returns-clause-none_due c =
    let p = c.self.inside.accepted.now in
    let m = c.self.inside.parts in
    subst (λ (old : MachineModel). ((s : State) → Refines old s → NoneDue s) → (s : State) →
    Refines (record { image = p; parts = c.execute.new.parts }) s → NoneDue s) c.self.view_is (none_due_still (record { image = p; parts = m })
    (record { image = p; parts = c.execute.new.parts }) c.self.invariant c.execute.ensures.timers (ap (λ (r : Counters). r.clock) c.execute.ensures.rest))

pub returns-clause-timers : goal.returns-clause-timers
returns-clause-timers c = subst (λ (old : MachineModel). timers (record { image = c.self.inside.accepted.now; parts = c.execute.new.parts }) ≡ timers old)
    c.self.view_is (ap length c.execute.ensures.timers)

pub returns-clause-agrees : goal.returns-clause-agrees
returns-clause-agrees c = agrees_in_all _
