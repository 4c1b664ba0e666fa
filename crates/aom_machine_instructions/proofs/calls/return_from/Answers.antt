use Rattle.std.proofs.Common.{subst, sym, refl, ◌∙◌}
use Rattle.std.proofs.lemmas.Bool.{false≢true}
use Rattle.aom_image.specs.Views.{instr_at}
use Rattle.aom_semantics.specs.Calls.{result_register}
use Rattle.aom_frames.specs.Tasks.{TopFrameIs, method_here, place_here, below_first}
use Rattle.aom_machine_state.specs.Room.{ReturnsTo}
use Rattle.aom_machine_instructions.proofs.OnTop.{closes_on_top, closing_not_returned, ends_on_top, goes_on_top, leaves_on_top, number_on_top, runs_on}
use Rattle.aom_machine_instructions.proofs.OnTop.{trapped_on_top}
use Rattle.aom_machine_instructions.specs.Next.{counting}
use Rattle.aom_machine_instructions.proofs.Finding.{finds_method}
use Rattle.aom_machine_instructions.proofs.LineActs.{return_to_going}
use Rattle.aom_machine_instructions.proofs.Resulting.{on_top_runs, resulted_runs}
use Rattle.aom_machine_instructions.proofs.ReturnActs.{can_serve, return_to_dispatch, return_to_end, return_through, return_to_method, return_to_unwinding}
use Rattle.aom_machine_instructions.proofs.Topping.{coded_through, ends_under, returns_within, returns_within_through}
use Rattle.aom_machine_instructions.proofs.calls.return_from.Goals as goal

pub end_method-gives-requires : goal.end_method-gives-requires
end_method-gives-requires c = (c.args.from, c.requires)

-- ---- to a method

pub receive-requires-clause-there : goal.receive-requires-clause-there
receive-requires-clause-there c =
    (returns_within c.args.linked.now _ c.end_method-gives.ensures.returns (runs_on _ _ c.in-Some-Run.ensures.some c.in-Some-Run.field-0-is)).0

pub receive-requires-clause-within : goal.receive-requires-clause-within
receive-requires-clause-within c =
    (returns_within c.args.linked.now _ c.end_method-gives.ensures.returns (runs_on _ _ c.in-Some-Run.ensures.some c.in-Some-Run.field-0-is)).1

pub returns-in-Some-Run-clause-does : goal.returns-in-Some-Run-clause-does
returns-in-Some-Run-clause-does c = λ refused.
    let e = c.end_method-gives.ensures in
    let under = below_first c.args.parts.now.stack.tasks in
    let runs : TopFrameIs under = rw e.rest at (runs_on _ _ c.in-Some-Run.ensures.some c.in-Some-Run.field-0-is) in
    let x = result_register (instr_at c.args.linked.now (method_here under) (place_here under)) in
    rw (c.receive.ensures.received, c.register-number.ensures.value, e.gives, e.rest)
    (return_to_method c.args.linked.now c.args.parts.now refused _ c.args.from refl
    c.end_method-gives.new.parts.active e.over x runs (rw e.rest at c.receive.ensures.in_range) refl)

pub returns-in-Some-Run-clause-runs : goal.returns-in-Some-Run-clause-runs
returns-in-Some-Run-clause-runs c = λ still.
    let runs = runs_on _ _ c.in-Some-Run.ensures.some c.in-Some-Run.field-0-is in
    rw c.receive.ensures.received (on_top_runs _ _ (resulted_runs _ _ _ _ runs))

-- ---- through a trap

pub unmark-requires : goal.unmark-requires
unmark-requires c = rw c.drop_task.ensures (c.end_method-gives.ensures.marked (trapped_on_top _ _ c.in-Some-Trapped.ensures.some c.in-Some-Trapped.field-0-is))

pub receive_trapped-requires-clause-within : goal.receive_trapped-requires-clause-within
receive_trapped-requires-clause-within c =
    let runs = rw c.drop_task.ensures at (c.is_running.ensures.0 c.if-is_running.true) in
    rw c.drop_task.ensures (returns_within_through c.args.linked.now _ c.end_method-gives.ensures.returns
    (trapped_on_top _ _ c.in-Some-Trapped.ensures.some c.in-Some-Trapped.field-0-is) runs)

pub returns-then-is_running-clause-does : goal.returns-then-is_running-clause-does
returns-then-is_running-clause-does c = λ refused.
    let e = c.end_method-gives.ensures in
    let trapped = trapped_on_top _ _ c.in-Some-Trapped.ensures.some c.in-Some-Trapped.field-0-is in
    let runs = rw c.drop_task.ensures at (c.is_running.ensures.0 c.if-is_running.true) in
    let coded = coded_through c.args.linked.now _ e.returns trapped runs in
    let marked = rw (c.drop_task.ensures, e.rest) at c.unmark.ensures in
    let under = below_first (below_first c.args.parts.now.stack.tasks) in
    let x = result_register (instr_at c.args.linked.now (method_here under) (place_here under)) in
    rw (c.receive_trapped.ensures, c.register-number.ensures.value, c.drop_task.ensures, e.gives, e.rest)
    (return_through c.args.linked.now c.args.parts.now refused _ c.args.from refl c.end_method-gives.new.parts.active e.over c.unmark.new.self x
    (rw e.rest at trapped) (rw e.rest at runs) marked (rw e.rest at coded) refl)

pub returns-then-is_running-clause-runs : goal.returns-then-is_running-clause-runs
returns-then-is_running-clause-runs c = λ still.
    let runs = c.is_running.ensures.0 c.if-is_running.true in
    rw c.receive_trapped.ensures (on_top_runs _ _ (on_top_runs _ _ (resulted_runs _ _ _ _ runs)))

-- ---- to a dispatch that a trap of its own lies over

pub serve-requires-clause-can : goal.serve-requires-clause-can
serve-requires-clause-can c =
    let e = c.end_method-gives.ensures in
    let trapped = trapped_on_top _ _ c.in-Some-Trapped.ensures.some c.in-Some-Trapped.field-0-is in
    let ending = ends_under c.args.linked.now _ e.returns trapped
    (λ runs. false≢true (sym c.if-is_running.false ∙ c.is_running.ensures.1 (rw c.drop_task.ensures runs))) in
    rw (c.register-number.ensures.value, c.drop_task.ensures, e.rest)
    (can_serve c.args.linked.now c.args.parts.now _ c.args.from c.requires refl (rw e.rest at trapped) (rw e.rest at ending))

pub returns-else-is_running-clause-does : goal.returns-else-is_running-clause-does
returns-else-is_running-clause-does c = λ refused.
    let e = c.end_method-gives.ensures in
    let trapped = trapped_on_top _ _ c.in-Some-Trapped.ensures.some c.in-Some-Trapped.field-0-is in
    let ending = ends_under c.args.linked.now _ e.returns trapped
    (λ runs. false≢true (sym c.if-is_running.false ∙ c.is_running.ensures.1 (rw c.drop_task.ensures runs))) in
    rw (c.serve.ensures, c.register-number.ensures.value, c.drop_task.ensures, e.rest)
    (return_to_end c.args.linked.now c.args.parts.now refused _ c.args.from refl c.end_method-gives.new.parts.active e.over c.unmark.new.self
    (rw e.rest at ending) (rw e.rest at trapped) (rw (c.drop_task.ensures, e.rest) at c.unmark.ensures))

-- ---- to the going of a cell, to a leave, or to a dispatch

pub continue_destruction-requires-clause-there : goal.continue_destruction-requires-clause-there
continue_destruction-requires-clause-there c =
    rw c.method-method.ensures (finds_method c.args.linked.now (counting c.requires.counts c.args.parts.now) c.requires.stands c.requires.runs)

pub returns-in-Some-Destroy-clause-does : goal.returns-in-Some-Destroy-clause-does
returns-in-Some-Destroy-clause-does c = λ refused.
    let e = c.end_method-gives.ensures in
    let going = rw e.rest at (goes_on_top _ _ c.in-Some-Destroy.ensures.some c.in-Some-Destroy.field-0-is) in
    let number = number_on_top _ _ c.in-Some-Destroy.ensures.some c.in-Some-Destroy.field-0-is in
    rw (c.continue_destruction.ensures, c.method-method.ensures, number, e.rest)
    (return_to_going c.args.linked.now c.args.parts.now refused _ c.args.from refl c.end_method-gives.new.parts.active e.over going)

pub returns-in-Some-Unwind-clause-does : goal.returns-in-Some-Unwind-clause-does
returns-in-Some-Unwind-clause-does c = λ refused.
    let e = c.end_method-gives.ensures in
    rw e.rest (return_to_unwinding c.args.linked.now c.args.parts.now refused _ c.args.from refl c.end_method-gives.new.parts.active e.over
    (rw e.rest at (leaves_on_top _ _ c.in-Some-Unwind.ensures.some c.in-Some-Unwind.field-0-is)))

pub returns-in-Some-Dispatched-clause-does : goal.returns-in-Some-Dispatched-clause-does
returns-in-Some-Dispatched-clause-does c = λ refused.
    let e = c.end_method-gives.ensures in
    let ending = ends_on_top _ _ c.in-Some-Dispatched.ensures.some c.in-Some-Dispatched.field-0-is in
    rw (c.deliver_answer.ensures, c.register-number.ensures.value, e.rest) (return_to_dispatch c.args.linked.now c.args.parts.now refused _ c.args.from refl
    c.end_method-gives.new.parts.active e.over _ _ (sym e.gives) (rw e.rest at ending))

-- ---- nothing else stands below it

pub unreachable-requires : goal.unreachable-requires
unreachable-requires c =
    closing_not_returned c.args.linked.now _ (closes_on_top _ _ c.in-Some-Closing.ensures.some c.in-Some-Closing.field-0-is) c.end_method-gives.ensures.returns

pub unreachable-requires-in-None : goal.unreachable-requires-in-None
unreachable-requires-in-None c = subst (ReturnsTo c.args.linked.now) c.in-None.ensures.none c.end_method-gives.ensures.returns
