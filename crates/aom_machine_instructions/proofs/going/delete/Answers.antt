use Rattle.std.proofs.Common.{arith, refl, sym, ◌∙◌}
use Rattle.aom_cells.specs.Heap.{null}
use Rattle.aom_frames.specs.Tasks.{with_register}
use Rattle.aom_machine_instructions.proofs.Finding.{destroys_living}
use Rattle.aom_machine_instructions.proofs.GoingActs.{destroy_object_does}
use Rattle.aom_machine_instructions.proofs.ObjectActs.{destroy_null_does}
use Rattle.aom_machine_instructions.proofs.Resulting.{on_top_long, on_top_runs}
use Rattle.aom_machine_instructions.proofs.Standing.{destroy_alone_does, same_cell}
use Rattle.aom_machine_instructions.proofs.going.delete.Goals as goal

pub begin-requires-clause-lives : goal.begin-requires-clause-lives
begin-requires-clause-lives c = rw (c.take_register-number.ensures.emptied, c.take_register-number.ensures.value)
    (destroys_living c.args.linked.now c.args.parts.now _ c.args.from c.requires refl (λ e. c.if-number.false (c.take_register-number.ensures.value ∙ e)))

pub class-requires-clause-lives : goal.class-requires-clause-lives
class-requires-clause-lives c = rw (c.take_register-number.ensures.emptied, c.take_register-number.ensures.value)
    (destroys_living c.args.linked.now c.args.parts.now _ c.args.from c.requires refl (λ e. c.if-number.false (c.take_register-number.ensures.value ∙ e)))

-- ---- no object

pub returns-then-number-clause-does : goal.returns-then-number-clause-does
returns-then-number-clause-does c = λ refused. rw (c.next.ensures, c.take_register-number.ensures.emptied) (destroy_null_does c.args.parts.now
    refused c.args.linked.now _ c.args.from refl c.take_register-number.ensures.in_range (sym c.take_register-number.ensures.value ∙ c.if-number.true))

pub returns-then-number-clause-runs : goal.returns-then-number-clause-runs
returns-then-number-clause-runs c = λ still. rw (c.next.ensures, c.take_register-number.ensures.emptied) (on_top_runs _ _ (on_top_runs _ _ c.requires.runs))

-- ---- one that goes at once

pub returns-then-goes_alone-clause-does : goal.returns-then-goes_alone-clause-does
returns-then-goes_alone-clause-does c = λ refused.
    let class = rw (c.take_register-number.ensures.emptied, c.take_register-number.ensures.value) at c.class.ensures in
    rw (c.take_register-number.ensures.emptied, c.take_register-number.ensures.value)
    (destroy_alone_does c.args.linked.now c.args.parts.now refused _ c.args.from refl c.take_register-number.ensures.in_range
    (λ e. c.if-number.false (c.take_register-number.ensures.value ∙ e)) c.class.result class (c.goes_alone.ensures.begun c.if-goes_alone.true _ _))

pub returns-then-goes_alone-clause-goes : goal.returns-then-goes_alone-clause-goes
returns-then-goes_alone-clause-goes c = λ number is.
    let class = rw (c.take_register-number.ensures.emptied) at c.class.ensures in
    let long = on_top_long (with_register c.args.from null) c.args.parts.now.stack.tasks in
    let room = c.requires.room in
    rw c.take_register-number.ensures.emptied (record {
      runs = on_top_runs _ _ c.requires.runs;
      room = omega (arith, long, room);
      alone = rw (← same_cell _ _ is, class) (c.goes_alone.ensures.alone c.if-goes_alone.true);
    })

-- ---- another

pub returns-clause-does : goal.returns-clause-does
returns-clause-does c = λ refused. rw (c.begin.ensures, c.take_register-number.ensures.emptied, c.take_register-number.ensures.value)
    (destroy_object_does c.args.linked.now c.args.parts.now refused _ c.args.from refl c.take_register-number.ensures.in_range
    (λ e. c.if-number.false (c.take_register-number.ensures.value ∙ e)))
