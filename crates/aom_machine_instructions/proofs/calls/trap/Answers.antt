use Rattle.std.proofs.Common.{inl, refl, sym}
use Rattle.aom_machine_instructions.proofs.EnterActs.{trap_does, trap_lives, traps_well}
use Rattle.aom_machine_instructions.proofs.Rooms.{mark_room}
use Rattle.aom_machine_instructions.proofs.AbstractStateLemmas.{arguments_there, class_there}
use Rattle.aom_machine_instructions.proofs.calls.trap.Goals as goal

pub method-called-requires : goal.method-called-requires
method-called-requires c = (traps_well c.args.linked.now c.args.parts.now c.args.on c.args.method c.args.first c.requires.0 c.requires.1).0

pub callee-whom-requires-clause-there : goal.callee-whom-requires-clause-there
callee-whom-requires-clause-there c = (traps_well c.args.linked.now c.args.parts.now c.args.on c.args.method c.args.first c.requires.0 c.requires.1).0

pub callee-whom-requires-clause-class : goal.callee-whom-requires-clause-class
callee-whom-requires-clause-class c = sym (class_there c.args.linked.now c.args.method c.method-called.result.now c.method-called.ensures)

pub callee-whom-requires-clause-lives : goal.callee-whom-requires-clause-lives
callee-whom-requires-clause-lives c = (trap_lives c.args.linked.now c.args.parts.now c.args.on c.args.method c.args.first c.requires.0 c.requires.1).0

pub callee-whom-requires-clause-small : goal.callee-whom-requires-clause-small
callee-whom-requires-clause-small c = (trap_lives c.args.linked.now c.args.parts.now c.args.on c.args.method c.args.first c.requires.0 c.requires.1).1

pub mark-requires : goal.mark-requires
mark-requires c = mark_room c.args.linked.now c.args.parts.now _ c.args.method c.requires.1
    (λ wired. (traps_well c.args.linked.now c.args.parts.now c.args.on c.args.method c.args.first c.requires.0 c.requires.1).0) (λ n sh. inl refl)

pub enter_trap-requires-clause-within : goal.enter_trap-requires-clause-within
enter_trap-requires-clause-within c =
    rw (c.number.ensures.value, c.as_slice.ensures, sym (arguments_there c.args.linked.now c.args.method c.method-called.result.now c.method-called.ensures))
    (traps_well c.args.linked.now c.args.parts.now c.args.on c.args.method c.args.first c.requires.0 c.requires.1).1

pub returns : goal.returns
returns c = λ refused to. rw (
  c.mark.ensures,
  c.enter_trap.ensures,
  c.callee-whom.ensures,
  c.number.ensures.value,
  c.as_slice.ensures,
  sym (arguments_there c.args.linked.now c.args.method c.method-called.result.now c.method-called.ensures),
) (trap_does c.args.linked.now c.args.parts.now refused c.args.on c.args.method c.args.first to)
