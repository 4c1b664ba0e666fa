use Rattle.std.proofs.Common.{sym}
use Rattle.aom_machine_instructions.proofs.EnterActs.{call_does, call_lives, calls_well}
use Rattle.aom_machine_instructions.proofs.AbstractStateLemmas.{arguments_there, class_there}
use Rattle.aom_machine_instructions.proofs.calls.call.Goals as goal

pub method-called-requires : goal.method-called-requires
method-called-requires c = (calls_well c.args.linked.now c.args.parts.now c.args.on c.args.method c.args.first c.requires.0 c.requires.1).0

pub callee-whom-requires-clause-there : goal.callee-whom-requires-clause-there
callee-whom-requires-clause-there c = (calls_well c.args.linked.now c.args.parts.now c.args.on c.args.method c.args.first c.requires.0 c.requires.1).0

pub callee-whom-requires-clause-class : goal.callee-whom-requires-clause-class
callee-whom-requires-clause-class c = sym (class_there c.args.linked.now c.args.method c.method-called.result.now c.method-called.ensures)

pub callee-whom-requires-clause-lives : goal.callee-whom-requires-clause-lives
callee-whom-requires-clause-lives c = (call_lives c.args.linked.now c.args.parts.now c.args.on c.args.method c.args.first c.requires.0 c.requires.1).0

pub callee-whom-requires-clause-small : goal.callee-whom-requires-clause-small
callee-whom-requires-clause-small c = (call_lives c.args.linked.now c.args.parts.now c.args.on c.args.method c.args.first c.requires.0 c.requires.1).1

pub enter-requires-clause-within : goal.enter-requires-clause-within
enter-requires-clause-within c =
    rw (c.number.ensures.value, c.as_slice.ensures, sym (arguments_there c.args.linked.now c.args.method c.method-called.result.now c.method-called.ensures))
    (calls_well c.args.linked.now c.args.parts.now c.args.on c.args.method c.args.first c.requires.0 c.requires.1).1

pub returns : goal.returns
returns c = λ refused to.
    rw (
      c.enter.ensures,
      c.callee-whom.ensures,
      c.number.ensures.value,
      c.as_slice.ensures,
      sym (arguments_there c.args.linked.now c.args.method c.method-called.result.now c.method-called.ensures),
    )
    (call_does c.args.linked.now c.args.parts.now refused c.args.on c.args.method c.args.first to)
