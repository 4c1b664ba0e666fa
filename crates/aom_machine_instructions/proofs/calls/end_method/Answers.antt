use Rattle.std.proofs.Common.{refl, sym}
use Rattle.aom_machine_instructions.proofs.CancelEnds.{is_cancelled, is_over}
use Rattle.aom_machine_instructions.proofs.Finding.{finds_method, returns_to}
use Rattle.aom_machine_instructions.proofs.ReturnActs.{dropped}
use Rattle.aom_machine_instructions.proofs.Topping.{finds_mark}
use Rattle.aom_machine_instructions.specs.Next.{counting}
use Rattle.aom_machine_instructions.proofs.AbstractStateLemmas.{gives_there}
use Rattle.aom_machine_instructions.proofs.calls.end_method.Goals as goal

pub method-method-requires : goal.method-method-requires
method-method-requires c = rw c.method.ensures (finds_method c.args.linked.now (counting c.requires.1.counts c.args.parts.now) c.requires.1.stands c.requires.1.runs)

pub end_cancel-requires : goal.end_cancel-requires
end_cancel-requires c = is_cancelled c.args.linked.now c.args.parts.now _ c.requires.0 c.method-method.result.now c.requires.1 refl
    (rw c.method.ensures at c.method-method.ensures)

pub returns-clause-gives : goal.returns-clause-gives
returns-clause-gives c = sym (gives_there c.args.linked.now _ c.method-method.result.now (rw c.method.ensures at c.method-method.ensures))

pub returns-clause-over : goal.returns-clause-over
returns-clause-over c = rw c.end_method.ensures (is_over c.args.linked.now c.args.parts.now _ c.requires.0
    c.end_cancel.new.parts.active c.method-method.result.now c.requires.1 refl (rw c.method.ensures at c.method-method.ensures) c.end_cancel.ensures.ended)

pub returns-clause-rest : goal.returns-clause-rest
returns-clause-rest c = rw c.end_method.ensures (dropped c.args.parts.now _ _ c.end_cancel.ensures.rest refl)

pub returns-clause-returns : goal.returns-clause-returns
returns-clause-returns c = rw (c.end_method.ensures, c.end_cancel.ensures.rest)
    (returns_to c.args.linked.now (counting c.requires.1.counts c.args.parts.now) c.requires.1.stands c.requires.1.runs)

pub returns-clause-marked : goal.returns-clause-marked
returns-clause-marked c = rw (c.end_method.ensures, c.end_cancel.ensures.rest) (finds_mark c.args.linked.now c.args.parts.now _ c.requires.0 c.requires.1 refl)
