use Rattle.std.proofs.Common.{refl, arith}
use Rattle.aom_abstract_state.proofs.Starting.{few_arguments, begun}
use Rattle.aom_abstract_state.proofs.known.Known.entry.Goals as goal

pub argument_kinds-requires : goal.argument_kinds-requires
argument_kinds-requires c =
    let formed = rw c.image.ensures at c.methods-formed.ensures.well_formed in
    let few = few_arguments c.args.linked.now c.args.method c.method-declared.result.now formed c.method-declared.ensures in
    rw c.as_slice.ensures (omega (arith, few))

pub returns-clause-implied : goal.returns-clause-implied
returns-clause-implied c = (begun c.args.linked.now c.args.method c.method-declared.result.now _ c.method-declared.ensures
    (rw c.as_slice.ensures at c.argument_kinds.ensures) c.entry_fields.ensures refl refl).0

pub returns-clause-no_less : goal.returns-clause-no_less
returns-clause-no_less c = (begun c.args.linked.now c.args.method c.method-declared.result.now _ c.method-declared.ensures
    (rw c.as_slice.ensures at c.argument_kinds.ensures) c.entry_fields.ensures refl refl).1
