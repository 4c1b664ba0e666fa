use Rattle.std.proofs.Common.{◌∙◌, refl}
use Rattle.aom_linker.proofs.LinkConditionsLemmas.{has_method, in_method, read, within}
use Rattle.aom_linker.proofs.linked.Linked.instr.Goals as goal

pub method-requires : goal.method-requires
method-requires c = has_method _ _ _ c.requires

pub at-requires : goal.at-requires
at-requires c =
    let same = in_method c.args.self.now c.args.method c.args.place _ c.method.ensures in
    within c.method.result.now.code c.method.result.now.code c.args.place c.args.place refl refl (rw same at c.requires)

pub returns : goal.returns
returns c =
    let same = in_method c.args.self.now c.args.method c.args.place _ c.method.ensures in
    same ∙ read c.method.result.now.code c.method.result.now.code c.args.place c.args.place _ refl refl (rw same at c.requires) c.at.ensures
