use Rattle.std.proofs.Common.{◌∙◌, refl}
use Rattle.aom_linker.proofs.LinkConditionsLemmas.{has_class, in_class, read, within}
use Rattle.aom_linker.proofs.linked.Linked.field_class.Goals as goal

pub class-requires : goal.class-requires
class-requires c = has_class _ _ _ c.requires

pub at-requires : goal.at-requires
at-requires c =
    let same = in_class c.args.self.now c.args.class c.args.field _ c.class.ensures in
    within c.class.result.now.fields c.class.result.now.fields _ _ refl c.number.ensures.value (rw same at c.requires)

pub returns : goal.returns
returns c =
    let same = in_class c.args.self.now c.args.class c.args.field _ c.class.ensures in
    same ∙ read c.class.result.now.fields c.class.result.now.fields _ _ _ refl c.number.ensures.value (rw same at c.requires) c.at.ensures
