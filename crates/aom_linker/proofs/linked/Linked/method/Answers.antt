use Rattle.std.proofs.Common.{rules}
use Rattle.aom_image.specs.Views.{method_at}
use Rattle.aom_linker.proofs.LinkConditionsLemmas.{read, within}
use Rattle.aom_linker.proofs.linked.Linked.method.Goals as goal

pub at-requires : goal.at-requires
unfolding method_at
at-requires c = within c.args.self.now.methods c.methods.result.now _ _ (search rules) c.number.ensures.value c.requires

pub returns : goal.returns
unfolding method_at
returns c = read c.args.self.now.methods c.methods.result.now _ _ _ (search rules) c.number.ensures.value c.requires c.at.ensures
