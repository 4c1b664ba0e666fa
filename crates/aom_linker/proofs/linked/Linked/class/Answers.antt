use Rattle.std.proofs.Common.{rules}
use Rattle.aom_image.specs.Views.{class_at}
use Rattle.aom_linker.proofs.LinkConditionsLemmas.{read, within}
use Rattle.aom_linker.proofs.linked.Linked.class.Goals as goal

pub at-requires : goal.at-requires
unfolding class_at
at-requires c = within c.args.self.now.classes c.classes.result.now _ _ (search rules) c.number.ensures.value c.requires

pub returns : goal.returns
unfolding class_at
returns c = read c.args.self.now.classes c.classes.result.now _ _ _ (search rules) c.number.ensures.value c.requires c.at.ensures
