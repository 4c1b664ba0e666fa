use Rattle.aom_source_syntax.proofs.Unique.{one_root, one_list}
use Rattle.aom_source_syntax.proofs.laws.a_text_has_one_program.Goals as goal

pub returns-clause-tree : goal.returns-clause-tree
returns-clause-tree c = one_root

pub returns-clause-items : goal.returns-clause-items
returns-clause-items c = one_list
