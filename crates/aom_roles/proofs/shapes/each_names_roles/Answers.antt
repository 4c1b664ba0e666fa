use Rattle.aom_roles.specs.Shapes.{NamesRoles}
use Rattle.aom_roles.proofs.Each.{none_first_all}
use Rattle.aom_roles.proofs.shapes.each_names_roles.Goals as goal

pub returns : goal.returns
returns c = none_first_all (NamesRoles c.args.image.now) _ _ _ c.is_none.ensures c.first_misnaming.ensures
