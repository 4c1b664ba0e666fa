-- Without a parent, or where the parent has no row, the named method runs.
use Rattle.std.proofs.Common.{ap, sym, ◌∙◌}
use Rattle.aom_link_conditions.specs.Overriding.{body_of}
use Rattle.aom_linker.proofs.body_table.has_row_above.Goals as goal

pub returns-in-None : goal.returns-in-None
unfolding body_of
returns-in-None c = λ none m. ap (body_of c.args.image.now m) (sym c.parent_of.ensures ∙ c.in-None.is)
