-- Without a parent the named method runs.
use Rattle.std.proofs.Common.{ap, sym, ◌∙◌}
use Rattle.aom_link_conditions.specs.Overriding.{body_of}
use Rattle.aom_linker.proofs.row.above.Goals as goal

pub returns-in-None : goal.returns-in-None
unfolding body_of
returns-in-None c = ap (body_of c.args.image.now c.args.method) (sym (sym c.parent_of.ensures ∙ c.in-None.is))
