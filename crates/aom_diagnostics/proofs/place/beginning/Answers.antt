-- The least of a line's length and 200 takes what 200 takes.
use Rattle.std.proofs.Common.{◌∙◌, ap, take}
use Rattle.std.proofs.lemmas.List.{take_min}
use Rattle.aom_diagnostics.proofs.place.beginning.Goals as goal

pub returns : goal.returns
returns c = ap (λ n. take n c.args.line.now) c.min.ensures ∙ take_min 200 c.args.line.now
