use Rattle.std.proofs.Common.{rules}
use Rattle.aom_cells.proofs.tokens.Tokens.redeem.Goals as goal

pub returns-clause-object : goal.returns-clause-object
returns-clause-object c = search rules

pub returns-clause-living : goal.returns-clause-living
returns-clause-living c = search rules

pub returns-then-ne-clause-freed : goal.returns-then-ne-clause-freed
returns-then-ne-clause-freed c = search rules

pub returns-clause-freed : goal.returns-clause-freed
returns-clause-freed c = search rules
