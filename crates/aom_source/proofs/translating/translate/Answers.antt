-- A refusal alone is told at the source's beginning.
use Rattle.aom_source.proofs.translating.translate.Goals as goal

pub returns-clause-places : goal.returns-clause-places
returns-clause-places c = c.alone.ensures c.args.tokens.now.bytes c.of_assembling.ensures
