-- A refusal alone is told at the source's beginning, or that there is no memory.
use Rattle.aom_source.proofs.translating.named.Goals as goal

pub returns-in-Ok-false-clause-places : goal.returns-in-Ok-false-clause-places
returns-in-Ok-false-clause-places c = c.alone.ensures c.args.tokens.now.bytes c.of_fault.ensures.within

pub returns-clause-places : goal.returns-clause-places
returns-clause-places c = c.alone-in-Err.ensures c.args.tokens.now.bytes tt
