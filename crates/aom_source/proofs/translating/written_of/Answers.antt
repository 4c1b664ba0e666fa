-- A refusal alone is told where its fault is.
use Rattle.aom_source.proofs.translating.written_of.Goals as goal

pub returns-in-Err-clause-places : goal.returns-in-Err-clause-places
returns-in-Err-clause-places c = c.alone.ensures c.args.tokens.now.bytes c.of_syntax.ensures.within

pub returns-in-Err-of-clause-places : goal.returns-in-Err-of-clause-places
returns-in-Err-of-clause-places c = c.alone-in-Err-of.ensures c.args.tokens.now.bytes c.of_fault.ensures.within
