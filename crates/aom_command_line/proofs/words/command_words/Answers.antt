-- Each command asks what its own words ask.
use Rattle.aom_command_line.proofs.words.command_words.Goals as goal

pub returns-in-check-clause-asks : goal.returns-in-check-clause-asks
returns-in-check-clause-asks c = rw c.in-check.is c.check_words.ensures.asks

pub returns-in-check-clause-declines : goal.returns-in-check-clause-declines
returns-in-check-clause-declines c = rw c.in-check.is c.check_words.ensures.declines

pub returns-in-run-clause-asks : goal.returns-in-run-clause-asks
returns-in-run-clause-asks c = rw c.in-run.is c.running_words.ensures.asks

pub returns-in-run-clause-declines : goal.returns-in-run-clause-declines
returns-in-run-clause-declines c = rw c.in-run.is c.running_words.ensures.declines

pub returns-in-explore-clause-asks : goal.returns-in-explore-clause-asks
returns-in-explore-clause-asks c = rw c.in-explore.is c.explore_words.ensures.asks

pub returns-in-explore-clause-declines : goal.returns-in-explore-clause-declines
returns-in-explore-clause-declines c = rw c.in-explore.is c.explore_words.ensures.declines

pub returns-in-debug-clause-asks : goal.returns-in-debug-clause-asks
returns-in-debug-clause-asks c = rw c.in-debug.is c.debug_words.ensures.asks

pub returns-in-debug-clause-declines : goal.returns-in-debug-clause-declines
returns-in-debug-clause-declines c = rw c.in-debug.is c.debug_words.ensures.declines

pub returns-in-asm-clause-asks : goal.returns-in-asm-clause-asks
returns-in-asm-clause-asks c = rw c.in-asm.is c.asm_words.ensures.asks

pub returns-in-asm-clause-declines : goal.returns-in-asm-clause-declines
returns-in-asm-clause-declines c = rw c.in-asm.is c.asm_words.ensures.declines

pub returns-in-dis-clause-asks : goal.returns-in-dis-clause-asks
returns-in-dis-clause-asks c = rw c.in-dis.is c.dis_words.ensures.asks

pub returns-in-dis-clause-declines : goal.returns-in-dis-clause-declines
returns-in-dis-clause-declines c = rw c.in-dis.is c.dis_words.ensures.declines

pub returns-in-dot-clause-asks : goal.returns-in-dot-clause-asks
returns-in-dot-clause-asks c = rw c.in-dot.is c.dot_words.ensures.asks

pub returns-in-dot-clause-declines : goal.returns-in-dot-clause-declines
returns-in-dot-clause-declines c = rw c.in-dot.is c.dot_words.ensures.declines

pub returns-in-show-clause-asks : goal.returns-in-show-clause-asks
returns-in-show-clause-asks c = rw c.in-show.is c.show_words.ensures.asks

pub returns-in-show-clause-declines : goal.returns-in-show-clause-declines
returns-in-show-clause-declines c = rw c.in-show.is c.show_words.ensures.declines

pub returns-in-compile-clause-asks : goal.returns-in-compile-clause-asks
returns-in-compile-clause-asks c = rw c.in-compile.is c.compile_words.ensures.asks

pub returns-in-compile-clause-declines : goal.returns-in-compile-clause-declines
returns-in-compile-clause-declines c = rw c.in-compile.is c.compile_words.ensures.declines
