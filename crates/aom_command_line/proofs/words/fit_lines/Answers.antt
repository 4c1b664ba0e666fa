-- Lines are told where there is a text and nothing is explained.
use Rattle.std.proofs.Common.{◌∙◌, codes, sym}
use Rattle.clap.specs.Words.{found_of, rows_of}
use Rattle.aom_command_line.proofs.Reading.{lines_lack, lines_textual, set, unlined, unset}
use Rattle.aom_command_line.proofs.words.fit_lines.Goals as goal

pub returns-then-not-lines-clause-asks : goal.returns-then-not-lines-clause-asks
returns-then-not-lines-clause-asks c = unlined _ _ _ _ c.requires.lines c.if-not-lines.true

pub fit_text-requires-clause-image : goal.fit_text-requires-clause-image
fit_text-requires-clause-image c = λ other. unset (rows_of (found_of c.args.own.now)) (codes "asm") _ c.requires.kind.assembly (sym c.is_assembly.ensures ∙ other)

pub fit_text-requires-clause-asked : goal.fit_text-requires-clause-asked
fit_text-requires-clause-asked c = set (rows_of (found_of c.args.own.now)) (codes "lines") _ c.requires.lines c.if-not-lines.false

pub returns-clause-asks : goal.returns-clause-asks
returns-clause-asks c = lines_textual _ _ _ _ _ c.fit_text.result c.is_assembly.ensures c.requires.lines c.if-explain.false c.fit_text.ensures.asks

pub returns-clause-declines : goal.returns-clause-declines
returns-clause-declines c = lines_lack _ c.fit_text.result c.fit_text.ensures.declines
