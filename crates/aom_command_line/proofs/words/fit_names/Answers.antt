-- Names are written where there is a text.
use Rattle.std.proofs.Common.{◌∙◌, codes, sym}
use Rattle.clap.specs.Words.{found_of, rows_of}
use Rattle.aom_command_line.proofs.Reading.{image_unassembled, names_textual, set, set_by, unnamed, unset}
use Rattle.aom_command_line.proofs.words.fit_names.Goals as goal

pub returns-then-not-names-clause-asks : goal.returns-then-not-names-clause-asks
returns-then-not-names-clause-asks c = unnamed _ _ _ c.requires.names c.if-not-names.true

pub fit_text-requires-clause-image : goal.fit_text-requires-clause-image
fit_text-requires-clause-image c = λ image. unset (rows_of (found_of c.args.own.now)) (codes "asm") _ c.requires.kind.assembly (image_unassembled _ (sym c.is_image.ensures ∙ set_by _ image))

pub fit_text-requires-clause-asked : goal.fit_text-requires-clause-asked
fit_text-requires-clause-asked c = set (rows_of (found_of c.args.own.now)) (codes "names") _ c.requires.names c.if-not-names.false

pub returns-clause-asks : goal.returns-clause-asks
returns-clause-asks c = names_textual _ _ _ _ c.fit_text.result c.is_image.ensures c.requires.names c.fit_text.ensures.asks
