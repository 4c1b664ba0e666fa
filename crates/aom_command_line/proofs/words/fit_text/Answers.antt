-- There is a text, or none is named.
use Rattle.std.proofs.Common.{◌∙◌, codes, inl, inr, sym}
use Rattle.clap.specs.Words.{found_of, rows_of}
use Rattle.clap.proofs.WalkLemmas.{first_value-rows}
use Rattle.aom_command_line.proofs.Reading.{is_named}
use Rattle.aom_command_line.proofs.words.fit_text.Goals as goal

pub returns-in-Some-clause-asks : goal.returns-in-Some-clause-asks
returns-in-Some-clause-asks c = inr (is_named (rows_of (found_of c.args.own.now)) _ (c.in-Some.ensures ∙ first_value-rows (found_of c.args.own.now) (codes "text")))

pub returns-in-None-clause-asks : goal.returns-in-None-clause-asks
returns-in-None-clause-asks c = inl c.if-is_text.true

pub returns-in_ok-from_str-in-None-2-clause-declines : goal.returns-in_ok-from_str-in-None-2-clause-declines
returns-in_ok-from_str-in-None-2-clause-declines c = record {
  asked = c.requires.asked;
  unnamed = sym (c.in-None-2.ensures ∙ first_value-rows (found_of c.args.own.now) (codes "text"));
  unassembled = c.requires.image c.if-is_text.false;
}
