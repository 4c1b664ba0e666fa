-- A text is named only where it is of use, and the image is no text.
use Rattle.std.proofs.Common.{◌∙◌, ap, codes, Some, inl, inr, sym}
use Rattle.clap.specs.Words.{found_of, rows_of}
use Rattle.clap.proofs.WalkLemmas.{first_value-rows}
use Rattle.aom_command_line.proofs.Reading.{is_named, names_two, no_text}
use Rattle.aom_command_line.proofs.words.text_of.Goals as goal

pub returns-in_ok-from_str-in-Some-clause-declines : goal.returns-in_ok-from_str-in-Some-clause-declines
returns-in_ok-from_str-in-Some-clause-declines c =
    inr (names_two _ _ _ (c.in-Some.ensures ∙ first_value-rows (found_of c.args.own.now) (codes "text")) c.requires.kind (sym c.is_image.ensures ∙ c.if-not-is_image.true))

pub returns-in_ok-from_str-in-Some-2-clause-asks : goal.returns-in_ok-from_str-in-Some-2-clause-asks
returns-in_ok-from_str-in-Some-2-clause-asks c = record {
  named = ap (λ t. Some t) c.in_ok-from_str-in-Some-2.ensures.ok ∙ c.in-Some.ensures ∙ first_value-rows (found_of c.args.own.now) (codes "text");
  useful = λ some. c.if-used.true;
  alone = λ some. sym c.is_image.ensures ∙ c.if-not-is_image.false;
}

pub returns-in_ok-from_str-in-Some-3-clause-declines : goal.returns-in_ok-from_str-in-Some-3-clause-declines
returns-in_ok-from_str-in-Some-3-clause-declines c =
    inl (is_named (rows_of (found_of c.args.own.now)) _ (c.in-Some-3.ensures ∙ first_value-rows (found_of c.args.own.now) (codes "text")), c.if-used.false)

pub returns-in-None-clause-asks : goal.returns-in-None-clause-asks
returns-in-None-clause-asks c = no_text _ _ _ (c.in-None.ensures ∙ first_value-rows (found_of c.args.own.now) (codes "text"))
