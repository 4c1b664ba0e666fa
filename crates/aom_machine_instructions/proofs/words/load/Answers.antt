use Rattle.std.proofs.Common.{rules, FitsSigned, ◌∙◌, subst}
use Rattle.std.specs.Int.{w32}
use Rattle.std.proofs.lemmas.Int.{to_z-of_z}
use Rattle.aom_machine_state.specs.Places.{WritesWord}
use Rattle.aom_machine_instructions.proofs.FieldActs.{load_does}
use Rattle.aom_machine_instructions.proofs.ReceiverHolding.{finds_words}
use Rattle.aom_machine_instructions.proofs.words.load.Goals as goal

pub field_word-value-requires-clause-lives : goal.field_word-value-requires-clause-lives
field_word-value-requires-clause-lives c = finds_words c.requires.0 c.args.parts.now _ c.args.word c.requires.1 (λ ch fr ts s needs. needs.1.0)

pub returns : goal.returns
returns c = λ refused.
    let fits : FitsSigned w32 c.field_word-value.result = search rules in
    load_does c.args.parts.now c.write_word.new.self refused c.args.to c.args.word (subst (λ w. WritesWord c.args.to w c.args.parts.now c.write_word.new.self)
    (to_z-of_z w32 c.field_word-value.result fits ∙ c.field_word-value.ensures) c.write_word.ensures)
