use Rattle.std.proofs.Common.{rules, FitsSigned, ◌∙◌, subst}
use Rattle.std.specs.Int.{w32}
use Rattle.std.proofs.lemmas.Int.{to_z-of_z}
use Rattle.aom_machine_state.specs.Fields.{this, PutsWord}
use Rattle.aom_machine_instructions.proofs.FieldActs.{store_does}
use Rattle.aom_machine_instructions.proofs.ReceiverHolding.{finds_words}
use Rattle.aom_machine_instructions.proofs.words.store.Goals as goal

pub set_field_word-requires-clause-lives : goal.set_field_word-requires-clause-lives
set_field_word-requires-clause-lives c = finds_words c.requires.0 c.args.parts.now _ c.args.word c.requires.1 (λ ch fr ts s needs. needs.1.0)

pub returns : goal.returns
returns c = λ refused.
    let fits : FitsSigned w32 c.word-value.result = search rules in
    let m = c.args.parts.now in
    let heap = c.set_field_word.new.self.cells in
    rw (c.next.ensures, c.set_field_word.ensures.rest) (store_does m refused c.args.word c.args.from heap
    (subst (λ v. PutsWord (this m) c.args.word v m.cells heap) (to_z-of_z w32 c.word-value.result fits ∙ c.word-value.ensures) c.set_field_word.ensures.written))
