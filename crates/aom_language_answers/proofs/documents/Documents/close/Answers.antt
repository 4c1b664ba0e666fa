-- The document at the place of the name is taken away.
use Rattle.std.proofs.Common.{◌≡◌, ◌∙◌, ◌≤◌, List, None, Option, Some, ap, arith, length, subst, sym, ℕ}
use Rattle.std.proofs.lemmas.List.Edits.{length-remove}
use Rattle.std.specs.List.{position}
use Rattle.std.specs.Option.{is_some}
use Rattle.aom_language_answers.specs.OpenDocuments.{HaveOwnNames, NamedText, Updates, is_named}
use Rattle.aom_language_answers.proofs.OpenDocuments.{lacking_updates, placed, remove_distinct, remove_updates, text_at, unplaced}
use Rattle.aom_language_answers.proofs.documents.Documents.close.Goals as goal

-- src/documents.rt
pub returns-in-None-clause-answer : goal.returns-in-None-clause-answer
returns-in-None-clause-answer c = sym (ap (λ (o : Option (List ℕ)). is_some o) (unplaced c.args.uri.now c.args.self.now c.in-None.ensures.value))

-- src/documents.rt
pub returns-in-None-clause-documents : goal.returns-in-None-clause-documents
returns-in-None-clause-documents c = lacking_updates c.args.uri.now c.args.self.now (unplaced c.args.uri.now c.args.self.now c.in-None.ensures.value)

-- src/documents.rt
pub invariant_of-self : goal.invariant_of-self
invariant_of-self c =
    let docs = c.self.inside.documents.items in
    let found : Some c.in-Some.at ≡ position (is_named c.args.uri.now) docs =
    c.in-Some.ensures.value ∙ ap (λ (xs : List NamedText). position (is_named c.args.uri.now) xs) (sym c.self.view_is) in
    let place = placed c.args.uri.now docs c.in-Some.at c.remove.result found in
    let few : length docs ≤ 64 = c.self.invariant.1 in
    let own = remove_distinct c.args.uri.now docs c.in-Some.at c.remove.result place c.self.invariant.0 in
    (subst HaveOwnNames (sym c.remove.ensures.items) own, omega (arith, ap (λ (xs : List NamedText). length xs) c.remove.ensures.items, length-remove docs c.in-Some.at place.within))

-- src/documents.rt
pub returns-in-Some-clause-answer : goal.returns-in-Some-clause-answer
returns-in-Some-clause-answer c =
    let place = placed c.args.uri.now c.args.self.now c.in-Some.at c.remove.result c.in-Some.ensures.value in
    sym (ap (λ (o : Option (List ℕ)). is_some o) (text_at c.args.uri.now c.args.self.now c.in-Some.at c.remove.result place))

-- src/documents.rt
pub returns-in-Some-clause-documents : goal.returns-in-Some-clause-documents
returns-in-Some-clause-documents c =
    let docs = c.self.inside.documents.items in
    let found : Some c.in-Some.at ≡ position (is_named c.args.uri.now) docs =
    c.in-Some.ensures.value ∙ ap (λ (xs : List NamedText). position (is_named c.args.uri.now) xs) (sym c.self.view_is) in
    let place = placed c.args.uri.now docs c.in-Some.at c.remove.result found in
    let updates = remove_updates c.args.uri.now docs c.in-Some.at c.remove.result place c.self.invariant.0 in
    subst (λ (old : List NamedText). Updates old c.remove.new.self.items c.args.uri.now None) c.self.view_is
    (subst (λ (new : List NamedText). Updates docs new c.args.uri.now None) (sym c.remove.ensures.items) updates)
