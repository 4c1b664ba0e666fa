-- The document at the place of the name has another text.
use Rattle.std.proofs.Common.{◌≡◌, ◌∙◌, ◌≤◌, List, Option, Some, ap, arith, length, set, subst, sym, ℕ}
use Rattle.std.proofs.lemmas.List.{length-set}
use Rattle.std.specs.List.{position}
use Rattle.std.specs.Option.{is_some}
use Rattle.aom_language_answers.specs.OpenDocuments.{NamedText, Updates, is_named}
use Rattle.aom_language_answers.proofs.OpenDocuments.{placed, retold_name, retold_updates, set_distinct, text_at, unplaced}
use Rattle.aom_language_answers.proofs.documents.Documents.change.Goals as goal

-- src/documents.rt
pub returns-in-None-clause-answer : goal.returns-in-None-clause-answer
returns-in-None-clause-answer c = sym (ap (λ (o : Option (List ℕ)). is_some o) (unplaced c.args.uri.now c.args.self.now c.in-None.ensures.value))

-- src/documents.rt
pub invariant_of-self : goal.invariant_of-self
invariant_of-self c =
    let docs = c.self.inside.documents.items in
    let d = c.index_mut.result.now in
    let found : Some c.in-Some.at ≡ position (is_named c.args.uri.now) docs =
    c.in-Some.ensures.value ∙ ap (λ (xs : List NamedText). position (is_named c.args.uri.now) xs) (sym c.self.view_is) in
    let place = placed c.args.uri.now docs c.in-Some.at d found in
    let name = retold_name c.args.uri.now docs c.in-Some.at d c.set_text.new.self _ place c.index_mut.ensures.value c.set_text.ensures in
    let few : length docs ≤ 64 = c.self.invariant.1 in
    (set_distinct c.args.uri.now docs c.in-Some.at d c.set_text.new.self place name c.self.invariant.0, omega (arith, length-set docs c.in-Some.at c.set_text.new.self))

-- src/documents.rt
pub returns-in_ok-text-in-Some-clause-answer : goal.returns-in_ok-text-in-Some-clause-answer
returns-in_ok-text-in-Some-clause-answer c =
    let d = c.index_mut.result.now in
    sym (ap (λ (o : Option (List ℕ)). is_some o) (text_at c.args.uri.now c.args.self.now c.in-Some.at d (placed c.args.uri.now c.args.self.now c.in-Some.at d c.in-Some.ensures.value)))

-- src/documents.rt
pub returns-in_ok-text-in-Some-clause-documents : goal.returns-in_ok-text-in-Some-clause-documents
returns-in_ok-text-in-Some-clause-documents c =
    let docs = c.self.inside.documents.items in
    let d = c.index_mut.result.now in
    let v = c.set_text.new.self in
    let found : Some c.in-Some.at ≡ position (is_named c.args.uri.now) docs =
    c.in-Some.ensures.value ∙ ap (λ (xs : List NamedText). position (is_named c.args.uri.now) xs) (sym c.self.view_is) in
    let place = placed c.args.uri.now docs c.in-Some.at d found in
    subst (λ (old : List NamedText). Updates old (set docs c.in-Some.at v) c.args.uri.now (Some c.args.text.now)) c.self.view_is
    (retold_updates c.args.uri.now c.args.text.now docs c.in-Some.at d v _ place c.index_mut.ensures.value c.set_text.ensures c.in_ok-text-in-Some.ensures.ok)
