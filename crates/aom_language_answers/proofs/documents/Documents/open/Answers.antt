-- A document that was not open stands behind the others.
use Rattle.std.proofs.Common.{◌≡◌, ◌∙◌, ◌++◌, ◌<◌, ◌∷◌, [], Bool, List, None, Some, ap, arith, length, length-append, rules, subst, sym, ℕ}
use Rattle.aom_language_answers.specs.OpenDocuments.{HaveOwnNames, NamedText, Updates, UpdatesIf, text_of}
use Rattle.aom_language_answers.proofs.OpenDocuments.{add_distinct, add_updates, is_none}
use Rattle.aom_language_answers.proofs.documents.Documents.open.Goals as goal

-- src/documents.rt
pub invariant_of-self-2 : goal.invariant_of-self-2
invariant_of-self-2 c =
    let docs = c.self.inside.documents.items in
    let v = c.in_ok-new.field-0 in
    let same : c.change.new.self ≡ c.args.self.now =
    subst (λ (b : Bool). UpdatesIf b c.args.self.now c.change.new.self c.args.uri.now c.args.text.now) c.if-branch.false c.in_ok-change.ensures.documents in
    let none : text_of c.args.uri.now docs ≡ None =
    ap (λ (xs : List NamedText). text_of c.args.uri.now xs) (c.self.view_is ∙ same) ∙ is_none _ (sym c.in_ok-change.ensures.answer ∙ c.if-branch.false) in
    let own = add_distinct c.args.uri.now docs v none (ap (λ (e : NamedText). e.uri) c.in_ok-new.ensures) c.self.invariant.0 in
    let room : length docs < 64 = search rules in
    (subst HaveOwnNames (sym {A = List NamedText} c.in_ok-push.ensures.items) own, omega (arith, ap (λ (xs : List NamedText). length xs) c.in_ok-push.ensures.items, length-append docs (v ∷ [])))

-- src/documents.rt
pub returns-clause-documents : goal.returns-clause-documents
returns-clause-documents c =
    let docs = c.self.inside.documents.items in
    let v = c.in_ok-new.field-0 in
    let same : c.change.new.self ≡ c.args.self.now =
    subst (λ (b : Bool). UpdatesIf b c.args.self.now c.change.new.self c.args.uri.now c.args.text.now) c.if-branch.false c.in_ok-change.ensures.documents in
    let none : text_of c.args.uri.now docs ≡ None =
    ap (λ (xs : List NamedText). text_of c.args.uri.now xs) (c.self.view_is ∙ same) ∙ is_none _ (sym c.in_ok-change.ensures.answer ∙ c.if-branch.false) in
    let updates : Updates docs (docs ++ v ∷ []) c.args.uri.now (Some v.text) = add_updates c.args.uri.now docs v none (ap (λ (e : NamedText). e.uri) c.in_ok-new.ensures) in
    let said : Updates docs (docs ++ v ∷ []) c.args.uri.now (Some c.args.text.now) =
    subst (λ (t : List ℕ). Updates docs (docs ++ v ∷ []) c.args.uri.now (Some t)) (ap (λ (e : NamedText). e.text) c.in_ok-new.ensures) updates in
    subst (λ (old : List NamedText). Updates old c.push.new.self.items c.args.uri.now (Some c.args.text.now)) (c.self.view_is ∙ same)
    (subst (λ (new : List NamedText). Updates docs new c.args.uri.now (Some c.args.text.now)) (sym {A = List NamedText} c.in_ok-push.ensures.items) said)
