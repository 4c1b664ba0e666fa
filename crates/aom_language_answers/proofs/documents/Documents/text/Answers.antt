-- It is the text of the document at the place of the name.
use Rattle.std.proofs.Common.{◌≡◌, ◌∙◌, List, Some, ap, sym}
use Rattle.std.specs.List.{position}
use Rattle.aom_language_answers.specs.OpenDocuments.{NamedText, is_named, text_of}
use Rattle.aom_language_answers.proofs.OpenDocuments.{placed, text_at, unplaced}
use Rattle.aom_language_answers.proofs.documents.Documents.text.Goals as goal

-- src/documents.rt
pub returns-in_err-at : goal.returns-in_err-at
returns-in_err-at c = rw c.from_residual.ensures (sym (unplaced c.args.uri.now c.args.self.now c.in_err-at.ensures.value))

-- src/documents.rt
pub returns : goal.returns
returns c =
    let docs = c.self.inside.documents.items in
    let found : Some c.in_ok-at.at ≡ position (is_named c.args.uri.now) docs =
    c.in_ok-at.ensures.value ∙ ap (λ (xs : List NamedText). position (is_named c.args.uri.now) xs) (sym c.self.view_is) in
    ap Some (c.text.ensures ∙ ap (λ (e : NamedText). e.text) c.index.ensures)
    ∙ sym (text_at c.args.uri.now docs c.in_ok-at.at c.index.result.now (placed c.args.uri.now docs c.in_ok-at.at c.index.result.now found))
    ∙ ap (λ (xs : List NamedText). text_of c.args.uri.now xs) c.self.view_is
