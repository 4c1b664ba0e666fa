-- Where one has no text there is none, and else it is the last one's.
use Rattle.std.proofs.Common.{◌≡◌, ◌∙◌, List, Option, ap, false, get_or, sym, ℕ}
use Rattle.std.specs.Option.{is_some}
use Rattle.serde_json.specs.declared.value.Value.{Value}
use Rattle.aom_language_answers.proofs.WholeTexts.{refused, text_in, whole_last}
use Rattle.aom_language_answers.proofs.changes.last_text.Goals as goal

-- src/changes.rt
pub returns-in_err-whole_text : goal.returns-in_err-whole_text
returns-in_err-whole_text c =
    let none : is_some (text_in (get_or c.args.changes.now c.loop-change.change-index c.change-item.result)) ≡ false =
    ap (λ (v : Value). is_some (text_in v)) (sym c.change-item.is) ∙ sym (ap (λ (o : Option (List ℕ)). is_some o) c.in_err-whole_text.ensures) in
    rw c.from_residual.ensures (refused c.args.changes.now c.loop-change.change-index c.change-item.result c.loop-change-test.true none)

-- src/changes.rt
pub returns : goal.returns
returns c = whole_last c.args.changes.now c.loop-change.change-index _ c.loop-change-test.false c.loop-change.invariant.within c.loop-change.invariant.all c.loop-change.invariant.last
