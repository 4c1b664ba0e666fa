-- What a value says is what the bytes say that it was read from, and other bytes are no message.
use Rattle.std.proofs.Common.{◌≡◌, ◌∙◌, Some, ap, sym}
use Rattle.std.proofs.lemmas.Result.{IfOk-weaker}
use Rattle.serde_json.specs.Data.{null}
use Rattle.serde_json.specs.Errors.{IsMemory}
use Rattle.serde_json.specs.View.{view}
use Rattle.aom_language_answers.specs.Messages.{No_message, message_by, message_in, message_said, message_view, method_said, value_said}
use Rattle.aom_language_answers.specs.declared.replies.ReplyFault.TheVariants.{Parse}
use Rattle.aom_language_answers.proofs.MessageTexts.{no_value, value_read}
use Rattle.aom_language_answers.proofs.request.read_message.Goals as goal

-- src/request.rt
pub returns-in-Ok : goal.returns-in-Ok
returns-in-Ok c =
    let is : value_said c.args.message.now ≡ Some (view c.in-Ok.value) = value_read _ _ c.in-Ok.ensures.ok.0 c.in-Ok.ensures.ok.1 in
    IfOk-weaker c.message_of.result (λ incoming. message_view incoming ≡ message_by (method_said (view c.in-Ok.value)) (view c.in-Ok.value))
    (λ incoming. message_view incoming ≡ message_said c.args.message.now) (λ incoming says. says ∙ sym (ap message_in is)) c.message_of.ensures

-- src/request.rt
pub returns-in-Err : goal.returns-in-Err
returns-in-Err c = IfOk-weaker c.unread.result (λ incoming. (IsMemory c.in-Err.error → ⊥) × (message_view incoming ≡ No_message null Parse))
    (λ incoming. message_view incoming ≡ message_said c.args.message.now)
    (λ incoming facts. facts.1 ∙ sym (ap message_in (no_value c.args.message.now (c.in-Err.ensures.err facts.0)))) c.unread.ensures
