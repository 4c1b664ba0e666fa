-- Whether bytes are UTF-8 is told by a test as well.
use Rattle.std.proofs.Common.{◌∙◌, Bool, [], ap, cond, sym}
use Rattle.std.proofs.lemmas.Bool.{false_from_ne_true}
use Rattle.std.proofs.lemmas.Str.{IsUtf8-from_is_utf8, is_utf8-from_IsUtf8}
use Rattle.std.specs.Str.{is_utf8}
use Rattle.aom_language_answers.proofs.texts.text_or_none.Goals as goal

-- src/texts.rt
pub returns-in-Ok : goal.returns-in-Ok
returns-in-Ok c = c.in-Ok.ensures.cases.0 ∙ ap (λ (b : Bool). cond b c.args.bytes.now []) (sym (is_utf8-from_IsUtf8 _ c.in-Ok.ensures.cases.1))

-- src/texts.rt
pub returns-in-Err : goal.returns-in-Err
returns-in-Err c = ap (λ (b : Bool). cond b c.args.bytes.now [])
    (sym (false_from_ne_true (is_utf8 c.args.bytes.now) (λ text. c.in-Err.ensures.cases.0 (IsUtf8-from_is_utf8 c.args.bytes.now text))))
