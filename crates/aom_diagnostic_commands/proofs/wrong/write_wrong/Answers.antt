-- The word begins where it does that ends there.
use Rattle.std.proofs.Common.{◌∙◌, ◌++◌, Some, ap, drop, subst, take}
use Rattle.std.proofs.lemmas.List.{take_rest}
use Rattle.std.proofs.lemmas.Result.{IfOk-weaker}
use Rattle.aom_diagnostics.specs.Places.{word_text}
use Rattle.aom_diagnostic_commands.specs.Wrong.{IsWrongEnd}
use Rattle.aom_diagnostic_commands.proofs.wrong.write_wrong.Goals as goal

pub returns-in-Some : goal.returns-in-Some
returns-in-Some c =
    let before = take c.in-Some.end c.args.text.now in
    IfOk-weaker c.write_word.result _ _ (λ done put. record {
      end = Some c.in-Some.end;
      wrong = subst (IsWrongEnd c.args.text.now c.args.fault) c.in-Some.is c.in_ok-end.ensures;
      put = put ∙ ap (λ w. c.args.out.now ++ word_text w) (take_rest before c.word_start-start.result ∙ ap (λ s. drop s before) c.word_start-start.ensures.start);
    }) c.write_word.ensures
