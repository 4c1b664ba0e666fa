-- A way that differs is told with its register, and another without.
use Rattle.std.proofs.Common.{◌∙◌, ◌++◌, ap}
use Rattle.std.proofs.lemmas.Result.{IfOk-weaker}
use Rattle.aom_abstract_state.specs.declared.kind.Kind.{Kind}
use Rattle.aom_diagnostic_commands.specs.Explained.{conflict_line}
use Rattle.aom_diagnostic_commands.specs.Explained.TellsWay.{alone, by_register}
use Rattle.aom_diagnostic_commands.proofs.causes.write_way.Goals as goal

pub returns-in-Some : goal.returns-in-Some
returns-in-Some c = IfOk-weaker c.write_conflict.result _ _
    (λ done put. by_register c.in-Some.conflict c.in-Some.ensures.some
    (put ∙ ap (λ (k : Kind). c.args.out.now ++ conflict_line c.args.told.now c.args.at.now.method c.in-Some.conflict k) c.kind_at-here.ensures)) c.write_conflict.ensures

pub returns-in-None : goal.returns-in-None
returns-in-None c = IfOk-weaker c.words.result _ _ (λ done put. alone c.in-None.ensures.none put) c.words.ensures
