-- The need, and the place since which it is not met, where there is one.
use Rattle.std.proofs.Common.{◌∙◌, ◌++◌, ap}
use Rattle.std.proofs.lemmas.Result.{IfOk-weaker}
use Rattle.aom_diagnostic_commands.specs.Explained.{origin_line}
use Rattle.aom_diagnostic_commands.specs.Explained.TellsNeed.{as_it_is, since}
use Rattle.aom_diagnostic_commands.proofs.causes.write_need.Goals as goal

pub returns-in-Some : goal.returns-in-Some
returns-in-Some c = IfOk-weaker c.write_origin.result _ _
    (λ done put. since c.in-Some.origin c.in-Some.ensures.some
    (put ∙ ap (λ text. text ++ origin_line c.args.told.now c.args.at.now.method c.in-Some.origin) c.in_ok-write_needed_line.ensures)) c.write_origin.ensures

pub returns-in-None : goal.returns-in-None
returns-in-None c = as_it_is c.in-None.ensures.none c.in_ok-write_needed_line.ensures
