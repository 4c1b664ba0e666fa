-- What is written is what is said of the place that was found.
use Rattle.std.proofs.Common.{None, Some, sym}
use Rattle.std.proofs.lemmas.List.{append-nil}
use Rattle.std.proofs.lemmas.Result.{IfOk-weaker}
use Rattle.aom_diagnostic_commands.proofs.linking.write_listed.Goals as goal

pub returns-in-Some : goal.returns-in-Some
returns-in-Some c = IfOk-weaker c.write_link_place.result _ _ (λ done put. record { place = Some c.in-Some.place; fails = c.in-Some.ensures; put = put })
    c.write_link_place.ensures

pub returns-in-None : goal.returns-in-None
returns-in-None c = record { place = None; fails = c.in-None.ensures; put = sym (append-nil c.args.out.now) }
