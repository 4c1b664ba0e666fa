-- What is written is what is said of the place that was found.
use Rattle.std.proofs.Common.{◌∙◌, ◌++◌, None, Some, ap, sym}
use Rattle.std.proofs.lemmas.List.{append-nil}
use Rattle.std.proofs.lemmas.Result.{IfOk-weaker}
use Rattle.aom_diagnostics.specs.Linking.{link_source}
use Rattle.aom_diagnostic_commands.proofs.linking.write_stated.Goals as goal

pub returns-in-Some : goal.returns-in-Some
returns-in-Some c = IfOk-weaker c.write_link_source.result _ _ (λ done put. record {
  place = Some c.in-Some.place;
  fails = c.in-Some.ensures;
  put = put
      ∙ ap (λ t. c.args.out.now ++ link_source t c.in-Some.place) c.bytes.ensures.value;
}) c.write_link_source.ensures

pub returns-in-None : goal.returns-in-None
returns-in-None c = record { place = None; fails = c.in-None.ensures; put = sym (append-nil c.args.out.now) }
