-- One fault more is told, and at the end all.
use Rattle.std.proofs.Common.{◌≡◌, ◌∙◌, ◌^◌, ap, subst}
use Rattle.serde_json.specs.Data.{array}
use Rattle.serde_json.specs.View.{items_of, view}
use Rattle.serde_json.proofs.Views.{view-Array}
use Rattle.aom_language_server.proofs.Faults.{pushed, whole}
use Rattle.aom_language_server.specs.Telling.{fault_data, up_to}
use Rattle.aom_language_server.proofs.telling.list_of.Goals as goal

-- src/telling.rt
pub loop-fault-preserved : goal.loop-fault-preserved
loop-fault-preserved c =
    let text = c.args.source.now in
    let is = subst (λ r. view c.in_ok-fault_of.field-0 ≡ fault_data r text c.fault-item.result) c.loop-fault.invariant.same c.in_ok-fault_of.ensures.is in
    record {
      same = c.fault_of.ensures.same ∙ c.loop-fault.invariant.same;
      so_far = pushed (fault_data (up_to (2 ^ 20) text) text) _ _ _ c.args.faults.now c.loop-fault.fault-index c.fault-item.result c.loop-fault-test.true c.loop-fault.invariant.so_far
          c.in_ok-push.ensures.items is c.fault-item.is;
    }

-- src/telling.rt
pub returns : goal.returns
returns c =
    let text = c.args.source.now in
    view-Array c.loop-fault.list
    ∙ ap (λ ds. array (items_of ds)) (whole (fault_data (up_to (2 ^ 20) text) text) _ c.args.faults.now c.loop-fault.fault-index c.loop-fault-test.false c.loop-fault.invariant.so_far)
