-- The faults so far are told.
use Rattle.std.proofs.Common.{◌≡◌, ◌^◌, map, take}
use Rattle.serde_json.specs.View.{view}
use Rattle.aom_language_server.specs.Telling.{fault_data, up_to}
use Rattle.aom_language_server.proofs.telling.list_of.Given as goal

abbrev pub invariant-loop-fault : goal.invariant-loop-fault
invariant-loop-fault l = record {
  same : l.ruler ≡ up_to (2 ^ 20) l.source;
  so_far : map view l.list.items ≡ map (fault_data (up_to (2 ^ 20) l.source) l.source) (take l.fault-index l.faults);
}
