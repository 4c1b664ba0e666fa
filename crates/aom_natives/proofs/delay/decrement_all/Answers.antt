use Rattle.std.proofs.Common.{◌<◌, length, rules}
use Rattle.std.proofs.lemmas.List.{get_or_default}
use Rattle.std.proofs.lemmas.List.Edits.{map_over_more}
use Rattle.aom_natives.specs.Delays.{lowered}
use Rattle.aom_natives.proofs.delay.decrement_all.Goals as goal

pub loop-entry-preserved : goal.loop-entry-preserved
loop-entry-preserved c =
    let within : c.loop-entry.entry-index < length c.args.entries.now = search rules in
    let inside : c.loop-entry.entry-index < length c.loop-entry.entries = search rules in
    rw c.decrement.ensures (map_over_more lowered c.args.entries.now c.loop-entry.entries _ _ within c.loop-entry.invariant (get_or_default _ _ _ _ inside))
