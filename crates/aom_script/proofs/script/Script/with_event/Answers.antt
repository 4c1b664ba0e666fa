-- The times rise as before.
use Rattle.std.proofs.Common.{◌≡◌, List, rules, sym, subst}
use Rattle.std.specs.List.{insert}
use Rattle.aom_transcript.specs.declared.event.TimedEvent.{TimedEvent}
use Rattle.aom_script.specs.Script.{IsTimely}
use Rattle.aom_script.specs.Further.{place_after}
use Rattle.aom_script.proofs.Further.{timely_too}
use Rattle.aom_script.proofs.script.Script.with_event.Goals as goal

pub returns-clause-timely : goal.returns-clause-timely
returns-clause-timely c =
    let event = c.args.event in
    let timed = c.args.self.now.timed in
    let same : c.insert.new.self.items ≡ insert timed (place_after event.time timed) event = search rules in
    λ within timely. subst (λ (events : List TimedEvent). IsTimely events) (sym same) (timely_too event timed within timely)
