-- The event is the one of the list.
use Rattle.std.proofs.Common.{ap, length, refl, sym, ◌∙◌}
use Rattle.std.proofs.lemmas.Bool.{ltb-false, ltb-true}
use Rattle.std.proofs.lemmas.Option.{slice_get_past, slice_get_read}
use Rattle.aom_semantics.specs.World.{event_at}
use Rattle.aom_run.proofs.Gets.{event_got}
use Rattle.aom_run.proofs.turns.next_event.Goals as goal

pub returns-in-Some : goal.returns-in-Some
returns-in-Some g c =
    let es = c.args.events.now in
    let k = c.delivered.result in
    let e = c.in-Some.ensures.lookup in
    sym (ap (event_at es) (sym (c.delivered.ensures ∙ ap (λ r. r.delivered) c.rest.ensures))
    ∙ sym (event_got es k) ∙ slice_get_read es (length es) k c.in-Some.event.now refl (ltb-true k (length es) (sym e.0)) e.1)

pub returns-in-None : goal.returns-in-None
returns-in-None g c =
    let es = c.args.events.now in
    let k = c.delivered.result in
    let e = c.in-None.ensures.lookup in
    sym (ap (event_at es) (sym (c.delivered.ensures ∙ ap (λ r. r.delivered) c.rest.ensures)) ∙ sym (event_got es k)
    ∙ slice_get_past es k (ltb-false k (length es) (sym e.0)))
