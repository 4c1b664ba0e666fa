-- The timer at a place is told by the name of its object.
use Rattle.std.proofs.Common.{◌∙◌, ap, sym}
use Rattle.std.specs.Prelude.{option_map}
use Rattle.std.proofs.lemmas.Option.{slice_get-map}
use Rattle.aom_debug_views.specs.Timers.{timer_at}
use Rattle.aom_debug_views.proofs.timers.place_answer.Goals as goal

pub returns-in-Some-clause-reported : goal.returns-in-Some-clause-reported
returns-in-Some-clause-reported c = λ p s st.
    let m = c.args.parts.now in
    let t = c.in-Some.timer in
    let due = rw c.in-Some.is at c.timer.ensures.due in
    c.timer_answer.ensures.reported p s st (sym (st.agrees.requests.stands.due_times t.id) ∙ due)
    ∙ ap (timer_at s.cells) (ap (option_map (λ x. x.id)) c.in-Some.ensures.value ∙ sym (slice_get-map (λ x. x.id) m.active.pending.timers c.args.place))

pub returns-in-None-clause-reported : goal.returns-in-None-clause-reported
returns-in-None-clause-reported c = λ p s st.
    let m = c.args.parts.now in
    ap (timer_at s.cells) (ap (option_map (λ x. x.id)) c.in-None.ensures.value ∙ sym (slice_get-map (λ x. x.id) m.active.pending.timers c.args.place))
