-- The object at a place of the roster is told by its name.
use Rattle.std.proofs.Common.{◌∙◌, ap, sym}
use Rattle.std.specs.Prelude.{option_map}
use Rattle.std.proofs.lemmas.Option.{slice_get-map}
use Rattle.aom_debug_views.specs.Actives.{active_at}
use Rattle.aom_debug_views.proofs.Enlisted.{has_priority}
use Rattle.aom_debug_views.proofs.actives.place_answer.Goals as goal

pub returns-in-Some-clause-reported : goal.returns-in-Some-clause-reported
returns-in-Some-clause-reported c = λ p s st.
    let m = c.args.parts.now in
    let e = c.in-Some.entry in
    c.entry_answer.ensures.reported p s st (has_priority p m s st c.args.place e c.in-Some.ensures)
    ∙ ap (active_at p s.cells) (ap (option_map (λ x. x.id)) c.in-Some.ensures ∙ sym (slice_get-map (λ x. x.id) m.active.priority_list.entries c.args.place))

pub returns-in-None-clause-reported : goal.returns-in-None-clause-reported
returns-in-None-clause-reported c = λ p s st.
    let m = c.args.parts.now in
    ap (active_at p s.cells) (ap (option_map (λ x. x.id)) c.in-None.ensures ∙ sym (slice_get-map (λ x. x.id) m.active.priority_list.entries c.args.place))
