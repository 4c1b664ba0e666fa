-- The object of a timer at a place by its name.
use Rattle.std.proofs.Common.{◌∙◌, ap, sym}
use Rattle.std.specs.Prelude.{option_map}
use Rattle.std.proofs.lemmas.Option.{slice_get-map}
use Rattle.aom_debug_views.specs.Seeking.{path_at, path_text}
use Rattle.aom_debug_views.proofs.timers.place_path.Goals as goal

pub returns-in-Some : goal.returns-in-Some
returns-in-Some c = λ s st.
    let m = c.args.parts.now in
    let ns = c.args.names.now in
    c.path_by.ensures s st ∙ ap (path_text ns s) c.number.ensures.value
    ∙ ap (path_at ns s) (ap (option_map (λ x. x.id)) c.in-Some.ensures.value ∙ sym (slice_get-map (λ x. x.id) m.active.pending.timers c.args.place))

pub returns-in-None : goal.returns-in-None
returns-in-None c = λ s st.
    let m = c.args.parts.now in
    ap (path_at c.args.names.now s) (ap (option_map (λ x. x.id)) c.in-None.ensures.value ∙ sym (slice_get-map (λ x. x.id) m.active.pending.timers c.args.place))
