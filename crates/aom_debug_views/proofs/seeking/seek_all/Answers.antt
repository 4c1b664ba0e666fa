-- From the root, a register, the cleanup stack, the message that is served, or what goes, one after the other.
use Rattle.std.proofs.Common.{◌∙◌, ◌++◌, List, sym}
use Rattle.aom_semantics.specs.Places.{Elsewhere, In_service, Root}
use Rattle.aom_semantics.specs.State.{State}
use Rattle.aom_debug_views.specs.Owners.{At_root, At_service, Owned, grown}
use Rattle.aom_debug_views.specs.SeriesMaps.{series_map}
use Rattle.aom_debug_views.specs.declared.series.Series.TheVariants.{Entries, Frames, Goings}
use Rattle.aom_debug_views.proofs.Sought.{in_first, in_second, not_there}
use Rattle.aom_debug_views.proofs.Tasks.{root_shows, service_shows}
use Rattle.aom_debug_views.proofs.seeking.seek_all.Goals as goal

abbrev of_root : State → List Owned
of_root s = grown s.cells At_root (Elsewhere Root)

abbrev of_service : State → List Owned
of_service s = grown s.cells At_service (Elsewhere In_service)

abbrev last_two : State → List Owned
last_two s = of_service s ++ series_map Goings s

abbrev last_three : State → List Owned
last_three s = series_map Entries s ++ last_two s

abbrev last_four : State → List Owned
last_four s = series_map Frames s ++ last_three s

pub returns-then-is_some : goal.returns-then-is_some
returns-then-is_some c = λ s st.
    let p = c.args.checked.now in
    let m = c.args.parts.now in
    in_first c.args.sought c.seek_place-root.result (of_root s) (last_four s)
    (c.seek_place-root.ensures p At_root (Elsewhere Root) c.root.ensures.text (root_shows p m) s st) (sym c.is_some.ensures ∙ c.if-is_some.true)

pub returns-then-is_some-2 : goal.returns-then-is_some-2
returns-then-is_some-2 c = λ s st.
    let p = c.args.checked.now in
    let m = c.args.parts.now in
    let n = c.args.sought in
    in_second n _ (of_root s) (last_four s)
    (not_there n c.seek_place-root.result (of_root s) (c.seek_place-root.ensures p At_root (Elsewhere Root) c.root.ensures.text (root_shows p m) s st) (sym c.is_some.ensures ∙ c.if-is_some.false))
    (in_first n _ (series_map Frames s) (last_three s) (c.seek_series-register.ensures s st) (sym c.is_some-2.ensures ∙ c.if-is_some-2.true))

pub returns-then-is_some-3 : goal.returns-then-is_some-3
returns-then-is_some-3 c = λ s st.
    let p = c.args.checked.now in
    let m = c.args.parts.now in
    let n = c.args.sought in
    in_second n _ (of_root s) (last_four s)
    (not_there n c.seek_place-root.result (of_root s) (c.seek_place-root.ensures p At_root (Elsewhere Root) c.root.ensures.text (root_shows p m) s st) (sym c.is_some.ensures ∙ c.if-is_some.false))
    (in_second n _ (series_map Frames s) (last_three s) (not_there n c.seek_series-register.result (series_map Frames s) (c.seek_series-register.ensures s st) (sym c.is_some-2.ensures ∙ c.if-is_some-2.false))
    (in_first n _ (series_map Entries s) (last_two s) (c.seek_series-entry.ensures s st) (sym c.is_some-3.ensures ∙ c.if-is_some-3.true)))

pub returns-then-is_some-4 : goal.returns-then-is_some-4
returns-then-is_some-4 c = λ s st.
    let p = c.args.checked.now in
    let m = c.args.parts.now in
    let n = c.args.sought in
    in_second n _ (of_root s) (last_four s)
    (not_there n c.seek_place-root.result (of_root s) (c.seek_place-root.ensures p At_root (Elsewhere Root) c.root.ensures.text (root_shows p m) s st) (sym c.is_some.ensures ∙ c.if-is_some.false))
    (in_second n _ (series_map Frames s) (last_three s) (not_there n c.seek_series-register.result (series_map Frames s) (c.seek_series-register.ensures s st) (sym c.is_some-2.ensures ∙ c.if-is_some-2.false))
    (in_second n _ (series_map Entries s) (last_two s) (not_there n c.seek_series-entry.result (series_map Entries s) (c.seek_series-entry.ensures s st) (sym c.is_some-3.ensures ∙ c.if-is_some-3.false))
    (in_first n _ (of_service s) (series_map Goings s)
    (c.seek_place-service.ensures p At_service (Elsewhere In_service) c.service.ensures.text (service_shows p m) s st) (sym c.is_some-4.ensures ∙ c.if-is_some-4.true))))

pub returns : goal.returns
returns c = λ s st.
    let p = c.args.checked.now in
    let m = c.args.parts.now in
    let n = c.args.sought in
    in_second n _ (of_root s) (last_four s)
    (not_there n c.seek_place-root.result (of_root s) (c.seek_place-root.ensures p At_root (Elsewhere Root) c.root.ensures.text (root_shows p m) s st) (sym c.is_some.ensures ∙ c.if-is_some.false))
    (in_second n _ (series_map Frames s) (last_three s) (not_there n c.seek_series-register.result (series_map Frames s) (c.seek_series-register.ensures s st) (sym c.is_some-2.ensures ∙ c.if-is_some-2.false))
    (in_second n _ (series_map Entries s) (last_two s) (not_there n c.seek_series-entry.result (series_map Entries s) (c.seek_series-entry.ensures s st) (sym c.is_some-3.ensures ∙ c.if-is_some-3.false))
    (in_second n _ (of_service s) (series_map Goings s) (not_there n c.seek_place-service.result (of_service s)
    (c.seek_place-service.ensures p At_service (Elsewhere In_service) c.service.ensures.text (service_shows p m) s st) (sym c.is_some-4.ensures ∙ c.if-is_some-4.false)) (c.seek_series.ensures s st))))
