-- The root, the registers, the cleanup stack, the message that is served and what goes, one after the other.
use Rattle.std.proofs.Common.{◌++◌, List, length}
use Rattle.std.proofs.lemmas.Result.{IfErr-weaker, IfOk-weaker, err_from_is_err_and}
use Rattle.aom_semantics.specs.Places.{Elsewhere, In_service, Root}
use Rattle.aom_semantics.specs.State.{State}
use Rattle.aom_machine_state.specs.Stands.{MachineModel}
use Rattle.aom_debug_views.specs.Owners.{At_root, At_service, Owned, entries_map, goings_map, grown, owned_line, registers_map}
use Rattle.aom_debug_views.proofs.Tasks.{root_shows, service_shows}
use Rattle.aom_debug_views.proofs.Reporting.{cut_first, cut_later, reports_both}
use Rattle.aom_debug_views.proofs.owners.report_owners.Goals as goal

-- the five parts, and what comes after each
abbrev of_root : State → List Owned
of_root s = grown s.cells At_root (Elsewhere Root)

abbrev of_registers : State → List Owned
of_registers s = registers_map s (length s.tasks)

abbrev of_entries : State → List Owned
of_entries s = entries_map s (length s.items)

abbrev of_goings : State → List Owned
of_goings s = goings_map s (length s.tasks)

abbrev of_service : State → List Owned
of_service s = grown s.cells At_service (Elsewhere In_service)

abbrev last_two : State → List Owned
last_two s = of_service s ++ of_goings s

abbrev last_three : State → List Owned
last_three s = of_entries s ++ last_two s

abbrev last_four : State → List Owned
last_four s = of_registers s ++ last_three s

pub returns-in_err-report_place-clause-err : goal.returns-in_err-report_place-clause-err
returns-in_err-report_place-clause-err g c =
    let error = err_from_is_err_and c.from_residual.result c.from_residual.ensures.1 in
    let m : MachineModel = record { image = c.args.accepted.now; parts = c.args.parts.now } in
    rw (error.1, error.2) (cut_first (owned_line c.args.names.now) m of_root last_four _ _ _ _
    (c.in_err-report_place.ensures.err m.image At_root (Elsewhere Root) c.root.ensures.text (root_shows m.image m.parts)))

pub returns-in_err-report_registers-clause-err : goal.returns-in_err-report_registers-clause-err
returns-in_err-report_registers-clause-err g c =
    let error = err_from_is_err_and c.from_residual-in_err-report_registers.result c.from_residual-in_err-report_registers.ensures.1 in
    let m : MachineModel = record { image = c.args.accepted.now; parts = c.args.parts.now } in
    rw (error.1, error.2) (cut_later (owned_line c.args.names.now) m of_root last_four _ _ _ _ _
    (c.in_ok-report_place.ensures.ok m.image At_root (Elsewhere Root) c.root.ensures.text (root_shows m.image m.parts))
    (cut_first (owned_line c.args.names.now) m of_registers last_three _ _ _ _ (rw c.checked.ensures at c.in_err-report_registers.ensures.err)))

pub returns-in_err-report_entries-clause-err : goal.returns-in_err-report_entries-clause-err
returns-in_err-report_entries-clause-err g c =
    let error = err_from_is_err_and c.from_residual-in_err-report_entries.result c.from_residual-in_err-report_entries.ensures.1 in
    let m : MachineModel = record { image = c.args.accepted.now; parts = c.args.parts.now } in
    rw (error.1, error.2) (cut_later (owned_line c.args.names.now) m of_root last_four _ _ _ _ _
    (c.in_ok-report_place.ensures.ok m.image At_root (Elsewhere Root) c.root.ensures.text (root_shows m.image m.parts))
    (cut_later (owned_line c.args.names.now) m of_registers last_three _ _ _ _ _ (rw c.checked.ensures at c.in_ok-report_registers.ensures.ok)
    (cut_first (owned_line c.args.names.now) m of_entries last_two _ _ _ _ (c.in_err-report_entries.ensures.err m.image))))

pub returns-in_err-report_place-2-clause-err : goal.returns-in_err-report_place-2-clause-err
returns-in_err-report_place-2-clause-err g c =
    let error = err_from_is_err_and c.from_residual-in_err-report_place-2.result c.from_residual-in_err-report_place-2.ensures.1 in
    let m : MachineModel = record { image = c.args.accepted.now; parts = c.args.parts.now } in
    rw (error.1, error.2) (cut_later (owned_line c.args.names.now) m of_root last_four _ _ _ _ _
    (c.in_ok-report_place.ensures.ok m.image At_root (Elsewhere Root) c.root.ensures.text (root_shows m.image m.parts))
    (cut_later (owned_line c.args.names.now) m of_registers last_three _ _ _ _ _ (rw c.checked.ensures at c.in_ok-report_registers.ensures.ok)
    (cut_later (owned_line c.args.names.now) m of_entries last_two _ _ _ _ _ (c.in_ok-report_entries.ensures.ok m.image)
    (cut_first (owned_line c.args.names.now) m of_service of_goings _ _ _ _
    (c.in_err-report_place-2.ensures.err m.image At_service (Elsewhere In_service) c.service.ensures.text (service_shows m.image m.parts))))))

pub returns-clause-ok : goal.returns-clause-ok
returns-clause-ok g c =
    let m : MachineModel = record { image = c.args.accepted.now; parts = c.args.parts.now } in
    IfOk-weaker c.report_goings.result _ _ (λ _ reported. reports_both (owned_line c.args.names.now) m of_root last_four _ _ _
    (c.in_ok-report_place.ensures.ok m.image At_root (Elsewhere Root) c.root.ensures.text (root_shows m.image m.parts))
    (reports_both (owned_line c.args.names.now) m of_registers last_three _ _ _ (rw c.checked.ensures at c.in_ok-report_registers.ensures.ok)
    (reports_both (owned_line c.args.names.now) m of_entries last_two _ _ _ (c.in_ok-report_entries.ensures.ok m.image)
    (reports_both (owned_line c.args.names.now) m of_service of_goings _ _ _ (c.in_ok-report_place-2.ensures.ok m.image At_service
    (Elsewhere In_service) c.service.ensures.text (service_shows m.image m.parts)) (reported m.image))))) c.report_goings.ensures.ok

pub returns-clause-err : goal.returns-clause-err
returns-clause-err g c =
    let m : MachineModel = record { image = c.args.accepted.now; parts = c.args.parts.now } in
    IfErr-weaker c.report_goings.result _ _ (λ fault cut. cut_later (owned_line c.args.names.now) m of_root last_four _ _ _ _ _
    (c.in_ok-report_place.ensures.ok m.image At_root (Elsewhere Root) c.root.ensures.text (root_shows m.image m.parts))
    (cut_later (owned_line c.args.names.now) m of_registers last_three _ _ _ _ _ (rw c.checked.ensures at c.in_ok-report_registers.ensures.ok)
    (cut_later (owned_line c.args.names.now) m of_entries last_two _ _ _ _ _ (c.in_ok-report_entries.ensures.ok m.image)
    (cut_later (owned_line c.args.names.now) m of_service of_goings _ _ _ _ _ (c.in_ok-report_place-2.ensures.ok m.image At_service
    (Elsewhere In_service) c.service.ensures.text (service_shows m.image m.parts)) (cut m.image))))) c.report_goings.ensures.err
