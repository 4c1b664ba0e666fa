use Rattle.std.proofs.Common.{sym, ◌∙◌}
use Rattle.aom_machine_instructions.proofs.EntryActs.{newl_refused, newl_made}
use Rattle.aom_machine_instructions.proofs.Resulting.{on_top_runs}
use Rattle.aom_machine_instructions.proofs.cleanup.create_or_leave.Goals as goal

pub returns-then-request_cell-clause-does : goal.returns-then-request_cell-clause-does
returns-then-request_cell-clause-does c = rw (c.leave.ensures, c.request_cell.ensures.counted)
    (newl_refused c.args.parts.now c.args.lines.now c.args.to c.args.class (sym c.if-request_cell.true ∙ c.request_cell.ensures.refused))

pub returns-clause-does : goal.returns-clause-does
returns-clause-does c =
    let made = rw c.request_cell.ensures.counted at c.new_cell-number.ensures.made in
    rw (c.set_and_advance.ensures.brought, c.new_cell-number.ensures.rest, c.request_cell.ensures.counted)
    (newl_made c.args.parts.now c.args.lines.now c.args.to c.args.class c.new_cell-number.result c.new_cell-number.new.self.cells c.set_and_advance.ensures.in_range
    (sym c.if-request_cell.false ∙ c.request_cell.ensures.refused) made)

pub returns-clause-runs : goal.returns-clause-runs
returns-clause-runs c = λ still. rw (c.set_and_advance.ensures.brought, c.new_cell-number.ensures.rest, c.request_cell.ensures.counted)
    (on_top_runs _ _ (on_top_runs _ _ c.requires.1.runs))
