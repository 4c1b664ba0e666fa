-- One line after another.
use Rattle.std.proofs.Common.{◌∙◌, ◌++◌, ap}
use Rattle.std.proofs.lemmas.Result.{IfOk-weaker}
use Rattle.aom_diagnostics.proofs.Parts.{both_out}
use Rattle.aom_diagnostics.specs.Known.{delivery_line, entries_line, fields_line, registers_line, states_line}
use Rattle.aom_diagnostics.proofs.known.write_known.Goals as goal

pub returns : goal.returns
returns c =
    let sh = c.args.shape.now in
    let fields = fields_line c.args.names.now c.args.linked.now c.args.method sh in
    let states = states_line sh.states in
    let last = delivery_line sh.message_state in
    let new = c.write_delivery.new.out in
    IfOk-weaker c.write_delivery.result _ _
    (λ done put.
    both_out c.args.out.now (registers_line c.args.names.now sh) (fields ++ (entries_line c.args.names.now sh ++ (states ++ last))) c.write_registers.new.out new c.in_ok-write_registers.ensures
    (both_out c.write_registers.new.out fields (entries_line c.args.names.now sh ++ (states ++ last)) c.write_fields.new.out new c.in_ok-write_fields.ensures
    (both_out c.write_fields.new.out (entries_line c.args.names.now sh) (states ++ last) c.write_entries.new.out new c.in_ok-write_entries.ensures
    (both_out c.write_entries.new.out states last c.write_states.new.out new
    (c.in_ok-write_states.ensures ∙ ap (λ s. c.write_entries.new.out ++ states_line s) c.states.ensures)
    (put ∙ ap (λ d. c.write_states.new.out ++ delivery_line d) c.message_state.ensures)))))
    c.write_delivery.ensures
