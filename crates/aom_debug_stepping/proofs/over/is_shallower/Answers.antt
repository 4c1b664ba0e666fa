-- The machine has as many tasks as each state that it stands for.
use Rattle.std.proofs.Common.{◌∙◌, ap, length, nat_le}
use Rattle.aom_machine_state.specs.declared.parts.Parts.{Parts}
use Rattle.aom_debug_stepping.proofs.MachineStateLemmas.{same_length}
use Rattle.aom_debug_stepping.proofs.over.is_shallower.Goals as goal

pub returns : goal.returns
returns g c = λ s st.
    let many = c.len.ensures ∙ ap (λ (m : Parts). length m.stack.tasks) c.parts.ensures.parts ∙ same_length _ s.tasks st.stands.agrees.tasks in
    ap (λ n. nat_le n c.args.depth) many
