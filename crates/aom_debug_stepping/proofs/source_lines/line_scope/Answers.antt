-- The machine has as many tasks as each state that it stands for, and the same is next.
use Rattle.std.proofs.Common.{◌∙◌, ap, length}
use Rattle.aom_machine_state.specs.declared.parts.Parts.{Parts}
use Rattle.aom_debug_stepping.proofs.MachineStateLemmas.{same_length}
use Rattle.aom_debug_stepping.specs.Next.{next_of, spot_of}
use Rattle.aom_debug_stepping.specs.SourceLines.{scope_of}
use Rattle.aom_debug_stepping.proofs.source_lines.line_scope.Goals as goal

pub returns : goal.returns
returns g c = λ s st.
    let reported = rw (c.parts-parts.ensures.parts, c.linked.ensures, c.accepted.ensures) at c.spot_at-next.ensures in
    let many = c.len.ensures ∙ ap (λ (m : Parts). length m.stack.tasks) c.parts-parts.ensures.parts ∙ same_length _ s.tasks st.stands.agrees.tasks in
    c.scope_by.ensures ∙ ap (λ o. scope_of c.args.names.now c.args.enters o c.len.result) (reported s st.stands)
    ∙ ap (λ n. scope_of c.args.names.now c.args.enters (spot_of (next_of c.args.machine.now.core.image s)) n) many
