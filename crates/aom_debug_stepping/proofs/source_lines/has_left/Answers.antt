-- The machine has as many tasks as each state that it stands for, and the same is next.
use Rattle.std.proofs.Common.{◌∙◌, ap, length}
use Rattle.aom_machine_state.specs.declared.parts.Parts.{Parts}
use Rattle.aom_debug_symbols.specs.NameLists.{line_at}
use Rattle.aom_debug_stepping.proofs.MachineStateLemmas.{same_length}
use Rattle.aom_debug_stepping.specs.SourceLines.{has_left, leaves_at}
use Rattle.aom_debug_stepping.proofs.source_lines.has_left.Goals as goal

pub returns-in-Some : goal.returns-in-Some
returns-in-Some g c = λ s st.
    let reported = rw (c.parts-parts.ensures.parts, c.linked.ensures, c.accepted.ensures) at c.in-Some.ensures in
    let many = c.len.ensures ∙ ap (λ (m : Parts). length m.stack.tasks) c.parts-parts.ensures.parts ∙ same_length _ s.tasks st.stands.agrees.tasks in
    c.leaves_at.ensures ∙ ap (λ n. leaves_at c.args.scope.now n (line_at c.args.scope.now.names c.in-Some.spot)) many
    ∙ ap (has_left c.args.scope.now (length s.tasks)) (reported s st.stands)

pub returns-in-None : goal.returns-in-None
returns-in-None g c = λ s st.
    let reported = rw (c.parts-parts.ensures.parts, c.linked.ensures, c.accepted.ensures) at c.in-None.ensures in
    ap (has_left c.args.scope.now (length s.tasks)) (reported s st.stands)
