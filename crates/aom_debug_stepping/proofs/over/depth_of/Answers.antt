-- The machine has as many tasks as each state that it stands for.
use Rattle.std.proofs.Common.{◌∙◌, ap, length}
use Rattle.aom_machine_state.specs.declared.parts.Parts.{Parts}
use Rattle.aom_debug_stepping.proofs.MachineStateLemmas.{same_length}
use Rattle.aom_debug_stepping.proofs.over.depth_of.Goals as goal

pub returns-in-Step : goal.returns-in-Step
returns-in-Step g c = λ s st. rw c.in-Step.is
    (c.len.ensures ∙ ap (λ (m : Parts). length m.stack.tasks) c.parts.ensures.parts ∙ same_length _ _ st.stands.agrees.tasks)

pub returns-in-Method : goal.returns-in-Method
returns-in-Method g c = λ s st.
    let reported = rw c.parts-in-Method.ensures.parts at c.under_method.ensures in
    rw c.in-Method.is (reported c.args.machine.now.core.image s st.stands)
