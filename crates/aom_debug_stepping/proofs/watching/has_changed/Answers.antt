-- By how many tasks are at hand, as each state has them.
use Rattle.std.proofs.Common.{◌∙◌, ap, length, sym}
use Rattle.aom_machine_state.specs.declared.parts.Parts.{Parts}
use Rattle.aom_debug_paths.specs.Variables.{variable_answer}
use Rattle.aom_debug_stepping.specs.Stops.{is_other}
use Rattle.aom_debug_stepping.proofs.Changing.{as_many, fewer, more}
use Rattle.aom_debug_stepping.proofs.MachineStateLemmas.{same_length}
use Rattle.aom_debug_stepping.proofs.watching.has_changed.Goals as goal

pub returns-then-tasks-watched : goal.returns-then-tasks-watched
returns-then-tasks-watched g c = λ t strongest s st.
    let w = c.args.watched.now in
    let many = c.len-tasks.ensures ∙ ap (λ (m : Parts). length m.stack.tasks) c.parts.ensures.parts ∙ same_length _ s.tasks st.stands.agrees.tasks in
    fewer _ _ _ w.depth (is_other w.answer (variable_answer t c.args.machine.now.core.image s w.variable)) (sym c.is_local.ensures ∙ c.if-not-is_local.false) many c.if-tasks-watched.true

pub returns-then-tasks-watched-2 : goal.returns-then-tasks-watched-2
returns-then-tasks-watched-2 g c = λ t strongest s st.
    let many = c.len-tasks.ensures ∙ ap (λ (m : Parts). length m.stack.tasks) c.parts.ensures.parts ∙ same_length _ s.tasks st.stands.agrees.tasks in
    as_many _ _ _ c.args.watched.now.depth _ _ (sym c.is_local.ensures ∙ c.if-not-is_local.false) many c.if-tasks-watched-2.true
    (c.has_other_value-then-tasks-watched-2.ensures t strongest s st)

pub returns-else-tasks-watched-2 : goal.returns-else-tasks-watched-2
returns-else-tasks-watched-2 g c = λ t strongest s st.
    let w = c.args.watched.now in
    let many = c.len-tasks.ensures ∙ ap (λ (m : Parts). length m.stack.tasks) c.parts.ensures.parts ∙ same_length _ s.tasks st.stands.agrees.tasks in
    more _ _ _ w.depth (is_other w.answer (variable_answer t c.args.machine.now.core.image s w.variable)) (sym c.is_local.ensures ∙ c.if-not-is_local.false) many
    c.if-tasks-watched.false c.if-tasks-watched-2.false
