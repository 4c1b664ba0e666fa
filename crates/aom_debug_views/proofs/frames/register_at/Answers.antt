-- The innermost task is the same in each state.
use Rattle.std.proofs.Common.{◌≡◌, ◌∙◌, ◌-◌, ap, length}
use Rattle.aom_semantics.specs.Owned.{over}
use Rattle.aom_debug_views.specs.Frames.{kinds_of, register_in}
use Rattle.aom_debug_views.proofs.Tasks.{as_many_tasks}
use Rattle.aom_debug_views.proofs.frames.register_at.Goals as goal

pub returns : goal.returns
returns c = λ t strongest s st.
    let many = as_many_tasks c.args.accepted.now c.args.parts.now s st in
    let at : c.saturating_sub-depth.result ≡ length s.tasks - 1 = c.saturating_sub-depth.ensures ∙ ap (λ n. n - 1) (c.len.ensures ∙ many) in
    let reported = rw c.checked.ensures at c.register_over.ensures in
    reported t strongest s st ∙ ap (λ d. register_in (λ i. kinds_of t (over s.tasks d) i) s.cells d (over s.tasks d) c.number.result) at
    ∙ ap (λ n. register_in (λ i. kinds_of t (over s.tasks (length s.tasks - 1)) i) s.cells (length s.tasks - 1) (over s.tasks (length s.tasks - 1)) n) c.number.ensures.value
