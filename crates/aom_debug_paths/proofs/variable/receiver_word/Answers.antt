-- The innermost task is the same in each state.
use Rattle.std.proofs.Common.{◌≡◌, ◌∙◌, ◌-◌, ap, length}
use Rattle.aom_semantics.specs.Owned.{over}
use Rattle.aom_debug_views.specs.Frames.{receiver_over}
use Rattle.aom_debug_paths.specs.Variables.{word_of_name}
use Rattle.aom_debug_paths.proofs.DebugViewsLemmas.{as_many_tasks}
use Rattle.aom_debug_paths.proofs.variable.receiver_word.Goals as goal

pub returns : goal.returns
returns c = λ p s st.
    let many = as_many_tasks p c.args.parts.now s st in
    let at : c.saturating_sub-depth.result ≡ length s.tasks - 1 = c.saturating_sub-depth.ensures ∙ ap (λ n. n - 1) (c.len.ensures ∙ many) in
    c.word_of_name.ensures p s st ∙ ap (λ n. word_of_name c.args.linked.now s.cells n c.args.word)
    (c.receiver_at.ensures p s st ∙ ap (λ d. receiver_over (over s.tasks d)) at)
