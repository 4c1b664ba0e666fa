-- The task right beneath.
use Rattle.std.proofs.Common.{◌∙◌, ap, sym}
use Rattle.aom_debug_views.specs.Frames.{trap_under}
use Rattle.aom_debug_views.proofs.Contents.{trap_below, trap_reported}
use Rattle.aom_debug_views.proofs.Tasks.{over_from_bottom}
use Rattle.aom_debug_views.proofs.frames.trap_under.Goals as goal

pub returns-then-depth-eq0 : goal.returns-then-depth-eq0
returns-then-depth-eq0 c = λ p s st. sym (ap (trap_under s.tasks) c.if-depth-eq0.true)

pub returns : goal.returns
returns c = λ p s st.
    let m = c.args.parts.now in
    c.trap_of.ensures ∙ trap_reported p m s st _ _ (c.task.ensures ∙ over_from_bottom m.stack.tasks _) ∙ trap_below s.tasks c.args.depth c.if-depth-eq0.false
