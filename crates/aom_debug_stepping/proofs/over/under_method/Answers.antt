-- All tasks are looked at, from the bottom.
use Rattle.std.proofs.Common.{◌≡◌, ◌∙◌, ap, arith, length}
use Rattle.std.specs.Prelude.{reverse}
use Rattle.aom_debug_stepping.specs.Over.{last_run}
use Rattle.aom_debug_stepping.proofs.Scopes.{under_reported}
use Rattle.aom_debug_stepping.proofs.over.under_method.Goals as goal

pub returns : goal.returns
returns c = λ p s st.
    let tasks = c.args.parts.now.stack.tasks in
    let all : c.loop-depth.depth ≡ length tasks = omega (arith, c.len-depth-end.ensures, c.loop-depth.auto.depth-end, c.loop-depth-test.false) in
    c.loop-depth.invariant ∙ ap (last_run (reverse tasks)) all ∙ under_reported tasks s.tasks st.agrees.tasks
