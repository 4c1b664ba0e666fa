-- The greater of two lines.
use Rattle.std.proofs.Common.{Some, ◌≡◌, ◌++◌, ◌∙◌, ap, ap₂, sym}
use Rattle.std.specs.Prelude.{max}
use Rattle.aom_roles.specs.Classes.{sessions_at}
use Rattle.aom_static_bounds.specs.Calls.{lines_of}
use Rattle.aom_budget.specs.Greatest.{most_at}
use Rattle.aom_budget.proofs.Greatest.{most_append}
use Rattle.aom_budget.proofs.lines.going_depth.Goals as goal

pub returns-in-Some : goal.returns-in-Some
returns-in-Some c =
    let both = most_append c.args.depths.now (lines_of c.args.linked.now (Some c.args.class)) (lines_of c.args.linked.now (Some c.in-Some.sessions)) in
    let at : sessions_at c.args.linked.now c.args.class ≡ Some c.in-Some.sessions = ap (λ q. sessions_at q c.args.class) (sym c.image.ensures)
    ∙ sym c.sessions_at.ensures ∙ c.in-Some.is in
    c.max.ensures ∙ ap₂ max c.line_depth-own.ensures c.line_depth.ensures ∙ sym both
    ∙ ap (λ o. most_at c.args.depths.now (lines_of c.args.linked.now (Some c.args.class) ++ lines_of c.args.linked.now o)) (sym at)
