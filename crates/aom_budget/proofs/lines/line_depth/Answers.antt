-- One class more.
use Rattle.std.proofs.Common.{◌≡◌, ◌∙◌, ap, rules}
use Rattle.std.specs.Prelude.{max}
use Rattle.aom_roles.specs.Families.{parent_of}
use Rattle.aom_static_bounds.specs.Calls.{listed}
use Rattle.aom_budget.specs.Greatest.{most_at}
use Rattle.aom_budget.proofs.Lined.{most_goes}
use Rattle.aom_budget.proofs.lines.line_depth.Goals as goal

pub loop-here-preserved : goal.loop-here-preserved
loop-here-preserved c =
    let most : c.max-depth.result ≡ max c.loop-here.depth c.of_perhaps.result = search rules in
    most_goes c.args.linked.now c.args.depths.now _ _ _ _ _ _ _ c.in-Some.is
    (c.of_perhaps.ensures ∙ ap (λ o. most_at c.args.depths.now (listed o)) c.own_destructor.ensures) most
    (c.parent_of-here.ensures ∙ ap (λ q. parent_of q c.in-Some.class) c.image.ensures) c.loop-here.invariant
