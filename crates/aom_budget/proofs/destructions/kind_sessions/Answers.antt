-- Each of the sessions costs as one does.
use Rattle.std.proofs.Common.{ℕ, ◌≡◌, ◌*◌, ◌∙◌, ap, rules, sym}
use Rattle.aom_image.specs.declared.method.Thing.TheVariants.{Object}
use Rattle.aom_static_bounds.specs.Prices.{kind_sessions}
use Rattle.aom_static_bounds.specs.Sweeping.{going}
use Rattle.aom_budget.proofs.StaticBoundsLemmas.{alike_times}
use Rattle.aom_budget.specs.Pricing.{kept, price_by}
use Rattle.aom_budget.proofs.destructions.kind_sessions.Goals as goal

pub returns-in-Server-clause-is : goal.returns-in-Server-clause-is
returns-in-Server-clause-is c =
    let times = alike_times 4294967296 c.in-Server.sessions c.going.result _ c.going.ensures.is in
    let same : c.from.result ≡ c.in-Server.sessions = search rules in
    ap (λ n. kept (n * c.going.result)) same ∙ times
    ∙ ap (λ k. kept (kind_sessions (λ (j : ℕ). going c.args.linked.now (price_by c.args.prices.now) (Object j)) k)) (sym c.in-Server.is)
