use Rattle.std.proofs.Common.{◌∙◌, sym}
use Rattle.aom_link_conditions.specs.Calls.{GoesBelow}
use Rattle.aom_link_conditions.proofs.Ordering.{ends_alone, ends_sessions, least_at, least_max, least_same}
use Rattle.aom_link_conditions.proofs.orders.ending.Goals as goal

pub returns-in-Some : goal.returns-in-Some
returns-in-Some c = let own = least_at 256 c.args.lines.now
    (λ k m. GoesBelow c.args.image.now m k) c.args.class c.number.result c.requires c.number.ensures.value c.number.ensures.in_range in
    let sessions = least_at 256 c.args.lines.now (λ k m. GoesBelow c.args.image.now m k)
    c.in-Some.sessions c.number-in-Some.result c.requires c.number-in-Some.ensures.value c.number-in-Some.ensures.in_range in
    rw c.max.ensures (least_same _ (least_max _ _ own sessions) (ends_sessions c.args.image.now c.args.class _ (sym c.sessions_at.ensures ∙ c.in-Some.is)))

pub returns-in-None : goal.returns-in-None
returns-in-None c = let own = least_at 256 c.args.lines.now
    (λ k m. GoesBelow c.args.image.now m k) c.args.class c.number.result c.requires c.number.ensures.value c.number.ensures.in_range in
    least_same _ own (ends_alone c.args.image.now c.args.class (sym c.sessions_at.ensures ∙ c.in-None.is))
