use Rattle.std.proofs.Common.{◌≡◌, false, sym, subst, ap, ◌∙◌}
use Rattle.std.specs.Prelude.{IfSome, IsNone, All, slice_get}
use Rattle.aom_scheduler.specs.PriorityList.{first_ready, IsPick}
use Rattle.aom_scheduler.proofs.Picks.{pick-first, front-is, none-ready}
use Rattle.aom_scheduler.proofs.Ready.{first-is}
use Rattle.aom_scheduler.proofs.schedule.Schedule.next_ready.Goals as goal

pub returns-clause-value : goal.returns-clause-value
returns-clause-value c =
    let front = front-is (λ x. x.now) c.self.inside.ready.items _ c.front.result c.self.inside.ready.ok.0 c.front.ensures.variant c.front.ensures.lookup in
    c.copied.ensures ∙ front ∙ ap (λ ids. slice_get ids 0) c.self.invariant.0 ∙ sym (first-is c.self.inside.order.entries) ∙ ap (λ r. first_ready r.entries)
    c.self.view_is

pub returns-clause-pick : goal.returns-clause-pick
returns-clause-pick c =
    let front = front-is (λ x. x.now) c.self.inside.ready.items _ c.front.result c.self.inside.ready.ok.0 c.front.ensures.variant c.front.ensures.lookup in
    let is = c.copied.ensures ∙ front ∙ ap (λ ids. slice_get ids 0) c.self.invariant.0 ∙ sym (first-is c.self.inside.order.entries) in
    subst (λ r. IfSome c.copied.result (IsPick r.entries)) c.self.view_is
    (subst (λ o. IfSome o (IsPick c.self.inside.order.entries)) (sym is) (pick-first c.self.inside.order.entries c.in_order.ensures.sorted))

pub returns-clause-none : goal.returns-clause-none
returns-clause-none c = λ none.
    let front = front-is (λ x. x.now) c.self.inside.ready.items _ c.front.result c.self.inside.ready.ok.0 c.front.ensures.variant c.front.ensures.lookup in
    let is = c.copied.ensures ∙ front ∙ ap (λ ids. slice_get ids 0) c.self.invariant.0 ∙ sym (first-is c.self.inside.order.entries) in
    subst (λ r. All (λ e. e.is_ready ≡ false) r.entries) c.self.view_is (none-ready c.self.inside.order.entries (subst IsNone is none))
