use Rattle.std.proofs.Common.{◌≡◌, true, ◌&&◌, refl, sym, ◌∙◌, arith, rules}
use Rattle.aom_image.specs.Views.{has}
use Rattle.aom_abstract_state.specs.Tests.{same_message_state}
use Rattle.aom_abstract_state.proofs.Ordering.{decided_by, requests_decide}
use Rattle.aom_abstract_state.proofs.order.known_is_implied.Goals as goal

pub returns-then-not-requests_are_implied : goal.returns-then-not-requests_are_implied
returns-then-not-requests_are_implied c = λ xs ys e. requests_decide _ _ _ refl (sym c.requests_are_implied.ensures ∙ search rules)

pub returns-then-kinds_are_implied : goal.returns-then-kinds_are_implied
returns-then-kinds_are_implied c =
    let requests : (has c.args.a.now.states c.args.b.now.states && same_message_state c.args.a.now.message_state c.args.b.now.message_state) ≡ true =
    sym c.requests_are_implied.ensures ∙ search rules in
    λ xs ys e. rw (← c.a.view_is, ← c.b.view_is)
    (decided_by _ _ c.field_states_are_implied.result (omega (arith, c.a.invariant, c.b.invariant)) (omega (arith, c.a.invariant, c.b.invariant)) e
    (rw (← c.a.view_is, ← c.b.view_is) at requests) (rw (← c.kinds_are_implied.ensures, c.if-kinds_are_implied.true) c.field_states_are_implied.ensures))

pub returns-else-kinds_are_implied : goal.returns-else-kinds_are_implied
returns-else-kinds_are_implied c =
    let requests : (has c.args.a.now.states c.args.b.now.states && same_message_state c.args.a.now.message_state c.args.b.now.message_state) ≡ true =
    sym c.requests_are_implied.ensures ∙ search rules in
    λ xs ys e. rw (← c.a.view_is, ← c.b.view_is)
    (decided_by _ _ c.kinds_are_implied.result (omega (arith, c.a.invariant, c.b.invariant)) (omega (arith, c.a.invariant, c.b.invariant)) e
    (rw (← c.a.view_is, ← c.b.view_is) at requests) (rw (← c.kinds_are_implied.ensures, c.if-kinds_are_implied.false)))
