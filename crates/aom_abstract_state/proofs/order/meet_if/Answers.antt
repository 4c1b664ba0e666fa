use Rattle.std.proofs.Common.{rules, sym, ◌∙◌}
use Rattle.aom_abstract_state.proofs.Deciding.{delivery_is}
use Rattle.aom_abstract_state.proofs.Meeting.{not_together, parted, unmet}
use Rattle.aom_abstract_state.proofs.Ordering.{passes_not}
use Rattle.aom_abstract_state.proofs.order.meet_if.Goals as goal

pub returns-in_default-clause-err : goal.returns-in_default-clause-err
returns-in_default-clause-err c = λ xs ys e. unmet _ _ (c.meet_known.ensures.none c.in_default.is)

pub returns-then-not-has_same_entries-clause-err : goal.returns-then-not-has_same_entries-clause-err
returns-then-not-has_same_entries-clause-err c = λ xs ys e. parted _ _ c.in-Some.ensures.met (passes_not _ e (search rules))

pub returns-then-not-is_same-clause-err : goal.returns-then-not-is_same-clause-err
returns-then-not-is_same-clause-err c =
    let met = rw (← c.a.view_is, ← c.b.view_is) at c.in-Some.ensures.met in
    rw (← c.a.view_is, ← c.b.view_is) (λ xs ys e. not_together _ _ met (e.0 (search rules)) (sym c.is_same.ensures ∙ search rules))

pub returns-clause-ok : goal.returns-clause-ok
returns-clause-ok c =
    let some = rw (← c.a.view_is, ← c.b.view_is) at c.in-Some.ensures.some in
    rw (← c.a.view_is, ← c.b.view_is) (λ xs ys e. some xs ys (e.0 (search rules)) (delivery_is _ _ (sym c.is_same.ensures ∙ search rules)))
