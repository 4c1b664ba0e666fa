-- The method that the class has in the role is its own, or one of a class above it.
use Rattle.std.proofs.Common.{◌≡◌, ◌∙◌, Some, ap, sym}
use Rattle.std.proofs.lemmas.Option.{same_Some}
use Rattle.aom_budget.proofs.Lined.{is_own, none_own, not_own}
use Rattle.aom_budget.proofs.lines.own_destructor.Goals as goal

pub returns-in_err-method : goal.returns-in_err-method
returns-in_err-method c = c.from_residual.ensures ∙ sym (none_own c.args.linked.now c.args.class (sym c.role.ensures ∙ c.in_err-method.was))

pub returns-in_err-of : goal.returns-in_err-of
returns-in_err-of c =
    c.from_residual-in_err-of.ensures
    ∙ sym (not_own c.args.linked.now c.args.class c.in_ok-method.method (sym c.role.ensures ∙ c.in_ok-method.was)
    (λ is. let none = sym c.class_of.ensures ∙ c.in_err-of.was in cc))

pub returns-then-number : goal.returns-then-number
returns-then-number c =
    let same : c.in_ok-of.of ≡ c.args.class = sym c.number.ensures.value ∙ c.if-number.true ∙ c.number-2.ensures.value in
    sym (is_own c.args.linked.now c.args.class c.in_ok-method.method (sym c.role.ensures ∙ c.in_ok-method.was)
    (sym c.class_of.ensures ∙ c.in_ok-of.was ∙ ap (λ k. Some k) same))

pub returns-else-number : goal.returns-else-number
returns-else-number c = sym (not_own c.args.linked.now c.args.class c.in_ok-method.method (sym c.role.ensures ∙ c.in_ok-method.was) (λ is.
    let same : c.in_ok-of.of ≡ c.args.class = same_Some _ _ (sym (c.in_ok-of.was) ∙ c.class_of.ensures ∙ is) in
    c.if-number.false (c.number.ensures.value ∙ same ∙ sym c.number-2.ensures.value)))
