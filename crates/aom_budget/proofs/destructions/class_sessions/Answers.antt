-- The class is the one of that number, if there is one.
use Rattle.std.proofs.Common.{◌≡◌, ◌∙◌, ℕ, Some, None, ap, refl, slice_get, sym}
use Rattle.std.proofs.lemmas.Bool.{ltb-false, ltb-true}
use Rattle.std.proofs.lemmas.Option.{slice_get_past, slice_get_read}
use Rattle.aom_image.specs.Views.{class_at}
use Rattle.aom_image.specs.declared.method.Thing.TheVariants.{Object}
use Rattle.aom_roles.specs.Classes.{kind_in}
use Rattle.aom_static_bounds.specs.Prices.{perhaps_sessions}
use Rattle.aom_static_bounds.specs.Sweeping.{going}
use Rattle.aom_budget.specs.Pricing.{kept, price_by}
use Rattle.aom_budget.proofs.destructions.class_sessions.Goals as goal

pub returns-in-Some-clause-is : goal.returns-in-Some-clause-is
unfolding kind_in class_at
returns-in-Some-clause-is c =
    let found = rw (c.as_slice.ensures, c.classes-classes.ensures.value, c.image.ensures, c.number.ensures.value) at c.in-Some.ensures.lookup in
    let there : slice_get c.args.linked.now.classes c.args.class ≡ Some c.in-Some.class.now = slice_get_read _ _ _ _ refl (ltb-true _ _ (sym found.0)) found.1 in
    c.kind_sessions.ensures.is
    ∙ ap (λ d. kept (perhaps_sessions (λ (k : ℕ). going c.args.linked.now (price_by c.args.prices.now) (Object k)) (kind_in d))) (sym there)

pub returns-in-None-clause-is : goal.returns-in-None-clause-is
unfolding kind_in class_at
returns-in-None-clause-is c =
    let found = rw (c.as_slice.ensures, c.classes-classes.ensures.value, c.image.ensures, c.number.ensures.value) at c.in-None.ensures.lookup in
    let past : slice_get c.args.linked.now.classes c.args.class ≡ None = slice_get_past _ _ (ltb-false _ _ (sym found.0)) in
    ap (λ d. kept (perhaps_sessions (λ (k : ℕ). going c.args.linked.now (price_by c.args.prices.now) (Object k)) (kind_in d))) (sym past)
