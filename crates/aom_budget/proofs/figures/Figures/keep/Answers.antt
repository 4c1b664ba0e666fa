-- What was found of main's dispatch is compared with what is declared of it, and then what was found of the classes.
use Rattle.std.proofs.Common.{◌≡◌, ◌∙◌, ℕ, List, ap, subst}
use Rattle.std.proofs.lemmas.Result.{err_from_is_err_and}
use Rattle.aom_image.specs.Image.{Image}
use Rattle.aom_image.specs.WellFormed.{WellFormed}
use Rattle.aom_image.specs.declared.image.Header.{Header}
use Rattle.aom_link_conditions.specs.Linked.{IsLinked}
use Rattle.aom_budget.specs.Figures.{IsWithin, ReportsFirst, main_by}
use Rattle.aom_budget.specs.declared.fault.BudgetOwner.TheVariants.{Main}
use Rattle.aom_budget.proofs.Budgeting.{budgets_within, main_over, main_within, refuses_class, refuses_main}
use Rattle.aom_budget.proofs.figures.Figures.keep.Goals as goal

-- what is known of the image is known of it as it was checked
record KnownOf (p : Image) (header : Header) (prices : List ℕ) (cost : ℕ) : Type 0 where
  linked : IsLinked p
  formed : WellFormed p
  declares : header.budget ≡ p.header.budget
  costs : cost ≡ main_by p prices

known_of : (p l q : Image) (header : Header) (prices : List ℕ) (cost : ℕ) → q ≡ l → l ≡ p → IsLinked l → WellFormed q → header ≡ q.header →
    cost ≡ main_by l prices → KnownOf p header prices cost
known_of p l q header prices cost image same linked formed is costs = record {
  linked = subst IsLinked same linked;
  formed = subst WellFormed (image ∙ same) formed;
  declares = ap (λ (h : Header). h.budget) (is ∙ ap (λ (p : Image). p.header) (image ∙ same));
  costs = costs ∙ ap (λ (p : Image). main_by p prices) same;
}

pub returns-in_err-within-clause-err : goal.returns-in_err-within-clause-err
returns-in_err-within-clause-err c =
    let error = err_from_is_err_and c.from_residual.result c.from_residual.ensures.1 in
    let k = known_of _ _ _ _ _ _ c.image.ensures c.linked-linked.ensures c.facts.ensures.linked c.header.ensures.well_formed
    c.header.ensures.value c.main_price.ensures in
    rw (error.1, error.2) (refuses_main _ _ k.formed k.linked c.requires.priced _
    (main_over _ _ _ _ _ k.declares k.costs c.in_err-within.ensures.err.0 c.in_err-within.ensures.err.1))

pub returns-in_err-keep_classes-clause-err : goal.returns-in_err-keep_classes-clause-err
returns-in_err-keep_classes-clause-err c =
    let error = err_from_is_err_and c.from_residual-in_err-keep_classes.result c.from_residual-in_err-keep_classes.ensures.1 in
    let k = known_of _ _ _ _ _ _ c.image.ensures c.linked-linked.ensures c.facts.ensures.linked c.header.ensures.well_formed
    c.header.ensures.value c.main_price.ensures in
    let main : IsWithin c.args.checked.now c.args.self.now.prices Main = main_within _ _ _ _ k.declares k.costs c.in_ok-within.ensures.ok in
    let first : ReportsFirst c.args.checked.now c.args.self.now.prices c.in_err-keep_classes.field-0.0 =
    rw c.linked-linked.ensures at c.in_err-keep_classes.ensures.err in
    rw (error.1, error.2) (refuses_class _ _ k.formed k.linked c.requires.priced _ main first)

pub keep-requires-clause-budgets : goal.keep-requires-clause-budgets
keep-requires-clause-budgets c =
    let k = known_of _ _ _ _ _ _ c.image.ensures c.linked-linked.ensures c.facts.ensures.linked c.header.ensures.well_formed
    c.header.ensures.value c.main_price.ensures in
    let main : IsWithin c.args.checked.now c.args.self.now.prices Main = main_within _ _ _ _ k.declares k.costs c.in_ok-within.ensures.ok in
    let classes = rw c.linked-linked.ensures at c.in_ok-keep_classes.ensures.ok in
    budgets_within _ _ k.formed k.linked c.requires.priced main classes
