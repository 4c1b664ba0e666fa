-- What was sent of an image's figures is what the status answers.
use Rattle.std.proofs.lemmas.Bool.Decides.{nat_tests}
use Rattle.std.proofs.Common.{arith, ◌≡◌, ℕ, List, Option, Some, None, sym, subst, inl, inr}
use Rattle.aom_image.specs.Image.{Image}
use Rattle.aom_link_conditions.specs.Linked.{IsLinked}
use Rattle.aom_typing_rules.specs.Typing.{Typing, IsTyped}
use Rattle.aom_static_bounds.specs.Depths.{HasDepths}
use Rattle.aom_static_bounds.specs.Heights.{HasHeights}
use Rattle.aom_commands.proofs.StaticBoundsLemmas.{all_high, all_within}
use Rattle.aom_budget.specs.Budgets.{BudgetsWithin}
use Rattle.aom_budget.specs.Faults.{Refuses as RefusesBudget}
use Rattle.aom_budget.specs.Figures.{AreFigures, Figures}
use Rattle.aom_budget.specs.declared.fault.BudgetFault.{BudgetFault}
use Rattle.aom_commands.proofs.BudgetLemmas.{refuses_none}
use Rattle.aom_cost_report.specs.Names.{Names}
use Rattle.aom_cost_report.specs.Text.{figures_text}
use Rattle.aom_commands.specs.declared.status.ExitStatus.{ExitStatus}
use Rattle.aom_commands.specs.declared.faults.Fault.{Fault}
use Rattle.aom_commands.specs.Acceptable.{IsSerialized}
use Rattle.aom_commands.specs.Headline.{Sent, IsRefused, IsSilent, Says, Reported}
use Rattle.aom_commands.specs.Prices.{AreReported, IsBeyond, IsEarly, IsFigured, IsPriced, IsUnpriced, IsWithin, IsWritten, PricesAnswersBy, Shown, StopsEarly}
use Rattle.aom_commands.proofs.Reporting.{turned}
use Rattle.aom_commands.specs.Prices.PricesBreaks.{accepted_fails, refused_fails}

-- ---- what was sent

pub shown : (names : Names) (bytes text : List ℕ) (refusal : Option BudgetFault) (out errors : Sent) (status : ExitStatus) →
    IsWritten names bytes text refusal → Shown text refusal status out errors → PricesAnswersBy names bytes out errors status
shown names bytes text None out errors status written (inl sent) = grind (arith, nat_tests)
shown names bytes text None out errors status written (inr fails) = subst (PricesAnswersBy names bytes out errors)
    (sym fails.0) (inr (accepted_fails written.0 written.1 fails.1 (subst (λ t. Says t out) written.2 fails.2) fails.3))
shown names bytes text (Some fault) out errors status written (inl sent) = search (arith, nat_tests)
shown names bytes text (Some fault) out errors status written (inr fails) =
    subst (PricesAnswersBy names bytes out errors) (sym fails.0) (inr (refused_fails text fault written fails.1 fails.2 fails.3))

-- ---- what was told

-- why bytes have no figures
pub no_figures : (bytes : List ℕ) (fault : Fault) (out errors : Sent) → IsEarly fault → (refused : IsRefused bytes out errors) → refused.fault ≡ fault →
    IsUnpriced bytes out errors
no_figures bytes fault out errors early refused is = record { refused = refused; early = subst IsEarly (sym is) early }

pub unpriced : (names : Names) (bytes : List ℕ) (fault : Fault) (out errors : Sent) (status : ExitStatus) →
    StopsEarly bytes fault → IsSilent out → Reported fault status errors → PricesAnswersBy names bytes out errors status
unpriced names bytes fault out errors status stops silent reported = turned (PricesAnswersBy names bytes out errors)
    bytes fault out errors status stops.refuses stops.complete silent reported (λ refused is. inr (no_figures bytes fault out errors stops.early refused is)) inl

-- ---- a checked image

-- a text of its figures tells them
pub reported_so : (names : Names) (p linked : Image) (figures : Figures) (text : List ℕ) → AreFigures p figures → text ≡ figures_text names linked figures →
    linked ≡ p → AreReported names p text
reported_so names p linked figures text are reported same = search (arith, nat_tests)

-- it keeps within its budgets and its limits
pub within : (names : Names) (bytes text : List ℕ) → (r : IsFigured names bytes text) → BudgetsWithin r.image → HasDepths r.image → HasHeights r.image →
    IsWithin names bytes text
within names bytes text r budgets depths heights = record {
  figured = r;
  acceptable = record { linked = r.linked; typing = r.typing; typed = r.typed; budgets = budgets; depths = all_within r.image depths; heights = all_high r.image heights };
}

-- or it does not: the bytes are no other image, so they are none that is accepted
pub beyond : (names : Names) (bytes text : List ℕ) (r : IsFigured names bytes text) (fault : BudgetFault) →
    ((p : Image) → IsSerialized bytes p → r.image ≡ p) → RefusesBudget r.image fault → IsBeyond names bytes text fault
beyond names bytes text r fault only refuses = record {
  figured = r;
  refuses = refuses;
  none = grind (arith, nat_tests, refuses_none r.image fault r.serialized.formed r.linked refuses);
}

-- so what is written of the image is what is written of the bytes
pub written : (names : Names) (bytes : List ℕ) (p : Image) (t : Typing) → IsSerialized bytes p → IsLinked p → IsTyped p t → ((q : Image) →
    IsSerialized bytes q → p ≡ q) → (text : List ℕ) (refusal : Option BudgetFault) → IsPriced names p text refusal → IsWritten names bytes text refusal
written names bytes p t serialized linked typed only text refusal priced = go refusal priced
  where
    figured : (reported : List ℕ) → AreReported names p reported → IsFigured names bytes reported
    figured reported a = record { image = p; serialized = serialized; linked = linked; typing = t; typed = typed; figures = a.figures; are = a.are; reported = a.reported }

    go : (refusal : Option BudgetFault) → IsPriced names p text refusal → IsWritten names bytes text refusal
    go None (reported, a, budgets, depths, heights, is) = (reported, within names bytes reported (figured reported a) budgets depths heights, is)
    go (Some fault) (a, refuses) = beyond names bytes text (figured text a) fault only refuses
