-- What `check --prices` promises of its sinks and its status, from bytes to bytes.
use Rattle.std.specs.Prelude.{ℕ, ◌≡◌, ◌⊎◌, Bool, true, false, List, ◌++◌, Option, Some, None}
use Rattle.aom_image.specs.Image.{Image}
use Rattle.aom_link_conditions.specs.Linked.{IsLinked}
use Rattle.aom_typing_rules.specs.Typing.{Typing, IsTyped}
use Rattle.aom_static_bounds.specs.Depths.{HasDepths}
use Rattle.aom_static_bounds.specs.Heights.{HasHeights}
use Rattle.aom_budget.specs.Budgets.{BudgetsWithin}
use Rattle.aom_budget.specs.Faults.{Refuses}
use Rattle.aom_budget.specs.Figures.{Figures, AreFigures}
use Rattle.aom_budget.specs.declared.fault.BudgetFault.{BudgetFault}
use Rattle.aom_cost_report.specs.Names.{Names, unnamed}
use Rattle.aom_cost_report.specs.Text.{figures_text}
use Rattle.aom_transcript.specs.Sinks.{after}
use Rattle.aom_commands.specs.declared.status.ExitStatus.{ExitStatus}
use Rattle.aom_commands.specs.declared.status.ExitStatus.TheVariants.{Done, ImageRefused, Fault as Faulty}
use Rattle.aom_commands.specs.declared.faults.Fault.{Fault}
use Rattle.aom_commands.specs.declared.faults.Fault.TheVariants.{Budget, Memory, Write}
use Rattle.aom_commands.specs.Acceptable.{IsSerialized, IsAcceptable, RefusesOrWants}
use Rattle.aom_commands.specs.Headline.{CheckAnswers, Sent, IsSilent, Says, ReportsFault, ImageWantsMemory, IsRefused, accepted_text}

-- the bytes are an image of which its budgets and its limits alone are left to look at, and the text tells its figures
pub record IsFigured (names : Names) (bytes text : List ℕ) : Type 0 where
  pub image : Image
  pub serialized : IsSerialized bytes image
  pub linked : IsLinked image
  pub typing : Typing
  pub typed : IsTyped image typing
  pub figures : Figures
  pub are : AreFigures image figures
  pub reported : text ≡ figures_text names image figures

-- and it is an accepted one
pub record IsWithin (names : Names) (bytes text : List ℕ) : Type 0 where
  pub figured : IsFigured names bytes text
  pub acceptable : IsAcceptable figured.image

-- or it is refused for its budgets or its limits
pub record IsBeyond (names : Names) (bytes text : List ℕ) (fault : BudgetFault) : Type 0 where
  pub figured : IsFigured names bytes text
  pub refuses : Refuses figured.image fault
  pub none : (p : Image) → IsSerialized bytes p → IsAcceptable p → ⊥

-- what is written of it, by why it is refused, if it is
abbrev pub IsWritten : Names → List ℕ → List ℕ → Option BudgetFault → Type 0
IsWritten names bytes written None = (text : List ℕ) × IsWithin names bytes text × (written ≡ accepted_text ++ text)
IsWritten names bytes written (Some fault) = IsBeyond names bytes written fault

-- the text tells the image's figures
pub record AreReported (names : Names) (p : Image) (text : List ℕ) : Type 0 where
  pub figures : Figures
  pub are : AreFigures p figures
  pub reported : text ≡ figures_text names p figures

-- what is written of an image that is well-typed: its figures, behind the word of an accepted one where it keeps within all
abbrev pub IsPriced : Names → Image → List ℕ → Option BudgetFault → Type 0
IsPriced names p written None = (text : List ℕ) × AreReported names p text × BudgetsWithin p × HasDepths p × HasHeights p × (written ≡ accepted_text ++ text)
IsPriced names p written (Some fault) = AreReported names p written × Refuses p fault

-- the fault is none of budgets or limits
abbrev pub IsEarly : Fault → Type 0
IsEarly (Budget fault) = ⊥
IsEarly _ = Unit {0}

-- the bytes are no image of which its budgets alone are left to look at: that is no accepted one either, and the fault says why. Want of memory is no reason
pub record StopsEarly (bytes : List ℕ) (fault : Fault) : Type 0 where
  pub refuses : RefusesOrWants bytes fault
  pub early : IsEarly fault
  pub complete : (p : Image) → IsSerialized bytes p → IsAcceptable p → fault ≡ Memory

-- the image is refused for its budgets or its limits, its figures went out, and the errors say why
pub record IsOverBudget (names : Names) (bytes : List ℕ) (out errors : Sent) : Type 0 where
  pub text : List ℕ
  pub fault : BudgetFault
  pub beyond : IsBeyond names bytes text fault
  pub shows : out.now ≡ after out.before text
  pub reports : ReportsFault (Budget fault) errors

-- the bytes are refused before budgets are looked at: nothing went out, and the errors say why
pub record IsUnpriced (bytes : List ℕ) (out errors : Sent) : Type 0 where
  pub refused : IsRefused bytes out errors
  pub early : IsEarly refused.fault

-- the output failed, at an accepted image or at the figures of a refused one
pub data PricesBreaks (names : Names) (bytes : List ℕ) (out errors : Sent) : Type 0 where
  accepted_fails : (text : List ℕ) → IsWithin names bytes text → out.failed ≡ true → Says (accepted_text ++ text) out → ReportsFault Write errors → PricesBreaks names bytes out errors
  refused_fails : (text : List ℕ) (fault : BudgetFault) → IsBeyond names bytes text fault → out.failed ≡ true → Says text out → ReportsFault Write errors → PricesBreaks names bytes out errors

-- what each status says of a call of `check --prices` whose figures are told by these names
abbrev pub PricesAnswersBy : Names → List ℕ → Sent → Sent → ExitStatus → Type 0
PricesAnswersBy names bytes out errors Done = (text : List ℕ) × IsWithin names bytes text × (out.now ≡ after out.before (accepted_text ++ text)) × IsSilent errors
PricesAnswersBy names bytes out errors ImageRefused = IsOverBudget names bytes out errors ⊎ IsUnpriced bytes out errors
PricesAnswersBy names bytes out errors Faulty = ImageWantsMemory out errors ⊎ PricesBreaks names bytes out errors
PricesAnswersBy names bytes out errors _ = ⊥

-- and what each says of a call of `check`, with the image's figures or without
abbrev pub ChecksBy : Names → Bool → List ℕ → Sent → Sent → ExitStatus → Type 0
ChecksBy names prices = elim prices [ true ↦ PricesAnswersBy names | false ↦ CheckAnswers ]

-- so where there are no names
abbrev pub PricesAnswers : List ℕ → Sent → Sent → ExitStatus → Type 0
PricesAnswers = PricesAnswersBy unnamed

abbrev pub Checks : Bool → List ℕ → Sent → Sent → ExitStatus → Type 0
Checks = ChecksBy unnamed

-- how a text goes out of which a fault is told, if there is one
abbrev pub Passes : List ℕ → Option BudgetFault → ExitStatus → Sent → Sent → Type 0
Passes text None status out errors = (status ≡ Done) × (out.now ≡ after out.before text) × IsSilent errors
Passes text (Some fault) status out errors = (status ≡ ImageRefused) × (out.now ≡ after out.before text) × ReportsFault (Budget fault) errors

abbrev pub Shown : List ℕ → Option BudgetFault → ExitStatus → Sent → Sent → Type 0
Shown text refusal status out errors = Passes text refusal status out errors ⊎ ((status ≡ Faulty) × (out.failed ≡ true) × Says text out × ReportsFault Write errors)
