-- The laws of steps.
use Rattle.std.specs.Prelude.{ℕ, true, false, cond, ◌+◌, ◌≤◌, ◌<◌, ◌≡◌, List, [], Some, None}
use Rattle.aom_image.specs.Image.{Image}
use Rattle.aom_image.specs.WellFormed.{WellFormed}
use Rattle.aom_link_conditions.specs.Linked.{IsLinked}
use Rattle.aom_typing_rules.specs.Typing.{Typing, IsTyped}
use Rattle.aom_safety.specs.Counting.{restarts, starts, steps_of, taken}
use Rattle.aom_safety.specs.Kept.{StateInvariant}
use Rattle.aom_semantics.specs.Moves.{step}
use Rattle.aom_semantics.specs.State.{State, Choice, Goes}
use Rattle.aom_safety.specs.WellTyped.{WellTyped}
use Rattle.aom_semantics.specs.World.{boot_state, Observed, Reaches, Environment, turn, turning}
use Rattle.aom_transcript.specs.declared.line.Line.{Line}
use Rattle.aom_static_bounds.specs.Dispatches.{IsAffordable, main_price}
use Rattle.aom_static_bounds.specs.Layers.{ArePricesUpTo}
use Rattle.aom_static_bounds.specs.Prices.{Prices, IsPriced}
use Rattle.aom_termination.specs.Left.{WithinBudget, left}
use Rattle.aom_termination.specs.BudgetOwners.{AffordsObjects, declared_of, budget_owner, price_of}

-- a run begins within main's price
abbrev pub BootWithin : Type 0
BootWithin = (p : Image) (c : Prices) → WithinBudget p c (main_price p c) (boot_state p)

-- where clients are kept a move pays for the steps that it is, so the steps so far and all that may still come stay within what they were within
pub record MovesPay : Type 0 where
  pub pays :
      (p : Image) (t : Typing) (c : Prices) → IsLinked p → IsTyped p t → IsPriced p t c → (ch : Choice) (s u : State) → WellTyped p t s → StateInvariant p s → step p ch s ≡ Goes u →
      restarts p s.tasks ≡ false → steps_of s.tasks + left p c u ≤ left p c s
  -- as the dispatch of an object ends, steps are counted anew, and what may still come is the root's destruction: main's price pays for it
  pub restarts_pay :
      (p : Image) (t : Typing) (c : Prices) → IsLinked p → IsTyped p t → IsPriced p t c → (ch : Choice) (s u : State) → WellTyped p t s → StateInvariant p s → step p ch s ≡ Goes u →
      restarts p s.tasks ≡ true → left p c u ≤ main_price p c
  -- the payer stays until then, and is main from then on
  pub budget_owners : (p : Image) (ch : Choice) (s u : State) → step p ch s ≡ Goes u → budget_owner u.tasks ≡ cond (restarts p s.tasks) None (budget_owner s.tasks)
  pub within :
      (p : Image) (t : Typing) (c : Prices) → IsLinked p → IsTyped p t → IsPriced p t c → (ch : Choice) (s u : State) → WellTyped p t s → StateInvariant p s → step p ch s ≡ Goes u →
      (n : ℕ) → (restarts p s.tasks ≡ true → main_price p c ≤ n) → WithinBudget p c n s → WithinBudget p c n u

-- a turn that dispatches an object or a server begins with the price of its class, and any other costs nothing: whatever comes from outside, whatever a native completes, and whatever a client asks
pub record TurnsPay : Type 0 where
  pub begins :
      (p : Image) (t : Typing) (c : Prices) → WellFormed p → IsLinked p → IsPriced p t c → (outside : Environment) (observed : Observed) (s u : State) → WellTyped p t s → s.tasks ≡ [] → turn p outside observed s ≡ Goes u →
      starts (turning outside observed s) ≡ true → left p c u ≤ price_of p c (budget_owner u.tasks)
  pub passes :
      (p : Image) (c : Prices) (outside : Environment) (observed : Observed) (s u : State) → s.tasks ≡ [] → turn p outside observed s ≡ Goes u →
      starts (turning outside observed s) ≡ false → (u.tasks ≡ []) × (left p c u ≡ left p c s)

-- no dispatch in a run of the image has taken more steps than its payer declares, main or the class of an object, and what is counted is what was taken
pub record KeepsBudget (p : Image) (outside : Environment) : Type 0 where
  pub within : (lines : List Line) (s : State) (reached : Reaches p outside (boot_state p) lines s) → taken reached ≤ declared_of p (budget_owner s.tasks)
  pub counted : (lines : List Line) (s : State) (reached : Reaches p outside (boot_state p) lines s) → s.rest.steps ≡ taken reached

-- each dispatch takes at most its price, by any table that pays, and where that is within its declaration at most the declared number of steps
pub record StepsWithin : Type 0 where
  pub price :
      (p : Image) (t : Typing) (c : Prices) (outside : Environment) → WellFormed p → IsLinked p → IsTyped p t → IsPriced p t c →
      (lines : List Line) (s : State) (reached : Reaches p outside (boot_state p) lines s) → taken reached ≤ price_of p c (budget_owner s.tasks)
  -- main's dispatch and the root's destruction, whatever classes declare
  pub main :
      (p : Image) (t : Typing) (c : Prices) (outside : Environment) → WellFormed p → IsLinked p → IsTyped p t → IsAffordable p t c →
      (lines : List Line) (s : State) (reached : Reaches p outside (boot_state p) lines s) → budget_owner s.tasks ≡ None → taken reached ≤ p.header.budget
  pub each : (p : Image) (t : Typing) (c : Prices) (outside : Environment) → WellFormed p → IsLinked p → IsTyped p t → IsAffordable p t c → AffordsObjects p c → KeepsBudget p outside
  -- so too where the table says the prices up to a limit, and the declarations are below that
  pub limited :
      (limit : ℕ) (p : Image) (t : Typing) (c : Prices) (outside : Environment) → WellFormed p → IsLinked p → IsTyped p t → ArePricesUpTo limit p t c →
      p.header.budget < limit → main_price p c ≤ p.header.budget → ((x : ℕ) → declared_of p (Some x) < limit) → AffordsObjects p c → KeepsBudget p outside
