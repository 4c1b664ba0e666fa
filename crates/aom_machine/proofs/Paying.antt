-- Each move keeps a dispatch within what is declared of it.
use Rattle.std.proofs.Common.{ap, arith, Bool, cond, false, None, Option, refl, true, ℕ, ◌∙◌, ◌≡◌}
use Rattle.aom_image.specs.Image.{Image}
use Rattle.aom_link_conditions.specs.Linked.{IsLinked}
use Rattle.aom_link_conditions.specs.Roles.{main_of}
use Rattle.aom_typing_rules.specs.Typing.{IsTyped, Typing}
use Rattle.aom_safety.specs.Counting.{restarts}
use Rattle.aom_safety.specs.Kept.{StateInvariant}
use Rattle.aom_semantics.specs.Moves.{step}
use Rattle.aom_semantics.specs.State.{Choice, Goes, State}
use Rattle.aom_safety.specs.WellTyped.{WellTyped}
use Rattle.aom_semantics.specs.World.{boot_state, main_tasks}
use Rattle.aom_static_bounds.specs.Dispatches.{IsAffordable}
use Rattle.aom_static_bounds.specs.Prices.{Prices}
use Rattle.aom_machine.proofs.TerminationLemmas.{none_counted, steps_counted}
use Rattle.aom_termination.specs.Laws.{BootWithin, MovesPay}
use Rattle.aom_termination.specs.BudgetOwners.{declared_of, budget_owner}
use Rattle.aom_machine_state.specs.Stands.{KeepsWithin}

module _ (p : Image) (t : Typing) (c : Prices) (linked : IsLinked p) (typed : IsTyped p t) (affordable : IsAffordable p t c) where
  pub keeps_within : MovesPay → (ch : Choice) (s u : State) → WellTyped p t s → StateInvariant p s → step p ch s ≡ Goes u → KeepsWithin p c s → KeepsWithin p c u
  keeps_within moves_pay ch s u well kept goes h = go (restarts p s.tasks) refl
    where
      go : (b : Bool) → restarts p s.tasks ≡ b → KeepsWithin p c u
      go true ends =
          let main = moves_pay.budget_owners p ch s u goes ∙ ap (λ b. cond b None (budget_owner s.tasks)) ends in
          record {
            within = omega (
              arith,
              moves_pay.restarts_pay p t c linked typed affordable.priced ch s u well kept goes ends,
              none_counted p ch s u goes ends,
              affordable.declared,
              ap (λ x. declared_of p x) main,
            );
          }
      go false on =
          let same = moves_pay.budget_owners p ch s u goes ∙ ap (λ b. cond b None (budget_owner s.tasks)) on in
          record {
            within =
                omega (arith, moves_pay.pays p t c linked typed affordable.priced ch s u well kept goes on, steps_counted p ch s u goes on, h.within, ap (λ x. declared_of p x) same);
          }

  -- main's dispatch begins so
  pub boots_within : BootWithin → KeepsWithin p c (boot_state p)
  boots_within boot_within = record { within = omega (arith, (boot_within p c).within, affordable.declared, ap (λ x. declared_of p x) (by_main (main_of p))) }
    where
      by_main : (m : Option ℕ) → budget_owner (main_tasks m) ≡ None
      by_main x = grind arith
