-- How many dispatches of objects there may still be: no move makes more of them.
use Rattle.std.proofs.lemmas.Bool.Decides.{nat_tests}
use Rattle.std.proofs.Common.{◌≡◌, ℕ, ◌<◌, ◌≤◌, ◌^◌, ◌-◌, ◌∙◌, Bool, true, false, [], None, ap, arith, cond, refl}
use Rattle.std.specs.Prelude.{is_some}
use Rattle.aom_image.specs.Image.{Image}
use Rattle.aom_image.specs.declared.method.Thing.{Thing}
use Rattle.aom_roles.specs.Classes.{sessions_in}
use Rattle.aom_roles.specs.Shapes.{kind_of}
use Rattle.aom_determinism.proofs.SafetyLemmas.{accepts, attends, dispatched_so, dispatches_are_counted, handles, parts, picked_rest}
use Rattle.aom_safety.specs.Counting.{restarts}
use Rattle.aom_semantics.specs.Moves.{step}
use Rattle.aom_semantics.specs.Servers.{is_server}
use Rattle.aom_semantics.specs.State.{Choice, Goes, OwnedObject, State, raised}
use Rattle.aom_semantics.specs.World.{Picks, turned}
use Rattle.aom_determinism.proofs.TerminationLemmas.{begun_budget_owner, budget_owners}
use Rattle.aom_termination.specs.BudgetOwners.{class_of, budget_owner}
use Rattle.aom_determinism.specs.Endings.{DispatchesAreSpent, one_where, spare}

pub one_at_most : (b : Bool) → one_where b ≤ 1
one_at_most x = grind arith

pub moved_spares : (p : Image) (limit : ℕ) → limit ≤ 2 ^ 64 - 1 → (c : Choice) (s u : State) → step p c s ≡ Goes u → spare limit u ≤ spare limit s
moved_spares p limit most c s u goes = go (restarts p s.tasks) refl
  where
    go : (b : Bool) → restarts p s.tasks ≡ b → spare limit u ≤ spare limit s
    go b is = by_case b (dispatches_are_counted.moves p c s u goes ∙ ap (λ x. cond x (raised s.rest.dispatches) s.rest.dispatches) is)
        (ap (λ o. one_where (is_some o)) (budget_owners p c s u goes ∙ ap (λ x. cond x None (budget_owner s.tasks)) is))
      where
        by_case : (b : Bool) → u.rest.dispatches ≡ cond b (raised s.rest.dispatches) s.rest.dispatches →
            one_where (is_some (budget_owner u.tasks)) ≡ one_where (is_some (cond b None (budget_owner s.tasks))) → spare limit u ≤ spare limit s
        by_case true counts pays = omega (arith, counts, pays, one_at_most (is_some (budget_owner s.tasks)), most)
        by_case false counts pays = omega (arith, counts, pays)

-- the dispatch of an object, or of a server, takes one of them
server_there : (p : Image) (t : Thing) → is_server p t ≡ true → is_some (class_of t) ≡ true
unfolding sessions_in kind_of
server_there p t e = grind arith

picked_class : (p : Image) (s u : State) (x : OwnedObject) → turned p s (Picks x) ≡ Goes u → is_some (class_of x.object.thing) ≡ true
picked_class p s u x goes = grind (arith, nat_tests, server_there p x.object.thing, dispatched_so p s u x)

-- its class pays
pub picked_pays : (p : Image) (s u : State) (x : OwnedObject) → turned p s (Picks x) ≡ Goes u → is_some (budget_owner u.tasks) ≡ true
picked_pays p s u x goes = ap is_some (grind (arith, nat_tests, handles, accepts, attends, parts, begun_budget_owner)) ∙ picked_class p s u x goes

pub picked_spares : (p : Image) (limit : ℕ) (s u : State) (x : OwnedObject) → s.rest.dispatches < limit → s.tasks ≡ [] → turned p s (Picks x) ≡ Goes u →
    spare limit u < spare limit s
picked_spares p limit s u x below idle goes = grind (arith, nat_tests, picked_pays p s u x goes, picked_rest p s u x goes)

pub dispatches_are_spent : DispatchesAreSpent
dispatches_are_spent = record { moves = moved_spares; picks = picked_spares }
