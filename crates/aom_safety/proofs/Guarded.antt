-- A move that goes on has met its needs, and goes where it says.
use Rattle.std.proofs.lemmas.Bool.Decides.{nat_tests}
use Rattle.std.proofs.Common.{arith, List, None, Option, Some, [], subst, ◌∷◌, ◌≡◌}
use Rattle.aom_safety.proofs.ImageLemmas.{true_given}
use Rattle.aom_image.specs.Image.{Image}
use Rattle.aom_image.specs.Views.{instr_at}
use Rattle.aom_instructions.specs.declared.instr.Instr.{Instr}
use Rattle.aom_roles.specs.Tests.{AllTrue}
use Rattle.aom_semantics.specs.Moves.{counted, does, needs, step, step_instr, step_task}
use Rattle.aom_semantics.specs.State.{Choice, Frame, Goes, IsStuck, Need, Outcome, Run, State, Stuck, Task, guarded}

pub goes_same : (s u : State) → Goes s ≡ Goes u → s ≡ u
goes_same s u e = cc

pub guarded_goes : (needs : List Need) (s u : State) → guarded needs s ≡ Goes u → s ≡ u
guarded_goes [] s u e = goes_same s u e
guarded_goes (need ∷ needs) s u e = grind (arith, nat_tests, guarded_goes needs s u, true_given)

pub guarded_met : (list : List Need) (s u : State) → guarded list s ≡ Goes u → AllTrue list
guarded_met [] s u e = tt
guarded_met (need ∷ list) s u e = grind (arith, nat_tests, guarded_met list s u, true_given)

-- the instruction at hand as a step goes on has met its needs, and does what it does
pub acts_at : (p : Image) (c : Choice) (s u : State) (fr : Frame) (ts : List Task) (i : Instr) → s.tasks ≡ Run fr ∷ ts →
    instr_at p fr.method fr.place ≡ Some i → step p c s ≡ Goes u → AllTrue (needs p c fr ts (counted p s) i) × (does p c fr ts (counted p s) i ≡ u)
acts_at p c s u fr ts i at there e =
    let v = counted p s in
    let goes : step_instr p c fr ts v (Some i) ≡ Goes u = subst (λ o. step_instr p c fr ts v o ≡ Goes u) there (subst (λ l. step_task p c v l ≡ Goes u) at e) in
    (guarded_met (needs p c fr ts v i) (does p c fr ts v i) u goes, guarded_goes (needs p c fr ts v i) (does p c fr ts v i) u goes)

-- where nothing is stuck, the option has something
pub goes_some : {A : Type 0} (o : Option A) (run : Option A → Outcome) (stuck : Stuck) (u : State) → run None ≡ IsStuck stuck → run o ≡ Goes u →
    (x : A) × (o ≡ Some x) × (run (Some x) ≡ Goes u)
goes_some x run stuck u none e = grind arith
