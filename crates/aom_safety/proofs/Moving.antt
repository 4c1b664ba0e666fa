-- Each step is a move: an instruction has its effect, and may have it.
use Rattle.std.proofs.Common.{List, [], cond, length, refl, subst, sym, ℤ, ◌∷◌, ◌≡◌}
use Rattle.std.specs.Prelude.{is_some}
use Rattle.aom_safety.proofs.ImageLemmas.{some_given}
use Rattle.aom_image.specs.Image.{Image}
use Rattle.aom_image.specs.Views.{instr_at}
use Rattle.aom_instructions.specs.declared.instr.Instr.{Instr}
use Rattle.aom_roles.specs.Tests.{AllTrue}
use Rattle.aom_safety.proofs.Emptied.{owns_nothing_by}
use Rattle.aom_safety.proofs.Fitting.{fits}
use Rattle.aom_safety.proofs.Guarded.{goes_same, guarded_goes, guarded_met}
use Rattle.aom_semantics.specs.Cleanup.{arrived, destroyed, unwound}
use Rattle.aom_semantics.specs.Destruction.{reclaimed, parting_from, closing, gone, needs_gone}
use Rattle.aom_semantics.specs.Effects.{applied, effect}
use Rattle.aom_semantics.specs.Moves.{needs_end, act, counted, does, needs, step_instr, step_task}
use Rattle.aom_semantics.specs.Places.{Entry, Going, held}
use Rattle.aom_semantics.specs.State.{Closing, A_mark, An_object, An_operation, Choice, Destroy, Dispatched, Frame}
use Rattle.aom_semantics.specs.State.{Goes, IsStuck, Item, NullOrDead, Run, State, Task, Trapped, Unwind}
use Rattle.aom_safety.specs.Steps.{Empties, Acts, Arrives, Clears, Comes_out, Ends, Fits, IsStill, Move, Rests, StepsAreMoves, Undoes, Reclaims}
use Rattle.aom_semantics.specs.Servers.{without_queue}

-- a cell goes
reclaims : (p : Image) (c : Choice) (ts : List Task) (s u : State) → s.tasks ≡ Destroy ∷ ts →
    gone (held s.cells (Going (length ts))) ts (counted p s) ≡ Goes u → Move p c s u
reclaims p c ts s u at e = some_given (λ o. gone o ts (counted p s) ≡ Goes u) (held s.cells (Going (length ts))) e (λ stuck. cc) (λ o there e.
    let needed = needs_gone (without_queue o.name s.cells) o in
    let after : State = reclaimed o ts (counted p s) in
    let met = guarded_met needed after u e in
    Reclaims ts o at there (owns_nothing_by (without_queue o.name s.cells) o.name met.0 met.1.0) (sym (guarded_goes needed after u e)))

-- a server that goes has its sessions go first
empties : (p : Image) (c : Choice) (ts : List Task) (s u : State) → s.tasks ≡ Closing ∷ ts → closing p ts (counted p s) ≡ Goes u → Move p c s u
empties p c (Destroy ∷ ts) s u at e = some_given (λ o. parting_from p o ts (counted p s) ≡ Goes u)
    (held s.cells (Going (length ts))) e (λ stuck. cc) (λ o there e. Empties ts o at there (sym (goes_same _ u e)))
empties p c _ s u at e = cc

-- a code arrives
arrives : (p : Image) (c : Choice) (code : ℤ) (ts : List Task) (items : List Item) (s u : State) →
    s.tasks ≡ Unwind code ∷ ts → s.items ≡ A_mark ∷ items → arrived p code ts items (counted p s) ≡ Goes u → Move p c s u
arrives p c code (Trapped ∷ Run fr ∷ ts) items s u at top e = Arrives code fr ts items at top (sym (goes_same _ u e))
arrives p c code (Trapped ∷ Dispatched d ∷ ts) items s u at top e = Comes_out code d ts items at top (sym (goes_same _ u e))
arrives p c code _ items s u at top e = cc

unwinds : (p : Image) (c : Choice) (code : ℤ) (ts : List Task) (items : List Item) (s u : State) →
    s.tasks ≡ Unwind code ∷ ts → s.items ≡ items → unwound p code ts (counted p s) items ≡ Goes u → Move p c s u
unwinds p c code ts [] s u at top e = cc
unwinds p c code ts (An_object ∷ items) s u at top e = some_given
    (λ o. cond (is_some o) (Goes (destroyed p o items (Unwind code ∷ ts) (counted p s))) (IsStuck NullOrDead) ≡ Goes u) (held s.cells (Entry (length items))) e
    (λ stuck. cc) (λ o there e. Clears code ts items o at top there (sym (goes_same _ u e)))
unwinds p c code ts (An_operation m w ∷ items) s u at top e = Undoes code ts items m w at top (sym (goes_same _ u e))
unwinds p c code ts (A_mark ∷ items) s u at top e = arrives p c code ts items s u at top e

-- an instruction that goes on has met its needs, may have its effect, and has it
pub acted : (p : Image) (c : Choice) (s u : State) (fr : Frame) (ts : List Task) (i : Instr) → act p c fr ts s i ≡ Goes u →
    AllTrue (needs p c fr ts s i) × Fits p c fr ts s i (effect p c fr ts s i) × (u ≡ applied p fr ts s (effect p c fr ts s i))
acted p c s u fr ts i e =
    let met = guarded_met (needs p c fr ts s i) (does p c fr ts s i) u e in
    (met, (fits p c fr ts s i met).0, sym (guarded_goes (needs p c fr ts s i) (does p c fr ts s i) u e))

pub steps_are_moves : StepsAreMoves
steps_are_moves p c s u e = go s.tasks refl e
  where
    runs : (fr : Frame) (ts : List Task) → s.tasks ≡ Run fr ∷ ts → step_instr p c fr ts (counted p s) (instr_at p fr.method fr.place) ≡ Goes u → Move p c s u
    runs fr ts at e = some_given (λ o. step_instr p c fr ts (counted p s) o ≡ Goes u) (instr_at p fr.method fr.place) e (λ stuck. cc)
        (λ i there e. let a = acted p c (counted p s) u fr ts i e in Acts fr ts i (effect p c fr ts (counted p s) i) at there a.0 a.1 a.2)

    go : (ts : List Task) → s.tasks ≡ ts → step_task p c (counted p s) ts ≡ Goes u → Move p c s u
    go [] at e = Rests (subst IsStill (sym at) tt) (sym (goes_same _ u e))
    go (Run fr ∷ ts) at e = runs fr ts at e
    go (Trapped ∷ ts) at e = cc
    go (Destroy ∷ ts) at e = reclaims p c ts s u at e
    go (Closing ∷ ts) at e = empties p c ts s u at e
    go (Unwind code ∷ ts) at e = unwinds p c code ts s.items s u at refl e
    go (Dispatched d ∷ ts) at e = Ends d ts at (sym (guarded_goes (needs_end d s.cells) _ u e))
