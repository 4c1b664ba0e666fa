-- While a cell goes or a leave unwinds, quiet methods alone run, so that no trap stands over it.
use Rattle.std.proofs.lemmas.Bool.Decides.{nat_tests}
use Rattle.aom_safety.proofs.RolesLemmas.{itself}
use Rattle.std.proofs.lemmas.Option.{same_Some}
use Rattle.std.proofs.Common.{arith, List, Some, [], false, refl, subst, sym, true, ℕ, ◌∙◌, ◌∷◌, ◌≡◌}
use Rattle.std.proofs.lemmas.Bool.{true≢false, false_from_ne_true}
use Rattle.aom_image.specs.Image.{Image}
use Rattle.aom_image.specs.Views.{is_quiet}
use Rattle.aom_instructions.specs.Table.{action_of}
use Rattle.aom_instructions.specs.declared.action.Action.TheVariants.{Call}
use Rattle.aom_instructions.specs.declared.action.CallMode.TheVariants.{Plain, Trapped as Under_trap}
use Rattle.aom_instructions.specs.declared.instr.Instr.{Instr}
use Rattle.aom_instructions.specs.declared.instr.Target.{Target}
use Rattle.aom_roles.specs.Tests.{AllTrue}
use Rattle.aom_typing_rules.specs.Rules.{rule_needs}
use Rattle.aom_abstract_state.specs.AbstractState.{AbstractState}
use Rattle.aom_typing_rules.specs.Typing.{IsTyped, Typing, shape_at}
use Rattle.aom_safety.proofs.Callees.{cancel_quiet, only_then}
use Rattle.aom_safety.proofs.Overriders.{body_quiet}
use Rattle.aom_safety.proofs.Destroying.{destroys_by}
use Rattle.aom_safety.proofs.Finishing.{all_parts}
use Rattle.aom_safety.proofs.InstructionsLemmas.{call_is, trap_is}
use Rattle.aom_safety.proofs.Owners.{owned}
use Rattle.aom_safety.proofs.Preserving.{Acting, Kept, keeps, turn_keeps_it}
use Rattle.aom_safety.specs.Claims.{Layer, tasks_of}
use Rattle.aom_safety.specs.Laws.{IsWired}
use Rattle.aom_semantics.specs.Moves.{step}
use Rattle.aom_semantics.specs.Owned.{NoneGoes}
use Rattle.aom_semantics.specs.Places.{Cell}
use Rattle.aom_safety.specs.Quiet.{QuietPreserved, CaughtOwned, OnlyQuietRun, only_quiet, is_clearing}
use Rattle.aom_semantics.specs.State.{Choice, Dispatched, Frame, Goes, Run, State, Task, Trapped}
use Rattle.aom_safety.specs.WellTyped.{Good, WellTyped}
use Rattle.aom_semantics.specs.World.{boot_state}
use Rattle.aom_safety.proofs.Layers.{method_layer}

-- the abstract state of the method at hand
its_shape : (p : Image) (t : Typing) (cs : List Cell) (fr : Frame) (ts : List Task) (ls : List Layer) → Run fr ∷ ts ≡ tasks_of ls → Good p t cs ls →
    (sh : AbstractState) × (shape_at t fr.method fr.place ≡ Some sh)
its_shape p t cs fr ts ls at good = method_layer (Good p t cs) fr ts ls (sym at) good (λ sh ls _ good. (sh, good.stack.0))

module _ (p : Image) (t : Typing) (wired : IsWired p) (typed : IsTyped p t) (c : Choice) (s : State) (w : WellTyped p t s) where
  -- what the verifier asks of the instruction at hand
  ruled : (fr : Frame) (ts : List Task) (i : Instr) → Acting p c (only_quiet p) s fr ts i → (sh : AbstractState) × AllTrue (rule_needs p fr.method fr.place sh i)
  ruled fr ts i a =
      let stands = its_shape p t s.cells fr ts w.layers (sym a.tasks ∙ w.tasks) w.good in
      let x = typed.each fr.method fr.place stands.0 stands.1 in
      let same : x.instr ≡ i = same_Some x.instr i (sym x.stands ∙ a.there) in
      (stands.0, subst (λ j. AllTrue (rule_needs p fr.method fr.place stands.0 j)) same x.needs)

  -- a quiet method calls quiet ones
  calls_quiet : (fr : Frame) (ts : List Task) (i : Instr) → Acting p c (only_quiet p) s fr ts i → (target : Target) (m first x : ℕ) →
      action_of i ≡ Call Plain target m first x → is_clearing ts ≡ true → is_quiet p m ≡ true
  calls_quiet fr ts i a target m first x e clearing = grind (arith, nat_tests, ruled fr ts i a, call_is i target m first x e, all_parts, only_then)

  -- no quiet method sets a trap
  not_clearing : (fr : Frame) (ts : List Task) (i : Instr) → Acting p c (only_quiet p) s fr ts i → (target : Target) (m first x : ℕ) →
      action_of i ≡ Call Under_trap target m first x → is_clearing ts ≡ false
  not_clearing fr ts i a target m first x e = grind (arith, nat_tests, false_from_ne_true, ruled fr ts i a, trap_is i target m first x e)

  kept : Kept p c (only_quiet p) s
  kept = record {
    goes_on = λ fr ts i a f words. a.runs;
    jumps = λ fr ts i a to f. a.runs;
    counts = λ fr ts i a d n f. a.runs;
    repeats = λ fr ts i a d to k e f. a.runs;
    waits = λ fr ts i a f words. a.runs;
    resumes = λ fr ts h words. h;
    calls = grind (arith, nat_tests, body_quiet, calls_quiet);
    traps = λ fr ts i a target m first x e. let clear = not_clearing fr ts i a target m first x e in (λ clearing. absurd (true≢false (sym clearing ∙ clear)), clear);
    cancels = λ fr ts i a m e f clearing. cancel_quiet p wired fr m f;
    destructs = λ o x m height ts e clearing. (destroys_by p wired x x m (itself p x) e).quiet;
    asks = λ x m code height e clearing. absurd (true≢false (sym clearing));
    undoes = λ m x items ts e clearing. grind arith;
    unwinds = λ code ts h. h;
  }

moves : (p : Image) (t : Typing) → IsWired p → IsTyped p t → (c : Choice) (s u : State) → WellTyped p t s → OnlyQuietRun p s.tasks → step p c s ≡ Goes u → OnlyQuietRun p u.tasks
moves p t wired typed c s u w h e = keeps p c (only_quiet p) s u (kept p t wired typed c s w) h e

boot : (p : Image) → OnlyQuietRun p (boot_state p).tasks
boot p = grind (arith, nat_tests)

pub quiet_preserved : QuietPreserved
quiet_preserved = record {
  boot = boot;
  moves = moves;
  turns = λ p wired outside observed s u h e. turn_keeps_it p outside observed (only_quiet p) s u (λ m height receiver words d clearing. absurd (true≢false (sym clearing)))
      (λ d. refl) (λ o x m height ts e clearing. (destroys_by p wired x x m (itself p x) e).quiet) h e;
}

none_goes : (ts : List Task) → is_clearing ts ≡ false → NoneGoes ts
none_goes [] e = tt
none_goes (Run fr ∷ ts) e = none_goes ts e
none_goes (Trapped ∷ ts) e = none_goes ts e
none_goes (Dispatched d ∷ ts) e = none_goes ts e
none_goes _ e = absurd (true≢false e)

pub caught_owned : CaughtOwned
caught_owned p t wired s w only_quiet fits code tasks items at top = grind (arith, nat_tests, owned p t wired s w, none_goes tasks)
