-- How much a well-typed state has at hand: methods, tasks, marks and entries.
use Rattle.std.proofs.lemmas.Bool.Decides.{nat_tests}
use Rattle.std.proofs.Common.{IsSome, List, Some, [], ap, arith, false, length, refl, subst, suc, sym, true, ℕ, ◌*◌, ◌+◌, ◌<◌, ◌∙◌, ◌∷◌, ◌≡◌, ◌≤◌, pos}
use Rattle.std.proofs.lemmas.Bool.{true≢false}
use Rattle.std.proofs.lemmas.Option.{same_Some}
use Rattle.aom_image.specs.Image.{Image}
use Rattle.aom_image.specs.Views.{instr_at, leaves, method_at}
use Rattle.aom_instructions.specs.declared.instr.Instr.{Instr}
use Rattle.aom_roles.specs.Tests.{AllTrue}
use Rattle.aom_typing_rules.specs.Rules.{flows, rule_needs, ways_of}
use Rattle.aom_typing_rules.specs.Ways.{Goes_on, News, after, flowing}
use Rattle.aom_abstract_state.specs.AbstractState.{AbstractState}
use Rattle.aom_roles.specs.Tables.{at}
use Rattle.aom_typing_rules.specs.Typing.{AllLead, IsTyped, Typing}
use Rattle.aom_static_bounds.specs.Calls.{Among, callees}
use Rattle.aom_static_bounds.specs.Strongest.{IsStrongest}
use Rattle.aom_static_bounds.specs.Depths.{HasDepths, alone}
use Rattle.aom_static_bounds.specs.Heights.{HasHeights}
use Rattle.aom_safety.specs.Claims.{Ending, Dispatching, Dying, Layer, Mark, Method, Unwinding, tasks_of}
use Rattle.aom_safety.specs.Laws.{IsWired}
use Rattle.aom_semantics.specs.Places.{Cell}
use Rattle.aom_safety.specs.Tasks.{Below}
use Rattle.aom_safety.specs.Quiet.{OnlyQuietRun, only_quiet, is_clearing}
use Rattle.aom_semantics.specs.State.{Dispatched, Frame, Item, Run, State, Task, Trapped, Unwind}
use Rattle.aom_safety.specs.Traps.{marks, traps}
use Rattle.aom_safety.specs.WellTyped.{Back, Gone, Leaves, Now, Returns, Stack, WellTyped}
use Rattle.aom_machine_instructions.proofs.SafetyLemmas.{all_matched, method_layer}
use Rattle.aom_machine_state.specs.Room.{AllRunUnder, AllUnder, HasRoom, IsUnder, entries_in}
use Rattle.aom_machine_instructions.proofs.MachineStateLemmas.{Roomy, stands_here}
use Rattle.aom_machine_instructions.proofs.RoomActs.{may_call, pushes}
use Rattle.aom_machine_instructions.proofs.RoomMoves.{line_goes, none_going_there, tables_of}

-- ---- methods

abbrev pub methods_in : List Task → ℕ
methods_in [] = 0
methods_in (Run fr ∷ ts) = suc (methods_in ts)
methods_in (_ ∷ ts) = methods_in ts

-- over a method of some depth there are few
few_under : (depth : ℕ → ℕ) → ((m : ℕ) → depth m ≤ 256) → (n : ℕ) (ts : List Task) → n ≤ 256 → IsUnder depth n ts → AllUnder depth ts → (n + methods_in ts) ≤ 256
few_under depth within n [] le u all = omega (arith, le)
few_under depth within n (Run fr ∷ ts) le u all = let few = few_under depth within (depth fr.method) ts (within fr.method) all.0 all.1 in omega (arith, few, u)
few_under depth within n (_ ∷ ts) le u all = few_under depth within n ts le u all

few_methods : (depth : ℕ → ℕ) → ((m : ℕ) → depth m ≤ 256) → (ts : List Task) → AllUnder depth ts → methods_in ts ≤ 257
few_methods depth within [] all = omega arith
few_methods depth within (Run fr ∷ ts) all = let few = few_under depth within (depth fr.method) ts (within fr.method) all.0 all.1 in omega (arith, few)
few_methods depth within (_ ∷ ts) all = few_methods depth within ts all

-- ---- tasks

abbrev unwindings_in : List Task → ℕ
unwindings_in [] = 0
unwindings_in (Unwind code ∷ ts) = suc (unwindings_in ts)
unwindings_in (_ ∷ ts) = unwindings_in ts

none_unwinds : (ts : List Task) → is_clearing ts ≡ false → unwindings_in ts ≡ 0
none_unwinds [] e = refl
none_unwinds (Run fr ∷ ts) e = none_unwinds ts e
none_unwinds (Trapped ∷ ts) e = none_unwinds ts e
none_unwinds (Dispatched d ∷ ts) e = none_unwinds ts e
none_unwinds _ e = absurd (true≢false e)

only_quiet_below : (p : Image) (ts : List Task) → OnlyQuietRun p ts → Below (only_quiet p) ts
only_quiet_below p (Run fr ∷ ts) h = h
only_quiet_below p _ h = h

one_unwinds : (p : Image) (ts : List Task) → Below (only_quiet p) ts → unwindings_in ts ≤ 1
one_unwinds p [] h = omega arith
one_unwinds p (Run fr ∷ ts) h = one_unwinds p ts h.1
one_unwinds p (Trapped ∷ ts) h = one_unwinds p ts h.1
one_unwinds p (Unwind code ∷ ts) h = let none = none_unwinds ts h.0 in omega (arith, none)
one_unwinds p (_ ∷ ts) h = one_unwinds p ts h

-- over each method stand at most three tasks that are none, a session that goes with its server, and so over an unwinding and what it stands on
module _ (p : Image) (t : Typing) (depth : ℕ → ℕ) (cs : List Cell) (items : List Item) where
  abbrev Few : List Task → Type 0
  Few ts = length ts ≤ (4 * methods_in ts + 4 * unwindings_in ts + 4)

  abbrev RunUnder : List Layer → Type 0
  RunUnder ls = AllRunUnder p depth cs items (tasks_of ls)

  few_tasks : (back : Back) (ls : List Layer) → Stack p t cs back ls → RunUnder ls → Few (tasks_of ls)
  few_tasks back [] s r = omega arith
  few_tasks back (Method fr sh ∷ ls) s r = let few = few_tasks (Returns fr.method fr.receiver) ls s.4 r.1 in omega (arith, few)
  few_tasks back (Mark g ∷ []) s r = omega arith
  few_tasks back (Mark g ∷ Method fr sh ∷ ls) s r = let few = few_tasks (Returns fr.method fr.receiver) ls s.1.4 r.1 in omega (arith, few)
  few_tasks back (Mark g ∷ Dispatching d owned_chain ∷ ls) s r = grind (arith, nat_tests)
  few_tasks back (Dying o ∷ []) s r = omega arith
  few_tasks back (Dying o ∷ Method fr sh ∷ ls) s r = let few = few_tasks (Returns fr.method fr.receiver) ls s.2.4 r.1.1 in omega (arith, few)
  few_tasks back (Dying o ∷ Unwinding code es ∷ ls) s r = let few = few_tasks Leaves ls s.2.1 r.1 in omega (arith, few)
  few_tasks back (Dying o ∷ Dispatching d owned_chain ∷ ls) s r = grind (arith, nat_tests)
  few_tasks back (Dying o ∷ Ending x left ∷ Dying y ∷ []) s r = omega arith
  few_tasks back (Dying o ∷ Ending x left ∷ Dying y ∷ Method fr sh ∷ ls) s r = let few =
      few_tasks (Returns fr.method fr.receiver) ls s.2.3.2.4 r.1.1.1.1 in omega (arith, few)
  few_tasks back (Dying o ∷ Ending x left ∷ Dying y ∷ Unwinding code es ∷ ls) s r = let few = few_tasks Leaves ls s.2.3.2.1 r.1.1.1 in omega (arith, few)
  few_tasks back (Dying o ∷ Ending x left ∷ Dying y ∷ Dispatching d owned_chain ∷ ls) s r = grind (arith, nat_tests)
  few_tasks back (Ending x left ∷ Dying y ∷ []) s r = omega arith
  few_tasks back (Ending x left ∷ Dying y ∷ Method fr sh ∷ ls) s r = let few = few_tasks (Returns fr.method fr.receiver) ls s.3.2.4 r.1.1.1 in omega (arith, few)
  few_tasks back (Ending x left ∷ Dying y ∷ Unwinding code es ∷ ls) s r = let few = few_tasks Leaves ls s.3.2.1 r.1.1 in omega (arith, few)
  few_tasks back (Ending x left ∷ Dying y ∷ Dispatching d owned_chain ∷ ls) s r = grind (arith, nat_tests)
  few_tasks back (Unwinding code es ∷ ls) s r = let few = few_tasks Leaves ls s.1 r in omega (arith, few)
  few_tasks back (Dispatching d owned_chain ∷ ls) s r = subst (λ us. Few (tasks_of (Dispatching d owned_chain ∷ us))) (sym s.1) (omega arith)
  few_tasks back _ s r = absurd (assumption tt)

pub tasks_at_hand : (p : Image) (t : Typing) (depths : HasDepths p) (heights : ℕ → ℕ) (s : State) →
    WellTyped p t s → OnlyQuietRun p s.tasks → HasRoom p (at 0 depths.depths) heights s → length s.tasks ≤ 1036
tasks_at_hand p t depths heights s w is_calm room =
    let few = few_tasks p t (at 0 depths.depths) s.cells s.items Now w.layers w.good.stack
    (subst (AllRunUnder p (at 0 depths.depths) s.cells s.items) w.tasks room.runs) in
    let methods = few_methods (at 0 depths.depths) depths.are.within (tasks_of w.layers) (subst (AllUnder (at 0 depths.depths)) w.tasks room.under) in
    let one = one_unwinds p (tasks_of w.layers) (only_quiet_below p (tasks_of w.layers) (subst (OnlyQuietRun p) w.tasks is_calm)) in
    let same = ap length w.tasks in
    omega (arith, few, methods, one, same)

-- ---- marks

-- each trap lies over a method or over the dispatch
few_traps : (p : Image) (t : Typing) (cs : List Cell) (back : Back) (ls : List Layer) → Stack p t cs back ls → traps (tasks_of ls) ≤ suc (methods_in (tasks_of ls))
few_traps p t cs back [] s = omega arith
few_traps p t cs back (Method fr sh ∷ ls) s = let few = few_traps p t cs (Returns fr.method fr.receiver) ls s.4 in omega (arith, few)
few_traps p t cs back (Mark g ∷ []) s = omega arith
few_traps p t cs back (Mark g ∷ Method fr sh ∷ ls) s = let few = few_traps p t cs (Returns fr.method fr.receiver) ls s.1.4 in omega (arith, few)
few_traps p t cs back (Mark g ∷ Dispatching d owned_chain ∷ ls) s = grind (arith, nat_tests)
few_traps p t cs back (Dying o ∷ ls) s = few_traps p t cs Gone ls s.2
few_traps p t cs back (Ending o left ∷ ls) s = few_traps p t cs Now ls s.3
few_traps p t cs back (Unwinding code es ∷ ls) s = few_traps p t cs Leaves ls s.1
few_traps p t cs back (Dispatching d owned_chain ∷ ls) s = grind (arith, nat_tests)
few_traps p t cs back _ s = absurd (assumption tt)

-- the marks under the method that runs, of which there are as many as traps
marks_under : (p : Image) (t : Typing) (s : State) (fr : Frame) (ts : List Task) → WellTyped p t s → s.tasks ≡ Run fr ∷ ts → marks s.items ≤ suc (methods_in ts)
marks_under p t s fr ts w same = method_layer (Stack p t s.cells Now) fr ts w.layers (sym w.tasks ∙ same) w.good.stack (λ sh ls under h.
    let few = few_traps p t s.cells (Returns fr.method fr.receiver) ls h.4 in
    omega (arith, few, all_matched p t s w, ap traps same, ap traps under, ap methods_in under))

-- there is room for the mark of an instruction that calls a method
pub marks_at_hand : (p : Image) (t : Typing) → IsWired p → IsTyped p t → IsStrongest p t → (depths : HasDepths p) (heights : HasHeights p)
    (s : State) (fr : Frame) (ts : List Task) → WellTyped p t s → s.tasks ≡ Run fr ∷ ts → HasRoom p (at 0 depths.depths) (at 0 heights.heights) s
    → (i : Instr) (k : ℕ) → instr_at p fr.method fr.place ≡ Some i → IsSome (method_at p k) → ((sh : AbstractState) → Among k (callees p fr.method sh i))
    → marks s.items < 256
marks_at_hand p t wired typed strongest depths heights s fr ts w same room i k here there calls =
    let h = stands_here p t s fr ts w same in
    let all = subst (AllUnder (at 0 depths.depths)) same room.under in
    let few = few_under (at 0 depths.depths) depths.are.within (at 0 depths.depths fr.method) ts (depths.are.within fr.method) all.0 all.1 in
    let one = (depths.are.each k there).most 1 (alone there) in
    let less = may_call p t (at 0 depths.depths) (at 0 heights.heights) (tables_of p t wired strongest depths heights) fr h.shape h.there
    i k here (calls h.shape) in
    omega (arith, few, one, less, marks_under p t s fr ts w same)

-- ---- entries

-- there is room for what an instruction pushes that may leave
pub entries_at_hand : (p : Image) (t : Typing) → IsWired p → IsTyped p t → IsStrongest p t → (depths : HasDepths p) (heights : HasHeights p)
    (s : State) (fr : Frame) (ts : List Task) → WellTyped p t s → s.tasks ≡ Run fr ∷ ts → HasRoom p (at 0 depths.depths) (at 0 heights.heights) s
    → (i : Instr) (news : News) → instr_at p fr.method fr.place ≡ Some i → ways_of p i ≡ Goes_on news
    → ((sh : AbstractState) → AllTrue (rule_needs p fr.method fr.place sh i) → leaves p fr.method ≡ true)
    → ((sh : AbstractState) → length (after p fr.method fr.place sh news).entries ≡ suc (length sh.entries)) → entries_in s.items < 1024
entries_at_hand p t wired typed strongest depths heights s fr ts w same room i news here goes leave more =
    let h = stands_here p t s fr ts w same in
    let x = typed.each fr.method fr.place h.shape h.there in
    let it : x.instr ≡ i = same_Some x.instr i (sym x.stands ∙ here) in
    let needs = subst (λ j. AllTrue (rule_needs p fr.method fr.place h.shape j)) it x.needs in
    let all_lead = subst (λ j. AllLead t fr.method (flows p fr.method fr.place h.shape j)) it x.flows in
    let leads = subst (λ v. AllLead t fr.method (flowing p fr.method fr.place h.shape v)) goes all_lead in
    let roomy = subst (λ l. Roomy p (at 0 depths.depths) (at 0 heights.heights) s.cells s.items l) same (room.under, room.runs, room.fit, room.entries) in
    let few = pushes p t (at 0 depths.depths) (at 0 heights.heights) (tables_of p t wired strongest depths heights)
    (record { name = 0; refused = false; answer = pos 0 }) fr ts s w.undo_operations same h (none_going_there p t s w (length (Run fr ∷ ts)) (ap length same)) roomy
    (line_goes p t wired s w fr ts same) i (after p fr.method fr.place h.shape news) here (leave h.shape needs) leads.0 (more h.shape) in
    omega (arith, few)
