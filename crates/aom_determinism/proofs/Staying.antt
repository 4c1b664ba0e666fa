-- What clients and the dispatch at hand say stays of cells that are there: as a run begins, in each move by the task at hand, and in each turn.
use Rattle.std.proofs.lemmas.Bool.Decides.{nat_tests}
use Rattle.aom_determinism.proofs.SafetyLemmas.{Alike, IsAnswer, IsCompleting, IsFit, IsFound, Polled, Steady, answers, commanded_kept, fine_effect, fit_steady, goes_same}
use Rattle.aom_determinism.proofs.SafetyLemmas.{guarded_goes, guarded_met, message_plain, nothing, on_none, polled_so, redeemed_by_alike, same_detached}
use Rattle.aom_determinism.proofs.SafetyLemmas.{same_requested, serving_plain, stands_message, steady_redeemed, turning_found, waiting_well}
use Rattle.aom_semantics.specs.Places.{Elsewhere, Session}
use Rattle.aom_semantics.specs.Tokens.{redeemed_by, token_of}
use Rattle.std.proofs.Common.{arith, List, None, Option, Some, [], ap, false, length, refl, subst, sym, true, ℕ, ℤ, ⊎_elim, ◌∙◌, ◌∷◌, ◌≡◌}
use Rattle.aom_image.specs.Image.{Image}
use Rattle.aom_image.specs.Views.{instr_at}
use Rattle.aom_image.specs.declared.method.Gives.{Gives}
use Rattle.aom_image.specs.declared.method.Thing.TheVariants.{Message}
use Rattle.aom_clients.specs.declared.client.Client.{Client}
use Rattle.aom_instructions.specs.declared.instr.Instr.{Instr}
use Rattle.aom_roles.specs.Tests.{AllTrue}
use Rattle.aom_typing_rules.specs.Typing.{Typing}
use Rattle.aom_semantics.specs.Destruction.{gone, needs_gone, reclaimed}
use Rattle.aom_semantics.specs.Effects.{Change, Effect, Goes_on, Replied, Returns, Update, applied, effect, needs}
use Rattle.aom_semantics.specs.Requests.{completed_with, recorded, timed_out}
use Rattle.aom_safety.specs.Kept.{StateInvariant}
use Rattle.aom_safety.specs.Laws.{IsWired}
use Rattle.aom_semantics.specs.Moves.{counted, needs_end, step_instr, step_task}
use Rattle.aom_semantics.specs.Natives.{all_detached}
use Rattle.aom_semantics.specs.Objects.{is_thing}
use Rattle.aom_semantics.specs.Places.{Cell, Going, Object, Request, held, named, without}
use Rattle.aom_semantics.specs.Servers.{is_server, without_queue}
use Rattle.aom_semantics.specs.State.{Choice, Closing, Destroy, Dispatched, Frame, Goes, Run, State, Task, Trapped, Unwind}
use Rattle.aom_safety.specs.WellTyped.{WellTyped}
use Rattle.aom_semantics.specs.Words.{here}
use Rattle.aom_semantics.specs.World.{Completes, Kills, Executes, Picks, Polls, Strays, Turning, observed_one, turned, turning, with_request}
use Rattle.aom_determinism.proofs.Remaining.{AllWait, all_wait, closing_there, dispatch_there, gone_apart, plain_there}
use Rattle.aom_determinism.proofs.Keeping.{unchanged_calls_ended, there_by, UnchangedCalls, unchanged_calls_along, unchanged_calls_steady}
use Rattle.aom_determinism.proofs.Moving.{dispatch_resumed, effect_there, returned_there, unwound_there}
use Rattle.aom_determinism.proofs.Asking.{commanded_waits, picked_there, same_waits}
use Rattle.aom_determinism.proofs.Reclaiming.{unchanged_calls_without, there_reclaimed}
use Rattle.aom_determinism.specs.Determined.{AllStaysThere}
use Rattle.aom_determinism.specs.There.{AllThere, AreThere, dispatch_of}

-- ---- as it boots

-- ---- each move

module _ (p : Image) (t : Typing) (wired : IsWired p) (c : Choice) (s : State) (w : WellTyped p t s) (free : named s.cells c.name ≡ None) (kept : StateInvariant p s)
    (there : AllThere s) where
  module _ (fr : Frame) (ts : List Task) (tasks : s.tasks ≡ Run fr ∷ ts) where
    below : AreThere s.clients s.cells (dispatch_of ts)
    below = subst (λ l. AreThere s.clients s.cells (dispatch_of l)) tasks there

    -- a message is completed
    reply_there : (ch : Change) (a : ℕ) (code : ℤ) → is_thing p Message (held s.cells (here fr ts s a)) ≡ true →
        AllThere (applied p fr ts (counted p s) (Goes_on (record ch { update = Replied a code })))
    reply_there ch a code met = there_by s.clients s.cells (dispatch_of ts) s.clients _ _ refl unchanged_calls refl below
      where
        plain : (o : Object) → held s.cells (here fr ts s a) ≡ Some o → is_server p o.thing ≡ false
        plain o e = message_plain p o.thing (stands_message p o.thing (sym (ap (is_thing p Message) e) ∙ met))

        order : Option ℕ
        order = token_of s.cells (held s.cells (here fr ts s a))

        cs : List Cell
        cs = redeemed_by order code s.cells

        like : Alike s.cells cs
        like = redeemed_by_alike order code s.cells

        still : Steady s.cells cs
        still = steady_redeemed order code s.cells

        unchanged_calls : UnchangedCalls s.cells (without (here fr ts s a) cs)
        unchanged_calls = unchanged_calls_along s.cells cs (without (here fr ts s a) cs) (unchanged_calls_steady s.cells cs still (λ n c. like.held_so (Elsewhere (Session n c))))
            (unchanged_calls_without p s.clients cs (like.no_duplicates w.good.no_duplicates)
            (fit_steady p s.clients s.cells cs still kept.fit) (here fr ts s a) (λ n c. refl) (λ o e. plain o (sym (like.held_so (here fr ts s a)) ∙ e)))

    -- a method returns
    returns_there : (g : Gives) (a : ℕ) → AllThere (applied p fr ts (counted p s) (Returns g a))
    returns_there g a = grind (arith, nat_tests, there_by s.clients s.cells, unchanged_calls_ended p fr s.cells, below, returned_there p fr ts)

    completed_there : (ch : Change) (u : Update) → IsCompleting p fr ts (counted p s) u → AllThere (applied p fr ts (counted p s) (Goes_on (record ch { update = u })))
    completed_there ch (Replied a code) met = reply_there ch a code met
    completed_there ch _ met = absurd met

    answer_there : (e : Effect) → IsAnswer p fr ts (counted p s) e → AllThere (applied p fr ts (counted p s) e)
    answer_there (Goes_on ch) met = completed_there ch ch.update met
    answer_there (Returns g a) met = returns_there g a
    answer_there _ met = absurd met

    act_there : (i : Instr) → AllTrue (needs p c fr ts (counted p s) i) → AllThere (applied p fr ts (counted p s) (effect p c fr ts (counted p s) i))
    act_there i met =
        ⊎_elim (effect_there p fr ts (counted p s) below (effect p c fr ts (counted p s) i)) (answer_there (effect p c fr ts (counted p s) i))
        (fine_effect p c fr ts (counted p s) free i met)

    run_there : (i : Option Instr) (u : State) → step_instr p c fr ts (counted p s) i ≡ Goes u → AllThere u
    run_there None u e = cc
    run_there (Some i) u e =
        subst AllThere (guarded_goes (needs p c fr ts (counted p s) i) _ u e) (act_there i (guarded_met (needs p c fr ts (counted p s) i) _ u e))

  gone_there : (ts : List Task) (u : State) → s.tasks ≡ Destroy ∷ ts → (o : Option Object) → held s.cells (Going (length ts)) ≡ o →
      gone o ts (counted p s) ≡ Goes u → AllThere u
  gone_there ts u tasks None at e = cc
  gone_there ts u tasks (Some o) at e =
      let before = rw tasks at there in
      let after = there_reclaimed p s.clients s.cells w.good.no_duplicates kept.fit (waiting_well p t wired s w) (length ts) o at (dispatch_of ts)
      (gone_apart p t s w ts tasks o at) before in
      let then = reclaimed o ts (counted p s) in
      subst AllThere (guarded_goes (needs_gone (without_queue o.name s.cells) o) (reclaimed o ts (counted p s)) u e) (rw (dispatch_resumed ts) after)

  -- what is counted is no matter of types
  counted_well : WellTyped p t (counted p s)
  counted_well = record { layers = w.layers; tasks = w.tasks; items = w.items; undo_operations = w.undo_operations; good = w.good }

  moved_there : (ts : List Task) → s.tasks ≡ ts → (u : State) → step_task p c (counted p s) ts ≡ Goes u → AllThere u
  moved_there [] tasks u e = subst AllThere (goes_same _ u e) there
  moved_there (Run fr ∷ ts) tasks u e = run_there fr ts tasks (instr_at p fr.method fr.place) u e
  moved_there (Trapped ∷ ts) tasks u e = cc
  moved_there (Destroy ∷ ts) tasks u e = gone_there ts u tasks (held s.cells (Going (length ts))) refl e
  moved_there (Closing ∷ ts) tasks u e = closing_there p t (counted p s) counted_well there ts u tasks e
  moved_there (Unwind code ∷ ts) tasks u e = grind (arith, nat_tests, unwound_there)
  moved_there (Dispatched d ∷ ts) tasks u e = subst AllThere
      (guarded_goes (needs_end d s.cells) _ u e) (dispatch_there p t s w kept.fit (serving_plain p t s w) d ts tasks there (counted p s) refl refl)

-- ---- each turn

module _ (p : Image) (t : Typing) (wired : IsWired p) (s : State) (w : WellTyped p t s) (idle : s.tasks ≡ []) (kept : IsFit p s) (there : AllThere s) where
  waiting : AllWait s.clients s.cells
  waiting = all_wait s.clients s.cells None (λ n c. refl) (subst (λ l. AreThere s.clients s.cells (dispatch_of l)) idle there)

  -- nothing is at hand then, and each client that connects waits
  by_idle : (clients : List Client) (cs : List Cell) (ts : List Task) → ts ≡ [] → AllWait clients cs → AreThere clients cs (dispatch_of ts)
  by_idle clients cs ts none all = subst (λ l. AreThere clients cs (dispatch_of l)) (sym none) (plain_there clients cs None tt all)

  requested_there : (f : Request → Request) (o : Object) → AllWait s.clients (with_request f o s.cells)
  requested_there f o = grind (arith, nat_tests, same_waits s.clients s.cells, same_requested s.cells o, on_none f, waiting)

  turned_there : (k : Turning) → IsFound p t wired s w idle kept k → (u : State) → turned p s k ≡ Goes u → AllThere u
  turned_there (Completes o) f u e = subst AllThere (goes_same _ u e) (by_idle s.clients _ s.tasks idle (requested_there timed_out o))
  turned_there (Kills n) f u e = subst AllThere (goes_same _ u e)
      (by_idle s.clients _ s.tasks idle (same_waits s.clients s.cells (all_detached p n s.cells) (same_detached p n s.cells) waiting))
  turned_there (Polls n answer) f u e = go u (polled_so p s u n answer e)
    where
      go : (u : State) → Polled n s u → AllThere u
      go u d = elim d as (λ v d. AllThere v) [
        | nothing ↦ by_idle s.clients s.cells s.tasks idle waiting
        | answers o code ↦ by_idle s.clients (with_request (completed_with (recorded code)) o s.cells) s.tasks idle
            (requested_there (completed_with (recorded code)) o)
      ]
  turned_there (Executes client command name) f u e =
      subst AllThere (goes_same _ u e) (by_idle _ _ _ ((commanded_kept p client (observed_one s) command name).1 ∙ idle)
      (commanded_waits p client (observed_one s) w.good.no_duplicates kept.fit (waiting_well p t wired s w) waiting command name f))
  turned_there (Picks x) f u e = picked_there p s u waiting x f.0 e
  turned_there Strays f u e = cc
  turned_there _ f u e = subst AllThere (goes_same _ u e) (by_idle s.clients s.cells s.tasks idle waiting)

pub all_stays_there : AllStaysThere
all_stays_there = record {
  boot = grind arith;
  moves = λ p t wired typed c s u w free kept there e. moved_there p t wired c s w free kept there s.tasks refl u e;
  turns = λ p t outside wired typed observed s u w between observes kept there e.
      let fit : IsFit p s = record { fit = kept.fit; stage = kept.stage } in
      turned_there p t wired s w between.idle fit there (turning outside observed s) (turning_found p t wired s w between.idle fit outside observed observes.name) u e;
}
