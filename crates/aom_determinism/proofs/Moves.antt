-- Each move tells what the call does that it makes: instructions on requests and sessions, the going of a cell, and all others, which make none.
use Rattle.std.proofs.lemmas.Bool.Decides.{nat_tests}
use Rattle.aom_image.specs.declared.class.ClassKind.{ClassKind}
use Rattle.aom_determinism.proofs.SemanticsLemmas.{held_lives, named_name, read_kept, sessions, tidy_without}
use Rattle.aom_determinism.proofs.SafetyLemmas.{acted, all_parts, by_exchange, dispatch_layer, guarded_goes, guarded_met, method_layer, none_wanted}
use Rattle.aom_determinism.proofs.SafetyLemmas.{redeemed_by_alike, redeemed_good, redeeming, requested_redeemed, request_updated_alike, stands_message}
use Rattle.aom_determinism.proofs.SafetyLemmas.{steps_are_moves}
use Rattle.aom_semantics.specs.Tokens.{is_message_store_full, redeemed_by, token_of}
use Rattle.std.proofs.Common.{Bool, List, None, Option, Some, ap, cond, false, length, refl, subst, sym, true, ℕ, ℤ, ◌&&◌, ◌==◌, ◌∙◌, ◌∷◌, ◌≡◌, pos, arith}
use Rattle.std.proofs.lemmas.Bool.{not-true, and_right, eqb-true}
use Rattle.std.specs.Prelude.{not}
use Rattle.aom_image.specs.Image.{Image}
use Rattle.aom_image.specs.Views.{gives_of, instr_at}
use Rattle.aom_instructions.specs.declared.instr.Instr.{Instr}
use Rattle.aom_instructions.specs.declared.instr.Instr.TheVariants.{Or}
use Rattle.aom_determinism.proofs.Calls.{IsAlive, Reported, abort_reported, alive_in, at_it, found, ask_reported, asked_same, close_reported, connect_reported, ended_same}
use Rattle.aom_determinism.proofs.Calls.{issue_reported, sessions_after, sessions_along, taken_off, reported_along, reported_before, reported_none, still}
use Rattle.aom_determinism.proofs.Cells.{Unchanged, meets_gone, owes_gone, served_none, unchanged_along, unchanged_itself}
use Rattle.aom_determinism.proofs.Cells.{unchanged_moved, unchanged_alike, unchanged_asked, unchanged_new}
use Rattle.aom_determinism.proofs.Effects.{IsAside, applied_killed, applied_unchanged, returned_unchanged}
use Rattle.aom_determinism.proofs.Requests.{cancelling_owed, none_owed, rests_owed, waits_owed}
use Rattle.aom_determinism.specs.Laws.{FollowsCall, MovesFollowCalls}
use Rattle.aom_determinism.specs.Owed.{SessionsHold, meets, owes, serves, serves_object}
use Rattle.aom_typing_rules.specs.Typing.{Typing}
use Rattle.aom_semantics.specs.Calls.{needs_return, returned}
use Rattle.aom_safety.specs.Claims.{Dispatching, Layer}
use Rattle.aom_semantics.specs.Destruction.{reclaimed, gone, is_at_rest, needs_gone}
use Rattle.aom_semantics.specs.Effects.{Effect, Leaves, Replied, Same, applied, cancels_if, deals, deletes, effect}
use Rattle.aom_semantics.specs.Effects.{makes_unless, round, sets, unless_refused, updates, cells_after, hands_unless}
use Rattle.aom_semantics.specs.Requests.{cancel_method, ended_cells, in_phase, is_active, next_timer}
use Rattle.aom_semantics.specs.Requests.{own_request, thing_kind, receiver_kind, request_updated}
use Rattle.aom_semantics.specs.Moves.{stage_ends, answered, counted, dispatch_ends, handled, main_ends, needs, object_ends, step, step_task}
use Rattle.aom_semantics.specs.Natives.{is_owed, native_of}
use Rattle.aom_semantics.specs.Places.{In_service, NoDuplicates, Cell, Elsewhere, Going, Object}
use Rattle.aom_semantics.specs.Places.{Root, held, in_session, named, requested, without, Request}
use Rattle.aom_semantics.specs.State.{Service_left, Of_server, Stage, OwnedObject, Answered, Asks, Choice, Destroy, Dispatch, Frame}
use Rattle.aom_semantics.specs.State.{Goes, Receiver, Item, Object_left, Of_main, Of_object, Run, State, Task}
use Rattle.aom_safety.specs.Steps.{Empties, Acts, Arrives, Clears, Comes_out, Ends, Fits, Move, Rests, Undoes, Reclaims}
use Rattle.aom_semantics.specs.NativeCall.{Exchange, Nothing, exchange, exchange_at, Closes, wanted, wanted_by, wanted_going, wanted_gone, wanted_if, wanted_task}
use Rattle.aom_safety.specs.WellTyped.{Good, WellTyped}
use Rattle.aom_semantics.specs.Servers.{without_queue}
use Rattle.aom_semantics.specs.Words.{here}
use Rattle.aom_semantics.specs.Objects.{is_thing}
use Rattle.aom_image.specs.declared.method.Thing.TheVariants.{Message}
use Rattle.aom_roles.specs.Tests.{AllTrue}
use Rattle.aom_roles.specs.Kinds.{is_token_kind}
use Rattle.aom_determinism.proofs.Services.{serves_unqueued, unchanged_slot_released, unchanged_served, session_unqueued}
use Rattle.aom_determinism.proofs.Services.{unchanged_completed, going_unqueued, tidy_unqueued, unchanged_unqueued}

-- ---- what tokens complete

pub token_served : (k : Option ClassKind) → is_token_kind k ≡ true → native_of k ≡ None
token_served k e = grind arith

-- no native serves what waits for a token
unchanged_redeemed : (p : Image) (t : Typing) (cs : List Cell) (ls : List Layer) → Good p t cs ls → (order : Option ℕ) (code : ℤ) →
    Unchanged p cs (redeemed_by order code cs)
unchanged_redeemed p t cs ls good None code = unchanged_itself p cs
unchanged_redeemed p t cs ls good (Some order) code = search (
  arith,
  nat_tests,
  redeemed_by_alike (Some order) code cs,
  named_name cs,
  served_none p,
  requested_redeemed order code cs,
  read_kept (redeeming order code) sessions,
  redeeming order code,
  sessions,
)

-- ---- an instruction

module _ (p : Image) (t : Typing) (c : Choice) (fr : Frame) (ts : List Task) (s : State)
    (ls : List Layer) (good : Good p t s.cells ls) (holds : SessionsHold p s) (alive : IsAlive s.cells fr.receiver) (unused : named s.cells c.name ≡ None) where
  -- the cells after an instruction
  abbrev after : Instr → List Cell
  after i = (applied p fr ts (counted p s) (effect p c fr ts (counted p s) i)).cells

  abbrev Reports : Exchange → Instr → Type 0
  Reports x i = Reported p c.answer s (wanted_by s p fr ts fr.receiver x) (after i)

  -- one that makes no call
  silent : (i : Instr) → Unchanged p s.cells (after i) → Reports Nothing i
  silent i same = subst (λ w. Reported p c.answer s w (after i)) (sym (none_wanted p s fr ts fr.receiver)) (reported_none p c.answer s _ same)

  aside : (i : Instr) → IsAside c.name (effect p c fr ts (counted p s) i) → Reports Nothing i
  aside i h = silent i (applied_unchanged p fr ts (counted p s) c.name unused (effect p c fr ts (counted p s) i) h)

  -- the effects that a test decides
  round_aside : (n depth to : ℕ) → IsAside c.name (round n depth to)
  round_aside x depth to = grind arith

  deletes_aside : (o : Option Object) (a : ℕ) → IsAside c.name (deletes fr o a)
  deletes_aside x a = grind arith

  deals_aside : (items : List Item) (o : Option Object) → IsAside c.name (deals fr items o)
  deals_aside x o = grind arith

  makes_aside : (b : Bool) (x a : ℕ) → IsAside c.name (sets fr a None (makes_unless b c.name x a))
  makes_aside x y a = grind arith

  refused_aside : (b : Bool) (off : _) (e : Effect) → IsAside c.name (Leaves (pos 0) off) → IsAside c.name e → IsAside c.name (unless_refused b off e)
  refused_aside x off e left on = grind arith

  leaves_aside : (b : Bool) (code : ℤ) → IsAside c.name (cond b (Leaves code Same) (updates fr Same))
  leaves_aside x code = grind arith

  cancels : (b : Bool) → in_phase is_active (own_request s.cells fr.receiver) ≡ b → (m : Option ℕ) →
      Unchanged p s.cells (applied p fr ts (counted p s) (cancels_if fr b m)).cells
  cancels x e m = grind (arith, nat_tests, asked_same p c.answer s fr.receiver, cancelling_owed, unchanged_itself p s.cells)

  returns : (a : ℕ) → AllTrue (needs_return p fr ts (counted p s) a) →
      Unchanged p s.cells (returned p fr ts (record (counted p s) { cells = ended_cells p fr s.cells }) (gives_of p fr.method) a ts).cells
  returns a met = grind (arith, nat_tests, all_parts, unchanged_along p s.cells, ended_same p c.answer s fr ts, returned_unchanged p fr ts)

  is_message : (a : ℕ) (x : Object) → held s.cells (here fr ts (counted p s) a) ≡ Some x →
      is_thing p Message (held s.cells (here fr ts (counted p s) a)) ≡ true → x.thing ≡ Message
  is_message a x there thing = stands_message p x.thing (sym (ap (is_thing p Message) there) ∙ thing)

  -- the request of an object that hands tokens is owed by no native
  handing : (h : Receiver) → IsAlive s.cells h → is_token_kind (receiver_kind p h) ≡ true → (r : Option Request) → Unchanged p s.cells (request_updated s.cells h r)
  handing x living kind r = grind (arith, nat_tests, unchanged_itself p s.cells, unchanged_asked p s.cells, still p c.answer s, token_served)

  hands : (b : Bool) (a : ℕ) → is_token_kind (receiver_kind p fr.receiver) ≡ true →
      Unchanged p s.cells (cells_after p fr ts (counted p s) (hands_unless b c.name a (own_request s.cells fr.receiver)))
  hands x a kind = grind (
    arith,
    nat_tests,
    handing fr.receiver alive kind,
    unchanged_along p s.cells,
    unchanged_along p,
    unchanged_new p c.name Message,
    request_updated_alike s.cells fr.receiver,
    unchanged_alike p,
  )

  -- the message that a reply completes was held by a register
  replies : (a : ℕ) (code : ℤ) → is_thing p Message (held s.cells (here fr ts (counted p s) a)) ≡ true →
      Unchanged p s.cells (cells_after p fr ts (counted p s) (Replied a code))
  replies a code thing =
      let order = token_of s.cells (held s.cells (here fr ts (counted p s) a)) in
      let cs = redeemed_by order code s.cells in
      unchanged_along p s.cells cs _ (unchanged_redeemed p t s.cells ls good order code)
      (unchanged_completed p t cs ls (redeemed_good p t order code s.cells ls good) (here fr ts (counted p s) a)
      (λ x there. is_message a x (sym ((redeemed_by_alike order code s.cells).held_so (here fr ts (counted p s) a)) ∙ there) thing))

  silently : (i : Instr) → exchange i ≡ Nothing → AllTrue (needs p c fr ts (counted p s) i) → Reports Nothing i
  silently (Or a b x) none met = aside (Or a b x) tt
  -- the others too, each a case of its own
  silently i none met = first_of (
    -- most leave all as it is, whatever a test of theirs decides
    grind (arith, nat_tests, aside i, round_aside, deletes_aside, deals_aside, makes_aside, refused_aside, leaves_aside),
    -- and some change a request that no native owes an answer
    grind (arith, nat_tests, silent i, asked_same p c.answer s fr.receiver, none_owed, waits_owed, hands (is_message_store_full p s.cells)),
    search (silent i, cancels (in_phase is_active (own_request s.cells fr.receiver)) refl (cancel_method p fr), returns, replies),
  )

  reports : (i : Instr) → AllTrue (needs p c fr ts (counted p s) i) → Reports (exchange i) i
  reports = by_exchange (λ i x. AllTrue (needs p c fr ts (counted p s) i) → Reports x i) (λ a met. connect_reported p c.answer s fr ts holds fr.receiver alive)
      (λ a b met. issue_reported p c.answer s fr ts holds s.rest.clock (next_timer s.cells) a b fr.receiver alive met.1.1.1.1.0)
      (λ a b x met. ask_reported p c.answer s fr ts holds b x fr.receiver alive) (λ met. abort_reported p c.answer s fr ts holds fr.receiver alive)
      (λ met. close_reported p c.answer s fr ts holds fr.receiver alive (not-true (is_owed (own_request s.cells fr.receiver)) met.1.0)) silently

-- ---- the going of a cell

module _ (p : Image) (answer : ℤ) (s : State) (holds : SessionsHold p s) (no_duplicates : NoDuplicates s.cells) (k : ℕ) (o : Object) (there : held s.cells (Going k) ≡ Some o)
    (rests : is_at_rest (requested s.cells o.name) ≡ true) where
  lives : named s.cells o.name ≡ Some o
  lives = held_lives s.cells (Going k) o no_duplicates there

  unowed : is_owed (requested s.cells o.name) ≡ false
  unowed = rests_owed (requested s.cells o.name) rests

  -- what does not hold of the cell that goes holds of the others as before
  others : (f : ℕ → Bool) (m : ℕ) → f o.name ≡ false → (not (o.name == m) && f m) ≡ f m
  others f m e = grind (arith, nat_tests, eqb-true o.name m)

  owes_so : (n m : ℕ) → owes p (without (Going k) s.cells) n m ≡ owes p s.cells n m
  owes_so n m = owes_gone p s.cells (Going k) o no_duplicates there n m ∙ others (λ x. owes p s.cells n x) m (and_right (serves p s.cells n o.name) _ unowed)

  unmet : ((n : ℕ) → meets p s.cells n o.name ≡ false) → Reported p answer s None (without (Going k) s.cells)
  unmet e = record { finds = tt; owes = owes_so; meets = λ n m. meets_gone p s.cells (Going k) o no_duplicates there n m ∙ others (λ x. meets p s.cells n x) m (e n) }

  ends_session : (n : ℕ) → native_of (thing_kind p o.thing) ≡ Some n → (b : Bool) → in_session s.cells o.name ≡ b →
      Reported p answer s (wanted_if b (Closes n o.name)) (without (Going k) s.cells)
  ends_session n native false met = unmet (λ j. and_right (serves p s.cells j o.name) _ met)
  ends_session n native true met = record {
    finds = found p answer s holds o lives n native true false (alive_in p answer s holds o lives n native met) met unowed;
    owes = owes_so;
    meets = λ j m. meets_gone p s.cells (Going k) o no_duplicates there j m ∙ not_cond (o.name == m) (meets p s.cells j m)
        ∙ taken_off (λ x. meets p s.cells j x) o.name m (n == j) true false (at_it p answer s holds o lives n native j _ true met) refl;
  }
    where
      not_cond : (b x : Bool) → (not b && x) ≡ cond b false x
      not_cond x y = grind arith

  goes_reported : Reported p answer s (wanted_gone s p (Some o)) (without (Going k) s.cells)
  goes_reported = go (native_of (thing_kind p o.thing)) refl
    where
      go : (x : Option ℕ) → native_of (thing_kind p o.thing) ≡ x → Reported p answer s (wanted_going s o x) (without (Going k) s.cells)
      go None native = unmet (λ j. ap (λ b. b && in_session s.cells o.name) (ap (λ y. serves_object p j y) lives ∙ served_none p j o.thing native))
      go (Some n) native = ends_session n native (in_session s.cells o.name) refl

-- ---- the end of a dispatch

main_unchanged : (p : Image) (b : Bool) (root : Option Object) (s : State) → Unchanged p s.cells (main_ends p b root s).cells
main_unchanged p x root s = grind (arith, nat_tests, unchanged_moved p s.cells (Elsewhere Root), unchanged_itself p s.cells)

main_killed : (p : Image) (b : Bool) (root : Option Object) (s : State) → (main_ends p b root s).killed ≡ s.killed
main_killed p x root s = grind arith

-- it changes nothing that is outstanding, and kills no native
abbrev IsUnchangedCalls : Image → State → State → Type 0
IsUnchangedCalls p s u = Unchanged p s.cells u.cells × (u.killed ≡ s.killed)

object_unchanged_calls : (p : Image) (s : State) → IsUnchangedCalls p s (object_ends p s)
object_unchanged_calls p s = (main_unchanged p s.rest.stopped (held s.cells (Elsewhere Root)) (handled s), grind (arith, nat_tests, main_killed))

answer_unchanged_calls : (p : Image) (answer : ℤ) (s : State) → IsUnchangedCalls p s (answered p answer s)
answer_unchanged_calls p answer s = grind (arith, nat_tests, object_unchanged_calls p s, unchanged_itself p s.cells)

module _ (p : Image) (t : Typing) (s : State) where
  -- what a service has left is a message
  stage_unchanged_calls : (x : OwnedObject) (client : ℕ) (stage : Stage) (owned_chain : List OwnedObject) (below : List Layer) →
      Good p t s.cells (Dispatching (Of_server x client stage) owned_chain ∷ below) → IsUnchangedCalls p s (stage_ends x client stage s)
  stage_unchanged_calls x client (Service_left code) owned_chain below good =
      (unchanged_completed p t s.cells (Dispatching (Of_server x client (Service_left code)) owned_chain ∷ below) good (Elsewhere In_service) (grind (arith, nat_tests, stands_message)), refl)
  stage_unchanged_calls x client y owned_chain below good = grind (arith, nat_tests, unchanged_served p s.cells x.object.name, unchanged_itself p s.cells)

  end_unchanged_calls : (d : Dispatch) (owned_chain : List OwnedObject) (below : List Layer) → Good p t s.cells (Dispatching d owned_chain ∷ below) → IsUnchangedCalls p s (dispatch_ends p d s)
  end_unchanged_calls Of_main owned_chain below good =
      (main_unchanged p s.rest.stopped (held s.cells (Elsewhere Root)) s, main_killed p s.rest.stopped (held s.cells (Elsewhere Root)) s)
  end_unchanged_calls (Of_object x) owned_chain below good = object_unchanged_calls p s
  end_unchanged_calls (Object_left x code) owned_chain below good = grind (arith, nat_tests, answer_unchanged_calls p code s, unchanged_itself p s.cells)
  end_unchanged_calls (Asks x) owned_chain below good = object_unchanged_calls p s
  end_unchanged_calls (Answered x answer) owned_chain below good = answer_unchanged_calls p answer s
  end_unchanged_calls (Of_server x client stage) owned_chain below good = stage_unchanged_calls x client stage owned_chain below good
  end_unchanged_calls _ owned_chain below good = (unchanged_itself p s.cells, refl)

-- ---- any move

-- what a frame works on is the cell of its name
module _ (p : Image) (t : Typing) (c : Choice) (s u : State) (w : WellTyped p t s) (unused : named s.cells c.name ≡ None) (holds : SessionsHold p s)
    (e : step p c s ≡ Goes u) where
  abbrev Tale : Type 0
  Tale = Reported p c.answer s (wanted p s) u.cells × (u.killed ≡ s.killed)

  -- a move that makes no call
  without_calls : (v : State) → u ≡ v → wanted p s ≡ None → IsUnchangedCalls p s v → Tale
  without_calls v same none unchanged_calls = (
    grind (arith, nat_tests, Reported p c.answer s, Reported p c.answer s None, reported_none p c.answer s v.cells unchanged_calls.0),
    ap (λ (x : State). x.killed) same ∙ unchanged_calls.1,
  )

  of_method : (fr : Frame) (ts : List Task) (i : Instr) → s.tasks ≡ Run fr ∷ ts → instr_at p fr.method fr.place ≡ Some i → Tale
  of_method fr ts i at there = (reported, ap (λ (x : State). x.killed) acts.2 ∙ applied_killed p fr ts (counted p s) (effect p c fr ts (counted p s) i))
    where
      acts : AllTrue (needs p c fr ts (counted p s) i) × Fits p c fr ts (counted p s) i (effect p c fr ts (counted p s) i)
          × (u ≡ applied p fr ts (counted p s) (effect p c fr ts (counted p s) i))
      acts = acted p c (counted p s) u fr ts i (grind (arith, nat_tests))

      alive : IsAlive s.cells fr.receiver
      alive = method_layer (λ ls. Good p t s.cells ls) fr ts w.layers (sym w.tasks ∙ at) w.good (λ sh below _ good. grind arith)

      reported : Reported p c.answer s (wanted p s) u.cells
      reported = subst (λ l. Reported p c.answer s (wanted_task s p l) u.cells) (sym at)
          (subst (λ x. Reported p c.answer s (wanted_by s p fr ts fr.receiver (exchange_at x)) u.cells) (sym there) (subst (λ (x : State). Reported p c.answer s
          (wanted_by s p fr ts fr.receiver (exchange i)) x.cells) (sym acts.2) (reports p t c fr ts s w.layers w.good holds alive unused i acts.0)))

  of_going : (ts : List Task) (o : Object) → s.tasks ≡ Destroy ∷ ts → held s.cells (Going (length ts)) ≡ Some o → Tale
  of_going ts o at there = (reported, sym (ap (λ (x : State). x.killed) after))
    where
      -- once what waits in its queue is gone
      less : State
      less = record s { cells = without_queue o.name s.cells }

      goes : gone (Some o) ts (counted p s) ≡ Goes u
      goes = subst (λ x. gone x ts (counted p s) ≡ Goes u) there (subst (λ l. step_task p c (counted p s) l ≡ Goes u) at e)

      after : reclaimed o ts (counted p s) ≡ u
      after = guarded_goes (needs_gone less.cells o) _ u goes

      unqueued : Reported p c.answer less (wanted_gone less p (Some o)) (without (Going (length ts)) less.cells)
      unqueued = goes_reported p c.answer less (sessions_along p s less (unchanged_unqueued p t s.cells w.layers w.good o.name) refl holds)
          (tidy_unqueued p t s.cells w.layers w.good o.name) (length ts) o
          (going_unqueued p t s.cells w.layers w.good o.name (length ts) o there) (guarded_met (needs_gone less.cells o) _ u goes).1.1.0

      same_call : wanted_gone less p (Some o) ≡ wanted_gone s p (Some o)
      same_call = go (native_of (thing_kind p o.thing))
        where
          go : (x : Option ℕ) → wanted_going less o x ≡ wanted_going s o x
          go None = refl
          go (Some n) = ap (λ b. wanted_if b (Closes n o.name)) (session_unqueued p t s.cells w.layers w.good o.name (length ts) o there)

      reported : Reported p c.answer s (wanted p s) u.cells
      reported = subst (λ l. Reported p c.answer s (wanted_task s p l) u.cells) (sym at) (subst (λ x. Reported p c.answer s (wanted_gone s p x) u.cells)
          (sym there) (subst (λ (x : State). Reported p c.answer s (wanted_gone s p (Some o)) x.cells) after (reported_along p c.answer s
          (wanted_gone s p (Some o)) _ _ (grind (arith, nat_tests, unchanged_slot_released, tidy_without, tidy_unqueued)) (subst (λ x. Reported p c.answer s x
          (without (Going (length ts)) less.cells)) same_call (reported_before p c.answer s less (unchanged_unqueued p t s.cells w.layers w.good o.name)
          (λ k m. serves_unqueued p t s.cells w.layers w.good o.name k m) refl (wanted_gone less p (Some o)) _ unqueued)))))

  of_move : Move p c s u → Tale
  of_move (Acts fr ts i effect at there met fits same) = of_method fr ts i at there
  of_move (Reclaims ts o at there owns same) = of_going ts o at there
  of_move (Rests still same) = without_calls _ same (grind arith) (unchanged_itself p s.cells, refl)
  of_move (Clears code ts items o at top there same) = grind (arith, nat_tests, without_calls, unchanged_moved p s.cells)
  of_move (Undoes code ts items m x at top same) = without_calls _ same (ap (λ l. wanted_task s p l) at) (unchanged_itself p s.cells, refl)
  of_move (Arrives code fr ts items at top same) = without_calls _ same (ap (λ l. wanted_task s p l) at) (unchanged_itself p s.cells, refl)
  of_move (Comes_out code d ts items at top same) = without_calls _ same (ap (λ l. wanted_task s p l) at) (unchanged_itself p s.cells, refl)
  of_move (Ends d ts at same) = without_calls _ same (ap (λ l. wanted_task s p l) at)
      (dispatch_layer (λ ls. Good p t s.cells ls) d ts w.layers (sym w.tasks ∙ at) w.good (λ owned_chain below _ good. end_unchanged_calls p t (counted p s) d owned_chain below good))
  of_move (Empties ts o at there same) = without_calls _ same (ap (λ l. wanted_task s p l) at) (grind (arith, nat_tests, unchanged_itself, unchanged_moved))

  move_reported : FollowsCall p c s u
  move_reported = let tale = of_move (steps_are_moves p c s u e) in record {
    finds = tale.0.finds;
    owes = tale.0.owes;
    meets = tale.0.meets;
    killed = tale.1;
    sessions = sessions_after p c.answer s holds (wanted p s) u tale.0 tale.1;
  }

pub moves_follow_calls : MovesFollowCalls
moves_follow_calls p t c s u w unused holds e = move_reported p t c s u w unused holds e
