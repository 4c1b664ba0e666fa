-- Clients, and what they have at servers, say the same in each state of a run, and tokens stay apart: as it boots, in each move and in each turn.
use Rattle.std.proofs.lemmas.Bool.Decides.{nat_tests}
use Rattle.std.proofs.Common.{arith, [], Bool, List, None, Option, Some, ap, false, length, refl, subst, sym, true, ℕ, ℤ, ⊎_elim, ◌∙◌, ◌∷◌, ◌≡◌}
use Rattle.std.specs.List.{list_any}
use Rattle.aom_image.specs.Image.{Image}
use Rattle.aom_instructions.specs.declared.instr.Instr.{Instr}
use Rattle.aom_image.specs.declared.method.Role.TheVariants.{Error as Answers}
use Rattle.aom_image.specs.declared.method.Thing.TheVariants.{Message}
use Rattle.aom_link_conditions.specs.Roles.{main_of}
use Rattle.aom_clients.specs.declared.client.Client.{Client}
use Rattle.aom_typing_rules.specs.Typing.{Typing}
use Rattle.aom_safety.proofs.ClientsEffects.{IsAnswer, IsCompleting, effect_kept, fine_effect}
use Rattle.aom_safety.proofs.ClientsFacts.{IsAt, goes_apart, queued_well, server_lives, serving_plain, waiting_well}
use Rattle.aom_safety.proofs.ClientsFit.{IsFit, fit_parted}
use Rattle.aom_safety.proofs.ClientsGone.{fit_gone, stage_gone}
use Rattle.aom_safety.proofs.ClientsSteady.{Steady, fit_steady}
use Rattle.aom_safety.proofs.ClientsMoves.{fit_unconnected, steady_ended, steady_moved, steady_redeemed, tasks_staged, tasks_steady}
use Rattle.aom_safety.proofs.Redeeming.{redeemed_by_alike}
use Rattle.aom_safety.proofs.TokensKeep.{boot_apart, moved_apart, turned_apart}
use Rattle.aom_safety.proofs.ClientsReturn.{fit_without, return_kept, same_cells, tasks_without}
use Rattle.aom_safety.proofs.ClientsTurn.{tasks_begun, turn_kept}
use Rattle.aom_safety.proofs.SemanticsLemmas.{without_none}
use Rattle.aom_safety.proofs.Storing.{Alike, ended_alike}
use Rattle.aom_safety.proofs.Things.{stands_message, message_plain}
use Rattle.aom_image.specs.declared.method.Gives.{Gives}
use Rattle.aom_semantics.specs.Calls.{returned}
use Rattle.aom_semantics.specs.Objects.{is_thing}
use Rattle.aom_semantics.specs.Tokens.{TokensApart, redeemed_by, token_of}
use Rattle.aom_semantics.specs.Words.{here}
use Rattle.aom_safety.proofs.Moving.{steps_are_moves}
use Rattle.aom_safety.specs.Steps.{Acts, Arrives, Clears, Comes_out, Empties, Ends, Move, Rests, Undoes, Reclaims}
use Rattle.aom_safety.proofs.Guarded.{acts_at}
use Rattle.aom_semantics.specs.Cleanup.{ended_by}
use Rattle.aom_semantics.specs.Destruction.{begun, parting, reclaimed, first_session}
use Rattle.aom_semantics.specs.Effects.{Change, Effect, Goes_on, Replied, Returns, Update, applied, effect, needs}
use Rattle.aom_semantics.specs.Requests.{ended_cells, part_of}
use Rattle.aom_safety.specs.Kept.{ClientsFit, StateInvariant, StageKept, TasksKept, is_message_of}
use Rattle.aom_safety.specs.Laws.{ClientsKeep, IsWired}
use Rattle.aom_semantics.specs.Moves.{answered, asking, counted, dispatch_ends, handled, main_ends, object_ends, stage_ends, step}
use Rattle.aom_semantics.specs.Places.{Cell, Elsewhere, Entry, Going, In_service, Object, Place, Queued, Root}
use Rattle.aom_semantics.specs.Places.{NoDuplicates, held, moved, named, service_of, without, requested, Request}
use Rattle.aom_semantics.specs.Servers.{is_server}
use Rattle.aom_semantics.specs.State.{Accept_left, Accepts, Answered, Asks, Choice, Closing, Destroy, Dispatch, Dispatched, Frame, Goes, Object_left, Of_main}
use Rattle.aom_semantics.specs.State.{Of_object, Of_root, Of_server, Disconnects, Run, OwnedObject, Service_left, Stage, State, Task, Trapped, Unwind, resumed}
use Rattle.aom_safety.specs.WellTyped.{Now, WellTyped}
use Rattle.aom_semantics.specs.World.{boot_state, main_tasks}
use Rattle.std.specs.Prelude.{is_some}
use Rattle.aom_roles.specs.Tests.{AllTrue}

-- ---- as it boots

boot_kept : (p : Image) → IsFit p (boot_state p)
boot_kept p = record {
  fit = record {
    queues = λ n. tt;
    sessions = λ n c h. cc;
    listed = λ n c h. cc;
    servers = λ o h plain. cc;
    names = λ n m o h. cc;
    senders = λ n c m h. cc;
    sources = λ o h. cc;
    served = λ o h. cc;
    owned_chain = λ o h. cc;
    enlisted = λ o h e. cc;
  };
  stage = stage (main_of p);
}
  where
    stage : (m : Option ℕ) → TasksKept p [] [] (main_tasks m)
    stage x = grind arith

-- what is enlisted stays so
stays_listed : (old new : Option Request) → (new ≡ None → old ≡ None) → is_some old ≡ true → is_some new ≡ true
stays_listed old x keeps some = grind arith

-- ---- moves that change no cell of a server

module _ (p : Image) (s : State) (fit : ClientsFit p s.clients s.cells) where
  -- a cell is at hand to go
  begun_kept : (a : Place) (k : ℕ) (o : Object) (height : ℕ) (ts : List Task) (u : State) → u.cells ≡ moved a (Going k) s.cells → u.clients ≡ s.clients →
      u.tasks ≡ begun p o height ts → TasksKept p s.clients s.cells ts → IsFit p u
  begun_kept a k o height ts u cells clients tasks stage =
      let still = steady_moved s.cells a (Going k) (λ n m. refl) refl in
      record {
        fit = grind (arith, nat_tests, fit_steady p s.clients s.cells);
        stage = grind (arith, nat_tests, tasks_begun p s.clients, tasks_steady p s.clients s.cells);
      }

  -- ---- a leave

  arrival_stage : (code : ℤ) (d : Dispatch) (ts : List Task) → TasksKept p s.clients s.cells (Dispatched d ∷ ts) →
      TasksKept p s.clients s.cells (Dispatched (ended_by code d) ∷ ts)
  arrival_stage code x ts k = grind arith

  -- ---- a server lets go of a session

  parting_kept : (o : Object) (x : Option OwnedObject) (below : List Task) → TasksKept p s.clients s.cells below → IsFit p (parting p o x below s)
  parting_kept o None below stage = grind (arith, nat_tests, same_cells p s fit)
  parting_kept o (Some x) below stage = begun_kept x.place _ x.object (length s.items) (Closing ∷ Destroy ∷ below) _ refl refl refl stage

  -- ---- a dispatch ends

  main_kept : (b : Bool) (root : Option Object) → IsFit p (main_ends p b root s)
  main_kept true (Some o) = begun_kept (Elsewhere Root) _ o (length s.items) (Dispatched Of_root ∷ []) _ refl refl refl tt
  main_kept true None = same_cells p s fit _ refl refl tt
  main_kept false root = same_cells p s fit _ refl refl tt

module _ (p : Image) (s : State) (fit : ClientsFit p s.clients s.cells) where
  object_kept : IsFit p (object_ends p s)
  object_kept = main_kept p (handled s) fit s.rest.stopped (held s.cells (Elsewhere Root))

  answered_kept : (answer : ℤ) → IsFit p (answered p answer s)
  answered_kept answer = grind (arith, nat_tests, IsFit p, object_kept, same_cells p s fit)

  asking_kept : (m : Option ℕ) (x : OwnedObject) (code : ℤ) → IsFit p (asking p m x code s)
  asking_kept x y code = grind (arith, nat_tests, answered_kept code, same_cells p s fit)

  -- of a server: a connect that was left has no session, a message is completed, or a session is closed
  module _ (no_duplicates : NoDuplicates s.cells) (queued : (n c m : ℕ) → list_any (is_message_of c m) (service_of s.cells n).queue ≡ true → (x : Object) × (held s.cells
      (Elsewhere (Queued n m)) ≡ Some x)) (plain : (o : Object) → held s.cells (Elsewhere In_service) ≡ Some o → is_server p o.thing ≡ false) where
    service_gone_kept : ClientsFit p s.clients (without (Elsewhere In_service) s.cells)
    service_gone_kept = go (held s.cells (Elsewhere In_service)) refl
      where
        go : (o : Option Object) → held s.cells (Elsewhere In_service) ≡ o → ClientsFit p s.clients (without (Elsewhere In_service) s.cells)
        go None e = subst (λ l. ClientsFit p s.clients l) (sym (without_none s.cells (Elsewhere In_service) e)) fit
        go (Some o) e = fit_without p s.clients s.cells no_duplicates fit o (Elsewhere In_service) e (λ n m. refl) (plain o e) queued

    stage_kept : (x : OwnedObject) (c : ℕ) (stage : Stage) → named s.cells x.object.name ≡ Some x.object → is_server p x.object.thing ≡ true →
        is_some (requested s.cells x.object.name) ≡ true → StageKept p s.clients s.cells x.object c stage → IsFit p (stage_ends x c stage s)
    stage_kept x c (Accept_left code) lives serves listed k = record { fit = fit_unconnected p s.clients s.cells fit x.object.name c k.0 k.1; stage = tt }
    stage_kept x c (Service_left code) lives serves listed k = record { fit = service_gone_kept; stage = tt }
    stage_kept x c Disconnects lives serves listed k = record { fit = fit_parted p s.clients s.cells fit x.object lives serves listed c k.0 k.1; stage = tt }
    stage_kept x c _ lives serves listed k = same_cells p s fit _ refl refl tt

    dispatch_kept : (d : Dispatch) (ts : List Task) → ((x : OwnedObject) (c : ℕ) (stage : Stage) → d ≡ Of_server x c stage →
        (named s.cells x.object.name ≡ Some x.object) × (is_server p x.object.thing ≡ true) × (is_some (requested s.cells x.object.name) ≡ true)) →
        TasksKept p s.clients s.cells (Dispatched d ∷ ts) → IsFit p (dispatch_ends p d s)
    dispatch_kept Of_main ts there k = main_kept p s fit s.rest.stopped (held s.cells (Elsewhere Root))
    dispatch_kept (Of_object x) ts there k = object_kept
    dispatch_kept (Object_left x code) ts there k = asking_kept (part_of p Answers x.object.thing) x code
    dispatch_kept (Asks x) ts there k = object_kept
    dispatch_kept (Answered x answer) ts there k = answered_kept answer
    dispatch_kept (Of_server x c stage) ts there k = let l = there x c stage refl in stage_kept x c stage l.0 l.1 l.2 k
    dispatch_kept _ ts there k = same_cells p s fit _ refl refl tt

-- ---- a cell goes

tasks_resumed : (p : Image) (clients : List Client) (cs : List Cell) (ts : List Task) → TasksKept p clients cs ts → TasksKept p clients cs (resumed ts)
tasks_resumed p clients cs x k = grind arith

-- ---- each move

module _ (p : Image) (t : Typing) (wired : IsWired p) (c : Choice) (s : State) (w : WellTyped p t s) (free : named s.cells c.name ≡ None) (kept : IsFit p s) where
  no_duplicates : NoDuplicates s.cells
  no_duplicates = w.good.no_duplicates

  queued : (n c m : ℕ) → list_any (is_message_of c m) (service_of s.cells n).queue ≡ true → (x : Object) × (held s.cells (Elsewhere (Queued n m)) ≡ Some x)
  queued = queued_well p t s w s.clients kept.fit

  -- the server that is dispatched stands
  there : (ts : List Task) → s.tasks ≡ ts → (x : OwnedObject) (d : ℕ) (stage : Stage) → IsAt (Of_server x d stage) ts →
      (named s.cells x.object.name ≡ Some x.object) × (is_server p x.object.thing ≡ true) × (is_some (requested s.cells x.object.name) ≡ true)
  there ts tasks x d stage at = let l =
      server_lives p t s.cells w.layers Now x d stage w.good.stack (subst (λ l. IsAt (Of_server x d stage) l) (sym tasks ∙ w.tasks) at) in (l.0, l.1, l.3)

  module _ (fr : Frame) (ts : List Task) (tasks : s.tasks ≡ Run fr ∷ ts) where
    stage_below : TasksKept p s.clients s.cells ts
    stage_below = subst (λ l. TasksKept p s.clients s.cells l) tasks kept.stage

    -- a message is completed
    reply_kept : (ch : Change) (a : ℕ) (code : ℤ) → is_thing p Message (held s.cells (here fr ts (counted p s) a)) ≡ true →
        IsFit p (applied p fr ts (counted p s) (Goes_on (record ch { update = Replied a code })))
    reply_kept ch a code met = go (held s.cells (here fr ts (counted p s) a)) refl met
      where
        cs : List Cell
        cs = redeemed_by (token_of s.cells (held s.cells (here fr ts (counted p s) a))) code s.cells

        like : Alike s.cells cs
        like = redeemed_by_alike (token_of s.cells (held s.cells (here fr ts (counted p s) a))) code s.cells

        still : Steady s.cells cs
        still = steady_redeemed (token_of s.cells (held s.cells (here fr ts (counted p s) a))) code s.cells

        fit : ClientsFit p s.clients cs
        fit = fit_steady p s.clients s.cells cs still kept.fit

        stage : TasksKept p s.clients cs ts
        stage = tasks_steady p s.clients s.cells cs still ts stage_below

        waiting : (n c m : ℕ) → list_any (is_message_of c m) (service_of cs n).queue ≡ true → (x : Object) × (held cs (Elsewhere (Queued n m)) ≡ Some x)
        waiting n c m h = let x = queued n c m (ap (λ q. list_any (is_message_of c m) q) (sym (still.queues n)) ∙ h) in
            (x.0, like.held_so (Elsewhere (Queued n m)) ∙ x.1)

        go : (o : Option Object) → held s.cells (here fr ts (counted p s) a) ≡ o → is_thing p Message (held s.cells (here fr ts (counted p s) a)) ≡ true →
            IsFit p (applied p fr ts (counted p s) (Goes_on (record ch { update = Replied a code })))
        go None e thing = record {
          fit = subst (λ l. ClientsFit p s.clients l) (sym (without_none cs (here fr ts (counted p s) a) (like.held_so (here fr ts (counted p s) a) ∙ e))) fit;
          stage = subst (λ l. TasksKept p s.clients l ts) (sym (without_none cs (here fr ts (counted p s) a) (like.held_so (here fr ts (counted p s) a) ∙ e))) stage;
        }
        go (Some o) e thing =
            let plain = message_plain p o.thing (stands_message p o.thing (sym (ap (is_thing p Message) e) ∙ thing)) in
            let there = like.held_so (here fr ts (counted p s) a) ∙ e in
            record {
              fit = fit_without p s.clients cs (like.no_duplicates no_duplicates) fit o (here fr ts (counted p s) a) there (λ n m. refl) plain waiting;
              stage = tasks_without p s.clients cs (like.no_duplicates no_duplicates) fit o (here fr ts (counted p s) a) there (λ n m. refl) plain waiting ts stage;
            }

    -- a method returns
    returns_kept : (g : Gives) (a : ℕ) → IsFit p (returned p fr ts (record (counted p s) { cells = ended_cells p fr s.cells }) g a ts)
    returns_kept g a =
        let still = steady_ended p fr s.cells in
        return_kept p fr ts (record (counted p s) { cells = ended_cells p fr s.cells })
        (fit_steady p s.clients s.cells (ended_cells p fr s.cells) still kept.fit) g a ts (λ x d at. let l = there (Run fr ∷ ts) tasks x d Accepts at in (
          (ended_alike p fr s.cells).named_so x.object.name ∙ l.0,
          l.1,
          stays_listed (requested s.cells x.object.name) (requested (ended_cells p fr s.cells) x.object.name)
              (still.carried.enlisted x.object ((ended_alike p fr s.cells).named_so x.object.name ∙ l.0)) l.2,
        )) tasks (tasks_steady p s.clients s.cells (ended_cells p fr s.cells) still ts stage_below)
        (tasks_steady p s.clients s.cells (ended_cells p fr s.cells) still ts stage_below)

    completed_kept : (ch : Change) (u : Update) → IsCompleting p fr ts (counted p s) u → IsFit p (applied p fr ts (counted p s) (Goes_on (record ch { update = u })))
    completed_kept ch (Replied a code) met = reply_kept ch a code met
    completed_kept ch _ met = absurd met

    answer_kept : (e : Effect) → IsAnswer p fr ts (counted p s) e → IsFit p (applied p fr ts (counted p s) e)
    answer_kept (Goes_on ch) met = completed_kept ch ch.update met
    answer_kept (Returns g a) met = returns_kept g a
    answer_kept _ met = absurd met

    act_kept : (i : Instr) → AllTrue (needs p c fr ts (counted p s) i) → IsFit p (applied p fr ts (counted p s) (effect p c fr ts (counted p s) i))
    act_kept i met =
        ⊎_elim (effect_kept p fr ts (counted p s) kept.fit stage_below (effect p c fr ts (counted p s) i)) (answer_kept (effect p c fr ts (counted p s) i))
        (fine_effect p c fr ts (counted p s) free i met)

  stage_at : (ts : List Task) → s.tasks ≡ ts → TasksKept p s.clients s.cells ts
  stage_at ts at = subst (λ l. TasksKept p s.clients s.cells l) at kept.stage

  gone_kept : (ts : List Task) (o : Object) → s.tasks ≡ Destroy ∷ ts → held s.cells (Going (length ts)) ≡ Some o → IsFit p (reclaimed o ts (counted p s))
  gone_kept ts o tasks at = record {
    fit = fit_gone p s.clients s.cells no_duplicates kept.fit o (Going (length ts)) at (λ n m. refl) (waiting_well p t wired s w) queued;
    stage = tasks_resumed p _ _ ts (tasks_staged p s.clients _ s.cells _ ts
        (λ x d stage below k. stage_gone p s.clients s.cells no_duplicates kept.fit o (Going (length ts)) at (λ n m. refl)
        (waiting_well p t wired s w) queued x.object d stage (goes_apart p t s w ts tasks o at x d stage below) k) (stage_at (Destroy ∷ ts) tasks));
  }

  moved_kept : (u : State) → step p c s ≡ Goes u → IsFit p u
  moved_kept u e = of (steps_are_moves p c s u e)
    where
      v : State
      v = counted p s

      along : (w : State) → u ≡ w → IsFit p w → IsFit p u
      along w same k = subst (λ v. IsFit p v) (sym same) k

      of : Move p c s u → IsFit p u
      of (Rests still same) = along _ same (same_cells p v kept.fit _ refl refl kept.stage)
      of (Acts fr ts i x tasks there met may same) = let a = acts_at p c s u fr ts i tasks there e in along _ (sym a.1) (act_kept fr ts tasks i a.0)
      of (Reclaims ts o tasks there none same) = along _ same (gone_kept ts o tasks there)
      of (Empties ts o tasks there same) = along _ same
          (parting_kept p v kept.fit o (first_session s.cells o.name (service_of s.cells o.name).sessions) ts (stage_at (Closing ∷ Destroy ∷ ts) tasks))
      of (Clears code ts items o tasks top there same) = along _ same
          (begun_kept p v kept.fit (Entry (length items)) _ o (length items) (Unwind code ∷ ts) _ refl refl refl (stage_at (Unwind code ∷ ts) tasks))
      of (Undoes code ts items m word tasks top same) = along _ same (same_cells p v kept.fit _ refl refl (stage_at (Unwind code ∷ ts) tasks))
      of (Arrives code fr ts items tasks top same) = along _ same (same_cells p v kept.fit _ refl refl (stage_at (Unwind code ∷ Trapped ∷ Run fr ∷ ts) tasks))
      of (Comes_out code d ts items tasks top same) =
          along _ same (same_cells p v kept.fit _ refl refl (arrival_stage p v kept.fit code d ts (stage_at (Unwind code ∷ Trapped ∷ Dispatched d ∷ ts) tasks)))
      of (Ends d ts tasks same) = along _ same (dispatch_kept p v kept.fit no_duplicates queued (serving_plain p t s w) d ts
          (λ x k stage same. there (Dispatched d ∷ ts) tasks x k stage same) (stage_at (Dispatched d ∷ ts) tasks))

-- ---- and tokens with them

with_tokens : (p : Image) (s : State) → IsFit p s → TokensApart s.cells → StateInvariant p s
with_tokens p s it apart = record { fit = it.fit; stage = it.stage; tokens = apart }

without_tokens : (p : Image) (s : State) → StateInvariant p s → IsFit p s
without_tokens p s kept = record { fit = kept.fit; stage = kept.stage }

pub clients_keep : ClientsKeep
clients_keep = record {
  boot = λ p. with_tokens p (boot_state p) (boot_kept p) boot_apart;
  moves = λ p t wired typed c s u w free kept e. with_tokens p u (moved_kept p t wired c s w free (without_tokens p s kept) u e)
      (moved_apart p c s u free w.good.no_duplicates kept.tokens e);
  turns = λ p t outside wired typed observed s u w between observes kept e. with_tokens p u (turn_kept p t wired s w between.idle
      (without_tokens p s kept) outside observed u observes.name e) (turned_apart p outside observed s u w.good.no_duplicates kept.tokens e);
}
