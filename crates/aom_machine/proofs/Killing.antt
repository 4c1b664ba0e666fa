-- A native is killed: cell by cell, what each has outstanding there is completed and its session is over, and the machine then stands for
-- the state that the checked machine goes to.
use Rattle.std.proofs.lemmas.Bool.Decides.{nat_tests}
use Rattle.std.proofs.Common.{ap, arith, Bool, cond, false, List, None, Option, pos, refl, Some, subst, suc, sym, true, ℕ, ◌++◌, ◌+◌, ◌<◌, ◌==◌, ◌∙◌, ◌∷◌, ◌≡◌}
use Rattle.std.proofs.Common.{[]}
use Rattle.std.specs.Prelude.{◌&&◌, ◌||◌, is_some, nat_lt, not}
use Rattle.std.proofs.lemmas.Bool.{and_parts, eqb-false, eqb-true, false≢true}
use Rattle.std.specs.Prelude.{option_map}
use Rattle.aom_image.specs.Image.{Image}
use Rattle.aom_roles.specs.Things.{is_object}
use Rattle.aom_cells.specs.Heap.{Heap, Lives, class_at}
use Rattle.aom_machine_state.specs.LineBuffer.{LineBuffer}
use Rattle.aom_machine.proofs.ActiveObjectsLemmas.{asked_lives, queued_same, status_is_determined}
use Rattle.aom_active_objects.specs.Agrees.{Active, RefinesRequests as Asks_for, queued, timer_in}
use Rattle.aom_active_objects.specs.Meanings.{Makes, asked_anew}
use Rattle.aom_determinism.specs.Owed.{serves}
use Rattle.aom_cells.specs.Sessions.{Sets, Standing, is_open}
use Rattle.aom_roles.specs.Tables.{at}
use Rattle.aom_machine.proofs.SafetyLemmas.{detached_alike, detached_well, comes_detached, count_detached, fit_same, same_detached, session_unnamed}
use Rattle.aom_semantics.specs.Requests.{completed_with, is_unanswered, on_request}
use Rattle.aom_semantics.specs.Natives.{all_detached, detached, is_owed, terminated, terminated_request}
use Rattle.aom_semantics.specs.Places.{Cell, Request, in_session, named, requested, word_field}
use Rattle.aom_semantics.specs.State.{Counters, State}
use Rattle.aom_semantics.specs.Tokens.{awaited}
use Rattle.aom_cells.specs.Tokens.{Kept as Kept_tokens}
use Rattle.aom_semantics.specs.World.{Kills, observed_one, without_native}
use Rattle.aom_termination.specs.Left.{is_entry}
use Rattle.aom_machine.proofs.TerminationLemmas.{reset_same}
use Rattle.aom_transcript.specs.declared.line.Line.TheVariants.{Killed}
use Rattle.aom_machine_state.specs.declared.parts.Parts.{Parts}
use Rattle.aom_machine_state.specs.declared.progress.Progress.TheVariants.{Turned}
use Rattle.aom_machine_state.specs.Agrees.{Agrees, SameCells, Represents, thing_of, word_at}
use Rattle.aom_machine_state.specs.Places.{value}
use Rattle.aom_machine_state.specs.Progress.{progress_by}
use Rattle.aom_machine.specs.Serving.{Detaches, KeepsOthers, serves_class}
use Rattle.aom_machine_state.specs.Stands.{MachineModel, Stands, Refines}
use Rattle.aom_machine.specs.Turns.{Takes}
use Rattle.aom_machine.proofs.Served.{class_reported, coded, message_silent, unserved_message, untimed, unreported}
use Rattle.aom_clients.specs.Clients.{ClientsState as Kept_state}
use Rattle.aom_clients.specs.declared.client.Client.{Client}
use Rattle.aom_cells.specs.Store.{Store}
use Rattle.aom_clients.specs.Lists.{Table}
use Rattle.aom_semantics.specs.Clients.{count_messages}
use Rattle.aom_machine_state.specs.Messages.{is_a_message}
use Rattle.aom_machine_state.specs.Services.{SameServices}
use Rattle.aom_machine_state.specs.Serving.{message_name}
use Rattle.aom_machine.proofs.MachineStateLemmas.{listed_alike, messages_as, services_still, still_detached}
use Rattle.aom_machine.proofs.Idle.{stands_idle}
use Rattle.aom_machine.proofs.Timers.{timers_same}
use Rattle.aom_machine.proofs.Turning.{machine_between}

-- ---- one request

-- what is outstanding is completed, and all else stays
pub terminates : (old new : Active) (id : ℕ) (asked : ℕ → Option Request) (queues : ℕ → Option Bool) → Asks_for old asked queues →
    is_owed (asked id) ≡ true → Makes old new id (completed_with terminated) → Asks_for new (asked_anew id (terminated_request (asked id)) asked) queues
terminates old new id asked queues stands owed makes = go (asked id) refl owed
  where
    go : (q : Option Request) → asked id ≡ q → is_owed q ≡ true → Asks_for new (asked_anew id (terminated_request (asked id)) asked) queues
    go None e owed = absurd (false≢true owed)
    go (Some r) e owed = subst (λ q. Asks_for new (asked_anew id q asked) queues)
        (sym (ap terminated_request e ∙ ap (λ b. cond b (Some (completed_with terminated r)) (Some r)) owed)) (makes.stands asked queues r stands e)

pub spares : (a : Active) (id : ℕ) (asked : ℕ → Option Request) (queues : ℕ → Option Bool) →
    Asks_for a asked queues → is_owed (asked id) ≡ false → Asks_for a (asked_anew id (terminated_request (asked id)) asked) queues
spares a id asked queues stands owed = grind (arith, nat_tests, status_is_determined a asked, eqb-true id)

-- ---- the cells once a native is killed

module _ (p : Image) (native : ℕ) where
  abbrev after : List Cell → List Cell
  after cs = all_detached p native cs

  request_after : (cs : List Cell) (id : ℕ) → requested (after cs) id ≡ cond (serves p cs native id) (terminated_request (requested cs id)) (requested cs id)
  request_after [] id = refl
  request_after (c ∷ cs) id = grind (arith, nat_tests, request_after cs id)

  session_after : (cs : List Cell) (id : ℕ) → in_session (after cs) id ≡ (not (serves p cs native id) && in_session cs id)
  session_after [] id = refl
  session_after (c ∷ cs) id = grind (arith, nat_tests, session_after cs id)

  words_after : (cs : List Cell) (id w : ℕ) → word_field (after cs) id w ≡ word_field cs id w
  words_after [] id w = refl
  words_after (c ∷ cs) id w = ap (λ x. cond (c.object.name == id) (at (pos 0) c.words w) x) (words_after cs id w)

  cells_after : (h : Heap) (cs : List Cell) → SameCells p h cs → SameCells p h (after cs)
  cells_after h cs same = record {
    things = λ n. same.things n ∙ ap thing_of (sym ((detached_alike p native cs).named_so n));
    words = λ n w small. same.words n w small ∙ sym (words_after cs n w);
    count = same.count ∙ sym (count_detached p native cs);
    limit = same.limit;
    wide = same.wide;
    classes = same.classes;
    null_is_none = same.null_is_none;
    below = same.below;
  }

  -- a cell that the native serves has something outstanding or a session
  abbrev is_hit : List Cell → ℕ → Bool
  is_hit cs id = (is_owed (requested cs id) || in_session cs id) && serves p cs native id

  -- and such cells alone are others
  hit_request : (cs : List Cell) (id : ℕ) (b : Bool) → is_hit cs id ≡ b → requested (after cs) id ≡ cond b (terminated_request (requested cs id)) (requested cs id)
  hit_request cs id b e = request_after cs id ∙ go (requested cs id) (is_owed (requested cs id)) refl (in_session cs id) (serves p cs native id)
      ∙ ap (λ x. cond x (terminated_request (requested cs id)) (requested cs id)) e
    where
      go : (q : Option Request) (o : Bool) → is_owed q ≡ o → (i s : Bool) → cond s (terminated_request q) q ≡ cond ((o || i) && s) (terminated_request q) q
      go q false f true true = refl
      go q false f true false = refl
      go q false f false true = ap (λ b. cond b (on_request (completed_with terminated) q) q) f
      go q false f false false = refl
      go q true f i true = refl
      go q true f i false = refl

  hit_session : (cs : List Cell) (id : ℕ) (b : Bool) → is_hit cs id ≡ b → in_session (after cs) id ≡ cond b false (in_session cs id)
  hit_session cs id b e = session_after cs id ∙ go (is_owed (requested cs id)) (in_session cs id) (serves p cs native id)
      ∙ ap (λ x. cond x false (in_session cs id)) e
    where
      go : (o i s : Bool) → (not s && i) ≡ cond ((o || i) && s) false i
      go false true true = refl
      go false true false = refl
      go false false true = refl
      go false false false = refl
      go true i true = refl
      go true i false = refl

  -- what clients have is as it was
  many_after : (cs : List Cell) → count_messages (after cs) ≡ count_messages cs
  many_after [] = refl
  many_after (c ∷ cs) = ap (λ n. cond (is_object c.object.thing) n (suc n)) (many_after cs)

  order_after : (cs : List Cell) (id : ℕ) → option_map (λ r. r.order) (requested (after cs) id) ≡ option_map (λ r. r.order) (requested cs id)
  order_after cs id = ap (option_map (λ r. r.order)) (request_after cs id) ∙ go (serves p cs native id) (requested cs id)
    where
      ended : (b : Bool) (r : Request) → option_map (λ r. r.order) (cond b (Some (completed_with terminated r)) (Some r)) ≡ Some r.order
      ended true r = refl
      ended false r = refl

      go : (b : Bool) (q : Option Request) → option_map (λ r. r.order) (cond b (terminated_request q) q) ≡ option_map (λ r. r.order) q
      go true None = refl
      go true (Some r) = ended (is_owed (Some r)) r
      go false q = refl

  -- what the native served waits for no token, before and after
  waits_after : (cs : List Cell) → ((id : ℕ) → serves p cs native id ≡ true → awaited (requested cs id) ≡ None) → (id : ℕ) →
      awaited (requested (after cs) id) ≡ awaited (requested cs id)
  waits_after cs unreported id = ap awaited (request_after cs id) ∙ go (serves p cs native id) refl
    where
      ended : (b : Bool) (q : Option Request) → awaited q ≡ None → awaited (cond b (on_request (completed_with terminated) q) q) ≡ None
      ended b q e = grind arith

      go : (b : Bool) → serves p cs native id ≡ b → awaited (cond b (terminated_request (requested cs id)) (requested cs id)) ≡ awaited (requested cs id)
      go true e = ended (is_owed (requested cs id)) (requested cs id) (unreported id e) ∙ sym (unreported id e)
      go false e = refl

  services_detached : (k : Kept_state) (store : Store) (tokens : Kept_tokens) (table : Table) (clients : List Client) (cs : List Cell) →
      ((id : ℕ) → serves p cs native id ≡ true → awaited (requested cs id) ≡ None) →
      SameServices p k store tokens table cs clients → SameServices p k store tokens table (after cs) clients
  services_detached k store tokens table clients cs unreported same = services_still p cs (after cs) (still_detached p native cs) (messages_as p store cs
      (after cs) (λ n. ap is_a_message ((detached_alike p native cs).named_so n)) (λ m w. words_after cs (message_name m) w) (many_after cs))
      (listed_alike p table cs (after cs) (detached_alike p native cs).named_so (order_after cs)) (waits_after cs unreported) same

-- ---- one cell after another

-- what is below a number is as it comes to be, and all else as it was
abbrev pub up_to : {A : Type 0} → ℕ → (ℕ → A) → (ℕ → A) → ℕ → A
up_to k now was n = cond (nat_lt n k) (now n) (was n)

none_below : (n : ℕ) → nat_lt n 0 ≡ false
none_below n = grind (arith)

not_below : (n : ℕ) → nat_lt n n ≡ false
not_below n = grind (arith)

is_below : (n k : ℕ) → n < k → nat_lt n k ≡ true
is_below n k less = grind (arith)

same_below : (k n : ℕ) → (k == n) ≡ false → nat_lt n (k + 1) ≡ nat_lt n k
same_below k n other = grind (arith)

up_to_next : {A : Type 0} (k : ℕ) (now was : ℕ → A) (n : ℕ) → up_to (k + 1) now was n ≡ cond (k == n) (now n) (up_to k now was n)
up_to_next k now was n = grind (arith, nat_tests, is_below n (k + 1), eqb-true k n, same_below k n)

-- the cells below a number are bereaved
pub record DetachesBelow (p : Image) (native k : ℕ) (old new : Parts) : Type 0 where
  pub requests : (s : State) → Refines (record { image = p; parts = old }) s →
      Asks_for new.active (up_to k (requested (all_detached p native s.cells)) (requested s.cells)) (queued p s.cells)
  pub sessions : (s : State) → Refines (record { image = p; parts = old }) s → (n : ℕ) →
      is_open new.sessions n ≡ up_to k (in_session (all_detached p native s.cells)) (in_session s.cells) n
  pub others : KeepsOthers old new

pub none_yet : (p : Image) (native : ℕ) (m : Parts) → DetachesBelow p native 0 m m
none_yet p native m = record {
  requests = grind (arith, nat_tests, status_is_determined m.active, none_below);
  sessions = λ s st n. st.agrees.natives.sessions n ∙ ap (λ b. cond b (in_session (all_detached p native s.cells) n) (in_session s.cells n)) (sym (none_below n));
  others = record { numbers = refl; places = refl; killed = refl; rest = refl };
}

module _ (p : Image) (native : ℕ) (old : Parts) (k : ℕ) (now : Parts) (so_far : DetachesBelow p native k old now) where
  abbrev first : MachineModel
  first = record { image = p; parts = old }

  same_cells : now.cells ≡ old.cells
  same_cells = ap (λ (x : Parts). x.cells) so_far.others.rest

  module _ (s : State) (st : Refines first s) where
    abbrev asked : ℕ → Option Request
    asked = up_to k (requested (all_detached p native s.cells)) (requested s.cells)

    own_request : asked k ≡ requested s.cells k
    own_request = ap (λ b. cond b (requested (all_detached p native s.cells) k) (requested s.cells k)) (not_below k)

    own_session : is_open now.sessions k ≡ in_session s.cells k
    own_session = grind (arith, nat_tests, not_below k)

    something : (is_owed (asked k) || is_open now.sessions k) ≡ (is_owed (requested s.cells k) || in_session s.cells k)
    something = ap (λ q. is_owed q || is_open now.sessions k) own_request ∙ ap (λ b. is_owed (requested s.cells k) || b) own_session

    -- what the machine finds is whether the cell is hit
    hit_reported : ((is_owed (asked k) || is_open now.sessions k) && serves_class p native (class_at now.cells k)) ≡ is_hit p native s.cells k
    hit_reported = grind (arith, nat_tests, something, same_cells, class_reported p old s st native k)

    -- what has anything lives
    something_lives : (is_owed (requested s.cells k) || in_session s.cells k) ≡ true → is_some (named s.cells k) ≡ true
    something_lives e = grind (arith, nat_tests, asked_lives s.cells k, session_unnamed s.cells k)

    lives_here : (is_owed (asked k) || is_open now.sessions k) ≡ true → Lives now.cells k
    lives_here e = grind (arith, nat_tests, same_cells, something_lives, something, message_silent p old s st native k)

    coded_here : is_hit p native s.cells k ≡ true → is_unanswered (asked k) ≡ false
    coded_here hit = ap is_unanswered own_request
        ∙ coded p old s st native k (and_parts (is_owed (requested s.cells k) || in_session s.cells k) (serves p s.cells native k) hit).1

    -- the requests once that cell is as it comes to be
    requests_next : (b : Bool) → is_hit p native s.cells k ≡ b → (n : ℕ) →
        asked_anew k (cond b (terminated_request (asked k)) (asked k)) asked n ≡ up_to (k + 1) (requested (all_detached p native s.cells)) (requested s.cells) n
    requests_next b hit n = go (k == n) refl ∙ sym (up_to_next k (requested (all_detached p native s.cells)) (requested s.cells) n)
      where
        own : cond b (terminated_request (asked k)) (asked k) ≡ requested (all_detached p native s.cells) k
        own = ap (λ q. cond b (terminated_request q) q) own_request ∙ sym (hit_request p native s.cells k b hit)

        go : (x : Bool) → (k == n) ≡ x →
            cond x (cond b (terminated_request (asked k)) (asked k)) (asked n) ≡ cond x (requested (all_detached p native s.cells) n) (asked n)
        go true same = own ∙ ap (requested (all_detached p native s.cells)) (eqb-true k n same)
        go false other = refl

  -- what the machine needs to know of the cell
  pub needs_life : Stands first → (asked : ℕ → Option Request) ×
      (queues : ℕ → Option Bool) × Asks_for now.active asked queues × ((is_owed (asked k) || is_open now.sessions k) ≡ true → Lives now.cells k)
  needs_life (s, st) = (asked s st, queued p s.cells, so_far.requests s st, lives_here s st)

  abbrev pub IsHit : Bool → Type 0
  IsHit b = (asked : ℕ → Option Request) (queues : ℕ → Option Bool) →
      Asks_for now.active asked queues → b ≡ ((is_owed (asked k) || is_open now.sessions k) && serves_class p native (class_at now.cells k))

  hit_in : (b : Bool) → IsHit b → (s : State) (st : Refines first s) → is_hit p native s.cells k ≡ b
  hit_in b hit s st = sym (hit (asked s st) (queued p s.cells) (so_far.requests s st) ∙ hit_reported s st)

  pub needs_code : Stands first → IsHit true → (asked : ℕ → Option Request) × (queues : ℕ → Option Bool) × Asks_for now.active asked queues
      × (is_unanswered (asked k) ≡ false)
  needs_code (s, st) hit = (asked s st, queued p s.cells, so_far.requests s st, coded_here s st (hit_in true hit s st))

  -- the cell is hit
  pub hits_next : (new : Parts) → IsHit true → ((asked : ℕ → Option Request) (queues : ℕ → Option Bool) → Asks_for now.active asked queues →
      Asks_for new.active (asked_anew k (terminated_request (asked k)) asked) queues) → new.active.table.limit ≡ now.active.table.limit →
      Sets now.sessions new.sessions k false → new ≡ record now { active = new.active; sessions = new.sessions } → DetachesBelow p native (k + 1) old new
  hits_next new hit makes numbers sets rest = record {
    requests = λ s st. status_is_determined new.active _ _ (queued p s.cells)
        (queued p s.cells) (requests_next s st true (hit_in true hit s st)) (λ n there. refl) (makes (asked s st) (queued p s.cells) (so_far.requests s st));
    sessions = λ s st n. open_next s st n (k == n) refl ∙ sym (up_to_next k (in_session (all_detached p native s.cells)) (in_session s.cells) n);
    others = record {
      numbers = numbers ∙ so_far.others.numbers;
      places = sets.places ∙ so_far.others.places;
      killed = sets.killed ∙ so_far.others.killed;
      rest = rest ∙ ap (λ (x : Parts). record x { active = new.active; sessions = new.sessions }) so_far.others.rest;
    };
  }
    where
      open_next : (s : State) → Refines first s → (n : ℕ) (x : Bool) → (k == n) ≡ x → is_open new.sessions n
          ≡ cond x (in_session (all_detached p native s.cells) n) (up_to k (in_session (all_detached p native s.cells)) (in_session s.cells) n)
      open_next s st n true same = grind (arith, nat_tests, eqb-true k n same, hit_session p native s.cells k true (hit_in true hit s st), hit_in true hit s st)
      open_next s st n false other = sets.others n (λ e. eqb-false k n other (sym e)) ∙ so_far.sessions s st n

  -- the cell is not
  pub misses_next : IsHit false → DetachesBelow p native (k + 1) old now
  misses_next hit = record {
    requests = λ s st. status_is_determined now.active (asked s st) _ (queued p s.cells)
        (queued p s.cells) (λ n. same_request s st n ∙ requests_next s st false (hit_in false hit s st) n) (λ n there. refl) (so_far.requests s st);
    sessions = λ s st n. so_far.sessions s st n ∙ same_session s st n (k == n) refl
        ∙ sym (up_to_next k (in_session (all_detached p native s.cells)) (in_session s.cells) n);
    others = so_far.others;
  }
    where
      same_request : (s : State) (st : Refines first s) (n : ℕ) → asked s st n ≡ asked_anew k (asked s st k) (asked s st) n
      same_request s st n = grind (arith, nat_tests, eqb-true k n)

      same_session : (s : State) → Refines first s → (n : ℕ) (x : Bool) → (k == n) ≡ x →
          up_to k (in_session (all_detached p native s.cells)) (in_session s.cells) n ≡ cond x
          (in_session (all_detached p native s.cells) n) (up_to k (in_session (all_detached p native s.cells)) (in_session s.cells) n)
      same_session s st n true same =
          let is = eqb-true k n same in
          sym (ap (up_to k (in_session (all_detached p native s.cells)) (in_session s.cells)) is) ∙ sym (so_far.sessions s st k) ∙ own_session s st
          ∙ sym (hit_session p native s.cells k false (hit_in false hit s st)) ∙ ap (in_session (all_detached p native s.cells)) is
      same_session s st n false other = refl

  -- no cell has a number past the limit
  pub all_hit : k ≡ old.cells.limit → Detaches p native old now
  all_hit end = record {
    requests = λ s st.
        let like = detached_alike p native s.cells in
        status_is_determined now.active (asked s st) (requested (all_detached p native s.cells))
        (queued p s.cells) (queued p (all_detached p native s.cells)) (λ n. request_of s st n (nat_lt n k) refl)
        (λ n there. sym (queued_same p s.cells (all_detached p native s.cells) like.named_so like.queues_so n)) (so_far.requests s st);
    sessions = λ s st n. so_far.sessions s st n ∙ session_of s st n (nat_lt n k) refl;
    others = so_far.others;
  }
    where
      unnamed : (s : State) → Refines first s → (n : ℕ) → nat_lt n k ≡ false → serves p s.cells native n ≡ false
      unnamed s st n past = grind (arith, nat_tests, unserved_message p native, is_below n k)

      request_of : (s : State) → Refines first s → (n : ℕ) (b : Bool) →
          nat_lt n k ≡ b → cond b (requested (all_detached p native s.cells) n) (requested s.cells n) ≡ requested (all_detached p native s.cells) n
      request_of s st n x below = grind (arith, nat_tests, request_after p native s.cells n, unnamed s st n)

      session_of : (s : State) → Refines first s → (n : ℕ) (b : Bool) →
          nat_lt n k ≡ b → cond b (in_session (all_detached p native s.cells) n) (in_session s.cells n) ≡ in_session (all_detached p native s.cells) n
      session_of s st n x below = grind (arith, nat_tests, session_after p native s.cells n, unnamed s st n)

-- ---- the turn

module _ (p : Image) (native : ℕ) (m b : Parts) (detaches : Detaches p native m b) where
  abbrev was : MachineModel
  was = record { image = p; parts = m }

  -- the native is among those that are killed, and one event more is delivered
  abbrev pub killed_parts : Parts
  killed_parts = record m { active = b.active; sessions = record b.sessions { killed = m.sessions.killed ++ native ∷ [] }; rest = record m.rest { delivered = suc m.rest.delivered } }

  pub killed_is : (w : Standing) (r : Counters) → w ≡ record b.sessions { killed = b.sessions.killed ++ native ∷ [] } →
      r ≡ record b.rest { delivered = suc b.rest.delivered } → record b { sessions = w; rest = r } ≡ killed_parts
  killed_is w r sessions rest = grind (arith, nat_tests, sessions)

  module _ (s : State) (st : Refines was s) where
    abbrev cs : List Cell
    cs = all_detached p native s.cells

    killed_agrees : Agrees p killed_parts (without_native p native (observed_one s))
    killed_agrees = record {
      tasks = st.agrees.tasks;
      values = λ q. subst (λ h. Represents (value m q) (word_at s.tasks q) h) (sym ((detached_alike p native s.cells).held_so q)) (st.agrees.values q);
      cells = cells_after p native m.cells s.cells st.agrees.cells;
      entries = st.agrees.entries;
      requests = record { stands = detaches.requests s st; limit = detaches.others.numbers ∙ st.agrees.requests.limit };
      natives = record {
        sessions = detaches.sessions s st;
        dead = ap (λ ks. ks ++ native ∷ []) st.agrees.natives.dead;
        limit = detaches.others.places ∙ st.agrees.natives.limit;
      };
      services = services_detached p native m.clients m.messages m.tokens m.listed s.clients s.cells
          (λ id served. unreported p m s st native id served) st.agrees.services;
      rest = ap (λ (r : Counters). record r { delivered = suc r.delivered }) st.agrees.rest;
      room = st.agrees.room;
      entry_room = st.agrees.entry_room;
    }

    killed_stands : s.tasks ≡ [] → Refines (record { image = p; parts = killed_parts }) (without_native p native (observed_one s))
    killed_stands idle = stands_idle p m s st idle killed_parts cs s.clients (observed_one s).rest
        (s.killed ++ native ∷ []) (detached_well p st.typing s st.typed idle native (observed_one s).rest (s.killed ++ native ∷ []))
        (fit_same p s.clients s.cells cs (same_detached p native s.cells) st.kept.fit) (comes_detached p native s.cells)
        (reset_same st.sound.prices is_entry (λ c. (detached p native c).request) (λ c. (detached p native c).session) s.cells) refl killed_agrees

    -- what the native served has no timer
    killed_timers : b.active.pending.timers ≡ m.active.pending.timers
    killed_timers = timers_same m.active b.active (requested s.cells) (requested cs) (queued p s.cells) (queued p cs) same st.agrees.requests.stands
        (detaches.requests s st)
      where
        ended : (q : Option Request) → timer_in q ≡ None → timer_in (terminated_request q) ≡ None
        ended None e = refl
        ended (Some r) e = go (is_owed (Some r))
          where
            go : (x : Bool) → timer_in (cond x (Some (completed_with terminated r)) (Some r)) ≡ None
            go true = refl
            go false = e

        go : (n : ℕ) (x : Bool) → serves p s.cells native n ≡ x →
            timer_in (requested s.cells n) ≡ timer_in (cond x (terminated_request (requested s.cells n)) (requested s.cells n))
        go n true served = let none = untimed p m s st native n served in none ∙ sym (ended (requested s.cells n) none)
        go n false other = refl

        same : (n : ℕ) → timer_in (requested s.cells n) ≡ timer_in (requested cs n)
        same n = go n (serves p s.cells native n) refl ∙ ap timer_in (sym (request_after p native s.cells n))

  pub kills : progress_by m.rest.ended m.stack.tasks ≡ Turned → (reported now : LineBuffer) → now ≡ record reported { lines = reported.lines ++ Killed native ∷ [] } →
      (s : State) → Refines was s → Takes was s (Kills native) reported now (record { image = p; parts = killed_parts })
  kills turned reported now lines s st =
      let between = machine_between was s st turned in
      record { between = between; state = without_native p native (observed_one s); goes = refl; lines = lines; stands = killed_stands s st between.idle }

  pub kills_no_timer : Stands was → b.active.pending.timers ≡ m.active.pending.timers
  kills_no_timer (s, st) = killed_timers s st
