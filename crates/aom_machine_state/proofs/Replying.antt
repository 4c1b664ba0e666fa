-- A message that was taken is completed: it is kept, it waits in no queue, and all that the machine keeps goes on standing for the cells without it.
use Rattle.std.proofs.lemmas.Bool.Decides.{nat_tests}
use Rattle.std.proofs.Common.{Bool, List, None, Some, ap, arith, cond, false, inl, inr, not, refl, subst, sym, true, ℕ, ◌+◌, ◌<◌, ◌==◌, ◌≤◌, ◌∙◌, ◌≡◌, ◌⊎◌}
use Rattle.std.specs.Prelude.{IsSome, is_some, ◌-◌}
use Rattle.std.proofs.lemmas.Bool.{cases_lt, eqb-true, false≢true}
use Rattle.aom_active_objects.specs.Agrees.{Active}
use Rattle.aom_cells.specs.Heap.{Heap}
use Rattle.aom_clients.specs.Clients as kept
use Rattle.aom_clients.specs.Table.{completion, is_queued}
use Rattle.aom_image.specs.Image.{Image}
use Rattle.aom_image.specs.declared.method.Thing.TheVariants.{Message}
use Rattle.aom_roles.specs.Things.{is_object}
use Rattle.aom_cells.specs.Store.{Changes, Store, count, message_at}
use Rattle.aom_clients.specs.Lists.{Table}
use Rattle.aom_roles.specs.Shapes.{kind_of}
use Rattle.aom_typing_rules.specs.Typing.{Typing}
use Rattle.aom_cells.specs.Sessions.{Standing}
use Rattle.aom_machine_state.proofs.SemanticsLemmas.{held_lives, same_place-true, unnamed}
use Rattle.aom_machine_state.proofs.SafetyLemmas.{cell_name, cell_of, cell_placed, has_sender, held_cell, message_plain, object_in, request_in, requested_cell}
use Rattle.aom_machine_state.proofs.SafetyLemmas.{service_unnamed, service_without, without_so}
use Rattle.aom_semantics.specs.Requests.{thing_kind}
use Rattle.aom_safety.specs.Kept.{HasSources, StateInvariant, sources_of}
use Rattle.aom_safety.specs.Laws.{IsWired}
use Rattle.aom_semantics.specs.Places.{Cell, Object, Place, Service, held, named, requested, same_place, service_of, without}
use Rattle.aom_safety.specs.Requests.{ConformsTo, states_claim}
use Rattle.aom_semantics.specs.Servers.{is_queue}
use Rattle.aom_semantics.specs.State.{State}
use Rattle.aom_safety.specs.WellTyped.{WellTyped}
use Rattle.aom_machine_state.proofs.Beside.{Beside, beside_filtered_cells, cells_beside, listed_beside, natives_beside, requests_beside}
use Rattle.aom_machine_state.proofs.Messages.{message_gone}
use Rattle.aom_machine_state.proofs.Premises.{completes_at, owner_held}
use Rattle.aom_machine_state.proofs.Servicing.{same_replied}
use Rattle.aom_machine_state.proofs.Sizing.{sized_completed}
use Rattle.aom_machine_state.specs.Agrees.{SameCells, SameNatives, SameRequests}
use Rattle.aom_machine_state.specs.Messages.{SameMessages, is_a_message}
use Rattle.aom_machine_state.specs.Services.{SameServices}
use Rattle.aom_machine_state.specs.Serving.{SameClients, message_name, owner_of, waits_in}
use Rattle.aom_machine_state.specs.Tokens.{SameTokens}
use Rattle.aom_machine_state.proofs.Serving.{names_apart}
use Rattle.aom_machine_state.proofs.Reported.{sent_unreported, token_unsent, unreported_sent}
use Rattle.aom_machine_state.proofs.Tokens.{tokens_still}
use Rattle.aom_semantics.specs.Tokens.{awaited}
use Rattle.aom_cells.specs.Tokens.{Kept}

module _ (p : Image) (t : Typing) (s : State) (w : WellTyped p t s) (g : Place) (o : Object) (there : held s.cells g ≡ Some o) (message : o.thing ≡ Message) where
  abbrev pub left : List Cell
  left = without g s.cells

  lives : named s.cells o.name ≡ Some o
  lives = held_lives s.cells g o w.good.no_duplicates there

  no_object : is_object o.thing ≡ false
  no_object = ap is_object message

  one_source : HasSources s.cells → sources_of (service_of s.cells o.name) ≡ 1
  one_source sources = sources o lives ∙ ap {B = ℕ} (λ b. cond b 0 1) no_object

  -- where it is no token it has a sender
  pub message_sent : HasSources s.cells → (service_of s.cells o.name).token ≡ None → has_sender s.cells o.name ≡ true
  message_sent sources none = sent_unreported (service_of s.cells o.name) (one_source sources) none

  -- and where it has one it is no token
  pub sent_no_token : HasSources s.cells → has_sender s.cells o.name ≡ true → (service_of s.cells o.name).token ≡ None
  sent_no_token sources sent = unreported_sent (service_of s.cells o.name) (one_source sources) sent

  -- a token has no sender
  pub reported_no_sender : HasSources s.cells → is_some (service_of s.cells o.name).token ≡ true → (service_of s.cells o.name).sender ≡ None
  reported_no_sender sources reported = token_unsent (service_of s.cells o.name) (one_source sources) reported

  -- it is not enlisted
  pub message_unasked : requested s.cells o.name ≡ None
  unfolding kind_of
  message_unasked = subst (λ x. ConformsTo (thing_kind p x) (states_claim p o w.layers) (requested s.cells o.name)) message (w.good.conforms_to o lives)

  -- it has a place
  pub place_of : (store : Store) → SameMessages p store s.cells → (place : ℕ) × (o.name ≡ message_name place)
  place_of store same = go (cases_lt o.name (message_name 0))
    where
      go : (o.name < message_name 0) ⊎ (message_name 0 ≤ o.name) → (place : ℕ) × (o.name ≡ message_name place)
      go (inl small) = absurd (false≢true (sym (same.past o.name small) ∙ ap is_a_message lives ∙ ap not no_object))
      go (inr large) = (o.name - message_name 0, omega (arith, large))

  module _ (place : ℕ) (name : o.name ≡ message_name place) where
    pub beside_completed : Beside s.cells left
    beside_completed = subst (Beside s.cells) (sym (without_so g s.cells)) (beside_filtered_cells (λ c. same_place c.owner g) (λ c. c.service) s.cells w.good.no_duplicates goes)
      where
        goes : (n : ℕ) (x : Cell) → cell_of s.cells n ≡ Some x → same_place x.owner g ≡ true → (4096 ≤ n) × (is_object x.object.thing ≡ false) × (x.request ≡ None)
        goes n x e here =
            let one : Some x.object ≡ Some o = sym (held_cell s.cells x.owner ∙ ap object_in (cell_placed s.cells n x w.good.no_duplicates e))
            ∙ ap (held s.cells) (same_place-true x.owner g here) ∙ there in
            let object : x.object ≡ o = cc in
            let at : n ≡ o.name = sym (cell_name s.cells n x e) ∙ ap (λ (y : Object). y.name) object in
            (omega (arith, at, name), ap (λ (y : Object). is_object y.thing) object ∙ no_object, sym (requested_cell s.cells n ∙ ap request_in e) ∙ ap (requested s.cells) at ∙ message_unasked)

    pub cells_completed : (h : Heap) → SameCells p h s.cells → SameCells p h left
    cells_completed h same = cells_beside p h s.cells left beside_completed same

    pub natives_completed : (a : Standing) → p.header.cells ≤ 4096 → SameNatives p a s.cells s.killed → SameNatives p a left s.killed
    natives_completed a few same = natives_beside p a s.killed s.cells left few beside_completed same

    pub requests_completed : (a : Active) → SameRequests p a s.cells → SameRequests p a left
    requests_completed a same =
        grind (arith, nat_tests, requests_beside p a s.cells, beside_completed, message_unasked, eqb-true o.name, service_without s.cells g o)

    -- it is kept, at a place that there is
    module _ (store : Store) (same : SameMessages p store s.cells) where
      pub message_kept : is_some (message_at store place) ≡ true
      message_kept = same.there place ∙ ap is_a_message (ap (named s.cells) (sym name) ∙ lives) ∙ ap not no_object

      pub place_below : place < 1024
      place_below = grind (arith, nat_tests, cases_lt place 1024, message_kept)

    -- where it waits in no queue and has a sender its completion is told
    module _ (wired : IsWired p) (kept_so : StateInvariant p s) (apart : is_queue g ≡ false) (k : kept.ClientsState) (same : SameClients k s.cells s.clients) where
      pub was_taken : is_queued (kept.place_at k place) ≡ false
      was_taken = same.waits place ∙ ap waits_in (ap (owner_of s.cells) (sym name) ∙ owner_held s.cells w.good.no_duplicates g o there) ∙ apart

      pub completion_reported : has_sender s.cells o.name ≡ true → IsSome (completion (kept.place_at k place))
      completion_reported sent = completes_at p t wired s w s.clients kept_so.fit k same g o place there apart sent name

    module _ (wired : IsWired p) (kept_so : StateInvariant p s) (apart : is_queue g ≡ false) (sent : has_sender s.cells o.name ≡ true)
        (k : kept.ClientsState) (store : Store) (tokens : Kept) (table : Table) (same : SameServices p k store tokens table s.cells s.clients) where
      -- no token goes
      tokens_completed : SameTokens p tokens left
      tokens_completed = tokens_still p tokens s.cells left (λ n. ap awaited (beside_completed.requests n)) (λ m. reports m (place == m) refl) same.tokens
        where
          reports : (m : ℕ) (b : Bool) → (place == m) ≡ b → (service_of left (message_name m)).token ≡ (service_of s.cells (message_name m)).token
          reports m true e =
              let one : message_name m ≡ o.name = ap message_name (sym (eqb-true place m e)) ∙ sym name in
              ap (λ n. (service_of left n).token) one ∙ ap (λ (v : Service). v.token) (service_unnamed left o.name (unnamed s.cells g o w.good.no_duplicates there))
              ∙ sym (sent_no_token kept_so.fit.sources sent) ∙ ap (λ n. (service_of s.cells n).token) (sym one)
          reports m false e = ap (λ (v : Service). v.token)
              (service_without s.cells g o (message_name m) w.good.no_duplicates there (ap (λ n. n == message_name m) name ∙ names_apart place m e))

      pub services_completed : (after : Store) → Changes store after place None → count after + 1 ≡ count store →
          SameServices p (kept.after_complete place k) after tokens table left s.clients
      services_completed after gone fewer = record {
        clients = same_replied p t wired s w kept_so.fit k same.clients p.header.cells same.sized g o place there apart (message_plain p o.thing message) name
            (place_below store same.messages);
        sized = sized_completed p.header.cells k same.sized place;
        messages = message_gone p store after s.cells g o place same.messages w.good.no_duplicates there no_object name gone fewer;
        tokens = tokens_completed;
        listed = listed_beside p table s.cells left beside_completed same.listed;
      }
