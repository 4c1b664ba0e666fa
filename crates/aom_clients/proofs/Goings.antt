-- What the end of a session with a server that goes makes of the lists.
use Rattle.std.proofs.lemmas.Bool.Decides.{nat_tests}
use Rattle.std.proofs.Common.{◌≡◌, ◌<◌, ◌+◌, ◌++◌, ℕ, true, List, [], ◌∷◌, Some, length, refl, sym, ap, ◌∙◌, subst, inl, arith}
use Rattle.std.specs.Prelude.{map, slice_set}
use Rattle.std.proofs.lemmas.Bool.{cases_lt, eqb-true}
use Rattle.std.proofs.lemmas.List.{length-set, get_or_past, take-set-le}
use Rattle.std.proofs.lemmas.Option.{none-some}
use Rattle.aom_clients.specs.Lists.{Table, IsIn, IsFree, list_at, with_list, first_of, rest_of}
use Rattle.aom_clients.specs.declared.client.Client.{Client}
use Rattle.aom_clients.specs.declared.place.MessagePlace.{MessagePlace}
use Rattle.aom_clients.specs.declared.place.MessagePlace.TheVariants.{Queued}
use Rattle.aom_clients.specs.Table.{server_of, is_out_of, after_server_destroyed}
use Rattle.aom_clients.specs.Clients.{ClientsState, queue_at, session_gone, after_session_gone}
use Rattle.aom_clients.specs.Nodes.{entry_of, is_held_of, state_of, ClientTablesAgree}
use Rattle.aom_clients.proofs.Tables.{alike-same, alike-with, alike-then, shown}
use Rattle.aom_clients.proofs.Kept.{sized-as, named-set, entries-client, sessions-first}
use Rattle.aom_clients.proofs.Leaving.{place}
use Rattle.aom_clients.proofs.Steps.{client, take-set-lt, IsWith, is-with, queue-is, cell}
use Rattle.aom_clients.proofs.Services.{shape}
use Rattle.aom_clients.proofs.Slots.{sent-release}

module _ (cl : List Client) (pl : List MessagePlace) (q cn ss st : Table) (r : ClientTablesAgree cl pl q cn ss st) (s : ClientsState) (is : state_of cl pl q ss st ≡ s) where
  -- the first session of a server goes with it --------------------------------------------------------------------------------------------
  module _ (k c : ℕ) (inside : k < length s.queues) (empty : queue_at s k ≡ []) (first : Some c ≡ first_of (list_at ss k))
      (t : Table) (rest : t ≡ with_list k (rest_of (list_at ss k)) ss) (free : IsFree t c) where
    abbrev cs : List ℕ
    cs = rest_of (list_at ss k)

    abbrev ss1 : Table
    ss1 = with_list k cs ss

    abbrev to : Client
    to = after_server_destroyed (client cl c)

    shaped : list_at ss k ≡ c ∷ cs
    shaped = shape (list_at ss k) c (sym first)

    named-here : server_of (client cl c) ≡ Some k
    named-here = r.connected.has k c (subst (IsIn c) (sym shaped) (inl refl))

    mine : IsWith k (client cl c)
    mine = is-with k (client cl c) named-here

    -- a client with a session is one of the clients
    pub session-below : c < 64
    session-below = grind (arith, nat_tests, cases_lt, none-some, get_or_past, named-here)

    few : c < length cl
    few = omega (arith, session-below, r.sized.clients_long)

    there : k < length ss.lists
    there = omega (arith, r.sized.sessions_long, cell cl pl q cn ss st r s is k inside)

    no-entry : (n : ℕ) → IsIn n (list_at q k) → ⊥
    no-entry n i = absurd (go (list_at q k) (queue-is cl pl q cn ss st r s is k ∙ empty) i)
      where
        go : (xs : List ℕ) → map entry_of xs ≡ [] → IsIn n xs → ⊥
        go [] e i = elim i [ ]
        go (x ∷ xs) e i = cc

    -- no message of it waits
    no-wait : (m : ℕ) → place pl m ≡ Queued c → ⊥
    no-wait m e =
        let w = r.entries.waits c m e in
        no-entry m (subst (λ j. IsIn m (list_at q j)) (mine.opened w.server w.open_there) w.there)

    pub all-held : (m : ℕ) → IsIn m (list_at st c) → is_held_of c (place pl m) ≡ true
    all-held m i = go (place pl m) refl (r.out.out c m session-below i)
      where
        go : (p : MessagePlace) → place pl m ≡ p → is_out_of c p ≡ true → is_held_of c p ≡ true
        go (Queued d) e h = absurd (no-wait m (e ∙ ap Queued (eqb-true d c h)))
        go _ e h = h

    abbrev st1 : Table
    st1 = with_list c [] (with_list (64 + c) (list_at st (64 + c) ++ list_at st c) st)

    pub session-gone-kept : ClientTablesAgree (slice_set cl c to) pl q cn ss1 st1
    session-gone-kept = record {
      sized = sized-as _ _ _ _ _ _ _ _ _ _ _ _ (length-set cl c to) refl (alike-same q) (alike-same cn) (alike-with ss k cs)
          (alike-then st (with_list (64 + c) (list_at st (64 + c) ++ list_at st c) st) st1 (alike-with st (64 + c) (list_at st (64 + c) ++ list_at st c))
          (alike-with (with_list (64 + c) (list_at st (64 + c) ++ list_at st c) st) c [])) r.sized;
      entries = entries-client cl pl q c to few (λ j less i. absurd (mine.connecting j (r.entries.connects j c less i)))
          (λ j less i. absurd (no-entry (1088 + c) (subst (λ x. IsIn (1088 + c) (list_at q x)) (mine.leaving j (r.entries.closes j c less i)) i)))
          (λ m e. absurd (no-wait m e)) r.entries;
      listed = r.listed;
      connected = sessions-first cl ss k c cs to few there mine.gone shaped (subst (λ u. IsFree u c) rest free) r.connected;
      out = sent-release pl st c session-below r.sized.sent_long r.out all-held;
      named = named-set cl (length q.lists) c to few (λ j h. absurd (mine.unnamed j h)) mine.slots r.named;
    }

    pub session-gone-seen : state_of (slice_set cl c to) pl q ss1 st1 ≡ after_session_gone k s
    session-gone-seen =
        ap (λ ls. record { clients = slice_set cl c to; places = pl; queues = shown entry_of q.lists; sessions = slice_set ss.lists k cs; sent = ls })
        (take-set-lt 64 (slice_set st.lists (64 + c) (list_at st (64 + c) ++ list_at st c)) c [] session-below
        ∙ ap (λ ls. slice_set ls c []) (take-set-le 64 st.lists (64 + c) (list_at st (64 + c) ++ list_at st c) (omega arith)))
        ∙ ap (λ xs. session_gone k xs (state_of cl pl q ss st)) (sym shaped) ∙ ap (λ t. after_session_gone k t) is
