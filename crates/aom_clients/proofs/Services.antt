-- What the parts of a service, and the going of a server, make of the lists: they are kept, and tell the state that their definitions tell.
use Rattle.std.proofs.lemmas.Bool.Decides.{nat_tests}
use Rattle.std.proofs.Common.{◌≡◌, ◌≢◌, ◌<◌, ◌≤◌, ◌+◌, ◌++◌, ℕ, true, List, [], ◌∷◌, Option, Some}
use Rattle.std.proofs.Common.{None, length, take, refl, sym, ap, ◌∙◌, subst, inl, inr, arith}
use Rattle.std.specs.Prelude.{map, filter, slice_set, IfSome, IsNone, IsSome}
use Rattle.std.proofs.lemmas.Bool.{cases_eq, false≢true}
use Rattle.std.proofs.lemmas.Option.{none-some, same_Some}
use Rattle.std.proofs.lemmas.List.{length-set, get_or-set_same, get_or-set_other, take-map, map-set, set-get_or}
use Rattle.aom_clients.specs.Lists.{Table, IsIn, IsFree, list_at, with_list, without, first_of, rest_of}
use Rattle.aom_clients.proofs.Members.{in-without, without-in}
use Rattle.aom_clients.specs.declared.client.Client.{Client}
use Rattle.aom_clients.specs.declared.client.Client.TheVariants.{Unconnected, Connecting, Open}
use Rattle.aom_clients.specs.declared.place.MessagePlace.{MessagePlace}
use Rattle.aom_clients.specs.declared.place.MessagePlace.TheVariants.{Free, Queued}
use Rattle.aom_clients.specs.declared.entry.QueueEntry.{QueueEntry}
use Rattle.aom_clients.specs.declared.entry.TakenEntry.{TakenEntry}
use Rattle.aom_clients.specs.Table.{is_queued, held_place, completion, sender}
use Rattle.aom_clients.specs.Clients.{MessageBelow, IsNumbered, ClientsState, client_at, place_at, queue_at, sessions_at, with_client, with_queue, first_entry, taking}
use Rattle.aom_clients.specs.Clients.{taken, after_next, opened, going, gone, parted, after_complete, after_next_gone, is_no_connect_of, is_no_close_of}
use Rattle.aom_clients.specs.Nodes.{entry_of, is_connect_node, slots_of, named_by, state_of, Waits, AreSized, AreEntries, AreConnects, AreNamed, ClientTablesAgree}
use Rattle.aom_clients.specs.Parts.{ConnectBelow, client_in, taken_of, if_taken, unlisted, held_by, given_up}
use Rattle.aom_clients.specs.Parts.{slot_freed, place_freed, is_connecting, is_ending, is_apart}
use Rattle.aom_clients.proofs.Entries.{Kind, kind, message-is, connect-is, close-is, message-no, close-no, no-connect, no-close}
use Rattle.aom_clients.proofs.Entries.Kind.{message, connect, close}
use Rattle.aom_clients.proofs.Tables.{alike-same, alike-with, alike-without, Fewer, fewer-with, fewer-without, at-without, shown, shown-without}
use Rattle.aom_clients.proofs.Kept.{at-write, sized-as, named-set, named-as, entries-fewer, entries-client, entries-place}
use Rattle.aom_clients.proofs.Kept.{listed-rest-connect, listed-rest-other, listed-without-connect, listed-without-other}
use Rattle.aom_clients.proofs.Kept.{sessions-client, sessions-open, sessions-part, sent-taken, sent-complete}
use Rattle.aom_clients.proofs.Leaving.{place}
use Rattle.aom_clients.proofs.Waiting.{taken-reported}
use Rattle.aom_clients.proofs.Steps.{client, queued-of, IsAsking, asking, asks, IsEnding, ending, NamesNone}
use Rattle.aom_clients.proofs.Steps.{names-none, client-is, place-is, queue-is, cell, among, waiting-below}

-- a list by its first node
pub shape : (xs : List ℕ) (n : ℕ) → first_of xs ≡ Some n → xs ≡ n ∷ rest_of xs
shape [] n e = absurd (none-some n e)
shape (x ∷ xs) n e = ap (λ y. y ∷ xs) (same_Some x n e)

-- nothing was there to be taken
pub empty : (xs : List ℕ) → None ≡ first_of xs → xs ≡ []
empty [] e = refl
empty (x ∷ xs) e = absurd (none-some x e)

pub none-taken : (t : Table) (k : ℕ) → None ≡ first_of (list_at t k) → with_list k (rest_of (list_at t k)) t ≡ t
none-taken t k e = grind (arith, nat_tests, empty, set-get_or t.lists k)

queue-none : (cl : List Client) (pl : List MessagePlace) (q cn ss st : Table) (r : ClientTablesAgree cl pl q cn ss st) (s : ClientsState) (is : state_of cl pl q ss st ≡ s)
    (k : ℕ) → None ≡ first_of (list_at q k) → queue_at s k ≡ []
queue-none cl pl q cn ss st r s is k e = sym (queue-is cl pl q cn ss st r s is k) ∙ ap (map entry_of) (empty (list_at q k) e)

pub sessions-none : (cl : List Client) (pl : List MessagePlace) (q cn ss st : Table) (s : ClientsState) (is : state_of cl pl q ss st ≡ s) (k : ℕ)
    → None ≡ first_of (list_at ss k) → sessions_at s k ≡ []
sessions-none cl pl q cn ss st s is k e = sym (ap (λ t. sessions_at t k) is) ∙ empty (list_at ss k) e

-- a message that was taken has a place among so many
pub message-below : (x : Option TakenEntry) (n : ℕ) → 1024 ≡ n → IfSome x IsNumbered → IfSome x (λ t. MessageBelow n t.entry)
message-below None n e all = all
message-below (Some t) n e all = subst (λ m. MessageBelow m t.entry) e all.1

-- and the client of a connect among so many
pub connect-below : (s : ClientsState) (es : List QueueEntry) (x : Option TakenEntry) (n : ℕ) → 64 ≡ n → x ≡ first_entry s es → IfSome x IsNumbered →
    IfSome x (λ t. ConnectBelow n t.entry)
connect-below s es x n e reported all = grind (arith, nat_tests)

never-held : (p : MessagePlace) (c : ℕ) → held_place p ≡ Queued c → ⊥
never-held x c e = grind arith

module _ (cl : List Client) (pl : List MessagePlace) (q cn ss st : Table) (r : ClientTablesAgree cl pl q cn ss st) (s : ClientsState) (is : state_of cl pl q ss st ≡ s) where
  -- the first entry of a queue leaves -----------------------------------------------------------------------------------------------------
  module _ (k n : ℕ) (inside : k < length s.queues) (first : first_of (list_at q k) ≡ Some n) (small : n < 1152)
      (free : IsFree (with_list k (rest_of (list_at q k)) q) n) where
    abbrev ns : List ℕ
    ns = rest_of (list_at q k)

    abbrev q1 : Table
    q1 = with_list k ns q

    -- the view before
    abbrev old : ClientsState
    old = state_of cl pl q ss st

    here : k < length q.lists
    here = cell cl pl q cn ss st r s is k inside

    shaped : list_at q k ≡ n ∷ ns
    shaped = shape (list_at q k) n first

    head-in : IsIn n (list_at q k)
    head-in = subst (IsIn n) (sym shaped) (inl refl)

    fewer : Fewer q q1
    fewer = fewer-with q k ns here (λ y i. subst (IsIn y) (sym shaped) (inr i))

    rest-stays : (j y : ℕ) → y ≢ n → IsIn y (list_at q j) → IsIn y (list_at q1 j)
    rest-stays j y other i = grind (arith, nat_tests, cases_eq j, get_or-set_same, here, shaped, get_or-set_other)

    -- entries without one that is no message
    entries-less : 1024 ≤ n → AreEntries cl pl q1
    entries-less large = entries-fewer cl pl q q1 fewer
        (λ c m e j i. rest-stays j m (λ same. absurd (omega (arith, same, large, waiting-below cl pl q cn ss st r s is c m e))) i) r.entries

    -- entries without a message whose place has something else
    entries-taken : (p : MessagePlace) → n < 1024 → ((c : ℕ) → p ≡ Queued c → ⊥) → AreEntries cl (slice_set pl n p) q1
    entries-taken p message_node never = record {
      messages = λ j m less i. at-write Free (λ m (x : MessagePlace). m < 1024 → IsIn m (list_at q1 j) → is_queued x ≡ true) pl n p placed
          (λ less i. absurd (free.nowhere j i)) (λ m other less i. r.entries.messages j m less (fewer.each j m i)) m less i;
      connects = λ j c less i. r.entries.connects j c less (fewer.each j (1024 + c) i);
      closes = λ j c less i. r.entries.closes j c less (fewer.each j (1088 + c) i);
      waits = λ c m e. at-write Free (λ m (x : MessagePlace). x ≡ Queued c → Waits cl q1 c m) pl n p placed (λ e. absurd (never c e))
          (λ m other e. still c m other e) m e;
    }
      where
        placed : n < length pl
        placed = omega (arith, message_node, r.sized.places_long)

        still : (c m : ℕ) → m ≢ n → place pl m ≡ Queued c → Waits cl q1 c m
        still c m other e =
            let w = r.entries.waits c m e in
            record { server = w.server; open_there = w.open_there; there = rest-stays w.server m other w.there }

    -- what contracts see of the queues
    shown-rest : shown entry_of q1.lists ≡ slice_set (shown entry_of q.lists) k (map entry_of ns)
    shown-rest = map-set (map entry_of) q.lists k ns

    queue-shape : queue_at s k ≡ entry_of n ∷ map entry_of ns
    queue-shape = sym (queue-is cl pl q cn ss st r s is k) ∙ ap (map entry_of) shaped

    sized-same : AreSized cl pl q1 cn ss st
    sized-same = sized-as _ _ _ _ _ _ _ _ _ _ _ _ refl refl (alike-with q k ns) (alike-same cn) (alike-same ss) (alike-same st) r.sized

    named-same : AreNamed cl (length q1.lists)
    named-same = named-as cl q q1 (alike-with q k ns) r.named

    -- its connect is listed no more
    connect-listed : (c : ℕ) → c < 64 → n ≡ 1024 + c → AreConnects q1 (with_list k (rest_of (list_at cn k)) cn)
    connect-listed c less e = grind (arith, nat_tests, listed-rest-connect, here, shaped)

    -- a close leaves no trace but in its queue
    close-kept : (c : ℕ) → n ≡ 1088 + c → ClientTablesAgree cl pl q1 cn ss st
    close-kept c e = record {
      sized = sized-same;
      entries = entries-less (omega (arith, e));
      listed = listed-rest-other q cn k n ns here (ap is_connect_node e ∙ close-no c) shaped r.listed;
      connected = r.connected;
      out = r.out;
      named = named-same;
    }

    seen-rest : state_of cl pl q1 ss st ≡ with_queue k (map entry_of ns) old
    seen-rest = ap (λ qs. record { clients = cl; places = pl; queues = qs; sessions = ss.lists; sent = take 64 st.lists }) shown-rest

    -- what the call answers
    taken-is : Some (record { entry = entry_of n; client = client_in pl (entry_of n) }) ≡ first_entry s (queue_at s k)
    taken-is = taken-reported cl pl q cn ss st r s is (entry_of n) ∙ sym (ap (first_entry s) queue-shape)

    -- its client and its message's place are among those that there are
    numbered : (client_in pl (entry_of n) < 64) × MessageBelow 1024 (entry_of n)
    numbered = go n (kind n) refl
      where
        sent_by : (m : ℕ) → (c : ℕ) × (place pl m ≡ Queued c) → sender (place pl m) < 64
        sent_by m w = subst (λ p. sender p < 64) (sym w.1) (r.out.waiting w.0 m w.1).0

        go : (y : ℕ) → Kind y → n ≡ y → (client_in pl (entry_of y) < 64) × MessageBelow 1024 (entry_of y)
        go _ (message m less) e = subst (λ y. (client_in pl y < 64) × MessageBelow 1024 y) (sym (message-is m less))
            (sent_by m (queued-of (place pl m) (r.entries.messages k m less (subst (λ y. IsIn y (list_at q k)) e head-in))), less)
        go _ (connect c less) e = subst (λ y. (client_in pl y < 64) × MessageBelow 1024 y) (sym (connect-is c less)) (less, tt)
        go _ (close c) e = subst (λ y. (client_in pl y < 64) × MessageBelow 1024 y) (sym (close-is c)) (omega (arith, e, small), tt)

    -- it is taken
    pub record IsTaken (e : QueueEntry) : Type 0 where
      pub kept : ClientTablesAgree cl (held_by e pl) q1 (unlisted k e cn) ss st
      pub seen : state_of cl (held_by e pl) q1 ss st ≡ taking e (with_queue k (map entry_of ns) old)

    taken-entry : (y : ℕ) → Kind y → n ≡ y → IsTaken (entry_of y)
    taken-entry _ (message m less) e = subst IsTaken (sym (message-is m less)) (record {
      kept = record {
        sized = sized-as _ _ _ _ _ _ _ _ _ _ _ _ refl (length-set pl m (held_place (place pl m))) (alike-with q k ns) (alike-same cn) (alike-same ss)
            (alike-same st) r.sized;
        entries = subst (λ x. AreEntries cl (slice_set pl x (held_place (place pl x))) q1) e
            (entries-taken (held_place (place pl n)) (omega (arith, e, less)) (λ c h. never-held (place pl n) c h));
        listed = listed-rest-other q cn k n ns here (ap is_connect_node e ∙ message-no m less) shaped r.listed;
        connected = r.connected;
        out = sent-taken pl st m (omega (arith, less, r.sized.places_long)) r.out;
        named = named-same;
      };
      seen = ap (λ qs. record { clients = cl; places = slice_set pl m (held_place (place pl m)); queues = qs; sessions = ss.lists; sent = take 64 st.lists })
          shown-rest;
    })
    taken-entry _ (connect c less) e = subst IsTaken (sym (connect-is c less)) (record {
      kept = record {
        sized = sized-as _ _ _ _ _ _ _ _ _ _ _ _ refl refl (alike-with q k ns) (alike-with cn k (rest_of (list_at cn k))) (alike-same ss) (alike-same st) r.sized;
        entries = entries-less (omega (arith, e));
        listed = connect-listed c less e;
        connected = r.connected;
        out = r.out;
        named = named-same;
      };
      seen = seen-rest;
    })
    taken-entry _ (close c) e = subst IsTaken (sym (close-is c)) (record { kept = close-kept c e; seen = seen-rest })

    taken-kept : ClientTablesAgree cl (held_by (entry_of n) pl) q1 (unlisted k (entry_of n) cn) ss st
    taken-kept = (taken-entry n (kind n) refl).kept

    taken-seen : state_of cl (held_by (entry_of n) pl) q1 ss st ≡ after_next k s
    taken-seen =
        (taken-entry n (kind n) refl).seen ∙ ap (λ t. taking (entry_of n) (with_queue k (map entry_of ns) t)) is ∙ sym (ap (λ es. taken k es s) queue-shape)

    -- it goes with its server
    pub record IsGone (e : QueueEntry) : Type 0 where
      pub kept : ClientTablesAgree (given_up e cl) (place_freed e pl) q1 (unlisted k e cn) ss (slot_freed e st)
      pub seen : state_of (given_up e cl) (place_freed e pl) q1 ss (slot_freed e st) ≡ going e (with_queue k (map entry_of ns) old)

    gone-entry : (y : ℕ) → Kind y → n ≡ y → IsGone (entry_of y)
    gone-entry _ (message m less) e = subst IsGone (sym (message-is m less)) (record {
      kept = record {
        sized = sized-as _ _ _ _ _ _ _ _ _ _ _ _ refl (length-set pl m Free) (alike-with q k ns) (alike-same cn) (alike-same ss) (alike-without st m) r.sized;
        entries = subst (λ x. AreEntries cl (slice_set pl x Free) q1) e (entries-taken Free (omega (arith, e, less)) (λ c h. absurd (cc)));
        listed = listed-rest-other q cn k n ns here (ap is_connect_node e ∙ message-no m less) shaped r.listed;
        connected = r.connected;
        out = sent-complete pl st m (omega (arith, less, r.sized.places_long)) r.out;
        named = named-same;
      };
      seen = ap (λ qs. record { clients = cl; places = slice_set pl m Free; queues = qs; sessions = ss.lists; sent = take 64 (map (without m) st.lists) })
          shown-rest ∙ ap (λ ls. record { clients = cl; places = slice_set pl m Free; queues = slice_set (shown entry_of q.lists) k (map entry_of ns); sessions = ss.lists; sent = ls })
          (take-map (without m) 64 st.lists);
    })
    gone-entry _ (connect c less) e = subst IsGone (sym (connect-is c less)) (record {
      kept = record {
        sized = sized-as _ _ _ _ _ _ _ _ _ _ _ _ (length-set cl c Unconnected) refl (alike-with q k ns) (alike-with cn k (rest_of (list_at cn k)))
            (alike-same ss) (alike-same st) r.sized;
        entries = entries-client cl pl q1 c Unconnected (among cl pl q cn ss st r s is c less)
            (λ j _ i. absurd (free.nowhere j (subst (λ x. IsIn x (list_at q1 j)) (sym e) i)))
            (λ j _ i. absurd (mine.leaving j (r.entries.closes j c less (fewer.each j (1088 + c) i))))
            (λ m h. absurd (mine.opened (r.entries.waits c m h).server (r.entries.waits c m h).open_there)) (entries-less (omega (arith, e)));
        listed = connect-listed c less e;
        connected = sessions-client cl ss c Unconnected (among cl pl q cn ss st r s is c less) (sym mine.server) r.connected;
        out = r.out;
        named = named-as _ q q1 (alike-with q k ns)
            (named-set cl (length q.lists) c Unconnected (among cl pl q cn ss st r s is c less) (λ j h. absurd (none-some j h)) (omega arith) r.named);
      };
      seen = ap (λ qs. record { clients = slice_set cl c Unconnected; places = pl; queues = qs; sessions = ss.lists; sent = take 64 st.lists }) shown-rest;
    })
      where
        mine : IsAsking (client cl c)
        mine = asking (client cl c) (asks k (client cl c) (r.entries.connects k c less (subst (λ x. IsIn x (list_at q k)) e head-in)))
    gone-entry _ (close c) e = subst IsGone (sym (close-is c)) (record { kept = close-kept c e; seen = seen-rest })

    gone-kept : ClientTablesAgree (given_up (entry_of n) cl) (place_freed (entry_of n) pl) q1 (unlisted k (entry_of n) cn) ss (slot_freed (entry_of n) st)
    gone-kept = (gone-entry n (kind n) refl).kept

    gone-seen : state_of (given_up (entry_of n) cl) (place_freed (entry_of n) pl) q1 ss (slot_freed (entry_of n) st) ≡ after_next_gone k s
    gone-seen =
        (gone-entry n (kind n) refl).seen ∙ ap (λ t. going (entry_of n) (with_queue k (map entry_of ns) t)) is ∙ sym (ap (λ es. gone k es s) queue-shape)

  -- the first entry of a queue was taken, if there is one; t is what is left of the queues -----------------------------------------------
  module _ (k : ℕ) (inside : k < length s.queues) (t : Table) (rest : t ≡ with_list k (rest_of (list_at q k)) q) where
    pub record IsServed (x : Option TakenEntry) : Type 0 where
      pub reported : x ≡ first_entry s (queue_at s k)
      pub numbered : IfSome x IsNumbered
      pub drained : IsNone x → queue_at (state_of cl pl t ss st) k ≡ []
      pub kept : ClientTablesAgree cl (if_taken held_by x pl) t (if_taken (unlisted k) x cn) ss st
      pub seen : state_of cl (if_taken held_by x pl) t ss st ≡ after_next k s
      pub gone_kept : ClientTablesAgree (if_taken given_up x cl) (if_taken place_freed x pl) t (if_taken (unlisted k) x cn) ss (if_taken slot_freed x st)
      pub gone_seen : state_of (if_taken given_up x cl) (if_taken place_freed x pl) t ss (if_taken slot_freed x st) ≡ after_next_gone k s

    pub served : (x : Option TakenEntry) (ps : List MessagePlace) → x ≡ taken_of ps (first_of (list_at q k)) → ps ≡ pl →
        IfSome (first_of (list_at q k)) (λ n. n < 1152) → IfSome (first_of (list_at q k)) (λ n. IsFree t n) → IsServed x
    served x ps e same below free = subst IsServed (sym (e ∙ ap (λ l. taken_of l (first_of (list_at q k))) same)) (go (first_of (list_at q k)) refl below free)
      where
        go : (o : Option ℕ) → first_of (list_at q k) ≡ o → IfSome o (λ n. n < 1152) → IfSome o (λ n. IsFree t n) → IsServed (taken_of pl o)
        go None first below free =
            let none = queue-none cl pl q cn ss st r s is k (sym first) in
            let same = rest ∙ none-taken q k (sym first) in
            let kept : ClientTablesAgree cl pl t cn ss st = subst (λ u. ClientTablesAgree cl pl u cn ss st) (sym same) r in
            let seen : state_of cl pl t ss st ≡ s = ap (λ u. state_of cl pl u ss st) same ∙ is in
            record {
              reported = sym (ap (first_entry s) none);
              numbered = tt;
              drained = λ _. ap (λ u. queue_at u k) seen ∙ none;
              kept = kept;
              seen = seen ∙ sym (ap (λ es. taken k es s) none);
              gone_kept = kept;
              gone_seen = seen ∙ sym (ap (λ es. gone k es s) none);
            }
        go (Some n) first below free =
            let apart : IsFree (with_list k (rest_of (list_at q k)) q) n = subst (λ u. IsFree u n) rest free in
            record {
              reported = taken-is k n inside first below apart;
              numbered = numbered k n inside first below apart;
              drained = λ e. absurd (cc);
              kept = subst (λ u. ClientTablesAgree cl (held_by (entry_of n) pl) u (unlisted k (entry_of n) cn) ss st) (sym rest) (taken-kept k n inside first below apart);
              seen = ap (λ u. state_of cl (held_by (entry_of n) pl) u ss st) rest ∙ taken-seen k n inside first below apart;
              gone_kept = subst (λ u. ClientTablesAgree (given_up (entry_of n) cl) (place_freed (entry_of n) pl) u (unlisted k (entry_of n) cn) ss
                  (slot_freed (entry_of n) st)) (sym rest) (gone-kept k n inside first below apart);
              gone_seen = ap (λ u. state_of (given_up (entry_of n) cl) (place_freed (entry_of n) pl) u ss (slot_freed (entry_of n) st)) rest
                  ∙ gone-seen k n inside first below apart;
            }

  -- a connect was served --------------------------------------------------------------------------------------------------------------------
  module _ (c : ℕ) (small : c < 64) (mine : is_connecting (client cl c) ≡ true) where
    ask : IsAsking (client cl c)
    ask = asking (client cl c) mine

    abbrev q4 : Table
    q4 = record q { lists = map (without (1024 + c)) q.lists }

    abbrev cn4 : Table
    cn4 = record cn { lists = map (without c) cn.lists }

    -- messages are where they were
    message-stays : (j d m : ℕ) → place pl m ≡ Queued d → IsIn m (list_at q j) → IsIn m (list_at q4 j)
    message-stays j d m e i = subst (IsIn m) (sym (at-without q (1024 + c) j))
        (without-in m (1024 + c) (list_at q j) (λ same. absurd (omega (arith, same, waiting-below cl pl q cn ss st r s is d m e))) i)

    no-connect-left : (j : ℕ) → IsIn (1024 + c) (list_at q4 j) → ⊥
    no-connect-left j i = (in-without (1024 + c) (1024 + c) (list_at q j) (subst (IsIn (1024 + c)) (at-without q (1024 + c) j) i)).0 refl

    entries-served : (to : Client) → AreEntries (slice_set cl c to) pl q4
    entries-served to = entries-client cl pl q4 c to (among cl pl q cn ss st r s is c small) (λ j less i. absurd (no-connect-left j i))
        (λ j less i. absurd (ask.leaving j (r.entries.closes j c less ((fewer-without q (1024 + c)).each j (1088 + c) i))))
        (λ m e. absurd (ask.opened (r.entries.waits c m e).server (r.entries.waits c m e).open_there))
        (entries-fewer cl pl q q4 (fewer-without q (1024 + c)) (λ d m e j i. message-stays j d m e i) r.entries)

    shown-served : shown entry_of q4.lists ≡ map (filter (is_no_connect_of c)) (shown entry_of q.lists)
    shown-served = shown-without entry_of (is_no_connect_of c) (1024 + c) (no-connect c small) q.lists

    -- with a session
    module _ (k n slots : ℕ) (was : client cl c ≡ Connecting k slots) where
      pub session-cell : k < length ss.lists
      session-cell = omega (arith, r.sized.sessions_long, r.named.servers c k (ap named_by was))

      pub session-free : IsFree ss c
      session-free = record { nowhere = λ j i. none-some j (sym ask.server ∙ r.connected.has j c i) }

      pub opened-kept : ClientTablesAgree (slice_set cl c (Open k n slots)) pl q4 cn4 (with_list k (list_at ss k ++ c ∷ []) ss) st
      opened-kept = record {
        sized = sized-as _ _ _ _ _ _ _ _ _ _ _ _ (length-set cl c (Open k n slots)) refl (alike-without q (1024 + c)) (alike-without cn c)
            (alike-with ss k (list_at ss k ++ c ∷ [])) (alike-same st) r.sized;
        entries = entries-served (Open k n slots);
        listed = listed-without-connect q cn c small r.listed;
        connected = sessions-open cl ss c (Open k n slots) k (among cl pl q cn ss st r s is c small) session-cell refl ask.server r.connected;
        out = r.out;
        named = named-as _ q q4 (alike-without q (1024 + c)) (named-set cl (length q.lists) c (Open k n slots) (among cl pl q cn ss st r s is c small)
            (λ j h. r.named.servers c j (ap named_by was ∙ h)) (subst (λ x. x ≤ 64) (ap slots_of was) (r.named.slots c)) r.named);
      }

      pub opened-seen : state_of (slice_set cl c (Open k n slots)) pl q4 (with_list k (list_at ss k ++ c ∷ []) ss) st ≡ opened (client_at s c) (Some n) c s
      opened-seen =
          ap (λ qs. record { clients = slice_set cl c (Open k n slots); places = pl; queues = qs; sessions = slice_set ss.lists k (list_at ss k ++ c ∷ []); sent = take 64 st.lists }) shown-served
          ∙ sym (ap (λ x. opened x (Some n) c (state_of cl pl q ss st)) was) ∙ ap (λ t. opened (client_at t c) (Some n) c t) is

    -- without one
    pub disconnected-kept : ClientTablesAgree (slice_set cl c Unconnected) pl q4 cn4 ss st
    disconnected-kept = record {
      sized = sized-as _ _ _ _ _ _ _ _ _ _ _ _ (length-set cl c Unconnected) refl (alike-without q (1024 + c)) (alike-without cn c) (alike-same ss)
          (alike-same st) r.sized;
      entries = entries-served Unconnected;
      listed = listed-without-connect q cn c small r.listed;
      connected = sessions-client cl ss c Unconnected (among cl pl q cn ss st r s is c small) (sym ask.server) r.connected;
      out = r.out;
      named = named-as _ q q4 (alike-without q (1024 + c))
          (named-set cl (length q.lists) c Unconnected (among cl pl q cn ss st r s is c small) (λ j h. absurd (none-some j h)) (omega arith) r.named);
    }

    pub disconnected-seen : state_of (slice_set cl c Unconnected) pl q4 ss st ≡ opened (client_at s c) None c s
    disconnected-seen = ap (λ qs. record { clients = slice_set cl c Unconnected; places = pl; queues = qs; sessions = ss.lists; sent = take 64 st.lists })
        shown-served ∙ by (client cl c) mine refl ∙ ap (λ t. opened (client_at t c) None c t) is
      where
        by : (x : Client) → is_connecting x ≡ true → client cl c ≡ x → with_client c Unconnected (record (state_of cl pl q ss
            st) { queues = map (filter (is_no_connect_of c)) (shown entry_of q.lists) }) ≡ opened (client cl c) None c (state_of cl pl q ss st)
        by (Connecting k slots) e was = sym (ap (λ x. opened x None c (state_of cl pl q ss st)) was)
        by _ e was = absurd (false≢true e)

  -- a close was served ----------------------------------------------------------------------------------------------------------------------
  module _ (c : ℕ) (next : Client) (small : c < 64) (over : is_ending (client_at s c) ≡ true) (alone : is_apart next ≡ true) where
    end : IsEnding (client cl c)
    end = ending (client cl c) (ap is_ending (client-is cl pl q cn ss st r s is c) ∙ over)

    none : NamesNone next
    none = names-none next alone

    abbrev q5 : Table
    q5 = record q { lists = map (without (1088 + c)) q.lists }

    pub parted-kept : ClientTablesAgree (slice_set cl c next) pl q5 cn (record ss { lists = map (without c) ss.lists }) st
    parted-kept = record {
      sized = sized-as _ _ _ _ _ _ _ _ _ _ _ _ (length-set cl c next) refl (alike-without q (1088 + c)) (alike-same cn) (alike-without ss c) (alike-same st) r.sized;
      entries = entries-client cl pl q5 c next (among cl pl q cn ss st r s is c small)
          (λ j less i. absurd (end.connecting j (r.entries.connects j c less ((fewer-without q (1088 + c)).each j (1024 + c) i))))
          (λ j less i. absurd (implied j i)) (λ m e. absurd (end.opened (r.entries.waits c m e).server (r.entries.waits c m e).open_there))
          (entries-fewer cl pl q q5 (fewer-without q (1088 + c)) (λ d m e j i. stay j d m e i) r.entries);
      listed = listed-without-other q cn (1088 + c) (close-no c) r.listed;
      connected = sessions-part cl ss c next (among cl pl q cn ss st r s is c small) none.server r.connected;
      out = r.out;
      named = named-as _ q q5 (alike-without q (1088 + c))
          (named-set cl (length q.lists) c next (among cl pl q cn ss st r s is c small) (λ j h. absurd (none.named j h)) none.slots r.named);
    }
      where
        implied : (j : ℕ) → IsIn (1088 + c) (list_at q5 j) → ⊥
        implied j i = (in-without (1088 + c) (1088 + c) (list_at q j) (subst (IsIn (1088 + c)) (at-without q (1088 + c) j) i)).0 refl

        stay : (j d m : ℕ) → place pl m ≡ Queued d → IsIn m (list_at q j) → IsIn m (list_at q5 j)
        stay j d m e i = subst (IsIn m) (sym (at-without q (1088 + c) j))
            (without-in m (1088 + c) (list_at q j) (λ same. absurd (omega (arith, same, waiting-below cl pl q cn ss st r s is d m e))) i)

    pub parted-seen : state_of (slice_set cl c next) pl q5 (record ss { lists = map (without c) ss.lists }) st ≡ parted c next s
    parted-seen = ap (λ qs. record { clients = slice_set cl c next; places = pl; queues = qs; sessions = map (without c) ss.lists; sent = take 64 st.lists })
        (shown-without entry_of (is_no_close_of c) (1088 + c) (no-close c) q.lists) ∙ ap (λ t. parted c next t) is

  -- a message is completed ------------------------------------------------------------------------------------------------------------------
  module _ (m : ℕ) (below : m < 1024) (out : IsSome (completion (place_at s m))) where
    not-queued : (p : MessagePlace) → IsSome (completion p) → is_queued p ≡ true → ⊥
    not-queued (Queued c) some e = false≢true some
    not-queued _ some e = false≢true e

    pub complete-kept : ClientTablesAgree cl (slice_set pl m Free) q cn ss (record st { lists = map (without m) st.lists })
    complete-kept = record {
      sized = sized-as _ _ _ _ _ _ _ _ _ _ _ _ refl (length-set pl m Free) (alike-same q) (alike-same cn) (alike-same ss) (alike-without st m) r.sized;
      entries = entries-place cl pl q m Free (omega (arith, below, r.sized.places_long))
          (λ j less i. absurd (not-queued (place_at s m) out (sym (ap is_queued (place-is cl pl q cn ss st r s is m)) ∙ r.entries.messages j m less i)))
          (λ c e. absurd (cc)) r.entries;
      listed = r.listed;
      connected = r.connected;
      out = sent-complete pl st m (omega (arith, below, r.sized.places_long)) r.out;
      named = r.named;
    }

    pub complete-seen : state_of cl (slice_set pl m Free) q ss (record st { lists = map (without m) st.lists }) ≡ after_complete m s
    complete-seen = ap (λ ls. record { clients = cl; places = slice_set pl m Free; queues = shown entry_of q.lists; sessions = ss.lists; sent = ls })
        (take-map (without m) 64 st.lists) ∙ ap (after_complete m) is
