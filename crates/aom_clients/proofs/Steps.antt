-- What each call makes of the lists: they are kept, and tell the state that its definition tells.
use Rattle.std.proofs.Common.{◌≡◌, ◌≢◌, ◌<◌, ◌≤◌, ◌+◌, ◌-◌, ◌⊎◌, ◌++◌, ℕ, zero, suc, true, List, [], ◌∷◌}
use Rattle.std.proofs.Common.{Some, None, length, take, refl, sym, ap, ◌∙◌, subst, inl, inr, arith}
use Rattle.std.specs.Prelude.{map, slice_index_or, slice_set}
use Rattle.std.proofs.lemmas.Bool.{cases_lt, eq-eqb, eqb-true, false≢true}
use Rattle.std.proofs.lemmas.Option.{none-some, same_Some}
use Rattle.std.proofs.lemmas.List.{length-set, length-map, get_or-set_same, get_or_past, get_or-take}
use Rattle.aom_clients.specs.Lists.{Table, IsIn, IsFree, list_at, with_list}
use Rattle.aom_clients.specs.declared.client.Client.{Client}
use Rattle.aom_clients.specs.declared.client.Client.TheVariants.{Unconnected, Connecting, Open, Closing, Gone, Dead, Dying}
use Rattle.aom_clients.specs.declared.place.MessagePlace.{MessagePlace}
use Rattle.aom_clients.specs.declared.place.MessagePlace.TheVariants.{Free, Queued}
use Rattle.aom_clients.specs.declared.entry.QueueEntry.TheVariants.{Connect, Message}
use Rattle.aom_clients.specs.Table.{row, server_of, is_queued, is_out_of, after_server_destroyed}
use Rattle.aom_clients.specs.Clients.{sessions_at, ClientsState, client_at, place_at, queue_at, sent_at, with_client, with_place, with_sent, queued}
use Rattle.aom_clients.specs.Nodes.{entry_of, is_connecting_at, is_leaving, is_open_at, slots_of, named_by, is_held_of, state_of, Waits, ClientTablesAgree}
use Rattle.aom_clients.specs.Parts.{is_connecting, is_ending, is_apart}
use Rattle.aom_clients.proofs.Entries.{message-is, connect-is, message-no, listed-in}
use Rattle.aom_clients.proofs.Tables.{alike-same, alike-with, pushed-in, push-keeps, push-has, shown, shown-at, shown-push}
use Rattle.aom_clients.proofs.Kept.{at-write, sized-as, named-set, named-as, entries-client, IsApt, entries-push}
use Rattle.aom_clients.proofs.Kept.{listed-push-connect, listed-push-other, sessions-client, sent-send}
use Rattle.aom_clients.proofs.Leaving.{place-there, place}

abbrev pub client : List Client → ℕ → Client
client cl c = slice_index_or cl c Unconnected

-- clients, by what they are at ------------------------------------------------------------------------------------------------------------
pub record IsAway (x : Client) : Type 0 where
  pub server : server_of x ≡ None
  pub connecting : (k : ℕ) → is_connecting_at k x ≡ true → ⊥
  pub leaving : (k : ℕ) → is_leaving k x ≡ true → ⊥
  pub opened : (k : ℕ) → is_open_at k x ≡ true → ⊥

pub away : (x : Client) → (row x).connect ≡ None → IsAway x
away Unconnected e = record { server = refl; connecting = λ k h. false≢true h; leaving = λ k h. false≢true h; opened = λ k h. false≢true h }
away Gone e = record { server = refl; connecting = λ k h. false≢true h; leaving = λ k h. false≢true h; opened = λ k h. false≢true h }
away _ e = absurd (cc)

-- a client that is connecting has no session
pub record IsAsking (x : Client) : Type 0 where
  pub server : server_of x ≡ None
  pub leaving : (k : ℕ) → is_leaving k x ≡ true → ⊥
  pub opened : (k : ℕ) → is_open_at k x ≡ true → ⊥

pub asking : (x : Client) → is_connecting x ≡ true → IsAsking x
asking (Connecting k n) e = record { server = refl; leaving = λ k h. false≢true h; opened = λ k h. false≢true h }
asking _ e = absurd (false≢true e)

pub asks : (k : ℕ) (x : Client) → is_connecting_at k x ≡ true → is_connecting x ≡ true
asks k (Connecting j n) e = refl
asks k _ e = e

-- so has one that names its server so, or not
pub record IsWith (k : ℕ) (x : Client) : Type 0 where
  pub connecting : (j : ℕ) → is_connecting_at j x ≡ true → ⊥
  pub leaving : (j : ℕ) → is_leaving j x ≡ true → j ≡ k
  pub opened : (j : ℕ) → is_open_at j x ≡ true → j ≡ k
  pub named : named_by x ≡ Some k
  pub gone : server_of (after_server_destroyed x) ≡ None
  pub unnamed : (j : ℕ) → named_by (after_server_destroyed x) ≡ Some j → ⊥
  pub slots : slots_of (after_server_destroyed x) ≤ 64

pub is-with : (k : ℕ) (x : Client) → server_of x ≡ Some k → IsWith k x
is-with k Unconnected e = absurd (none-some k e)
is-with k (Connecting j n) e = absurd (none-some k e)
is-with k (Open j s n) e =
    let same : j ≡ k = same_Some j k e in
    record {
      connecting = λ i h. false≢true h;
      leaving = λ i h. absurd (false≢true h);
      opened = λ i h. sym (eqb-true j i h) ∙ same;
      named = e;
      gone = refl;
      unnamed = λ i h. none-some i h;
      slots = omega arith;
    }
is-with k (Closing j s) e =
    let same : j ≡ k = same_Some j k e in
    record {
      connecting = λ i h. false≢true h;
      leaving = λ i h. sym (eqb-true j i h) ∙ same;
      opened = λ i h. absurd (false≢true h);
      named = e;
      gone = refl;
      unnamed = λ i h. none-some i h;
      slots = omega arith;
    }
is-with k Gone e = absurd (none-some k e)
is-with k Dead e = absurd (none-some k e)
is-with k (Dying j s) e =
    let same : j ≡ k = same_Some j k e in
    record {
      connecting = λ i h. false≢true h;
      leaving = λ i h. sym (eqb-true j i h) ∙ same;
      opened = λ i h. absurd (false≢true h);
      named = e;
      gone = refl;
      unnamed = λ i h. none-some i h;
      slots = omega arith;
    }

pub open-named : (k : ℕ) (x : Client) → is_open_at k x ≡ true → named_by x ≡ Some k
open-named k (Open j s n) e = ap Some (eqb-true j k e)
open-named k _ e = absurd (false≢true e)

pub record IsEnding (x : Client) : Type 0 where
  pub connecting : (j : ℕ) → is_connecting_at j x ≡ true → ⊥
  pub opened : (j : ℕ) → is_open_at j x ≡ true → ⊥

pub ending : (x : Client) → is_ending x ≡ true → IsEnding x
ending (Closing j s) e = record { connecting = λ i h. false≢true h; opened = λ i h. false≢true h }
ending (Dying j s) e = record { connecting = λ i h. false≢true h; opened = λ i h. false≢true h }
ending _ e = absurd (false≢true e)

pub record NamesNone (x : Client) : Type 0 where
  pub server : server_of x ≡ None
  pub named : (j : ℕ) → named_by x ≡ Some j → ⊥
  pub slots : slots_of x ≤ 64

pub names-none : (x : Client) → is_apart x ≡ true → NamesNone x
names-none Unconnected e = record { server = refl; named = λ j h. none-some j h; slots = omega arith }
names-none Gone e = record { server = refl; named = λ j h. none-some j h; slots = omega arith }
names-none Dead e = record { server = refl; named = λ j h. none-some j h; slots = omega arith }
names-none _ e = absurd (false≢true e)

-- the lists of slots: the first 64
pub take-set-lt : {A : Type 0} (n : ℕ) (xs : List A) (i : ℕ) (v : A) → i < n → take n (slice_set xs i v) ≡ slice_set (take n xs) i v
take-set-lt zero xs i v small = absurd (omega (arith, small))
take-set-lt (suc n) [] i v small = refl
take-set-lt (suc n) (x ∷ xs) zero v small = refl
take-set-lt (suc n) (x ∷ xs) (suc i) v small = ap (λ ys. x ∷ ys) (take-set-lt n xs i v (omega (arith, small)))

pub never-free : (p : MessagePlace) → is_queued p ≡ true → p ≡ Free → ⊥
never-free p e f = false≢true (sym (ap is_queued f) ∙ e)

pub queued-of : (p : MessagePlace) → is_queued p ≡ true → (c : ℕ) × (p ≡ Queued c)
queued-of (Queued c) e = (c, refl)
queued-of _ e = absurd (false≢true e)

module _ (cl : List Client) (pl : List MessagePlace) (q cn ss st : Table) (r : ClientTablesAgree cl pl q cn ss st) (s : ClientsState) (is : state_of cl pl q ss st ≡ s) where
  -- the words of contracts and those of the lists
  pub client-is : (c : ℕ) → client cl c ≡ client_at s c
  client-is c = ap (λ t. client_at t c) is

  pub place-is : (m : ℕ) → place pl m ≡ place_at s m
  place-is m = ap (λ t. place_at t m) is

  pub queue-is : (k : ℕ) → map entry_of (list_at q k) ≡ queue_at s k
  queue-is k = sym (shown-at entry_of q.lists k) ∙ ap (λ t. queue_at t k) is

  pub sent-is : (c : ℕ) → c < 64 → list_at st c ≡ sent_at s c
  sent-is c small = sym (get_or-take 64 st.lists c [] small) ∙ ap (λ t. sent_at t c) is

  pub cells-are : length q.lists ≡ length s.queues
  cells-are = sym (length-map q.lists (map entry_of)) ∙ ap (λ t. length t.queues) is

  pub cell : (k : ℕ) → k < length s.queues → k < length q.lists
  cell k small = omega (arith, small, cells-are)

  pub among : (c : ℕ) → c < 64 → c < length cl
  among c small = omega (arith, small, r.sized.clients_long)

  pub sessions-cell : (k : ℕ) → k < length s.queues → k < length ss.lists
  sessions-cell k small = subst (λ n. k < n) (sym r.sized.sessions_long) (cell k small)

  pub connects-cell : (k : ℕ) → k < length s.queues → k < length cn.lists
  connects-cell k small = subst (λ n. k < n) (sym r.sized.connects_long) (cell k small)

  -- a client with a session is among those of its server, and each of these has its session there
  pub is-there : (k c : ℕ) → server_of (client_at s c) ≡ Some k → IsIn c (list_at ss k)
  is-there k c e = r.connected.listed k c (ap server_of (client-is c) ∙ e)

  pub has-there : (k c : ℕ) → IsIn c (sessions_at s k) → server_of (client_at s c) ≡ Some k
  has-there k c i = sym (ap server_of (client-is c)) ∙ r.connected.has k c (subst (IsIn c) (sym (ap (λ t. sessions_at t k) is)) i)

  -- a message that waits has a place
  pub waiting-below : (c m : ℕ) → place pl m ≡ Queued c → m < 1024
  waiting-below c m e = omega (arith, place-there pl m (Queued c) e (λ f. absurd (cc)), r.sized.places_long)

  -- connect -------------------------------------------------------------------------------------------------------------------------------
  module _ (c k slots : ℕ) (small : c < 64) (inside : k < length s.queues) (few : slots ≤ 64) (none : (row (client_at s c)).connect ≡ None) where
    apart : IsAway (client cl c)
    apart = away (client cl c) (ap (λ x. (row x).connect) (client-is c) ∙ none)

    pub connect-free : IsFree q (1024 + c)
    connect-free = record { nowhere = λ j i. apart.connecting j (r.entries.connects j c small i) }

    pub connect-unlisted : IsFree cn c
    connect-unlisted = record { nowhere = λ j i. connect-free.nowhere j (listed-in c (list_at q j) (subst (IsIn c) (r.listed.same j) i)).1 }

    to : Client
    to = Connecting k slots

    pub record Connected : Type 0 where
      pub kept : ClientTablesAgree (slice_set cl c (Connecting k slots)) pl (with_list k (list_at q k ++ (1024 + c) ∷ []) q) (with_list k (list_at cn k ++ c ∷ []) cn) ss st
      pub seen : state_of (slice_set cl c (Connecting k slots)) pl (with_list k (list_at q k ++ (1024 + c) ∷ []) q) ss st
          ≡ queued k (Connect c) (with_client c (Connecting k slots) s)

    pub connected : Connected
    connected = record {
      kept = record {
        sized = sized-as _ _ _ _ _ _ _ _ _ _ _ _ (length-set cl c (Connecting k slots)) refl (alike-with q k (list_at q k ++ (1024 + c) ∷ []))
            (alike-with cn k (list_at cn k ++ c ∷ [])) (alike-same ss) (alike-same st) r.sized;
        entries = entries-push (slice_set cl c (Connecting k slots)) pl q k (1024 + c) (cell k inside) apt
            (entries-client cl pl q c (Connecting k slots) (among c small) (λ j less i. absurd (connect-free.nowhere j i))
            (λ j less i. absurd (apart.leaving j (r.entries.closes j c less i)))
            (λ m e. absurd (apart.opened ((r.entries.waits c m e).server) ((r.entries.waits c m e).open_there))) r.entries);
        listed = listed-push-connect q cn k c (cell k inside) r.sized.connects_long small r.listed;
        connected = sessions-client cl ss c (Connecting k slots) (among c small) (sym apart.server) r.connected;
        out = r.out;
        named = named-as _ q (with_list k (list_at q k ++ (1024 + c) ∷ []) q) (alike-with q k (list_at q k ++ (1024 + c) ∷ [])) (named-set cl (length q.lists) c
            (Connecting k slots) (among c small) (λ j e. subst (λ n. n < length q.lists) (same_Some k j e) (cell k inside)) few r.named);
      };
      seen = ap (λ qs. record { clients = slice_set cl c (Connecting k slots); places = pl; queues = qs; sessions = ss.lists; sent = take 64 st.lists })
          (shown-push entry_of q.lists k (1024 + c) (Connect c) (connect-is c small)) ∙ ap (λ t. queued k (Connect c) (with_client c (Connecting k slots) t)) is;
    }
      where
        mine : is_connecting_at k (client (slice_set cl c (Connecting k slots)) c) ≡ true
        mine = ap (is_connecting_at k) (get_or-set_same cl c (Connecting k slots) Unconnected (among c small)) ∙ eq-eqb k k refl

        apt : IsApt (slice_set cl c (Connecting k slots)) pl k (1024 + c)
        apt = record {
          message = λ less. absurd (omega (arith, less));
          connect = λ d less e.
              let same : c ≡ d = omega (arith, e) in
              subst (λ n. is_connecting_at k (client (slice_set cl c (Connecting k slots)) n) ≡ true) same mine;
          close = λ d less e. absurd (omega (arith, e, small));
        }

  -- send ----------------------------------------------------------------------------------------------------------------------------------
  module _ (c k m : ℕ) (small : c < 64) (opened_there : is_open_at k (client_at s c) ≡ true) (slot : length (sent_at s c) < 64) (below : m < 1024)
      (free : place_at s m ≡ Free) where
    is-free : place pl m ≡ Free
    is-free = place-is m ∙ free

    is-open : is_open_at k (client cl c) ≡ true
    is-open = ap (is_open_at k) (client-is c) ∙ opened_there

    pub send-cell : k < length q.lists
    send-cell = r.named.servers c k (open-named k (client cl c) is-open)

    pub send-queue-free : IsFree q m
    send-queue-free = record { nowhere = λ j i. never-free (place pl m) (r.entries.messages j m below i) is-free }

    pub send-free : IsFree st m
    send-free = record { nowhere = λ l i. go l (cases_lt l 64) (cases_lt l 128) i }
      where
        out-free : (d : ℕ) (p : MessagePlace) → p ≡ Free → is_out_of d p ≡ true → ⊥
        out-free d p e h = false≢true (sym (ap (is_out_of d) e) ∙ h)

        held-free : (d : ℕ) (p : MessagePlace) → p ≡ Free → is_held_of d p ≡ true → ⊥
        held-free d p e h = false≢true (sym (ap (is_held_of d) e) ∙ h)

        go : (l : ℕ) → (l < 64) ⊎ (64 ≤ l) → (l < 128) ⊎ (128 ≤ l) → IsIn m (list_at st l) → ⊥
        go l (inl less) b i = out-free l (place pl m) is-free (r.out.out l m less i)
        go l (inr large) (inl less) i =
            let parts : 64 + (l - 64) ≡ l = omega (arith, large) in
            held-free (l - 64) (place pl m) is-free (r.out.past (l - 64) m (omega (arith, less, large)) (subst (λ n. IsIn m (list_at st n)) (sym parts) i))
        go l (inr large) (inr past) i = elim (subst (IsIn m) (get_or_past st.lists l [] (omega (arith, past, r.sized.sent_long))) i) [ ]

    abbrev q2 : Table
    q2 = with_list k (list_at q k ++ m ∷ []) q

    abbrev st2 : Table
    st2 = with_list c (list_at st c ++ m ∷ []) st

    abbrev pl2 : List MessagePlace
    pl2 = slice_set pl m (Queued c)

    placed : m < length pl
    placed = omega (arith, below, r.sized.places_long)

    pub record Sent : Type 0 where
      pub kept : ClientTablesAgree cl pl2 q2 cn ss st2
      pub seen : state_of cl pl2 q2 ss st2 ≡ queued k (Message m) (with_sent c (sent_at s c ++ m ∷ []) (with_place m (Queued c) s))

    pub sent : Sent
    sent = record {
      kept = record {
        sized = sized-as _ _ _ _ _ _ _ _ _ _ _ _ refl (length-set pl m (Queued c)) (alike-with q k (list_at q k ++ m ∷ [])) (alike-same cn) (alike-same ss)
            (alike-with st c (list_at st c ++ m ∷ [])) r.sized;
        entries = record {
          messages = λ j n less i. at-write Free (λ n (p : MessagePlace). n < 1024 → IsIn n (list_at q2 j) → is_queued p ≡ true) pl m (Queued c) placed
              (λ less i. refl) (λ n other less i. r.entries.messages j n less (old j n other (pushed-in q k m j n send-cell i))) n less i;
          connects = λ j d less i. r.entries.connects j d less (old j (1024 + d) (λ e. absurd (omega (arith, e, below))) (pushed-in q k m j (1024 + d) send-cell i));
          closes = λ j d less i. r.entries.closes j d less (old j (1088 + d) (λ e. absurd (omega (arith, e, below))) (pushed-in q k m j (1088 + d) send-cell i));
          waits = λ d n e. at-write Free (λ n (p : MessagePlace). p ≡ Queued d → Waits cl q2 d n) pl m (Queued c) placed (λ e. now d e)
              (λ n other e. still d n e) n e;
        };
        listed = listed-push-other q cn k m send-cell (message-no m below) r.listed;
        connected = r.connected;
        out = sent-send pl st c m small placed r.sized.sent_long is-free room r.out;
        named = named-as cl q q2 (alike-with q k (list_at q k ++ m ∷ [])) r.named;
      };
      seen = ap (λ qs. record { clients = cl; places = pl2; queues = qs; sessions = ss.lists; sent = take 64 st2.lists })
          (shown-push entry_of q.lists k m (Message m) (message-is m below)) ∙ ap (λ ls.
          record { clients = cl; places = pl2; queues = slice_set (shown entry_of q.lists) k (slice_index_or (shown entry_of q.lists) k [] ++ Message m ∷ []); sessions = ss.lists; sent = ls })
          (take-set-lt 64 st.lists c (list_at st c ++ m ∷ []) small ∙ ap (λ xs. slice_set (take 64 st.lists) c (xs ++ m ∷ []))
          (sym (get_or-take 64 st.lists c [] small))) ∙ ap (λ t. queued k (Message m) (with_sent c (sent_at t c ++ m ∷ []) (with_place m (Queued c) t))) is;
    }
      where
        room : length (list_at st c) < 64
        room = omega (arith, slot, ap length (sent-is c small))

        old : (j n : ℕ) → n ≢ m → ((j ≡ k) × (n ≡ m)) ⊎ IsIn n (list_at q j) → IsIn n (list_at q j)
        old j n other (inl new) = absurd (other new.1)
        old j n other (inr i) = i

        now : (d : ℕ) → Queued c ≡ Queued d → Waits cl q2 d m
        now d e =
            let same : c ≡ d = cc in
            subst (λ x. Waits cl q2 x m) same (record { server = k; open_there = is-open; there = push-has q k m send-cell })

        still : (d n : ℕ) → place pl n ≡ Queued d → Waits cl q2 d n
        still d n e =
            let w = r.entries.waits d n e in
            record { server = w.server; open_there = w.open_there; there = push-keeps q k m w.server n send-cell w.there }
