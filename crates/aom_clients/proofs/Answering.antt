-- What reads answer, and the lists at first.
use Rattle.std.proofs.lemmas.Bool.Decides.{nat_tests}
use Rattle.std.proofs.Common.{Option, ◌≡◌, ◌≢◌, ◌<◌, ◌≤◌, ◌+◌, ◌⊎◌, ◌==◌, ℕ, zero, suc, Bool, true, false, List, [], ◌∷◌}
use Rattle.std.proofs.Common.{Some, None, length, replicate, get_or, refl, sym, ap, ◌∙◌, subst, inl, inr, arith, rules}
use Rattle.std.specs.Prelude.{map, filter, slice_index_or, nat_lt, is_some, All, IfSome}
use Rattle.std.proofs.lemmas.List.Elements.{All-nil, All-cons}
use Rattle.std.proofs.lemmas.Bool.{cases_eq, cases_lt, cond-false, cond-true, eq-eqb, false≢true, ne_eqb}
use Rattle.std.proofs.lemmas.Option.{none-some, same_Some}
use Rattle.std.proofs.lemmas.List.{length-map, length-replicate, get_or_past}
use Rattle.aom_clients.specs.Lists.{Table, IsIn, empty, list_at, first_of, after_node}
use Rattle.aom_clients.specs.declared.client.Client.{Client}
use Rattle.aom_clients.specs.declared.client.Client.TheVariants.{Unconnected, Open}
use Rattle.aom_clients.specs.declared.place.MessagePlace.{MessagePlace}
use Rattle.aom_clients.specs.declared.place.MessagePlace.TheVariants.{Free, Held, Discarded}
use Rattle.aom_clients.specs.declared.entry.QueueEntry.{QueueEntry}
use Rattle.aom_clients.specs.declared.place.Completion.{Completion}
use Rattle.aom_clients.specs.Table.{completion, server_of}
use Rattle.aom_clients.specs.Clients.{ClientsState, at_first, client_at, queue_at, sessions_at, sent_at, has_slot}
use Rattle.aom_clients.specs.Clients.{sending_to, is_connect, first_client, first_entry, client_after}
use Rattle.aom_clients.specs.Nodes.{entry_of, connecting_in, slots_of, named_by, state_of, AreSent, ClientTablesAgree}
use Rattle.aom_clients.proofs.Entries.{connects-counted}
use Rattle.aom_clients.proofs.Steps.{client, client-is, queue-is}

less : (m n : ℕ) → nat_lt m n ≡ true → m < n
less m n h = grind arith

-- a send that is not refused has a slot
pub slot-taken : (b : Bool) (m : ℕ) → sending_to None b (Some m) ≡ None → b ≡ true
slot-taken true m e = refl
slot-taken false m e = absurd (cc)

slot-below : (x : Client) (used : ℕ) → has_slot used x ≡ true → used < slots_of x
slot-below (Open k s n) used h = less used n h
slot-below _ used h = absurd (false≢true h)

-- nodes after a node, as contracts of sessions say it
pub first-same : (xs : List ℕ) → first_of xs ≡ first_client xs
first-same [] = refl
first-same (x ∷ xs) = refl

pub after-same : (c : ℕ) (xs : List ℕ) → after_node c xs ≡ client_after c xs
after-same c [] = refl
after-same c (x ∷ xs) = grind (arith, nat_tests, first-same xs, after-same c xs)

-- whether a queue has an entry is told by its length
some-first : (s : ClientsState) (es : List QueueEntry) → nat_lt 0 (length es) ≡ is_some (first_entry s es)
some-first s [] = refl
some-first s (e ∷ es) = search rules

none-waits : (es : List QueueEntry) → nat_lt 0 (length es) ≡ false → es ≡ []
none-waits [] nothing_is = refl
none-waits (e ∷ es) nothing_is = grind (arith, nat_tests, false≢true)

first-in : (d : ℕ) (xs : List ℕ) → first_of xs ≡ Some d → IsIn d xs
first-in d [] e = absurd (none-some d e)
first-in d (x ∷ xs) e = inl (same_Some x d e)

after-in : (c d : ℕ) (xs : List ℕ) → after_node c xs ≡ Some d → IsIn d xs
after-in c d [] e = absurd (none-some d e)
after-in c d (x ∷ xs) e = go (cases_eq x c) (after-in c d xs)
  where
    go : (x ≡ c) ⊎ (x ≢ c) → (after_node c xs ≡ Some d → IsIn d xs) → IsIn d (x ∷ xs)
    go (inl same) more = inr (first-in d xs (sym (cond-true (x == c) (first_of xs) (after_node c xs) (eq-eqb x c same)) ∙ e))
    go (inr other) more = inr (more (sym (cond-false (x == c) (first_of xs) (after_node c xs) (ne_eqb x c other)) ∙ e))

module _ (cl : List Client) (pl : List MessagePlace) (q cn ss st : Table) (r : ClientTablesAgree cl pl q cn ss st) (s : ClientsState) (is : state_of cl pl q ss st ≡ s) where
  pub slot-room : (c : ℕ) → has_slot (length (sent_at s c)) (client_at s c) ≡ true → length (sent_at s c) < 64
  slot-room c h = grind (arith, nat_tests, slot-below, client-is)

  pub room-is : (k most : ℕ) → nat_lt (length (list_at ss k) + length (list_at cn k)) most
      ≡ nat_lt (length (sessions_at s k) + length (filter is_connect (queue_at s k))) most
  room-is k most = grind (arith, nat_tests, connects-counted, queue-is)

  session-small : (k c : ℕ) → IsIn c (list_at ss k) → c < 64
  session-small k c i = go (cases_lt c (length cl))
    where
      go : (c < length cl) ⊎ (length cl ≤ c) → c < 64
      go (inl few) = omega (arith, few, r.sized.clients_long)
      go (inr large) = absurd (none-some k (sym (ap server_of (get_or_past cl c Unconnected large)) ∙ r.connected.has k c i))

  counted : (k n : ℕ) → n ≡ length (list_at q k) → n ≡ length (queue_at s k)
  counted k n e = e ∙ sym (length-map (list_at q k) entry_of) ∙ ap length (queue-is cl pl q cn ss st r s is k)

  pub waits : (k n : ℕ) → n ≡ length (list_at q k) → nat_lt 0 n ≡ is_some (first_entry s (queue_at s k))
  waits k n e = ap (nat_lt 0) (counted k n e) ∙ some-first s (queue_at s k)

  pub waits-not : (k n : ℕ) → n ≡ length (list_at q k) → nat_lt 0 n ≡ false → queue_at s k ≡ []
  waits-not k n e nothing_is = none-waits (queue_at s k) (sym (ap (nat_lt 0) (counted k n e)) ∙ nothing_is)

  pub first-small : (k c : ℕ) → first_of (list_at ss k) ≡ Some c → c < 64
  first-small k c e = session-small k c (first-in c (list_at ss k) e)

  pub first-is : (k : ℕ) → first_of (list_at ss k) ≡ first_client (sessions_at s k)
  first-is k = first-same (list_at ss k) ∙ ap (λ t. first_client (sessions_at t k)) is

  pub next-small : (k c d : ℕ) → after_node c (list_at ss k) ≡ Some d → d < 64
  next-small k c d e = session-small k d (after-in c d (list_at ss k) e)

  pub after-is : (k c : ℕ) → after_node c (list_at ss k) ≡ client_after c (sessions_at s k)
  after-is k c = after-same c (list_at ss k) ∙ ap (λ t. client_after c (sessions_at t k)) is

-- at first ----------------------------------------------------------------------------------------------------------------------------------
same-all : {X : Type 0} (d : X) (n i : ℕ) → get_or (replicate n d) i d ≡ d
same-all d zero i = refl
same-all d (suc n) zero = refl
same-all d (suc n) (suc i) = same-all d n i

abbrev all_clients : List Client
all_clients = replicate 64 Unconnected

abbrev all_places : List MessagePlace
all_places = replicate 1024 Free

no-list : (n m k : ℕ) → list_at (empty n m) k ≡ []
no-list n m k = grind (arith, nat_tests, same-all)

no-node : (n m k x : ℕ) → IsIn x (list_at (empty n m) k) → ⊥
no-node n m k x i = elim (subst (IsIn x) (no-list n m k) i) [ ]

calm : (c : ℕ) → client all_clients c ≡ Unconnected
calm c = same-all Unconnected 64 c

unused : (m : ℕ) → slice_index_or all_places m Free ≡ Free
unused m = same-all Free 1024 m

pub at-first : (cells : ℕ) → cells ≤ 4096 → ClientTablesAgree all_clients all_places (empty 1152 cells) (empty 64 cells) (empty 64 cells) (empty 1024 128)
at-first cells few = record {
  sized = record {
    clients_long = length-replicate 64 Unconnected;
    places_long = length-replicate 1024 Free;
    queues_nodes = refl;
    connects_nodes = refl;
    sessions_nodes = refl;
    sent_nodes = refl;
    cells = omega (arith, few, length-replicate cells nil);
    connects_long = refl;
    sessions_long = refl;
    sent_long = length-replicate 128 nil;
  };
  entries = record {
    messages = λ k m small i. absurd (no-node 1152 cells k m i);
    connects = λ k c small i. absurd (no-node 1152 cells k (1024 + c) i);
    closes = λ k c small i. absurd (no-node 1152 cells k (1088 + c) i);
    waits = λ c m e. let free = unused m in absurd (cc);
  };
  listed = record { same = λ k. no-list 64 cells k ∙ sym (ap connecting_in (no-list 1152 cells k)) };
  connected = record { has = λ k c i. absurd (no-node 64 cells k c i); listed = λ k c e. absurd (none-some k (sym (ap server_of (calm c)) ∙ e)) };
  out = record {
    out = λ c m small i. absurd (no-node 1024 128 c m i);
    past = λ c m small i. absurd (no-node 1024 128 (64 + c) m i);
    waiting = λ c m e. let free = unused m in absurd (cc);
    held = λ c m e. let free = unused m in absurd (cc);
    senders = λ c m e. let free = unused m in absurd (cc);
    few = λ c small. omega (arith, ap length (no-list 1024 128 c));
  };
  named = record { servers = λ c k e. absurd (none-some k (sym (ap named_by (calm c)) ∙ e)); slots = λ c. omega (arith, ap slots_of (calm c)) };
}
  where
    nil : List ℕ
    nil = []

-- so many lists of nodes with none, and of entries
abbrev list_of : ℕ → List (List ℕ)
list_of n = replicate n []

abbrev no_entry : List QueueEntry
no_entry = []

shown-first : (n : ℕ) → map (map entry_of) (list_of n) ≡ replicate n no_entry
shown-first zero = refl
shown-first (suc n) = ap (λ es. no_entry ∷ es) (shown-first n)

pub at-first-seen : (cells : ℕ) → state_of all_clients all_places (empty 1152 cells) (empty 64 cells) (empty 1024 128) ≡ at_first cells
unfolding at_first
at-first-seen cells =
    ap (λ qs. record { clients = all_clients; places = all_places; queues = qs; sessions = list_of cells; sent = list_of 64 }) (shown-first cells)

-- numbers that are answered ---------------------------------------------------------------------------------------------------------------
pub if-some : {A : Type 0} (o : Option A) (P : A → Type 0) → ((a : A) → o ≡ Some a → P a) → IfSome o P
if-some None P h = tt
if-some (Some a) P h = h a refl

pub all-in : (P : ℕ → Type 0) (xs : List ℕ) → ((x : ℕ) → IsIn x xs → P x) → All P xs
all-in P [] h = All-nil P
all-in P (x ∷ xs) h = All-cons P x xs (h x (inl refl)) (all-in P xs (λ y i. h y (inr i)))

pub completed-below : (pl : List MessagePlace) (st : Table) → AreSent pl st → (m : ℕ) (t : Completion) →
    Some t ≡ completion (slice_index_or pl m Free) → t.client < 64
completed-below pl st s m t e = go (slice_index_or pl m Free) refl e
  where
    go : (p : MessagePlace) → slice_index_or pl m Free ≡ p → Some t ≡ completion p → t.client < 64
    go (Held c) is e = subst (λ (x : Completion). x.client < 64) (sym (same_Some t (record { client = c; is_reported = true }) e)) (s.held c m is).0
    go (Discarded c) is e = subst (λ (x : Completion). x.client < 64) (sym (same_Some t (record { client = c; is_reported = false }) e)) (s.senders c m is)
    go _ is e = absurd (none-some t (sym e))
