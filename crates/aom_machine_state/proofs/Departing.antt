-- What is left of clients, queues, places and slots once a server went: by the entries of its queue and then its sessions, one after another.
use Rattle.std.proofs.lemmas.Bool.Decides.{nat_tests}
use Rattle.std.proofs.Common.{Bool, List, [], ap, arith, cond, false, length, refl, slice_index_or}
use Rattle.std.proofs.Common.{slice_set, subst, sym, true, ℕ, ◌<◌, ◌==◌, ◌≤◌, ◌∙◌, ◌∷◌, ◌≡◌}
use Rattle.std.specs.List.{list_any}
use Rattle.std.specs.Prelude.{filter, not, ◌||◌}
use Rattle.std.proofs.lemmas.Bool.{cases_lt, eq-eqb, eqb-true}
use Rattle.std.proofs.lemmas.List.{get_or-set_other, get_or-set_same, get_or_past, length-map, length-set, set_past}
use Rattle.aom_clients.specs.Clients as kept
use Rattle.aom_clients.specs.Table.{after_server_destroyed}
use Rattle.aom_clients.specs.declared.client.Client.{Client}
use Rattle.aom_clients.specs.declared.client.Client.TheVariants.{Unconnected}
use Rattle.aom_clients.specs.declared.entry.QueueEntry.{QueueEntry}
use Rattle.aom_clients.specs.declared.entry.QueueEntry.TheVariants.{Close, Connect, Message}
use Rattle.aom_clients.specs.declared.place.MessagePlace.TheVariants.{Free}
use Rattle.std.proofs.Math.ListN.{get_or-map}

-- ---- lists with one place written

-- also past the end, where what is written is what is read there
pub at_set_or : {A : Type 0} (none : A) (xs : List A) (i j : ℕ) (x : A) → (length xs ≤ i → x ≡ none) →
    slice_index_or (slice_set xs i x) j none ≡ cond (i == j) x (slice_index_or xs j none)
at_set_or none xs i j x past = grind (
  arith,
  nat_tests,
  get_or-set_same xs i x none,
  set_past xs i x,
  get_or_past xs i none,
  eqb-true i j,
  cases_lt i,
  get_or-set_other xs i j x none,
  eq-eqb i j,
)

pub at_set_none : {A : Type 0} (none : A) (xs : List A) (i j : ℕ) → slice_index_or (slice_set xs i none) j none ≡ cond (i == j) none (slice_index_or xs j none)
at_set_none none xs i j = at_set_or none xs i j none (λ large. refl)

-- one test or another, and the same then
either : {A : Type 0} (a b : Bool) (x y : A) → cond a x (cond b x y) ≡ cond (b || a) x y
either x b y z = grind arith

-- what is told of one number is told of it by a test
reported_there : {A : Type 0} (k n : ℕ) (at : ℕ → A) (x : A) → at k ≡ x → at n ≡ cond (k == n) x (at n)
reported_there k n at x e = grind (arith, nat_tests, eqb-true k n)

-- the same test twice
once_more : {A : Type 0} (b : Bool) (x y z : A) → cond b x (cond b y z) ≡ cond b x z
once_more x y z w = grind arith

-- ---- the entries of its queue

abbrev pub connects : ℕ → QueueEntry → Bool
connects c (Connect d) = d == c
connects c _ = false

abbrev pub is_at : ℕ → QueueEntry → Bool
is_at m (Message k) = k == m
is_at m _ = false

-- places without those of the messages among these
abbrev pub all_without : List QueueEntry → List ℕ → List ℕ
all_without [] ms = ms
all_without (Message m ∷ es) ms = all_without es (filter (λ n. not (n == m)) ms)
all_without (_ ∷ es) ms = all_without es ms

module _ (k : ℕ) where
  -- clients whose connects wait are unconnected
  pub client_after_queue : (es : List QueueEntry) (s : kept.ClientsState) (c : ℕ) →
      kept.client_at (kept.queue_gone k es s) c ≡ cond (list_any (connects c) es) Unconnected (kept.client_at s c)
  client_after_queue [] s c = refl
  client_after_queue (Connect d ∷ es) s c = grind (arith, nat_tests, client_after_queue es, at_set_none Unconnected s.clients d c, either)
  client_after_queue (Message m ∷ es) s c = client_after_queue es (kept.gone k (Message m ∷ es) s) c
  client_after_queue (Close d ∷ es) s c = client_after_queue es (kept.gone k (Close d ∷ es) s) c

  -- places whose messages wait are free
  pub place_after_queue : (es : List QueueEntry) (s : kept.ClientsState) (m : ℕ) →
      kept.place_at (kept.queue_gone k es s) m ≡ cond (list_any (is_at m) es) Free (kept.place_at s m)
  place_after_queue [] s m = refl
  place_after_queue (Connect d ∷ es) s m = place_after_queue es (kept.gone k (Connect d ∷ es) s) m
  place_after_queue (Message j ∷ es) s m = grind (arith, nat_tests, place_after_queue es, at_set_none Free s.places j m, either)
  place_after_queue (Close d ∷ es) s m = place_after_queue es (kept.gone k (Close d ∷ es) s) m

  -- and hold no slot
  sent_completed : (m : ℕ) (s : kept.ClientsState) (c : ℕ) → kept.sent_at (kept.after_complete m s) c ≡ filter (λ n. not (n == m)) (kept.sent_at s c)
  sent_completed m s c = get_or-map (filter (λ n. not (n == m))) s.sent c []

  pub sent_after_queue : (es : List QueueEntry) (s : kept.ClientsState) (c : ℕ) → kept.sent_at (kept.queue_gone k es s) c ≡ all_without es (kept.sent_at s c)
  sent_after_queue [] s c = refl
  sent_after_queue (Connect d ∷ es) s c = sent_after_queue es (kept.gone k (Connect d ∷ es) s) c
  sent_after_queue (Message m ∷ es) s c = grind (arith, nat_tests, sent_after_queue es, sent_completed m)
  sent_after_queue (Close d ∷ es) s c = sent_after_queue es (kept.gone k (Close d ∷ es) s) c

  -- the queue is empty, and all others are as they were
  pub queue_after_queue : (es : List QueueEntry) (s : kept.ClientsState) (n : ℕ) → k < length s.queues → kept.queue_at s k ≡ es →
      kept.queue_at (kept.queue_gone k es s) n ≡ cond (k == n) [] (kept.queue_at s n)
  queue_after_queue [] s n small at = reported_there k n (kept.queue_at s) [] at
  queue_after_queue (e ∷ es) s n small at = queue_after_queue es (kept.gone k (e ∷ es) s) n
      (subst (λ i. k < i) (sym (long e)) small) (now e k ∙ set_at_queue k ∙ ap (λ b. cond b es (kept.queue_at s k)) (eq-eqb k k refl))
      ∙ ap (λ x. cond (k == n) [] x) (now e n ∙ set_at_queue n) ∙ once_more (k == n) [] es (kept.queue_at s n)
    where
      long : (e : QueueEntry) → length (kept.gone k (e ∷ es) s).queues ≡ length s.queues
      long (Connect d) = length-set s.queues k es
      long (Message m) = length-set s.queues k es
      long (Close d) = length-set s.queues k es

      now : (e : QueueEntry) (i : ℕ) → kept.queue_at (kept.gone k (e ∷ es) s) i ≡ kept.queue_at (kept.with_queue k es s) i
      now (Connect d) i = refl
      now (Message m) i = refl
      now (Close d) i = refl

      set_at_queue : (i : ℕ) → kept.queue_at (kept.with_queue k es s) i ≡ cond (k == i) es (kept.queue_at s i)
      set_at_queue i = at_set_or [] s.queues k i es (λ large. absurd (omega (arith, small, large)))

  pub sessions_after_queue : (es : List QueueEntry) (s : kept.ClientsState) → (kept.queue_gone k es s).sessions ≡ s.sessions
  sessions_after_queue [] s = refl
  sessions_after_queue (Connect d ∷ es) s = sessions_after_queue es (kept.gone k (Connect d ∷ es) s)
  sessions_after_queue (Message m ∷ es) s = sessions_after_queue es (kept.gone k (Message m ∷ es) s)
  sessions_after_queue (Close d ∷ es) s = sessions_after_queue es (kept.gone k (Close d ∷ es) s)

  -- ---- its sessions

  gone_again : (x : Client) → after_server_destroyed (after_server_destroyed x) ≡ after_server_destroyed x
  gone_again x = grind arith

  pub client_after_sessions : (cs : List ℕ) (s : kept.ClientsState) (c : ℕ) →
      kept.client_at (kept.sessions_gone k cs s) c ≡ cond (list_any (λ d. d == c) cs) (after_server_destroyed (kept.client_at s c)) (kept.client_at s c)
  client_after_sessions [] s c = refl
  client_after_sessions (d ∷ cs) s c = client_after_sessions cs (kept.session_gone k (d ∷ cs) s) c
      ∙ ap (λ x. cond (list_any (λ d. d == c) cs) (after_server_destroyed x) x) now ∙ go (list_any (λ d. d == c) cs) (d == c)
    where
      now : kept.client_at (kept.session_gone k (d ∷ cs) s) c ≡ cond (d == c) (after_server_destroyed (kept.client_at s c)) (kept.client_at s c)
      now = at_set_or Unconnected s.clients d c (after_server_destroyed (kept.client_at s d)) (λ large. ap after_server_destroyed (get_or_past s.clients d Unconnected large)) ∙ at (d == c) refl
        where
          at : (b : Bool) → (d == c) ≡ b → cond b (after_server_destroyed (kept.client_at s d)) (kept.client_at s c) ≡ cond b (after_server_destroyed (kept.client_at s c)) (kept.client_at s c)
          at true e = ap (λ i. after_server_destroyed (kept.client_at s i)) (eqb-true d c e)
          at false e = refl

      go : (a b : Bool) → cond a (after_server_destroyed (cond b (after_server_destroyed (kept.client_at s c)) (kept.client_at s c)))
          (cond b (after_server_destroyed (kept.client_at s c)) (kept.client_at s c)) ≡ cond (b || a) (after_server_destroyed (kept.client_at s c)) (kept.client_at s c)
      go true true = gone_again (kept.client_at s c)
      go false true = refl
      go _ false = refl

  pub sent_after_sessions : (cs : List ℕ) (s : kept.ClientsState) (c : ℕ) →
      kept.sent_at (kept.sessions_gone k cs s) c ≡ cond (list_any (λ d. d == c) cs) [] (kept.sent_at s c)
  sent_after_sessions [] s c = refl
  sent_after_sessions (d ∷ cs) s c = grind (arith, nat_tests, sent_after_sessions cs, at_set_none, either)

  pub places_after_sessions : (cs : List ℕ) (s : kept.ClientsState) → (kept.sessions_gone k cs s).places ≡ s.places
  places_after_sessions [] s = refl
  places_after_sessions (c ∷ cs) s = places_after_sessions cs (kept.session_gone k (c ∷ cs) s)

  pub queues_after_sessions : (cs : List ℕ) (s : kept.ClientsState) → (kept.sessions_gone k cs s).queues ≡ s.queues
  queues_after_sessions [] s = refl
  queues_after_sessions (c ∷ cs) s = queues_after_sessions cs (kept.session_gone k (c ∷ cs) s)

  pub sessions_after_sessions : (cs : List ℕ) (s : kept.ClientsState) (n : ℕ) →
      k < length s.sessions → kept.sessions_at s k ≡ cs → kept.sessions_at (kept.sessions_gone k cs s) n ≡ cond (k == n) [] (kept.sessions_at s n)
  sessions_after_sessions [] s n small at = reported_there k n (kept.sessions_at s) [] at
  sessions_after_sessions (c ∷ cs) s n small at = sessions_after_sessions cs (kept.session_gone k (c ∷ cs) s) n
      (subst (λ i. k < i) (sym (length-set s.sessions k cs)) small) (now k ∙ ap (λ b. cond b cs (kept.sessions_at s k)) (eq-eqb k k refl))
      ∙ ap (λ x. cond (k == n) [] x) (now n) ∙ once_more (k == n) [] cs (kept.sessions_at s n)
    where
      now : (i : ℕ) → kept.sessions_at (kept.session_gone k (c ∷ cs) s) i ≡ cond (k == i) cs (kept.sessions_at s i)
      now i = at_set_or [] s.sessions k i cs (λ large. absurd (omega (arith, small, large)))

  -- ---- how many of each there are

  pub lengths_after_queue : (es : List QueueEntry) (s : kept.ClientsState) →
      (length (kept.queue_gone k es s).clients ≡ length s.clients) × (length (kept.queue_gone k es s).places ≡ length s.places)
      × (length (kept.queue_gone k es s).queues ≡ length s.queues) × (length (kept.queue_gone k es s).sent ≡ length s.sent)
  lengths_after_queue [] s = (refl, refl, refl, refl)
  lengths_after_queue (Connect d ∷ es) s = grind (arith, nat_tests, lengths_after_queue es, length-set s.clients d Unconnected, length-set s.queues k es)
  lengths_after_queue (Message m ∷ es) s =
      let r = lengths_after_queue es (kept.gone k (Message m ∷ es) s) in
      (r.0, r.1 ∙ length-set s.places m Free, r.2 ∙ length-set s.queues k es, r.3 ∙ length-map s.sent (λ ms. filter (λ n. not (n == m)) ms))
  lengths_after_queue (Close d ∷ es) s = grind (arith, nat_tests, lengths_after_queue es, length-set s.queues k es)

  pub lengths_after_sessions : (cs : List ℕ) (s : kept.ClientsState) → (length (kept.sessions_gone k cs s).clients ≡ length s.clients)
      × (length (kept.sessions_gone k cs s).sessions ≡ length s.sessions) × (length (kept.sessions_gone k cs s).sent ≡ length s.sent)
  lengths_after_sessions [] s = (refl, refl, refl)
  lengths_after_sessions (c ∷ cs) s =
      grind (arith, nat_tests, lengths_after_sessions cs, length-set s.clients c, length-set s.sessions k cs, length-set s.sent c)
