-- What holds of clients, places and lists still holds after a change of one part.
use Rattle.std.proofs.lemmas.Bool.Decides.{nat_tests}
use Rattle.std.proofs.Common.{◌≡◌, ◌≢◌, ◌<◌, ◌≤◌, ◌+◌, ◌⊎◌, ◌++◌, ℕ, true, false, List, [], ◌∷◌, Some, None, length, refl, sym, ap, ◌∙◌, subst, inl, inr, arith}
use Rattle.std.specs.Prelude.{map, slice_index_or, slice_set}
use Rattle.std.proofs.lemmas.Bool.{cases_eq, eq-eqb, false≢true}
use Rattle.std.proofs.lemmas.Option.{none-some, same_Some}
use Rattle.std.proofs.lemmas.List.{length-append, append-nil, get_or-set_same, get_or-set_other}
use Rattle.aom_clients.specs.Lists.{Table, IsIn, IsFree, list_at, with_list, without, rest_of}
use Rattle.aom_clients.proofs.CircularLists.{at-set, free-without}
use Rattle.aom_clients.proofs.Members.{in-without, without-in, kept, left}
use Rattle.aom_clients.specs.declared.client.Client.{Client}
use Rattle.aom_clients.specs.declared.client.Client.TheVariants.{Unconnected}
use Rattle.aom_clients.specs.declared.place.MessagePlace.{MessagePlace}
use Rattle.aom_clients.specs.declared.place.MessagePlace.TheVariants.{Free, Queued, Held, Discarded}
use Rattle.aom_clients.specs.Table.{server_of, is_queued, is_out_of, held_place}
use Rattle.aom_clients.specs.Nodes.{is_connect_node, connecting_in, is_connecting_at, is_leaving, is_open_at, slots_of, named_by}
use Rattle.aom_clients.specs.Nodes.{is_held_of, Waits, AreSized, AreEntries, AreConnects, AreSessions, AreSent, AreNamed}
use Rattle.aom_clients.proofs.Entries.{Kind, kind, listing-yes, listing-no, listing-append}
use Rattle.aom_clients.proofs.Tables.{Alike, Fewer, fewer-with, fewer-without, at-without, pushed-in, push-keeps, push-has}

-- what holds of the item that is written and of all others holds of each
pub at-write : {A : Type 0} (d : A) (P : ℕ → A → Type 0) (xs : List A) (c : ℕ) (v : A) → c < length xs → P c v → ((i : ℕ) → i ≢ c → P i (slice_index_or xs i d))
    → (i : ℕ) → P i (slice_index_or (slice_set xs c v) i d)
at-write d P xs c v small here others i = grind (arith, nat_tests, cases_eq i c, get_or-set_same xs c v d small, get_or-set_other xs c i v d)

-- sizes ---------------------------------------------------------------------------------------------------------------------------------
pub sized-as : (cl cl' : List Client) (pl pl' : List MessagePlace) (q q' cn cn' ss ss' st st' : Table) → length cl' ≡ length cl → length pl' ≡ length pl
    → Alike q q' → Alike cn cn' → Alike ss ss' → Alike st st' → AreSized cl pl q cn ss st → AreSized cl' pl' q' cn' ss' st'
sized-as cl cl' pl pl' q q' cn cn' ss ss' st st' c p aq an au at z = record {
  clients_long = c ∙ z.clients_long;
  places_long = p ∙ z.places_long;
  queues_nodes = aq.nodes ∙ z.queues_nodes;
  connects_nodes = an.nodes ∙ z.connects_nodes;
  sessions_nodes = au.nodes ∙ z.sessions_nodes;
  sent_nodes = at.nodes ∙ z.sent_nodes;
  cells = omega (arith, aq.lists, z.cells);
  connects_long = an.lists ∙ z.connects_long ∙ sym aq.lists;
  sessions_long = au.lists ∙ z.sessions_long ∙ sym aq.lists;
  sent_long = at.lists ∙ z.sent_long;
}

-- what clients name ---------------------------------------------------------------------------------------------------------------------
pub named-set : (cl : List Client) (cells c : ℕ) (to : Client) → c < length cl → ((k : ℕ) → named_by to ≡ Some k → k < cells) → slots_of to ≤ 64
    → AreNamed cl cells → AreNamed (slice_set cl c to) cells
named-set cl cells c to small there few n = record {
  servers = at-write Unconnected (λ i (x : Client). (k : ℕ) → named_by x ≡ Some k → k < cells) cl c to small there (λ i other. n.servers i);
  slots = at-write Unconnected (λ i (x : Client). slots_of x ≤ 64) cl c to small few (λ i other. n.slots i);
}

pub named-as : (cl : List Client) (q q' : Table) → Alike q q' → AreNamed cl (length q.lists) → AreNamed cl (length q'.lists)
named-as cl q q' a n = subst (AreNamed cl) (sym a.lists) n

-- entries -------------------------------------------------------------------------------------------------------------------------------
-- fewer entries, but for messages that wait
pub entries-fewer : (cl : List Client) (pl : List MessagePlace) (q q' : Table) → Fewer q q'
    → ((c m : ℕ) → slice_index_or pl m Free ≡ Queued c → (k : ℕ) → IsIn m (list_at q k) → IsIn m (list_at q' k)) → AreEntries cl pl q → AreEntries cl pl q'
entries-fewer cl pl q q' f stay e = record {
  messages = λ k m small i. e.messages k m small (f.each k m i);
  connects = λ k c small i. e.connects k c small (f.each k (1024 + c) i);
  closes = λ k c small i. e.closes k c small (f.each k (1088 + c) i);
  waits = λ c m is.
      let w = e.waits c m is in
      record { server = w.server; open_there = w.open_there; there = stay c m is w.server w.there };
}

-- a client is at something else
pub entries-client : (cl : List Client) (pl : List MessagePlace) (q : Table) (c : ℕ) (to : Client) → c < length cl
    → ((k : ℕ) → c < 64 → IsIn (1024 + c) (list_at q k) → is_connecting_at k to ≡ true)
    → ((k : ℕ) → c < 64 → IsIn (1088 + c) (list_at q k) → is_leaving k to ≡ true)
    → ((m : ℕ) → slice_index_or pl m Free ≡ Queued c → Waits (slice_set cl c to) q c m) → AreEntries cl pl q → AreEntries (slice_set cl c to) pl q
entries-client cl pl q c to small connecting leaving waiting e = record {
  messages = e.messages;
  connects = λ k d less i. at-write Unconnected (λ d (x : Client). d < 64 → IsIn (1024 + d) (list_at q k) → is_connecting_at k x ≡ true) cl c to small
      (connecting k) (λ d other less i. e.connects k d less i) d less i;
  closes = λ k d less i. at-write Unconnected (λ d (x : Client). d < 64 → IsIn (1088 + d) (list_at q k) → is_leaving k x ≡ true) cl c to small
      (leaving k) (λ d other less i. e.closes k d less i) d less i;
  waits = λ d m is. go d m is (cases_eq d c);
}
  where
    go : (d m : ℕ) → slice_index_or pl m Free ≡ Queued d → (d ≡ c) ⊎ (d ≢ c) → Waits (slice_set cl c to) q d m
    go d m is (inl same) = subst (λ k. Waits (slice_set cl c to) q k m) (sym same) (waiting m (is ∙ ap Queued same))
    go d m is (inr other) =
        let w = e.waits d m is in
        record {
          server = w.server;
          open_there = ap (is_open_at w.server) (get_or-set_other cl c d to Unconnected other) ∙ w.open_there;
          there = w.there;
        }

-- a place has something else
pub entries-place : (cl : List Client) (pl : List MessagePlace) (q : Table) (m : ℕ) (p : MessagePlace) → m < length pl
    → ((k : ℕ) → m < 1024 → IsIn m (list_at q k) → is_queued p ≡ true)
    → ((c : ℕ) → p ≡ Queued c → Waits cl q c m) → AreEntries cl pl q → AreEntries cl (slice_set pl m p) q
entries-place cl pl q m p small queued waiting e = record {
  messages = λ k n less i. at-write Free (λ n (x : MessagePlace). n < 1024 → IsIn n (list_at q k) → is_queued x ≡ true) pl m p small (queued k)
      (λ n other less i. e.messages k n less i) n less i;
  connects = e.connects;
  closes = e.closes;
  waits = λ c n is. at-write Free (λ n (x : MessagePlace). x ≡ Queued c → Waits cl q c n) pl m p small (waiting c) (λ n other is. e.waits c n is) n is;
}

-- an entry more
pub record IsApt (cl : List Client) (pl : List MessagePlace) (k n : ℕ) : Type 0 where
  pub message : n < 1024 → is_queued (slice_index_or pl n Free) ≡ true
  pub connect : (c : ℕ) → c < 64 → n ≡ 1024 + c → is_connecting_at k (slice_index_or cl c Unconnected) ≡ true
  pub close : (c : ℕ) → c < 64 → n ≡ 1088 + c → is_leaving k (slice_index_or cl c Unconnected) ≡ true

pub entries-push : (cl : List Client) (pl : List MessagePlace) (q : Table) (k n : ℕ) → k < length q.lists → IsApt cl pl k n → AreEntries cl pl q
    → AreEntries cl pl (with_list k (list_at q k ++ n ∷ []) q)
entries-push cl pl q k n small apt e = record {
  messages = λ j m less i. message j m less (pushed-in q k n j m small i);
  connects = λ j c less i. connect j c less (pushed-in q k n j (1024 + c) small i);
  closes = λ j c less i. close j c less (pushed-in q k n j (1088 + c) small i);
  waits = λ c m is.
      let w = e.waits c m is in
      record { server = w.server; open_there = w.open_there; there = push-keeps q k n w.server m small w.there };
}
  where
    message : (j m : ℕ) → m < 1024 → ((j ≡ k) × (m ≡ n)) ⊎ IsIn m (list_at q j) → is_queued (slice_index_or pl m Free) ≡ true
    message j m less (inl new) = subst (λ x. is_queued (slice_index_or pl x Free) ≡ true) (sym new.1) (apt.message (omega (arith, less, new.1)))
    message j m less (inr old) = e.messages j m less old

    connect : (j c : ℕ) → c < 64 → ((j ≡ k) × (1024 + c ≡ n)) ⊎ IsIn (1024 + c) (list_at q j) → is_connecting_at j (slice_index_or cl c Unconnected) ≡ true
    connect j c less (inl new) = subst (λ x. is_connecting_at x (slice_index_or cl c Unconnected) ≡ true) (sym new.0) (apt.connect c less (sym new.1))
    connect j c less (inr old) = e.connects j c less old

    close : (j c : ℕ) → c < 64 → ((j ≡ k) × (1088 + c ≡ n)) ⊎ IsIn (1088 + c) (list_at q j) → is_leaving j (slice_index_or cl c Unconnected) ≡ true
    close j c less (inl new) = subst (λ x. is_leaving x (slice_index_or cl c Unconnected) ≡ true) (sym new.0) (apt.close c less (sym new.1))
    close j c less (inr old) = e.closes j c less old

-- the connects that are listed ------------------------------------------------------------------------------------------------------------
listed-with : (q cn : Table) (k : ℕ) (xs ys : List ℕ) → k < length q.lists → length cn.lists ≡ length q.lists → ys ≡ connecting_in xs → AreConnects q cn
    → AreConnects (with_list k xs q) (with_list k ys cn)
listed-with q cn k xs ys small long is a = record {
  same = λ j. go j (cases_eq j k);
}
  where
    few : k < length cn.lists
    few = omega (arith, small, long)

    go : (j : ℕ) → (j ≡ k) ⊎ (j ≢ k) → list_at (with_list k ys cn) j ≡ connecting_in (list_at (with_list k xs q) j)
    go j (inl same) = ap (list_at (with_list k ys cn)) same ∙ get_or-set_same cn.lists k ys [] few ∙ is
        ∙ sym (ap (λ i. connecting_in (list_at (with_list k xs q) i)) same ∙ ap connecting_in (get_or-set_same q.lists k xs [] small))
    go j (inr other) = get_or-set_other cn.lists k j ys [] other ∙ a.same j ∙ sym (ap connecting_in (get_or-set_other q.lists k j xs [] other))

listed-one : (q cn : Table) (k : ℕ) (xs : List ℕ) → k < length q.lists → list_at cn k ≡ connecting_in xs → AreConnects q cn → AreConnects (with_list k xs q) cn
listed-one q cn k xs small is a = record { same = λ j. go j (cases_eq j k) }
  where
    go : (j : ℕ) → (j ≡ k) ⊎ (j ≢ k) → list_at cn j ≡ connecting_in (list_at (with_list k xs q) j)
    go j (inl same) = ap (list_at cn) same ∙ is
        ∙ sym (ap (λ i. connecting_in (list_at (with_list k xs q) i)) same ∙ ap connecting_in (get_or-set_same q.lists k xs [] small))
    go j (inr other) = a.same j ∙ sym (ap connecting_in (get_or-set_other q.lists k j xs [] other))

pub listed-push-connect : (q cn : Table) (k c : ℕ) → k < length q.lists → length cn.lists ≡ length q.lists → c < 64 → AreConnects q cn
    → AreConnects (with_list k (list_at q k ++ (1024 + c) ∷ []) q) (with_list k (list_at cn k ++ c ∷ []) cn)
listed-push-connect q cn k c small long less a = grind (arith, nat_tests, listed-with q cn k, listing-yes c, listing-append)

pub listed-push-other : (q cn : Table) (k n : ℕ) → k < length q.lists → is_connect_node n ≡ false → AreConnects q cn →
    AreConnects (with_list k (list_at q k ++ n ∷ []) q) cn
listed-push-other q cn k n small other a = grind (arith, nat_tests, listed-one q cn k, listing-append, listing-no n, append-nil)

-- the first entry leaves
pub listed-rest-connect : (q cn : Table) (k c : ℕ) (ns : List ℕ) → k < length q.lists → length cn.lists ≡ length q.lists → c < 64 →
    list_at q k ≡ (1024 + c) ∷ ns → AreConnects q cn → AreConnects (with_list k ns q) (with_list k (rest_of (list_at cn k)) cn)
listed-rest-connect q cn k c ns small long less is a = grind (arith, nat_tests, listed-with q cn k ns, listing-yes c ns less)

pub listed-rest-other : (q cn : Table) (k n : ℕ) (ns : List ℕ) → k < length q.lists → is_connect_node n ≡ false → list_at q k ≡ n ∷ ns → AreConnects q cn →
    AreConnects (with_list k ns q) cn
listed-rest-other q cn k n ns small other is a = listed-one q cn k ns small (a.same k ∙ ap connecting_in is ∙ listing-no n ns other) a

-- a node leaves
without-connect : (c : ℕ) → c < 64 → (xs : List ℕ) → connecting_in (without (1024 + c) xs) ≡ without c (connecting_in xs)
without-connect c less [] = refl
without-connect c less (x ∷ xs) =
    grind (arith, nat_tests, kind x, cases_eq x (1024 + c), without-connect c less xs, Kind x, left (1024 + c) x xs, listing-yes c xs less, left c c)

without-other : (n : ℕ) → is_connect_node n ≡ false → (xs : List ℕ) → connecting_in (without n xs) ≡ connecting_in xs
without-other n other [] = refl
without-other n other (x ∷ xs) = grind (arith, nat_tests, cases_eq x n, without-other n other xs, left n x xs, listing-no x xs, kept n x xs)

pub listed-without-connect : (q cn : Table) (c : ℕ) → c < 64 → AreConnects q cn
    → AreConnects (record q { lists = map (without (1024 + c)) q.lists }) (record cn { lists = map (without c) cn.lists })
listed-without-connect q cn c less a = record {
  same = λ k. at-without cn c k ∙ ap (without c) (a.same k) ∙ sym (ap connecting_in (at-without q (1024 + c) k) ∙ without-connect c less (list_at q k));
}

pub listed-without-other : (q cn : Table) (n : ℕ) → is_connect_node n ≡ false → AreConnects q cn → AreConnects (record q { lists = map (without n) q.lists }) cn
listed-without-other q cn n other a = record { same = λ k. a.same k ∙ sym (ap connecting_in (at-without q n k) ∙ without-other n other (list_at q k)) }

-- sessions --------------------------------------------------------------------------------------------------------------------------------
pub sessions-client : (cl : List Client) (ss : Table) (c : ℕ) (to : Client) → c < length cl → server_of to ≡ server_of (slice_index_or cl c Unconnected)
    → AreSessions cl ss → AreSessions (slice_set cl c to) ss
sessions-client cl ss c to small same s = record {
  has = λ k d i. at-write Unconnected (λ d (x : Client). IsIn d (list_at ss k) → server_of x ≡ Some k) cl c to small (λ i. same ∙ s.has k c i)
      (λ d other i. s.has k d i) d i;
  listed = λ k d e. at-write Unconnected (λ d (x : Client). server_of x ≡ Some k → IsIn d (list_at ss k)) cl c to small (λ e. s.listed k c (sym same ∙ e))
      (λ d other e. s.listed k d e) d e;
}

pub sessions-open : (cl : List Client) (ss : Table) (c : ℕ) (to : Client) (k : ℕ) → c < length cl → k < length ss.lists → server_of to ≡ Some k
    → server_of (slice_index_or cl c Unconnected) ≡ None → AreSessions cl ss → AreSessions (slice_set cl c to) (with_list k (list_at ss k ++ c ∷ []) ss)
sessions-open cl ss c to k small there is none s = record {
  has = λ j d i. at-write Unconnected (λ d (x : Client). IsIn d (list_at (with_list k (list_at ss k ++ c ∷ []) ss) j) → server_of x ≡ Some j) cl c to small
      (λ i. mine j (pushed-in ss k c j c there i)) (λ d other i. theirs j d other (pushed-in ss k c j d there i)) d i;
  listed = λ j d e. at-write Unconnected (λ d (x : Client). server_of x ≡ Some j → IsIn d (list_at (with_list k (list_at ss k ++ c ∷ []) ss) j)) cl c to small
      (λ e. subst (λ n. IsIn c (list_at (with_list k (list_at ss k ++ c ∷ []) ss) n)) (same_Some k j (sym is ∙ e)) (push-has ss k c there))
      (λ d other e. push-keeps ss k c j d there (s.listed j d e)) d e;
}
  where
    mine : (j : ℕ) → ((j ≡ k) × (c ≡ c)) ⊎ IsIn c (list_at ss j) → server_of to ≡ Some j
    mine j (inl new) = is ∙ ap Some (sym new.0)
    mine j (inr old) = absurd (none-some j (sym none ∙ s.has j c old))

    theirs : (j d : ℕ) → d ≢ c → ((j ≡ k) × (d ≡ c)) ⊎ IsIn d (list_at ss j) → server_of (slice_index_or cl d Unconnected) ≡ Some j
    theirs j d other (inl new) = absurd (other new.1)
    theirs j d other (inr old) = s.has j d old

-- the client is in no list any more
sessions-fewer : (cl : List Client) (ss ss' : Table) (c : ℕ) (to : Client) → c < length cl → server_of to ≡ None → Fewer ss ss' → IsFree ss' c
    → ((k d : ℕ) → d ≢ c → IsIn d (list_at ss k) → IsIn d (list_at ss' k)) → AreSessions cl ss → AreSessions (slice_set cl c to) ss'
sessions-fewer cl ss ss' c to small none f free stay s = record {
  has = λ k d i. at-write Unconnected (λ d (x : Client). IsIn d (list_at ss' k) → server_of x ≡ Some k) cl c to small (λ i. absurd (free.nowhere k i))
      (λ d other i. s.has k d (f.each k d i)) d i;
  listed = λ k d e. at-write Unconnected (λ d (x : Client). server_of x ≡ Some k → IsIn d (list_at ss' k)) cl c to small
      (λ e. absurd (none-some k (sym none ∙ e))) (λ d other e. stay k d other (s.listed k d e)) d e;
}

pub sessions-part : (cl : List Client) (ss : Table) (c : ℕ) (to : Client) → c < length cl → server_of to ≡ None → AreSessions cl ss
    → AreSessions (slice_set cl c to) (record ss { lists = map (without c) ss.lists })
sessions-part cl ss c to small none s = grind (arith, nat_tests, sessions-fewer cl ss, fewer-without ss c, free-without ss c, at-without ss c, without-in)

pub sessions-first : (cl : List Client) (ss : Table) (k c : ℕ) (cs : List ℕ) (to : Client) → c < length cl → k < length ss.lists → server_of to ≡ None
    → list_at ss k ≡ c ∷ cs → IsFree (with_list k cs ss) c → AreSessions cl ss → AreSessions (slice_set cl c to) (with_list k cs ss)
sessions-first cl ss k c cs to small there none is free s =
    grind (arith, nat_tests, sessions-fewer cl ss, fewer-with ss k cs there, cases_eq, get_or-set_same ss.lists k cs, get_or-set_other ss.lists k)

-- messages --------------------------------------------------------------------------------------------------------------------------------
free-out : (c : ℕ) (p : MessagePlace) → p ≡ Free → is_out_of c p ≡ true → ⊥
free-out c p e is = false≢true (sym (ap (is_out_of c) e) ∙ is)

free-held : (c : ℕ) (p : MessagePlace) → p ≡ Free → is_held_of c p ≡ true → ⊥
free-held c p e is = false≢true (sym (ap (is_held_of c) e) ∙ is)

-- a message is sent: it waits, and holds a slot
pub sent-send : (pl : List MessagePlace) (st : Table) (c m : ℕ) → c < 64 → m < length pl → length st.lists ≡ 128 → slice_index_or pl m Free ≡ Free
    → length (list_at st c) < 64 → AreSent pl st → AreSent (slice_set pl m (Queued c)) (with_list c (list_at st c ++ m ∷ []) st)
sent-send pl st c m client place long free slot s = record {
  out = λ d n less i. at-write Free (λ n (p : MessagePlace). IsIn n (list_at after d) → is_out_of d p ≡ true) pl m (Queued c) place
      (λ i. mine d less (pushed-in st c m d m listed i)) (λ n other i. theirs d n less other (pushed-in st c m d n listed i)) n i;
  past = λ d n less i. at-write Free (λ n (p : MessagePlace). IsIn n (list_at after (64 + d)) → is_held_of d p ≡ true) pl m (Queued c) place
      (λ i. mine_past d less (pushed-in st c m (64 + d) m listed i)) (λ n other i. theirs_past d n less (pushed-in st c m (64 + d) n listed i)) n i;
  waiting = λ d n e. at-write Free (λ n (p : MessagePlace). p ≡ Queued d → (d < 64) × IsIn n (list_at after d)) pl m (Queued c) place
      (λ e. now d e) (λ n other e. ((s.waiting d n e).0, push-keeps st c m d n listed (s.waiting d n e).1)) n e;
  held = λ d n e. at-write Free (λ n (p : MessagePlace). p ≡ Held d → (d < 64) × (IsIn n (list_at after d) ⊎ IsIn n (list_at after (64 + d)))) pl m
      (Queued c) place (λ e. absurd (cc)) (λ n other e. ((s.held d n e).0, still d n (s.held d n e).1)) n e;
  senders = λ d n e. at-write Free (λ n (p : MessagePlace). p ≡ Discarded d → d < 64) pl m (Queued c) place (λ e. absurd (cc)) (λ n other e. s.senders d n e) n e;
  few = λ d less. at-set (λ d xs. d < 64 → length xs ≤ 64) st.lists c (list_at st c ++ m ∷ []) listed (λ _. room) (λ d other less. s.few d less) d less;
}
  where
    after : Table
    after = with_list c (list_at st c ++ m ∷ []) st

    listed : c < length st.lists
    listed = omega (arith, client, long)

    room : length (list_at st c ++ m ∷ []) ≤ 64
    room = omega (arith, slot, length-append (list_at st c) (m ∷ []))

    mine : (d : ℕ) → d < 64 → ((d ≡ c) × (m ≡ m)) ⊎ IsIn m (list_at st d) → is_out_of d (Queued c) ≡ true
    mine d less (inl new) = eq-eqb c d (sym new.0)
    mine d less (inr old) = absurd (free-out d (slice_index_or pl m Free) free (s.out d m less old))

    theirs : (d n : ℕ) → d < 64 → n ≢ m → ((d ≡ c) × (n ≡ m)) ⊎ IsIn n (list_at st d) → is_out_of d (slice_index_or pl n Free) ≡ true
    theirs d n less other (inl new) = absurd (other new.1)
    theirs d n less other (inr old) = s.out d n less old

    mine_past : (d : ℕ) → d < 64 → ((64 + d ≡ c) × (m ≡ m)) ⊎ IsIn m (list_at st (64 + d)) → is_held_of d (Queued c) ≡ true
    mine_past d less (inl new) = absurd (omega (arith, new.0, client))
    mine_past d less (inr old) = absurd (free-held d (slice_index_or pl m Free) free (s.past d m less old))

    theirs_past : (d n : ℕ) → d < 64 → ((64 + d ≡ c) × (n ≡ m)) ⊎ IsIn n (list_at st (64 + d)) → is_held_of d (slice_index_or pl n Free) ≡ true
    theirs_past d n less (inl new) = absurd (omega (arith, new.0, client))
    theirs_past d n less (inr old) = s.past d n less old

    now : (d : ℕ) → Queued c ≡ Queued d → (d < 64) × IsIn m (list_at after d)
    now d e =
        let same : c ≡ d = cc in
        (subst (λ k. k < 64) same client, subst (λ k. IsIn m (list_at after k)) same (push-has st c m listed))

    still : (d n : ℕ) → IsIn n (list_at st d) ⊎ IsIn n (list_at st (64 + d)) → IsIn n (list_at after d) ⊎ IsIn n (list_at after (64 + d))
    still d n (inl i) = inl (push-keeps st c m d n listed i)
    still d n (inr i) = inr (push-keeps st c m (64 + d) n listed i)

-- a message that waited is held
pub sent-taken : (pl : List MessagePlace) (st : Table) (m : ℕ) → m < length pl → AreSent pl st → AreSent (slice_set pl m (held_place (slice_index_or pl m Free))) st
sent-taken pl st m place s = record {
  out = λ d n less i. at-write Free (λ n (p : MessagePlace). IsIn n (list_at st d) → is_out_of d p ≡ true) pl m (held_place was) place
      (λ i. out_as d was (s.out d m less i)) (λ n other i. s.out d n less i) n i;
  past = λ d n less i. at-write Free (λ n (p : MessagePlace). IsIn n (list_at st (64 + d)) → is_held_of d p ≡ true) pl m (held_place was) place
      (λ i. held_as d was (s.past d m less i)) (λ n other i. s.past d n less i) n i;
  waiting = λ d n e. at-write Free (λ n (p : MessagePlace). p ≡ Queued d → (d < 64) × IsIn n (list_at st d)) pl m (held_place was) place
      (λ e. absurd (never d was e)) (λ n other e. s.waiting d n e) n e;
  held = λ d n e. at-write Free (λ n (p : MessagePlace). p ≡ Held d → (d < 64) × (IsIn n (list_at st d) ⊎ IsIn n (list_at st (64 + d)))) pl m
      (held_place was) place (λ e. from d was refl e) (λ n other e. s.held d n e) n e;
  senders = λ d n e. at-write Free (λ n (p : MessagePlace). p ≡ Discarded d → d < 64) pl m (held_place was) place (λ e. gone d was refl e)
      (λ n other e. s.senders d n e) n e;
  few = s.few;
}
  where
    was : MessagePlace
    was = slice_index_or pl m Free

    out_as : (d : ℕ) (p : MessagePlace) → is_out_of d p ≡ true → is_out_of d (held_place p) ≡ true
    out_as d Free e = e
    out_as d (Queued c) e = e
    out_as d (Held c) e = e
    out_as d (Discarded c) e = e

    held_as : (d : ℕ) (p : MessagePlace) → is_held_of d p ≡ true → is_held_of d (held_place p) ≡ true
    held_as d (Queued c) e = absurd (cc)
    held_as d _ e = e

    never : (d : ℕ) (p : MessagePlace) → held_place p ≡ Queued d → ⊥
    never d x e = grind arith

    from : (d : ℕ) (p : MessagePlace) → slice_index_or pl m Free ≡ p → held_place p ≡ Held d → (d < 64) × (IsIn m (list_at st d) ⊎ IsIn m (list_at st (64 + d)))
    from d Free is e = absurd (cc)
    from d (Queued c) is e =
        let same : c ≡ d = cc in
        let w = s.waiting d m (is ∙ ap Queued same) in
        (w.0, inl w.1)
    from d (Held c) is e =
        let same : c ≡ d = cc in
        s.held d m (is ∙ ap Held same)
    from d (Discarded c) is e = absurd (cc)

    gone : (d : ℕ) (p : MessagePlace) → slice_index_or pl m Free ≡ p → held_place p ≡ Discarded d → d < 64
    gone d (Discarded c) is e = s.senders d m (is ∙ e)
    gone d _ is e = absurd (cc)

-- a message is no more
shorter-without : (n : ℕ) (ys : List ℕ) → length (without n ys) ≤ length ys
shorter-without n [] = omega arith
shorter-without n (y ∷ ys) = grind (arith, nat_tests, cases_eq y n, shorter-without n ys, left n y ys, kept n y ys)

pub sent-complete : (pl : List MessagePlace) (st : Table) (m : ℕ) → m < length pl → AreSent pl st →
    AreSent (slice_set pl m Free) (record st { lists = map (without m) st.lists })
sent-complete pl st m place s = record {
  out = λ d n less i. at-write Free (λ n (p : MessagePlace). IsIn n (list_at after d) → is_out_of d p ≡ true) pl m Free place
      (λ i. absurd (nowhere d i)) (λ n other i. s.out d n less (was d n i)) n i;
  past = λ d n less i. at-write Free (λ n (p : MessagePlace). IsIn n (list_at after (64 + d)) → is_held_of d p ≡ true) pl m Free place
      (λ i. absurd (nowhere (64 + d) i)) (λ n other i. s.past d n less (was (64 + d) n i)) n i;
  waiting = λ d n e. at-write Free (λ n (p : MessagePlace). p ≡ Queued d → (d < 64) × IsIn n (list_at after d)) pl m Free place
      (λ e. absurd (cc)) (λ n other e. ((s.waiting d n e).0, still d n other (s.waiting d n e).1)) n e;
  held = λ d n e. at-write Free (λ n (p : MessagePlace). p ≡ Held d → (d < 64) × (IsIn n (list_at after d) ⊎ IsIn n (list_at after (64 + d)))) pl m Free place
      (λ e. absurd (cc)) (λ n other e. ((s.held d n e).0, both d n other (s.held d n e).1)) n e;
  senders = λ d n e. at-write Free (λ n (p : MessagePlace). p ≡ Discarded d → d < 64) pl m Free place (λ e. absurd (cc)) (λ n other e. s.senders d n e) n e;
  few = λ d less. omega (arith, ap length (at-without st m d), shorter-without m (list_at st d), s.few d less);
}
  where
    after : Table
    after = record st { lists = map (without m) st.lists }

    nowhere : (d : ℕ) → IsIn m (list_at after d) → ⊥
    nowhere d i = (in-without m m (list_at st d) (subst (IsIn m) (at-without st m d) i)).0 refl

    was : (d n : ℕ) → IsIn n (list_at after d) → IsIn n (list_at st d)
    was d n i = (in-without n m (list_at st d) (subst (IsIn n) (at-without st m d) i)).1

    still : (d n : ℕ) → n ≢ m → IsIn n (list_at st d) → IsIn n (list_at after d)
    still d n other i = subst (IsIn n) (sym (at-without st m d)) (without-in n m (list_at st d) other i)

    both : (d n : ℕ) → n ≢ m → IsIn n (list_at st d) ⊎ IsIn n (list_at st (64 + d)) → IsIn n (list_at after d) ⊎ IsIn n (list_at after (64 + d))
    both d n other (inl i) = inl (still d n other i)
    both d n other (inr i) = inr (still (64 + d) n other i)
