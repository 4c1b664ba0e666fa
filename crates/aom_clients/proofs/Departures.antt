-- What a close or a death makes of the lists.
use Rattle.std.proofs.lemmas.Bool.Decides.{nat_tests}
use Rattle.std.proofs.Common.{◌≡◌, ◌≢◌, ◌<◌, ◌+◌, ◌++◌, ℕ, suc, true, List, [], ◌∷◌, Some, length, take, refl, sym, ap, ◌∙◌, subst, inl, inr, arith}
use Rattle.std.specs.Prelude.{map, filter, slice_index_or, slice_set}
use Rattle.std.proofs.lemmas.Bool.{cond-false, eq-eqb, eqb-true, false≢true, ne_eqb}
use Rattle.std.proofs.lemmas.List.{length-set, length-map, get_or-set_same, get_or-set_other, get_or-take, take-set-le}
use Rattle.aom_clients.specs.Lists.{Table, IsIn, list_at, with_list, without}
use Rattle.aom_clients.proofs.Members.{in-without, without-in}
use Rattle.aom_clients.specs.declared.client.Client.{Client}
use Rattle.aom_clients.specs.declared.client.Client.TheVariants.{Unconnected, Connecting, Open, Closing, Gone, Dead, Dying}
use Rattle.aom_clients.specs.declared.place.MessagePlace.{MessagePlace}
use Rattle.aom_clients.specs.declared.place.MessagePlace.TheVariants.{Free, Queued}
use Rattle.aom_clients.specs.declared.entry.QueueEntry.TheVariants.{Close}
use Rattle.aom_clients.specs.Table.{is_queued, is_out_of, is_waiting_of}
use Rattle.aom_clients.specs.Clients.{ClientsState, client_at, with_client, left_place, stays, withdrawn, reported, leaving, freed}
use Rattle.aom_clients.specs.Nodes.{entry_of, is_leaving, named_by, is_held_of, state_of, Waits, AreSized, AreEntries, AreConnects, ClientTablesAgree}
use Rattle.aom_clients.specs.Parts.{IsLeft, CanClose, close_queued}
use Rattle.aom_clients.proofs.Entries.{close-is, message-no, close-no}
use Rattle.aom_clients.proofs.Tables.{Alike, alike-same, alike-with, alike-without, alike-then, at-without, shown, shown-push}
use Rattle.aom_clients.proofs.Kept.{sized-as, named-set, named-as, entries-client, IsApt, entries-push, listed-push-other}
use Rattle.aom_clients.proofs.Kept.{listed-without-connect, listed-without-other, sessions-client}
use Rattle.aom_clients.proofs.Leaving.{place-there, place}
use Rattle.std.proofs.Math.ListN.{get_or-map}
use Rattle.aom_clients.specs.Withdrawals.{without_each, left_each}
use Rattle.aom_clients.proofs.Leaving.{Leaves, leaves, places-left, drop_each, drop-nil, each-dropped, Reports, queue-left}
use Rattle.aom_clients.proofs.Steps.{client, take-set-lt, queued-of, client-is, among, waiting-below}
use Rattle.aom_clients.proofs.Slots.{left-queued, left-at, sent-left}

-- queues without some messages ------------------------------------------------------------------------------------------------------------
in-drop : (n : ℕ) (ms zs : List ℕ) → IsIn n (drop_each ms zs) → IsIn n zs × (IsIn n ms → ⊥)
unfolding drop_each
in-drop n [] zs i = (i, λ j. j)
in-drop n (m ∷ ms) zs i = grind (arith, nat_tests, in-drop n ms, in-without n m zs)

drop-in : (n : ℕ) (ms zs : List ℕ) → (IsIn n ms → ⊥) → IsIn n zs → IsIn n (drop_each ms zs)
unfolding drop_each
drop-in n [] zs absent i = i
drop-in n (m ∷ ms) zs absent i = drop-in n ms (without m zs) (λ j. absent (inr j)) (without-in n m zs (λ e. absent (inl (sym e))) i)

each-at : (q : Table) (ms : List ℕ) (k : ℕ) → list_at (record q { lists = without_each ms q.lists }) k ≡ drop_each ms (list_at q k)
each-at q ms k = grind (arith, nat_tests, each-dropped ms q.lists, drop_each ms, drop-nil ms, get_or-map (drop_each ms) q.lists k)

alike-each : (q : Table) (ms : List ℕ) → Alike q (record q { lists = without_each ms q.lists })
alike-each q ms = record { lists = ap length (each-dropped ms q.lists) ∙ length-map q.lists (drop_each ms); nodes = refl }

listed-each : (q cn : Table) (ms : List ℕ) → ((m : ℕ) → IsIn m ms → m < 1024) → AreConnects q cn → AreConnects (record q { lists = without_each ms q.lists }) cn
listed-each q cn [] below a = a
listed-each q cn (m ∷ ms) below a = listed-each (record q { lists = map (without m) q.lists }) cn ms (λ n i. below n (inr i))
    (listed-without-other q cn m (message-no m (below m (inl refl))) a)

queues-left : (ms : List ℕ) (pl : List MessagePlace) (c : ℕ) → c < 64 → (lists : List (List ℕ)) → ((k : ℕ) → Reports ms pl c (slice_index_or lists k []))
    → shown entry_of (map (without (1024 + c)) (map (drop_each ms) lists)) ≡ map (filter (stays c pl)) (shown entry_of lists)
queues-left ms pl c small [] t = refl
queues-left ms pl c small (zs ∷ lists) t = ap (λ es. es ∷ shown entry_of (map (without (1024 + c)) (map (drop_each ms) lists)))
    (queue-left ms pl c small zs (t 0)) ∙ ap (λ ls. filter (stays c pl) (map entry_of zs) ∷ ls) (queues-left ms pl c small lists (λ k. t (suc k)))

some-out : (c : ℕ) (p : MessagePlace) → is_out_of c p ≡ true → p ≡ Free → ⊥
some-out c p e f = false≢true (sym (ap (is_out_of c) f) ∙ e)

some-held : (c : ℕ) (p : MessagePlace) → is_held_of c p ≡ true → p ≡ Free → ⊥
some-held c p e f = false≢true (sym (ap (is_held_of c) f) ∙ e)

module _ (cl : List Client) (pl : List MessagePlace) (q cn ss st : Table) (r : ClientTablesAgree cl pl q cn ss st) (s : ClientsState) (is : state_of cl pl q ss st ≡ s) where
  module _ (c : ℕ) (next : Client) (small : c < 64) (left : IsLeft (client_at s c) next) where
    lv : Leaves (client cl c) next
    lv = leaves (client cl c) next (subst (λ x. IsLeft x next) (sym (client-is cl pl q cn ss st r s is c)) left)

    abbrev xs : List ℕ
    xs = list_at st c

    abbrev st1 : Table
    st1 = with_list c [] st

    abbrev st2 : Table
    st2 = with_list (64 + c) [] st1

    abbrev pl1 : List MessagePlace
    pl1 = left_each xs pl

    abbrev pl2 : List MessagePlace
    pl2 = left_each (list_at st1 (64 + c)) pl1

    abbrev pl3 : List MessagePlace
    pl3 = map (left_place c) pl

    abbrev q1 : Table
    q1 = record q { lists = without_each xs q.lists }

    abbrev q2 : Table
    q2 = record q1 { lists = map (without (1024 + c)) q1.lists }

    abbrev cn2 : Table
    cn2 = record cn { lists = map (without c) cn.lists }

    abbrev cl2 : List Client
    cl2 = slice_set cl c next

    pub sent-below : (m : ℕ) → IsIn m xs → m < length pl
    sent-below m i = place-there pl m (place pl m) refl (some-out c (place pl m) (r.out.out c m small i))

    past-is : list_at st1 (64 + c) ≡ list_at st (64 + c)
    past-is = get_or-set_other st.lists c (64 + c) [] [] (λ e. absurd (omega (arith, e)))

    pub past-below : (m : ℕ) → IsIn m (list_at st (64 + c)) → m < length pl
    past-below m i = place-there pl m (place pl m) refl (some-held c (place pl m) (r.out.past c m small i))

    places-are : pl2 ≡ pl3
    places-are = ap (λ ys. left_each ys pl1) past-is ∙ places-left pl st c small r.out

    -- what is in a queue then
    in-q2 : (k n : ℕ) → IsIn n (list_at q2 k) → (n ≢ 1024 + c) × IsIn n (list_at q k) × (IsIn n xs → ⊥)
    in-q2 k n i =
        let one = in-without n (1024 + c) (list_at q1 k) (subst (IsIn n) (at-without q1 (1024 + c) k) i) in
        let all = in-drop n xs (list_at q k) (subst (IsIn n) (each-at q xs k) one.1) in
        (one.0, all.0, all.1)

    q2-in : (k n : ℕ) → n ≢ 1024 + c → (IsIn n xs → ⊥) → IsIn n (list_at q k) → IsIn n (list_at q2 k)
    q2-in k n other absent i = subst (IsIn n) (sym (at-without q1 (1024 + c) k))
        (without-in n (1024 + c) (list_at q1 k) other (subst (IsIn n) (sym (each-at q xs k)) (drop-in n xs (list_at q k) absent i)))

    pub can-close : (x : Client) → client cl c ≡ x → CanClose x c q2
    can-close Unconnected e = tt
    can-close (Connecting k n) e = tt
    can-close (Open k n slots) e = record {
      list = omega (arith, r.named.servers c k (ap named_by e), (alike-then q q1 q2 (alike-each q xs) (alike-without q1 (1024 + c))).lists);
      node = omega (arith, small, r.sized.queues_nodes);
      free = record { nowhere = λ j i. false≢true (sym (ap (is_leaving j) e) ∙ r.entries.closes j c small (in-q2 j (1088 + c) i).1) };
    }
    can-close (Closing k n) e = tt
    can-close Gone e = tt
    can-close Dead e = tt
    can-close (Dying k n) e = tt

    entries-left : AreEntries cl pl3 q2
    entries-left = record {
      messages = λ k m less i. queued k m (in-q2 k m i) less (queued-of (place pl m) (r.entries.messages k m less (in-q2 k m i).1));
      connects = λ k d less i. r.entries.connects k d less (in-q2 k (1024 + d) i).1;
      closes = λ k d less i. r.entries.closes k d less (in-q2 k (1088 + d) i).1;
      waits = λ d m e. waits d m (left-queued c d (place pl m) (sym (left-at c pl m) ∙ e));
    }
      where
        queued : (k m : ℕ) → (m ≢ 1024 + c) × IsIn m (list_at q k) × (IsIn m xs → ⊥) → m < 1024 → (d : ℕ) × (place pl m ≡ Queued d) → is_queued (place pl3 m) ≡ true
        queued k m i less w = grind (arith, nat_tests, left-at, cond-false, ne_eqb w.0)

        waits : (d m : ℕ) → (place pl m ≡ Queued d) × (d ≢ c) → Waits cl q2 d m
        waits d m was =
            let w = r.entries.waits d m was.0 in
            record {
              server = w.server;
              open_there = w.open_there;
              there = q2-in w.server m (λ e. absurd (omega (arith, e, waiting-below cl pl q cn ss st r s is d m was.0))) absent w.there;
            }
          where
            absent : IsIn m xs → ⊥
            absent i = was.1 (eqb-true d c (sym (ap (is_out_of c) was.0) ∙ r.out.out c m small i))

    entries-client-left : AreEntries cl2 pl3 q2
    entries-client-left = entries-client cl pl3 q2 c next (among cl pl q cn ss st r s is c small) (λ j less i. absurd ((in-q2 j (1024 + c) i).0 refl))
        (λ j less i. lv.leaving j (r.entries.closes j c less (in-q2 j (1088 + c) i).1))
        (λ m e. absurd ((left-queued c c (place pl m) (sym (left-at c pl m) ∙ e)).1 refl)) entries-left

    sized-left : AreSized cl2 pl3 q2 cn2 ss st2
    sized-left = grind (arith, nat_tests, sized-as, length-set, length-map, alike-then, alike-each, alike-without, alike-same)

    kept-so-far : ClientTablesAgree cl2 pl3 q2 cn2 ss st2
    kept-so-far = record {
      sized = sized-left;
      entries = entries-client-left;
      listed = listed-without-connect q1 cn c small (listed-each q cn xs (λ m i. omega (arith, sent-below m i, r.sized.places_long)) r.listed);
      connected = sessions-client cl ss c next (among cl pl q cn ss st r s is c small) lv.server r.connected;
      out = sent-left pl st c small r.sized.sent_long r.out;
      named = named-as _ q q2 (alike-then q q1 q2 (alike-each q xs) (alike-without q1 (1024 + c)))
          (named-set cl (length q.lists) c next (among cl pl q cn ss st r s is c small) (λ j h. r.named.servers c j (lv.named j h)) lv.slots r.named);
    }

    kept-by : (x : Client) → client cl c ≡ x → ClientTablesAgree cl2 pl3 (close_queued x c q2) cn2 ss st2
    kept-by Unconnected e = kept-so-far
    kept-by (Connecting k n) e = kept-so-far
    kept-by (Open k n slots) e = record {
      sized = sized-as _ _ _ _ _ _ _ _ _ _ _ _ refl refl (alike-with q2 k (list_at q2 k ++ (1088 + c) ∷ [])) (alike-same cn2) (alike-same ss)
          (alike-same st2) sized-left;
      entries = entries-push cl2 pl3 q2 k (1088 + c) (can-close (Open k n slots) e).list apt entries-client-left;
      listed = listed-push-other q2 cn2 k (1088 + c) (can-close (Open k n slots) e).list (close-no c) kept-so-far.listed;
      connected = kept-so-far.connected;
      out = kept-so-far.out;
      named = named-as _ q2 (with_list k (list_at q2 k ++ (1088 + c) ∷ []) q2) (alike-with q2 k (list_at q2 k ++ (1088 + c) ∷ [])) kept-so-far.named;
    }
      where
        mine : is_leaving k (client cl2 c) ≡ true
        mine = grind (arith, nat_tests, get_or-set_same, among, eq-eqb)

        apt : IsApt cl2 pl3 k (1088 + c)
        apt = record {
          message = λ less. absurd (omega (arith, less));
          connect = λ d less h. absurd (omega (arith, h, less));
          close = λ d less h.
              let same : c ≡ d = omega (arith, h) in
              subst (λ n. is_leaving k (client cl2 n) ≡ true) same mine;
        }
    kept-by (Closing k n) e = kept-so-far
    kept-by Gone e = kept-so-far
    kept-by Dead e = kept-so-far
    kept-by (Dying k n) e = kept-so-far

    pub left-kept : (x : Client) → x ≡ client_at s c → ClientTablesAgree cl2 pl2 (close_queued x c q2) cn2 ss st2
    left-kept x e = subst (λ ps. ClientTablesAgree cl2 ps (close_queued x c q2) cn2 ss st2) (sym places-are) (kept-by x (client-is cl pl q cn ss st r s is c ∙ sym e))

    reports : (k : ℕ) → Reports xs pl c (list_at q k)
    reports k = record {
      gone = λ z i j. gone z i j (queued-of (place pl z) (r.entries.messages k z (below z j) i));
      stay = λ z i w less. (r.out.waiting c z (waiting (place pl z) w)).1;
    }
      where
        below : (z : ℕ) → IsIn z xs → z < 1024
        below z j = omega (arith, sent-below z j, r.sized.places_long)

        gone : (z : ℕ) → IsIn z (list_at q k) → IsIn z xs → (d : ℕ) × (place pl z ≡ Queued d) → (z < 1024) × (is_waiting_of c (place pl z) ≡ true)
        gone z i j w = (below z j, ap (is_waiting_of c) w.1 ∙ sym (ap (is_out_of c) w.1) ∙ r.out.out c z small j)

        waiting : (p : MessagePlace) → is_waiting_of c p ≡ true → p ≡ Queued c
        waiting (Queued d) w = ap Queued (eqb-true d c w)
        waiting _ w = absurd (false≢true w)

    queues-shown : shown entry_of q2.lists ≡ map (filter (stays c pl)) (shown entry_of q.lists)
    queues-shown = ap (λ ls. shown entry_of (map (without (1024 + c)) ls)) (each-dropped xs q.lists) ∙ queues-left xs pl c small q.lists reports

    sent-shown : take 64 st2.lists ≡ slice_set (take 64 st.lists) c []
    sent-shown = take-set-le 64 st1.lists (64 + c) [] (omega arith) ∙ take-set-lt 64 st.lists c [] small

    reported-seen : (x : Client) → state_of cl2 pl3 (close_queued x c q2) ss st2 ≡ reported x c (state_of cl2 pl3 q2 ss st2)
    reported-seen Unconnected = refl
    reported-seen (Connecting k n) = refl
    reported-seen (Open k n slots) = ap (λ qs. record { clients = cl2; places = pl3; queues = qs; sessions = ss.lists; sent = take 64 st2.lists })
        (shown-push entry_of q2.lists k (1088 + c) (Close c) (close-is c))
    reported-seen (Closing k n) = refl
    reported-seen Gone = refl
    reported-seen Dead = refl
    reported-seen (Dying k n) = refl

    pub left-seen : (x : Client) → x ≡ client_at s c → state_of cl2 pl2 (close_queued x c q2) ss st2 ≡ leaving (Some next) c s
    left-seen x e = ap (λ ps. state_of cl2 ps (close_queued x c q2) ss st2) places-are ∙ reported-seen x
        ∙ ap (λ qs. reported x c (record { clients = cl2; places = pl3; queues = qs; sessions = ss.lists; sent = take 64 st2.lists })) queues-shown ∙ ap (λ ls. reported
        x c (record { clients = cl2; places = pl3; queues = map (filter (stays c pl)) (shown entry_of q.lists); sessions = ss.lists; sent = ls })) sent-shown
        ∙ ap (λ t. reported x c (with_client c next (withdrawn c t))) is ∙ ap (λ y. reported y c (with_client c next (withdrawn c s))) e

    pub freed-is : filter (λ m. is_queued (place pl m)) xs ≡ freed (Some next) c s
    freed-is = ap (filter (λ m. is_queued (place pl m))) (sym (get_or-take 64 st.lists c [] small)) ∙ ap (freed (Some next) c) is
