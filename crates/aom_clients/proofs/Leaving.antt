-- A client leaves its server: what becomes of its messages, of the queues and of the lists.
use Rattle.std.proofs.lemmas.Bool.Decides.{nat_tests}
use Rattle.std.proofs.Common.{◌≡◌, ◌≢◌, ◌<◌, ◌≤◌, ◌+◌, ◌⊎◌, ◌==◌, ℕ, Bool, true, false, cond, List}
use Rattle.std.proofs.Common.{[], ◌∷◌, Some, length, refl, sym, ap, ◌∙◌, subst, inl, inr, arith}
use Rattle.std.specs.Prelude.{map, filter, slice_index_or}
use Rattle.std.proofs.lemmas.Bool.{cases_eq, cases_lt, cond-false, cond-true, eq-eqb, eqb-true, false≢true, ne_eqb}
use Rattle.std.proofs.lemmas.Option.{none-some, same_Some}
use Rattle.std.proofs.lemmas.List.{length-set, length-map, get_or-set_same, get_or-set_other, get_or_past, same_lists, get_or_default}
use Rattle.std.proofs.Math.ListN.{get_or-map}
use Rattle.aom_clients.specs.Lists.{Table, IsIn, IsOnce, list_at, without}
use Rattle.aom_clients.proofs.Members.{kept, left}
use Rattle.aom_clients.specs.declared.client.Client.{Client}
use Rattle.aom_clients.specs.declared.client.Client.TheVariants.{Unconnected, Connecting, Open, Closing, Gone, Dead, Dying}
use Rattle.aom_clients.specs.declared.place.MessagePlace.{MessagePlace}
use Rattle.aom_clients.specs.declared.place.MessagePlace.TheVariants.{Free, Queued, Held, Discarded}
use Rattle.aom_clients.specs.declared.entry.QueueEntry.{QueueEntry}
use Rattle.aom_clients.specs.Table.{server_of, is_queued, is_out_of, is_waiting_of, closed_place}
use Rattle.aom_clients.specs.Clients.{left_place, stays}
use Rattle.aom_clients.specs.Nodes.{entry_of, is_leaving, is_open_at, slots_of, named_by, is_held_of, AreSent}
use Rattle.aom_clients.specs.Parts.{IsLeft}
use Rattle.aom_clients.specs.Withdrawals.{without_each, left_at, left_each, waiting_each}
use Rattle.aom_clients.proofs.Entries.{Kind, kind, message-is, connect-is, close-is}
use Rattle.aom_clients.proofs.Entries.Kind.{message, connect, close}

-- what a client that leaves is at then ------------------------------------------------------------------------------------------------------
pub record Leaves (was next : Client) : Type 0 where
  pub server : server_of next ≡ server_of was
  pub named : (k : ℕ) → named_by next ≡ Some k → named_by was ≡ Some k
  pub slots : slots_of next ≤ 64
  pub leaving : (k : ℕ) → is_leaving k was ≡ true → is_leaving k next ≡ true
  pub opened : (k : ℕ) → is_open_at k was ≡ true → is_leaving k next ≡ true

pub leaves : (was next : Client) → IsLeft was next → Leaves was next
leaves Unconnected next (inl e) = absurd (none-some next e)
leaves Unconnected next (inr e) = subst (Leaves Unconnected) (same_Some Dead next e)
    (record { server = refl; named = λ k h. h; slots = omega arith; leaving = λ k h. absurd (cc); opened = λ k h. absurd (cc) })
leaves (Connecting k n) next (inl e) = subst (Leaves (Connecting k n)) (same_Some Unconnected next e)
    (record { server = refl; named = λ k h. absurd (none-some k h); slots = omega arith; leaving = λ k h. absurd (cc); opened = λ k h. absurd (cc) })
leaves (Connecting k n) next (inr e) = subst (Leaves (Connecting k n)) (same_Some Dead next e)
    (record { server = refl; named = λ k h. absurd (none-some k h); slots = omega arith; leaving = λ k h. absurd (cc); opened = λ k h. absurd (cc) })
leaves (Open k s n) next (inl e) = subst (Leaves (Open k s n)) (same_Some (Closing k s) next e)
    (record { server = refl; named = λ k h. h; slots = omega arith; leaving = λ k h. absurd (cc); opened = λ k h. h })
leaves (Open k s n) next (inr e) = subst (Leaves (Open k s n)) (same_Some (Dying k s) next e)
    (record { server = refl; named = λ k h. h; slots = omega arith; leaving = λ k h. absurd (cc); opened = λ k h. h })
leaves (Closing k s) next (inl e) = absurd (none-some next e)
leaves (Closing k s) next (inr e) = subst (Leaves (Closing k s)) (same_Some (Dying k s) next e)
    (record { server = refl; named = λ k h. h; slots = omega arith; leaving = λ k h. h; opened = λ k h. absurd (cc) })
leaves Gone next (inl e) = subst (Leaves Gone) (same_Some Unconnected next e)
    (record { server = refl; named = λ k h. h; slots = omega arith; leaving = λ k h. h; opened = λ k h. h })
leaves Gone next (inr e) = subst (Leaves Gone) (same_Some Dead next e)
    (record { server = refl; named = λ k h. h; slots = omega arith; leaving = λ k h. h; opened = λ k h. h })
leaves Dead next (inr e) = absurd (none-some next e)
leaves (Dying k s) next (inr e) = absurd (none-some next e)
leaves _ next (inl e) = absurd (none-some next e)

-- places ----------------------------------------------------------------------------------------------------------------------------------
abbrev pub place : List MessagePlace → ℕ → MessagePlace
place pl m = slice_index_or pl m Free

closed-twice : (p : MessagePlace) → closed_place (closed_place p) ≡ closed_place p
closed-twice Free = refl
closed-twice (Queued c) = refl
closed-twice (Held c) = refl
closed-twice (Discarded c) = refl

-- a place that has something is one of the places
pub place-there : (pl : List MessagePlace) (m : ℕ) (p : MessagePlace) → place pl m ≡ p → (p ≡ Free → ⊥) → m < length pl
place-there pl m p e some = grind (arith, nat_tests, cases_lt m, get_or_past pl m Free)

pub length-each : (xs : List ℕ) (pl : List MessagePlace) → length (left_each xs pl) ≡ length pl
length-each [] pl = refl
length-each (m ∷ ms) pl = length-each ms (left_at m pl) ∙ length-set pl m (closed_place (place pl m))

each-stays : (xs : List ℕ) (pl : List MessagePlace) (n : ℕ) → closed_place (place pl n) ≡ place pl n → place (left_each xs pl) n ≡ place pl n
each-stays [] pl n e = refl
each-stays (m ∷ ms) pl n e = go (cases_eq n m) (each-stays ms (left_at m pl) n)
  where
    same : (n ≡ m) ⊎ (n ≢ m) → place (left_at m pl) n ≡ place pl n
    same (inl is) = inside (cases_lt m (length pl))
      where
        inside : (m < length pl) ⊎ (length pl ≤ m) → place (left_at m pl) n ≡ place pl n
        inside (inl small) = ap (place (left_at m pl)) is ∙ get_or-set_same pl m (closed_place (place pl m)) Free small
            ∙ ap (λ k. closed_place (place pl k)) (sym is) ∙ e
        inside (inr large) = get_or_past (left_at m pl) n Free (omega (arith, is, large, length-set pl m (closed_place (place pl m))))
            ∙ sym (get_or_past pl n Free (omega (arith, is, large)))
    same (inr other) = get_or-set_other pl m n (closed_place (place pl m)) Free other

    go : (n ≡ m) ⊎ (n ≢ m) → (closed_place (place (left_at m pl) n) ≡ place (left_at m pl) n → place (left_each ms (left_at m pl)) n ≡ place (left_at m pl) n)
        → place (left_each ms (left_at m pl)) n ≡ place pl n
    go d more = more (ap closed_place (same d) ∙ e ∙ sym (same d)) ∙ same d

-- what is left of a place is the same after a write of what is left of another
at-closed : (m : ℕ) (pl : List MessagePlace) (n : ℕ) → closed_place (place (left_at m pl) n) ≡ closed_place (place pl n)
at-closed m pl n = go (cases_eq n m) (cases_lt m (length pl))
  where
    go : (n ≡ m) ⊎ (n ≢ m) → (m < length pl) ⊎ (length pl ≤ m) → closed_place (place (left_at m pl) n) ≡ closed_place (place pl n)
    go (inl e) (inl less) =
        ap closed_place (ap (place (left_at m pl)) e ∙ get_or-set_same pl m (closed_place (place pl m)) Free less ∙ ap (λ k. closed_place (place pl k)) (sym e))
        ∙ closed-twice (place pl n)
    go (inl e) (inr large) = ap closed_place (get_or_past (left_at m pl) n Free (omega (arith, e, large, length-set pl m (closed_place (place pl m))))
        ∙ sym (get_or_past pl n Free (omega (arith, e, large))))
    go (inr other) d = ap closed_place (get_or-set_other pl m n (closed_place (place pl m)) Free other)

each-closed : (xs : List ℕ) (pl : List MessagePlace) (n : ℕ) → closed_place (place (left_each xs pl) n) ≡ closed_place (place pl n)
each-closed [] pl n = refl
each-closed (m ∷ ms) pl n = each-closed ms (left_at m pl) n ∙ at-closed m pl n

each-in : (xs : List ℕ) (pl : List MessagePlace) (n : ℕ) → n < length pl → IsIn n xs → place (left_each xs pl) n ≡ closed_place (place pl n)
each-in [] pl n small i = elim i [ ]
each-in (m ∷ ms) pl n small (inl e) = grind (arith, nat_tests, get_or-set_same pl m, each-stays ms, closed-twice)
each-in (m ∷ ms) pl n small (inr i) = grind (arith, nat_tests, each-in ms, length-set pl m, at-closed m pl n)

each-out : (xs : List ℕ) (pl : List MessagePlace) (n : ℕ) → (IsIn n xs → ⊥) → place (left_each xs pl) n ≡ place pl n
each-out [] pl n out = refl
each-out (m ∷ ms) pl n out = grind (arith, nat_tests, each-out ms, get_or-set_other pl m n)

held-out : (c : ℕ) (p : MessagePlace) → is_held_of c p ≡ true → is_out_of c p ≡ true
held-out c (Held d) e = e
held-out c _ e = absurd (cc)

-- the places of a client that leaves, whose messages are on its two lists
module _ (pl : List MessagePlace) (st : Table) (c : ℕ) (small : c < 64) (s : AreSent pl st) where
  abbrev xs : List ℕ
  xs = list_at st c

  abbrev ys : List ℕ
  ys = list_at st (64 + c)

  abbrev both : List MessagePlace
  both = left_each ys (left_each xs pl)

  found : (n : ℕ) → n < length pl → IsIn n xs ⊎ IsIn n ys → place both n ≡ closed_place (place pl n)
  found n inside (inl i) = grind (arith, nat_tests, each-in, each-stays, closed-twice)
  found n inside (inr i) = each-in ys (left_each xs pl) n (omega (arith, inside, length-each xs pl)) i ∙ each-closed xs pl n

  listed : (n : ℕ) (p : MessagePlace) → place pl n ≡ p → is_out_of c p ≡ true → IsIn n xs ⊎ IsIn n ys
  listed n (Queued d) is e = inl (s.waiting c n (is ∙ ap Queued (eqb-true d c e))).1
  listed n (Held d) is e = (s.held c n (is ∙ ap Held (eqb-true d c e))).1
  listed n _ is e = absurd (cc)

  one : (n : ℕ) → n < length pl → (b : Bool) → is_out_of c (place pl n) ≡ b → place both n ≡ left_place c (place pl n)
  one n inside true e = found n inside (listed n (place pl n) refl e) ∙ sym (cond-true (is_out_of c (place pl n)) (closed_place (place pl n)) (place pl n) e)
  one n inside false e = grind (arith, nat_tests, each-out, false≢true, held-out, cond-false)

  pub places-left : both ≡ map (left_place c) pl
  places-left = same_lists _ _ (length-each ys (left_each xs pl) ∙ length-each xs pl ∙ sym (length-map pl (left_place c))) each
    where
      each : (k : ℕ) (d : MessagePlace) → k < length both → slice_index_or both k d ≡ slice_index_or (map (left_place c) pl) k d
      each k d within =
          let inside : k < length pl = omega (arith, within, length-each ys (left_each xs pl), length-each xs pl) in
          get_or_default both k d Free within ∙ one k inside (is_out_of c (place pl k)) refl ∙ sym (get_or-map (left_place c) pl k Free)
          ∙ get_or_default (map (left_place c) pl) k Free d (omega (arith, inside, length-map pl (left_place c)))

-- the messages that waited, none twice
pub waiting-is : (ms : List ℕ) (pl now : List MessagePlace) → IsOnce ms → ((n : ℕ) → IsIn n ms → place now n ≡ place pl n)
    → waiting_each ms now ≡ filter (λ m. is_queued (place pl m)) ms
waiting-is [] pl now once same = refl
waiting-is (m ∷ ms) pl now once same = grind (arith, nat_tests, waiting-is ms pl, get_or-set_other now m)

-- queues ----------------------------------------------------------------------------------------------------------------------------------
-- one queue without all these
unfoldable pub drop_each : List ℕ → List ℕ → List ℕ
drop_each [] zs = zs
drop_each (m ∷ ms) zs = drop_each ms (without m zs)

-- a node is among these
pub has : ℕ → List ℕ → Bool
has z [] = false
has z (m ∷ ms) = cond (z == m) true (has z ms)

pub has-in : (z : ℕ) (ms : List ℕ) → has z ms ≡ true → IsIn z ms
unfolding has
has-in z [] e = absurd (cc)
has-in z (m ∷ ms) e = elim (cases_eq z m) [
  | inl same ↦ inl (sym same)
  | inr other ↦ inr (has-in z ms (sym (cond-false (z == m) true (has z ms) (ne_eqb z m other)) ∙ e))
]

pub in-has : (z : ℕ) (ms : List ℕ) → IsIn z ms → has z ms ≡ true
unfolding has
in-has z [] i = elim i [ ]
in-has z (m ∷ ms) (inl e) = cond-true (z == m) true (has z ms) (eq-eqb z m (sym e))
in-has z (m ∷ ms) (inr i) = elim (cases_eq z m) [
  | inl same ↦ cond-true (z == m) true (has z ms) (eq-eqb z m same)
  | inr other ↦ cond-false (z == m) true (has z ms) (ne_eqb z m other) ∙ in-has z ms i
]

drop-cons : (ms : List ℕ) (z : ℕ) (zs : List ℕ) → drop_each ms (z ∷ zs) ≡ cond (has z ms) (drop_each ms zs) (z ∷ drop_each ms zs)
unfolding drop_each has
drop-cons [] z zs = refl
drop-cons (m ∷ ms) z zs = elim (cases_eq z m) [
  | inl same ↦ ap (drop_each ms) (left m z zs same) ∙ sym (cond-true (cond (z == m) true (has z ms)) (drop_each ms (without m zs))
      (z ∷ drop_each ms (without m zs)) (cond-true (z == m) true (has z ms) (eq-eqb z m same)))
  | inr other ↦ ap (drop_each ms) (kept m z zs other) ∙ drop-cons ms z (without m zs)
      ∙ sym (ap (λ b. cond b (drop_each ms (without m zs)) (z ∷ drop_each ms (without m zs))) (cond-false (z == m) true (has z ms) (ne_eqb z m other)))
]

pub drop-nil : (ms : List ℕ) → drop_each ms [] ≡ []
unfolding drop_each
drop-nil [] = refl
drop-nil (m ∷ ms) = drop-nil ms

pub each-dropped : (ms : List ℕ) (lists : List (List ℕ)) → without_each ms lists ≡ map (drop_each ms) lists
unfolding drop_each
each-dropped [] [] = refl
each-dropped [] (zs ∷ lists) = ap (λ ls. zs ∷ ls) (each-dropped [] lists)
each-dropped (m ∷ ms) lists = each-dropped ms (map (without m) lists) ∙ both lists
  where
    both : (ls : List (List ℕ)) → map (drop_each ms) (map (without m) ls) ≡ map (λ zs. drop_each ms (without m zs)) ls
    both [] = refl
    both (zs ∷ ls) = ap (λ ks. drop_each ms (without m zs) ∷ ks) (both ls)

-- a test that leaves out just these
pub record Reports (ms : List ℕ) (pl : List MessagePlace) (c : ℕ) (zs : List ℕ) : Type 0 where
  pub gone : (z : ℕ) → IsIn z zs → IsIn z ms → (z < 1024) × (is_waiting_of c (place pl z) ≡ true)
  pub stay : (z : ℕ) → IsIn z zs → is_waiting_of c (place pl z) ≡ true → z < 1024 → IsIn z ms

reports-tail : (ms : List ℕ) (pl : List MessagePlace) (c z : ℕ) (zs : List ℕ) → Reports ms pl c (z ∷ zs) → Reports ms pl c zs
reports-tail ms pl c z zs t = record { gone = λ y i. t.gone y (inr i); stay = λ y i. t.stay y (inr i) }

pub queue-left : (ms : List ℕ) (pl : List MessagePlace) (c : ℕ) → c < 64 → (zs : List ℕ) → Reports ms pl c zs
    → map entry_of (without (1024 + c) (drop_each ms zs)) ≡ filter (stays c pl) (map entry_of zs)
queue-left ms pl c small [] t = ap (λ ys. map entry_of (without (1024 + c) ys)) (drop-nil ms)
queue-left ms pl c small (z ∷ zs) t = ap (λ ys. map entry_of (without (1024 + c) ys)) (drop-cons ms z zs)
    ∙ go z (kind z) t (has z ms) refl (cases_eq z (1024 + c)) (queue-left ms pl c small zs (reports-tail ms pl c z zs t))
  where
    rest : List QueueEntry
    rest = filter (stays c pl) (map entry_of zs)

    -- what stays and what goes
    stay : (y : ℕ) → stays c pl (entry_of y) ≡ true → y ≢ 1024 + c → (b : Bool) → b ≡ false
        → map entry_of (without (1024 + c) (drop_each ms zs)) ≡ filter (stays c pl) (map entry_of zs)
        → map entry_of (without (1024 + c) (cond b (drop_each ms zs) (y ∷ drop_each ms zs))) ≡ filter (stays c pl) (entry_of y ∷ map entry_of zs)
    stay y passes other b implied less = grind (arith, nat_tests, kept, cond-true)

    goes : (y : ℕ) → stays c pl (entry_of y) ≡ false → (b : Bool) → (b ≡ true) ⊎ (y ≡ 1024 + c)
        → map entry_of (without (1024 + c) (drop_each ms zs)) ≡ filter (stays c pl) (map entry_of zs)
        → map entry_of (without (1024 + c) (cond b (drop_each ms zs) (y ∷ drop_each ms zs))) ≡ filter (stays c pl) (entry_of y ∷ map entry_of zs)
    goes y fails true either less = grind (arith, nat_tests, cond-false)
    goes y fails false (inl e) less = absurd (false≢true e)
    goes y fails false (inr same) less = grind (arith, nat_tests, left, cond-false)

    go : (y : ℕ) → Kind y → Reports ms pl c (y ∷ zs) → (b : Bool) → has y ms ≡ b → (y ≡ 1024 + c) ⊎ (y ≢ 1024 + c)
        → map entry_of (without (1024 + c) (drop_each ms zs)) ≡ filter (stays c pl) (map entry_of zs)
        → map entry_of (without (1024 + c) (cond (has y ms) (drop_each ms zs) (y ∷ drop_each ms zs))) ≡ filter (stays c pl) (entry_of y ∷ map entry_of zs)
    go y k t true e d less = grind (arith, nat_tests, has-in y, goes y, message-is y, has y)
    go _ (message m less) t false e d more = grind (arith, nat_tests, stay m, message-is m less, has m, false≢true, in-has m)
    go _ (connect d less) t false e (inl same) more = grind (arith, nat_tests, goes (1024 + d), connect-is d less, eq-eqb d, has (1024 + d))
    go _ (connect d less) t false e (inr other) more = grind (arith, nat_tests, stay (1024 + d), connect-is d less, ne_eqb d, has (1024 + d))
    go _ (close d) t false e x more = grind (arith, nat_tests, stay (1088 + d), close-is d, has (1088 + d))
