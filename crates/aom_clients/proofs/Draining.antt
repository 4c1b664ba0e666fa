-- One message more was taken off its list: what is left comes to the same.
use Rattle.std.proofs.lemmas.Bool.Decides.{nat_tests}
use Rattle.std.proofs.Common.{◌≡◌, ◌≢◌, ◌<◌, ◌≤◌, ◌+◌, ℕ, suc, List, [], ◌∷◌, ◌++◌, Some, None, length, refl, sym, ap, ◌∙◌, subst, inl, inr, arith}
use Rattle.std.specs.Prelude.{map, slice_set}
use Rattle.std.proofs.lemmas.List.{length-set, length-append, set-set, set_comm, append_assoc, get_or-set_same, get_or-set_other}
use Rattle.aom_clients.specs.Lists.{Table, IsIn, list_at, with_list, without, first_of, rest_of}
use Rattle.aom_clients.specs.declared.place.MessagePlace.{MessagePlace}
use Rattle.aom_clients.specs.Table.{closed_place}
use Rattle.aom_clients.specs.Withdrawals.{without_each, left_each, waiting_each, noted}
use Rattle.aom_clients.proofs.Leaving.{place, length-each}
use Rattle.aom_clients.proofs.Services.{shape, empty}

-- the list and all others
pub record Drained (t u : Table) (k m : ℕ) : Type 0 where
  pub listed : k < length u.lists
  pub shaped : list_at t k ≡ m ∷ list_at u k
  pub emptied : with_list k [] u ≡ with_list k [] t

pub drained : (t u : Table) (k m : ℕ) → k < length t.lists → Some m ≡ first_of (list_at t k) → u ≡ with_list k (rest_of (list_at t k)) t → Drained t u k m
drained t u k m small first is =
    let rest : list_at u k ≡ rest_of (list_at t k) = ap (λ v. list_at v k) is ∙ get_or-set_same t.lists k (rest_of (list_at t k)) [] small in
    record {
      listed = omega (arith, small, ap (λ v. length v.lists) is, length-set t.lists k (rest_of (list_at t k)));
      shaped = shape (list_at t k) m (sym first) ∙ ap (λ xs. m ∷ xs) (sym rest);
      emptied = ap (with_list k []) is ∙ ap (λ ls. record t { lists = ls }) (set-set t.lists k (rest_of (list_at t k)) []);
    }

pub first-below : (t : Table) (k m n : ℕ) → Some m ≡ first_of (list_at t k) → ((y : ℕ) → IsIn y (list_at t k) → y < n) → m < n
first-below t k m n first within = within m (subst (IsIn m) (sym (shape (list_at t k) m (sym first))) (inl refl))

module _ (t u : Table) (k m : ℕ) (d : Drained t u k m) where
  pub tail-in : (n : ℕ) → IsIn n (list_at u k) → IsIn n (list_at t k)
  tail-in n i = subst (IsIn n) (sym d.shaped) (inr i)

  pub places-drained : (pl : List MessagePlace) (p : MessagePlace) → p ≡ closed_place (place pl m) →
      left_each (list_at u k) (slice_set pl m p) ≡ left_each (list_at t k) pl
  places-drained pl p is = ap (λ x. left_each (list_at u k) (slice_set pl m x)) is ∙ ap (λ xs. left_each xs pl) (sym d.shaped)

  pub queues-drained : (q v : Table) → v ≡ record q { lists = map (without m) q.lists }
      → record v { lists = without_each (list_at u k) v.lists } ≡ record q { lists = without_each (list_at t k) q.lists }
  queues-drained q v is = grind (arith, nat_tests)

  pub freed-drained : (pl : List MessagePlace) (was p : MessagePlace) (freed more : List ℕ) → was ≡ place pl m → p ≡ closed_place was → more ≡ noted m was freed
      → more ++ waiting_each (list_at u k) (slice_set pl m p) ≡ freed ++ waiting_each (list_at t k) pl
  freed-drained pl was p freed more was_is p_is more_is = grind (arith, nat_tests, place pl, append_assoc freed)

  pub room-drained : (was : MessagePlace) (freed more : List ℕ) → more ≡ noted m was freed → length freed + length (list_at t k) ≤ 64 →
      length more + length (list_at u k) ≤ 64
  room-drained was freed more is room = grind (arith, nat_tests, length-append freed)

-- in the end the list is empty
pub drained-all : (t : Table) (k : ℕ) → first_of (list_at t k) ≡ None → list_at t k ≡ []
drained-all t k e = empty (list_at t k) (sym e)

-- a message more was listed as one of an earlier session
pub record Released (t v : Table) (c : ℕ) : Type 0 where
  pub long : length v.lists ≡ length t.lists
  pub fewer : suc (length (list_at v c)) ≡ length (list_at t c)
  pub same : with_list c [] (with_list (64 + c) (list_at v (64 + c) ++ list_at v c) v) ≡ with_list c [] (with_list (64 + c) (list_at t (64 + c) ++ list_at t c) t)

pub released : (t u v : Table) (c m : ℕ) → 64 + c < length t.lists → Some m ≡ first_of (list_at t c) → u ≡ with_list c (rest_of (list_at t c)) t
    → v ≡ with_list (64 + c) (list_at u (64 + c) ++ m ∷ []) u → Released t v c
released t u v c m small first u_is v_is = record {
  long = long;
  fewer = omega (arith, ap length at_c, ap length d.shaped);
  same = ap (λ xs. with_list c [] (with_list (64 + c) xs v)) whole ∙ ap (λ w. with_list c [] (with_list (64 + c) all w)) v_is
      ∙ ap (λ ls. with_list c [] (record u { lists = ls })) (set-set u.lists (64 + c) (list_at u (64 + c) ++ m ∷ []) all)
      ∙ ap (λ w. with_list c [] (with_list (64 + c) all w)) u_is
      ∙ ap (λ ls. with_list c [] (record t { lists = ls })) (set_comm t.lists c (64 + c) (rest_of (list_at t c)) all apart)
      ∙ ap (λ ls. record t { lists = ls }) (set-set (slice_set t.lists (64 + c) all) c (rest_of (list_at t c)) []);
}
  where
    near : c < length t.lists
    near = omega (arith, small)

    d : Drained t u c m
    d = drained t u c m near first u_is

    all : List ℕ
    all = list_at t (64 + c) ++ list_at t c

    apart : c ≢ 64 + c
    apart e = absurd (omega (arith, e))

    back : 64 + c ≢ c
    back e = absurd (omega (arith, e))

    u_long : length u.lists ≡ length t.lists
    u_long = ap (λ w. length w.lists) u_is ∙ length-set t.lists c (rest_of (list_at t c))

    long : length v.lists ≡ length t.lists
    long = ap (λ w. length w.lists) v_is ∙ length-set u.lists (64 + c) (list_at u (64 + c) ++ m ∷ []) ∙ u_long

    at_c : list_at v c ≡ list_at u c
    at_c = ap (λ w. list_at w c) v_is ∙ get_or-set_other u.lists (64 + c) c (list_at u (64 + c) ++ m ∷ []) [] apart

    at_past : list_at v (64 + c) ≡ list_at t (64 + c) ++ m ∷ []
    at_past = ap (λ w. list_at w (64 + c)) v_is ∙ get_or-set_same u.lists (64 + c) (list_at u (64 + c) ++ m ∷ []) [] (omega (arith, small, u_long))
        ∙ ap (λ xs. xs ++ m ∷ []) (ap (λ w. list_at w (64 + c)) u_is ∙ get_or-set_other t.lists c (64 + c) (rest_of (list_at t c)) [] back)

    whole : list_at v (64 + c) ++ list_at v c ≡ list_at t (64 + c) ++ list_at t c
    whole = ap (λ xs. xs ++ list_at v c) at_past ∙ ap (λ xs. (list_at t (64 + c) ++ m ∷ []) ++ xs) at_c
        ∙ append_assoc (list_at t (64 + c)) (m ∷ []) (list_at u c) ∙ ap (λ xs. list_at t (64 + c) ++ xs) (sym d.shaped)

-- the messages of earlier sessions stay in their places, as those of this one are taken off
pub past-stays : (st u : Table) (c : ℕ) (pl ps : List MessagePlace) → u ≡ with_list c [] st → ps ≡ left_each (list_at st c) pl
    → ((m : ℕ) → IsIn m (list_at st (64 + c)) → m < length pl) → (m : ℕ) → IsIn m (list_at u (64 + c)) → m < length ps
past-stays st u c pl ps u_is ps_is within m i =
    let same : list_at u (64 + c) ≡ list_at st (64 + c) = ap (λ t. list_at t (64 + c)) u_is
    ∙ get_or-set_other st.lists c (64 + c) [] [] (λ e. absurd (omega (arith, e))) in
    omega (arith, within m (subst (IsIn m) same i), ap length ps_is, length-each (list_at st c) pl)
