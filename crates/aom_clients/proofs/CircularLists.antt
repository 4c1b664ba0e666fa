-- All lists as rings: as they are at first, with a node more and with a node less; and that contracts see just these lists.
use Rattle.std.proofs.lemmas.Bool.Decides.{nat_tests}
use Rattle.std.proofs.Common.{◌≡◌, ◌≢◌, ◌<◌, ◌≤◌, ◌+◌, ◌-◌, ◌⊎◌, ℕ, suc, List, [], ◌∷◌, ◌++◌, Option, Some, None, length, refl, sym, ap, ◌∙◌, subst, inl, inr}
use Rattle.std.proofs.Common.{arith}
use Rattle.std.specs.Prelude.{slice_index, slice_index_or, slice_set, map}
use Rattle.std.proofs.lemmas.Bool.{cases_eq, cases_lt}
use Rattle.std.proofs.lemmas.Option.{same_Some}
use Rattle.std.proofs.lemmas.List.{get_or-set_same, get_or-set_other, get_or_past, length-set, length_push, length-map, get_or-map, same_lists, get_or_default}
use Rattle.aom_clients.specs.Lists.{Table, IsIn, IsOnce, IsFree, IsSound, list_at, with_list, without, first_of, rest_of}
use Rattle.aom_clients.specs.CircularLists.{IsChain, AreCircularLists, walk, lists_from}
use Rattle.aom_clients.proofs.Members.{in-either, in-right, in-left, Parted, parted, once-push, once-without, in-without, without-in, length-without}
use Rattle.aom_clients.proofs.Members.{without-parted, without-absent, left, few}
use Rattle.aom_clients.proofs.Chains.{IsRelinked, relinked, chain-frame, chain-part, chain-unlink, chain-push, last-in, walk-chain}

-- the list of a number
abbrev pub at : List (List ℕ) → ℕ → List ℕ
at lists l = slice_index_or lists l []

-- what contracts see of rings is their lists
pub seen : (A : List ℕ) (B : List ℕ) (end : ℕ) (counts : List ℕ) (lists : List (List ℕ)) → length lists ≡ length counts
    → ((l : ℕ) → l < length counts → IsChain A B (end + l) (at lists l) (end + l))
    → ((l : ℕ) → slice_index counts l ≡ length (at lists l)) → lists_from A end counts ≡ lists
seen A B end [] [] every circular_lists counted = refl
seen A B end [] (xs ∷ lists) every circular_lists counted = absurd (omega (arith, every))
seen A B end (count ∷ counts) [] every circular_lists counted = absurd (omega (arith, every))
seen A B end (count ∷ counts) (xs ∷ lists) every circular_lists counted =
    ap (λ n. walk A end n ∷ lists_from A (suc end) counts) (counted 0)
    ∙ ap (λ ys. ys ∷ lists_from A (suc end) counts) (walk-chain A B end xs end here)
    ∙ ap (λ ls. xs ∷ ls) (seen A B (suc end) counts lists fewer later (λ l. counted (suc l)))
  where
    none : end + 0 ≡ end
    none = omega arith

    fewer : length lists ≡ length counts
    fewer = omega (arith, every)

    here : IsChain A B end xs end
    here = subst (λ k. IsChain A B k xs k) none (circular_lists 0 (omega arith))

    later : (l : ℕ) → l < length counts → IsChain A B (suc end + l) (at lists l) (suc end + l)
    later l small =
        let same : end + suc l ≡ suc end + l = omega arith in
        subst (λ k. IsChain A B k (at lists l) k) same (circular_lists (suc l) (omega (arith, small)))

module _ (A B : List ℕ) (H : List (Option ℕ)) (C : List ℕ) (lists : List (List ℕ)) (r : AreCircularLists A B H C lists) where
  pub lists-seen : lists_from A (length H) C ≡ lists
  lists-seen = seen A B (length H) C lists r.every r.circular_lists r.counted

  -- a number with a home is a node's
  pub owner_list-below : (x l : ℕ) → slice_index_or H x None ≡ Some l → x < length H
  owner_list-below x l e = grind (arith, nat_tests, get_or_past H x None)

  pub node-below : (x l : ℕ) → IsIn x (at lists l) → x < length H
  node-below x l i = owner_list-below x l (r.owner_list x l i)

  -- a list with a node is one of the lists
  pub list-below : (x l : ℕ) → IsIn x (at lists l) → l < length C
  list-below x l i = grind (arith, nat_tests, get_or_past lists l)

  pub apart : (x l m : ℕ) → IsIn x (at lists l) → IsIn x (at lists m) → l ≡ m
  apart x l m i j = same_Some l m (sym (r.owner_list x l i) ∙ r.owner_list x m j)

  -- the end of a list is no node
  pub end-out : (l m : ℕ) → IsIn (length H + l) (at lists m) → ⊥
  end-out l m i = absurd (omega (arith, node-below (length H + l) m i))

  pub ring-once : (l : ℕ) → IsOnce ((length H + l) ∷ at lists l)
  ring-once l = (end-out l l, r.once l)

  pub free-owner_list : (x : ℕ) → ((l : ℕ) → IsIn x (at lists l) → ⊥) → slice_index_or H x None ≡ None
  free-owner_list x free = go (slice_index_or H x None) refl
    where
      go : (o : Option ℕ) → slice_index_or H x None ≡ o → slice_index_or H x None ≡ None
      go None e = e
      go (Some l) e = absurd (free l (r.there x l e))

  pub sound : IsSound (record { lists = lists; nodes = length H })
  sound = record { below = node-below; apart = apart; once = r.once }

-- a node of the list after a write to one list
pub at-set-cases : (lists : List (List ℕ)) (l m : ℕ) (xs : List ℕ) (x : ℕ) → l < length lists → IsIn x (at (slice_set lists l xs) m)
    → ((m ≡ l) × IsIn x xs) ⊎ ((m ≢ l) × IsIn x (at lists m))
at-set-cases lists l m xs x small i = grind (arith, get_or-set_same lists l xs, get_or-set_other lists l m xs)

-- what holds of the list that was written and of all others holds of each
pub at-set : (P : ℕ → List ℕ → Type 0) (lists : List (List ℕ)) (l : ℕ) (xs : List ℕ) → l < length lists → P l xs
    → ((m : ℕ) → m ≢ l → P m (at lists m)) → (m : ℕ) → P m (at (slice_set lists l xs) m)
at-set P lists l xs small here others m = go (cases_eq m l)
  where
    go : (m ≡ l) ⊎ (m ≢ l) → P m (at (slice_set lists l xs) m)
    go (inl same) = subst (λ k. P k (at (slice_set lists l xs) k)) (sym same) (subst (P l) (sym (get_or-set_same lists l xs [] small)) here)
    go (inr other) = subst (P m) (sym (get_or-set_other lists l m xs [] other)) (others m other)

module _ (A B : List ℕ) (H : List (Option ℕ)) (C : List ℕ) (lists : List (List ℕ)) (r : AreCircularLists A B H C lists) (l x : ℕ) (small : l < length C)
    (node : x < length H) (free : (m : ℕ) → IsIn x (at lists m) → ⊥) where
  abbrev end : ℕ
  end = length H + l

  abbrev last : ℕ
  last = slice_index B end

  abbrev A1 : List ℕ
  A1 = slice_set A last x

  abbrev B1 : List ℕ
  B1 = slice_set B x last

  abbrev A2 : List ℕ
  A2 = slice_set A1 x end

  abbrev B2 : List ℕ
  B2 = slice_set B1 end x

  abbrev H2 : List (Option ℕ)
  H2 = slice_set H x (Some l)

  abbrev C2 : List ℕ
  C2 = slice_set C l (slice_index C l + 1)

  abbrev lists2 : List (List ℕ)
  lists2 = slice_set lists l (at lists l ++ x ∷ [])

  listed : l < length lists
  listed = omega (arith, r.every, small)

  last-near : IsIn last (end ∷ at lists l)
  last-near = last-in A B end (at lists l) end (r.circular_lists l small)

  -- the last place has links
  pub last-below : last < length H + length C
  last-below = go last-near
    where
      go : IsIn last (end ∷ at lists l) → last < length H + length C
      go (inl e) = omega (arith, e, small)
      go (inr i) = omega (arith, node-below A B H C lists r last l i)

  first-link : IsRelinked A B A1 B1 last x
  first-link = relinked A B last x (omega (arith, last-below, r.successors_long)) (omega (arith, node, r.predecessors_long))

  second-link : IsRelinked A1 B1 A2 B2 x end
  second-link = relinked A1 B1 x end (omega (arith, length-set A last x, r.successors_long, node)) (omega (arith, length-set B x last, r.predecessors_long, small))

  new-here : IsIn x (end ∷ at lists l) → ⊥
  new-here y = grind arith

  other-ring : (m : ℕ) → m < length C → m ≢ l → IsChain A2 B2 (length H + m) (at lists m) (length H + m)
  other-ring m few_lists other =
      let e = length H + m in
      let ends : e ≢ end = λ same. other (omega (arith, same)) in
      chain-frame A1 B1 A2 B2 x end second-link e (at lists m) e out_x (λ i. off_end (in-either end (at lists m) (e ∷ []) i))
      (chain-frame A B A1 B1 last x first-link e (at lists m) e (out_last last-near) (λ i. off_x (in-either x (at lists m) (e ∷ []) i)) (r.circular_lists m few_lists))
    where
      out_x : IsIn x ((length H + m) ∷ at lists m) → ⊥
      out_x y = grind (arith, nat_tests)

      off_x : IsIn x (at lists m) ⊎ IsIn x ((length H + m) ∷ []) → ⊥
      off_x y = grind (arith, nat_tests)

      off_end : IsIn end (at lists m) ⊎ IsIn end ((length H + m) ∷ []) → ⊥
      off_end (inl i) = end-out A B H C lists r l m i
      off_end (inr (inl e)) = other (omega (arith, e))
      off_end (inr (inr i)) = i

      out_last : IsIn last (end ∷ at lists l) → IsIn last ((length H + m) ∷ at lists m) → ⊥
      out_last (inl e) (inl f) = other (omega (arith, e, f))
      out_last (inl e) (inr i) = end-out A B H C lists r l m (subst (λ k. IsIn k (at lists m)) (sym e) i)
      out_last (inr j) (inl f) = end-out A B H C lists r m l (subst (λ k. IsIn k (at lists l)) (sym f) j)
      out_last (inr j) (inr i) = other (apart A B H C lists r last m l i j)

  -- a node more behind a list
  pub circular-push : AreCircularLists A2 B2 H2 C2 lists2
  circular-push = record {
    circular_lists = λ m within. subst (λ h. IsChain A2 B2 (h + m) (at lists2 m) (h + m)) (sym (length-set H x (Some l)))
        (at-set (λ k xs. k < length C → IsChain A2 B2 (length H + k) xs (length H + k)) lists l (at lists l ++ x ∷ []) listed
        (λ _. chain-push A B A1 B1 A2 B2 end (at lists l) x first-link second-link (ring-once A B H C lists r l) new-here (r.circular_lists l small))
        (λ k other inside. other-ring k inside other) m (omega (arith, within, length-set C l (slice_index C l + 1))));
    owner_list = λ y m i. listed_node y m (at-set-cases lists l m (at lists l ++ x ∷ []) y listed i);
    there = λ y m e. theirs y m (cases_eq y x) e;
    once = at-set (λ k xs. IsOnce xs) lists l (at lists l ++ x ∷ []) listed (once-push x (at lists l) (r.once l) (free l)) (λ k other. r.once k);
    counted = grind (arith, nat_tests, at-set, listed, get_or-set_same, length_push, get_or-set_other);
    every = length-set lists l (at lists l ++ x ∷ []) ∙ r.every ∙ sym (length-set C l (slice_index C l + 1));
    successors_long = omega (arith, length-set A1 x end, length-set A last x, length-set H x (Some l), length-set C l (slice_index C l + 1), r.successors_long);
    predecessors_long = omega (arith, length-set B1 end x, length-set B x last, length-set H x (Some l), length-set C l (slice_index C l + 1), r.predecessors_long);
    few = omega (arith, length-set H x (Some l), length-set C l (slice_index C l + 1), r.few);
  }
    where
      listed_node : (y m : ℕ) → ((m ≡ l) × IsIn y (at lists l ++ x ∷ [])) ⊎ ((m ≢ l) × IsIn y (at lists m)) → slice_index_or H2 y None ≡ Some m
      listed_node y z w = grind (arith, in-either y, get_or-set_other H x y (Some l) None, get_or-set_same H x (Some l) None node)

      theirs : (y m : ℕ) → (y ≡ x) ⊎ (y ≢ x) → slice_index_or H2 y None ≡ Some m → IsIn y (at lists2 m)
      theirs y z w e = grind (arith, get_or-set_same, in-right, get_or-set_other, in-left)

  -- there is room to count one more
  pub one-more : slice_index C l + 1 ≤ length H
  one-more =
      let all : length (at lists l ++ x ∷ []) ≤ length H = few (length H) (at lists l ++ x ∷ []) (once-push x (at lists l) (r.once l) (free l))
      (λ y i. below y (in-either y (at lists l) (x ∷ []) i)) in
      omega (arith, all, length_push (at lists l) x, r.counted l)
    where
      below : (y : ℕ) → IsIn y (at lists l) ⊎ IsIn y (x ∷ []) → y < length H
      below y (inl i) = node-below A B H C lists r y l i
      below y (inr (inl same)) = omega (arith, same, node)
      below y (inr (inr i)) = elim i [ ]

module _ (A B : List ℕ) (H : List (Option ℕ)) (C : List ℕ) (lists : List (List ℕ)) (r : AreCircularLists A B H C lists) (l x : ℕ) (i : IsIn x (at lists l)) where
  abbrev p : ℕ
  p = slice_index B x

  abbrev n : ℕ
  n = slice_index A x

  abbrev A3 : List ℕ
  A3 = slice_set A p n

  abbrev B3 : List ℕ
  B3 = slice_set B n p

  abbrev H3 : List (Option ℕ)
  H3 = slice_set H x None

  abbrev C3 : List ℕ
  C3 = slice_set C l (slice_index C l - 1)

  abbrev less : List ℕ
  less = without x (at lists l)

  abbrev lists3 : List (List ℕ)
  lists3 = slice_set lists l less

  inside : l < length C
  inside = list-below A B H C lists r x l i

  named : l < length lists
  named = omega (arith, r.every, inside)

  was : Parted x (at lists l)
  was = parted x (at lists l) i

  once-was : IsOnce ((length H + l) ∷ (was.front ++ x ∷ was.back))
  once-was = subst (λ xs. IsOnce ((length H + l) ∷ xs)) was.is (ring-once A B H C lists r l)

  ring-was : IsChain A B (length H + l) (was.front ++ x ∷ was.back) (length H + l)
  ring-was = subst (λ xs. IsChain A B (length H + l) xs (length H + l)) was.is (r.circular_lists l inside)

  parts : IsChain A B (length H + l) was.front x × IsChain A B x was.back (length H + l)
  parts = chain-part A B (length H + l) was.front x was.back (length H + l) ring-was

  -- both neighbours are the end or nodes of the list
  p-near : (p ≡ length H + l) ⊎ IsIn p (at lists l)
  p-near = go (last-in A B (length H + l) was.front x parts.0)
    where
      go : IsIn p ((length H + l) ∷ was.front) → (p ≡ length H + l) ⊎ IsIn p (at lists l)
      go y = grind (arith, nat_tests, in-left)

  n-near : (n ≡ length H + l) ⊎ IsIn n (at lists l)
  n-near = go was.back parts.1 (λ y j. subst (IsIn y) (sym was.is) (in-right y was.front (x ∷ was.back) (inr j)))
    where
      go : (zs : List ℕ) → IsChain A B x zs (length H + l) → ((y : ℕ) → IsIn y zs → IsIn y (at lists l)) → (n ≡ length H + l) ⊎ IsIn n (at lists l)
      go [] c all = inl c.0
      go (z ∷ zs) c all = inr (all n (inl (sym c.0.0)))

  -- so they have links
  linked : (y : ℕ) → (y ≡ length H + l) ⊎ IsIn y (at lists l) → y < length H + length C
  linked y z = grind (arith, nat_tests, inside, node-below A B H C lists r y l)

  pub p-below : p < length H + length C
  p-below = linked p p-near

  pub n-below : n < length H + length C
  n-below = linked n n-near

  pub x-below : x < length H
  x-below = node-below A B H C lists r x l i

  link : IsRelinked A B A3 B3 p n
  link = relinked A B p n (omega (arith, p-below, r.successors_long)) (omega (arith, n-below, r.predecessors_long))

  -- a neighbour is in no other ring
  far : (m y : ℕ) → m ≢ l → (y ≡ length H + l) ⊎ IsIn y (at lists l) → IsIn y ((length H + m) ∷ at lists m) → ⊥
  far m y other z w = grind (arith, end-out A B H C lists r l m, end-out A B H C lists r m l, apart A B H C lists r y m l)

  untouched : (m : ℕ) → m < length C → m ≢ l → IsChain A3 B3 (length H + m) (at lists m) (length H + m)
  untouched m within other = chain-frame A B A3 B3 p n link (length H + m) (at lists m) (length H + m) (far m p other p-near)
      (λ j. off (in-either n (at lists m) ((length H + m) ∷ []) j)) (r.circular_lists m within)
    where
      off : IsIn n (at lists m) ⊎ IsIn n ((length H + m) ∷ []) → ⊥
      off (inl j) = far m n other n-near (inr j)
      off (inr (inl e)) = far m n other n-near (inl e)
      off (inr (inr j)) = j

  shorter-ring : IsChain A3 B3 (length H + l) less (length H + l)
  shorter-ring = grind (arith, nat_tests, without-parted, chain-unlink, link, once-was, ring-was)

  pub counted-one : 0 < slice_index C l
  counted-one = omega (arith, r.counted l, length-without x (at lists l) (r.once l) i)

  -- a node less in its list
  pub circular-unlink : AreCircularLists A3 B3 H3 C3 lists3
  circular-unlink = record {
    circular_lists = λ m within. subst (λ h. IsChain A3 B3 (h + m) (at lists3 m) (h + m)) (sym (length-set H x None))
        (at-set (λ k xs. k < length C → IsChain A3 B3 (length H + k) xs (length H + k)) lists l less named
        (λ _. shorter-ring) (λ k other small. untouched k small other) m (omega (arith, within, length-set C l (slice_index C l - 1))));
    owner_list = λ y m j. listed_node y m (at-set-cases lists l m less y named j);
    there = λ y m e. theirs y m (cases_eq y x) e;
    once = at-set (λ k xs. IsOnce xs) lists l less named (once-without x (at lists l) (r.once l)) (λ k other. r.once k);
    counted = grind (arith, get_or-set_same, inside, length-without, get_or-set_other);
    every = length-set lists l less ∙ r.every ∙ sym (length-set C l (slice_index C l - 1));
    successors_long = omega (arith, length-set A p n, length-set H x None, length-set C l (slice_index C l - 1), r.successors_long);
    predecessors_long = omega (arith, length-set B n p, length-set H x None, length-set C l (slice_index C l - 1), r.predecessors_long);
    few = omega (arith, length-set H x None, length-set C l (slice_index C l - 1), r.few);
  }
    where
      listed_node : (y m : ℕ) → ((m ≡ l) × IsIn y less) ⊎ ((m ≢ l) × IsIn y (at lists m)) → slice_index_or H3 y None ≡ Some m
      listed_node y m z = grind (arith, in-without y x, get_or-set_other H x y None None)

      theirs : (y m : ℕ) → (y ≡ x) ⊎ (y ≢ x) → slice_index_or H3 y None ≡ Some m → IsIn y (at lists3 m)
      theirs y m z e = grind (arith, get_or-set_same, x-below, get_or-set_other, named, without-in)

-- each list without a node is the lists with the one list that has it written
pub without-one : (t : Table) (l x : ℕ) → IsSound t → IsIn x (list_at t l) → with_list l (without x (list_at t l)) t ≡ record t { lists = map (without x) t.lists }
without-one t l x s i = ap (λ ls. record t { lists = ls })
    (same_lists _ _ (length-set t.lists l (without x (list_at t l)) ∙ sym (length-map t.lists (without x))) each)
  where
    each : (k : ℕ) (d : List ℕ) → k < length (slice_set t.lists l (without x (list_at t l))) →
        slice_index_or (slice_set t.lists l (without x (list_at t l))) k d ≡ slice_index_or (map (without x) t.lists) k d
    each k d within = go (cases_eq k l)
      where
        small : k < length t.lists
        small = omega (arith, within, length-set t.lists l (without x (list_at t l)))

        mapped : slice_index_or (map (without x) t.lists) k d ≡ without x (list_at t k)
        mapped = get_or-map (without x) t.lists k [] d small

        go : (k ≡ l) ⊎ (k ≢ l) → slice_index_or (slice_set t.lists l (without x (list_at t l))) k d ≡ slice_index_or (map (without x) t.lists) k d
        go (inl same) = grind (arith, nat_tests, get_or-set_same, small, mapped)
        go (inr other) = get_or-set_other t.lists l k (without x (list_at t l)) d other ∙ get_or_default t.lists k d [] small
            ∙ sym (mapped ∙ without-absent x (list_at t k) (λ j. other (s.apart x k l j i)))

-- and nothing changes where none has it
pub without-none : (t : Table) (x : ℕ) → IsFree t x → record t { lists = map (without x) t.lists } ≡ t
without-none t x free = ap (λ ls. record t { lists = ls }) (same_lists _ _ (length-map t.lists (without x)) each)
  where
    each : (k : ℕ) (d : List ℕ) → k < length (map (without x) t.lists) → slice_index_or (map (without x) t.lists) k d ≡ slice_index_or t.lists k d
    each k d within =
        let small : k < length t.lists = omega (arith, within, length-map t.lists (without x)) in
        get_or-map (without x) t.lists k [] d small ∙ without-absent x (list_at t k) (free.nowhere k) ∙ get_or_default t.lists k [] d small

-- a list without its first node is its rest
pub without-first : (xs : List ℕ) (x : ℕ) → IsOnce xs → first_of xs ≡ Some x → without x xs ≡ rest_of xs
without-first [] x o e = absurd (cc)
without-first (y ∷ ys) x o e = grind (arith, nat_tests, same_Some y x e, left x y ys, without-absent x ys)

pub first-in : (xs : List ℕ) (x : ℕ) → first_of xs ≡ Some x → IsIn x xs
first-in [] x e = absurd (cc)
first-in (y ∷ ys) x e = inl (same_Some y x e)

-- a node that was taken out is in no list
pub free-without : (t : Table) (x : ℕ) → IsFree (record t { lists = map (without x) t.lists }) x
free-without t x = record { nowhere = λ l i. go l (cases_lt l (length t.lists)) i }
  where
    go : (l : ℕ) → (l < length t.lists) ⊎ (length t.lists ≤ l) → IsIn x (at (map (without x) t.lists) l) → ⊥
    go l (inl small) i = (in-without x x (list_at t l) (subst (IsIn x) (get_or-map (without x) t.lists l [] [] small) i)).0 refl
    go l (inr large) i = elim (subst (IsIn x) (get_or_past (map (without x) t.lists) l [] (omega (arith, large, length-map t.lists (without x)))) i) [ ]
