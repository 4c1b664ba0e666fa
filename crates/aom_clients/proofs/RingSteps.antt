-- What each call makes of the links, in the words of its contract.
use Rattle.std.proofs.lemmas.Bool.Decides.{nat_tests}
use Rattle.std.proofs.Common.{◌≡◌, ◌<◌, ◌≤◌, ◌+◌, ◌-◌, ◌++◌, ℕ, suc, true, List, [], ◌∷◌, Option, Some, None, length, take, drop, get_or}
use Rattle.std.proofs.Common.{replicate, refl, sym, ap, ◌∙◌, subst, inl, inr, arith}
use Rattle.std.specs.Prelude.{slice_index, slice_index_or, slice_set, nat_lt}
use Rattle.std.proofs.lemmas.Bool.{cond-true, cond-false, eq-eqb}
use Rattle.std.proofs.lemmas.List.{get_or_read, length-set, length-replicate}
use Rattle.std.proofs.Math.Seq.{take-append_seam}
use Rattle.aom_clients.specs.Lists.{Table, IsIn, IsOnce, IsFree, IsSound, empty, list_at, with_list, without, first_of, after_node}
use Rattle.aom_clients.specs.CircularLists.{AreOwn, IsChain, AreCircularLists, lists_from, node_at}
use Rattle.aom_clients.proofs.CircularLists.{at, lists-seen, circular-push, circular-unlink, one-more, last-below, p-below, n-below, counted-one, sound, node-below}
use Rattle.aom_clients.proofs.CircularLists.{list-below}

small_test : (m n : ℕ) → m < n → nat_lt m n ≡ true
small_test m n h = grind arith

module _ (A B : List ℕ) (H : List (Option ℕ)) (C : List ℕ) where
  -- what contracts see
  abbrev pub view : Table
  view = record { lists = lists_from A (length H) C; nodes = length H }

  module _ (t : Table) (is : view ≡ t) (r : AreCircularLists A B H C (lists_from A (length H) C)) where
    -- a node goes behind a list
    pub record Pushed (l x p e k : ℕ) : Type 0 where
      pub fits : k + 1 < 65536
      pub circular : AreCircularLists (slice_set (slice_set A p x) x e) (slice_set (slice_set B x p) e x) (slice_set H x (Some l)) (slice_set C l (k + 1))
          (lists_from (slice_set (slice_set A p x) x e) (length (slice_set H x (Some l))) (slice_set C l (k + 1)))
      pub seen : record { lists = lists_from (slice_set (slice_set A p x) x e) (length (slice_set H x (Some l))) (slice_set C l (k + 1)); nodes = length (slice_set H x (Some l)) }
          ≡ with_list l (list_at t l ++ x ∷ []) t

    pub listed : (l : ℕ) → l < length t.lists → l < length C
    listed l small = omega (arith, small, ap (λ s. length s.lists) is, r.every)

    -- the last place has links
    pub last-within : (l x p e : ℕ) → l < length t.lists → x < t.nodes → IsFree t x → p ≡ get_or B e p → e ≡ length H + l → p < length A
    last-within l x p e small node free p_is e_is =
        let inside : l < length C = listed l small in
        let the_end : length H + l < length B = omega (arith, r.predecessors_long, inside) in
        let p_was : slice_index B (length H + l) ≡ p = sym (get_or_read B (length H + l) p the_end (subst (λ n. p ≡ get_or B n p) e_is p_is) 0) in
        omega (
          arith,
          p_was,
          last-below A B H C (lists_from A (length H) C) r l x inside (omega (arith, node, ap (λ s. s.nodes) is))
              (λ m i. free.nowhere m (subst (λ s. IsIn x (list_at s m)) is i)),
          r.successors_long,
        )

    pub pushed : (l x p e k : ℕ) → l < length t.lists → x < t.nodes → IsFree t x → p ≡ get_or B e p → e ≡ length H + l → k ≡ get_or C l k → Pushed l x p e k
    pushed l x p e k small node free p_is e_is k_is =
        let inside : l < length C = listed l small in
        let below : x < length H = omega (arith, node, ap (λ s. s.nodes) is) in
        let absent : (m : ℕ) → IsIn x (at (lists_from A (length H) C) m) → ⊥ = λ m i. free.nowhere m (subst (λ s. IsIn x (list_at s m)) is i) in
        let old = lists_from A (length H) C in
        let the_end : length H + l < length B = omega (arith, r.predecessors_long, inside) in
        let p_was : slice_index B (length H + l) ≡ p = sym (get_or_read B (length H + l) p the_end (subst (λ n. p ≡ get_or B n p) e_is p_is) 0) in
        let k_was : slice_index C l ≡ k = sym (get_or_read C l k inside k_is 0) in
        let circular : AreCircularLists (slice_set (slice_set A p x) x e) (slice_set (slice_set B x p) e x) (slice_set H x (Some l)) (slice_set C l (k + 1))
        (slice_set old l (at old l ++ x ∷ [])) = grind (arith, nat_tests, circular-push A B H C old r l x inside below absent) in
        let lists_now = lists-seen _ _ _ _ _ circular in
        record {
          fits = omega (arith, k_was, one-more A B H C old r l x inside below absent, r.few, inside);
          circular = subst (AreCircularLists _ _ _ _) (sym lists_now) circular;
          seen = grind (arith, nat_tests, length-set H x (Some l));
        }

    -- a node leaves its list
    pub record Unlinked (l x p n k : ℕ) : Type 0 where
      pub counted : 0 < k
      pub circular : AreCircularLists (slice_set A p n) (slice_set B n p) (slice_set H x None) (slice_set C l (k - 1))
          (lists_from (slice_set A p n) (length (slice_set H x None)) (slice_set C l (k - 1)))
      pub seen : record { lists = lists_from (slice_set A p n) (length (slice_set H x None)) (slice_set C l (k - 1)); nodes = length (slice_set H x None) }
          ≡ with_list l (without x (list_at t l)) t

    pub node-has : (l x : ℕ) → IsIn x (list_at t l) → (x < length H) × (x < length A) × (x < length B) × (l < length C)
    node-has l x i =
        let j : IsIn x (at (lists_from A (length H) C) l) = subst (λ s. IsIn x (list_at s l)) (sym is) i in
        let small = node-below A B H C (lists_from A (length H) C) r x l j in (
          small,
          omega (arith, small, r.successors_long),
          omega (arith, small, r.predecessors_long),
          list-below A B H C (lists_from A (length H) C) r x l j,
        )

    -- both neighbours have links
    pub neighbours : (l x p n : ℕ) → IsIn x (list_at t l) → p ≡ get_or B x p → n ≡ get_or A x n → (p < length A) × (n < length B)
    neighbours l x p n i p_is n_is = grind (arith, node-has l x i, get_or_read B x p, get_or_read A x n, p-below A B H C, n-below A B H C)

    pub unlinked : (l x p n k : ℕ) → IsIn x (list_at t l) → p ≡ get_or B x p → n ≡ get_or A x n → k ≡ get_or C l k → Unlinked l x p n k
    unlinked l x p n k i p_is n_is k_is =
        let old = lists_from A (length H) C in
        let j : IsIn x (at old l) = subst (λ s. IsIn x (list_at s l)) (sym is) i in
        let has = node-has l x i in
        let p_was : slice_index B x ≡ p = sym (get_or_read B x p has.2 p_is 0) in
        let n_was : slice_index A x ≡ n = sym (get_or_read A x n has.1 n_is 0) in
        let k_was : slice_index C l ≡ k = sym (get_or_read C l k has.3 k_is 0) in
        let circular : AreCircularLists (slice_set A p n) (slice_set B n p) (slice_set H x None) (slice_set C l (k - 1)) (slice_set old l (without x (at old l))) =
        grind (arith, nat_tests, circular-unlink A B H C old r l x j) in
        let lists_now = lists-seen _ _ _ _ _ circular in
        record {
          counted = omega (arith, k_was, counted-one A B H C old r l x j);
          circular = subst (AreCircularLists _ _ _ _) (sym lists_now) circular;
          seen = grind (arith, nat_tests, length-set H x None);
        }

    -- what the links say of the first node, and of the next
    pub first-is : (l : ℕ) → l < length t.lists → node_at (length H) (slice_index A (length H + l)) ≡ first_of (list_at t l)
    first-is l small = go (at (lists_from A (length H) C) l) refl (r.circular_lists l (listed l small)) ∙ ap (λ s. first_of (list_at s l)) is
      where
        go : (xs : List ℕ) → at (lists_from A (length H) C) l ≡ xs →
            IsChain A B (length H + l) xs (length H + l) → node_at (length H) (slice_index A (length H + l)) ≡ first_of (at (lists_from A (length H) C) l)
        go [] e c = grind (arith, nat_tests, cond-false)
        go (x ∷ xs) e c = ap (node_at (length H)) c.0.0 ∙ cond-true _ _ _
            (small_test x (length H) (node-below A B H C (lists_from A (length H) C) r x l (subst (IsIn x) (sym e) (inl refl)))) ∙ sym (ap first_of e)

    pub next-is : (l x : ℕ) → IsIn x (list_at t l) → node_at (length H) (slice_index A x) ≡ after_node x (list_at t l)
    next-is l x i =
        let j : IsIn x (at (lists_from A (length H) C) l) = subst (λ s. IsIn x (list_at s l)) (sym is) i in
        walk_to (length H + l) (at (lists_from A (length H) C) l) (r.once l) (λ y k. node-below A B H C (lists_from A (length H) C) r y l k)
        (r.circular_lists l (list-below A B H C (lists_from A (length H) C) r x l j)) j ∙ ap (λ s. after_node x (list_at s l)) is
      where
        behind : (y : ℕ) (ys : List ℕ) → ((z : ℕ) → IsIn z ys → z < length H) → IsChain A B y ys (length H + l) → node_at (length H) (slice_index A y) ≡ first_of ys
        behind y [] below c = grind (arith, nat_tests, cond-false)
        behind y (z ∷ ys) below c = ap (node_at (length H)) c.0.0 ∙ cond-true _ _ _ (small_test z (length H) (below z (inl refl)))

        walk_to : (b : ℕ) (ys : List ℕ) → IsOnce ys → ((z : ℕ) → IsIn z ys → z < length H) → IsChain A B b ys (length H + l) → IsIn x ys
            → node_at (length H) (slice_index A x) ≡ after_node x ys
        walk_to b [] once below c j = elim j [ ]
        walk_to b (y ∷ ys) once below c (inl same) = grind (arith, nat_tests, behind, cond-true, eq-eqb)
        walk_to b (y ∷ ys) once below c (inr k) = grind (arith, nat_tests, walk_to y ys once.1)

    pub sound-seen : IsSound t
    sound-seen = subst IsSound is (sound A B H C (lists_from A (length H) C) r)

abbrev nobody : List ℕ
nobody = []

abbrev unlisted_node_one : Option ℕ
unlisted_node_one = None

-- the links as they are at first: each place is linked to itself
pub circular-empty : (A B : List ℕ) (H : List (Option ℕ)) (C : List ℕ) (n m : ℕ) → n + m ≤ 65536 → AreOwn A (n + m) → AreOwn B (n + m)
    → H ≡ replicate n unlisted_node_one → C ≡ replicate m 0 → AreCircularLists A B H C (replicate m nobody)
circular-empty A B H C n m few a b h k = record {
  circular_lists = λ l small. subst (λ i. IsChain A B (i + l) (at (replicate m nobody) l) (i + l)) (sym long_h) (subst
      (λ xs. IsChain A B (n + l) xs (n + l)) (sym (none l)) (a.own (n + l) (omega (arith, small, long_c)), b.own (n + l) (omega (arith, small, long_c))));
  owner_list = λ x l i. elim (subst (IsIn x) (none l) i) [ ];
  there = λ x l e. absurd (nothing l (sym (unlisted_node x) ∙ e));
  once = λ l. subst IsOnce (sym (none l)) tt;
  counted = λ l. zeros l ∙ sym (ap length (none l));
  every = length-replicate m nobody ∙ sym long_c;
  successors_long = omega (arith, a.long, long_h, long_c);
  predecessors_long = omega (arith, b.long, long_h, long_c);
  few = omega (arith, few, long_h, long_c);
}
  where
    long_h : length H ≡ n
    long_h = ap length h ∙ length-replicate n unlisted_node_one

    long_c : length C ≡ m
    long_c = ap length k ∙ length-replicate {A = ℕ} m 0

    nothing : (l : ℕ) → unlisted_node_one ≡ Some l → ⊥
    nothing l e = cc

    same : {X : Type 0} (d : X) (k i : ℕ) → get_or (replicate k d) i d ≡ d
    same d (suc k) (suc i) = same d k i
    same d _ _ = refl

    none : (l : ℕ) → at (replicate m nobody) l ≡ nobody
    none l = same nobody m l

    unlisted_node : (x : ℕ) → slice_index_or H x unlisted_node_one ≡ unlisted_node_one
    unlisted_node x = ap (λ hs. slice_index_or hs x unlisted_node_one) h ∙ same unlisted_node_one n x

    zeros : (l : ℕ) → slice_index C l ≡ 0
    zeros l = ap (λ cs. slice_index cs l) k ∙ same 0 m l

-- the same as contracts see it
pub record Emptied (A B : List ℕ) (H : List (Option ℕ)) (C : List ℕ) (n m : ℕ) : Type 0 where
  pub circular : AreCircularLists A B H C (lists_from A (length H) C)
  pub seen : record { lists = lists_from A (length H) C; nodes = length H } ≡ empty n m

pub emptied : (A B : List ℕ) (H : List (Option ℕ)) (C : List ℕ) (n m : ℕ) → n + m ≤ 65536 → AreOwn A (n + m) → AreOwn B (n + m)
    → H ≡ replicate n unlisted_node_one → C ≡ replicate m 0 → Emptied A B H C n m
emptied A B H C n m few a b h k =
    let circular = circular-empty A B H C n m few a b h k in
    let lists_now = lists-seen A B H C (replicate m nobody) circular in
    record {
      circular = subst (AreCircularLists A B H C) (sym lists_now) circular;
      seen = grind (arith, nat_tests, length-replicate);
    }

-- places that were written over are as they were written
pub own-written : (old new : List ℕ) (n : ℕ) → length old ≡ n → length new ≡ length old → ((i : ℕ) → i < length new → slice_index new i ≡ i)
    → AreOwn (take n (new ++ drop (length new) old)) n
own-written old new n long same own = search (arith, nat_tests, take-append_seam new)
