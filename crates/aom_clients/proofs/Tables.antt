-- Tables of lists after a call, and what contracts see of queues of nodes then.
use Rattle.std.proofs.lemmas.Bool.Decides.{nat_tests}
use Rattle.std.proofs.Common.{arith, ◌≡◌, ◌≢◌, ◌<◌, ◌⊎◌, ◌==◌, ◌++◌, ℕ, Bool, not, List, [], ◌∷◌, length, refl, sym, ap, ◌∙◌, subst, inl, inr}
use Rattle.std.specs.Prelude.{map, filter, slice_index_or, slice_set}
use Rattle.std.proofs.lemmas.Bool.{cases_eq}
use Rattle.std.proofs.lemmas.List.{map-set, map-append, length-set, length-map, get_or-set_same, get_or-set_other}
use Rattle.std.proofs.Math.ListN.{get_or-map}
use Rattle.aom_clients.specs.Lists.{Table, IsIn, list_at, with_list, without}
use Rattle.aom_clients.proofs.CircularLists.{at-set-cases}
use Rattle.aom_clients.proofs.Members.{in-without, in-either}

-- a table with as many lists and nodes
pub record Alike (t u : Table) : Type 0 where
  pub lists : length u.lists ≡ length t.lists
  pub nodes : u.nodes ≡ t.nodes

pub alike-same : (t : Table) → Alike t t
alike-same t = record { lists = refl; nodes = refl }

pub alike-with : (t : Table) (k : ℕ) (xs : List ℕ) → Alike t (with_list k xs t)
alike-with t k xs = record { lists = length-set t.lists k xs; nodes = refl }

pub alike-without : (t : Table) (n : ℕ) → Alike t (record t { lists = map (without n) t.lists })
alike-without t n = record { lists = length-map t.lists (without n); nodes = refl }

pub alike-then : (t u v : Table) → Alike t u → Alike u v → Alike t v
alike-then t u v a b = record { lists = b.lists ∙ a.lists; nodes = b.nodes ∙ a.nodes }

-- a table each of whose nodes was in the same list before
pub record Fewer (t u : Table) : Type 0 where
  pub each : (k n : ℕ) → IsIn n (list_at u k) → IsIn n (list_at t k)

pub at-without : (t : Table) (n k : ℕ) → list_at (record t { lists = map (without n) t.lists }) k ≡ without n (list_at t k)
at-without t n k = get_or-map (without n) t.lists k []

pub fewer-without : (t : Table) (n : ℕ) → Fewer t (record t { lists = map (without n) t.lists })
fewer-without t n = record { each = λ k m i. (in-without m n (list_at t k) (subst (IsIn m) (at-without t n k) i)).1 }

pub fewer-with : (t : Table) (k : ℕ) (xs : List ℕ) → k < length t.lists → ((n : ℕ) → IsIn n xs → IsIn n (list_at t k)) → Fewer t (with_list k xs t)
fewer-with t k xs small less = record { each = λ j n i. go j n (at-set-cases t.lists k j xs n small i) }
  where
    go : (j n : ℕ) → ((j ≡ k) × IsIn n xs) ⊎ ((j ≢ k) × IsIn n (list_at t j)) → IsIn n (list_at t j)
    go j n (inl here) = subst (λ l. IsIn n (list_at t l)) (sym here.0) (less n here.1)
    go j n (inr there) = there.1

-- a node of a table where one was put last is that one or was there
pub pushed-in : (t : Table) (k x j n : ℕ) → k < length t.lists → IsIn n (list_at (with_list k (list_at t k ++ x ∷ []) t) j)
    → ((j ≡ k) × (n ≡ x)) ⊎ IsIn n (list_at t j)
pushed-in t k x j n small i = grind (arith, nat_tests, at-set-cases t.lists k j, in-either n)

-- what is in the list where a node was put last
pub push-keeps : (t : Table) (k x : ℕ) (j n : ℕ) → k < length t.lists → IsIn n (list_at t j) → IsIn n (list_at (with_list k (list_at t k ++ x ∷ []) t) j)
push-keeps t k x j n small i = go (cases_eq j k)
  where
    left : (xs : List ℕ) → IsIn n xs → IsIn n (xs ++ x ∷ [])
    left [] i = elim i [ ]
    left (y ∷ ys) (inl e) = inl e
    left (y ∷ ys) (inr i) = inr (left ys i)

    go : (j ≡ k) ⊎ (j ≢ k) → IsIn n (list_at (with_list k (list_at t k ++ x ∷ []) t) j)
    go (inl same) = subst (λ l. IsIn n (list_at (with_list k (list_at t k ++ x ∷ []) t) l)) (sym same)
        (subst (IsIn n) (sym (get_or-set_same t.lists k (list_at t k ++ x ∷ []) [] small)) (left (list_at t k) (subst (λ l. IsIn n (list_at t l)) same i)))
    go (inr other) = subst (IsIn n) (sym (get_or-set_other t.lists k j (list_at t k ++ x ∷ []) [] other)) i

pub push-has : (t : Table) (k x : ℕ) → k < length t.lists → IsIn x (list_at (with_list k (list_at t k ++ x ∷ []) t) k)
push-has t k x small = subst (IsIn x) (sym (get_or-set_same t.lists k (list_at t k ++ x ∷ []) [] small)) (last (list_at t k))
  where
    last : (xs : List ℕ) → IsIn x (xs ++ x ∷ [])
    last [] = inl refl
    last (y ∷ ys) = inr (last ys)

module _ {E : Type 0} (entry : ℕ → E) where
  -- the queues that nodes stand for
  abbrev pub shown : List (List ℕ) → List (List E)
  shown lists = map (map entry) lists

  pub shown-at : (lists : List (List ℕ)) (k : ℕ) → slice_index_or (shown lists) k [] ≡ map entry (slice_index_or lists k [])
  shown-at lists k = get_or-map (map entry) lists k []

  pub shown-push : (lists : List (List ℕ)) (k n : ℕ) (e : E) → entry n ≡ e
      → shown (slice_set lists k (slice_index_or lists k [] ++ n ∷ [])) ≡ slice_set (shown lists) k (slice_index_or (shown lists) k [] ++ e ∷ [])
  shown-push lists k n e is = map-set (map entry) lists k (slice_index_or lists k [] ++ n ∷ [])
      ∙ ap (slice_set (shown lists) k) (map-append entry (slice_index_or lists k []) (n ∷ []) ∙ ap (λ es. es ++ entry n ∷ []) (sym (shown-at lists k))
      ∙ ap (λ x. slice_index_or (shown lists) k [] ++ x ∷ []) is)

  -- a test of entries that leaves out just one node
  shown-list : (p : E → Bool) (n : ℕ) → ((x : ℕ) → p (entry x) ≡ not (x == n)) → (xs : List ℕ) → map entry (without n xs) ≡ filter p (map entry xs)
  shown-list p n same [] = refl
  shown-list p n same (x ∷ xs) = grind (arith, nat_tests, shown-list p n same xs)

  pub shown-without : (p : E → Bool) (n : ℕ) → ((x : ℕ) → p (entry x) ≡ not (x == n)) → (lists : List (List ℕ))
      → shown (map (without n) lists) ≡ map (filter p) (shown lists)
  shown-without p n same [] = refl
  shown-without p n same (xs ∷ lists) = grind (arith, nat_tests, lists, shown-list p n same xs, shown-without p n same lists)
