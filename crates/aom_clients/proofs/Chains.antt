-- Chains of links: how they are parted and joined, and what one new link does to them.
use Rattle.std.proofs.lemmas.Bool.Decides.{nat_tests}
use Rattle.std.proofs.Common.{arith, ◌≡◌, ◌≢◌, ◌<◌, ◌⊎◌, ℕ, List, [], ◌∷◌, ◌++◌, length, set, refl, sym, ap, ◌∙◌, subst, inl, inr}
use Rattle.std.specs.Prelude.{slice_index}
use Rattle.std.proofs.lemmas.List.{append-nil, get_or-set_same, get_or-set_other}
use Rattle.aom_clients.specs.Lists.{IsIn, IsOnce}
use Rattle.aom_clients.specs.CircularLists.{IsChain, walk}
use Rattle.aom_clients.proofs.Members.{in-left, in-right, in-either, once-left, once-right, once-apart}

module _ (A B : List ℕ) where
  pub chain-join : (x : ℕ) (xs : List ℕ) (y : ℕ) (ys : List ℕ) (z : ℕ) → IsChain A B x xs y → IsChain A B y ys z → IsChain A B x (xs ++ y ∷ ys) z
  chain-join x [] y ys z c d = (c, d)
  chain-join x (w ∷ xs) y ys z c d = (c.0, chain-join w xs y ys z c.1 d)

  pub chain-part : (x : ℕ) (xs : List ℕ) (y : ℕ) (ys : List ℕ) (z : ℕ) → IsChain A B x (xs ++ y ∷ ys) z → IsChain A B x xs y × IsChain A B y ys z
  chain-part x [] y ys z c = (c.0, c.1)
  chain-part x (w ∷ xs) y ys z c = grind (arith, nat_tests, chain-part w xs y ys z c.1)

  -- what is linked before the end of a chain stands in it
  pub last-in : (x : ℕ) (xs : List ℕ) (y : ℕ) → IsChain A B x xs y → IsIn (slice_index B y) (x ∷ xs)
  last-in x [] y c = inl (sym c.1)
  last-in x (w ∷ xs) y c = inr (last-in w xs y c.1)

  -- a walk along a chain meets its nodes
  pub walk-chain : (x : ℕ) (xs : List ℕ) (y : ℕ) → IsChain A B x xs y → walk A x (length xs) ≡ xs
  walk-chain x [] y c = refl
  walk-chain x (w ∷ xs) y c = ap (λ n. n ∷ walk A n (length xs)) c.0.0 ∙ ap (λ ns. w ∷ ns) (walk-chain w xs y c.1)

-- the links with a new one from the first place to the second
pub record IsRelinked (A B A' B' : List ℕ) (a b : ℕ) : Type 0 where
  pub after : slice_index A' a ≡ b
  pub successors : (i : ℕ) → i ≢ a → slice_index A' i ≡ slice_index A i
  pub before : slice_index B' b ≡ a
  pub predecessors : (i : ℕ) → i ≢ b → slice_index B' i ≡ slice_index B i

pub relinked : (A B : List ℕ) (a b : ℕ) → a < length A → b < length B → IsRelinked A B (set A a b) (set B b a) a b
relinked A B a b small large = record {
  after = get_or-set_same A a b 0 small;
  successors = λ i other. get_or-set_other A a i b 0 other;
  before = get_or-set_same B b a 0 large;
  predecessors = λ i other. get_or-set_other B b i a 0 other;
}

module _ (A B A' B' : List ℕ) (p n : ℕ) (new : IsRelinked A B A' B' p n) where
  -- a chain that the new link does not touch stays
  pub chain-frame : (x : ℕ) (xs : List ℕ) (y : ℕ) → (IsIn p (x ∷ xs) → ⊥) → (IsIn n (xs ++ y ∷ []) → ⊥) → IsChain A B x xs y → IsChain A' B' x xs y
  chain-frame x [] y out off c = (new.successors x (λ e. out (inl e)) ∙ c.0, new.predecessors y (λ e. off (inl e)) ∙ c.1)
  chain-frame x (w ∷ xs) y out off c = search (arith, nat_tests, new.successors x, new.predecessors w, chain-frame w xs y)

-- a chain whose last link is led to another place ends there
pub chain-redirect : (A B A' B' : List ℕ) (n x : ℕ) (xs : List ℕ) (y : ℕ) → IsRelinked A B A' B' (slice_index B y) n
    → IsOnce (x ∷ xs) → (IsIn n xs → ⊥) → IsChain A B x xs y → IsChain A' B' x xs n
chain-redirect A B A' B' n x [] y new once off c = (subst (λ k. slice_index A' k ≡ n) c.1 new.after, new.before ∙ c.1)
chain-redirect A B A' B' n x (w ∷ xs) y new once off c =
    search (arith, nat_tests, new.successors x, new.predecessors w, chain-redirect A B A' B' n w xs y new once.1, last-in A B w xs y c.1)

-- a ring without one of its nodes
pub chain-unlink : (A B A' B' : List ℕ) (e : ℕ) (xs : List ℕ) (x : ℕ) (ys : List ℕ) → IsRelinked A B A' B' (slice_index B x) (slice_index A x) →
    IsOnce (e ∷ (xs ++ x ∷ ys)) → IsChain A B e (xs ++ x ∷ ys) e → IsChain A' B' e (xs ++ ys) e
chain-unlink A B A' B' e xs x ys new once c = go ys (chain-part A B e xs x ys e c) once
  where
    front : (zs : List ℕ) → IsOnce (e ∷ (xs ++ x ∷ zs)) → IsOnce (e ∷ xs)
    front zs o = (λ i. o.0 (in-left e xs (x ∷ zs) i), once-left xs (x ∷ zs) o.1)

    go : (zs : List ℕ) → IsChain A B e xs x × IsChain A B x zs e → IsOnce (e ∷ (xs ++ x ∷ zs)) → IsChain A' B' e (xs ++ zs) e
    go [] parts o = grind (arith, nat_tests, append-nil, chain-redirect, front, in-left)
    go (z ∷ zs) parts o =
        let led : IsRelinked A B A' B' (slice_index B x) z = subst (λ k. IsRelinked A B A' B' (slice_index B x) k) parts.1.0.0 new in
        let near : IsIn (slice_index B x) (e ∷ xs) = last-in A B e xs x parts.0 in
        let tail : IsOnce (x ∷ z ∷ zs) = once-right xs (x ∷ z ∷ zs) o.1 in
        chain-join A' B' e xs z zs e
        (chain-redirect A B A' B' z e xs x led (front (z ∷ zs) o) (λ i. once-apart z xs (x ∷ z ∷ zs) o.1 i (inr (inl refl))) parts.0)
        (chain-frame A B A' B' (slice_index B x) z led z zs e (λ i. apart near i) (λ i. off tail (in-either z zs (e ∷ []) i)) parts.1.1)
      where
        apart : IsIn (slice_index B x) (e ∷ xs) → IsIn (slice_index B x) (z ∷ zs) → ⊥
        apart (inl same) i = o.0 (in-right e xs (x ∷ z ∷ zs) (inr (subst (λ k. IsIn k (z ∷ zs)) (sym same) i)))
        apart (inr j) i = once-apart (slice_index B x) xs (x ∷ z ∷ zs) o.1 j (inr i)

        off : IsOnce (x ∷ z ∷ zs) → IsIn z zs ⊎ IsIn z (e ∷ []) → ⊥
        off tail (inl i) = tail.1.0 i
        off tail y = grind (arith, in-right e xs (x ∷ z ∷ zs))

-- a ring with a node more, before its end
pub chain-push : (A B A' B' A'' B'' : List ℕ) (e : ℕ) (xs : List ℕ) (x : ℕ) → IsRelinked A B A' B' (slice_index B e) x → IsRelinked A' B' A'' B'' x e
    → IsOnce (e ∷ xs) → (IsIn x (e ∷ xs) → ⊥) → IsChain A B e xs e → IsChain A'' B'' e (xs ++ x ∷ []) e
chain-push A B A' B' A'' B'' e xs x first then_end once new c = grind (
  arith,
  chain-join A'' B'' e xs x,
  chain-frame A' B' A'' B'' x e then_end e xs x new,
  in-either e xs (x ∷ []),
  chain-redirect A B A' B' x e xs e first once,
)
