-- Looking for the first session that is there goes on from each client to the next, and passes over nothing: no client is listed twice.
use Rattle.std.proofs.Common.{◌≡◌, ◌⊎◌, ◌∙◌, ℕ, Bool, true, false, cond, List, [], ◌∷◌, Option, Some, None, inl, inr, refl, sym, ap, subst}
use Rattle.std.specs.Prelude.{◌==◌, ◌≢◌}
use Rattle.std.proofs.lemmas.Bool.{cases_eq, eq-eqb, ne_eqb, cond-true, cond-false}
use Rattle.aom_clients.specs.Lists.{IsIn, IsOnce}
use Rattle.aom_clients.specs.Clients.{ClientsState, client_after, client_at, first_client, first_there}
use Rattle.aom_clients.specs.Table.{has_cell}

-- the list from a client on
abbrev pub from : Option ℕ → List ℕ → List ℕ
from None xs = []
from (Some c) [] = []
from (Some c) (x ∷ xs) = cond (x == c) (x ∷ xs) (from (Some c) xs)

from-here : (c x : ℕ) (xs : List ℕ) → x ≡ c → from (Some c) (x ∷ xs) ≡ x ∷ xs
from-here c x xs e = cond-true (x == c) (x ∷ xs) (from (Some c) xs) (eq-eqb x c e)

from-later : (c x : ℕ) (xs : List ℕ) → x ≢ c → from (Some c) (x ∷ xs) ≡ from (Some c) xs
from-later c x xs e = cond-false (x == c) (x ∷ xs) (from (Some c) xs) (ne_eqb x c e)

pub from-first : (xs : List ℕ) → from (first_client xs) xs ≡ xs
from-first [] = refl
from-first (x ∷ xs) = from-here x x xs refl

pub first-in : (d : ℕ) (xs : List ℕ) → first_client xs ≡ Some d → IsIn d xs
first-in d [] e = cc
first-in d (x ∷ xs) e = inl (cc)

pub after-in : (c d : ℕ) (xs : List ℕ) → client_after c xs ≡ Some d → IsIn d xs
after-in c d [] e = cc
after-in c d (x ∷ xs) e = go (x == c) (after-in c d xs) e
  where
    go : (b : Bool) → (client_after c xs ≡ Some d → IsIn d xs) → cond b (first_client xs) (client_after c xs) ≡ Some d → IsIn d (x ∷ xs)
    go true later e = inr (first-in d xs e)
    go false later e = inr (later e)

-- behind one that is listed no more
from-behind : (x : ℕ) (xs : List ℕ) (o : Option ℕ) → ((d : ℕ) → o ≡ Some d → IsIn d xs) → (IsIn x xs → ⊥) → from o (x ∷ xs) ≡ from o xs
from-behind x xs None inside none = refl
from-behind x xs (Some d) inside none = from-later d x xs (λ e. none (subst (λ y. IsIn y xs) (sym e) (inside d refl)))

-- the list from a client on is the client, and the list from the next on
pub from-next : (c : ℕ) (xs : List ℕ) → IsOnce xs → IsIn c xs → from (Some c) xs ≡ c ∷ from (client_after c xs) xs
from-next c [] once inside = absurd inside
from-next c (x ∷ xs) once inside = go (cases_eq x c) (from-next c xs once.1)
  where
    other : x ≢ c → IsIn c xs
    other apart = elim inside [ inl e ↦ absurd (apart e) | inr later ↦ later ]

    go : (x ≡ c) ⊎ (x ≢ c) → (IsIn c xs → from (Some c) xs ≡ c ∷ from (client_after c xs) xs) → from (Some c) (x ∷ xs) ≡ c ∷ from (client_after c (x ∷ xs)) (x ∷ xs)
    go (inl same) later =
        let next : client_after c (x ∷ xs) ≡ first_client xs = cond-true (x == c) (first_client xs) (client_after c xs) (eq-eqb x c same) in
        from-here c x xs same ∙ ap (λ y. y ∷ xs) same ∙ ap (λ ys. c ∷ ys)
        (sym (from-first xs) ∙ sym (from-behind x xs (first_client xs) (λ d e. first-in d xs e) once.0)) ∙ ap (λ o. c ∷ from o (x ∷ xs)) (sym next)
    go (inr apart) later =
        let next : client_after c (x ∷ xs) ≡ client_after c xs = cond-false (x == c) (first_client xs) (client_after c xs) (ne_eqb x c apart) in
        from-later c x xs apart ∙ later (other apart) ∙ ap (λ ys. c ∷ ys) (sym (from-behind x xs (client_after c xs) (λ d e. after-in c d xs e) once.0))
        ∙ ap (λ o. c ∷ from o (x ∷ xs)) (sym next)

pub looked : (s : ClientsState) (c : ℕ) (xs : List ℕ) → IsOnce xs → IsIn c xs → has_cell (client_at s c) ≡ false →
    first_there s (from (Some c) xs) ≡ first_there s (from (client_after c xs) xs)
looked s c xs once inside none = ap (first_there s) (from-next c xs once inside)
    ∙ cond-false (has_cell (client_at s c)) (Some c) (first_there s (from (client_after c xs) xs)) none

pub found : (s : ClientsState) (c : ℕ) (xs : List ℕ) → IsOnce xs → IsIn c xs → has_cell (client_at s c) ≡ true → first_there s (from (Some c) xs) ≡ Some c
found s c xs once inside some = ap (first_there s) (from-next c xs once inside)
    ∙ cond-true (has_cell (client_at s c)) (Some c) (first_there s (from (client_after c xs) xs)) some
