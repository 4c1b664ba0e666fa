-- How many seats of a server are taken: by lists, where something is asked, is taken first, is opened, parted or withdrawn.
use Rattle.std.proofs.lemmas.Bool.Decides.{nat_tests}
use Rattle.std.proofs.Common.{Bool, List, [], arith, cond, length, suc, ℕ, ◌+◌, ◌∷◌, ◌≡◌, ◌≤◌}
use Rattle.std.proofs.lemmas.List.{length-append}
use Rattle.std.specs.Prelude.{filter, ◌++◌}
use Rattle.aom_semantics.specs.Places.{Asked, Service}
use Rattle.aom_semantics.specs.Servers.{asked_last, is_connect, is_other, opened, parted, sessions_in_use, stays, taken_first}

-- ---- lists

fewer : {X : Type 0} (test : X → Bool) (xs : List X) → length (filter test xs) ≤ length xs
fewer test [] = omega arith
fewer test (x ∷ xs) = grind (arith, nat_tests, fewer test xs)

fewer_stay : (test kept : Asked → Bool) (es : List Asked) → length (filter test (filter kept es)) ≤ length (filter test es)
fewer_stay test kept [] = omega arith
fewer_stay test kept (e ∷ es) = grind (arith, nat_tests, fewer_stay test kept es)

one_last : (x : Asked) (es : List Asked) → length (filter is_connect (es ++ x ∷ [])) ≡ length (filter is_connect es) + cond (is_connect x) 1 0
one_last x [] = grind (arith, nat_tests)
one_last x (e ∷ es) = grind (arith, nat_tests, one_last x es)

-- ---- seats

pub owned_objects_same : (v w : Service) → v.queue ≡ w.queue → v.sessions ≡ w.sessions → sessions_in_use v ≡ sessions_in_use w
owned_objects_same v w queue sessions = grind (arith, nat_tests)

pub owned_objects_none : (v : Service) → v.queue ≡ [] → v.sessions ≡ [] → sessions_in_use v ≡ 0
owned_objects_none v queue sessions = grind (arith, nat_tests)

pub owned_objects_asked : (x : Asked) (v : Service) → sessions_in_use (asked_last x v) ≡ sessions_in_use v + cond (is_connect x) 1 0
owned_objects_asked x v = let one = one_last x v.queue in omega (arith, one)

pub owned_objects_opened : (c : ℕ) (v : Service) → sessions_in_use (opened c v) ≡ suc (sessions_in_use v)
owned_objects_opened c v = let one : length (v.sessions ++ c ∷ []) ≡ length v.sessions + 1 = length-append v.sessions (c ∷ []) in omega (arith, one)

pub owned_objects_parted : (c : ℕ) (v : Service) → sessions_in_use (parted c v) ≤ sessions_in_use v
owned_objects_parted c v = let less = fewer (is_other c) v.sessions in omega (arith, less)

pub owned_objects_left : (c : ℕ) (v w : Service) → v.queue ≡ filter (stays c) w.queue → v.sessions ≡ w.sessions → sessions_in_use v ≤ sessions_in_use w
owned_objects_left c v w queue sessions = grind (arith, nat_tests, fewer_stay)

-- what is taken first had its seat
pub owned_objects_first : (v : Service) (e : Asked) (es : List Asked) → v.queue ≡ e ∷ es → sessions_in_use v ≡ sessions_in_use (taken_first v) + cond (is_connect e) 1 0
owned_objects_first v e es queue = grind (arith, nat_tests)

pub owned_objects_rest : (v : Service) → sessions_in_use (taken_first v) ≤ sessions_in_use v
owned_objects_rest v = grind (arith, nat_tests, owned_objects_same, owned_objects_first v)
