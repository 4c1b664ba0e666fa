-- Orders of tokens: a new one lies past all that are there, so none is there twice, and a reply completes one request or none.
use Rattle.std.proofs.lemmas.Bool.Decides.{nat_tests}
use Rattle.std.proofs.Common.{arith, List, Option, Some, [], ap, cond, false, refl, true, ℕ, ℤ, ◌+◌, ◌<◌, ◌==◌, ◌∙◌, ◌∷◌, ◌≡◌}
use Rattle.std.proofs.lemmas.Bool.{eq-eqb, eqb-true, ne_eqb}
use Rattle.std.proofs.lemmas.Option.{none-some, same_Some}
use Rattle.std.specs.Prelude.{◌⊎◌}
use Rattle.std.proofs.Math.Nat.{le-max_left, le-max_right}
use Rattle.aom_safety.proofs.SemanticsLemmas.{requested_unnamed}
use Rattle.aom_safety.proofs.Redeeming.{requested_redeemed}
use Rattle.aom_safety.proofs.Services.{service_asked}
use Rattle.aom_safety.proofs.Storing.{requested_here, requested_there, request_updated_alike}
use Rattle.aom_semantics.specs.Requests.{on_request}
use Rattle.aom_semantics.specs.Places.{Cell, Elsewhere, Object, Place, Request, Root, Service, requested, service_of, set_request}
use Rattle.aom_semantics.specs.State.{Receiver, Inside}
use Rattle.aom_semantics.specs.Tokens.{TokensApart, all_redeemed, awaited, handed_cells, handed_out, receiver_class, is_order, next_token}
use Rattle.aom_semantics.specs.Tokens.{order_in, order_past, promised, redeemed_by, redeemed_request, redeemed_with, with_token}

-- ---- one request, or none

pub waits_for : (order : ℕ) (o : Option ℕ) → is_order order o ≡ true → o ≡ Some order
waits_for order x e = grind (arith, nat_tests, eqb-true)

is_order_of : (order : ℕ) (o : Option ℕ) → o ≡ Some order → is_order order o ≡ true
is_order_of order o e = ap (is_order order) e ∙ eq-eqb order order refl

-- where one waits for that order, it alone is completed
pub redeems_one : (cs : List Cell) → TokensApart cs → (code : ℤ) (n k : ℕ) → awaited (requested cs n) ≡ Some k →
    (x : ℕ) → redeemed_request k code (requested cs x) ≡ cond (x == n) (on_request (redeemed_with code) (requested cs n)) (requested cs x)
redeems_one cs apart code n k waits x = grind (arith, nat_tests, eqb-true x n, is_order_of k, eq-eqb x n, waits_for k)

-- where none does, nothing changes
pub redeems_none : (cs : List Cell) (code : ℤ) (k : ℕ) → ((x : ℕ) → awaited (requested cs x) ≡ Some k → ⊥) → (x : ℕ) →
    redeemed_request k code (requested cs x) ≡ requested cs x
redeems_none cs code k none x = grind (arith, nat_tests, waits_for k)

-- the living token of each object is known by its place, and the object of each token by the token's: so nothing waits for a token that is no object's living
-- one
module _ (cs : List Cell) (apart : TokensApart cs) (live_at object_at : ℕ → Option ℕ) (waits : (n k : ℕ) →
    awaited (requested cs n) ≡ Some k → (m : ℕ) × (live_at n ≡ Some m) × (order_in (service_of cs (4096 + m)).token ≡ Some k) × (object_at m ≡ Some n)) where
  pub void_waits_none : (m n k : ℕ) → order_in (service_of cs (4096 + m)).token ≡ Some k → object_at m ≡ Some n → (live_at n ≡ Some m → ⊥) → (x : ℕ) →
      awaited (requested cs x) ≡ Some k → ⊥
  void_waits_none m n k reported of void x e = grind (arith, nat_tests, same_Some x n)

  -- and one that is, is waited for by its object
  pub living_waits : (m n k : ℕ) → order_in (service_of cs (4096 + m)).token ≡ Some k → live_at n ≡ Some m → (j : ℕ) → awaited (requested cs n) ≡ Some j →
      awaited (requested cs n) ≡ Some k
  living_waits m n k reported live j e = grind (arith, nat_tests, same_Some j k)

-- ---- orders go, and none comes

pub apart_fewer : (cs cs' : List Cell) → ((n k : ℕ) → awaited (requested cs' n) ≡ Some k → awaited (requested cs n) ≡ Some k) →
    ((n k : ℕ) → order_in (service_of cs' n).token ≡ Some k → order_in (service_of cs n).token ≡ Some k) → TokensApart cs → TokensApart cs'
apart_fewer cs cs' waits reported apart = search (arith, nat_tests)

-- ---- what a reply keeps

-- what waits after a reply waited before, and for another order
pub awaited_redeemed : (order : ℕ) (code : ℤ) (r : Option Request) (k : ℕ) → awaited (redeemed_request order code r) ≡ Some k →
    (awaited r ≡ Some k) × ((order == k) ≡ false)
awaited_redeemed order code r k e = grind (arith, nat_tests, ne_eqb order k, is_order_of order)

pub reported_as_before : (order : ℕ) (code : ℤ) (cs : List Cell) (n : ℕ) → service_of (all_redeemed order code cs) n ≡ service_of cs n
reported_as_before order code [] n = refl
reported_as_before order code (c ∷ cs) n = ap (λ v. cond (c.object.name == n) c.service v) (reported_as_before order code cs n)

pub redeemed_apart : (order : ℕ) (code : ℤ) (cs : List Cell) → TokensApart cs → TokensApart (all_redeemed order code cs)
redeemed_apart order code cs = grind (arith, nat_tests, apart_fewer cs, requested_redeemed order code cs, reported_as_before order code cs)

pub redeemed_by_apart : (order : Option ℕ) (code : ℤ) (cs : List Cell) → TokensApart cs → TokensApart (redeemed_by order code cs)
redeemed_by_apart x code cs apart = grind (arith, nat_tests, redeemed_apart)

-- ---- a new token

past : (o : Option ℕ) (k : ℕ) → o ≡ Some k → k < order_past o
past x k e = grind (arith, nat_tests, same_Some)

pub past_waits : (cs : List Cell) (n k : ℕ) → awaited (requested cs n) ≡ Some k → k < next_token cs
past_waits [] n k e = absurd (none-some _ e)
past_waits (c ∷ cs) n k e = grind (arith, nat_tests, past_waits cs n k, past, le-max_left, le-max_right)

pub past_reported : (cs : List Cell) (n k : ℕ) → order_in (service_of cs n).token ≡ Some k → k < next_token cs
past_reported [] n k e = absurd (none-some _ e)
past_reported (c ∷ cs) n k e = grind (arith, nat_tests, past_reported cs n k, past, le-max_left, le-max_right)

-- a request that waits for the new order, and its token: the orders stay apart
module _ (cs us : List Cell) (apart : TokensApart cs) (name asker class : ℕ) (owner : Place) (services : (n : ℕ) → service_of us n ≡ service_of cs n)
    (asks : (n k : ℕ) → awaited (requested us n) ≡ Some k → ((asker ≡ n) × (k ≡ next_token cs)) ⊎ (awaited (requested cs n) ≡ Some k)) where
  abbrev order : ℕ
  order = next_token cs

  abbrev vs : List Cell
  vs = with_token name (record { class = class; order = order }) owner us

  -- the token itself asks for nothing
  abbrev its : Service
  its = handed_out (record { class = class; order = order })

  -- it is the new token, or was there before
  reports : (n k : ℕ) → order_in (service_of vs n).token ≡ Some k → ((name ≡ n) × (k ≡ order)) ⊎ (order_in (service_of cs n).token ≡ Some k)
  reports n k e = grind (arith, nat_tests, eqb-true name n, same_Some)

  both_report : (n m k : ℕ) → order_in (service_of vs n).token ≡ Some k → order_in (service_of vs m).token ≡ Some k → n ≡ m
  both_report n m k e f = grind (arith, nat_tests, reports n k e, reports m k f, past_reported cs m k, past_reported cs n k)

  token_apart : TokensApart vs
  token_apart = record { waits = λ n m k e f. grind (arith, nat_tests, past_waits); reported = both_report }

-- whatever is at work asks for the new order, or nothing does
module _ (cs : List Cell) (o : Object) (r : Option Request) (order : ℕ) (promises : (k : ℕ) → awaited r ≡ Some k → k ≡ order) where
  asks_anew : (n k : ℕ) → awaited (requested (set_request o.name r cs) n) ≡ Some k → ((o.name ≡ n) × (k ≡ order)) ⊎ (awaited (requested cs n) ≡ Some k)
  asks_anew n k e = grind (
    arith,
    nat_tests,
    requested_unnamed,
    request_updated_alike cs (Inside o (Elsewhere Root)) r,
    requested_here cs o.name r,
    eqb-true o.name n,
    requested_there cs o.name n r,
  )

pub handed_apart : (name : ℕ) (receiver : Receiver) (owner : Place) (cs : List Cell) → TokensApart cs → TokensApart (handed_cells name receiver owner cs)
handed_apart name (Inside o from) owner cs apart =
    let r = on_request (promised (next_token cs)) (requested cs o.name) in
    token_apart cs (set_request o.name r cs) apart name o.name (receiver_class (Inside o from)) owner (service_asked cs o.name r)
    (asks_anew cs o r (next_token cs) (grind (arith, nat_tests, same_Some)))
handed_apart name x owner cs apart = grind (arith, nat_tests, token_apart cs cs apart name name)
