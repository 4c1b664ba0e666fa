-- Orders of tokens that come nowhere: what waits for one after a change of the cells did so before, and so it is with what is a token.
use Rattle.std.proofs.lemmas.Bool.Decides.{nat_tests}
use Rattle.std.proofs.Common.{Bool, List, None, Option, Some, [], ap, arith, cond, false, refl, subst, sym, true, ℕ, ℤ, ◌==◌, ◌∙◌, ◌∷◌, ◌≡◌}
use Rattle.std.proofs.lemmas.Bool.{eqb-true}
use Rattle.aom_image.specs.Image.{Image}
use Rattle.aom_safety.proofs.SemanticsLemmas.{Alters, asking, named_kept, opening, read_kept, requested_moved, requested_unnamed, requests, services, serving}
use Rattle.aom_safety.proofs.SemanticsLemmas.{storing, slot_release}
use Rattle.aom_safety.proofs.Apart.{apart_fewer}
use Rattle.aom_safety.proofs.ClientsGone.{goes_with, gone_so}
use Rattle.aom_safety.proofs.ClientsReturn.{without_so}
use Rattle.aom_safety.proofs.Services.{requested_served, service_asked, service_detached, service_here, service_moved, service_there, service_unnamed}
use Rattle.aom_safety.proofs.FilteredCells.{cell_of, cell_of_filtered_cells, request_in, requested_cell, service_cell, service_in, filtered_cells, withdrawn_so}
use Rattle.aom_safety.proofs.Storing.{requested_here, requested_there}
use Rattle.aom_safety.proofs.SlotRelease.{service_slot_released}
use Rattle.aom_semantics.specs.Clients.{each_slot_released}
use Rattle.aom_semantics.specs.Requests.{own_request, request_updated}
use Rattle.aom_semantics.specs.Natives.{all_detached, is_served_by, session_updated, terminated_request}
use Rattle.aom_semantics.specs.Places.{Cell, Object, Place, Request, Service, NoDuplicates, moved, named, requested, service_of, set_request, set_service, without}
use Rattle.aom_semantics.specs.Servers.{all_slot_released, withdrawn, without_queue}
use Rattle.aom_semantics.specs.State.{Receiver, Inside}
use Rattle.aom_semantics.specs.Tokens.{TokensApart, awaited, order_in}
use Rattle.aom_semantics.specs.Words.{stored}

-- no order comes
pub record NoneComes (cs us : List Cell) : Type 0 where
  pub waits : (n k : ℕ) → awaited (requested us n) ≡ Some k → awaited (requested cs n) ≡ Some k
  pub reported : (n k : ℕ) → order_in (service_of us n).token ≡ Some k → order_in (service_of cs n).token ≡ Some k

pub apart_still : (cs us : List Cell) → NoneComes cs us → TokensApart cs → TokensApart us
apart_still cs us none apart = apart_fewer cs us none.waits none.reported apart

pub comes_itself : (cs : List Cell) → NoneComes cs cs
comes_itself cs = record { waits = λ n k e. e; reported = λ n k e. e }

pub comes_then : (cs us vs : List Cell) → NoneComes cs us → NoneComes us vs → NoneComes cs vs
comes_then cs us vs a b = record { waits = λ n k e. a.waits n k (b.waits n k e); reported = λ n k e. a.reported n k (b.reported n k e) }

-- ---- requests and services are as they were

pub comes_same : (cs us : List Cell) → ((n : ℕ) → requested us n ≡ requested cs n) → ((n : ℕ) → service_of us n ≡ service_of cs n) → NoneComes cs us
comes_same cs us asks serves = record {
  waits = λ n k e. ap awaited (sym (asks n)) ∙ e;
  reported = λ n k e. ap (λ (v : Service). order_in v.token) (sym (serves n)) ∙ e;
}

pub comes_moved : (cs : List Cell) (p q : Place) → NoneComes cs (moved p q cs)
comes_moved cs p q = comes_same cs (moved p q cs) (requested_moved cs p q) (service_moved cs p q)

comes_altered : {change : List Cell → List Cell} (a : Alters change) →
    ((c : Cell) → (a.each c).request ≡ c.request) → ((c : Cell) → (a.each c).service ≡ c.service) → (cs : List Cell) → NoneComes cs (change cs)
comes_altered {change = change} a asks serves cs = comes_same cs (change cs) (read_kept a requests asks cs) (read_kept a services serves cs)

pub comes_opened : (cs : List Cell) (receiver : Receiver) (b : Bool) → NoneComes cs (session_updated cs receiver b)
comes_opened cs (Inside o from) b = comes_altered (opening o.name b) (λ c. refl) (λ c. refl) cs
comes_opened cs _ b = comes_itself cs

pub comes_stored : (cs : List Cell) (receiver : Receiver) (w : ℕ) (v : ℤ) → NoneComes cs (stored cs receiver w v)
comes_stored cs (Inside o from) w v = comes_altered (storing o.name w v) (λ c. refl) (λ c. refl) cs
comes_stored cs _ w v = comes_itself cs

-- ---- one request changes, or one service

-- it waits for nothing new
pub comes_asked : (cs : List Cell) (n : ℕ) (r : Option Request) → ((k : ℕ) → awaited r ≡ Some k → awaited (requested cs n) ≡ Some k) →
    NoneComes cs (set_request n r cs)
comes_asked cs n r fewer = record {
  waits = λ m k e. grind (arith, nat_tests, eqb-true, here, requested_there);
  reported = λ m k e. ap (λ (v : Service). order_in v.token) (sym (service_asked cs n r m)) ∙ e;
}
  where
    here : (o : Option Object) → named cs n ≡ o → (k : ℕ) → awaited (requested (set_request n r cs) n) ≡ Some k → awaited (requested cs n) ≡ Some k
    here x free k e = grind (arith, nat_tests, requested_unnamed, named_kept (asking n r) cs n, asking n r, requested_here cs n r)

pub comes_requested : (cs : List Cell) (receiver : Receiver) (r : Option Request) → ((k : ℕ) → awaited r ≡ Some k → awaited (own_request cs receiver) ≡ Some k) →
    NoneComes cs (request_updated cs receiver r)
comes_requested cs x r fewer = grind (arith, nat_tests, comes_itself cs, comes_asked cs)

-- it is no other token
pub comes_served : (cs : List Cell) (n : ℕ) (v : Service) → v.token ≡ (service_of cs n).token → NoneComes cs (set_service n v cs)
comes_served cs n v same = record { waits = λ m k e. sym (ap awaited (requested_served cs n v m)) ∙ e; reported = λ m k e. go m k (n == m) refl e }
  where
    here : (o : Option Object) → named cs n ≡ o → (k : ℕ) → order_in (service_of (set_service n v cs) n).token ≡ Some k → order_in (service_of cs n).token ≡ Some k
    here x free k e = grind (arith, nat_tests, service_unnamed, named_kept (serving n v) cs n, serving n v, service_here cs n v)

    go : (m k : ℕ) (b : Bool) → (n == m) ≡ b → order_in (service_of (set_service n v cs) m).token ≡ Some k → order_in (service_of cs m).token ≡ Some k
    go m k x at e = grind (arith, nat_tests, eqb-true, here, service_there)

-- ---- a cell is made that is no token and waits for none

pub comes_more : (c : Cell) (cs : List Cell) → c.request ≡ None → c.service.token ≡ None → NoneComes cs (c ∷ cs)
comes_more c cs asks serves = record { waits = λ n k e. grind arith; reported = λ n k e. report n k (c.object.name == n) e }
  where
    report : (n k : ℕ) (b : Bool) → order_in (cond b c.service (service_of cs n)).token ≡ Some k → order_in (service_of cs n).token ≡ Some k
    report n k x e = grind arith

-- ---- cells go

module _ (drops : Cell → Bool) (f : Cell → Service) (keeps : (c : Cell) → (f c).token ≡ c.service.token) where
  pub comes_filtered_cells : (cs : List Cell) → NoDuplicates cs → NoneComes cs (filtered_cells drops f cs)
  comes_filtered_cells cs no_duplicates = record {
    waits = grind (arith, nat_tests, requested_cell, cell_of, filtered_cells, request_in, cell_of_filtered_cells);
    reported = grind (arith, nat_tests, service_cell, cell_of, filtered_cells, service_in, cell_of_filtered_cells);
  }

pub comes_without : (cs : List Cell) → NoDuplicates cs → (g : Place) → NoneComes cs (without g cs)
comes_without cs no_duplicates g = grind (arith, nat_tests, without_so g cs, comes_filtered_cells)

pub comes_withdrawn : (cs : List Cell) → NoDuplicates cs → (client : ℕ) → NoneComes cs (withdrawn client cs)
comes_withdrawn cs no_duplicates client = grind (arith, nat_tests, withdrawn_so client cs, comes_filtered_cells)

comes_slot_released : (cs : List Cell) (client : ℕ) → NoneComes cs (all_slot_released client cs)
comes_slot_released cs client = record {
  waits = λ n k e. sym (ap awaited (read_kept (slot_release client) requests (λ c. refl) cs n)) ∙ e;
  reported = λ n k e. sym (ap (λ (v : Service). order_in v.token) (service_slot_released client cs n)) ∙ e;
}

comes_each_slot_released : (cs : List Cell) (clients : List ℕ) → NoneComes cs (each_slot_released clients cs)
comes_each_slot_released cs [] = comes_itself cs
comes_each_slot_released cs (c ∷ clients) =
    comes_then cs (all_slot_released c cs) (each_slot_released clients (all_slot_released c cs)) (comes_slot_released cs c) (comes_each_slot_released (all_slot_released c cs) clients)

-- a server goes with what waits in its queue
pub comes_gone : (cs : List Cell) → NoDuplicates cs → (n : ℕ) (g : Place) (clients : List ℕ) → NoneComes cs (each_slot_released clients (without g (without_queue n cs)))
comes_gone cs no_duplicates n g clients = comes_then cs (without g (without_queue n cs)) (each_slot_released clients (without g (without_queue n cs)))
    (subst (λ l. NoneComes cs l) (sym (gone_so n g cs)) (comes_filtered_cells (goes_with n g) (λ c. c.service) (λ c. refl) cs no_duplicates))
    (comes_each_slot_released (without g (without_queue n cs)) clients)

-- ---- a native is killed

waits_terminated : (b : Bool) (r : Option Request) (k : ℕ) → awaited (cond b (terminated_request r) r) ≡ Some k → awaited r ≡ Some k
waits_terminated b r k e = grind arith

waits_detached : (p : Image) (native : ℕ) (cs : List Cell) (n k : ℕ) → awaited (requested (all_detached p native cs) n) ≡ Some k → awaited (requested cs n) ≡ Some k
waits_detached p native [] n k e = e
waits_detached p native (c ∷ cs) n k e = go (c.object.name == n) e (waits_detached p native cs n k)
  where
    go : (b : Bool) → awaited
        (cond b (cond (is_served_by p native c.object.thing) (terminated_request c.request) c.request) (requested (all_detached p native cs) n)) ≡ Some k →
        (awaited (requested (all_detached p native cs) n) ≡ Some k → awaited (requested cs n) ≡ Some k) → awaited (cond b c.request (requested cs n)) ≡ Some k
    go true e rest = waits_terminated (is_served_by p native c.object.thing) c.request k e
    go false e rest = rest e

pub comes_detached : (p : Image) (native : ℕ) (cs : List Cell) → NoneComes cs (all_detached p native cs)
comes_detached p native cs = record { waits = waits_detached p native cs; reported = grind (arith, nat_tests, service_detached) }
