-- What is kept of clients in closed states: by computation, and by the name of the server where all names are spoken of.
use Rattle.std.proofs.lemmas.Bool.Decides.{nat_tests}
use Rattle.std.proofs.Common.{Bool, List, None, Some, [], ap, arith, cond, false, refl, subst, sym, true, ℕ, ◌==◌, ◌∙◌, ◌∷◌, ◌≡◌, ◌≤◌, ◌<◌}
use Rattle.std.proofs.lemmas.Bool.{eqb-true}
use Rattle.aom_clients.specs.Table.{server_of}
use Rattle.aom_image.specs.Views.{class_at}
use Rattle.aom_roles.specs.Classes.{kind_in, sessions_in, sessions_of}
use Rattle.aom_roles.specs.Shapes.{kind_of}
use Rattle.aom_image.specs.declared.method.Thing.TheVariants.{Message}
use Rattle.aom_roles.specs.Families.{descends_in, parent_in}
use Rattle.aom_safety.proofs.OwnedPlaced.{owned_objects_none}
use Rattle.aom_safety.proofs.Sources.{has_sender}
use Rattle.aom_semantics.specs.Cases.Building.{a_cell, keeper, pair}
use Rattle.aom_safety.specs.Apart.{Fit, KeptNeedsFail, opened, serves, waits}
use Rattle.aom_semantics.specs.Cases.Moves.{an_image}
use Rattle.aom_semantics.specs.Cases.Servers.{a_session}
use Rattle.aom_semantics.specs.Clients.{client_at}
use Rattle.aom_safety.specs.Kept.{QueueFits, is_message_of, sources_of}
use Rattle.aom_semantics.specs.Places.{Cell, Connect_of, Elsewhere, In_service, Message_of, Object, Place, Queued}
use Rattle.aom_semantics.specs.Places.{Service, held, named, requested, same_place, service_of, unserved}
use Rattle.aom_semantics.specs.Servers.{has_session, is_from, is_server}
use Rattle.std.specs.List.{list_any}
use Rattle.std.specs.Prelude.{is_some}
use Rattle.aom_roles.specs.Things.{is_object}

-- ---- the state in which they say the same

abbrev cells : List Cell
cells = serves (Message_of 0 7 ∷ []) (0 ∷ []) ∷ waits 7 0 7 ∷ a_session ∷ []

-- of each name: the server's, the message's, the session's, or none
module _ (P : ℕ → Type 0) (server : P 5) (message : P 7) (session : P 2) (none : (n : ℕ) → (5 == n) ≡ false → (7 == n) ≡ false → (2 == n) ≡ false → P n) where
  by_name : (n : ℕ) → P n
  by_name n = first (5 == n) refl
    where
      third : (b : Bool) → (2 == n) ≡ b → (5 == n) ≡ false → (7 == n) ≡ false → P n
      third true e f g = subst P (eqb-true 2 n e) session
      third false e f g = none n f g e

      second : (b : Bool) → (7 == n) ≡ b → (5 == n) ≡ false → P n
      second true e f = subst P (eqb-true 7 n e) message
      second false e f = third (2 == n) refl f e

      first : (b : Bool) → (5 == n) ≡ b → P n
      first true e = subst P (eqb-true 5 n e) server
      first false e = second (7 == n) refl e

unserved_at : (n : ℕ) → (5 == n) ≡ false → (7 == n) ≡ false → (2 == n) ≡ false → service_of cells n ≡ unserved
unserved_at n e f g = grind (arith, nat_tests)

-- one number is another, where both tests say so
has_its_own : (n c : ℕ) → has_session (service_of cells n) c ≡ true → server_of (client_at opened c) ≡ Some n
has_its_own n c h = grind (arith, nat_tests, by_name, unserved_at)

its_server : (o : Object) → named cells 5 ≡ Some o → is_server an_image o.thing ≡ true
unfolding class_at kind_in kind_of sessions_in sessions_of descends_in parent_in
its_server o there = let same : record { name = 5; thing = keeper } ≡ o = cc in subst (λ (y : Object). is_server an_image y.thing ≡ true) same refl

abbrev HasNone : ℕ → Type 0
HasNone n = ((service_of cells n).queue ≡ []) × ((service_of cells n).sessions ≡ [])

none_else : (o : Object) → named cells o.name ≡ Some o → is_server an_image o.thing ≡ false → HasNone o.name
none_else o there plain = grind (arith, nat_tests, by_name, its_server o, unserved_at)

none_unlisted : (o : Object) → named cells o.name ≡ Some o → requested cells o.name ≡ None → HasNone o.name
none_unlisted o there idle = grind (arith, nat_tests, by_name, unserved_at)

stands_there : (n m : ℕ) (o : Object) → held cells (Elsewhere (Queued n m)) ≡ Some o → o.name ≡ m
stands_there n m o e = grind (arith, eqb-true)

sent_so : (n c m : ℕ) → list_any (is_message_of c m) (service_of cells n).queue ≡ true → is_from c (service_of cells m).sender ≡ true
sent_so n c m h = grind (arith, nat_tests, by_name, unserved_at)

abbrev Counts : ℕ → Object → Type 0
Counts n o = n ≡ cond (is_object o.thing) 0 1

-- ---- one message in all, of which servers have nothing

-- a message with that service, in that place
abbrev alone : Service → Place → Cell
alone v owner = record (a_cell 7 Message owner) { service = v }

module _ (v : Service) (owner : Place) (queue : v.queue ≡ []) (sessions : v.sessions ≡ []) (source : sources_of v ≡ 1) (unqueued : (n m : ℕ) →
    same_place owner (Elsewhere (Queued n m)) ≡ false) (sent_so_far : same_place owner (Elsewhere In_service) ≡ true → is_some v.sender ≡ true) where
  abbrev its : List Cell
  its = alone v owner ∷ []

  -- clients have nothing at it, whatever its name
  at_it : (b : Bool) → (cond b v unserved).queue ≡ []
  at_it x = grind arith

  none_of_it : (b : Bool) → (cond b v unserved).sessions ≡ []
  none_of_it x = grind arith

  it_fits : Fit [] its
  it_fits = record {
    queues = λ n. subst (λ q. QueueFits [] n q) (sym (at_it (7 == n))) tt;
    sessions = λ n c h. let clash : false ≡ true = ap (λ xs. list_any (λ d. d == c) xs) (sym (none_of_it (7 == n))) ∙ h in cc;
    listed = λ n c h. cc;
    servers = λ o h plain. (at_it (7 == o.name), none_of_it (7 == o.name));
    enlisted = λ o h e. (at_it (7 == o.name), none_of_it (7 == o.name));
    names = λ n m o h. let clash : None ≡ Some o = sym (ap (λ b. cond b (Some (record { name = 7; thing = Message })) None) (unqueued n m)) ∙ h in cc;
    senders = λ n c m h. let clash : false ≡ true = ap (λ q. list_any (is_message_of c m) q) (sym (at_it (7 == n))) ∙ h in cc;
    sources = λ o h. grind arith;
    served = λ o h. grind (arith, nat_tests, has_sender);
    owned_chain = λ o h. grind (arith, nat_tests, owned_objects_none, at_it, none_of_it);
  }

-- ---- and those in which they do not

pub kept_needs_fail : KeptNeedsFail
unfolding class_at kind_in kind_of sessions_in sessions_of descends_in parent_in
kept_needs_fail = record {
  kept = grind (arith, nat_tests, by_name, unserved_at, has_its_own, none_else, none_unlisted, stands_there, sent_so);
  twice_connected = λ fit. let clash : true ≡ false = (fit.queues 5).0.1 in cc;
  twice_closed = λ fit. let clash : true ≡ false = (fit.queues 5).0.1 in cc;
  twice_sent = λ fit. let clash : true ≡ false = (fit.queues 5).0.1 in cc;
  connects_nowhere = λ fit. let clash : false ≡ true = (fit.queues 5).0.0 in cc;
  connects_elsewhere = λ fit. let clash : false ≡ true = (fit.queues 5).0.0 in cc;
  sends_while_closing = λ fit. let clash : false ≡ true = (fit.queues 5).0.0 in cc;
  closes_while_open = λ fit. let clash : false ≡ true = (fit.queues 5).0.0 in cc;
  session_of_nobody = λ fit. let clash : None ≡ Some 5 = fit.sessions 5 0 refl in cc;
  session_not_listed = λ fit. let clash : false ≡ true = fit.listed 5 0 refl in cc;
  plain_queue = λ fit. let clash : Connect_of 0 ∷ [] ≡ [] = (fit.servers (record { name = 5; thing = pair }) refl refl).0 in cc;
  plain_sessions = λ fit. let clash : 0 ∷ [] ≡ [] = (fit.servers (record { name = 5; thing = pair }) refl refl).1 in cc;
  unlisted_queue = λ fit. let clash : Connect_of 0 ∷ [] ≡ [] = (fit.enlisted (record { name = 5; thing = keeper }) refl refl).0 in cc;
  unlisted_sessions = λ fit. let clash : 0 ∷ [] ≡ [] = (fit.enlisted (record { name = 5; thing = keeper }) refl refl).1 in cc;
  misplaced = λ fit. let clash : 7 ≡ 8 = fit.names 5 8 (record { name = 7; thing = Message }) refl in omega arith;
  sent_by_another = λ fit. let clash : false ≡ true = fit.senders 5 0 7 refl in cc;
  serves_sent = grind (arith, nat_tests, it_fits);
  unsent = λ fit. let clash : 0 ≡ 1 = fit.sources (record { name = 7; thing = Message }) refl in cc;
  sent_no_message = λ fit. let clash : 1 ≡ 0 = fit.sources (record { name = 7; thing = pair }) refl in cc;
  serves_no_message = λ fit. let clash : false ≡ true = fit.served (record { name = 7; thing = pair }) refl in cc;
  has_token = grind (arith, nat_tests, it_fits);
  token_is_sent = λ fit. let clash : 2 ≡ 1 = fit.sources (record { name = 7; thing = Message }) refl in cc;
  token_no_message = λ fit. let clash : 1 ≡ 0 = fit.sources (record { name = 7; thing = pair }) refl in cc;
  serves_token = λ fit. let clash : false ≡ true = fit.served (record { name = 7; thing = Message }) refl in cc;
  waits_alone = λ apart. let clash : 1 ≡ 2 = apart.waits 1 2 0 refl refl in cc;
  tokens_alike = λ apart. let clash : 1 ≡ 2 = apart.reported 1 2 0 refl refl in cc;
  too_many = λ fit. let many : 2 ≤ 1 = fit.owned_chain (record { name = 5; thing = keeper }) refl in omega arith;
  accepts = (refl, refl, omega arith);
  accepts_nobody = λ k. let clash : false ≡ true = k.0 in cc;
  accepts_again = λ k. let clash : true ≡ false = k.1 in cc;
  accepts_too_many = λ k. let many : 1 < 1 = k.2 in omega arith;
  leaves_nobody = λ k. let clash : false ≡ true = k.0 in cc;
  parts = (refl, refl);
  parts_with_nobody = λ k. let clash : false ≡ true = k.0 in cc;
  parts_again = λ k. let clash : true ≡ false = k.1 in cc;
}
