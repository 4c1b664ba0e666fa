-- A message that a client sends is well typed in the queue of its server.
use Rattle.std.proofs.lemmas.Bool.Decides.{nat_tests}
use Rattle.std.proofs.Common.{arith, Option, Bool, List, None, Some, [], ap, cond, false, refl, subst, sym, true, ℕ, ◌&&◌, ◌==◌, ◌∙◌, ◌∷◌, ◌≡◌}
use Rattle.std.proofs.lemmas.Bool.{eq-eqb, eqb-true}
use Rattle.std.proofs.lemmas.List.Folds.{list_any-append}
use Rattle.std.specs.List.{list_any}
use Rattle.std.specs.Prelude.{◌||◌}
use Rattle.aom_image.specs.declared.method.Thing.{Thing}
use Rattle.aom_image.specs.Image.{Image}
use Rattle.aom_image.specs.declared.method.Thing.TheVariants.{Message}
use Rattle.aom_typing_rules.specs.Typing.{Typing}
use Rattle.aom_roles.specs.Shapes.{kind_of}
use Rattle.aom_abstract_state.specs.Kinds.{filled}
use Rattle.aom_abstract_state.specs.declared.kind.InitState.TheVariants.{Ready}
use Rattle.aom_abstract_state.specs.declared.kind.FieldState.TheVariants.{Full}
use Rattle.aom_abstract_state.specs.declared.kind.Kind.TheVariants.{Null, Own}
use Rattle.aom_safety.proofs.Claimed.{declared_ready}
use Rattle.aom_safety.proofs.ClientsFit.{by_server}
use Rattle.aom_safety.proofs.Picking.{fits_ready}
use Rattle.aom_safety.proofs.Services.{held_served, named_served, requested_served, service_here, service_unnamed, tidy_served}
use Rattle.aom_safety.proofs.Straight.{fits_unowning}
use Rattle.aom_safety.specs.Claims.{declared}
use Rattle.aom_semantics.specs.Places.{Service, unserved, Cell, Elsewhere, Message_of, Object, Place, Queued}
use Rattle.aom_semantics.specs.Places.{NoDuplicates, held, named, same_place, seen, service_of}
use Rattle.aom_safety.specs.Requests.{AllConformTo, ConformsTo, resting_in, rests_in, thing_kind}
use Rattle.aom_semantics.specs.Servers.{asked_last, has_message, has_session, is_message, is_server, message_thing, reserved}
use Rattle.aom_safety.specs.WellTyped.{Fits, Good}
use Rattle.aom_safety.proofs.RolesLemmas.{stands_itself}

-- a message is not enlisted
plain : (p : Image) (y : Object) → y.thing ≡ Message → ConformsTo (thing_kind p y.thing) (resting_in (rests_in p y)) None
unfolding kind_of
plain p y e = subst (λ x. ConformsTo (thing_kind p x) (resting_in (rests_in p y)) None) (sym e) refl

-- the message, with nothing in its queue, no session and no request, in the queue of that server
module _ (p : Image) (t : Typing) (cs : List Cell) (good : Good p t cs []) (o : Object) (lives : named cs o.name ≡ Some o) (server : is_server p o.thing ≡ true)
    (c name : ℕ) (free : named cs name ≡ None) (message : Cell) (named_so : message.object ≡ record { name = name; thing = Message })
    (no_request : message.request ≡ None) (no_queue : message.service.queue ≡ []) (no_session : message.service.sessions ≡ [])
    (owner : message.owner ≡ Elsewhere (Queued o.name name)) (none_waits : has_message (service_of cs o.name) name ≡ false) where
  abbrev rest : List Cell
  rest = reserved (asked_last (Message_of c name)) o.name cs

  abbrev then : List Cell
  then = message ∷ rest

  name_is : message.object.name ≡ name
  name_is = ap (λ y. y.name) named_so

  held_rest : (q : Place) → held rest q ≡ held cs q
  held_rest q = held_served cs o.name (asked_last (Message_of c name) (service_of cs o.name)) q

  named_rest : (n : ℕ) → named rest n ≡ named cs n
  named_rest n = named_served cs o.name (asked_last (Message_of c name) (service_of cs o.name)) n

  held_then : (q : Place) → held then q ≡ cond (same_place (Elsewhere (Queued o.name name)) q) (Some message.object) (held cs q)
  held_then q = grind (arith, nat_tests, held_rest q)

  named_then : (n : ℕ) → named then n ≡ cond (name == n) (Some message.object) (named cs n)
  named_then n = grind (arith, nat_tests, name_is, named_rest n)

  service_then : (n : ℕ) → service_of then n ≡ cond (name == n) message.service (service_of rest n)
  service_then n = ap (λ k. cond (k == n) message.service (service_of rest n)) name_is

  -- of a name that is another all is as it was, but the message waits
  sessions_then : (n d : ℕ) → has_session (service_of then n) d ≡ has_session (service_of cs n) d
  sessions_then n d = ap (λ v. has_session v d) (service_then n) ∙ go (name == n) refl
    where
      go : (b : Bool) → (name == n) ≡ b → has_session (cond b message.service (service_of rest n)) d ≡ has_session (service_of cs n) d
      go true e = ap (λ xs. list_any (λ k. k == d) xs) no_session ∙ sym (grind (arith, nat_tests, eqb-true, service_unnamed))
      go false e = by_server cs o lives (asked_last (Message_of c name)) (λ n v. has_session v d ≡ has_session (service_of cs n) d) refl (λ n other. refl) n

  or_false : (b : Bool) → (b || false) ≡ b
  or_false x = grind arith

  messages_then : (n m : ℕ) → ((o.name == n) && (name == m)) ≡ false → has_message (service_of then n) m ≡ has_message (service_of cs n) m
  messages_then n m other = ap (λ v. has_message v m) (service_then n) ∙ go (name == n) refl
    where
      go : (b : Bool) → (name == n) ≡ b → has_message (cond b message.service (service_of rest n)) m ≡ has_message (service_of cs n) m
      go true e = grind (arith, nat_tests, eqb-true name n e, service_unnamed cs name free)
      go false e = by_server cs o lives (asked_last (Message_of c name)) (λ n v. ((o.name == n) && (name == m)) ≡ false → has_message v m ≡ has_message
          (service_of cs n) m) (λ other. list_any-append (λ x. is_message m x) (service_of cs o.name).queue (Message_of c name ∷ [])
          ∙ ap (λ b. list_any (λ x. is_message m x) (service_of cs o.name).queue || (b || false)) (sym (ap (λ b. b && (name == m)) (eq-eqb o.name o.name refl))
          ∙ other) ∙ or_false (list_any (λ x. is_message m x) (service_of cs o.name).queue)) (λ n apart same. refl) n other

  -- it waits now
  there_still : (q : Place) → held then q ≡ held cs q → declared p then q ≡ declared p cs q → Fits p (seen then) (held then q) (declared p then q)
  there_still q places kinds = grind (arith, nat_tests, fits_ready, declared_ready)

  -- what is told of what clients have at a server is as it was, since they have nothing at the message
  kind_then :
      (test : Service → Bool) (thing : Option Object → Option Thing) → test unserved ≡ false → (n : ℕ) → test (service_of then n) ≡ test (service_of cs n) →
      cond (test (service_of then n)) (filled (thing (named then n)) Full) Null ≡ cond (test (service_of cs n)) (filled (thing (named cs n)) Full) Null
  kind_then test thing nothing n same = grind (arith, nat_tests, named_then n, eqb-true name n, service_unnamed cs name free)

  queue_kind : (n m : ℕ) → ((o.name == n) && (name == m)) ≡ false → declared p then (Elsewhere (Queued n m)) ≡ declared p cs (Elsewhere (Queued n m))
  queue_kind n m other = kind_then (λ v. has_message v m) (λ y. message_thing p y) refl n (messages_then n m other)

  own_kind : declared p then (Elsewhere (Queued o.name name)) ≡ Own Message Ready
  own_kind = grind (arith, nat_tests, service_then, service_here, list_any-append, eq-eqb, named_then o.name)

  fits : (q : Place) → Fits p (seen then) (held then q) (declared p then q)
  fits (Elsewhere (Queued n m)) = grind (
    arith,
    nat_tests,
    there_still (Elsewhere (Queued n m)),
    held_then (Elsewhere (Queued n m)),
    queue_kind n m,
    eqb-true o.name n,
    eqb-true name m,
    own_kind,
    stands_itself p Message,
  )
  fits r = grind (arith, nat_tests, named_then, eqb-true, kind_then, sessions_then, there_still r (held_then r), held_then r)

  no_duplicates : NoDuplicates then
  no_duplicates = (
    grind (arith, nat_tests, held_rest (Elsewhere (Queued o.name name)), fits_unowning p),
    ap (λ n. named rest n) name_is ∙ named_rest name ∙ free,
    tidy_served cs o.name (asked_last (Message_of c name) (service_of cs o.name)) good.no_duplicates,
  )

  conforms_to : AllConformTo p then []
  conforms_to y lives' = grind (arith, nat_tests, named_then y.name, name_is, plain p y, requested_served cs o.name)

  pub good_sent : Good p t then []
  good_sent = record { stack = refl; fits = fits; conforms_to = conforms_to; no_duplicates = no_duplicates }
