-- A server is picked for a close: the session of its client goes.
use Rattle.std.proofs.lemmas.Bool.Decides.{nat_tests}
use Rattle.std.proofs.Common.{List, None, Some, [], ap, arith, cond, inl, inr, length, refl, subst, sym, true, ℕ, ⊎_elim, ◌&&◌, ◌<◌, ◌==◌, ◌∙◌, ◌∷◌, ◌≡◌}
use Rattle.std.proofs.lemmas.Bool.{ne_eqb}
use Rattle.aom_image.specs.Image.{Image}
use Rattle.aom_typing_rules.specs.Typing.{IsTyped, Typing}
use Rattle.aom_abstract_state.specs.declared.kind.Kind.TheVariants.{Null}
use Rattle.aom_safety.proofs.ClientsFit.{leaving_only}
use Rattle.aom_safety.proofs.Destroying.{no_going, goes_well}
use Rattle.aom_safety.proofs.Entering.{no_fields}
use Rattle.aom_safety.proofs.SemanticsLemmas.{held_moved, named_moved, requested_moved, same_place-true}
use Rattle.aom_safety.proofs.Owners.{rank}
use Rattle.aom_safety.proofs.Picking.{above, fits_now, held_now, no_items, requested_now, session_held, sessions_now, is_owned_chain, sits_now, conforms_to_now, tidy_now}
use Rattle.aom_safety.proofs.Services.{service_moved}
use Rattle.aom_safety.specs.Claims.{Dispatching, Layer, claim, declared, forms}
use Rattle.aom_semantics.specs.Clients.{client_at}
use Rattle.aom_safety.specs.Kept.{ClientsFit, QueueFits}
use Rattle.aom_safety.specs.Laws.{IsWired}
use Rattle.aom_semantics.specs.Places.{Asked, Cell, Close_of, Elsewhere, Going, Object, Place, Request, Session}
use Rattle.aom_semantics.specs.Places.{changed, held, moved, named, requested, seen, service_of}
use Rattle.aom_semantics.specs.Servers.{has_session, is_server, reserved, taken_first}
use Rattle.aom_semantics.specs.State.{Dispatched, Of_server, Disconnects, OwnedObject, State}
use Rattle.aom_semantics.specs.Destruction.{begun}
use Rattle.aom_safety.specs.WellTyped.{IsOwnedChain, AllUndo, Fits, PreservesTyping, OwnedWithin, SomeOwned, WellTyped}
use Rattle.aom_semantics.specs.World.{parting_with, taken_from}

module _ (p : Image) (t : Typing) (wired : IsWired p)
    (typed : IsTyped p t) (s : State) (w : WellTyped p t s) (idle_now : s.tasks ≡ []) (fit : ClientsFit p s.clients s.cells) (x : OwnedObject) (r : Request)
    (there : held s.cells x.place ≡ Some x.object) (lives : named s.cells x.object.name ≡ Some x.object) (asked : requested s.cells x.object.name ≡ Some r)
    (server : is_server p x.object.thing ≡ true) (client : ℕ) (es : List Asked) (queue : (service_of s.cells x.object.name).queue ≡ Close_of client ∷ es) where
  abbrev n : ℕ
  n = x.object.name

  abbrev cs : List Cell
  cs = reserved taken_first n s.cells

  abbrev q : Place
  q = Elsewhere (Session n client)

  has_now : has_session (service_of s.cells n) client ≡ true
  has_now = fit.listed n client (leaving_only n n (client_at s.clients client) (subst (λ q. QueueFits s.clients n q) queue (fit.queues n)).0.0).2

  session_there : (z : Object) × (held s.cells q ≡ Some z) × (named s.cells z.name ≡ Some z) × (rank p wired z.thing < rank p wired x.object.thing)
  session_there = session_held p t wired typed s w idle_now fit x r there lives asked server client has_now

  abbrev z : Object
  z = session_there.0

  abbrev owned_chain : List OwnedObject
  owned_chain = x ∷ above p t wired typed s w idle_now fit x r there lives asked server

  owned_placed : IsOwnedChain cs owned_chain
  owned_placed = sits_now p t wired typed s w idle_now fit x r there lives asked server

  not_owned_placed : SomeOwned z.name owned_chain → ⊥
  not_owned_placed = (is_owned_chain p t wired typed s w idle_now fit x r there lives asked server).2 z session_there.2 session_there.3

  abbrev below : List Layer
  below = Dispatching (Of_server x client Disconnects) owned_chain ∷ []

  abbrev g : Place
  g = Going 1

  z_there : held cs q ≡ Some z
  z_there = held_now p t wired typed s w idle_now fit x r there lives asked server q ∙ session_there.1

  claims : (r : Place) → claim p (declared p cs) below r ≡ changed (claim p (declared p cs) []) q Null r
  claims y = grind arith

  fits : (r : Place) → Fits p (seen cs) (held cs r) (declared p cs r)
  fits = fits_now p t wired typed s w idle_now fit x r there lives asked server (Close_of client) es queue (λ k. refl)

  free : held cs g ≡ None
  free = no_going p t cs z q [] below fits z_there (omega arith) claims

  owned_objects_moved : (xs : List OwnedObject) → (SomeOwned z.name xs → ⊥) → IsOwnedChain cs xs → IsOwnedChain (moved q g cs) xs
  owned_objects_moved [] none h = tt
  owned_objects_moved (y ∷ ys) none h =
      ((place y.place h.0.2 refl ∙ h.0.0, named_moved cs q g y.object.name ∙ h.0.1, h.0.2, h.0.3), owned_objects_moved ys (λ some. none (inr some)) h.1)
    where
      place : (a : Place) → OwnedWithin a ys → y.place ≡ a → held (moved q g cs) a ≡ held cs a
      place z e at = grind (arith, nat_tests, held_moved, free, z_there, same_place-true)

  abbrev then : State
  then = record (taken_from n s) { cells = moved q (Going 1) cs; tasks = begun p z (length s.items) (Dispatched (Of_server x client Disconnects) ∷ []) }

  parted_well : WellTyped p t then
  parted_well =
      let items = no_items p t wired typed s w idle_now fit x r there lives asked server in
      goes_well p t cs z q [] below fits z_there (omega arith) claims wired typed (tidy_now p t wired typed s w idle_now fit x r there lives asked server)
      (tt, refl, owned_objects_moved owned_chain not_owned_placed owned_placed, grind (arith, nat_tests, requested_moved, requested_now, above), (server, has_then)) (record {
        some = λ h. ⊎_elim not_owned_placed (λ y. y) h;
        unclaimed = λ f. refl;
        none_in = (no_fields cs z.name owned_chain not_owned_placed owned_placed, tt);
        unworked = tt;
        sessions = λ d c. ap (λ b. cond (b && (client == c)) Null (d (Elsewhere (Session z.name c)))) (ne_eqb n z.name (λ same. not_owned_placed (inl same)));
      }) (conforms_to_now p t wired typed s w idle_now fit x r there lives asked server)
      then (length s.items) (ap length items) refl refl (ap forms items) (subst (λ is. AllUndo p is) (sym items) tt)
    where
      has_then : has_session (service_of (moved q g cs) n) client ≡ true
      has_then = grind (arith, nat_tests, service_moved, sessions_now, has_now)

  pub parts_well : PreservesTyping p t (parting_with p x client (held s.cells q) (taken_from n s))
  parts_well = subst (λ y. PreservesTyping p t (parting_with p x client y (taken_from n s))) (sym session_there.1) parted_well
