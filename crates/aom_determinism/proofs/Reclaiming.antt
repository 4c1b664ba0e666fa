-- As a cell goes: no connect at another server is lost, and a client that connected to this one asks nobody any more.
use Rattle.std.proofs.lemmas.Bool.Decides.{nat_tests}
use Rattle.std.proofs.Common.{Bool, List, Option, Some, [], ap, false, refl, sym, true, ℕ, ◌==◌, ◌∙◌, ◌≡◌, arith}
use Rattle.std.proofs.lemmas.Bool.{eq-eqb, eqb-true, true≢false}
use Rattle.std.specs.Prelude.{◌||◌}
use Rattle.aom_image.specs.Image.{Image}
use Rattle.aom_clients.specs.Nodes.{is_connecting_at}
use Rattle.aom_clients.specs.declared.client.Client.{Client}
use Rattle.aom_determinism.proofs.SafetyLemmas.{dropped, held_dropped, place_dropped, queue_dropped, queue_ended_at, sessions_ended_at, tidy_dropped}
use Rattle.aom_determinism.proofs.SemanticsLemmas.{held_lives, same_place-true, same_place_comm}
use Rattle.aom_semantics.specs.Clients.{client_at, each_slot_released, queue_ended, sessions_ended}
use Rattle.aom_safety.specs.Kept.{ClientsFit}
use Rattle.aom_semantics.specs.Places.{Cell, Elsewhere, Going, Object, Place, Queued, Session, NoDuplicates, held, same_place, service_of, without}
use Rattle.aom_semantics.specs.Servers.{is_queue_of, is_server, without_queue}
use Rattle.aom_semantics.specs.State.{Dispatch, Of_server, Serves}
use Rattle.aom_determinism.proofs.Keeping.{UnchangedCalls, NoSession, unchanged_calls_slot_released, connects_dropped, places_dropped, still_either}
use Rattle.aom_determinism.specs.There.{AreThere, IsAtPlace, accepts, waits}

module _ (p : Image) (clients : List Client) (cs : List Cell) (no_duplicates : NoDuplicates cs) (fit : ClientsFit p clients cs) where
  -- of what is no server nothing is asked
  empty : (q : Place) (o : Object) (n : ℕ) → held cs q ≡ Some o → is_server p o.thing ≡ false → o.name ≡ n → (service_of cs n).queue ≡ []
  empty q o n at plain same = ap (λ k. (service_of cs k).queue) (sym same) ∙ (fit.servers o (held_lives cs q o no_duplicates at) plain).0

  -- where it owns what goes, or nothing
  pub unchanged_calls_without : (g : Place) → NoSession g → ((o : Object) → held cs g ≡ Some o → is_server p o.thing ≡ false) → UnchangedCalls cs (without g cs)
  unchanged_calls_without g apart plain = record {
    connects = λ n c h. ap (λ l. waits l n c) (place_dropped g cs) ∙ connects_dropped (λ r. same_place r g) cs no_duplicates n c (λ q o goes at same.
        let here : held cs g ≡ Some o = ap (held cs) (sym (same_place-true q g goes)) ∙ at in
        empty g o n here (plain o here) same) h;
    places = grind (arith, nat_tests, place_dropped, places_dropped, same_place_comm);
  }

  -- ---- a server goes

  module _ (waiting : (n m : ℕ) (o : Object) → held cs (Elsewhere (Queued n m)) ≡ Some o → is_server p o.thing ≡ false) (k : ℕ) (o : Object)
      (at : held cs (Going k) ≡ Some o) where
    -- what waits in its queue goes
    abbrev left : List Cell
    left = dropped (is_queue_of o.name) cs

    queue_connects : (n c : ℕ) → waits cs n c ≡ true → waits left n c ≡ true
    queue_connects n c h = connects_dropped (is_queue_of o.name) cs no_duplicates n c go h
      where
        go : (q : Place) (x : Object) → is_queue_of o.name q ≡ true → held cs q ≡ Some x → x.name ≡ n → (service_of cs n).queue ≡ []
        go (Elsewhere (Queued s m)) x goes there same = empty (Elsewhere (Queued s m)) x n there (waiting s m x there) same
        go _ x goes there same = cc

    -- and then the server
    gone_so : without (Going k) (without_queue o.name cs) ≡ dropped (λ r. same_place r (Going k)) left
    gone_so = ap (without (Going k)) (queue_dropped o.name cs) ∙ place_dropped (Going k) left

    other_connects : (n c : ℕ) → (o.name == n) ≡ false → waits cs n c ≡ true → waits (without (Going k) (without_queue o.name cs)) n c ≡ true
    other_connects n c other h = ap (λ l. waits l n c) gone_so
        ∙ connects_dropped (λ r. same_place r (Going k)) left (tidy_dropped (is_queue_of o.name) cs no_duplicates) n c go (queue_connects n c h)
      where
        go : (q : Place) (x : Object) → same_place q (Going k) ≡ true → held left q ≡ Some x → x.name ≡ n → (service_of left n).queue ≡ []
        go q x goes there same = let it : Some o ≡ Some x =
            sym at ∙ sym (held_dropped (is_queue_of o.name) cs (Going k)) ∙ ap (held left) (sym (same_place-true q (Going k) goes)) ∙ there in
            let equal : o ≡ x = cc in
            absurd (true≢false (sym (eq-eqb o.name n (ap (λ y. y.name) equal ∙ same)) ∙ other))

    places_gone : (n c : ℕ) → held (without (Going k) (without_queue o.name cs)) (Elsewhere (Session n c)) ≡ held cs (Elsewhere (Session n c))
    places_gone n c = grind (arith, nat_tests, gone_so, places_dropped, tidy_dropped)

    -- ---- its clients

    abbrev then : List Client
    then = sessions_ended (service_of cs o.name).sessions (queue_ended (service_of cs o.name).queue clients)

    -- who connects then connected before, and not to it
    connected_before : (n c : ℕ) → is_connecting_at n (client_at then c) ≡ true → (is_connecting_at n (client_at clients c) ≡ true) × (waits cs o.name c ≡ false)
    connected_before n c e = grind (arith, nat_tests, sessions_ended_at, queue_ended_at)

    -- where it is not the server that is dispatched
    pub there_reclaimed : (d : Option Dispatch) → ((n c : ℕ) → accepts n c d ≡ true → (o.name == n) ≡ false) → AreThere clients cs d →
        AreThere then (each_slot_released (service_of cs o.name).sessions (without (Going k) (without_queue o.name cs))) d
    there_reclaimed d apart there = record { asked = asked; serves = at_place d there.serves }
      where
        cells : List Cell
        cells = without (Going k) (without_queue o.name cs)

        unchanged_calls : UnchangedCalls cells (each_slot_released (service_of cs o.name).sessions cells)
        unchanged_calls = unchanged_calls_slot_released (service_of cs o.name).sessions cells

        or_second : (a b : Bool) → (a || b) ≡ true → a ≡ false → b ≡ true
        or_second a b h e = grind arith

        asked : (n c : ℕ) → is_connecting_at n (client_at then c) ≡ true → (waits (each_slot_released (service_of cs o.name).sessions cells) n c || accepts n c d) ≡ true
        asked n c e = go (o.name == n) refl
          where
            before : (is_connecting_at n (client_at clients c) ≡ true) × (waits cs o.name c ≡ false)
            before = connected_before n c e

            go : (b : Bool) → (o.name == n) ≡ b → (waits (each_slot_released (service_of cs o.name).sessions cells) n c || accepts n c d) ≡ true
            go true same =
                let none : waits cs n c ≡ false = ap (λ k. waits cs k c) (sym (eqb-true o.name n same)) ∙ before.1 in
                absurd (true≢false (sym same ∙ apart n c (or_second (waits cs n c) (accepts n c d) (there.asked n c before.0) none)))
            go false other = still_either (waits cs n c) (waits (each_slot_released (service_of cs o.name).sessions cells) n c) (accepts n c d)
                (there.asked n c before.0) (λ h. unchanged_calls.connects n c (other_connects n c other h))

        at_place : (d : Option Dispatch) → IsAtPlace cs d → IsAtPlace (each_slot_released (service_of cs o.name).sessions cells) d
        at_place (Some (Of_server x c (Serves y))) h = unchanged_calls.places x.object.name c ∙ places_gone x.object.name c ∙ h
        at_place _ h = tt
