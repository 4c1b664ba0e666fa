-- The pick: what is ready first is the candidate that the checked machine takes.
use Rattle.std.proofs.lemmas.Bool.Decides.{nat_tests}
use Rattle.std.proofs.Common.{◌≡◌, ◌≢◌, ◌==◌, ℕ, Bool, true, false, cond, List, [], ◌∷◌, Option, Some, None, refl, sym, ap, ◌∙◌, subst, arith}
use Rattle.std.specs.Prelude.{◌||◌, is_some}
use Rattle.std.proofs.lemmas.Bool.{eq-eqb, eqb-true, eqb-false}
use Rattle.std.proofs.lemmas.Int.{ints}
use Rattle.aom_active_objects.proofs.SemanticsLemmas.{same_place-true, same_place_refl}
use Rattle.aom_semantics.specs.Places.{Cell, Object, Place, Request, NoDuplicates, held, named, requested, service_of}
use Rattle.aom_semantics.specs.Servers.{has_more}
use Rattle.aom_semantics.specs.World.{Candidate, among_ready, before_others, first_ready, goes_before, goes_now, is_ready}
use Rattle.aom_active_objects.proofs.Cells.{asked_first, asked_later, asked_lives, named_first, named_later, other_name}
use Rattle.aom_active_objects.specs.Meanings.{AreWanted, IsFirstReady, NoneReady}

-- the first cell as a candidate
abbrev first_owned_object : Cell → Request → Candidate
first_owned_object c r = record { owned_object = record { object = c.object; place = c.owner }; request = r }

-- its request is completed, or something waits in the queue of the cell of that name
abbrev going : List Cell → ℕ → Request → Bool
going cs n r = is_ready r || has_more (service_of cs n).queue

-- what clients have at the first cell, and behind it
service_first : (c : Cell) (cs : List Cell) → service_of (c ∷ cs) c.object.name ≡ c.service
service_first c cs = ap (λ b. cond b c.service (service_of cs c.object.name)) (eq-eqb c.object.name c.object.name refl)

service_later : (c : Cell) (cs : List Cell) (n : ℕ) → NoDuplicates (c ∷ cs) → is_some (named cs n) ≡ true → service_of (c ∷ cs) n ≡ service_of cs n
service_later c cs n no_duplicates lives = ap (λ b. cond b c.service (service_of cs n)) (other_name c cs n no_duplicates lives)

-- what is held behind a cell is held in another place
held_later : (c : Cell) (cs : List Cell) (p : Place) (o : Object) → NoDuplicates (c ∷ cs) → held cs p ≡ Some o → held (c ∷ cs) p ≡ Some o
held_later c cs p o no_duplicates e = grind (arith, nat_tests, same_place-true c.owner p)

-- a candidate is a cell that is there, with its request
record OwnedPlaced (cs : List Cell) (x : Candidate) : Type 0 where
  holds : held cs x.owned_object.place ≡ Some x.owned_object.object
  lives : named cs x.owned_object.object.name ≡ Some x.owned_object.object
  asked : requested cs x.owned_object.object.name ≡ Some x.request
  ready : going cs x.owned_object.object.name x.request ≡ true

owned_placed_first : (c : Cell) (cs : List Cell) (r : Request) → c.request ≡ Some r → goes_now c r ≡ true → OwnedPlaced (c ∷ cs) (first_owned_object c r)
owned_placed_first c cs r here ready = record {
  holds = ap (λ b. cond b (Some c.object) (held cs c.owner)) (same_place_refl c.owner);
  lives = named_first c cs;
  asked = asked_first c cs ∙ here;
  ready = ap (λ v. is_ready r || has_more v.queue) (service_first c cs) ∙ ready;
}

owned_placed_later : (c : Cell) (cs : List Cell) (x : Candidate) → NoDuplicates (c ∷ cs) → OwnedPlaced cs x → OwnedPlaced (c ∷ cs) x
owned_placed_later c cs x no_duplicates s = record {
  holds = held_later c cs x.owned_object.place x.owned_object.object no_duplicates s.holds;
  lives = named_later c cs x.owned_object.object.name x.owned_object.object no_duplicates s.lives;
  asked = asked_later c cs x.owned_object.object.name x.request no_duplicates s.asked;
  ready = ap (λ v. is_ready x.request || has_more v.queue) (service_later c cs x.owned_object.object.name no_duplicates (ap is_some s.lives)) ∙ s.ready;
}

owned_placed : (cs : List Cell) → NoDuplicates cs → (x : Candidate) → first_ready cs ≡ Some x → OwnedPlaced cs x
owned_placed [] no_duplicates x e = cc
owned_placed (c ∷ cs) no_duplicates x e = by_request c.request refl e (λ f. owned_placed_later c cs x no_duplicates (owned_placed cs no_duplicates.2 x f))
  where
    by_front : (r : Request) → c.request ≡ Some r → goes_now c r ≡ true →
        (others : Option Candidate) → Some (before_others (first_owned_object c r) others) ≡ Some x → (others ≡ Some x → OwnedPlaced (c ∷ cs) x) → OwnedPlaced (c ∷ cs) x
    by_front r here ready None e rest = let same : first_owned_object c r ≡ x = cc in subst (λ y. OwnedPlaced (c ∷ cs) y) same (owned_placed_first c cs r here ready)
    by_front r here ready (Some b) e rest = go (goes_before b.request r) e
      where
        go : (g : Bool) → Some (cond g b (first_owned_object c r)) ≡ Some x → OwnedPlaced (c ∷ cs) x
        go y z = grind (arith, nat_tests, owned_placed_first, ready)

    by_ready : (r : Request) → c.request ≡ Some r → (b : Bool) → goes_now c r ≡ b → cond b
        (Some (before_others (first_owned_object c r) (first_ready cs))) (first_ready cs) ≡ Some x → (first_ready cs ≡ Some x → OwnedPlaced (c ∷ cs) x) → OwnedPlaced (c ∷ cs) x
    by_ready r here true ready e rest = by_front r here ready (first_ready cs) e rest
    by_ready r here false ready e rest = rest e

    by_request : (q : Option Request) → c.request ≡ q → among_ready c q (first_ready cs) ≡ Some x → (first_ready cs ≡ Some x → OwnedPlaced (c ∷ cs) x) → OwnedPlaced (c ∷ cs) x
    by_request None here e rest = rest e
    by_request (Some r) here e rest = by_ready r here (goes_now c r) refl e rest

-- of two requests one does not go before the other where that goes before it
not_both : (r q : Request) → goes_before r q ≡ true → goes_before q r ≡ false
not_both r q e = grind (arith, nat_tests, ints)

-- the candidate of that name with that request comes first
record IsChosen (cs : List Cell) (id : ℕ) (r : Request) : Type 0 where
  candidate : Candidate
  first : first_ready cs ≡ Some candidate
  name : candidate.owned_object.object.name ≡ id
  request : candidate.request ≡ r

chosen : (cs : List Cell) (id : ℕ) (r : Request) → NoDuplicates cs → requested cs id ≡ Some r → going cs id r ≡ true →
    ((n : ℕ) (q : Request) → n ≢ id → requested cs n ≡ Some q → going cs n q ≡ true → goes_before r q ≡ true) → IsChosen cs id r
chosen [] id r no_duplicates asked ready first = cc
chosen (c ∷ cs) id r no_duplicates asked ready first = go (c.object.name == id) refl asked (λ here. chosen cs id r no_duplicates.2 here
    (sym (behind_going id r here) ∙ ready) (λ n q other e goes. first n q other (asked_later c cs n q no_duplicates e) (behind_going n q e ∙ goes)))
  where
    behind_going : (n : ℕ) (q : Request) → requested cs n ≡ Some q → going (c ∷ cs) n q ≡ going cs n q
    behind_going n q e = ap (λ v. is_ready q || has_more v.queue) (service_later c cs n no_duplicates (asked_lives cs n q e))

    alone : (others : Option Candidate) → first_ready cs ≡ others → c.object.name ≡ id → before_others (first_owned_object c r) others ≡ first_owned_object c r
    alone None e same = refl
    alone (Some b) e same =
        let s = owned_placed cs no_duplicates.2 b e in
        let other = eqb-false c.object.name b.owned_object.object.name (other_name c cs b.owned_object.object.name no_duplicates (ap is_some s.lives)) in
        ap (λ g. cond g b (first_owned_object c r)) (not_both r b.request (first b.owned_object.object.name b.request (λ equal. other (same ∙ sym equal))
        (asked_later c cs b.owned_object.object.name b.request no_duplicates s.asked) (behind_going b.owned_object.object.name b.request s.asked ∙ s.ready)))

    front_going : c.object.name ≡ id → goes_now c r ≡ true
    front_going same = sym (ap (λ v. is_ready r || has_more v.queue) (service_first c cs)) ∙ ap (λ n. going (c ∷ cs) n r) same ∙ ready

    in_front : c.object.name ≡ id → c.request ≡ Some r → IsChosen (c ∷ cs) id r
    in_front same here = record { candidate = first_owned_object c r; first = grind (arith, nat_tests, front_going, alone); name = same; request = refl }

    behind : (c.object.name == id) ≡ false → IsChosen cs id r → IsChosen (c ∷ cs) id r
    behind other w = record {
      candidate = w.candidate;
      first = ap (λ o. among_ready c c.request o) w.first ∙ by_request c.request refl;
      name = w.name;
      request = w.request;
    }
      where
        by_ready : (q : Request) → c.request ≡ Some q → (b : Bool) → goes_now c q ≡ b →
            cond b (Some (before_others (first_owned_object c q) (Some w.candidate))) (Some w.candidate) ≡ Some w.candidate
        by_ready q here true is = ap (λ g. Some (cond g w.candidate (first_owned_object c q))) (ap (λ p. goes_before p q) w.request ∙ first c.object.name q
            (eqb-false c.object.name id other) (asked_first c cs ∙ here) (ap (λ v. is_ready q || has_more v.queue) (service_first c cs) ∙ is))
        by_ready q here false is = refl

        by_request : (q : Option Request) → c.request ≡ q → among_ready c q (Some w.candidate) ≡ Some w.candidate
        by_request x here = grind (arith, nat_tests, by_ready)

    go : (b : Bool) → (c.object.name == id) ≡ b → cond b c.request (requested cs id) ≡ Some r →
        (requested cs id ≡ Some r → IsChosen cs id r) → IsChosen (c ∷ cs) id r
    go x same here rest = grind (arith, nat_tests, in_front, eqb-true, behind)

-- the first ready object is the candidate that the checked machine takes
pub picked : (cs : List Cell) (queues : ℕ → Option Bool) (id : ℕ) →
    NoDuplicates cs → AreWanted queues cs → IsFirstReady id (requested cs) queues → (x : Candidate) × (first_ready cs ≡ Some x) ×
    (x.owned_object.object.name ≡ id) × (named cs id ≡ Some x.owned_object.object) × (held cs x.owned_object.place ≡ Some x.owned_object.object) × (requested cs id ≡ Some x.request)
picked cs queues id no_duplicates wanted f = grind (arith, chosen cs id f.request no_duplicates f.stands, owned_placed cs no_duplicates)

-- where none is ready there is none
pub none_picked : (cs : List Cell) (queues : ℕ → Option Bool) → NoDuplicates cs → AreWanted queues cs → NoneReady (requested cs) queues → first_ready cs ≡ None
none_picked cs queues no_duplicates wanted none = go (first_ready cs) refl
  where
    go : (o : Option Candidate) → first_ready cs ≡ o → o ≡ None
    go None e = refl
    go (Some x) e = let s = owned_placed cs no_duplicates x e in absurd (grind (arith, nat_tests))
