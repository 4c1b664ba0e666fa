-- A method that accepts returns to its dispatch: what it gives is the session of the client.
use Rattle.std.proofs.lemmas.Bool.Decides.{nat_tests}
use Rattle.std.proofs.Math.Bool.{or-true}
use Rattle.std.proofs.Common.{arith, [], Bool, List, None, Some, ap, cond, false, length, refl, subst, sym, true, ℕ, ◌==◌, ◌∙◌, ◌∷◌, ◌≡◌}
use Rattle.std.proofs.lemmas.Bool.{eq-eqb, eqb-true}
use Rattle.std.specs.Prelude.{is_none, ◌++◌, ◌||◌}
use Rattle.aom_image.specs.Image.{Image}
use Rattle.aom_image.specs.Views.{gives_of}
use Rattle.aom_image.specs.declared.method.Gives.{Gives}
use Rattle.aom_image.specs.declared.method.Gives.TheVariants.{Own as An_own}
use Rattle.aom_image.specs.declared.method.Thing.{Thing}
use Rattle.aom_roles.specs.Tests.{AllTrue}
use Rattle.aom_typing_rules.specs.Calls.{entries_done, result_moved, rule_result}
use Rattle.aom_typing_rules.specs.Typing.{Typing}
use Rattle.aom_abstract_state.specs.Kinds.{no_entry, none_owns, register, set_register}
use Rattle.aom_abstract_state.specs.AbstractState.{AbstractState}
use Rattle.aom_abstract_state.specs.declared.kind.InitState.TheVariants.{Ready}
use Rattle.aom_abstract_state.specs.declared.kind.Kind.{Kind}
use Rattle.aom_abstract_state.specs.declared.kind.Kind.TheVariants.{Null, Own}
use Rattle.aom_safety.proofs.Claimed.{claim-set_register, claim_rel, fits_age, keep_fits, mark_claims}
use Rattle.aom_safety.proofs.Finishing.{ReturnLaw, Returnable, ended, ended_plainly, return_needs, same_items}
use Rattle.aom_safety.proofs.Items.{forms_below, mark_on_top, undo_operations_below}
use Rattle.aom_safety.proofs.SemanticsLemmas.{held_moved, named_moved, requested_moved, same_place-true, tidy_moved}
use Rattle.aom_safety.proofs.Returning.{held_thing}
use Rattle.aom_safety.proofs.Widening.{Widens, own_widens}
use Rattle.aom_safety.proofs.OwnedObjects.{first_kept, sits_kept}
use Rattle.aom_safety.proofs.Services.{held_served, named_served, requested_served, service_here, service_moved, service_there, sits_lives, tidy_served}
use Rattle.aom_safety.proofs.Straight.{At, claim_register, fits_unowning, register_fits, word_of_object}
use Rattle.aom_safety.proofs.ConformingTo.{all_returned, known_resting, rests_there, conforms_to_rests}
use Rattle.aom_semantics.specs.Calls.{result_needs}
use Rattle.aom_safety.specs.Claims.{Dispatching, Layer, Mark, Mark_form, Method, claim, declared, declared_field, tasks_of}
use Rattle.aom_semantics.specs.Places.{Cell, Elsewhere, Field, Place, Queued, Register, Service, Session, changed}
use Rattle.aom_semantics.specs.Places.{held, moved, named, requested, same_place, seen, service_of, set_service}
use Rattle.aom_semantics.specs.Servers.{is_among, opened}
use Rattle.aom_semantics.specs.State.{word, Accepted, Accepts, Choice, Frame, Of_server, OwnedObject, State}
use Rattle.aom_safety.specs.WellTyped.{IsOwnedChain, Fits, Good, NoOwnedObjectAt}

-- the client is among those with one more if it is the one, or was among them
among_new : (c : ℕ) (ss : List ℕ) → is_among c (ss ++ c ∷ []) ≡ true
among_new c [] = ap (λ b. b || false) (eq-eqb c c refl)
among_new c (d ∷ ss) = ap (λ b. (d == c) || b) (among_new c ss) ∙ or-true (d == c)

among_old : (k c : ℕ) (ss : List ℕ) → (c == k) ≡ false → is_among k (ss ++ c ∷ []) ≡ is_among k ss
among_old k c [] e = ap (λ b. b || false) e
among_old k c (d ∷ ss) e = ap (λ b. (d == k) || b) (among_old k c ss e)

module _ (p : Image) (t : Typing) (c : Choice) (s : State) (fr : Frame) (sh : AbstractState) (gv : Gives) (x : OwnedObject) (client : ℕ) (owned_chain : List OwnedObject) (ls : List Layer)
    (has_task : At p t s fr sh (Mark gv ∷ Dispatching (Of_server x client Accepts) owned_chain ∷ ls)) (a : ℕ) where
  abbrev below : List Layer
  below = Mark gv ∷ Dispatching (Of_server x client Accepts) owned_chain ∷ ls

  abbrev n : ℕ
  n = x.object.name

  abbrev cs : List Cell
  cs = s.cells

  abbrev q : Place
  q = Register (length (tasks_of below)) a

  abbrev to : Place
  to = Elsewhere (Session n client)

  abbrev cs1 : List Cell
  cs1 = moved q to cs

  abbrev v : Service
  v = opened client (service_of cs1 n)

  abbrev cs2 : List Cell
  cs2 = set_service n v cs1

  lives : named cs n ≡ Some x.object
  lives = sits_lives cs owned_chain x has_task.good.stack.4.1.2 has_task.good.stack.4.1.3

  abbrev thing : Thing
  thing = has_task.good.stack.4.1.0.0

  gives : gives_of p fr.method ≡ An_own thing
  gives = has_task.good.stack.4.0.0 ∙ has_task.good.stack.4.1.0.1

  -- the session has a free place
  free : held cs to ≡ None
  free = grind (arith, nat_tests, fits_unowning p)

  named_then : (m : ℕ) → named cs2 m ≡ named cs m
  named_then m = named_served cs1 n v m ∙ named_moved cs q to m

  requested_then : (m : ℕ) → requested cs2 m ≡ requested cs m
  requested_then m = requested_served cs1 n v m ∙ requested_moved cs q to m

  service_now : service_of cs2 n ≡ opened client (service_of cs n)
  service_now = service_here cs1 n v x.object (named_moved cs q to n ∙ lives) ∙ ap (opened client) (service_moved cs q to n)

  service_then : (m : ℕ) → (n == m) ≡ false → service_of cs2 m ≡ service_of cs m
  service_then m other = service_there cs1 n m v other ∙ service_moved cs q to m

  -- nothing but the session is declared anew
  declared_then : (r : Place) → same_place to r ≡ false → declared p cs2 r ≡ declared p cs r
  declared_then (Field m f) e = ap (λ o. declared_field p o f) (named_then m)
  declared_then (Elsewhere (Session m k)) e = grind (arith, nat_tests, eqb-true, service_now, among_old, service_then, named_then m)
  declared_then (Elsewhere (Queued m k)) e = grind (arith, nat_tests, eqb-true, service_now, service_then, named_then m)
  declared_then _ e = refl

  declared_now : declared p cs2 to ≡ Own thing Ready
  declared_now = grind (arith, nat_tests, service_now, among_new client, named_then, lives)

  -- a dispatch at either stage claims nothing
  module _ (r : Returnable p fr sh a) where
    rule : AllTrue (rule_result p fr.method fr.place sh (An_own thing) a)
    rule = subst (λ g. AllTrue (rule_result p fr.method fr.place sh g a)) gives r.result

    given : Widens p (register sh a) (Own thing Ready)
    given = own_widens p thing (register sh a) rule.0 rule.1.0

    entries : no_entry sh.entries ≡ true
    entries = ap (λ g. entries_done p g sh.entries) (sym gives) ∙ r.entries

    rest_free : none_owns (set_register sh a Null).registers ≡ true
    rest_free = ap (λ g. none_owns (result_moved p fr.method fr.place sh g a).registers) (sym gives) ∙ r.free

    fits_then : (r : Place) → Fits p (seen cs2) (held cs2 r) (claim p (declared p cs2) (Dispatching (Of_server x client Accepted) owned_chain ∷ ls) r)
    fits_then r = rw (held_served cs1 n v r) (fits_age p (seen cs1) (seen cs2) (held cs1 r) _
        (λ y e fresh age. (λ f. held_served cs1 n v (Field y.name f) ∙ age.0 f, requested_served cs1 n v y.name ∙ age.1)) (go (same_place to r) refl carried))
      where
        k : Place → Kind
        k = claim p (declared p cs) (Method fr sh ∷ below)

        carried : Fits p (seen cs1) (held cs1 r) (changed (changed k q Null) to (k q) r)
        carried = keep_fits p (seen cs) (seen cs1) k (changed (changed k q Null) to (k q)) q to
            (λ r. held_moved cs q to r free) (requested_moved cs q to) (λ r. refl) (λ r y e fresh f. refl) has_task.good.fits r

        go : (b : Bool) → same_place to r ≡ b → Fits p (seen cs1) (held cs1 r) (cond b (k q) (cond (same_place q r) Null (k r))) →
            Fits p (seen cs1) (held cs1 r) (claim p (declared p cs2) (Dispatching (Of_server x client Accepted) owned_chain ∷ ls) r)
        go true e f =
            let its_claim : claim p (declared p cs2) (Dispatching (Of_server x client Accepted) owned_chain ∷ ls) to ≡ Own thing Ready =
            ap (λ l. claim p (declared p cs2) l to) has_task.good.stack.4.1.1 ∙ declared_now in
            subst (λ y. Fits p (seen cs1) (held cs1 r) (claim p (declared p cs2) (Dispatching (Of_server x client Accepted) owned_chain ∷ ls) y)) (same_place-true to
            r e) (subst (λ y. Fits p (seen cs1) (held cs1 r) y) (sym its_claim) (given.fits (seen cs1) (held cs1 r) (grind (arith, nat_tests, claim_register))))
        go false e f =
            let bare = subst (λ y. Fits p (seen cs1) (held cs1 r) y) (sym (claim-set_register p (declared p cs) fr sh below a Null r)) f in
            let over = ended p cs fr (set_register sh a Null) below has_task.good.stack.1.holder has_task.good.stack.1.view has_task.good.stack.2
            has_task.good.stack.3 refl entries rest_free (λ serving. absurd (has_task.good.stack.1.message.0 serving)) r (seen cs1) (held cs1 r) bare in
            subst (λ y. Fits p (seen cs1) (held cs1 r) y)
            (mark_claims p (declared p cs) gv (Dispatching (Of_server x client Accepts) owned_chain ∷ ls) r ∙ sym (grind arith) ∙ claim_rel (λ y z. y ≡ z)
            (λ y. refl) p (declared p cs) (declared p cs2) (Dispatching (Of_server x client Accepted) owned_chain ∷ ls) r (sym (declared_then r e))) over

    no_owned_object_there : (xs : List OwnedObject) → IsOwnedChain cs xs → NoOwnedObjectAt to xs
    no_owned_object_there [] h = tt
    no_owned_object_there (y ∷ ys) h = search (arith, nat_tests, no_owned_object_there ys h.1, same_place-true, free)

    sits_then : IsOwnedChain cs2 owned_chain
    sits_then = sits_kept cs cs2 q to owned_chain
        (λ r o other other' there lives. (grind (arith, nat_tests, held_served, held_moved, free), named_then o.name ∙ lives))
        tt (no_owned_object_there owned_chain has_task.good.stack.4.1.2) has_task.good.stack.4.1.2

    good_then : Good p t cs2 (Dispatching (Of_server x client Accepted) owned_chain ∷ ls)
    good_then = record {
      stack = grind (arith, nat_tests, sits_then, first_kept, lives, requested_then, service_now, among_new client);
      fits = fits_then;
      conforms_to = grind (arith, nat_tests, requested_then, named_then, lives, all_returned, rests_there, conforms_to_rests, known_resting);
      no_duplicates = tidy_served cs1 n v (tidy_moved cs q to free has_task.good.no_duplicates);
    }

    needs_met : AllTrue (result_needs p fr (tasks_of below) s (An_own thing) a)
    needs_met =
        let h = held_thing p s thing (held cs q) (given.fits (seen cs) (held cs q) (register_fits p cs fr sh below has_task.good.fits a)) in
        (ap is_none (word_of_object (word fr a) (register sh a) given.object (has_task.good.stack.1.words a)), (h.0, (h.1, tt)))

  pub law_return_accepted : ReturnLaw p t s fr sh below a
  law_return_accepted r =
      let items = same_items p t c s fr sh below has_task (entries r) in (
        return_needs p t c s fr sh below has_task a r (rw gives (needs_met r)) (mark_on_top s.items _ items, (ap is_none free, tt)),
        grind (arith, nat_tests, ended_plainly p t c s fr sh, forms_below s.items Mark_form, undo_operations_below p s.items has_task.undo_operations, good_then r),
      )
