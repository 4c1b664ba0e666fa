-- A method that cancels returns: the request of its object is idle, and its signal is taken.
use Rattle.std.proofs.lemmas.Bool.Decides.{nat_tests}
use Rattle.std.proofs.Common.{IsTrue, List, Option, Some, ap, cond, false, refl, subst, sym, true, ℕ, ◌∙◌, ◌∷◌, ◌≡◌, arith}
use Rattle.std.proofs.lemmas.Bool.{ne_eqb, true≢false}
use Rattle.aom_image.specs.Image.{Image}
use Rattle.aom_image.specs.Views.{has, method_role}
use Rattle.aom_image.specs.declared.method.Role.{Role}
use Rattle.aom_image.specs.declared.method.Role.TheVariants.{Cancel}
use Rattle.aom_roles.specs.Tests.{only_if}
use Rattle.aom_roles.specs.Roles.{is_cancel}
use Rattle.aom_roles.specs.States.{cancel_done, idle}
use Rattle.aom_typing_rules.specs.Typing.{Typing}
use Rattle.aom_safety.proofs.AbstractStateLemmas.{has_itself}
use Rattle.aom_abstract_state.specs.Arguments.{after_of}
use Rattle.aom_abstract_state.specs.Kinds.{is_ready_kind, no_entry, none_owns}
use Rattle.aom_abstract_state.specs.AbstractState.{AbstractState}
use Rattle.aom_safety.proofs.Claimed.{claim_ready}
use Rattle.aom_safety.proofs.Finishing.{Returnable, ended}
use Rattle.aom_safety.proofs.SemanticsLemmas.{one_place}
use Rattle.aom_safety.proofs.Storing.{Alike, fits_alike, receiver_held_alike, listed_still, on_some, requested_here, requested_there, request_updated_alike, stack_alike}
use Rattle.aom_safety.proofs.Straight.{At, Fitted}
use Rattle.aom_safety.proofs.ConformingTo.{all_returned, cancel_ends, rejoins_caller}
use Rattle.aom_safety.specs.Claims.{Layer, Method, claim, declared}
use Rattle.aom_semantics.specs.Requests.{cancelled, on_request, own_request, request_updated}
use Rattle.aom_semantics.specs.Places.{Cell, Object, Place, Request, held, named, requested, seen}
use Rattle.aom_safety.specs.Requests.{AllConformTo, known_at, states_claim, thing_kind, works_at}
use Rattle.aom_semantics.specs.State.{AtRoot, Choice, Frame, Receiver, Inside, State, Static}
use Rattle.aom_safety.specs.WellTyped.{EndsWell, Holds, IsAlone, IsApart, ReceiverIsHeld, Returns, Stack}

pub role_cancels : (r : Option Role) → is_cancel r ≡ true → r ≡ Some Cancel
role_cancels x e = grind arith

module _ (p : Image) (t : Typing) (c : Choice) (s : State) (fr fr2 : Frame) (sh sh2 : AbstractState) (ls : List Layer)
    (has_task : At p t s fr sh (Method fr2 sh2 ∷ ls)) (a : ℕ) (r : Returnable p fr sh a) (cancels : is_cancel (method_role p fr.method) ≡ true) where
  abbrev below : List Layer
  below = Method fr2 sh2 ∷ ls

  -- the cells then
  abbrev pub cells_then : List Cell
  cells_then = request_updated s.cells fr.receiver (on_request cancelled (own_request s.cells fr.receiver))

  alike : Alike s.cells cells_then
  alike = request_updated_alike s.cells fr.receiver (on_request cancelled (own_request s.cells fr.receiver))

  others : (n : ℕ) → works_at n fr.receiver ≡ false → requested cells_then n ≡ requested s.cells n
  others n off = grind (arith, nat_tests, requested_there s.cells)

  here : (o : Object) (from : Place) → fr.receiver ≡ Inside o from → named s.cells o.name ≡ Some o →
      requested cells_then o.name ≡ on_request cancelled (requested s.cells o.name)
  here o from e lives = rw e (requested_here s.cells o.name (on_request cancelled (requested s.cells o.name)) o lives)

  conforms_to : AllConformTo p cells_then below
  conforms_to = all_returned p s.cells cells_then fr sh below has_task.good.conforms_to has_task.good.stack.2 alike.named_so others (λ o from e h.
      let holds : ReceiverIsHeld p s.cells below (Inside o from) = rw e at has_task.good.stack.2 in
      let apart : IsApart p fr.view fr.method (Inside o from) below = rw e at has_task.good.stack.3 in
      let alone : IsAlone p (Inside o from) below = rw e at (has_task.good.stack.1.alone cancels) in
      let well : EndsWell p fr.method (Inside o from) fr2 sh2 = rw e at has_task.good.stack.4.0.3 in
      let done : IsTrue (has cancel_done sh.states) = ap (λ b. only_if b (has cancel_done sh.states)) (sym cancels) ∙ r.cancels in
      let then : Option Request = on_request cancelled (requested s.cells o.name) in
      let is_idle = cancel_ends (thing_kind p o.thing) (known_at p fr sh.states (states_claim p o below)) (requested s.cells o.name) done h in
      rw (here o from e holds.lives) (rejoins_caller p o fr2 sh2 idle ls idle then apart.3
      (λ w. rw (ap (λ b. cond b idle (after_of p fr.method)) cancels) at (well w)) (has_itself idle) refl (rw alone is_idle)))

  -- what the layers below claim to be fresh is another object
  unworked : (q : Place) (x : Object) → held s.cells q ≡ Some x → is_ready_kind (claim p (declared p s.cells) below q) ≡ false →
      requested cells_then x.name ≡ requested s.cells x.name
  unworked q x at fresh = others x.name (go fr.receiver refl)
    where
      go : (h : Receiver) → fr.receiver ≡ h → works_at x.name h ≡ false
      go Static e = refl
      go AtRoot e = refl
      go (Inside o from) e = ne_eqb o.name x.name (λ n.
          let holds : Holds p s.cells below o from = subst (λ h. ReceiverIsHeld p s.cells below h) e has_task.good.stack.2 in
          let same : from ≡ q = one_place s.cells from q o x has_task.good.no_duplicates holds.there at n in
          true≢false (sym (claim_ready p s.cells below from holds.ready) ∙ ap (λ q. is_ready_kind (claim p (declared p s.cells) below q)) same ∙ fresh))

  pub cancel_fitted : no_entry sh.entries ≡ true → none_owns sh.registers ≡ true → Fitted p t cells_then fr2 sh2 ls
  cancel_fitted e n =
      let caller : Stack p t s.cells (Returns fr.method fr.receiver) below = has_task.good.stack.4 in
      record {
        fits = λ q. fits_alike p t s.cells cells_then alike below q (λ x at fresh. unworked q x at fresh)
            (ended p s.cells fr sh below has_task.good.stack.1.holder has_task.good.stack.1.view has_task.good.stack.2 has_task.good.stack.3 refl e n
            (λ serving. absurd (has_task.good.stack.1.message.0 serving)) q (seen s.cells) (held s.cells q) (has_task.good.fits q));
        conforms_to = conforms_to;
        no_duplicates = alike.no_duplicates has_task.good.no_duplicates;
        frames = caller.1;
        receiver_held = receiver_held_alike p t s.cells cells_then alike ls fr2.receiver caller.2;
        apart = caller.3;
        stack = stack_alike p t s.cells cells_then alike (grind (arith, nat_tests, listed_still, on_some)) ls _ caller.4;
      }
