-- The laws of the instructions on messages: the message in service comes to a register, and a message that is replied to goes.
use Rattle.std.proofs.lemmas.Bool.Decides.{nat_tests}
use Rattle.std.proofs.Common.{Bool, List, None, Option, Some, ap, arith, cond, false, refl, subst, suc, sym, true, ℕ, ℤ, [], ◌∙◌, ◌∷◌, ◌≡◌}
use Rattle.std.specs.Prelude.{is_none, is_some}
use Rattle.aom_image.specs.Image.{Image}
use Rattle.aom_image.specs.Views.{method_role}
use Rattle.aom_image.specs.declared.method.Role.{Role}
use Rattle.aom_image.specs.declared.method.Role.TheVariants.{Service}
use Rattle.aom_image.specs.declared.method.Thing.{Thing}
use Rattle.aom_image.specs.declared.method.Thing.TheVariants.{Message}
use Rattle.aom_instructions.specs.declared.instr.Instr.TheVariants.{Reply, TakeMessage}
use Rattle.aom_link_conditions.specs.Roles.{role_number}
use Rattle.aom_roles.specs.Shapes.{is_role}
use Rattle.aom_typing_rules.specs.Typing.{Leads, Typing}
use Rattle.aom_abstract_state.specs.Kinds.{is_here, is_own_for, register, set_register}
use Rattle.aom_abstract_state.specs.AbstractState.{AbstractState}
use Rattle.aom_roles.specs.Things.{is_subtype}
use Rattle.aom_abstract_state.specs.declared.kind.InitState.TheVariants.{Ready}
use Rattle.aom_abstract_state.specs.declared.kind.MessageState.{MessageState}
use Rattle.aom_abstract_state.specs.declared.kind.MessageState.TheVariants.{Gone}
use Rattle.aom_abstract_state.specs.declared.kind.Kind.{Kind}
use Rattle.aom_abstract_state.specs.declared.kind.Kind.TheVariants.{Null, Own}
use Rattle.aom_safety.proofs.Claimed.{claim-set_register, claim_frame, claim_rel}
use Rattle.aom_safety.proofs.Dropping.{declared_dropped, dropped, fits_dropped, held_dropped, place_dropped, conforms_to_dropped, tidy_dropped}
use Rattle.aom_safety.proofs.Going.{receiver_held_without, stack_without}
use Rattle.aom_safety.proofs.SemanticsLemmas.{same_place-true, same_place_comm}
use Rattle.aom_safety.proofs.Picking.{own_held}
use Rattle.aom_safety.proofs.Redeeming.{redeemable, redeemed_by_alike, redeemed_good}
use Rattle.aom_safety.proofs.Straight.{frames_reworded, At, Fitted, Law, fitted, free_register, kind_fits}
use Rattle.aom_safety.proofs.Straight.{no_word, relocate, same_conforms_to, settle, top, well, words_set}
use Rattle.aom_safety.specs.Claims.{Layer, Method, claim, declared, delivered, tasks_of}
use Rattle.aom_semantics.specs.Moves.{does}
use Rattle.aom_semantics.specs.Objects.{is_thing}
use Rattle.aom_semantics.specs.Places.{Cell, Elsewhere, In_service, Object, Place, CellView, changed, held, moved, same_place, seen, without}
use Rattle.aom_semantics.specs.State.{Choice, Frame, Run, OwnedObject, State, next, set_word, word}
use Rattle.aom_semantics.specs.Tokens.{redeemed_by, token_of}
use Rattle.aom_safety.specs.WellTyped.{IsOwnedChain, Fits, ReceiverIsHeld, IsServed, NoOwnedObjectAt, Returns, Stack, WellTyped}
use Rattle.aom_safety.proofs.Words.{is_read}
use Rattle.aom_semantics.specs.Words.{read}
use Rattle.aom_instructions.specs.declared.instr.Instr.{Instr}
use Rattle.aom_roles.specs.Roles.{is_service}

-- ---- the message in service

-- it holds no object of a seat, or of a method
served_unseated : (cs : List Cell) (xs : List OwnedObject) → IsOwnedChain cs xs → NoOwnedObjectAt (Elsewhere In_service) xs
served_unseated cs [] s = tt
served_unseated cs (x ∷ xs) s = (grind arith, served_unseated cs xs s.1)

-- once it is taken no claim of it is left
delivered_here : (x : MessageState) → is_here x ≡ true → delivered x ≡ Own Message Ready
delivered_here x e = grind arith

serves_role : (r : Option Role) → is_service r ≡ true → is_role Service r ≡ true
unfolding is_role role_number
serves_role r e = grind arith

-- a register that owns a message holds one
module _ (p : Image) (h : CellView) where
  message_held : (o : Option Object) (k : Kind) → is_own_for p Message k ≡ true → Fits p h o k → (x : Object) × (o ≡ Some x) × (x.thing ≡ Message)
  message_held o k e f = grind arith

message_stands : (p : Image) (x : Thing) → x ≡ Message → is_subtype p x Message ≡ true
message_stands p x e = ap (λ y. is_subtype p y Message) e

module _ (p : Image) (t : Typing) (c : Choice) (s : State) (fr : Frame) (sh : AbstractState) (ls : List Layer) (has_task : At p t s fr sh ls) where
  -- ---- a message is taken

  pub law_take_message : (a : ℕ) → Law p t c s fr sh ls has_task (TakeMessage a)
  law_take_message a n leads = (
    (ap is_none free, (serves_role (method_role p fr.method) n.1.0, (ap is_some there.1, tt))),
    well p t c s fr sh ls has_task (does p c fr (tasks_of ls) s (TakeMessage a)) (next (set_word fr a None)) after refl has_task.items has_task.undo_operations
        (settle p t (moved (Elsewhere In_service) (top ls a) s.cells) (next (set_word fr a None)) after ls taken leads.0),
  )
    where
      after : AbstractState
      after = record (set_register sh a (Own Message Ready)) { message_state = Gone }

      d : Place → Kind
      d = declared p s.cells

      served : IsServed ls
      served = has_task.good.stack.1.message.0 n.1.0

      claimed : claim p d (Method fr sh ∷ ls) (Elsewhere In_service) ≡ Own Message Ready
      claimed = ap (λ b. cond b (delivered sh.message_state) (claim p d ls (Elsewhere In_service))) n.1.0 ∙ delivered_here sh.message_state n.1.1.0

      there : (x : Object) × (held s.cells (Elsewhere In_service) ≡ Some x)
      there = let x = own_held p (seen s.cells) (held s.cells (Elsewhere In_service)) Message
          (rw claimed at (has_task.good.fits (Elsewhere In_service))) in (x.0, x.1)

      free : held s.cells (top ls a) ≡ None
      free = free_register p t c s fr sh ls has_task a n.0

      claims : (r : Place) → claim p d (Method fr after ∷ ls) r ≡ changed
          (changed (claim p d (Method fr sh ∷ ls)) (Elsewhere In_service) Null) (top ls a) (claim p d (Method fr sh ∷ ls) (Elsewhere In_service)) r
      claims r = claim-set_register p d fr (record sh { message_state = Gone }) ls a (Own Message Ready) r
          ∙ ap (λ x. cond (same_place (top ls a) r) (Own Message Ready) x) (grind arith)
          ∙ ap (λ x. changed (changed (claim p d (Method fr sh ∷ ls)) (Elsewhere In_service) Null) (top ls a) x r) (sym claimed)

      taken : Fitted p t (moved (Elsewhere In_service) (top ls a) s.cells) (next (set_word fr a None)) after ls
      taken = relocate p t s.cells fr (next (set_word fr a None)) sh after ls (Elsewhere In_service) (top ls a) (fitted p t s.cells fr sh ls has_task.good) refl
          refl refl refl free (grind (arith, nat_tests, served_unseated)) (omega arith) (λ o from e. (grind (arith, nat_tests), tt)) (λ r x e k f. refl) claims
          (words_set fr.words sh a None (Own Message Ready) has_task.good.stack.1.words refl)

-- ---- a message goes from a register

module _ (p : Image) (t : Typing) (s : State) (fr : Frame) (sh : AbstractState)
    (ls : List Layer) (has_task : At p t s fr sh ls) (a : ℕ) (it : Object) (there : held s.cells (top ls a) ≡ Some it) (message : it.thing ≡ Message) where
  abbrev after : AbstractState
  after = set_register sh a Null

  abbrev left : List Cell
  left = dropped (λ r. same_place r (top ls a)) s.cells

  messages : (r : Place) (x : Object) → same_place r (top ls a) ≡ true → held s.cells r ≡ Some x → x.thing ≡ Message
  messages r x e h = grind (arith, nat_tests, same_place-true r (top ls a) e, top ls a)

  fits : (r : Place) → Fits p (seen left) (held left r) (claim p (declared p left) (Method (next (set_word fr a None)) after ∷ ls) r)
  fits r = subst (λ k. Fits p (seen left) (held left r) k) (sym claims) (go (same_place r (top ls a)) refl)
    where
      claims : claim p (declared p left) (Method (next (set_word fr a None)) after ∷ ls) r
          ≡ changed (claim p (declared p left) (Method fr sh ∷ ls)) (top ls a) Null r
      claims = claim_frame p (declared p left) fr (next (set_word fr a None)) after ls r refl refl ∙ claim-set_register p (declared p left) fr sh ls a Null r

      go : (b : Bool) → same_place r (top ls a) ≡ b →
          Fits p (seen left) (held left r) (cond (same_place (top ls a) r) Null (claim p (declared p left) (Method fr sh ∷ ls) r))
      go true e =
          rw (held_dropped (λ r. same_place r (top ls a)) s.cells r ∙ ap (λ b. cond b None (held s.cells r)) e) (rw (same_place_comm (top ls a) r ∙ e) tt)
      go false e = rw (same_place_comm (top ls a) r ∙ e) (rw (claim_rel (λ x y. x ≡ y) (λ k. refl) p (declared p s.cells) (declared p left)
          (Method fr sh ∷ ls) r (sym (declared_dropped (λ r. same_place r (top ls a)) p s.cells has_task.good.no_duplicates messages r))) at (fits_dropped
          (λ r. same_place r (top ls a)) p s.cells has_task.good.no_duplicates messages r _ e (has_task.good.fits r)))

  replied : Fitted p t left (next (set_word fr a None)) after ls
  replied = record {
    fits = fits;
    conforms_to = same_conforms_to p left fr (next (set_word fr a None)) sh after ls refl refl refl
        (conforms_to_dropped (λ r. same_place r (top ls a)) p s.cells has_task.good.no_duplicates messages (Method fr sh ∷ ls) has_task.good.conforms_to);
    no_duplicates = tidy_dropped (λ r. same_place r (top ls a)) s.cells has_task.good.no_duplicates;
    frames = frames_reworded has_task.good.stack.1 (words_set fr.words sh a None Null has_task.good.stack.1.words refl);
    receiver_held = subst (λ l. ReceiverIsHeld p l ls fr.receiver) (place_dropped (top ls a) s.cells)
        (grind (arith, nat_tests, receiver_held_without p t s.cells (top ls a) it has_task.good.no_duplicates there ls fr.receiver, top ls a));
    apart = has_task.good.stack.3;
    stack = subst (λ l. Stack p t l (Returns fr.method fr.receiver) ls) (place_dropped (top ls a) s.cells)
        (stack_without p t s.cells (top ls a) it has_task.good.no_duplicates there ls (Returns fr.method fr.receiver) (omega arith) (λ from. tt) has_task.good.stack.4);
  }

  goes_from : Fitted p t (without (top ls a) s.cells) (next (set_word fr a None)) after ls
  goes_from = subst (λ l. Fitted p t l (next (set_word fr a None)) after ls) (sym (place_dropped (top ls a) s.cells)) replied

module _ (p : Image) (t : Typing) (c : Choice) (s : State) (fr : Frame) (sh : AbstractState) (ls : List Layer) (has_task : At p t s fr sh ls) where
  -- ---- a message is replied to, once what waits for it is completed

  replies : (a : ℕ) (code : ℤ) →
      word fr a ≡ None → (it : Object) → held s.cells (top ls a) ≡ Some it → it.thing ≡ Message → Leads t fr.method (suc fr.place) (set_register sh a Null) →
      WellTyped p t (record s { cells = without (top ls a) (redeemed_by (token_of s.cells (held s.cells (top ls a))) code s.cells); tasks = Run (next (set_word fr a None)) ∷ tasks_of ls })
  replies a code none it there message leads =
      let order = token_of s.cells (held s.cells (top ls a)) in
      let cs = redeemed_by order code s.cells in
      let at_then : At p t (record s { cells = cs }) fr sh ls = record {
        tasks = has_task.tasks;
        items = has_task.items;
        undo_operations = has_task.undo_operations;
        good = redeemed_good p t order code s.cells (Method fr sh ∷ ls) has_task.good;
      } in
      well p t c s fr sh ls has_task _ (next (set_word fr a None)) (set_register sh a Null) refl has_task.items has_task.undo_operations
      (settle p t (without (top ls a) cs) (next (set_word fr a None)) (set_register sh a Null) ls
      (goes_from p t (record s { cells = cs }) fr sh ls at_then a it ((redeemed_by_alike order code s.cells).held_so (top ls a) ∙ there) message) leads)

  pub law_reply : (a b : ℕ) → Law p t c s fr sh ls has_task (Reply a b)
  law_reply a b n leads =
      let can = redeemable p t (token_of s.cells (held s.cells (top ls a))) s.cells (Method fr sh ∷ ls) has_task.good in
      let reported = is_read (word fr b) (register sh b) n.1.0 (has_task.good.stack.1.words b) in
      let stands = ap (is_thing p Message) it.1 ∙ message_stands p it.0.thing it.2 in
      ((ap is_none none, (ap is_some it.1, (stands, (reported, (can, tt))))), replies a (read fr (tasks_of ls) s b) none it.0 it.1 it.2 leads.0)
    where
      it : (x : Object) × (held s.cells (top ls a) ≡ Some x) × (x.thing ≡ Message)
      it = message_held p (seen s.cells) (held s.cells (top ls a)) (register sh a) n.0 (kind_fits p t c s fr sh ls has_task a)

      none : word fr a ≡ None
      none = no_word p t c s fr sh ls has_task a (grind arith)

  -- each instruction of this file by its law
  abbrev pub of_messages : (i : Instr) → Option (Law p t c s fr sh ls has_task i)
  of_messages (TakeMessage a) = Some (law_take_message p t c s fr sh ls has_task a)
  of_messages (Reply a b) = Some (law_reply a b)
  of_messages _ = None
