-- The law of `hand`: the object's request is made, and a register has its token, or null where there was no room and the request is completed.
use Rattle.std.proofs.lemmas.Bool.Decides.{nat_tests}
use Rattle.std.proofs.Common.{arith, Bool, List, None, Option, Some, [], ap, false, refl, true, ℕ, ◌∙◌, ◌≡◌}
use Rattle.std.specs.Prelude.{is_none, is_some}
use Rattle.aom_image.specs.Image.{Image}
use Rattle.aom_image.specs.Views.{method_role}
use Rattle.aom_image.specs.declared.class.ClassKind.{ClassKind}
use Rattle.aom_image.specs.declared.method.Role.TheVariants.{Main}
use Rattle.aom_image.specs.declared.method.Thing.TheVariants.{Message}
use Rattle.aom_instructions.specs.declared.instr.Instr.{Instr}
use Rattle.aom_instructions.specs.declared.instr.Instr.TheVariants.{Hand}
use Rattle.aom_roles.specs.Kinds.{is_active_kind, is_listed_kind, is_token_kind}
use Rattle.aom_roles.specs.States.{idle, issued}
use Rattle.aom_typing_rules.specs.Requests.{own_kind}
use Rattle.aom_typing_rules.specs.Typing.{Typing}
use Rattle.aom_abstract_state.specs.Kinds.{set_register}
use Rattle.aom_abstract_state.specs.AbstractState.{AbstractState}
use Rattle.aom_abstract_state.specs.declared.kind.InitState.TheVariants.{Ready}
use Rattle.aom_abstract_state.specs.declared.kind.Kind.{Kind}
use Rattle.aom_abstract_state.specs.declared.kind.Kind.TheVariants.{Maybe}
use Rattle.aom_safety.proofs.Creation.{create}
use Rattle.aom_safety.proofs.Requests.{OfObject, active_listed, asked, receiver_is_own, in_state, its, of_object, only_idle}
use Rattle.aom_safety.proofs.Storing.{Alike, alike_fitted, on_some, request_updated_alike}
use Rattle.aom_safety.proofs.Straight.{At, Fitted, Law, free_register, settle, stepped, top, well, write}
use Rattle.aom_safety.specs.Claims.{Layer, tasks_of}
use Rattle.aom_semantics.specs.Effects.{applied, hands_unless, sets}
use Rattle.aom_semantics.specs.Requests.{completed_at_once, in_phase, is_idle, on_request, own_request, request_updated}
use Rattle.aom_semantics.specs.Places.{Cell, Place, Request, Token, held, named, with_new}
use Rattle.aom_safety.specs.Requests.{Known, ConformsTo}
use Rattle.aom_semantics.specs.State.{Choice, Frame, State, next, set_word}
use Rattle.aom_semantics.specs.Tokens.{busy, receiver_class, is_message_store_full, next_token, promised, with_token}
use Rattle.aom_safety.specs.WellTyped.{WellTyped}
use Rattle.aom_safety.proofs.RolesLemmas.{stands_itself}

-- a new token is like a new message, but for what it says
pub token_alike : (name : ℕ) (token : Token) (owner : Place) (cs : List Cell) → Alike (with_new name Message [] owner cs) (with_token name token owner cs)
token_alike name token owner cs = search (arith, nat_tests)

pub token_active : (k : Option ClassKind) → is_token_kind k ≡ true → is_active_kind k ≡ true
token_active k e = grind arith

-- a request that waits for a token, and one that is completed for want of room
conforms_to_promised : (k : Option ClassKind) (n : Known) (order : ℕ) (r : Option Request) → is_token_kind k ≡ true →
    in_phase is_idle r ≡ true → ConformsTo k n r → ConformsTo k (record { states = issued; cancelled = n.cancelled }) (on_request (promised order) r)
conforms_to_promised k n order r e free s = grind arith

conforms_to_busy : (k : Option ClassKind) (n : Known) (r : Option Request) → is_token_kind k ≡ true →
    in_phase is_idle r ≡ true → ConformsTo k n r → ConformsTo k (record { states = issued; cancelled = n.cancelled }) (on_request (completed_at_once busy) r)
conforms_to_busy k n r e free s = grind arith

module _ (p : Image) (t : Typing) (main_none : (m : ℕ) → method_role p m ≡ Some Main → own_kind p m ≡ None)
    (c : Choice) (s : State) (fr : Frame) (sh : AbstractState) (ls : List Layer) (has_task : At p t s fr sh ls) (unused : named s.cells c.name ≡ None) where
  abbrev own : Option Request
  own = own_request s.cells fr.receiver

  pub law_hand : (a : ℕ) → Law p t c s fr sh ls has_task (Hand a)
  law_hand a n leads =
      ((ap is_none none, (ap is_token_kind (receiver_is_own p t main_none c s fr sh ls has_task listed) ∙ n.1.0, (free.0, (free.1, tt)))), go (is_message_store_full p s.cells))
    where
      k : Kind
      k = Maybe Message Ready

      listed : is_listed_kind (own_kind p fr.method) ≡ true
      listed = active_listed (own_kind p fr.method) (token_active (own_kind p fr.method) n.1.0)

      it : OfObject p t main_none c s fr sh ls has_task
      it = of_object p t main_none c s fr sh ls has_task listed

      free : (is_some own ≡ true) × (in_phase is_idle own ≡ true)
      free = only_idle own (in_state p t main_none c s fr sh ls has_task listed idle n.1.1.1.0)

      none : held s.cells (top ls a) ≡ None
      none = free_register p t c s fr sh ls has_task a n.0

      sh' : AbstractState
      sh' = record sh { states = issued }

      fr' : Frame
      fr' = next (set_word fr a None)

      asks : (f : Request → Request) → ConformsTo (own_kind p fr.method) (its p t main_none c s fr sh ls has_task listed issued) (on_request f own) →
          Fitted p t (request_updated s.cells fr.receiver (on_request f own)) fr sh' ls
      asks f conform_to = asked p t main_none c s fr sh ls has_task listed issued (on_request f own) (on_some f own) conform_to

      waits : Fitted p t (request_updated s.cells fr.receiver (on_request (promised (next_token s.cells)) own)) fr sh' ls
      waits = asks (promised (next_token s.cells))
          (conforms_to_promised (own_kind p fr.method) (its p t main_none c s fr sh ls has_task listed sh.states) (next_token s.cells) own n.1.0 free.1 it.conforms_to)

      full : Fitted p t (request_updated s.cells fr.receiver (on_request (completed_at_once busy) own)) fr sh' ls
      full = asks (completed_at_once busy) (conforms_to_busy (own_kind p fr.method) (its p t main_none c s fr sh ls has_task listed sh.states) own n.1.0 free.1 it.conforms_to)

      token : Token
      token = record { class = receiver_class fr.receiver; order = next_token s.cells }

      handed : Fitted p t (with_token c.name token (top ls a) (request_updated s.cells fr.receiver (on_request (promised (next_token s.cells)) own))) fr'
          (set_register sh' a k) ls
      handed =
          let cs = request_updated s.cells fr.receiver (on_request (promised (next_token s.cells)) own) in
          let like = request_updated_alike s.cells fr.receiver (on_request (promised (next_token s.cells)) own) in
          alike_fitted p t (with_new c.name Message [] (top ls a) cs) (with_token c.name token (top ls a) cs) (token_alike c.name token (top ls a) cs)
          (λ n. refl) fr' (set_register sh' a k) ls (create p t cs fr sh' ls c.name Message [] a k waits (like.named_so c.name ∙ unused)
          (like.held_so (top ls a) ∙ none) (λ h nf u. (stands_itself p Message, tt)) refl)

      go : (b : Bool) → WellTyped p t (applied p fr (tasks_of ls) s (sets fr a None (hands_unless b c.name a own)))
      go true = well p t c s fr sh ls has_task _ fr' (set_register sh' a k) refl has_task.items has_task.undo_operations (settle p t _ fr' (set_register sh' a k) ls
          (stepped p t _ (set_word fr a None) (set_register sh' a k) ls (write p t _ fr sh' ls a None k full n.0 (λ h. tt) refl)) leads.0)
      go false = well p t c s fr sh ls has_task _ fr' (set_register sh' a k) refl has_task.items has_task.undo_operations
          (settle p t _ fr' (set_register sh' a k) ls handed leads.0)

  -- each instruction of this file by its law
  abbrev pub of_tokens : (i : Instr) → Option (Law p t c s fr sh ls has_task i)
  of_tokens (Hand a) = Some (law_hand a)
  of_tokens _ = None
