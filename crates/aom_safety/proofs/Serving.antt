-- The laws of the instructions at the native that serves what a method works on: a session counts for no claim, and nothing is owed to an object that is idle.
use Rattle.std.proofs.Common.{arith, IsTrue, None, Option, Some, ap, refl, true, ℕ, ◌∙◌, ◌≡◌, List, false}
use Rattle.std.specs.Prelude.{not}
use Rattle.aom_image.specs.Image.{Image}
use Rattle.aom_image.specs.Views.{has, method_role}
use Rattle.aom_image.specs.declared.class.ClassKind.{ClassKind}
use Rattle.aom_image.specs.declared.method.Role.TheVariants.{Main}
use Rattle.aom_instructions.specs.declared.instr.Instr.TheVariants.{Ask, Close, Connect}
use Rattle.aom_roles.specs.States.{server_states}
use Rattle.aom_typing_rules.specs.Requests.{own_kind}
use Rattle.aom_typing_rules.specs.Typing.{Typing}
use Rattle.aom_abstract_state.specs.Kinds.{set_register}
use Rattle.aom_abstract_state.specs.AbstractState.{AbstractState}
use Rattle.aom_abstract_state.specs.declared.kind.Kind.TheVariants.{Word}
use Rattle.aom_safety.proofs.Requests.{receiver_is_own, in_state}
use Rattle.aom_safety.proofs.Storing.{sessioned_fitted}
use Rattle.aom_safety.proofs.Straight.{At, Law, fitted, settle, stepped, well, write}
use Rattle.aom_safety.proofs.Words.{has_word, unowned, writes_word}
use Rattle.aom_safety.specs.Claims.{Layer, tasks_of}
use Rattle.aom_semantics.specs.Effects.{observed}
use Rattle.aom_semantics.specs.Requests.{receiver_kind, own_request}
use Rattle.aom_semantics.specs.Moves.{does}
use Rattle.aom_semantics.specs.Natives.{connected, is_owed, opens, replied, session_updated}
use Rattle.aom_semantics.specs.Places.{Request}
use Rattle.aom_safety.specs.Requests.{state_of}
use Rattle.aom_semantics.specs.State.{Choice, Frame, State, next, set_word}
use Rattle.aom_instructions.specs.declared.instr.Instr.{Instr}
use Rattle.aom_roles.specs.Kinds.{is_native_kind, is_listed_kind}

native_listed : (k : Option ClassKind) → is_native_kind k ≡ true → is_listed_kind k ≡ true
native_listed k e = grind arith

-- nothing is owed to what is not enlisted, or idle
unowed : (r : Option Request) → IsTrue (has server_states (state_of r)) → not (is_owed r) ≡ true
unowed x h = grind arith

module _ (p : Image) (t : Typing) (main_none : (m : ℕ) → method_role p m ≡ Some Main → own_kind p m ≡ None)
    (c : Choice) (s : State) (fr : Frame) (sh : AbstractState) (ls : List Layer) (has_task : At p t s fr sh ls) where
  native_receiver : is_native_kind (own_kind p fr.method) ≡ true → is_native_kind (receiver_kind p fr.receiver) ≡ true
  native_receiver n = ap is_native_kind (receiver_is_own p t main_none c s fr sh ls has_task (native_listed (own_kind p fr.method) n)) ∙ n

  pub law_connect : (a : ℕ) → Law p t c s fr sh ls has_task (Connect a)
  law_connect a n leads =
      let w = observed p c fr (tasks_of ls) s connected in
      let session = observed p c fr (tasks_of ls) s opens in
      let fr' = set_word fr a (Some w) in
      let sh' = set_register sh a Word in
      let cs = session_updated s.cells fr.receiver session in
      let written = write p t s.cells fr sh ls a (Some w) Word (fitted p t s.cells fr sh ls has_task.good) n.0 (λ h. tt) tt in
      let h = stepped p t cs fr' sh' ls (sessioned_fitted p t s.cells fr.receiver session fr' sh' ls written) in
      ((unowned p t c s fr sh ls has_task a n.0, (native_receiver n.1.0, tt)), well p t c s fr sh ls has_task _ (next fr') sh' refl has_task.items has_task.undo_operations (settle p t cs (next fr') sh' ls h leads.0))

  pub law_ask : (a b x : ℕ) → Law p t c s fr sh ls has_task (Ask a b x)
  law_ask a b x n leads = (
    (has_word p t c s fr sh ls has_task b n.0, (has_word p t c s fr sh ls has_task x n.1.0, (unowned p t c s fr sh ls has_task a n.1.1.0, (native_receiver n.1.1.1.0, tt)))),
    writes_word p t c s fr sh ls has_task a (observed p c fr (tasks_of ls) s replied) n.1.1.0 leads,
  )

  pub law_close : Law p t c s fr sh ls has_task Close
  law_close n leads =
      let own = own_request s.cells fr.receiver in
      let listed = native_listed (own_kind p fr.method) n.0 in
      let free = unowed own (in_state p t main_none c s fr sh ls has_task listed server_states n.1.0) in
      let cs = session_updated s.cells fr.receiver false in
      let h = stepped p t cs fr sh ls (sessioned_fitted p t s.cells fr.receiver false fr sh ls (fitted p t s.cells fr sh ls has_task.good)) in
      ((native_receiver n.0, (free, tt)), well p t c s fr sh ls has_task (does p c fr (tasks_of ls) s Close) (next fr) sh refl has_task.items has_task.undo_operations (settle p t cs (next fr) sh ls h leads.0))

  -- each instruction of this file by its law
  abbrev pub of_natives : (i : Instr) → Option (Law p t c s fr sh ls has_task i)
  of_natives (Connect a) = Some (law_connect a)
  of_natives (Ask a b x) = Some (law_ask a b x)
  of_natives Close = Some law_close
  of_natives _ = None
