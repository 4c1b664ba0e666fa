-- The code of a leave arrives: at the method that set the trap, or at main's dispatch.
use Rattle.std.proofs.lemmas.Bool.Decides.{nat_tests}
use Rattle.std.proofs.Common.{arith, [], List, None, Some, pos, refl, suc, true, ℕ, ℤ, ◌∷◌, ◌≡◌}
use Rattle.aom_image.specs.Image.{Image}
use Rattle.aom_image.specs.Views.{instr_at}
use Rattle.aom_image.specs.declared.method.Gives.{Gives}
use Rattle.aom_image.specs.declared.method.Gives.TheVariants.{Maybe as A_maybe, Own as An_own, Word as A_word}
use Rattle.aom_typing_rules.specs.Calls.{caught}
use Rattle.aom_abstract_state.specs.Kinds.{is_unowning, register, set_register}
use Rattle.aom_abstract_state.specs.AbstractState.{AbstractState}
use Rattle.aom_typing_rules.specs.Typing.{Leads, Typing}
use Rattle.aom_abstract_state.specs.declared.kind.InitState.TheVariants.{Ready}
use Rattle.aom_abstract_state.specs.declared.kind.Kind.{Kind}
use Rattle.aom_abstract_state.specs.declared.kind.Kind.TheVariants.{Maybe, Word}
use Rattle.aom_safety.proofs.Straight.{Fitted, next_unowning, settle, stepped, write}
use Rattle.aom_semantics.specs.Calls.{called, result_register}
use Rattle.aom_safety.specs.Claims.{Dispatching, Layer, Mark, Method, Unwinding, by_close, by_stage}
use Rattle.aom_safety.specs.Claims.{claim, declared, forms, is_of_root, items_of, objects, tasks_of}
use Rattle.aom_semantics.specs.Cleanup.{arrived, code_reported, ended_by}
use Rattle.aom_semantics.specs.Places.{Cell, Elsewhere, In_service, Place, Root, held, seen}
use Rattle.aom_semantics.specs.State.{Of_server, Accepts, Serves, Dispatch, Frame, Item, Of_main, Of_object, OwnedObject, State, Static, next, set_word}
use Rattle.aom_safety.specs.WellTyped.{AllUndo, Awaits, Caught, Fits, Good, PreservesTyping, Now, Stack}

-- null or 0 where the result would be, and the code
reported_fitted : (p : Image) (t : Typing) (cs : List Cell) (fr : Frame) (sh : AbstractState) (ls : List Layer) (code : ℤ) (g : Gives) (c : ℕ) →
    Fitted p t cs fr sh ls → is_unowning (register sh (suc c)) ≡ true → Awaits g c sh → Fitted p t cs (code_reported g c code fr) (caught g c sh) ls
reported_fitted p t cs fr sh ls code A_word c f u a = write p t cs (set_word fr c (Some (pos 0))) (set_register sh c Word) ls (suc c) (Some code) Word
    (write p t cs fr sh ls c (Some (pos 0)) Word f a (λ h. tt) tt) (next_unowning sh.registers c Word u) (λ h. tt) tt
reported_fitted p t cs fr sh ls code (An_own x) c f u a = write p t cs (set_word fr c None) (set_register sh c (Maybe x Ready)) ls (suc c) (Some code) Word
    (write p t cs fr sh ls c None (Maybe x Ready) f a (λ h. tt) refl) (next_unowning sh.registers c (Maybe x Ready) u) (λ h. tt) tt
reported_fitted p t cs fr sh ls code (A_maybe x) c f u a = write p t cs (set_word fr c None) (set_register sh c (Maybe x Ready)) ls (suc c) (Some code) Word
    (write p t cs fr sh ls c None (Maybe x Ready) f a (λ h. tt) refl) (next_unowning sh.registers c (Maybe x Ready) u) (λ h. tt) tt
reported_fitted p t cs fr sh ls code _ c f u a = write p t cs fr sh ls (suc c) (Some code) Word f u (λ h. tt) tt

-- method and place stay
abbrev pub bare : Frame → Frame
bare fr = record fr { words = []; receiver = Static }

pub reported_same : (g : Gives) (c : ℕ) (code : ℤ) (fr : Frame) → bare (code_reported g c code fr) ≡ bare fr
reported_same x c code fr = grind arith

module _ (p : Image) (t : Typing) (s : State) (code : ℤ) (items : List Item) where
  -- at the method that set the trap
  at_method : (gv : Gives) (fr : Frame) (sh : AbstractState) (ls : List Layer) → forms items ≡ objects sh.entries (items_of ls) → AllUndo p items →
      Good p t s.cells (Unwinding code [] ∷ Mark gv ∷ Method fr sh ∷ ls) → PreservesTyping p t (arrived p code (tasks_of (Mark gv ∷ Method fr sh ∷ ls)) items s)
  at_method gv fr sh ls same undo_operations good =
      let below = good.stack.1.1 in
      let i = instr_at p fr.method fr.place in
      let c = result_register i in
      let fr' = code_reported (called p i) c code fr in
      let f : Fitted p t s.cells fr sh ls =
      record { fits = fits; conforms_to = good.conforms_to; no_duplicates = good.no_duplicates; frames = below.1; receiver_held = below.2; apart = below.3; stack = below.4 } in
      let g : Fitted p t s.cells fr' (caught gv c sh) ls =
      grind (arith, nat_tests, Fitted p t s.cells, reported_fitted p t s.cells fr sh ls code gv c f below.0.1 below.0.2) in
      let leads : Leads t fr'.method (suc fr'.place) (caught gv c sh) = grind (arith, nat_tests, reported_same) in
      let e = settle p t s.cells (next fr') (caught gv c sh) ls (stepped p t s.cells fr' (caught gv c sh) ls g) leads in
      record { layers = Method (next fr') e.0 ∷ ls; tasks = refl; items = grind (arith, nat_tests); undo_operations = undo_operations; good = e.1 }
    where
      fits : (r : Place) → Fits p (seen s.cells) (held s.cells r) (claim p (declared p s.cells) (Method fr sh ∷ ls) r)
      fits r = grind arith

  -- at a dispatch, which ends with it and claims what it did
  ends : (gv : Gives) (d : Dispatch) (owned_chain : List OwnedObject) (ls : List Layer) → is_of_root d ≡ is_of_root (ended_by code d) →
      ((n x : ℕ) (k : Kind) → by_close d n x k ≡ by_close (ended_by code d) n x k) → ((k : Kind) → by_stage d k ≡ by_stage (ended_by code d) k) →
      Stack p t s.cells Now (Dispatching (ended_by code d) owned_chain ∷ ls) → forms items ≡ items_of ls → AllUndo p items → Good p t s.cells
      (Unwinding code [] ∷ Mark gv ∷ Dispatching d owned_chain ∷ ls) → PreservesTyping p t (arrived p code (tasks_of (Mark gv ∷ Dispatching d owned_chain ∷ ls)) items s)
  ends gv d owned_chain ls root close stage stack same undo_operations good = record {
    layers = Dispatching (ended_by code d) owned_chain ∷ ls;
    tasks = refl;
    items = same;
    undo_operations = undo_operations;
    good = record { stack = stack; fits = grind (arith, nat_tests); conforms_to = good.conforms_to; no_duplicates = good.no_duplicates };
  }
    where
      below : Place → Kind
      below r = claim p (declared p s.cells) ls r

      claims : (r : Place) → claim p (declared p s.cells) (Unwinding code [] ∷ Mark gv ∷ Dispatching d owned_chain ∷ ls) r
          ≡ claim p (declared p s.cells) (Dispatching (ended_by code d) owned_chain ∷ ls) r
      claims x = grind (arith, nat_tests, below (Elsewhere Root), below (Elsewhere In_service))

  at_dispatch : (gv : Gives) (d : Dispatch) (owned_chain : List OwnedObject) (ls : List Layer) → forms items ≡ items_of ls → AllUndo p items → Good p t s.cells
      (Unwinding code [] ∷ Mark gv ∷ Dispatching d owned_chain ∷ ls) → PreservesTyping p t (arrived p code (tasks_of (Mark gv ∷ Dispatching d owned_chain ∷ ls)) items s)
  at_dispatch gv Of_main owned_chain ls same undo_operations good = grind (arith, nat_tests, ends gv Of_main owned_chain ls)
  at_dispatch gv (Of_object x) owned_chain ls same undo_operations good = grind (arith, nat_tests, ends gv (Of_object x) owned_chain ls)
  at_dispatch gv (Of_server x c Accepts) owned_chain ls same undo_operations good = grind (arith, nat_tests, ends gv (Of_server x c Accepts) owned_chain ls)
  at_dispatch gv (Of_server x c (Serves o)) owned_chain ls same undo_operations good = grind (arith, nat_tests, ends gv (Of_server x c (Serves o)) owned_chain ls)
  at_dispatch gv _ owned_chain ls same undo_operations good = absurd good.stack.1.1.0

  -- a trap stands over one of the two
  pub arrives : (gv : Gives) (ls : List Layer) → forms items ≡ items_of ls → AllUndo p items → Good p t s.cells (Unwinding code [] ∷ Mark gv ∷ ls) →
      PreservesTyping p t (arrived p code (tasks_of (Mark gv ∷ ls)) items s)
  arrives gv [] same undo_operations good = let clash : Stack p t s.cells (Caught gv) [] = good.stack.1.1 in cc
  arrives gv (Method fr sh ∷ ls) same undo_operations good = at_method gv fr sh ls same undo_operations good
  arrives gv (Dispatching d owned_chain ∷ ls) same undo_operations good = at_dispatch gv d owned_chain ls same undo_operations good
  arrives gv _ same undo_operations good = absurd (assumption tt)
