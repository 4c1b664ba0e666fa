-- What a call says of its arguments, its target and the class of the method called.
use Rattle.std.proofs.lemmas.Bool.Decides.{nat_tests}
use Rattle.std.proofs.Common.{[], Bool, List, None, Option, Some, arith, false, inl, inr, length, refl, suc, true, ℕ, ◌+◌, ◌<◌, ◌∷◌, ◌≡◌, ◌≤◌}
use Rattle.std.proofs.lemmas.Bool.{ne_eqb}
use Rattle.std.proofs.lemmas.Bool.Decides.{leb_tells}
use Rattle.std.specs.Prelude.{not, replicate, ◌⊎◌}
use Rattle.aom_image.specs.Image.{Image}
use Rattle.aom_image.specs.declared.method.Argument.{Argument}
use Rattle.aom_image.specs.declared.method.Argument.TheVariants.{Own as Takes_own, Word as Takes_word}
use Rattle.aom_image.specs.declared.method.Role.{Role}
use Rattle.aom_image.specs.declared.method.Role.TheVariants.{Cancel, Construct, Do, Main}
use Rattle.aom_image.specs.declared.method.Thing.{Thing}
use Rattle.aom_abstract_state.specs.Arguments.{arguments_moved}
use Rattle.aom_abstract_state.specs.Kinds.{is_own_for, filled, is_ready_kind, register, set_register}
use Rattle.aom_abstract_state.specs.AbstractState.{AbstractState}
use Rattle.aom_roles.specs.Tables.{at, is_among}
use Rattle.aom_roles.specs.Things.{Member, Nobody, holder_by, holder_of, is_subtype}
use Rattle.aom_typing_rules.specs.Typing.{Typing}
use Rattle.aom_abstract_state.specs.declared.kind.InitState.{InitState}
use Rattle.aom_abstract_state.specs.declared.kind.FieldState.{FieldState}
use Rattle.aom_abstract_state.specs.declared.kind.FieldState.TheVariants.{Empty, Perhaps}
use Rattle.aom_abstract_state.specs.declared.kind.Kind.{Kind}
use Rattle.aom_abstract_state.specs.declared.kind.Kind.TheVariants.{Null, Own, Unset}
use Rattle.aom_safety.proofs.Claimed.{length_objects}
use Rattle.aom_safety.proofs.SemanticsLemmas.{at-set_extending, held_moved}
use Rattle.aom_safety.proofs.Passing.{lower, upper}
use Rattle.aom_semantics.specs.Calls.{passed_cells}
use Rattle.aom_safety.specs.Claims.{Layer, Method, tasks_of}
use Rattle.aom_semantics.specs.Places.{Cell, Object, Place, CellView, held, same_place}
use Rattle.aom_semantics.specs.State.{Frame, Receiver, Inside, State, receiver_holder, thing_holder}
use Rattle.aom_safety.specs.WellTyped.{CountsAs, Fits, IsBelow}
use Rattle.aom_safety.specs.Requests.{thing_kind}
use Rattle.aom_roles.specs.Families.{descends}
use Rattle.aom_roles.specs.Shapes.{kind_of}
use Rattle.aom_semantics.specs.Requests.{cancel_method, cancel_of}
use Rattle.aom_safety.specs.Laws.{IsWired}
use Rattle.aom_image.specs.Views.{is_quiet, method_class}
use Rattle.aom_roles.specs.Tests.{only_if}
use Rattle.aom_link_conditions.specs.Roles.{role_of}

-- the kind of class of what a member is
pub member_kind : (p : Image) (x : Thing) (k : ℕ) → thing_holder x ≡ Member k → thing_kind p x ≡ kind_of p (Some k)
member_kind p x k e = grind arith

-- what a test that is asked for says
pub only_then : (a b : Bool) → only_if a b ≡ true → a ≡ true → b ≡ true
only_then x b e h = grind arith

-- a register that is no argument
pub apart_from : (first count r : ℕ) → not (is_among first count r) ≡ true → (r < first) ⊎ ((first + count) ≤ r)
apart_from first count r e = grind (arith, leb_tells first r, leb_tells (suc r) (first + count))

pub moved_fields : (xs : List Argument) (first : ℕ) (sh : AbstractState) → (arguments_moved xs first sh).fields ≡ sh.fields
moved_fields [] first sh = refl
moved_fields (Takes_word ∷ xs) first sh = moved_fields xs (suc first) sh
moved_fields (Takes_own t ∷ xs) first sh = moved_fields xs (suc first) (set_register sh first Null)

pub moved_entries : (xs : List Argument) (first : ℕ) (sh : AbstractState) → (arguments_moved xs first sh).entries ≡ sh.entries
moved_entries [] first sh = refl
moved_entries (Takes_word ∷ xs) first sh = moved_entries xs (suc first) sh
moved_entries (Takes_own t ∷ xs) first sh = moved_entries xs (suc first) (set_register sh first Null)

pub moved_register : (xs : List Argument) (first : ℕ) (sh : AbstractState) (r : ℕ) → (r < first) ⊎ ((first + length xs) ≤ r) →
    register (arguments_moved xs first sh) r ≡ register sh r
moved_register [] first sh r h = refl
moved_register (Takes_word ∷ xs) first sh r (inl lt) = moved_register xs (suc first) sh r (inl (omega arith))
moved_register (Takes_word ∷ xs) first sh r (inr le) = moved_register xs (suc first) sh r (inr (omega arith))
moved_register (Takes_own t ∷ xs) first sh r (inl lt) = grind (arith, nat_tests, moved_register xs, at-set_extending Unset sh.registers first r Null, ne_eqb first r)
moved_register (Takes_own t ∷ xs) first sh r (inr le) = grind (arith, nat_tests, moved_register xs, at-set_extending Unset sh.registers first r Null, ne_eqb first r)

pub below_more : (from : Place) (fr : Frame) (sh : AbstractState) (ls : List Layer) → IsBelow from ls → IsBelow from (Method fr sh ∷ ls)
below_more x fr sh ls b = grind (arith, length_objects)

-- whose fields a called method works on, by its class
pub holder_static : (r : Option Role) → (r ≡ Some Do) ⊎ (r ≡ Some Construct) → holder_by r None ≡ Nobody
holder_static r x = grind arith

pub holder_called : (r : Option Role) (c : ℕ) → (r ≡ Some Do) ⊎ (r ≡ Some Construct) → holder_by r (Some c) ≡ Member c
holder_called r c x = grind arith

pub holder_member : (r : Option Role) (c : ℕ) → (r ≡ Some Main → ⊥) → holder_by r (Some c) ≡ Member c
holder_member x c no_main = grind arith

pub receiver_member : (h : Receiver) (c : ℕ) → receiver_holder h ≡ Member c → (o : Object) × (from : Place) × (h ≡ Inside o from) × (thing_holder o.thing ≡ Member c)
receiver_member x c e = grind arith

pub own_for : (p : Image) (t : Thing) (k : Kind) → is_own_for p t k ≡ true → (x : Thing) × (a : InitState) × (k ≡ Own x a) × (is_subtype p x t ≡ true)
own_for p t x e = grind arith

pub held_own : (p : Image) (h : CellView) (o : Option Object) (x : Thing) (a : InitState) → Fits p h o (Own x a) →
    (y : Object) × (o ≡ Some y) × (is_subtype p y.thing x ≡ true)
held_own p h y x a f = grind arith

pub filled_ready : (x : Option Thing) (y : FieldState) → is_ready_kind (filled x y) ≡ true
filled_ready x y = grind arith

-- a field of a fresh object
pub fits_fresh : (p : Image) (h : CellView) (x : Option Thing) (n f : ℕ) → Fits p h None (filled x (at Perhaps (replicate n Empty) f))
fits_fresh p h (Some x) (suc n) (suc f) = fits_fresh p h (Some x) n f
fits_fresh p h _ _ _ = tt

-- what is no argument stays where it is
module _ (p : Image) (s : State) (fr : Frame) (ls : List Layer) (depth : ℕ) (deep : length (tasks_of ls) < depth) where
  pub passed_elsewhere : (t : Typing) (xs : List Argument) (first to : ℕ) (cs : List Cell) (q : Place) → ((i : ℕ) → to ≤ i →
      held cs (upper p t fr ls depth deep i) ≡ None) → ((i : ℕ) → first ≤ i → i < (first + length xs) → same_place (lower p t fr ls depth deep i) q ≡ false) →
      ((i : ℕ) → same_place (upper p t fr ls depth deep i) q ≡ false) → held (passed_cells p fr (tasks_of ls) s depth xs first to cs) q ≡ held cs q
  passed_elsewhere t [] first to cs q free lo up = refl
  passed_elsewhere t (Takes_word ∷ xs) first to cs q free lo up = grind (arith, nat_tests, passed_elsewhere t xs)
  passed_elsewhere t (Takes_own x ∷ xs) first to cs q free lo up = grind (arith, nat_tests, lower, upper, passed_elsewhere t xs, held_moved, ne_eqb)

-- the method that cancels is quiet
pub cancel_quiet : (p : Image) → IsWired p → (fr : Frame) (m : ℕ) → cancel_method p fr ≡ Some m → is_quiet p m ≡ true
cancel_quiet p wired fr m e = by_view fr.view e
  where
    by_view : (view : Option ℕ) → cancel_of p view ≡ Some m → is_quiet p m ≡ true
    by_view None e = cc
    by_view (Some c) e = (wired.cancels m (wired.canceller c m e).1).0

-- the method that cancels is that of what its object counts as, which descends from the method's class
pub cancel_family : (p : Image) (fr : Frame) (k : ℕ) → CountsAs p (receiver_holder fr.receiver) fr.view (holder_of p fr.method) → cancel_method p fr ≡ Some k →
    (v c : ℕ) × (method_class p fr.method ≡ Some c) × (descends p v c ≡ true) × (role_of p v Cancel ≡ Some k)
cancel_family p fr k counts e = grind (arith, nat_tests)
