-- What an entry, the root or a session owns is an object and no message: by the claims of the layers one after another.
use Rattle.std.proofs.lemmas.Bool.Decides.{nat_tests}
use Rattle.std.proofs.Common.{arith, Bool, List, Option, Some, [], cond, true, ℕ, ◌∷◌, ◌≡◌}
use Rattle.aom_image.specs.Image.{Image}
use Rattle.aom_image.specs.declared.method.Thing.{Thing}
use Rattle.aom_image.specs.declared.method.Thing.TheVariants.{Object as An_object_of}
use Rattle.aom_typing_rules.specs.Typing.{Typing}
use Rattle.aom_abstract_state.specs.Kinds.{filled}
use Rattle.aom_roles.specs.Things.{Program, field_thing, is_subtype, is_object}
use Rattle.aom_abstract_state.specs.AbstractState.{AbstractState}
use Rattle.aom_abstract_state.specs.declared.kind.CleanupEntry.{CleanupEntry}
use Rattle.aom_abstract_state.specs.declared.kind.FieldState.{FieldState}
use Rattle.aom_abstract_state.specs.declared.kind.FieldState.TheVariants.{Full, Perhaps}
use Rattle.aom_abstract_state.specs.declared.kind.Kind.{Kind}
use Rattle.aom_abstract_state.specs.declared.kind.Kind.TheVariants.{Maybe, Own}
use Rattle.aom_safety.specs.Claims.{Dispatching, Form, Layer, Method, Unwinding}
use Rattle.aom_safety.specs.Claims.{by_session, claim, declared, entry_claim, items_of, root_claim}
use Rattle.aom_semantics.specs.Objects.{is_no_message}
use Rattle.aom_semantics.specs.Places.{Cell, Elsewhere, Entry, Object, Place, Root, Session, CellView, held, seen}
use Rattle.aom_semantics.specs.Servers.{session_thing}
use Rattle.aom_semantics.specs.State.{Receiver, State}
use Rattle.aom_safety.specs.WellTyped.{Fits, WellTyped}

-- what stands for a thing of a class is an object
pub object_for : (p : Image) (x : Thing) (c : ℕ) → is_subtype p x (An_object_of c) ≡ true → is_object x ≡ true
object_for p x c e = grind arith

module _ (p : Image) (h : CellView) (o : Object) where
  -- it is an object, by a kind that fits it
  abbrev IsOne : Kind → Type 0
  IsOne k = Fits p h (Some o) k → is_object o.thing ≡ true

  either : (b : Bool) (k l : Kind) → IsOne k → IsOne l → IsOne (cond b k l)
  either x k l one other = grind arith

  among_entries : (es : List CleanupEntry) (items : List Form) (k : ℕ) (below : Kind) → IsOne below → IsOne (entry_claim es items k below)
  among_entries [] items k below one = one
  among_entries (x ∷ es) items k below one = grind (arith, nat_tests, either, among_entries es items k below one)

  claimed_entry : (cs : List Cell) (ls : List Layer) (k : ℕ) → IsOne (claim p (declared p cs) ls (Entry k))
  claimed_entry cs [] k = λ fits. absurd fits
  claimed_entry cs (Method fr sh ∷ ls) k = among_entries sh.entries (items_of ls) k _ (claimed_entry cs ls k)
  claimed_entry cs (Unwinding code es ∷ ls) k = among_entries es (items_of ls) k _ (claimed_entry cs ls k)
  claimed_entry cs (_ ∷ ls) k = claimed_entry cs ls k

  by_filling : (x : FieldState) → IsOne (filled (field_thing p Program 0) x)
  by_filling x = grind (arith, nat_tests, object_for p o.thing)

  at_receiver : (receiver : Receiver) (sh : AbstractState) (below : Kind) → IsOne below → IsOne (root_claim p receiver sh below)
  at_receiver x sh below one = grind (arith, nat_tests, by_filling)

  claimed_root : (cs : List Cell) (ls : List Layer) → IsOne (claim p (declared p cs) ls (Elsewhere Root))
  claimed_root cs [] = by_filling Perhaps
  claimed_root cs (Method fr sh ∷ ls) = at_receiver fr.receiver sh _ (claimed_root cs ls)
  claimed_root cs (Dispatching d owned_chain ∷ ls) = grind (arith, nat_tests, either, claimed_root cs ls)
  claimed_root cs (_ ∷ ls) = claimed_root cs ls

module _ (p : Image) (t : Typing) (s : State) (typed : WellTyped p t s) (o : Object) where
  pub entry_object : (k : ℕ) → held s.cells (Entry k) ≡ Some o → is_object o.thing ≡ true
  entry_object k e = claimed_entry p (seen s.cells) o s.cells typed.layers k (rw e at (typed.good.fits (Entry k)))

  pub root_object : held s.cells (Elsewhere Root) ≡ Some o → is_object o.thing ≡ true
  root_object e = claimed_root p (seen s.cells) o s.cells typed.layers (rw e at (typed.good.fits (Elsewhere Root)))

-- so it is where there is one
pub root_cell : (p : Image) (t : Typing) (s : State) → WellTyped p t s → is_no_message (held s.cells (Elsewhere Root)) ≡ true
root_cell p t s typed = grind (arith, nat_tests, root_object p t s typed)

-- ---- a session is an object

abbrev NoMessage : Kind → Type 0
NoMessage (Own t a) = is_object t ≡ true
NoMessage (Maybe t a) = is_object t ≡ true
NoMessage _ = Unit {0}

plain_cond : (b : Bool) (j k : Kind) → NoMessage j → NoMessage k → NoMessage (cond b j k)
plain_cond x j k a b = grind arith

plain_session : (p : Image) (o : Option Object) → NoMessage (filled (session_thing p o) Full)
plain_session p x = grind (arith, nat_tests)

module _ (p : Image) (n c : ℕ) where
  plain_layer : (l : Layer) (k : Kind) → NoMessage k → NoMessage (by_session p l n c k)
  plain_layer x k plain = grind (arith, nat_tests, plain_cond, plain_session p)

  plain_claim : (d : Place → Kind) (ls : List Layer) → NoMessage (d (Elsewhere (Session n c))) → NoMessage (claim p d ls (Elsewhere (Session n c)))
  plain_claim d [] plain = plain
  plain_claim d (l ∷ ls) plain = plain_layer l (claim p d ls (Elsewhere (Session n c))) (plain_claim d ls plain)

  pub session_object : (t : Typing) (s : State) → WellTyped p t s → (o : Object) → held s.cells (Elsewhere (Session n c)) ≡ Some o → is_object o.thing ≡ true
  session_object t s w o e = grind (arith, nat_tests, plain_claim, plain_cond, plain_session p)
