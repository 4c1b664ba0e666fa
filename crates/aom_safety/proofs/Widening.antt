-- What stands for a thing may be taken for that thing.
use Rattle.std.proofs.lemmas.Bool.Decides.{nat_tests}
use Rattle.std.proofs.Common.{arith, List, None, Option, Some, [], ap, cond, refl, subst, suc, sym, true, zero, ℕ, ◌∙◌, ◌∷◌, ◌≡◌}
use Rattle.std.proofs.lemmas.Bool.{eq-eqb, eqb-true}
use Rattle.aom_image.specs.Image.{Image}
use Rattle.aom_image.specs.declared.method.Thing.{Thing}
use Rattle.aom_abstract_state.specs.Kinds.{is_object_or_null, is_own_for, is_ready_kind, may_be, register, set_register}
use Rattle.aom_abstract_state.specs.AbstractState.{AbstractState}
use Rattle.aom_roles.specs.Tables.{set_extending}
use Rattle.aom_typing_rules.specs.Typing.{Typing}
use Rattle.aom_abstract_state.specs.declared.kind.InitState.TheVariants.{Ready}
use Rattle.aom_abstract_state.specs.declared.kind.Kind.{Kind}
use Rattle.aom_abstract_state.specs.declared.kind.Kind.TheVariants.{Maybe, Null, Own, Unset}
use Rattle.aom_safety.proofs.Claimed.{claim-set_register}
use Rattle.aom_safety.proofs.SemanticsLemmas.{at-set_extending}
use Rattle.aom_safety.proofs.Straight.{Fitted, register_fits, relabel, top, word_of_object}
use Rattle.aom_safety.specs.Claims.{Layer, declared}
use Rattle.aom_semantics.specs.Places.{Cell, Object, CellView, held, seen}
use Rattle.aom_semantics.specs.State.{Frame, word}
use Rattle.aom_safety.specs.WellTyped.{Fits, WordFits}
use Rattle.aom_safety.proofs.RolesLemmas.{stands_along}

-- a place that is written twice
pub put_twice : {A : Type 0} (d : A) (xs : List A) (i : ℕ) (v w : A) → set_extending d (set_extending d xs i v) i w ≡ set_extending d xs i w
put_twice d [] zero v w = refl
put_twice d [] (suc i) v w = ap (λ ys. d ∷ ys) (put_twice d [] i v w)
put_twice d (x ∷ xs) zero v w = refl
put_twice d (x ∷ xs) (suc i) v w = ap (λ ys. x ∷ ys) (put_twice d xs i v w)

-- what holds of the first kind holds of the second, and neither is of words
pub record Widens (p : Image) (k v : Kind) : Type 0 where
  pub object : is_object_or_null k ≡ true
  pub fits : (h : CellView) (o : Option Object) → Fits p h o k → Fits p h o v
  pub word : WordFits None v

module _ (p : Image) where
  pub own_widens : (x : Thing) (k : Kind) → is_own_for p x k ≡ true → is_ready_kind k ≡ true → Widens p k (Own x Ready)
  own_widens x (Own y Ready) e r = record { object = refl; fits = grind (arith, nat_tests, stands_along); word = refl }
  own_widens x y e r = grind arith

  pub own_widens_more : (x : Thing) (k : Kind) → is_own_for p x k ≡ true → is_ready_kind k ≡ true → Widens p k (Maybe x Ready)
  own_widens_more x (Own y Ready) e r = record { object = refl; fits = grind (arith, nat_tests, stands_along); word = refl }
  own_widens_more x y e r = grind arith

  pub hold_widens : (x : Thing) (k : Kind) → may_be p x k ≡ true → is_ready_kind k ≡ true → Widens p k (Maybe x Ready)
  hold_widens x Null e r = record { object = refl; fits = go; word = refl }
    where
      go : (h : CellView) (o : Option Object) → Fits p h o Null → Fits p h o (Maybe x Ready)
      go h y f = grind arith
  hold_widens x (Own y Ready) e r = own_widens_more x (Own y Ready) e r
  hold_widens x (Maybe y Ready) e r = record { object = refl; fits = go; word = refl }
    where
      go : (h : CellView) (o : Option Object) → Fits p h o (Maybe y Ready) → Fits p h o (Maybe x Ready)
      go h None f = tt
      go h (Some o) f = (stands_along p o.thing y x f.0 e, tt)
  hold_widens x _ e r = cc

  -- what the register of a frame is claimed to be widens
  pub retaken : (t : Typing) (cs : List Cell) (fr : Frame) (sh : AbstractState) (ls : List Layer) (c : ℕ) (k v : Kind) →
      Widens p k v → Fitted p t cs fr (set_register sh c k) ls → Fitted p t cs fr (set_register sh c v) ls
  retaken t cs fr sh ls c k v wide g =
      rw (put_twice Unset sh.registers c k v) at (relabel p t cs fr fr narrow (set_register narrow c v) ls (top ls c) v g refl refl refl refl
      (wide.fits (seen cs) (held cs (top ls c)) (rw here at (register_fits p cs fr narrow ls g.fits c)))
      (λ r. claim-set_register p (declared p cs) fr narrow ls c v r) words)
    where
      narrow : AbstractState
      narrow = set_register sh c k

      here : register narrow c ≡ k
      here = at-set_extending Unset sh.registers c c k ∙ ap (λ same. cond same k (register sh c)) (eq-eqb c c refl)

      no_word : word fr c ≡ None
      no_word = word_of_object (word fr c) k wide.object (subst (λ x. WordFits (word fr c) x) here (g.frames.words c))

      words : (i : ℕ) → WordFits (word fr i) (register (set_register narrow c v) i)
      words i = subst (λ x. WordFits (word fr i) x) (sym (at-set_extending Unset narrow.registers c i v)) (grind (arith, nat_tests, word, eqb-true, no_word))
