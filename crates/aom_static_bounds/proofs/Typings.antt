-- The states of the methods, put together, are a typing of the image, and a typing has the states of each method.
use Rattle.std.proofs.lemmas.Bool.Decides.{nat_tests}
use Rattle.std.proofs.Common.{◌≡◌, ℕ, zero, suc, ◌<◌, ◌+◌, List, [], ◌∷◌, ◌++◌, length, length-append, Some, None, IsSome, inl, inr, refl, arith}
use Rattle.std.proofs.lemmas.Bool.Decides.{eqb_tells, leb_tells}
use Rattle.aom_image.specs.Image.{Image}
use Rattle.aom_image.specs.Views.{method_at}
use Rattle.aom_static_bounds.proofs.LinkConditionsLemmas.{within}
use Rattle.aom_abstract_state.specs.Needs.{Flow}
use Rattle.aom_abstract_state.specs.AbstractState.{AbstractState}
use Rattle.aom_roles.specs.Tables.{at}
use Rattle.aom_typing_rules.specs.Typing.{Typing, IsTyped, Passes, AllLead, shape_at}
use Rattle.aom_static_bounds.proofs.AbstractStateLemmas.{at_past, there}
use Rattle.aom_static_bounds.specs.Shapes.{Shapes, AllMet, IsBelow, Applies, IsMethodTyped, HasTyping}
use Rattle.aom_static_bounds.specs.Strongest.{IsMethodStrongest, IsStrongest}

leads_all : (t : Typing) (m : ℕ) (ways : List Flow) → AllMet (at [] t m) ways → AllLead t m ways
leads_all t m [] h = tt
leads_all t m (way ∷ ways) h = ((h.0.next, h.0.there, h.0.implied), leads_all t m ways h.1)

meets_all : (t : Typing) (m : ℕ) (ways : List Flow) → AllLead t m ways → AllMet (at [] t m) ways
meets_all t m [] h = tt
meets_all t m (way ∷ ways) h = (record { next = h.0.0; there = h.0.1; implied = h.0.2 }, meets_all t m ways h.1)

pub method_within : (p : Image) (m : ℕ) → IsSome (method_at p m) → m < length p.methods
unfolding method_at
method_within p m h = within p.methods p.methods m m refl refl h

pub within_method : (p : Image) (m : ℕ) → m < length p.methods → IsSome (method_at p m)
unfolding method_at
within_method p m h = there p.methods m h

passes : (p : Image) (t : Typing) (m pc : ℕ) (sh : AbstractState) → Applies p m (at [] t m) pc sh → Passes p t m pc sh
passes p t m pc sh h = record { instr = h.instr; stands = h.stands; needs = h.needs; flows = leads_all t m _ h.flows }

applies : (p : Image) (t : Typing) (m pc : ℕ) (sh : AbstractState) → Passes p t m pc sh → Applies p m (at [] t m) pc sh
applies p t m pc sh h = record { instr = h.instr; stands = h.stands; needs = h.needs; flows = meets_all t m _ h.flows }

states_typed : (p : Image) (t : Typing) (m : ℕ) → IsTyped p t → IsSome (method_at p m) → IsMethodTyped p m (at [] t m)
states_typed p t m h some = search (arith, nat_tests, applies p t m, h.each m, h.entry m some, there)

-- and says no more than the strongest one
pub says_most : (p : Image) (strongest t : Typing) → IsStrongest p strongest → IsTyped p t → (m : ℕ) → IsSome (method_at p m) →
    IsBelow (at [] t m) (at [] strongest m)
says_most p strongest t h typed m some = (h.each m some).least (at [] t m) (states_typed p t m typed some)

pub method_typed : (p : Image) (t : Typing) (m : ℕ) → IsTyped p t → IsSome (method_at p m) → HasTyping p m
method_typed p t m h some = record { states = at [] t m; typed = states_typed p t m h some }

pub has_typing : (p : Image) (m : ℕ) (s : Shapes) → IsMethodStrongest p m s → HasTyping p m
has_typing p m s h = record { states = s; typed = h.typed }

-- the first methods have their strongest states
pub record AreFirst (p : Image) (t : Typing) (n : ℕ) : Type 0 where
  pub size : length t ≡ n
  pub each : (m : ℕ) → m < n → IsMethodStrongest p m (at [] t m)

pub none_first : (p : Image) → AreFirst p [] 0
none_first p = record { size = refl; each = λ m below. absurd (omega arith) }

at_last : (t : Typing) (s : Shapes) → at [] (t ++ s ∷ []) (length t) ≡ s
at_last [] s = refl
at_last (x ∷ xs) s = at_last xs s

at_before : (t : Typing) (s : Shapes) (m : ℕ) → m < length t → at [] (t ++ s ∷ []) m ≡ at [] t m
at_before [] s m h = absurd (omega arith)
at_before (x ∷ xs) s zero h = refl
at_before (x ∷ xs) s (suc m) h = at_before xs s m (omega arith)

-- and one more has
pub first_more : (p : Image) (t : Typing) (n : ℕ) (s : Shapes) → AreFirst p t n → IsMethodStrongest p n s → AreFirst p (t ++ s ∷ []) (n + 1)
first_more p t n s h k = record {
  size = omega (arith, length-append t (s ∷ []), h.size);
  each = λ m below. elim (eqb_tells m n) [
    | inl w ↦ rw (w.1, ← h.size, at_last t s, h.size) k
    | inr w ↦ rw (at_before t s m (omega (arith, w.1, h.size))) (h.each m (omega (arith, w.1)))
  ];
}

-- those of all methods are the strongest typing
pub image_strongest : (p : Image) (t : Typing) → AreFirst p t (length p.methods) → IsStrongest p t
image_strongest p t h = record {
  typed = record {
    each = grind (arith, nat_tests, leb_tells, at_past, passes p t);
    entry = λ m some. let k = (h.each m (method_within p m some)).typed.entry in (k.next, k.there, k.implied);
  };
  each = λ m some. h.each m (method_within p m some);
}
  where
    no_state : (m pc : ℕ) (sh : AbstractState) → at [] t m ≡ [] → shape_at t m pc ≡ Some sh → ⊥
    no_state m pc sh none e = let f : None ≡ Some sh = rw none at e in cc

-- a method with its strongest states is one of those that have states
pub has_states : (p : Image) (t : Typing) (m : ℕ) → IsMethodStrongest p m (at [] t m) → m < length t
has_states p t m h = grind (arith, nat_tests, leb_tells, at_past)
