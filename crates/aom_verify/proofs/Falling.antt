-- A state that says strictly less has a lower rank, and changes of lists of states add up.
use Rattle.std.proofs.Common.{◌≡◌, ◌≢◌, ℕ, zero, suc, ◌<◌, ◌≤◌, List, [], ◌∷◌, IsTrue, refl, sym, ◌∙◌, arith}
use Rattle.std.specs.List.{sum_by}
use Rattle.std.proofs.lemmas.List.Sums.{sum_by-cons}
use Rattle.aom_abstract_state.specs.Order.{Weaker, WeakerFilling, IsImpliedBy}
use Rattle.aom_abstract_state.specs.Order.Weaker.{alike, unset_word, unset_null, maybe_null, maybe_own}
use Rattle.aom_abstract_state.specs.Order.WeakerFilling.{alike_filling, perhaps_empty, perhaps_full}
use Rattle.aom_abstract_state.specs.AbstractState.{AbstractState}
use Rattle.aom_roles.specs.Tables.{at}
use Rattle.aom_image.specs.Views.{has}
use Rattle.aom_verify.proofs.AbstractStateLemmas.{has_itself, larger}
use Rattle.aom_abstract_state.specs.declared.kind.FieldState.{FieldState}
use Rattle.aom_abstract_state.specs.declared.kind.FieldState.TheVariants.{Perhaps}
use Rattle.aom_abstract_state.specs.declared.kind.Kind.{Kind}
use Rattle.aom_abstract_state.specs.declared.kind.Kind.TheVariants.{Unset}
use Rattle.aom_static_bounds.specs.Shapes.{Shapes}
use Rattle.aom_verify.specs.Change.{kind_rank, filling_rank, states_rank, shape_rank, IsChange, then}
use Rattle.aom_verify.specs.declared.change.StatesChange.{StatesChange}
use Rattle.aom_verify.specs.declared.change.StatesChange.TheVariants.{Nothing, Fell, Reached}

-- a weaker kind can fall no more often
kind_falls : (a b : Kind) → Weaker a b → kind_rank a ≤ kind_rank b
kind_falls a b (alike {k = k}) = omega arith
kind_falls a b unset_word = omega arith
kind_falls a b unset_null = omega arith
kind_falls a b (maybe_null {t = t} {a = age}) = omega arith
kind_falls a b (maybe_own {t = t} {a = age}) = omega arith

-- and if it can fall as often it is the same
kind_stays : (a b : Kind) → Weaker a b → kind_rank a ≡ kind_rank b → Weaker b a
kind_stays a b (alike {k = k}) e = alike
kind_stays a b _ e = absurd (omega arith)

filling_falls : (a b : FieldState) → WeakerFilling a b → filling_rank a ≤ filling_rank b
filling_falls a b (alike_filling {x = x}) = omega arith
filling_falls a b perhaps_empty = omega arith
filling_falls a b perhaps_full = omega arith

filling_stays : (a b : FieldState) → WeakerFilling a b → filling_rank a ≡ filling_rank b → WeakerFilling b a
filling_stays a b (alike_filling {x = x}) e = alike_filling
filling_stays a b _ e = absurd (omega arith)

-- what can fall no more often in each place can so in all, and if it can as often in all it can in each
module _ {K : Type 0} (none : K) (rank : K → ℕ) (Less : K → K → Type 0) (self : Less none none)
    (low : rank none ≡ 0) (falls : (a b : K) → Less a b → rank a ≤ rank b) (stays : (a b : K) → Less a b → rank a ≡ rank b → Less b a) where
  all_fall : (xs ys : List K) → ((i : ℕ) → Less (at none xs i) (at none ys i)) → sum_by rank xs ≤ sum_by rank ys
  all_fall [] ys h = omega arith
  all_fall (x ∷ xs) [] h = omega (arith, sum_by-cons rank x xs, falls x none (h 0), all_fall xs [] (λ i. h (suc i)))
  all_fall (x ∷ xs) (y ∷ ys) h = omega (arith, sum_by-cons rank x xs, sum_by-cons rank y ys, falls x y (h 0), all_fall xs ys (λ i. h (suc i)))

  all_stay : (xs ys : List K) → ((i : ℕ) → Less (at none xs i) (at none ys i)) → sum_by rank xs ≡ sum_by rank ys → (i : ℕ) → Less (at none ys i) (at none xs i)
  all_stay [] [] h e i = self
  all_stay [] (y ∷ ys) h e zero = stays none y (h 0) (omega (arith, sum_by-cons rank y ys, falls none y (h 0), all_fall [] ys (λ i. h (suc i))))
  all_stay [] (y ∷ ys) h e (suc i) = all_stay [] ys (λ i. h (suc i)) (omega (arith, sum_by-cons rank y ys, falls none y (h 0), all_fall [] ys (λ i. h (suc i)))) i
  all_stay (x ∷ xs) [] h e zero = stays x none (h 0) (omega (arith, sum_by-cons rank x xs, falls x none (h 0), all_fall xs [] (λ i. h (suc i))))
  all_stay (x ∷ xs) [] h e (suc i) = all_stay xs [] (λ i. h (suc i)) (omega (arith, sum_by-cons rank x xs, falls x none (h 0), all_fall xs [] (λ i. h (suc i)))) i
  all_stay (x ∷ xs) (y ∷ ys) h e zero =
      stays x y (h 0) (omega (arith, sum_by-cons rank x xs, sum_by-cons rank y ys, falls x y (h 0), all_fall xs ys (λ i. h (suc i))))
  all_stay (x ∷ xs) (y ∷ ys) h e (suc i) =
      all_stay xs ys (λ i. h (suc i)) (omega (arith, sum_by-cons rank x xs, sum_by-cons rank y ys, falls x y (h 0), all_fall xs ys (λ i. h (suc i)))) i

-- a set that has another is that one, or falls less often
states_fall : (a b : ℕ) → IsTrue (has a b) → states_rank a ≤ states_rank b
states_fall a b h = omega (arith, larger a b h)

states_stay : (a b : ℕ) → a < 256 → IsTrue (has a b) → states_rank a ≡ states_rank b → IsTrue (has b a)
states_stay a b byte h e =
    let same : a ≡ b = omega (arith, larger a b h) in
    rw (← same) (has_itself a)

-- a state that says strictly less
pub shape_falls : (a b : AbstractState) → a.states < 256 → IsImpliedBy a b → ¬ IsImpliedBy b a → shape_rank a < shape_rank b
shape_falls a b byte h refused =
    let registers = all_fall Unset kind_rank Weaker alike refl kind_falls kind_stays a.registers b.registers h.registers in
    let fields = all_fall Perhaps filling_rank WeakerFilling alike_filling refl filling_falls filling_stays a.fields b.fields h.fields in
    let states = states_fall a.states b.states h.states in
    let differ : shape_rank a ≢ shape_rank b = λ e. refused (record {
      registers = all_stay Unset kind_rank Weaker alike refl kind_falls kind_stays a.registers b.registers h.registers (omega arith);
      fields = all_stay Perhaps filling_rank WeakerFilling alike_filling refl filling_falls filling_stays a.fields b.fields h.fields (omega arith);
      entries = sym h.entries;
      states = states_stay a.states b.states byte h.states (omega arith);
      message_state = sym h.message_state;
    }) in
    omega (arith, registers, fields, states, differ)

-- two changes add up
pub changes_add : (a b c : Shapes) (x y : StatesChange) → IsChange a b x → IsChange b c y → IsChange a c (then x y)
changes_add a b c Nothing y e h = rw (← e) h
changes_add a b c Fell Nothing h e = rw e h
changes_add a b c Fell Fell h k = (k.0 ∙ h.0, omega (arith, h.1, k.1))
changes_add a b c Fell Reached h k = omega (arith, h.0, k)
changes_add a b c Reached Nothing h e = rw e h
changes_add a b c Reached Fell h k = omega (arith, h, k.0)
changes_add a b c Reached Reached h k = omega (arith, h, k)
