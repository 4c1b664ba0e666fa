-- The tests on lists decide the order between states.
use Rattle.std.proofs.Common.{◌≡◌, ◌≢◌, ℕ, zero, suc, Bool, true, false, ◌&&◌, List, [], ◌∷◌, length, ◌↔◌, ◌⊎◌, inl, inr, IsTrue, refl, sym, ap, ◌∙◌, arith}
use Rattle.std.proofs.Math.Bool.{and-false}
use Rattle.std.proofs.lemmas.Bool.{false≢true, and_parts}
use Rattle.aom_image.specs.Views.{has}
use Rattle.aom_abstract_state.specs.Kinds.{register, field}
use Rattle.aom_abstract_state.specs.Order.{Weaker, WeakerFilling, IsImpliedBy}
use Rattle.aom_abstract_state.specs.Order.Weaker.{alike}
use Rattle.aom_abstract_state.specs.Order.WeakerFilling.{alike_filling}
use Rattle.aom_abstract_state.specs.AbstractState.{AbstractState}
use Rattle.aom_roles.specs.Tables.{at}
use Rattle.aom_abstract_state.specs.Tests.{implied, all_implied, implied_field_state, all_implied_field_states, same_message_state, same_entry, same_entries}
use Rattle.aom_abstract_state.specs.declared.kind.CleanupEntry.{CleanupEntry}
use Rattle.aom_abstract_state.specs.declared.kind.Kind.{Kind}
use Rattle.aom_abstract_state.specs.declared.kind.Kind.TheVariants.{Unset}
use Rattle.aom_abstract_state.specs.declared.kind.FieldState.{FieldState}
use Rattle.aom_abstract_state.specs.declared.kind.FieldState.TheVariants.{Perhaps}
use Rattle.aom_abstract_state.proofs.ImageLemmas.{has_along, has_itself}
use Rattle.aom_abstract_state.proofs.Deciding.{delivery_is, delivery_self, weaker_tests, weaker_tested, weaker_along, fillings_test, fillings_tested, fillings_along}

pub reflexive : (a : AbstractState) → IsImpliedBy a a
reflexive a = record { registers = λ i. alike; fields = λ i. alike_filling; entries = refl; states = has_itself a.states; message_state = refl }

pub transitive : (a b c : AbstractState) → IsImpliedBy a b → IsImpliedBy b c → IsImpliedBy a c
transitive a b c h k = record {
  registers = λ i. weaker_along (register a i) (register b i) (register c i) (h.registers i) (k.registers i);
  fields = λ i. fillings_along (field a i) (field b i) (field c i) (h.fields i) (k.fields i);
  entries = h.entries ∙ k.entries;
  states = has_along a.states b.states c.states h.states k.states;
  message_state = h.message_state ∙ k.message_state;
}

-- what a test on each two elements says of two lists, where both last
module _ {X : Type 0} (test : X → X → Bool) (all : List X → List X → Bool) (none : X) (R : X → X → Type 0)
    (steps : (x y : X) (xs ys : List X) → all (x ∷ xs) (y ∷ ys) ≡ (test x y && all xs ys)) where
  all_hold : ((x : X) → R x x) → ((x y : X) → test x y ≡ true → R x y) → (xs ys : List X) → length xs ≡ length ys → all xs ys ≡ true → (i : ℕ) →
      R (at none xs i) (at none ys i)
  all_hold itself each [] [] e h i = itself (at none [] i)
  all_hold itself each (x ∷ xs) (y ∷ ys) e h zero = each x y (and_parts (test x y) (all xs ys) (sym (steps x y xs ys) ∙ h)).0
  all_hold itself each (x ∷ xs) (y ∷ ys) e h (suc i) = all_hold itself each xs ys (omega arith) (and_parts (test x y) (all xs ys) (sym (steps x y xs ys) ∙ h)).1 i
  all_hold itself each _ _ e h i = absurd (omega arith)

  all_pass : ((xs ys : List X) → (length xs ≡ 0) ⊎ (length ys ≡ 0) → all xs ys ≡ true) →
      ((x y : X) → R x y → test x y ≡ true) → (xs ys : List X) → ((i : ℕ) → R (at none xs i) (at none ys i)) → all xs ys ≡ true
  all_pass ended each [] ys h = ended [] ys (inl refl)
  all_pass ended each (x ∷ xs) [] h = ended (x ∷ xs) [] (inr refl)
  all_pass ended each (x ∷ xs) (y ∷ ys) h = rw (steps x y xs ys, each x y (h 0), all_pass ended each xs ys (λ i. h (suc i)))

-- one of the lists has ended
pub kinds_ended : (xs ys : List Kind) → (length xs ≡ 0) ⊎ (length ys ≡ 0) → all_implied xs ys ≡ true
kinds_ended [] ys h = refl
kinds_ended (x ∷ xs) [] h = refl
kinds_ended (x ∷ xs) (y ∷ ys) h = absurd (omega arith)

pub fillings_ended : (xs ys : List FieldState) → (length xs ≡ 0) ⊎ (length ys ≡ 0) → all_implied_field_states xs ys ≡ true
fillings_ended [] ys h = refl
fillings_ended (x ∷ xs) [] h = refl
fillings_ended (x ∷ xs) (y ∷ ys) h = absurd (omega arith)

kinds_hold : (xs ys : List Kind) → length xs ≡ length ys → all_implied xs ys ≡ true → (i : ℕ) → Weaker (at Unset xs i) (at Unset ys i)
kinds_hold = all_hold implied all_implied Unset Weaker (λ x y xs ys. refl) (λ x. alike) weaker_tested

kinds_test : (xs ys : List Kind) → ((i : ℕ) → Weaker (at Unset xs i) (at Unset ys i)) → all_implied xs ys ≡ true
kinds_test = all_pass implied all_implied Unset Weaker (λ x y xs ys. refl) kinds_ended weaker_tests

fillings_hold : (xs ys : List FieldState) → length xs ≡ length ys → all_implied_field_states xs ys ≡ true → (i : ℕ) → WeakerFilling (at Perhaps xs i) (at Perhaps ys i)
fillings_hold = all_hold implied_field_state all_implied_field_states Perhaps WeakerFilling (λ x y xs ys. refl) (λ x. alike_filling) fillings_tested

fillings_all_test : (xs ys : List FieldState) → ((i : ℕ) → WeakerFilling (at Perhaps xs i) (at Perhaps ys i)) → all_implied_field_states xs ys ≡ true
fillings_all_test = all_pass implied_field_state all_implied_field_states Perhaps WeakerFilling (λ x y xs ys. refl) fillings_ended fillings_test

-- the test on request states and the message
abbrev requests_test : AbstractState → AbstractState → Bool
requests_test a b = has a.states b.states && same_message_state a.message_state b.message_state

-- where they and the entries are well, both lists pass exactly where the first state says no more
decided : (a b : AbstractState) → length a.registers ≡ length b.registers → length a.fields ≡ length b.fields →
    a.entries ≡ b.entries → requests_test a b ≡ true → IsTrue (all_implied a.registers b.registers && all_implied_field_states a.fields b.fields) ↔ IsImpliedBy a b
decided a b r f e q = (
  λ h. let requests = and_parts (has a.states b.states) (same_message_state a.message_state b.message_state) q in
      let pair = and_parts (all_implied a.registers b.registers) (all_implied_field_states a.fields b.fields) h in record {
        registers = kinds_hold a.registers b.registers r pair.0;
        fields = fillings_hold a.fields b.fields f pair.1;
        entries = e;
        states = requests.0;
        message_state = delivery_is a.message_state b.message_state requests.1;
      },
  λ h. rw (kinds_test a.registers b.registers h.registers, fillings_all_test a.fields b.fields h.fields),
)

-- the same for what the two tests answer one after the other
pub decided_by : (a b : AbstractState) (r : Bool) → length a.registers ≡ length b.registers → length a.fields ≡ length b.fields → a.entries ≡ b.entries →
    requests_test a b ≡ true → r ≡ (all_implied a.registers b.registers && all_implied_field_states a.fields b.fields) → IsTrue r ↔ IsImpliedBy a b
decided_by a b r k f e q h = rw h (decided a b k f e q)

-- neither says no more where their request states or messages do not allow it
pub requests_decide : (a b : AbstractState) (r : Bool) → r ≡ false → requests_test a b ≡ false → IsTrue r ↔ IsImpliedBy a b
requests_decide a b r f refused = (
  λ t. absurd (false≢true (sym f ∙ t)),
  λ h. absurd (false≢true (sym refused ∙ rw (h.states, ← h.message_state, delivery_self a.message_state) refl)),
)

-- neither of two states says no more where their entries differ
pub undecided : (a b : AbstractState) (r : Bool) → r ≡ false → a.entries ≢ b.entries → IsTrue r ↔ IsImpliedBy a b
undecided a b r f differ = (λ t. absurd (false≢true (sym f ∙ t)), λ h. absurd (differ h.entries))

-- a test that is refused is not passed
pub passes_not : {A : Type 0} (r : Bool) → IsTrue r ↔ A → r ≡ false → ¬ A
passes_not r h f a = false≢true (sym f ∙ h.1 a)

-- the test on entries passes exactly where they are the same
entry_is : (x y : CleanupEntry) → same_entry x y ≡ true → x ≡ y
entry_is x y h = grind arith

entry_self : (x : CleanupEntry) → same_entry x x ≡ true
entry_self x = grind arith

pub entries_are : (xs ys : List CleanupEntry) → same_entries xs ys ≡ true → xs ≡ ys
entries_are [] [] h = refl
entries_are (x ∷ xs) (y ∷ ys) h = let same = and_parts (same_entry x y) (same_entries xs ys) h in rw (entry_is x y same.0, entries_are xs ys same.1) refl
entries_are _ _ h = cc

pub entries_self : (xs : List CleanupEntry) → same_entries xs xs ≡ true
entries_self [] = refl
entries_self (x ∷ xs) = rw (entry_self x, entries_self xs)

pub entries_differ : (xs ys : List CleanupEntry) → length xs ≢ length ys → same_entries xs ys ≡ false
entries_differ [] [] h = absurd (h refl)
entries_differ [] (y ∷ ys) h = refl
entries_differ (x ∷ xs) [] h = refl
entries_differ (x ∷ xs) (y ∷ ys) h = rw (entries_differ xs ys (λ e. h (ap suc e))) (and-false (same_entry x y))

-- both have ended
pub entries_ended : (xs ys : List CleanupEntry) → length xs ≡ length ys → (length xs ≡ 0) ⊎ (length ys ≡ 0) → same_entries xs ys ≡ true
entries_ended [] [] e h = refl
entries_ended _ _ e h = absurd (omega arith)

pub entries_tested : (xs ys : List CleanupEntry) (r : Bool) → r ≡ same_entries xs ys → IsTrue r ↔ (xs ≡ ys)
entries_tested xs ys r h = (λ e. entries_are xs ys (rw (← h) e), λ e. rw (h, ← e) (entries_self xs))
