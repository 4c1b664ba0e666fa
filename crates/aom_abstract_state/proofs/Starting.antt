-- The registers as a method begins: its arguments, and unset ones after them.
use Rattle.std.proofs.Common.{◌≡◌, ℕ, zero, suc, ◌+◌, ◌<◌, ◌≤◌, List, [], ◌∷◌, length, map, replicate}
use Rattle.std.proofs.Common.{slice_index_or, slice_set, Some, inl, inr, refl, sym, subst, ◌∙◌, arith}
use Rattle.std.proofs.lemmas.List.{length-set}
use Rattle.std.proofs.lemmas.Bool.Decides.{eqb_tells, leb_tells}
use Rattle.aom_image.specs.Image.{Image}
use Rattle.aom_image.specs.WellFormed.{WellFormed, MethodFits}
use Rattle.aom_abstract_state.proofs.LinkConditionsLemmas.{all_there}
use Rattle.aom_image.specs.Views.{method_at, method_role, arguments_of}
use Rattle.aom_image.specs.declared.method.Argument.{Argument}
use Rattle.aom_image.specs.declared.method.Method.{Method}
use Rattle.aom_abstract_state.specs.Kinds.{register}
use Rattle.aom_abstract_state.specs.Order.{WeakerFilling, IsImpliedBy}
use Rattle.aom_abstract_state.specs.Order.Weaker.{alike}
use Rattle.aom_abstract_state.specs.Order.WeakerFilling.{alike_filling}
use Rattle.aom_abstract_state.specs.Changes.{known_with}
use Rattle.aom_abstract_state.specs.AbstractState.{Known, AbstractState}
use Rattle.aom_roles.specs.Tables.{at}
use Rattle.aom_abstract_state.specs.Arguments.{argument_kind, before_of, entry_fields, entry_shape}
use Rattle.aom_abstract_state.specs.declared.kind.MessageState.TheVariants.{Here}
use Rattle.aom_abstract_state.specs.declared.kind.FieldState.{FieldState}
use Rattle.aom_abstract_state.specs.declared.kind.FieldState.TheVariants.{Perhaps}
use Rattle.aom_abstract_state.specs.declared.kind.Kind.{Kind}
use Rattle.aom_abstract_state.specs.declared.kind.Kind.TheVariants.{Unset}
use Rattle.aom_abstract_state.proofs.ImageLemmas.{has_itself}
use Rattle.aom_abstract_state.proofs.Views.{arguments_there, before_there, role_there}
use Rattle.aom_abstract_state.proofs.Lists.{at_set_here, at_set_other}

-- the first arguments stand in their registers
pub record Placed (arguments : List Argument) (kinds : List Kind) (n : ℕ) : Type 0 where
  pub size : length kinds ≡ 16
  pub below : (k : ℕ) → k < n → at Unset kinds k ≡ at Unset (map argument_kind arguments) k
  pub above : (k : ℕ) → n ≤ k → at Unset kinds k ≡ Unset

at_map : (xs : List Argument) (i : ℕ) (x : Argument) → i < length xs → at Unset (map argument_kind xs) i ≡ argument_kind (slice_index_or xs i x)
at_map [] i x h = absurd (omega arith)
at_map (y ∷ ys) zero x h = refl
at_map (y ∷ ys) (suc i) x h = at_map ys i x (omega arith)

map_past : (xs : List Argument) (i : ℕ) → length xs ≤ i → at Unset (map argument_kind xs) i ≡ Unset
map_past [] i h = refl
map_past (y ∷ ys) zero h = absurd (omega arith)
map_past (y ∷ ys) (suc i) h = map_past ys i (omega arith)

unset_everywhere : (n k : ℕ) → at Unset (replicate n Unset) k ≡ Unset
unset_everywhere zero k = refl
unset_everywhere (suc n) zero = refl
unset_everywhere (suc n) (suc k) = unset_everywhere n k

pub none_placed : (arguments : List Argument) → Placed arguments (replicate 16 Unset) 0
none_placed arguments = record { size = refl; below = λ k h. absurd (omega arith); above = λ k h. unset_everywhere 16 k }

pub one_placed : (arguments : List Argument) (kinds : List Kind) (i : ℕ) (x : Argument) → Placed arguments kinds i →
    i < length arguments → length arguments ≤ 16 → x ≡ slice_index_or arguments i x → Placed arguments (slice_set kinds i (argument_kind x)) (i + 1)
one_placed arguments kinds i x h within fits e =
    let kind = argument_kind x in
    record {
      size = length-set kinds i kind ∙ h.size;
      below = λ k below. elim (eqb_tells k i) [
        | inl w ↦ rw (w.1, at_set_here Unset kinds i kind (omega (arith, h.size)), at_map arguments i x within, ← e)
        | inr w ↦ rw (at_set_other Unset kinds i k kind w.1) (h.below k (omega (arith, w.1)))
      ];
      above = λ k above. rw (at_set_other Unset kinds i k kind (λ e. omega (arith, e))) (h.above k (omega arith));
    }

pub all_placed : (arguments : List Argument) (kinds : List Kind) (n : ℕ) → Placed arguments kinds n → length arguments ≤ n →
    (k : ℕ) → at Unset kinds k ≡ at Unset (map argument_kind arguments) k
all_placed arguments kinds n h ended k = elim (leb_tells n k) [
  | inl w ↦ rw (h.above k w.1, map_past arguments k (omega (arith, w.1)))
  | inr w ↦ h.below k w.1
]

-- two states that have the same everywhere say the same
pub says_the_same : (a b : AbstractState) → ((i : ℕ) → register a i ≡ register b i) → a.fields ≡ b.fields → a.entries ≡ b.entries → a.states ≡ b.states →
    a.message_state ≡ b.message_state → IsImpliedBy a b
says_the_same a b registers fields entries states message_state = record {
  registers = λ i. rw (registers i) alike;
  fields = λ i. let P : List FieldState → Type 0 = λ fs. WeakerFilling (at Perhaps a.fields i) (at Perhaps fs i) in subst P fields alike_filling;
  entries = entries;
  states = rw states (has_itself b.states);
  message_state = message_state;
}

-- what a method begins with
pub begun : (p : Image) (m : ℕ) (d : Method) (known : Known) →
    method_at p m ≡ Some d → ((k : ℕ) → at Unset known.registers k ≡ at Unset (map argument_kind d.arguments) k) → known.fields ≡ entry_fields (Some d.role) →
    known.states ≡ d.before.0 → known.message_state ≡ Here → IsImpliedBy (known_with known []) (entry_shape p m) × IsImpliedBy (entry_shape p m) (known_with known [])
begun p m d known e registers fields states here =
    let same : (k : ℕ) → at Unset known.registers k ≡ at Unset (map argument_kind (arguments_of p m)) k = λ k. rw (arguments_there p m d e) (registers k) in
    let fields_same : known.fields ≡ entry_fields (method_role p m) = rw (role_there p m d e) fields in
    let states_same : known.states ≡ before_of p m = rw (before_there p m d e) states in (
      says_the_same (known_with known []) (entry_shape p m) same fields_same refl states_same here,
      says_the_same (entry_shape p m) (known_with known []) (λ k. sym (same k)) (sym fields_same) refl (sym states_same) (sym here),
    )

-- a method takes six arguments at most
pub few_arguments : (p : Image) (m : ℕ) (d : Method) → WellFormed p → method_at p m ≡ Some d → length d.arguments ≤ 6
unfolding method_at
few_arguments p m d formed e = (all_there (MethodFits p.header.version (length p.classes) (length p.methods)) p.methods m d formed.methods.each e).argument_count
