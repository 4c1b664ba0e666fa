-- The meet of two states, kind by kind and filling by filling.
use Rattle.std.proofs.Common.{◌≡◌, ◌≢◌, ℕ, ◌+◌, ◌<◌, true, false, List, length, slice_index_or, slice_set, Some, None, inl, inr, refl, sym, ◌∙◌, arith}
use Rattle.std.proofs.lemmas.List.{length-set}
use Rattle.std.proofs.lemmas.Bool.{false≢true}
use Rattle.std.proofs.lemmas.Bool.Decides.{eqb_tells, leb_tells}
use Rattle.std.specs.Prelude.{bit_or}
use Rattle.aom_abstract_state.specs.Kinds.{register, field}
use Rattle.aom_abstract_state.specs.Meet.{Met, Unmet, MetFillings, IsMeet, NoMeet, ReasonNoMeet}
use Rattle.aom_abstract_state.specs.Meet.ReasonNoMeet.{by_delivery, by_entries, by_registers}
use Rattle.aom_abstract_state.specs.Order.{Weaker, WeakerFilling}
use Rattle.aom_abstract_state.specs.AbstractState.{AbstractState}
use Rattle.aom_roles.specs.Tables.{at}
use Rattle.aom_abstract_state.specs.Tests.{implied, apart, meet_kind, implied_field_state, meet_filling, same_message_state}
use Rattle.aom_abstract_state.specs.declared.kind.Kind.{Kind}
use Rattle.aom_abstract_state.specs.declared.kind.Kind.TheVariants.{Unset}
use Rattle.aom_abstract_state.specs.declared.kind.FieldState.{FieldState}
use Rattle.aom_abstract_state.specs.declared.kind.FieldState.TheVariants.{Perhaps}
use Rattle.aom_abstract_state.specs.declared.why.Reason.TheVariants.{RegisterKind, CleanupAtReturn, MessageAtReturn}
use Rattle.aom_abstract_state.proofs.Sets.{has_both, has_first, has_second}
use Rattle.aom_abstract_state.proofs.Deciding.{delivery_self, weaker_tests, weaker_tested, fillings_test, fillings_tested}
use Rattle.aom_abstract_state.proofs.Lists.{at_within, at_set_here, at_set_other, at_past}

-- the meet of two kinds says no more than either, and what says no more than both says no more than it
pub record IsMeetKind (m a b : Kind) : Type 0 where
  pub first : Weaker m a
  pub second : Weaker m b
  pub strongest : (n : Kind) → Weaker n a → Weaker n b → Weaker n m

-- by the test: it says no more than either, what says no more than both says no more than it, and where it is missing nothing says no more than both
first_passes : (a b m : Kind) → meet_kind a b ≡ Some m → implied m a ≡ true
first_passes a b m e = grind arith

second_passes : (a b m : Kind) → meet_kind a b ≡ Some m → implied m b ≡ true
second_passes a b m e = grind arith

both_pass : (a b m n : Kind) → meet_kind a b ≡ Some m → implied n a ≡ true → implied n b ≡ true → implied n m ≡ true
both_pass a b m n e h k = grind arith

missing_differ : (a b : Kind) → meet_kind a b ≡ None → (implied a b ≡ false) × (implied b a ≡ false) × (apart a b ≡ None)
missing_differ a b e = grind arith

none_passes : (a b n : Kind) → implied a b ≡ false → implied b a ≡ false → apart a b ≡ None → implied n a ≡ true → implied n b ≡ true → ⊥
none_passes a b n first second apart h k = grind arith

pub meet_found : (a b m : Kind) → meet_kind a b ≡ Some m → IsMeetKind m a b
meet_found a b m e = record {
  first = weaker_tested m a (first_passes a b m e);
  second = weaker_tested m b (second_passes a b m e);
  strongest = λ n h k. weaker_tested n m (both_pass a b m n e (weaker_tests n a h) (weaker_tests n b k));
}

pub meet_missing : (a b n : Kind) → meet_kind a b ≡ None → Weaker n a → Weaker n b → ⊥
meet_missing a b n e h k = let differ = missing_differ a b e in none_passes a b n differ.0 differ.1 differ.2 (weaker_tests n a h) (weaker_tests n b k)

-- one more meet is written
pub met_more : (a b m : List Kind) (i : ℕ) (x y r : Kind) →
    Met a b m i → i < 16 → length a ≡ 16 → length b ≡ 16 → meet_kind (slice_index_or a i x) (slice_index_or b i y) ≡ Some r → Met a b (slice_set m i r) (i + 1)
met_more a b m i x y r h within la lb e = record {
  size = length-set m i r ∙ h.size;
  each = λ k below. elim (eqb_tells k i) [
    | inl w ↦ rw (w.1, ← at_within Unset x a i (omega arith), ← at_within Unset y b i (omega arith), at_set_here Unset m i r (omega (arith, h.size))) e
    | inr w ↦ rw (at_set_other Unset m i k r w.1) (h.each k (omega (arith, w.1)))
  ];
}

pub met_none : (a b : List Kind) (i : ℕ) (x y : Kind) → i < 16 → length a ≡ 16 → length b ≡ 16 →
    meet_kind (slice_index_or a i x) (slice_index_or b i y) ≡ None → Unmet a b
met_none a b i x y within la lb e = record {
  place = i;
  none = rw (← at_within Unset x a i (omega arith), ← at_within Unset y b i (omega arith)) e;
}

pub met_more_fillings : (a b m : List FieldState) (i : ℕ) (e : FieldState) → MetFillings a b m i →
    i < 8 → length a ≡ 8 → length b ≡ 8 → MetFillings a b (slice_set m i (meet_filling (slice_index_or a i e) (slice_index_or b i e))) (i + 1)
met_more_fillings a b m i e h within la lb = record {
  size = length-set m i (meet_filling (slice_index_or a i e) (slice_index_or b i e)) ∙ h.size;
  each = λ k below. elim (eqb_tells k i) [
    | inl w ↦
        let here = at_set_here Perhaps m i (meet_filling (slice_index_or a i e) (slice_index_or b i e)) (omega (arith, h.size)) in
        rw (w.1, here, at_within Perhaps e a i (omega arith), at_within Perhaps e b i (omega arith))
    | inr w ↦ rw (at_set_other Perhaps m i k (meet_filling (slice_index_or a i e) (slice_index_or b i e)) w.1) (h.each k (omega (arith, w.1)))
  ];
}

-- the meet of two fillings is the strongest below both, by the test
first_filling_passes : (x y : FieldState) → implied_field_state (meet_filling x y) x ≡ true
first_filling_passes x y = grind arith

second_filling_passes : (x y : FieldState) → implied_field_state (meet_filling x y) y ≡ true
second_filling_passes x y = grind arith

both_fillings_pass : (x y n : FieldState) → implied_field_state n x ≡ true → implied_field_state n y ≡ true → implied_field_state n (meet_filling x y) ≡ true
both_fillings_pass x y n h k = grind arith

filling_first : (x y : FieldState) → WeakerFilling (meet_filling x y) x
filling_first x y = fillings_tested (meet_filling x y) x (first_filling_passes x y)

filling_second : (x y : FieldState) → WeakerFilling (meet_filling x y) y
filling_second x y = fillings_tested (meet_filling x y) y (second_filling_passes x y)

filling_strongest : (x y n : FieldState) → WeakerFilling n x → WeakerFilling n y → WeakerFilling n (meet_filling x y)
filling_strongest x y n h k = fillings_tested n (meet_filling x y) (both_fillings_pass x y n (fillings_test n x h) (fillings_test n y k))

met_everywhere : (a b m : List Kind) → length a ≡ 16 → length b ≡ 16 → Met a b m 16 → (i : ℕ) → IsMeetKind (at Unset m i) (at Unset a i) (at Unset b i)
met_everywhere a b m la lb h i = elim (leb_tells 16 i) [
  | inr w ↦ meet_found (at Unset a i) (at Unset b i) (at Unset m i) (h.each i w.1)
  | inl w ↦ rw (at_past Unset a i (omega (arith, w.1)), at_past Unset b i (omega (arith, w.1)), at_past Unset m i (omega (arith, w.1, h.size)))
      (meet_found Unset Unset Unset refl)
]

fillings_everywhere : (a b m : List FieldState) → length a ≡ 8 → length b ≡ 8 → MetFillings a b m 8 →
    (i : ℕ) → at Perhaps m i ≡ meet_filling (at Perhaps a i) (at Perhaps b i)
fillings_everywhere a b m la lb h i = elim (leb_tells 8 i) [
  | inr w ↦ h.each i w.1
  | inl w ↦ rw (at_past Perhaps a i (omega (arith, w.1)), at_past Perhaps m i (omega (arith, w.1, h.size)))
]

-- a state of the meets is the meet
pub met : (a b m : AbstractState) → length a.registers ≡ 16 → length b.registers ≡ 16 →
    length a.fields ≡ 8 → length b.fields ≡ 8 → Met a.registers b.registers m.registers 16 → MetFillings a.fields b.fields m.fields 8 →
    m.entries ≡ a.entries → m.entries ≡ b.entries → m.states ≡ bit_or a.states b.states → m.message_state ≡ a.message_state → m.message_state ≡ b.message_state → IsMeet m a b
met a b m la lb fa fb registers fields first second states delivered other =
    let kinds = met_everywhere a.registers b.registers m.registers la lb registers in
    let field_states = fillings_everywhere a.fields b.fields m.fields fa fb fields in
    record {
      first = let has = has_first a.states b.states in
          record { registers = λ i. (kinds i).first; fields = λ i. rw (field_states i) (filling_first (field a i) (field b i)); entries = first; states = rw states has; message_state = delivered };
      second = let has = has_second a.states b.states in
          record { registers = λ i. (kinds i).second; fields = λ i. rw (field_states i) (filling_second (field a i) (field b i)); entries = second; states = rw states has; message_state = other };
      strongest = λ n h k. record {
        registers = λ i. (kinds i).strongest (register n i) (h.registers i) (k.registers i);
        fields = λ i. rw (field_states i) (filling_strongest (field a i) (field b i) (field n i) (h.fields i) (k.fields i));
        entries = h.entries ∙ sym first;
        states = rw states (has_both n.states a.states b.states h.states k.states);
        message_state = h.message_state ∙ sym delivered;
      };
    }

-- where two kinds have no meet, nothing says no more than both
pub unmet : (a b : AbstractState) → Unmet a.registers b.registers → NoMeet a b × ReasonNoMeet a b RegisterKind
unmet a b h = (
  record { none = λ n k l. meet_missing (register a h.place) (register b h.place) (register n h.place) h.none (k.registers h.place) (l.registers h.place) },
  by_registers h,
)

pub kinds_meet : (a b m : List Kind) → length a ≡ 16 → length b ≡ 16 → Met a b m 16 → ¬ Unmet a b
kinds_meet a b m la lb h missing = elim (leb_tells 16 missing.place) [
  | inr w ↦ let found = h.each missing.place w.1 in let none = missing.none in cc
  | inl w ↦ let none = rw (at_past Unset a missing.place (omega (arith, w.1)), at_past Unset b missing.place (omega (arith, w.1))) at missing.none in cc
]

-- and where their entries differ nothing does either
pub parted : (a b : AbstractState) → ¬ Unmet a.registers b.registers → a.entries ≢ b.entries → NoMeet a b × ReasonNoMeet a b CleanupAtReturn
parted a b meet differ = (record { none = λ n k l. differ (sym k.entries ∙ l.entries) }, by_entries meet differ)

-- and where the message is gone in one alone
pub not_together : (a b : AbstractState) → ¬ Unmet a.registers b.registers → a.entries ≡ b.entries → same_message_state a.message_state b.message_state ≡ false →
    NoMeet a b × ReasonNoMeet a b MessageAtReturn
not_together a b meet same refused =
    let differ : a.message_state ≢ b.message_state = λ e. false≢true (sym refused ∙ rw (← e) (delivery_self a.message_state)) in
    (record { none = λ n k l. differ (sym k.message_state ∙ l.message_state) }, by_delivery meet same differ)
