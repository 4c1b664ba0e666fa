-- What is kept of the states of a method, and the states themselves.
use Rattle.std.proofs.Common.{◌≡◌, ℕ, zero, suc, ◌<◌, List, [], ◌∷◌, length, Option, Some, None, replicate}
use Rattle.std.proofs.Common.{slice_set, slice_index_or, inl, inr, refl, sym, ◌∙◌, ap, arith}
use Rattle.std.specs.Prelude.{IfSome}
use Rattle.std.proofs.lemmas.Bool.Decides.{eqb_tells}
use Rattle.std.proofs.lemmas.List.{length-replicate}
use Rattle.aom_abstract_state.specs.Changes.{kept_shape}
use Rattle.aom_abstract_state.specs.Meet.{NoMeet, ReasonNoMeet}
use Rattle.aom_abstract_state.specs.EntryStacks.{Extends, Stands}
use Rattle.aom_abstract_state.specs.AbstractState.{Known}
use Rattle.aom_roles.specs.Tables.{at}
use Rattle.aom_abstract_state.specs.declared.entry_stacks.Node.{Node}
use Rattle.aom_abstract_state.specs.declared.shape.Kept.{Kept}
use Rattle.aom_abstract_state.specs.declared.why.Reason.{Reason}
use Rattle.aom_verify.proofs.AbstractStateLemmas.{at_set_here, at_set_other, at_within}
use Rattle.aom_static_bounds.specs.Shapes.{Shapes}
use Rattle.aom_verify.specs.Entries.{IsFew}
use Rattle.aom_verify.specs.Faults.{JoinStops}
use Rattle.aom_verify.specs.States.{AreKept, Lowers, shape_of, shapes_of}
use Rattle.aom_verify.specs.Sweep.{Joins}
use Rattle.aom_verify.specs.declared.change.StatesChange.TheVariants.{Nothing, Fell, Reached}
use Rattle.aom_verify.specs.declared.states.SweepFault.TheVariants.{At}
use Rattle.aom_verify.proofs.Few.{few_at_first, few_first, few_lower}
use Rattle.aom_verify.proofs.Joining.{joins_first, joins_none, joins_lower, cannot_join, join_fails}
use Rattle.std.proofs.lemmas.Option.{none-some}

-- ---- lists

pub length_shapes : (nodes : List Node) (kept : List (Option Kept)) → length (shapes_of nodes kept) ≡ length kept
length_shapes nodes [] = refl
length_shapes nodes (k ∷ ks) = ap suc (length_shapes nodes ks)

pub at_shapes : (nodes : List Node) (kept : List (Option Kept)) (pc : ℕ) → at None (shapes_of nodes kept) pc ≡ shape_of nodes (at None kept pc)
at_shapes nodes [] pc = refl
at_shapes nodes (k ∷ ks) zero = refl
at_shapes nodes (k ∷ ks) (suc pc) = at_shapes nodes ks pc

pub set_shapes : (nodes : List Node) (kept : List (Option Kept)) (pc : ℕ) (k : Option Kept) →
    shapes_of nodes (slice_set kept pc k) ≡ slice_set (shapes_of nodes kept) pc (shape_of nodes k)
set_shapes nodes [] pc k = refl
set_shapes nodes (x ∷ xs) zero k = refl
set_shapes nodes (x ∷ xs) (suc pc) k = ap (λ (s : Shapes). shape_of nodes x ∷ s) (set_shapes nodes xs pc k)

pub none_shapes : (nodes : List Node) (n : ℕ) → shapes_of nodes (replicate n None) ≡ replicate n None
none_shapes nodes zero = refl
none_shapes nodes (suc n) = ap (λ (s : Shapes). None ∷ s) (none_shapes nodes n)

pub read_kept : (kept : List (Option Kept)) (to : ℕ) (o : Option Kept) → to < length kept → o ≡ slice_index_or kept to o → at None kept to ≡ o
read_kept kept to o within h = sym (at_within None o kept to within) ∙ sym h

pub kept_there : (nodes : List Node) (kept : List (Option Kept)) (pc : ℕ) (o : Option Kept) →
    pc < length (shapes_of nodes kept) → o ≡ slice_index_or kept pc o → shape_of nodes o ≡ at None (shapes_of nodes kept) pc
kept_there nodes kept pc o within is = ap (shape_of nodes) (sym (read_kept kept pc o (omega (arith, within, length_shapes nodes kept)) is))
    ∙ sym (at_shapes nodes kept pc)

pub kept_stands : (nodes : List Node) (kept : List (Option Kept)) (pc : ℕ) (o : Option Kept) →
    pc < length (shapes_of nodes kept) → o ≡ slice_index_or kept pc o → AreKept nodes kept → IfSome o (λ k. Stands nodes k.entry_stack)
kept_stands nodes kept pc None within is keeps = tt
kept_stands nodes kept pc (Some k) within is keeps = keeps.stand pc k (read_kept kept pc (Some k) (omega (arith, within, length_shapes nodes kept)) is)

-- ---- more nodes

same_shape : (old new : List Node) (o : Option Kept) → Extends old new → ((k : Kept) → o ≡ Some k → Stands old k.entry_stack) → shape_of new o ≡ shape_of old o
same_shape old new None h stand = refl
same_shape old new (Some k) h stand = rw (h.same k.entry_stack (stand k refl)) refl

pub same_shapes : (old new : List Node) (kept : List (Option Kept)) → Extends old new → ((pc : ℕ) (k : Kept) → at None kept pc ≡ Some k → Stands old k.entry_stack) →
    shapes_of new kept ≡ shapes_of old kept
same_shapes old new [] h stand = refl
same_shapes old new (o ∷ os) h stand = rw (same_shape old new o h (λ k e. stand 0 k e), same_shapes old new os h (λ pc k e. stand (suc pc) k e))

pub kept_extended : (old new : List Node) (kept : List (Option Kept)) → Extends old new → AreKept old kept → AreKept new kept
kept_extended old new kept h k = record {
  stand = λ pc x e. h.stands x.entry_stack (k.stand pc x e);
  few = rw (same_shapes old new kept h k.stand) k.few;
}

-- ---- a place that is written

stands_set : (nodes : List Node) (kept : List (Option Kept)) (to : ℕ) (new : Kept) → to < length kept → ((pc : ℕ) (k : Kept) → at None kept pc ≡ Some k →
    Stands nodes k.entry_stack) → Stands nodes new.entry_stack → (pc : ℕ) (k : Kept) → at None (slice_set kept to (Some new)) pc ≡ Some k → Stands nodes k.entry_stack
stands_set nodes kept to new within stand here pc k e = elim (eqb_tells pc to) [
  | inl w ↦
      let put = at_set_here None kept to (Some new) within in
      let same : new ≡ k = let f = rw w.1 at e in cc in
      rw (← same) here
  | inr w ↦ stand pc k (sym (at_set_other None kept to pc (Some new) w.1) ∙ e)
]

module _ (nodes : List Node) (kept : List (Option Kept)) (to : ℕ) (new : Kept) (within : to < length kept) where
  inside : to < length (shapes_of nodes kept)
  inside = omega (arith, within, length_shapes nodes kept)

  empty : at None kept to ≡ None → at None (shapes_of nodes kept) to ≡ None
  empty e = at_shapes nodes kept to ∙ ap (shape_of nodes) e

  filled : (there : Kept) → at None kept to ≡ Some there → at None (shapes_of nodes kept) to ≡ Some (kept_shape nodes there)
  filled there e = at_shapes nodes kept to ∙ ap (shape_of nodes) e

  pub kept_first : AreKept nodes kept → at None kept to ≡ None → IsFew (shapes_of nodes kept) (kept_shape nodes new) → Stands nodes new.entry_stack →
      AreKept nodes (slice_set kept to (Some new))
  kept_first h e few stands = record {
    stand = stands_set nodes kept to new within h.stand stands;
    few = rw (set_shapes nodes kept to (Some new)) (few_first _ to _ h.few inside (empty e) few);
  }

  pub first_joined : at None kept to ≡ None → Joins (shapes_of nodes kept) (shapes_of nodes (slice_set kept to (Some new))) ((to, kept_shape nodes new) ∷ []) Reached
  first_joined e = rw (set_shapes nodes kept to (Some new)) (joins_first _ to _ inside (empty e))

  pub none_joined : (there : Kept) → at None kept to ≡ Some there → Lowers nodes there new None →
      Joins (shapes_of nodes kept) (shapes_of nodes kept) ((to, kept_shape nodes new) ∷ []) Nothing
  none_joined there e h = joins_none _ to _ _ (filled there e) h

  pub kept_lower : (there : Kept) (known : Known) → AreKept nodes kept → at None kept to ≡ Some there →
      Lowers nodes there new (Some known) → AreKept nodes (slice_set kept to (Some (record { known = known; entry_stack = there.entry_stack })))
  kept_lower there known h e low =
      let less : Kept = record { known = known; entry_stack = there.entry_stack } in
      record {
        stand = stands_set nodes kept to less within h.stand (h.stand to there e);
        few = rw (set_shapes nodes kept to (Some less)) (few_lower _ to _ _ _ h.few inside (filled there e) low.1.0);
      }

  pub lower_joined : (there : Kept) (known : Known) → at None kept to ≡ Some there → Lowers nodes there new (Some known) → Joins
      (shapes_of nodes kept) (shapes_of nodes (slice_set kept to (Some (record { known = known; entry_stack = there.entry_stack })))) ((to, kept_shape nodes new) ∷ []) Fell
  lower_joined there known e low =
      let less : Kept = record { known = known; entry_stack = there.entry_stack } in
      rw (set_shapes nodes kept to (Some less)) (joins_lower _ to _ _ _ inside (filled there e) low.0 low.1.0 low.1.1)

  pub never_joined : (there : Kept) (why : Reason) → at None kept to ≡ Some there →
      NoMeet (kept_shape nodes there) (kept_shape nodes new) → ReasonNoMeet (kept_shape nodes there) (kept_shape nodes new) why →
      JoinStops (shapes_of nodes kept) (shapes_of nodes kept) ((to, kept_shape nodes new) ∷ []) (At to why)
  never_joined there why e none reason = (cannot_join _ to _ _ (filled there e) none, inside, join_fails _ to _ _ why (filled there e) none reason)

-- ---- the first states

pub first_shapes_are : (nodes : List Node) (n : ℕ) (k : Kept) →
    shapes_of nodes (slice_set (replicate n None) 0 (Some k)) ≡ slice_set (replicate n None) 0 (Some (kept_shape nodes k))
first_shapes_are nodes n k = set_shapes nodes (replicate n None) 0 (Some k) ∙ ap (λ (s : Shapes). slice_set s 0 (Some (kept_shape nodes k))) (none_shapes nodes n)

pub none_reached : {A : Type 0} (n pc : ℕ) → at {A = Option A} None (replicate n None) pc ≡ None
none_reached zero pc = refl
none_reached (suc n) zero = refl
none_reached (suc n) (suc pc) = none_reached n pc

pub kept_at_first : (nodes : List Node) (n : ℕ) (new : Kept) → 0 < n → Stands nodes new.entry_stack → (kept_shape nodes new).entries ≡ [] →
    AreKept nodes (slice_set (replicate n None) 0 (Some new))
kept_at_first nodes n new some stands none = record {
  stand = stands_set nodes (replicate n None) 0 new (omega (arith, some, length-replicate {A = Option Kept} n None))
      (λ pc k e. absurd (none-some k (sym (none_reached n pc) ∙ e))) stands;
  few = rw (first_shapes_are nodes n new) (few_at_first n (kept_shape nodes new) some none);
}
