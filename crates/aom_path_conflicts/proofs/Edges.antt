-- The ways of one edge, and of two.
use Rattle.std.proofs.Common.{◌≡◌, ◌≢◌, ◌⊎◌, ℕ, ◌++◌, List, [], ◌∷◌, IfSome, None, Option, Some, ap, inl, inr, refl, subst, sym}
use Rattle.aom_abstract_state.specs.AbstractState.{AbstractState}
use Rattle.aom_abstract_state.specs.Changes.{known_with, leads_to}
use Rattle.aom_abstract_state.specs.Needs.{Flow}
use Rattle.aom_abstract_state.specs.declared.flow.FlowEdge.{FlowEdge}
use Rattle.aom_abstract_state.specs.declared.kind.CleanupEntry.{CleanupEntry}
use Rattle.aom_abstract_state.specs.declared.kind.Kind.{Kind}
use Rattle.aom_verify.specs.Arrivals.{IsOneOf}
use Rattle.aom_path_conflicts.specs.Conflicts.{EachAgrees, IsFirstApart, NoneApart, SomeDiffers}
use Rattle.aom_path_conflicts.specs.declared.conflict.Difference.{Difference}

module _ (here : List Kind) (place : ℕ) where
  -- ---- one edge

  leads_apart : (e : FlowEdge) (es : List CleanupEntry) (d : Difference) → e.to ≡ place → IsFirstApart here e.known.registers d →
      SomeDiffers here place d (leads_to es (Some e))
  leads_apart e es d to apart = record { next = known_with e.known es; way = inl (ap (λ (k : ℕ). (k, known_with e.known es)) (sym to)); apart = apart }

  pub edge_differs : (e : FlowEdge) (found : Option Difference) → e.to ≡ place → IfSome found (λ d. IsFirstApart here e.known.registers d) →
      IfSome found (λ d. (es : List CleanupEntry) → SomeDiffers here place d (leads_to es (Some e)))
  edge_differs e None to h = tt
  edge_differs e (Some d) to h = λ es. leads_apart e es d to h

  pub leads_alike : (e : FlowEdge) (es : List CleanupEntry) → NoneApart here e.known.registers → EachAgrees here place (leads_to es (Some e))
  leads_alike e es none = record { each = alike }
    where
      alike : (next : AbstractState) → IsOneOf (leads_to es (Some e)) (place, next) → NoneApart here next.registers
      alike next (inl so) = subst (λ (sh : AbstractState). NoneApart here sh.registers) (sym (ap (λ (way : Flow). way.1) so)) none
      alike next (inr other) = absurd other

  pub leads_elsewhere : (e : FlowEdge) (es : List CleanupEntry) → e.to ≢ place → EachAgrees here place (leads_to es (Some e))
  leads_elsewhere e es other = record { each = elsewhere }
    where
      elsewhere : (next : AbstractState) → IsOneOf (leads_to es (Some e)) (place, next) → NoneApart here next.registers
      elsewhere next (inl so) = absurd (other (sym (ap (λ (way : Flow). way.0) so)))
      elsewhere next (inr none) = absurd none

  pub leads_nowhere : EachAgrees here place []
  leads_nowhere = record { each = λ next one. absurd one }

  -- ---- two lists

  in_first : (xs ys : List Flow) (way : Flow) → IsOneOf xs way → IsOneOf (xs ++ ys) way
  in_first [] ys way one = absurd one
  in_first (x ∷ xs) ys way (inl so) = inl so
  in_first (x ∷ xs) ys way (inr one) = inr (in_first xs ys way one)

  in_second : (xs ys : List Flow) (way : Flow) → IsOneOf ys way → IsOneOf (xs ++ ys) way
  in_second [] ys way one = one
  in_second (x ∷ xs) ys way one = inr (in_second xs ys way one)

  in_either : (xs ys : List Flow) (way : Flow) → IsOneOf (xs ++ ys) way → IsOneOf xs way ⊎ IsOneOf ys way
  in_either [] ys way one = inr one
  in_either (x ∷ xs) ys way (inl so) = inl (inl so)
  in_either (x ∷ xs) ys way (inr one) = elim (in_either xs ys way one) [
    | inl first ↦ inl (inr first)
    | inr second ↦ inr second
  ]

  pub first_differs : (xs ys : List Flow) (d : Difference) → SomeDiffers here place d xs → SomeDiffers here place d (xs ++ ys)
  first_differs xs ys d found = record { next = found.next; way = in_first xs ys (place, found.next) found.way; apart = found.apart }

  pub second_differs : (xs ys : List Flow) (d : Difference) → SomeDiffers here place d ys → SomeDiffers here place d (xs ++ ys)
  second_differs xs ys d found = record { next = found.next; way = in_second xs ys (place, found.next) found.way; apart = found.apart }

  pub both_agree : (xs ys : List Flow) → EachAgrees here place xs → EachAgrees here place ys → EachAgrees here place (xs ++ ys)
  both_agree xs ys first second = record {
    each = λ next one. elim (in_either xs ys (place, next) one) [
      | inl early ↦ first.each next early
      | inr late ↦ second.each next late
    ];
  }
