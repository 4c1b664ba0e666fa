-- Needs that are judged one list after the other.
use Rattle.std.proofs.Common.{◌≡◌, true, false, cond, List, [], ◌∷◌, ◌++◌, Ok, Err, refl}
use Rattle.aom_abstract_state.specs.Needs.{Need, judged, tested}
use Rattle.aom_abstract_state.specs.declared.why.Reason.{Reason}

-- a failure of the first list is the failure of both
pub failed_first : {A B : Type 0} (xs ys : List Need) (a : A) (b : B) (w : Reason) → judged xs a ≡ Err w → judged (xs ++ ys) b ≡ Err w
failed_first [] ys a b w e = absurd cc
failed_first {A = A} {B = B} (x ∷ xs) ys a b w e = elim x.0 as (λ t. cond t (judged xs a) (Err x.1) ≡ Err w → cond t (judged (xs ++ ys) b) (Err x.1) ≡ Err w) [
  | true ↦ λ e. failed_first xs ys a b w e
  | false ↦ λ e. cc
] e

-- and where the first holds the second decides
pub passed_first : {A B : Type 0} (xs ys : List Need) (a z : A) (b : B) → judged xs a ≡ Ok z → judged (xs ++ ys) b ≡ judged ys b
passed_first [] ys a z b e = refl
passed_first {A = A} {B = B} (x ∷ xs) ys a z b e =
    elim x.0 as (λ t. cond t (judged xs a) (Err x.1) ≡ Ok z → cond t (judged (xs ++ ys) b) (Err x.1) ≡ judged ys b) [
      | true ↦ λ e. passed_first xs ys a z b e
      | false ↦ λ e. absurd cc
    ] e

-- needs that were tested decide what is judged by them
pub all_failed : {B : Type 0} (xs : List Need) (b : B) (w : Reason) → tested xs ≡ Err w → judged xs b ≡ Err w
all_failed [] b w e = absurd cc
all_failed {B = B} (x ∷ xs) b w e = elim x.0 as (λ t. cond t (tested xs) (Err x.1) ≡ Err w → cond t (judged xs b) (Err x.1) ≡ Err w) [
  | true ↦ λ e. all_failed xs b w e
  | false ↦ λ e. cc
] e

pub all_passed : {B : Type 0} (xs : List Need) (b : B) (u : Unit {0}) → tested xs ≡ Ok u → judged xs b ≡ Ok b
all_passed [] b u e = refl
all_passed {B = B} (x ∷ xs) b u e = elim x.0 as (λ t. cond t (tested xs) (Err x.1) ≡ Ok u → cond t (judged xs b) (Err x.1) ≡ Ok b) [
  | true ↦ λ e. all_passed xs b u e
  | false ↦ λ e. absurd cc
] e
