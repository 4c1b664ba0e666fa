-- The entries of a delay: where the first of a kind stands, and what is left of the ids once it is out.
use Rattle.std.proofs.Common.{◌≡◌, ℕ, suc, ◌+◌, ◌≤◌, Bool, true, false, cond, List, [], ◌∷◌, length, map, take, drop, get_or, Some, None, slice_get, refl, sym}
use Rattle.std.proofs.Common.{ap, ◌∙◌, inl, inr, arith, nat_lt, not}
use Rattle.std.specs.Prelude.{find, position, ◌==◌}
use Rattle.std.specs.List.{position_or_len, refill}
use Rattle.std.proofs.lemmas.Bool.{cases_eq, cases_lt, lt-ltb, eqb-true, eq-eqb, ne_eqb}
use Rattle.std.proofs.lemmas.List.{map-append, take-append-le}
use Rattle.std.proofs.Math.Seq.{take-length}
use Rattle.std.proofs.lemmas.List.Quantifiers.{position-Some}
use Rattle.std.proofs.lemmas.Option.{slice_get_read, slice_get_past}
use Rattle.aom_natives.specs.Owed.{IsOwed, TakesOut}
use Rattle.aom_natives.specs.Delays.{ids_in, lowered}
use Rattle.aom_natives.proofs.Ids.{fewer}
use Rattle.aom_natives.specs.declared.delay.OwedRequest.{OwedRequest}

-- a delay lowers counts and leaves ids
pub ids_lowered : (es : List OwedRequest) → ids_in (map lowered es) ≡ ids_in es
ids_lowered [] = refl
ids_lowered (e ∷ es) = ap (λ ids. e.id ∷ ids) (ids_lowered es)

-- a slice that is written back whole
pub refilled : {X : Type 0} (xs ws : List X) → length ws ≡ length xs → refill (length xs) xs ws ≡ ws
refilled xs ws same = take-append-le (length xs) ws (drop (length ws) xs) (omega (arith, same)) ∙ ap (λ n. take n ws) (sym same) ∙ take-length ws

module _ {X : Type 0} (p : X → Bool) where
  -- the first that passes, by its place
  pub find-at : (xs : List X) → find p xs ≡ slice_get xs (position_or_len p xs)
  find-at [] = refl
  find-at (x ∷ xs) = go (p x) (find-at xs) where
    go : (b : Bool) → find p xs ≡ slice_get xs (position_or_len p xs) → cond b (Some x) (find p xs) ≡ slice_get (x ∷ xs) (cond (not b) (1 + position_or_len p xs) 0)
    go true later = refl
    go false later = let e : suc (position_or_len p xs) ≡ 1 + position_or_len p xs = omega arith in later ∙ ap (λ k. slice_get (x ∷ xs) k) e

  pub position-some : (xs : List X) (i : ℕ) → position p xs ≡ Some i → position_or_len p xs ≡ i
  position-some xs i is = go (nat_lt (position_or_len p xs) (length xs)) is where
    go : (b : Bool) → cond b (Some (position_or_len p xs)) None ≡ Some i → position_or_len p xs ≡ i
    go true e = cc
    go false e = cc

  -- the first that passes stands at the place that is found
  pub found-at : (xs : List X) (i : ℕ) (x : X) → position p xs ≡ Some i → x ≡ get_or xs i x → Some x ≡ find p xs
  found-at xs i x is at = sym (find-at xs ∙ ap (slice_get xs) (position-some xs i is) ∙ slice_get_read xs (length xs) i x refl (position-Some p xs i x is).0 at)

  -- where none is found, none passes
  pub past-none : (xs : List X) → position p xs ≡ None → length xs ≤ position_or_len p xs
  past-none xs is = elim (cases_lt (position_or_len p xs) (length xs)) [
    | inl inside ↦ let some : position p xs ≡ Some (position_or_len p xs) = ap (λ b. cond b (Some (position_or_len p xs)) None) (lt-ltb _ _ inside) in absurd (cc)
    | inr past ↦ past
  ]

  pub find-none : (xs : List X) → position p xs ≡ None → find p xs ≡ None
  find-none xs is = find-at xs ∙ slice_get_past xs _ (past-none xs is)

-- an id that is owed has an entry
pub owed-entry : (es : List OwedRequest) (id : ℕ) → IsOwed (ids_in es) id → find (λ e. id == e.id) es ≡ None → ⊥
owed-entry [] id some none = absurd (omega (arith, some))
owed-entry (e ∷ es) id some none = elim (cases_eq id e.id) [
  | inl same ↦
      let found : find (λ e. id == e.id) (e ∷ es) ≡ Some e = ap (λ b. cond b (Some e) (find (λ e. id == e.id) es)) (eq-eqb id e.id same) in
      absurd (cc)
  | inr other ↦
      let later : find (λ e. id == e.id) es ≡ None = sym (ap (λ b. cond b (Some e) (find (λ e. id == e.id) es)) (ne_eqb id e.id other)) ∙ none in
      owed-entry es id (fewer e.id (ids_in es) id other some) later
]

-- the entry that is found is the id's
pub entry-id : (es : List OwedRequest) (id i : ℕ) (e : OwedRequest) → position (λ e. id == e.id) es ≡ Some i → e ≡ get_or es i e → e.id ≡ id
entry-id es id i e is at = sym (eqb-true id e.id (ap (λ (x : OwedRequest). id == x.id) at ∙ (position-Some (λ (e : OwedRequest). id == e.id) es i e is).1))

-- with an entry its id is out
pub ids-out : (e : OwedRequest) (old new : List OwedRequest) → TakesOut e old new → TakesOut e.id (ids_in old) (ids_in new)
ids-out e old new out = record {
  before = ids_in out.before;
  after = ids_in out.after;
  was = ap ids_in out.was ∙ map-append (λ (e : OwedRequest). e.id) out.before (e ∷ out.after);
  is = ap ids_in out.is ∙ map-append (λ (e : OwedRequest). e.id) out.before out.after;
}
