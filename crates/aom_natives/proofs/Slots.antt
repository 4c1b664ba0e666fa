-- What a write of one slot makes of all slots.
use Rattle.std.proofs.Common.{◌≡◌, ℕ, ◌<◌, ℤ, List, Option, None, Some, length, slice_index_or, slice_set, refl, sym, ap, ◌∙◌, subst, inl, inr}
use Rattle.std.specs.Prelude.{IfSome, IsSome}
use Rattle.std.proofs.lemmas.Bool.{cases_eq, cases_lt}
use Rattle.std.proofs.lemmas.List.{get_or-set_same, get_or-set_other, get_or_past, get_or_default}
use Rattle.std.proofs.lemmas.Int.{to_z-of_z}
use Rattle.std.proofs.Math.ListN.{length-set}
use Rattle.aom_natives.specs.Owed.{Agrees}
use Rattle.aom_natives.specs.Slots.{living_at, ids_of, ids_at, AllAgree, KeepsOthers}
use mir.Syntax.{w32}
use mir.Val.{SFits, of_z, to_z}

module _ {L : Type 0} where
  -- the slot that is written, and each other
  pub written : (slots : List (Option L)) (n : ℕ) (s : Option L) → n < length slots → living_at (slice_set slots n s) n ≡ s
  written slots n s within = get_or-set_same slots n s None within

  pub keeps-set : (slots : List (Option L)) (n : ℕ) (s : Option L) → KeepsOthers slots (slice_set slots n s) n
  keeps-set slots n s = record {
    count = length-set slots n s;
    others = λ k other. get_or-set_other slots n k s None other;
  }

module _ {L : Type 0} (kept owed : L → List ℕ) (slots : List (Option L)) (agree : AllAgree kept owed slots) where
  pub agree-at : (n : ℕ) (l : L) → living_at slots n ≡ Some l → Agrees (kept l) (owed l)
  agree-at n l is = subst (λ s. IfSome s (λ l. Agrees (kept l) (owed l))) is (agree.each n)

  -- a slot is written in which what is kept agrees
  pub agree-set : (n : ℕ) (s : Option L) → n < length slots → IfSome s (λ l. Agrees (kept l) (owed l)) → AllAgree kept owed (slice_set slots n s)
  agree-set n s within here = record {
    each = λ k. elim (cases_eq k n) [
      | inl same ↦ subst (λ t. IfSome t (λ l. Agrees (kept l) (owed l))) (sym (ap (living_at (slice_set slots n s)) same ∙ written slots n s within)) here
      | inr other ↦ subst (λ t. IfSome t (λ l. Agrees (kept l) (owed l))) (sym (get_or-set_other slots n k s None other)) (agree.each k)
    ];
  }

  pub agree-none : (n : ℕ) (s : Option L) → n < length slots → s ≡ None → AllAgree kept owed (slice_set slots n s)
  agree-none n s within none = agree-set n s within (subst (λ t. IfSome t (λ l. Agrees (kept l) (owed l))) (sym none) tt)

module _ {L : Type 0} (slots : List (Option L)) (n : ℕ) where
  -- a living native has a slot
  pub within : IsSome (living_at slots n) → n < length slots
  within alive = elim (cases_lt n (length slots)) [
    | inl inside ↦ inside
    | inr past ↦ let none : living_at slots n ≡ None = get_or_past slots n None past in absurd (cc)
  ]

  -- the slot that an index gives
  pub living-is : (s : Option L) (l : L) → IsSome (living_at slots n) → s ≡ slice_index_or slots n s → s ≡ Some l → living_at slots n ≡ Some l
  living-is s l alive at is = get_or_default slots n None s (within alive) ∙ sym at ∙ is

-- the slots after a call at the living native of the slot n; R is what became of its ids
pub record IsCalled {L : Type 0} (kept owed : L → List ℕ) (old new : List (Option L)) (n : ℕ) (R : List ℕ → List ℕ → Type 0) : Type 0 where
  pub agree : AllAgree kept owed new
  pub alive : IsSome (living_at new n)
  pub others : KeepsOthers old new n
  pub ids : R (ids_at kept old n) (ids_at kept new n)

-- a call at the living native l of the slot n, which an index gives as s; m is the native after the call
module _ {L : Type 0} (slots : List (Option L)) (n : ℕ) (s : Option L) (l : L) (alive : IsSome (living_at slots n))
    (at : s ≡ slice_index_or slots n s) (is : s ≡ Some l) where
  -- what is known of the slot is known of the native, and the other way round
  pub from-slot : (P : Option L → Type 0) → P (living_at slots n) → P (Some l)
  from-slot P known = subst P (living-is slots n s l alive at is) known

  pub to-slot : (P : L → Type 0) → P l → IfSome (living_at slots n) P
  to-slot P known = subst (λ o. IfSome o P) (sym (living-is slots n s l alive at is)) known

  -- the answer of a call, as it is handed on
  pub answer-after : (P : L → ℤ → Type 0) (answer : ℤ) → SFits w32 answer → P l answer → IfSome (living_at slots n) (λ l. P l (to_z w32 (of_z w32 answer)))
  answer-after P answer fits may = to-slot (λ l. P l (to_z w32 (of_z w32 answer))) (subst (P l) (sym (to_z-of_z w32 answer fits)) may)

  -- and with the function and the word of the call, as they are handed on
  pub answer-to : (P : L → ℤ → ℤ → ℤ → Type 0) (function word answer : ℤ) → SFits w32 function → SFits w32 word → SFits w32 answer →
      P l (to_z w32 (of_z w32 function)) (to_z w32 (of_z w32 word)) answer → IfSome (living_at slots n) (λ l. P l function word (to_z w32 (of_z w32 answer)))
  answer-to P function word answer fits_function fits_word fits may = answer-after (λ l. P l function word) answer fits
      (subst (λ f. P l f word answer) (to_z-of_z w32 function fits_function)
      (subst (λ w. P l (to_z w32 (of_z w32 function)) w answer) (to_z-of_z w32 word fits_word) may))

  -- what is kept of the native agrees as the call begins, and, where it does once more, all is as it should be after the call
  pub living-agrees : (kept owed : L → List ℕ) → AllAgree kept owed slots → Agrees (kept l) (owed l)
  living-agrees kept owed agree = agree-at kept owed slots agree n l (living-is slots n s l alive at is)

  -- what the call makes of the native's ids, R, it makes of the slot's
  pub called : (kept owed : L → List ℕ) → AllAgree kept owed slots → (m : L) → Agrees (kept m) (owed m) → (R : List ℕ → List ℕ → Type 0) → R (kept l) (kept m)
      → IsCalled kept owed slots (slice_set slots n (Some m)) n R
  called kept owed agree m here R made = record {
    agree = agree-set kept owed slots agree n (Some m) (within slots n alive) here;
    alive = subst (λ o. IsSome o) (sym now) refl;
    others = keeps-set slots n (Some m);
    ids = subst (λ ids. R (ids_at kept slots n) ids) (sym (ap (ids_of kept) now))
        (subst (λ ids. R ids (kept m)) (sym (ap (ids_of kept) (living-is slots n s l alive at is))) made);
  }
    where
      now : living_at (slice_set slots n (Some m)) n ≡ Some m
      now = written slots n (Some m) (within slots n alive)
