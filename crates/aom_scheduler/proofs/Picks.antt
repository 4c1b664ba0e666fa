-- The first that is ready is the pick: it is ready, and all others that are stand behind it.
use Rattle.std.proofs.lemmas.Bool.Decides.{nat_tests}
use Rattle.std.proofs.Common.{◌≡◌, ◌<◌, ◌⊎◌, ℕ, zero, suc, ℤ, true, false, List, [], ◌∷◌, Option, Some, None, length, get_or, refl, sym, ap, subst, inl}
use Rattle.std.proofs.Common.{inr, arith, ◌<ℤ◌}
use Rattle.std.specs.Prelude.{All, AllPairs, slice_get, IfSome, IsSome, IsNone, ◌↔◌, option_map, int_le}
use Rattle.std.proofs.lemmas.Bool.{cases_Bool, cond-true, cond-false}
use Rattle.std.proofs.lemmas.List.Elements.{All-nil}
use Rattle.std.proofs.lemmas.Int.{ints}
use Rattle.std.proofs.lemmas.Option.{same_Some, slice_get_within, get_or_from_slice_get, IfSome_then}
use Rattle.aom_scheduler.specs.PriorityList.{before, first_ready, IsPick, IsBehind}
use Rattle.aom_scheduler.specs.declared.entry.ScheduleEntry.{ScheduleEntry}
use Rattle.aom_scheduler.proofs.Items.{pairs-tail}

le-cases : (a b : ℤ) → int_le a b ≡ true → (a <ℤ b) ⊎ (a ≡ b)
le-cases a b le = grind (arith, ints)

-- all that follow the first entry are behind it
behind-first : (x : ScheduleEntry) (xs : List ScheduleEntry) → AllPairs (λ e f. before e f ≡ true) (x ∷ xs) → IsBehind (x ∷ xs) 0 x
behind-first x xs sorted zero e is differs ready = absurd (differs refl)
behind-first x xs sorted (suc k) e is differs ready =
    let stands : get_or xs k e ≡ e = get_or_from_slice_get xs k e e is in
    let ranks : before x e ≡ true = subst (λ f. before x f ≡ true) stands (sorted 0 (suc k) e (omega arith) (omega (arith, slice_get_within xs k e is))) in
    elim (le-cases e.priority x.priority ranks) [ inl lower ↦ inl lower | inr same ↦ inr (same, omega arith) ]

-- an entry in front that waits changes no pick
later-pick : (x : ScheduleEntry) (xs : List ScheduleEntry) (id : ℕ) → x.is_ready ≡ false → IsPick xs id → IsPick (x ∷ xs) id
later-pick x xs id waits p = record { at = suc p.at; entry = p.entry; there = p.there; same = p.same; ready = p.ready; others = others }
  where
    others : IsBehind (x ∷ xs) (suc p.at) p.entry
    others y e is differs ready = grind (arith, nat_tests, same_Some)

pub pick-first : (xs : List ScheduleEntry) → AllPairs (λ e f. before e f ≡ true) xs → IfSome (first_ready xs) (IsPick xs)
pick-first [] sorted = tt
pick-first (x ∷ xs) sorted = elim (cases_Bool x.is_ready) [
  | inl is_so ↦ subst (λ o. IfSome o (IsPick (x ∷ xs))) (sym (cond-true x.is_ready (Some x.id) (first_ready xs) is_so))
      (record { at = 0; entry = x; there = refl; same = refl; ready = is_so; others = behind-first x xs sorted })
  | inr is_not ↦ subst (λ o. IfSome o (IsPick (x ∷ xs))) (sym (cond-false x.is_ready (Some x.id) (first_ready xs) is_not))
      (IfSome_then (first_ready xs) (pick-first xs (pairs-tail (λ e f. before e f ≡ true) x xs sorted)) (λ id p. later-pick x xs id is_not p))
]

-- what `front` answers, as a look at the first place
pub front-is : {B : Type 0} (now : B → ℕ) (ids : List ℕ) (n : ℕ) (o : Option B) → n ≡ length ids → IsSome o ↔ (0 < n)
    → IfSome o (λ x. now x ≡ get_or ids 0 (now x)) → option_map now o ≡ slice_get ids 0
front-is now [] n None long some first = refl
front-is now (i ∷ is) n (Some x) long some first = ap Some first
front-is now _ n _ long some first = absurd (grind (arith, long, some.0, some.1))

-- where there is no first, none is ready
pub none-ready : (xs : List ScheduleEntry) → IsNone (first_ready xs) → All (λ e. e.is_ready ≡ false) xs
none-ready [] none = All-nil (λ e. e.is_ready ≡ false)
none-ready (x ∷ xs) none = grind (arith, none-ready xs)
