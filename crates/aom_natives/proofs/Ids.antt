-- How often ids stand in lists: what a push, a removal and a native's answer make of it, by counting.
use Rattle.std.proofs.Common.{◌≡◌, ◌≢◌, ℕ, suc, ◌<◌, ◌≤◌, List, [], ◌∷◌, ◌++◌, length, take, drop, get_or, refl, sym, ap, subst, ◌∙◌, inl, inr, Contains, arith}
use Rattle.std.proofs.Common.{drop-cons}
use Rattle.std.specs.Prelude.{remove, true, false, ◌||◌, ◌==◌}
use Rattle.std.specs.List.{list_any}
use Rattle.std.proofs.lemmas.Bool.{cases_eq, eq-eqb, ne_eqb}
use Rattle.std.proofs.lemmas.Grind.{common_steps}
use Rattle.std.proofs.lemmas.List.{take-append-drop}
use Rattle.aom_natives.specs.Owed.{times, SameIds, IsNew, IsOwed, Agrees, TakesOut}

-- a list and one more id
times-push : (ids : List ℕ) (id x : ℕ) → times x (ids ++ id ∷ []) ≡ times x (id ∷ ids)
times-push ids id x = grind (arith, common_steps)

times-cons : (xs ys : List ℕ) (id x : ℕ) → times x xs ≡ times x ys → times x (id ∷ xs) ≡ times x (id ∷ ys)
times-cons xs ys id x same = grind (arith, common_steps, same)

times-uncons : (xs ys : List ℕ) (id x : ℕ) → times x (id ∷ xs) ≡ times x (id ∷ ys) → times x xs ≡ times x ys
times-uncons xs ys id x same = grind (arith, common_steps, same)

times-less : (ids : List ℕ) (id x : ℕ) → times x ids ≤ times x (id ∷ ids)
times-less ids id x = grind (arith, common_steps)

times-here : (ids : List ℕ) (id : ℕ) → 0 < times id (id ∷ ids)
times-here ids id = grind (arith, common_steps)

-- a new id stands there once, once it is pushed
times-new : (ids : List ℕ) (id x : ℕ) → IsNew ids id → times x ids ≤ 1 → times x (id ∷ ids) ≤ 1
times-new ids id x new once = grind (arith, common_steps)

-- an id in the middle counts as if it stood first
times-middle : (before after : List ℕ) (id x : ℕ) → times x (before ++ id ∷ after) ≡ times x (id ∷ (before ++ after))
times-middle before after id x = grind (arith, common_steps)

-- an id that is counted is there
pub fewer : (y : ℕ) (xs : List ℕ) (id : ℕ) → id ≢ y → 0 < times id (y ∷ xs) → 0 < times id xs
fewer y xs id other some = grind (arith, common_steps)

pub owed-contains : (xs : List ℕ) (id : ℕ) → IsOwed xs id → Contains xs id
owed-contains [] id some = absurd (omega arith)
owed-contains (y ∷ xs) id some = elim (cases_eq id y) [
  | inl same ↦ (0, omega arith, sym same)
  | inr other ↦
      let later : Contains xs id = owed-contains xs id (fewer y xs id other some) in
      (suc later.0, omega (arith, later.1), later.2)
]

-- a look through the ids finds those that are counted
passed : (x : ℕ) (xs : List ℕ) (id : ℕ) → id ≢ x → times id (x ∷ xs) ≡ times id xs
passed x xs id other = grind (arith, common_steps)

pub found-owed : (ids : List ℕ) (id : ℕ) → list_any (λ x. id == x) ids ≡ true → IsOwed ids id
found-owed [] id found = absurd (cc)
found-owed (x ∷ xs) id found = elim (cases_eq id x) [
  | inl same ↦ subst (λ y. IsOwed (y ∷ xs) id) same (times-here xs id)
  | inr other ↦
      let later : list_any (λ x. id == x) xs ≡ true = sym (ap (λ b. b || list_any (λ x. id == x) xs) (ne_eqb id x other)) ∙ found in
      omega (arith, passed x xs id other, found-owed xs id later)
]

pub unfound-new : (ids : List ℕ) (id : ℕ) → list_any (λ x. id == x) ids ≡ false → IsNew ids id
unfound-new [] id none = refl
unfound-new (x ∷ xs) id none = elim (cases_eq id x) [
  | inl same ↦ let some : list_any (λ x. id == x) (x ∷ xs) ≡ true = ap (λ b. b || list_any (λ x. id == x) xs) (eq-eqb id x same) in absurd (cc)
  | inr other ↦ passed x xs id other ∙ unfound-new xs id (sym (ap (λ b. b || list_any (λ x. id == x) xs) (ne_eqb id x other)) ∙ none)
]

-- one of a list is taken out, or pushed: the same ids
pub same-out : (id : ℕ) (old new : List ℕ) → TakesOut id old new → SameIds old (id ∷ new)
same-out id old new out = record {
  at = λ x. ap (times x) out.was ∙ times-middle out.before out.after id x ∙ ap (λ ids. times x (id ∷ ids)) (sym out.is);
}

pub same-push : (ids : List ℕ) (id : ℕ) → SameIds (ids ++ id ∷ []) (id ∷ ids)
same-push ids id = record { at = times-push ids id }

module _ (kept owed : List ℕ) (agree : Agrees kept owed) where
  -- an id is kept where it is owed
  pub new-at : (id : ℕ) → IsNew kept id → IsNew owed id
  new-at id new = sym (agree.same.at id) ∙ new

  pub owed-at : (id : ℕ) → IsOwed kept id → IsOwed owed id
  owed-at id some = omega (arith, agree.same.at id, some)

  -- the native took the id, and it was put in
  pub agrees-taken : (id : ℕ) (kept_after owed_after : List ℕ) → IsNew kept id → kept_after ≡ kept ++ id ∷ [] → SameIds owed_after (id ∷ owed) →
      Agrees kept_after owed_after
  agrees-taken id kept_after owed_after new put taken = record {
    same = record { at = λ x. ap (times x) put ∙ times-push kept id x ∙ times-cons kept owed id x (agree.same.at x) ∙ sym (taken.at x) };
    once = λ x. omega (arith, ap (times x) put, times-push kept id x, times-new kept id x new (agree.once x));
  }

  -- nothing changed
  pub agrees-same : (kept_after owed_after : List ℕ) → kept_after ≡ kept → owed_after ≡ owed → Agrees kept_after owed_after
  agrees-same kept_after owed_after same_kept same_owed = subst (λ k. Agrees k owed_after) (sym same_kept) (subst (Agrees kept) (sym same_owed) agree)

  -- what the native answers was kept
  pub answered-owed : (id : ℕ) (left : List ℕ) → SameIds owed (id ∷ left) → IsOwed kept id
  answered-owed id left gone = omega (arith, agree.same.at id, gone.at id, times-here left id)

  -- both sides lost the id
  pub agrees-out : (id : ℕ) (kept_after owed_after : List ℕ) → TakesOut id kept kept_after → SameIds owed (id ∷ owed_after) → Agrees kept_after owed_after
  agrees-out id kept_after owed_after out gone = record {
    same = record { at = λ x. times-uncons kept_after owed_after id x (sym ((same-out id kept kept_after out).at x) ∙ agree.same.at x ∙ gone.at x) };
    once = λ x. omega (arith, agree.once x, (same-out id kept kept_after out).at x, times-less kept_after id x);
  }

-- a native that owes nothing
pub agrees-nothing : (owed : List ℕ) → owed ≡ [] → Agrees [] owed
agrees-nothing owed none = record { same = record { at = λ x. ap (times x) (sym none) }; once = λ x. omega arith }

-- a removal by index takes out what stands there
pub takes-out : {X : Type 0} (xs : List X) (i : ℕ) (x : X) → i < length xs → get_or xs i x ≡ x → TakesOut x xs (remove xs i)
takes-out xs i x within at = record {
  before = take i xs;
  after = drop (suc i) xs;
  was = sym (take-append-drop i xs) ∙ ap (λ ys. take i xs ++ ys) (drop-cons xs i x within ∙ ap (λ y. y ∷ drop (suc i) xs) at);
  is = refl;
}
