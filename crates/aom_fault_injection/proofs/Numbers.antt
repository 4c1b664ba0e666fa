-- Numbers from a first one on, and what is made of each, by what is left of them.
use Rattle.std.proofs.Common.{◌≡◌, ◌∙◌, ◌≤◌, ◌<◌, ◌+◌, ◌-◌, ℕ, zero, suc, Bool, true, false, cond, List, [], ◌∷◌, ◌++◌, map, sym, ap, arith, append-nil}
use Rattle.std.proofs.Common.{append_assoc}
use Rattle.std.specs.Prelude.{filter}
use Rattle.std.specs.List.{All, flat_map}
use Rattle.std.proofs.lemmas.List.Elements.{All-cons, All-nil, All-append, All-head, All-tail}
use Rattle.aom_fault_injection.specs.Planned.{below, numbers}

-- the first of them, and the others
pub below_step : (first end : ℕ) → first < end → below first end ≡ first ∷ below (first + 1) end
below_step first end within = let more : end - first ≡ suc (end - (first + 1)) = omega (arith, within) in ap (numbers first) more

pub below_none : (first end : ℕ) → end ≤ first → below first end ≡ []
below_none first end past = let none : end - first ≡ 0 = omega (arith, past) in ap (numbers first) none

-- none of them is at the end
numbers_within : (first count end : ℕ) → first + count ≤ end → All (λ n. n < end) (numbers first count)
numbers_within first zero end fits = All-nil (λ n. n < end)
numbers_within first (suc count) end fits =
    All-cons (λ n. n < end) first (numbers (first + 1) count) (omega (arith, fits)) (numbers_within (first + 1) count end (omega (arith, fits)))

pub below_within : (end : ℕ) → All (λ n. n < end) (below 0 end)
below_within end = numbers_within 0 (end - 0) end (omega arith)

module _ {A : Type 0} (f : ℕ → A) (done all : List A) (n end : ℕ) where
  -- one more is done
  pub push_on : n < end → done ++ map f (below n end) ≡ all → (done ++ f n ∷ []) ++ map f (below (n + 1) end) ≡ all
  push_on within so = append_assoc done (f n ∷ []) (map f (below (n + 1) end)) ∙ ap (λ xs. done ++ map f xs) (sym (below_step n end within)) ∙ so

  -- and all are
  pub all_on : end ≤ n → done ++ map f (below n end) ≡ all → done ≡ all
  all_on past so = sym (append-nil done) ∙ ap (λ xs. done ++ map f xs) (sym (below_none n end past)) ∙ so

  -- of those that pass a test
  pub taken_on : (p : ℕ → Bool) → n < end → p n ≡ true → done ++ map f (filter p (below n end)) ≡ all →
      (done ++ f n ∷ []) ++ map f (filter p (below (n + 1) end)) ≡ all
  taken_on p within passes so = append_assoc done (f n ∷ []) (map f (filter p (below (n + 1) end)))
      ∙ ap (λ b. done ++ map f (cond b (n ∷ filter p (below (n + 1) end)) (filter p (below (n + 1) end)))) (sym passes)
      ∙ ap (λ xs. done ++ map f (filter p xs)) (sym (below_step n end within)) ∙ so

  pub passed_on : (p : ℕ → Bool) → n < end → p n ≡ false → done ++ map f (filter p (below n end)) ≡ all → done ++ map f (filter p (below (n + 1) end)) ≡ all
  passed_on p within fails so = ap (λ b. done ++ map f (cond b (n ∷ filter p (below (n + 1) end)) (filter p (below (n + 1) end)))) (sym fails)
      ∙ ap (λ xs. done ++ map f (filter p xs)) (sym (below_step n end within)) ∙ so

module _ {A B : Type 0} (P : A → Type 0) (Q : B → Type 0) (f : A → List B) where
  -- what holds of all that is made of each holds of all together
  pub all_of_each : ((x : A) → P x → All Q (f x)) → (xs : List A) → All P xs → All Q (flat_map f xs)
  all_of_each each [] all = All-nil Q
  all_of_each each (x ∷ xs) all = All-append Q (f x) (flat_map f xs) (each x (All-head P x xs all)) (all_of_each each xs (All-tail P x xs all))
