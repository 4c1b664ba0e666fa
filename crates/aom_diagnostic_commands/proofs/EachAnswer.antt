-- What the verifier says of one method more, and a refusal that is told behind others.
use Rattle.std.proofs.Common.{◌≡◌, ◌∙◌, ◌<◌, ◌+◌, ◌++◌, ℕ, zero, suc, List, [], ◌∷◌, Bool, Option, Some, None, ap, arith, inl, inr, length, refl, slice_index_or, subst, sym, take}
use Rattle.std.proofs.Math.Seq.{take-suc}
use Rattle.std.proofs.lemmas.Bool.Decides.{eqb_tells}
use Rattle.std.proofs.lemmas.List.{length-append}
use Rattle.aom_image.specs.Image.{Image}
use Rattle.aom_roles.specs.Tables.{at}
use Rattle.aom_verify.specs.declared.refusal.Refusal.{Refusal}
use Rattle.aom_commands.specs.Headline.{Sent}
use Rattle.aom_diagnostic_commands.specs.EachMethod.{AnswersMethod, EachTold, RefusesFirst, somes}
use Rattle.aom_diagnostic_commands.specs.EachMethod.EachTold.{next, none}

-- ---- answers

at_last : {A : Type 0} (xs : List (Option A)) (x : Option A) → at None (xs ++ x ∷ []) (length xs) ≡ x
at_last [] x = refl
at_last (y ∷ ys) x = at_last ys x

at_before : {A : Type 0} (xs : List (Option A)) (x : Option A) (k : ℕ) → k < length xs → at None (xs ++ x ∷ []) k ≡ at None xs k
at_before [] x k below = absurd (omega arith)
at_before (y ∷ ys) x zero below = refl
at_before (y ∷ ys) x (suc k) below = at_before ys x k (omega arith)

somes_more : {A : Type 0} (xs ys : List (Option A)) → somes (xs ++ ys) ≡ somes xs ++ somes ys
somes_more [] ys = refl
somes_more (None ∷ xs) ys = somes_more xs ys
somes_more (Some x ∷ xs) ys = ap (λ zs. x ∷ zs) (somes_more xs ys)

pub none_first : (p : Image) → RefusesFirst p 0 []
none_first p = record { answers = []; given = record { size = refl; each = λ m below. absurd (omega arith) }; are = refl }

pub one_more : (p : Image) (count : ℕ) (refusals : List Refusal) (answer : Option Refusal) → RefusesFirst p count refusals → AnswersMethod p count answer →
    RefusesFirst p (count + 1) (refusals ++ somes (answer ∷ []))
one_more p count refusals answer h k = record {
  answers = h.answers ++ answer ∷ [];
  given = record {
    size = omega (arith, length-append h.answers (answer ∷ []), h.given.size);
    each = λ m below. elim (eqb_tells m count) [
      | inl w ↦ rw (w.1, ← h.given.size, at_last h.answers answer, h.given.size) k
      | inr w ↦ rw (at_before h.answers answer m (omega (arith, w.1, h.given.size, below))) (h.given.each m (omega (arith, w.1, below)))
    ];
  };
  are = rw (h.are) (sym (somes_more h.answers (answer ∷ [])));
}

-- ---- what is told

told_last : (told : Refusal → Sent → Type 0) (refusals : List Refusal) (refusal : Refusal) (before middle now : Option (List ℕ)) (middle_fails fails : Bool) →
    EachTold told refusals (record { before = before; now = middle; failed = middle_fails }) → told refusal (record { before = middle; now = now; failed = fails }) →
    EachTold told (refusals ++ refusal ∷ []) (record { before = before; now = now; failed = fails })
told_last told [] refusal before middle now middle_fails fails (none {errors = _} silent) one =
    next (record { before = middle; now = now; failed = fails }) silent one (none refl)
told_last told (x ∷ xs) refusal before middle now middle_fails fails (next {refusal = _} {others = _} {errors = _} line begins first others) one =
    next line begins first (told_last told xs refusal line.now middle now middle_fails fails others one)

-- one more of a list is told
pub told_next : (told : Refusal → Sent → Type 0) (refusals : List Refusal) (i : ℕ) (other : Refusal) (before middle now : Option (List ℕ)) (middle_fails fails : Bool) →
    i < length refusals → EachTold told (take i refusals) (record { before = before; now = middle; failed = middle_fails }) →
    told (slice_index_or refusals i other) (record { before = middle; now = now; failed = fails }) →
    EachTold told (take (i + 1) refusals) (record { before = before; now = now; failed = fails })
told_next told refusals i other before middle now middle_fails fails within so_far one =
    let more : i + 1 ≡ suc i = omega arith in
    let grown : take (i + 1) refusals ≡ take i refusals ++ slice_index_or refusals i other ∷ [] = ap (λ n. take n refusals) more ∙ take-suc refusals i other within in
    subst (λ xs. EachTold told xs (record { before = before; now = now; failed = fails })) (sym grown)
    (told_last told (take i refusals) (slice_index_or refusals i other) before middle now middle_fails fails so_far one)
