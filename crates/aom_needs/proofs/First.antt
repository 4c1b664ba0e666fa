-- The first that is not met, as lists are gone through.
use Rattle.std.proofs.Common.{◌≡◌, ◌∙◌, ℕ, suc, true, false, ◌+◌, ◌<◌, ◌≤◌, List, [], ◌∷◌, ◌++◌, Option, Some, None, ap, arith, drop, inl, inr, length, refl, sym}
use Rattle.std.proofs.Math.ListN.{drop_of_length-le}
use Rattle.std.proofs.Math.Seq.{drop-cons}
use Rattle.std.proofs.lemmas.Bool.{lt-leb}
use Rattle.std.proofs.lemmas.Bool.Decides.{leb_tells}
use Rattle.std.specs.Prelude.{is_some, slice_index_or}
use Rattle.aom_image.specs.Image.{Image}
use Rattle.aom_image.specs.Views.{arguments_of}
use Rattle.aom_image.specs.declared.method.Argument.{Argument}
use Rattle.aom_abstract_state.specs.AbstractState.{AbstractState}
use Rattle.aom_needs.specs.Asked.{argument_wanted, each_wanted}
use Rattle.aom_needs.specs.Wanted.{first_unmet, is_met, unmet_or}
use Rattle.aom_needs.specs.declared.wanted.Wanted.{Wanted}
use Rattle.aom_needs.specs.declared.wanted.Wanted.TheVariants as want
use Rattle.aom_needs.proofs.AbstractStateLemmas.{after, one_on, split}

module _ (p : Image) (m : ℕ) (sh : AbstractState) where
  abbrev first : List Wanted → Option Wanted
  first ws = first_unmet p m sh ws

  -- one more, at its place
  one_more : (ws : List Wanted) (i : ℕ) (w : Wanted) → i < length ws → w ≡ slice_index_or ws i w → first (drop i ws) ≡ unmet_or (is_met p m sh w) w (first (drop (i + 1) ws))
  one_more ws i w within e =
      let next : suc i ≡ i + 1 = omega arith in
      ap first (drop-cons ws i w within ∙ ap (λ (y : Wanted). y ∷ drop (suc i) ws) (sym e) ∙ ap (λ (k : ℕ). w ∷ drop k ws) next)

  pub met_here : (ws : List Wanted) (i : ℕ) (w : Wanted) → i < length ws → w ≡ slice_index_or ws i w → is_met p m sh w ≡ true → first (drop i ws) ≡ first (drop (i + 1) ws)
  met_here ws i w within e met = one_more ws i w within e ∙ ap (λ b. unmet_or b w (first (drop (i + 1) ws))) met

  pub unmet_here : (ws : List Wanted) (i : ℕ) (w : Wanted) → i < length ws → w ≡ slice_index_or ws i w → is_met p m sh w ≡ false → first (drop i ws) ≡ Some w
  unmet_here ws i w within e unmet = one_more ws i w within e ∙ ap (λ b. unmet_or b w (first (drop (i + 1) ws))) unmet

  pub none_here : (ws : List Wanted) (i : ℕ) → length ws ≤ i → first (drop i ws) ≡ None
  none_here ws i past = ap first (drop_of_length-le ws past)

  -- ---- arguments

  abbrev of_one : Wanted → Option Wanted
  of_one w = first (w ∷ [])

  one_argument : (xs : List Argument) (n i : ℕ) (x : Argument) → i < length xs → x ≡ slice_index_or xs i x →
      first (each_wanted (drop i xs) (n + i)) ≡ unmet_or (is_met p m sh (argument_wanted x (n + i))) (argument_wanted x (n + i)) (first (each_wanted (drop (i + 1) xs) (n + (i + 1))))
  one_argument xs n i x within e =
      ap (λ (l : List Argument). first (each_wanted l (n + i))) (split xs i x within e ∙ ap (λ (l : List Argument). x ∷ l) (one_on xs i))
      ∙ ap (λ (k : ℕ). unmet_or (is_met p m sh (argument_wanted x (n + i))) (argument_wanted x (n + i)) (first (each_wanted (drop (i + 1) xs) k))) (after n i)

  -- alone it is found as it is before others
  alone : (w : Wanted) (next : Option Wanted) → is_some (of_one w) ≡ false → unmet_or (is_met p m sh w) w next ≡ next
  alone w next none = elim (is_met p m sh w) as (λ b. is_some (unmet_or b w None) ≡ false → unmet_or b w next ≡ next) [
    | true ↦ λ e. refl
    | false ↦ λ e. absurd cc
  ] none

  alone_unmet : (w : Wanted) (next : Option Wanted) → is_some (of_one w) ≡ true → unmet_or (is_met p m sh w) w next ≡ of_one w
  alone_unmet w next some = elim (is_met p m sh w) as (λ b. is_some (unmet_or b w None) ≡ true → unmet_or b w next ≡ unmet_or b w None) [
    | true ↦ λ e. absurd cc
    | false ↦ λ e. refl
  ] some

  pub argument_met : (xs : List Argument) (n i : ℕ) (x : Argument) → i < length xs → x ≡ slice_index_or xs i x →
      is_some (of_one (argument_wanted x (n + i))) ≡ false → first (each_wanted (drop i xs) (n + i)) ≡ first (each_wanted (drop (i + 1) xs) (n + (i + 1)))
  argument_met xs n i x within e none = one_argument xs n i x within e ∙ alone (argument_wanted x (n + i)) (first (each_wanted (drop (i + 1) xs) (n + (i + 1)))) none

  pub argument_unmet : (xs : List Argument) (n i : ℕ) (x : Argument) → i < length xs → x ≡ slice_index_or xs i x →
      is_some (of_one (argument_wanted x (n + i))) ≡ true → first (each_wanted (drop i xs) (n + i)) ≡ of_one (argument_wanted x (n + i))
  argument_unmet xs n i x within e some =
      one_argument xs n i x within e ∙ alone_unmet (argument_wanted x (n + i)) (first (each_wanted (drop (i + 1) xs) (n + (i + 1)))) some

  pub arguments_done : (xs : List Argument) (i n : ℕ) → length xs ≤ i → first (each_wanted (drop i xs) n) ≡ None
  arguments_done xs i n past = ap (λ (l : List Argument). first (each_wanted l n)) (drop_of_length-le xs past)

  -- ---- parts

  first_part : (xs ys : List Wanted) → is_some (first xs) ≡ true → first (xs ++ ys) ≡ first xs
  first_part [] ys e = absurd cc
  first_part (x ∷ xs) ys e = elim (is_met p m sh x) as (λ b. is_some (unmet_or b x (first xs)) ≡ true → unmet_or b x (first (xs ++ ys)) ≡ unmet_or b x (first xs)) [
    | true ↦ λ e. first_part xs ys e
    | false ↦ λ e. refl
  ] e

  second_part : (xs ys : List Wanted) → is_some (first xs) ≡ false → first (xs ++ ys) ≡ first ys
  second_part [] ys e = refl
  second_part (x ∷ xs) ys e = elim (is_met p m sh x) as (λ b. is_some (unmet_or b x (first xs)) ≡ false → unmet_or b x (first (xs ++ ys)) ≡ first ys) [
    | true ↦ λ e. second_part xs ys e
    | false ↦ λ e. absurd cc
  ] e

  pub found : (xs ys : List Wanted) (o : Option Wanted) → o ≡ first xs → is_some o ≡ true → o ≡ first (xs ++ ys)
  found xs ys o is some = is ∙ sym (first_part xs ys (ap is_some (sym is) ∙ some))

  pub absent : (xs ys : List Wanted) (o : Option Wanted) → o ≡ first xs → is_some o ≡ false → first (xs ++ ys) ≡ first ys
  absent xs ys o is none = second_part xs ys (ap is_some (sym is) ∙ none)

  -- all arguments are in registers
  pub within : (m' n : ℕ) → is_some (of_one (want.Arguments m' n)) ≡ false → n + length (arguments_of p m') ≤ 16
  within m' n none = elim (leb_tells (n + length (arguments_of p m')) 16) [
    | inl w ↦ w.1
    | inr w ↦
        let some : is_some (of_one (want.Arguments m' n)) ≡ true = ap (λ b. is_some (unmet_or b (want.Arguments m' n) None)) (lt-leb (n + length (arguments_of p m')) 16 w.1) in
        absurd cc
  ]
