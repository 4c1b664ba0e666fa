-- Lists that are read are no longer than they may be, and each of their elements is in its range.
use Rattle.std.proofs.Common.{◌≡◌, ℕ, ◌<◌, ◌≤◌, ◌==◌, Bool, true, false, List, [], ◌∷◌, ◌++◌, length, All, Result, Ok, codes, nat_lt, subst, arith}
use Rattle.std.specs.Prelude.{if◌then◌else◌}
use Rattle.std.specs.List.{slice_split}
use Rattle.std.specs.Str.{bytes_eq}
use Rattle.std.proofs.lemmas.Bool.{ltb-true}
use Rattle.std.proofs.lemmas.List.{length_push}
use Rattle.std.proofs.lemmas.List.Elements.{All-nil, All-push}
use Rattle.aom_text.specs.declared.fault.AsmFaultKind.{AsmFaultKind}
use Rattle.aom_text.specs.declared.fault.AsmFaultKind.TheVariants.{LimitPassed}
use Rattle.aom_image.specs.WellFormed.{ThingFits}
use Rattle.aom_image.specs.declared.method.Thing.{Thing}
use Rattle.aom_image.specs.declared.method.Thing.TheVariants as owned
use Rattle.aom_syntax.specs.Names.{place_of, referred}
use Rattle.aom_syntax.specs.Reading.{◌>>=◌, as_name, word}
use Rattle.aom_syntax.specs.Classes.{class_of, elements, listed, thing, thing_of}
use Rattle.aom_syntax.specs.declared.scope.Scope.{Scope}
use Rattle.aom_syntax.proofs.Within.{Within, ok_is, passed, seen_within, steps, marked_or}
use Rattle.aom_syntax.proofs.RangedNames.{IsKnown, referred_below}

-- so few elements, and each in its range
pub record ListFits {X : Type 0} (P : X → Type 0) (most : ℕ) (xs : List X) : Type 0 where
  pub few : length xs ≤ most
  pub each : All P xs

module _ {X : Type 0} (P : X → Type 0) (most : ℕ) (one : List ℕ → Result X AsmFaultKind) (fits : (w : List ℕ) (x : X) → one w ≡ Ok x → P x) where
  none : ListFits P most []
  none = record { few = omega arith; each = All-nil P }

  one_more : (front : List X) (x : X) → ListFits P most front → length front < most → P x → ListFits P most (front ++ x ∷ [])
  one_more front x some room p = record { few = omega (arith, length_push front x, room); each = All-push P front x some.each p }

  elements_fit : (front : List X) (ps : List (List ℕ)) (xs : List X) → ListFits P most front → elements most one front ps ≡ Ok xs → ListFits P most xs
  elements_fit front [] xs some is = subst (ListFits P most) (ok_is front xs is) some
  elements_fit front (p ∷ ps) xs some is =
      let t = passed (nat_lt (length front) most) (one p >>= λ x. elements most one (front ++ x ∷ []) ps) LimitPassed xs is in
      let s = steps (one p) (λ x. elements most one (front ++ x ∷ []) ps) xs t.1 in
      elements_fit (front ++ s.first ∷ []) ps xs (one_more front s.first some (ltb-true _ _ t.0) (fits p s.first s.read)) s.second

  pub listed_fits : (w : List ℕ) (xs : List X) → listed most one w ≡ Ok xs → ListFits P most xs
  listed_fits w xs is = go (bytes_eq w (codes "-")) is
    where
      go : (b : Bool) → (if b then Ok [] else elements most one [] (slice_split (λ b. b == 44) w)) ≡ Ok xs → ListFits P most xs
      go true e = subst (ListFits P most) (ok_is [] xs e) none
      go false e = elements_fit [] (slice_split (λ b. b == 44) w) xs none e

-- ---- what may be owned

module _ (scope : Scope) (known : IsKnown scope.is_strict (length scope.classes)) where
  class_below : (w : List ℕ) (c : ℕ) → class_of scope w ≡ Ok c → c < length scope.classes
  class_below w c is =
      let s = steps (as_name w) (λ n. referred scope.is_strict 256 (place_of n scope.classes)) c is in
      referred_below scope.is_strict 256 scope.classes known s.first c s.second

  pub thing_fits : (w : List ℕ) (t : Thing) → thing_of scope w ≡ Ok t → ThingFits (length scope.classes) t
  thing_fits w t is = marked_or (ThingFits (length scope.classes)) _ owned.Message (class_of scope w) (λ c. owned.Object c) t (λ same. tt) (class_below w) is

  pub thing_within : Within (ThingFits (length scope.classes)) (thing scope)
  thing_within = seen_within (ThingFits (length scope.classes)) (thing_of scope) word thing_fits
