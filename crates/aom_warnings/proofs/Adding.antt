-- Lists of warnings that are made longer.
use Rattle.std.proofs.Common.{◌≡◌, ◌<◌, ◌+◌, ◌⊎◌, ◌++◌, ◌∷◌, [], ℕ, zero, suc, List, Option, Some, None, arith, get_or, inl, inr, refl, subst, sym}
use Rattle.std.specs.List.{Contains}
use Rattle.std.proofs.lemmas.Bool.Decides.{eqb_tells}
use Rattle.std.proofs.lemmas.List.Elements.{Contains-append_cases, Contains-append_left, Contains-append_right}
use Rattle.aom_image.specs.Image.{Image}
use Rattle.aom_warnings.specs.Warnings.{Adds, AreAll, IsSo, OfFirst, TellsOne, added}
use Rattle.aom_warnings.specs.declared.warning.Warning.{Warning}

is_one : (v w : Warning) → Contains (v ∷ []) w → w ≡ v
is_one v w h = go h.0 h.1 h.2
  where
    go : (k : ℕ) → k < 1 → get_or (v ∷ []) k w ≡ w → w ≡ v
    go zero lt e = sym e
    go (suc k) lt e = absurd (omega (arith, lt))

one_there : (w : Warning) → Contains (w ∷ []) w
one_there w = (0, omega arith, refl)

nowhere : (w : Warning) → Contains [] w → ⊥
nowhere w h = absurd (omega (arith, h.1))

module _ (p : Image) where
  adds_one : (these : Warning → Type 0) (one : Option Warning) (before : List Warning) → TellsOne p these one → Adds p these before (before ++ added one)
  adds_one these None before none = record {
    kept = λ w h. Contains-append_left before [] w h;
    so = λ w h. elim (Contains-append_cases before [] w h) [
      | inl there ↦ inl there
      | inr here ↦ absurd (nowhere w here)
    ];
    told = λ w of so. absurd (none w of so);
  }
  adds_one these (Some v) before one = record {
    kept = λ w h. Contains-append_left before (v ∷ []) w h;
    so = λ w h. elim (Contains-append_cases before (v ∷ []) w h) [
      | inl there ↦ inl there
      | inr here ↦ inr (subst (λ u. IsSo p u) (sym (is_one v w here)) one.0)
    ];
    told = λ w of so. Contains-append_right before (v ∷ []) w (subst (λ u. Contains (v ∷ []) u) (sym (one.1 w of so)) (one_there v));
  }

  pub adds_there : (these : Warning → Type 0) (one : Option Warning) (before after : List Warning) → TellsOne p these one → after ≡ before ++ added one →
      Adds p these before after
  adds_there these one before after tells is = subst (λ ws. Adds p these before ws) (sym is) (adds_one these one before tells)

  pub adds_none : (these : ℕ → Warning → Type 0) (before : List Warning) → Adds p (OfFirst these 0) before before
  adds_none these before = record { kept = λ w h. h; so = λ w h. inl h; told = λ w of so. absurd (omega (arith, of.1)) }

  pub adds_both : (these those all : Warning → Type 0) (before middle after : List Warning) → Adds p these before middle → Adds p those middle after →
      ((w : Warning) → all w → IsSo p w → these w ⊎ those w) → Adds p all before after
  adds_both these those all before middle after one other split = record {
    kept = λ w h. other.kept w (one.kept w h);
    so = λ w h. elim (other.so w h) [
      | inl there ↦ one.so w there
      | inr so ↦ inr so
    ];
    told = λ w of so. elim (split w of so) [
      | inl first ↦ other.kept w (one.told w first so)
      | inr second ↦ other.told w second so
    ];
  }

  pub adds_more : (these : ℕ → Warning → Type 0) (count : ℕ) (before middle after : List Warning) → Adds p (OfFirst these count) before middle →
      Adds p (these count) middle after → Adds p (OfFirst these (count + 1)) before after
  adds_more these count before middle after one other = adds_both (OfFirst these count) (these count) (OfFirst these (count + 1)) before middle after one other
      (λ w of so. elim (eqb_tells of.0 count) [
        | inl same ↦ inr (subst (λ k. these k w) same.1 of.2)
        | inr less ↦ inl (of.0, omega (arith, of.1, less.1), of.2)
      ])

  pub all_added : (these those : Warning → Type 0) (middle after : List Warning) → Adds p these [] middle → Adds p those middle after →
      ((w : Warning) → IsSo p w → these w ⊎ those w) → AreAll p after
  all_added these those middle after one other split =
      let both = adds_both these those (λ w. IsSo p w) [] middle after one other (λ w so of. split w so) in
      record {
        so = λ w h. elim (both.so w h) [
          | inl there ↦ absurd (nowhere w there)
          | inr so ↦ so
        ];
        told = λ w so. both.told w so so;
      }
