-- The dearest place to which a loop's body goes out, where it goes out at all.
use Rattle.std.proofs.Common.{◌≡◌, ◌<◌, ◌≤◌, ◌∙◌, ℕ, zero, suc, cond, List, [], ◌∷◌, Option, Some, None, inl, inr, refl, ap, arith}
use Rattle.std.specs.Prelude.{max, nat_lt}
use Rattle.std.proofs.lemmas.Bool.{lt-ltb, ltb-true}
use Rattle.aom_image.specs.Image.{Image}
use Rattle.aom_image.specs.Views.{instr_at}
use Rattle.aom_instructions.specs.declared.instr.Instr.{Instr}
use Rattle.aom_abstract_state.specs.Needs.{Flow}
use Rattle.aom_typing_rules.specs.Rules.{flows}
use Rattle.aom_abstract_state.specs.AbstractState.{AbstractState}
use Rattle.aom_typing_rules.specs.Typing.{Typing, shape_at}
use Rattle.aom_static_bounds.specs.Prices.{Stands}
use Rattle.aom_static_bounds.specs.Costs.{AmongFlows, GoesOut}
use Rattle.aom_static_bounds.proofs.Among.{by_flow, either_cond, either_max, from_there}

-- ---- of flows past the end

unfoldable pub flows_out : (end : ℕ) → (ℕ → ℕ) → List Flow → ℕ
flows_out end h [] = 0
flows_out end h (f ∷ fs) = max (cond (nat_lt end f.0) (h f.0) 0) (flows_out end h fs)

flows_most : (end to : ℕ) (h : ℕ → ℕ) (fs : List Flow) → AmongFlows to fs → end < to → h to ≤ flows_out end h fs
unfolding flows_out
flows_most end to h fs among past = by_flow to (λ gs. h to ≤ flows_out end h gs) (λ f gs e. omega (arith, this f.0 e)) (λ f gs le. omega (arith, le)) fs among
  where
    this : (x : ℕ) → x ≡ to → cond (nat_lt end x) (h x) 0 ≡ h to
    this x e = ap (λ y. cond (nat_lt end y) (h y) 0) e ∙ ap (λ b. cond b (h to) 0) (lt-ltb end to past)

-- what holds of 0 and of each flow past the end holds of the dearest
flows_one : (end : ℕ) (h : ℕ → ℕ) (P : ℕ → Type 0) → P 0 → (fs : List Flow) → ((to : ℕ) → AmongFlows to fs → end < to → P (h to)) → P (flows_out end h fs)
unfolding flows_out
flows_one end h P none [] one = none
flows_one end h P none (f ∷ fs) one = either_max P (cond (nat_lt end f.0) (h f.0) 0) (flows_out end h fs)
    (either_cond P (nat_lt end f.0) (h f.0) 0 (λ past. one f.0 (inl refl) (ltb-true end f.0 past)) (λ near. none))
    (flows_one end h P none fs (λ to among. one to (inr among)))

-- ---- of a body's places

module _ (p : Image) (t : Typing) (m from end : ℕ) (h : ℕ → ℕ) where
  unfoldable pub place_out : (place : ℕ) → Option AbstractState → Option Instr → ℕ
  place_out place None i = 0
  place_out place (Some sh) None = 0
  place_out place (Some sh) (Some i) = flows_out end h (flows p m place sh i)

  -- of the body's places below a number
  unfoldable pub body_out : ℕ → ℕ
  body_out zero = 0
  body_out (suc n) = max (body_out n) (cond (nat_lt from n) (place_out n (shape_at t m n) (instr_at p m n)) 0)

  place_most : (place to : ℕ) (sh : AbstractState) (i : Instr) → Stands p t m place sh i → AmongFlows to (flows p m place sh i) → end < to →
      h to ≤ place_out place (shape_at t m place) (instr_at p m place)
  unfolding place_out
  place_most place to sh i at among past = rw (at.shape, at.instr) (flows_most end to h (flows p m place sh i) among past)

  body_most : (n to : ℕ) (g : GoesOut p t m from end to) → g.place < n → h to ≤ body_out n
  unfolding body_out
  body_most n to g below = from_there (λ k. h to ≤ body_out k) (suc g.place) n (omega (arith, here, counts)) (λ k le. omega (arith, le)) (omega (arith, below))
    where
      there : ℕ
      there = place_out g.place (shape_at t m g.place) (instr_at p m g.place)

      here : h to ≤ there
      here = place_most g.place to g.shape g.instr g.stands g.flow g.outside

      counts : cond (nat_lt from g.place) there 0 ≡ there
      counts = ap (λ b. cond b there 0) (lt-ltb from g.place g.inside.0)

  pub exit_most : (to : ℕ) → GoesOut p t m from end to → h to ≤ body_out (suc end)
  exit_most to g = body_most (suc end) to g (omega (arith, g.inside.1))

  -- what holds of 0 and of each place to which the body goes out holds of the dearest
  module _ (P : ℕ → Type 0) (none : P 0) (one : (to : ℕ) → GoesOut p t m from end to → P (h to)) where
    place_one : (place : ℕ) → from < place → place ≤ end → (s : Option AbstractState) (o : Option Instr) → shape_at t m place ≡ s →
        instr_at p m place ≡ o → P (place_out place s o)
    unfolding place_out
    place_one place after upto (Some sh) (Some i) es eo = flows_one end h P none (flows p m place sh i) (λ to among past. one to
        (record { place = place; inside = (after, upto); shape = sh; instr = i; stands = record { shape = es; instr = eo }; flow = among; outside = past }))
    place_one place after upto (Some sh) None es eo = none
    place_one place after upto None o es eo = none

    body_one : (n : ℕ) → n ≤ suc end → P (body_out n)
    unfolding body_out
    body_one zero within = none
    body_one (suc n) within = either_max P (body_out n) (cond (nat_lt from n) there 0) (body_one n (omega (arith, within)))
        (either_cond P (nat_lt from n) there 0 (λ past. place_one n (ltb-true from n past) (omega (arith, within)) _ _ refl refl) (λ near. none))
      where
        there : ℕ
        there = place_out n (shape_at t m n) (instr_at p m n)

    pub exit_one : P (body_out (suc end))
    exit_one = body_one (suc end) (omega arith)
