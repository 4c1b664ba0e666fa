-- The innermost loops round two places that follow each other, and the list of the loops that a pass is in.
use Rattle.std.proofs.Common.{◌≡◌, ℕ, suc, ◌<◌, List, length, Option, Some, None, slice_set, inl, inr, sym, ap, ◌∙◌, subst, arith}
use Rattle.std.proofs.lemmas.Bool.Decides.{eqb_tells, leb_tells}
use Rattle.aom_image.specs.Image.{Image}
use Rattle.aom_image.specs.Views.{instr_at, transfer_at}
use Rattle.aom_instructions.specs.declared.instr.Instr.{Instr}
use Rattle.aom_link_conditions.specs.Bodies.{Body, IsIn, IsLooped}
use Rattle.aom_link_conditions.specs.Loops.{loop_in, next_in}
use Rattle.aom_roles.specs.Tables.{at}
use Rattle.aom_budget.proofs.AbstractStateLemmas.{at_set_here, at_set_other}
use Rattle.aom_static_bounds.specs.Costs.{Region, Whole, Round}
use Rattle.aom_static_bounds.specs.Sweeping.{IsInnermost}
use Rattle.aom_budget.proofs.StaticBoundsLemmas.{LoopIn, not_both_in, same_back, ends_before, goes_so, nested, no_loop_here, no_next_here, one_end}
use Rattle.aom_budget.specs.Pricing.{IsWithin, region_of}
use Rattle.aom_budget.specs.declared.pass.Round as rounds

module _ (p : Image) (m : ℕ) where
  Enters : ℕ → ℕ → Type 0
  Enters x y = (f e d n : ℕ) → Body p m f e d n → IsIn f e x → IsIn f e y

  same_loops : (x y : ℕ) (r : Region) → Enters x y → Enters y x → IsInnermost p m x r → IsInnermost p m y r
  unfolding Enters
  same_loops x y Whole there back h = record { body = tt; inside = tt; others = λ f e d n b inside. h.others f e d n b (back f e d n b inside) }
  same_loops x y (Round f e) there back h = record {
    body = h.body;
    inside = there f e h.body.0 h.body.1 h.body.2 h.inside;
    others = λ g k d n b inside. h.others g k d n b (back g k d n b inside);
  }

  pub no_body_begins : (x f e d n : ℕ) (i : Instr) → instr_at p m x ≡ Some i → loop_in (Some i) ≡ None → Body p m f e d n → f ≡ x → ⊥
  no_body_begins x f e d n i stands none b same =
      no_loop_here i d n none (goes_so _ i _ stands (ap (λ y. transfer_at p m y) (sym same) ∙ b.begins))

  pub no_body_ends : (x f e d n : ℕ) (i : Instr) → instr_at p m x ≡ Some i → next_in (Some i) ≡ None → Body p m f e d n → e ≡ x → ⊥
  no_body_ends x f e d n i stands none b same =
      no_next_here i d (suc f) none (goes_so _ i _ stands (ap (λ y. transfer_at p m y) (sym same) ∙ b.ends))

  -- nor does a loop end one
  pub loop_ends_none : (x f e d n k l : ℕ) → LoopIn (instr_at p m x) k l → Body p m f e d n → e ≡ x → ⊥
  loop_ends_none x f e d n k l stands b same = not_both_in (instr_at p m x) k l d (suc f) stands (ap (λ y. transfer_at p m y) (sym same) ∙ b.ends)

  -- a next closes one loop
  pub one_begin : (f g x d n k l : ℕ) → Body p m f x d n → Body p m g x k l → f ≡ g
  one_begin f g x d n k l b c = omega (arith, same_back (instr_at p m x) d (suc f) k (suc g) b.ends c.ends)

  module _ (looped : IsLooped p) where
    plain_here : (x : ℕ) (i : Instr) (r : Region) → instr_at p m x ≡ Some i → loop_in (Some i) ≡ None → next_in (Some i) ≡ None →
        IsInnermost p m (suc x) r → IsInnermost p m x r
    unfolding Enters
    plain_here x i r stands no_loop no_next h = same_loops (suc x) x r (λ f e d n b inside. elim (eqb_tells f x) [
      | inl w ↦ absurd (no_body_begins x f e d n i stands no_loop b w.1)
      | inr w ↦ (omega (arith, inside.0, w.1), omega (arith, inside.1))
    ]) (λ f e d n b inside. elim (eqb_tells e x) [
      | inl w ↦ absurd (no_body_ends x f e d n i stands no_next b w.1)
      | inr w ↦ (omega (arith, inside.0), omega (arith, inside.1, w.1))
    ]) h

    -- the loops after a body are those round it
    pub next_around : (f x d n : ℕ) (r : Region) → Body p m f x d n → IsInnermost p m (suc x) r → IsInnermost p m f r
    unfolding Enters
    next_around f x d n r body h = same_loops (suc x) f r there back h
      where
        there : (g k c l : ℕ) → Body p m g k c l → IsIn g k (suc x) → IsIn g k f
        there g k c l b inside = elim (leb_tells f g) [
          | inl w ↦ elim (eqb_tells g x) [
            | inl v ↦ absurd (not_both_in (instr_at p m x) c l d (suc f) (ap (λ y. transfer_at p m y) (sym v.1) ∙ b.begins) body.ends)
            | inr v ↦
                let ends = nested p looped m f x d n g k c l body b w.1 (omega (arith, inside.0, v.1)) in
                absurd (omega (arith, ends, inside.1))
          ]
          | inr w ↦ (w.1, omega (arith, body.later, inside.1))
        ]

        back : (g k c l : ℕ) → Body p m g k c l → IsIn g k f → IsIn g k (suc x)
        back g k c l b inside =
            let ends = ends_before p looped m g k c l f x d n b body inside in
            elim (eqb_tells k x) [
              | inl w ↦
                  let closes = subst (λ y. Body p m g y c l) w.1 b in
                  absurd (omega (arith, one_begin f g x d n c l body closes, inside.0))
              | inr w ↦ (omega (arith, inside.0, body.later), omega (arith, ends, w.1))
            ]

    pub next_here : (f x d n : ℕ) → Body p m f x d n → IsInnermost p m x (Round f x)
    next_here f x d n body = record {
      body = (d, n, body);
      inside = (body.later, omega arith);
      others = λ g k c l b inside. elim (leb_tells g f) [
        | inl w ↦ w.1
        | inr w ↦
            let ends = nested p looped m f x d n g k c l body b (omega (arith, w.1)) inside.0 in
            let last : k ≡ x = omega (arith, ends, inside.1) in
            let closes = subst (λ y. Body p m g y c l) last b in
            absurd (omega (arith, one_begin f g x d n c l body closes, w.1))
      ];
    }

    -- ---- the loops that the pass is in

    pub within_plain : (x : ℕ) (i : Instr) (inner : Option rounds.Round) (around : List (Option rounds.Round)) → instr_at p m x ≡ Some i →
        loop_in (Some i) ≡ None → next_in (Some i) ≡ None → IsWithin p m (suc x) inner around → IsWithin p m x inner around
    within_plain x i inner around stands no_loop no_next h = record {
      here = plain_here x i (region_of inner) stands no_loop no_next h.here;
      loops = λ f e d n before after b. elim (eqb_tells e x) [
        | inl w ↦ absurd (no_body_ends x f e d n i stands no_next b w.1)
        | inr w ↦ h.loops f e d n (omega (arith, before)) (omega (arith, after, w.1)) b
      ];
    }

    pub within_loop : (x d n : ℕ) (inner : Option rounds.Round) (around : List (Option rounds.Round)) → LoopIn (instr_at p m x) d n →
        IsWithin p m (suc x) inner around → IsWithin p m x (at None around x) around
    unfolding next_in
    within_loop x d n inner around stands h =
        let begins = looped.begins m x d n stands in
        record {
          here = h.loops x begins.1 d n (omega arith) (begins.2).later begins.2;
          loops = λ f e c l before after b. elim (eqb_tells e x) [
            | inl w ↦ absurd (loop_ends_none x f e c l d n stands b w.1)
            | inr w ↦ h.loops f e c l (omega (arith, before)) (omega (arith, after, w.1)) b
          ];
        }

    pub within_next : (f x d n : ℕ) (inner : Option rounds.Round) (around : List (Option rounds.Round)) → Body p m f x d n → f < length around →
        IsWithin p m (suc x) inner around → IsWithin p m x (Some (record { first = f; last = x })) (slice_set around f inner)
    within_next f x d n inner around body room h = record {
      here = next_here f x d n body;
      loops = λ g k c l before after b. elim (eqb_tells k x) [
        | inl w ↦
            let closes = subst (λ y. Body p m g y c l) w.1 b in
            let same = one_begin f g x d n c l body closes in
            rw (sym same, at_set_here None around f inner room) (next_around f x d n (region_of inner) body h.here)
        | inr w ↦
            let old = h.loops g k c l (omega (arith, before)) (omega (arith, after, w.1)) b in
            let other = λ (same : g ≡ f). w.1 (one_end p looped m f x k d n c l body (subst (λ y. Body p m y k c l) same b)) in
            rw (at_set_other None around f g inner other) old
      ];
    }
