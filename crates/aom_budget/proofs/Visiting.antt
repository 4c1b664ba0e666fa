-- One place more of a pass, with the loops that it is in.
use Rattle.std.proofs.Common.{◌≡◌, ◌≢◌, ℕ, suc, ◌<◌, ◌≤◌, ◌+◌, ◌-◌, ◌*◌, List, length, replicate, Option, Some, None, IsSome, slice_set, sym, ap, ◌∙◌, subst}
use Rattle.std.proofs.Common.{arith}
use Rattle.std.specs.Prelude.{max}
use Rattle.std.proofs.lemmas.List.{length-set, length-replicate}
use Rattle.aom_image.specs.Image.{Image}
use Rattle.aom_image.specs.Views.{instr_at}
use Rattle.aom_instructions.specs.declared.instr.Instr.{Instr}
use Rattle.aom_image.specs.WellFormed.{WellFormed}
use Rattle.aom_budget.proofs.LinkConditionsLemmas.{linked_is_looped}
use Rattle.aom_link_conditions.specs.Bodies.{Body, IsLooped}
use Rattle.aom_link_conditions.specs.Linked.{IsLinked}
use Rattle.aom_link_conditions.specs.Loops.{loop_in, next_in, repeated_by}
use Rattle.aom_abstract_state.specs.AbstractState.{AbstractState}
use Rattle.aom_roles.specs.Tables.{at}
use Rattle.aom_budget.proofs.AbstractStateLemmas.{at_set_here, at_set_other}
use Rattle.aom_static_bounds.specs.Shapes.{Shapes}
use Rattle.aom_static_bounds.specs.Strongest.{IsMethodStrongest}
use Rattle.aom_verify.specs.Sweep.{HasPlaces}
use Rattle.aom_budget.proofs.VerifyLemmas.{has_instr}
use Rattle.aom_static_bounds.specs.Costs.{Region, Whole, Round}
use Rattle.aom_budget.proofs.StaticBoundsLemmas.{BeginsLoop, EndsRound, LoopIn, by_kind, next_is_no_loop, one_end, stands_so}
use Rattle.aom_budget.specs.Pricing.{AreKept, kept, after_in, Follows, IsPassing, region_of, found_by, plain_cost}
use Rattle.aom_budget.specs.declared.pass.Round as rounds
use Rattle.aom_budget.proofs.Passing.{Extends}
use Rattle.aom_budget.proofs.Placing.{plain_more, loop_more, next_more}
use Rattle.aom_budget.proofs.Rounds.{within_plain, within_loop, within_next}

pub instr_there : (p : Image) (m n place : ℕ) → HasPlaces p m n → place < n → IsSome (instr_at p m place)
instr_there p m n place h within =
    let size = length-replicate {A = Option AbstractState} n None in
    has_instr p m (replicate n None) place (record { method = h.method; is = h.is; size = size ∙ h.size }) (omega (arith, within, size))

-- a next closes a loop that begins before it
pub next_closes : (p q : Image) → q ≡ p → WellFormed q → IsLinked p → (m place d to : ℕ) (i : Instr) → instr_at p m place ≡ Some i → EndsRound i d to →
    (from : ℕ) × (n : ℕ) × Body p m from place d n × (to ≡ suc from)
next_closes p q same formed linked m place d to i stands is =
    (linked_is_looped p (subst WellFormed same formed) linked).closes m place d to (stands_so _ i _ stands is)

pub no_loop : (i : Instr) → ((d n : ℕ) → BeginsLoop i d n → ⊥) → loop_in (Some i) ≡ None
no_loop i h = by_kind (loop_in (Some i) ≡ None) i (λ loop next. loop) (λ d n e. absurd (h d n e)) (next_is_no_loop i)

pub no_next : (i : Instr) → ((d to : ℕ) → EndsRound i d to → ⊥) → next_in (Some i) ≡ None
unfolding next_in
no_next i h = by_kind (next_in (Some i) ≡ None) i (λ loop next. next) (λ d n e. ap (λ t. repeated_by (Some t)) e) (λ d to e. absurd (h d to e))

low_in : (after : List ℕ) (r : Region) → AreKept after → after_in after r ≤ 4294967296
low_in after Whole low = omega arith
low_in after (Round f e) low = low.each f

module _ (p : Image) (prices : List ℕ) (m : ℕ) (s : Shapes) (looped : IsLooped p) (linked : IsLinked p) (strongest : IsMethodStrongest p m s) where
  module _ (x : ℕ) (from after : List ℕ) (inner : Option rounds.Round) (around : List (Option rounds.Round))
      (h : IsPassing p prices m s (suc x) from after inner around) where
    module _ (low : AreKept from) (low_after : AreKept after) (from' after' : List ℕ) (others : (y : ℕ) → y ≢ x → at 0 from' y ≡ at 0 from y)
        (size : length from' ≡ length from) where
      kept_on : (same : after' ≡ after) → Extends p m x (found_by from after) (found_by from' after')
      kept_on same = record { from_costs = λ y past. others y (λ e. omega (arith, past, e)); loop_exits = λ f to d n past b. ap (λ l. at 0 l f) same }

      pub visit_plain :
          (i : Instr) → instr_at p m x ≡ Some i → loop_in (Some i) ≡ None → next_in (Some i) ≡ None → after' ≡ after →
          ((sh : AbstractState) → at None s x ≡ Some sh → at 0 from' x ≡ plain_cost p m prices (found_by from after) (region_of inner) x sh i) →
          IsPassing p prices m s x from' after' inner around
      visit_plain i stands no_loop no_next same value =
          let within = within_plain p m looped x i inner around stands no_loop no_next h.within in
          let low_there = low_in after (region_of inner) low_after in
          record {
            passed = plain_more p prices m s looped linked strongest x _ _ (kept_on same) h.passed i stands no_loop no_next
                (region_of inner) within.here same low_there value;
            within = within;
            places = rw size h.places;
            after_size = rw (size, same) h.after_size;
            around_size = rw size h.around_size;
          }

      pub visit_loop :
          (d n : ℕ) → LoopIn (instr_at p m x) d n → after' ≡ after →
          ((sh : AbstractState) → at None s x ≡ Some sh → at 0 from' x ≡ kept (1 + (n - 1) * (at 0 from (suc x) - at 0 after x) + at 0 from (suc x))) →
          IsPassing p prices m s x from' after' (at None around x) around
      visit_loop d n stands same value = record {
        passed = loop_more p prices m s looped linked strongest x _ _ (kept_on same) h.passed d n stands same low value;
        within = within_loop p m looped x d n inner around stands h.within;
        places = rw size h.places;
        after_size = rw (size, same) h.after_size;
        around_size = rw size h.around_size;
      }

      next_on : (f d n w : ℕ) → Body p m f x d n → after' ≡ slice_set after f w → Extends p m x (found_by from after) (found_by from' after')
      next_on f d n w body is = record {
        from_costs = λ y past. others y (λ e. omega (arith, past, e));
        loop_exits = λ g to e l past b.
            let other : g ≢ f = λ same. let ends = one_end p looped m f x to d n e l body (subst (λ y. Body p m y to e l) same b) in omega (arith, ends, past) in
            ap (λ l. at 0 l g) is ∙ at_set_other 0 after f g w other;
      }

      pub visit_next : (f d n w : ℕ) → Body p m f x d n → f < length from → Follows p m s from (after_in after (region_of inner)) f x w →
          w ≤ 4294967296 → after' ≡ slice_set after f w → ((sh : AbstractState) → at None s x ≡ Some sh → at 0 from' x ≡ kept (1 + w)) →
          IsPassing p prices m s x from' after' (Some (record { first = f; last = x })) (slice_set around f inner)
      visit_next f d n w body inside follows small is value =
          let room : f < length after = omega (arith, inside, h.after_size) in
          let room_around : f < length around = omega (arith, inside, h.around_size) in
          let here : at 0 after' f ≡ max (after_in after (region_of inner)) follows.most = ap (λ l. at 0 l f) is ∙ (at_set_here 0 after f w room ∙ follows.is) in
          let set_size = length-set after f w in
          record {
            passed = next_more p prices m s looped linked strongest x _ _ (next_on f d n w body is) h.passed f d n body (region_of inner) h.within.here
                follows.most follows.exits here low (λ sh there. value sh there ∙ ap (λ k. kept (1 + k)) follows.is) (rw (sym follows.is) small);
            within = within_next p m looped f x d n inner around body room_around h.within;
            places = rw size h.places;
            after_size = rw (is, size) (set_size ∙ h.after_size);
            around_size = rw size (length-set around f inner ∙ h.around_size);
          }
