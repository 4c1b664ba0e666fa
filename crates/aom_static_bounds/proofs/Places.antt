-- What the pass finds at a place, by the instruction that stands there.
use Rattle.std.proofs.lemmas.Bool.Decides.{nat_tests}
use Rattle.std.proofs.lemmas.Option.{same_Some}
use Rattle.std.proofs.Common.{◌≡◌, ◌≤◌, ◌+◌, ◌-◌, ◌*◌, ◌∙◌, ℕ, suc, Option, Some, None, sym, ap, arith, subst}
use Rattle.std.specs.Prelude.{IsSome, max}
use Rattle.aom_image.specs.Image.{Image}
use Rattle.aom_image.specs.Views.{instr_at, transfer_at, transfer_in}
use Rattle.aom_instructions.specs.declared.instr.Instr.{Instr}
use Rattle.aom_instructions.specs.declared.transfer.Transfer.{Transfer}
use Rattle.aom_instructions.specs.declared.transfer.Transfer.TheVariants.{Begin, Repeat}
use Rattle.aom_link_conditions.specs.Bodies.{IsLooped}
use Rattle.aom_link_conditions.specs.Loops.{loop_in, next_in}
use Rattle.aom_typing_rules.specs.Rules.{flows}
use Rattle.aom_abstract_state.specs.AbstractState.{AbstractState}
use Rattle.aom_typing_rules.specs.Typing.{IsTyped, Passes, Typing, shape_at}
use Rattle.aom_static_bounds.specs.Prices.{NextStands, Prices, Stands, own}
use Rattle.aom_static_bounds.specs.Costs.{Region}
use Rattle.aom_static_bounds.specs.Sweeping.{LoopExits, IsAfter, IsInnermost, after, most_within}
use Rattle.aom_static_bounds.proofs.At.{IsSweptAt}
use Rattle.aom_static_bounds.proofs.Adding.{leads_on, reached_is_some}
use Rattle.aom_static_bounds.proofs.Regions.{BeginsLoop, EndsRound, LoopIn, NextIn, begins_on, by_kind, innermost_of_next, no_loop_here, no_next_here}
use Rattle.aom_static_bounds.proofs.Regions.{not_both_in, same_back, same_rounds, stands_as}
use Rattle.aom_static_bounds.proofs.Ways.{IsReached}

no_instr : (o : Option Instr) (i : Instr) → o ≡ None → o ≡ Some i → ⊥
no_instr o i none some = let clash : None ≡ Some i = sym none ∙ some in cc

instr_same : (o : Option Instr) (i j : Instr) → o ≡ Some i → o ≡ Some j → i ≡ j
instr_same o i j a b = same_Some i j (sym a ∙ b)

transfer_same : (o : Option Transfer) (u v : Transfer) → o ≡ Some u → o ≡ Some v → u ≡ v
transfer_same o u v a b = same_Some u v (sym a ∙ b)

module _ (keep : ℕ → ℕ) (p : Image) (t : Typing) (c : Prices) (a : LoopExits) (m place : ℕ) where
  same_from : (d from e f : ℕ) → NextIn (instr_at p m place) d (suc from) → NextIn (instr_at p m place) e (suc f) → from ≡ f
  same_from d from e f one other = let same = same_back (instr_at p m place) d (suc from) e (suc f) one other in omega (arith, same)

  pub nothing_there : instr_at p m place ≡ None → IsSweptAt keep p t c a m place
  nothing_there none = search (arith, nat_tests, no_instr)

  -- an instruction that neither begins a loop nor ends a round
  pub plain_there : (i : Instr) → instr_at p m place ≡ Some i → loop_in (Some i) ≡ None → next_in (Some i) ≡ None →
      ((sh : AbstractState) (r : Region) → Stands p t m place sh i → IsInnermost p m place r →
      c.from m place ≡ keep (own p m c sh i + max (after a m r) (most_within c m r (flows p m place sh i)))) → IsSweptAt keep p t c a m place
  plain_there i there no_loop no_next found = search (arith, nat_tests, instr_same, c.from m place, no_loop_here i, no_next_here i)

  pub loop_there : (d n : ℕ) → LoopIn (instr_at p m place) d n → c.from m place ≡ keep (1 + (n - 1) * c.round m place + c.from m (suc place)) →
      (IsSome (shape_at t m (suc place)) → c.from m (suc place) ≡ c.round m place + a m place) → IsSweptAt keep p t c a m place
  loop_there d n there found round = record {
    plain = λ sh j r at l k w. absurd (no_loop_here j d n l (transfer_same (transfer_at p m place) _ _ (ap transfer_in at.instr) there));
    loops = λ e k sh at. let same = same_rounds (instr_at p m place) d n e k there at.goes in subst (λ x. c.from m place ≡ keep (1 + (x - 1) * c.round m place
        + c.from m (suc place))) same found;
    next_places = λ e from sh at. absurd (not_both_in (instr_at p m place) d n e (suc from) there at.goes);
    rounds = λ to e k body reached. round reached;
    loop_exits = λ from e k r body. absurd (not_both_in (instr_at p m place) d n e (suc from) there body.ends);
  }

  pub next_there : (d from : ℕ) → NextIn (instr_at p m place) d (suc from) → c.from m place ≡ keep (1 + a m from) →
      ((r : Region) → IsInnermost p m from r → IsAfter p t c a m from place r) → IsSweptAt keep p t c a m place
  next_there d from there found follows = record {
    plain = λ sh j r at l n w. absurd (no_next_here j d (suc from) n (transfer_same (transfer_at p m place) _ _ (ap transfer_in at.instr) there));
    loops = λ e k sh at. absurd (not_both_in (instr_at p m place) e k d (suc from) at.goes there);
    next_places = λ e f sh at. let same = same_from d from e f there at.goes in subst (λ x. c.from m place ≡ keep (1 + a m x)) same found;
    rounds = λ to e k body. absurd (not_both_in (instr_at p m place) e k d (suc from) body.begins there);
    loop_exits = λ f e k r body w. let same = same_from d from e f there body.ends in
        subst (λ x. IsAfter p t c a m x place r) same (follows r (subst (λ x. IsInnermost p m x r) (sym same) w));
  }

-- what is found at a place is no less than what follows the region that it stands in, where that is within what is kept
module _ (keep : ℕ → ℕ) (p : Image) (t : Typing) (looped : IsLooped p) (typed : IsTyped p t) (c : Prices) (a : LoopExits)
    (m place : ℕ) (r : Region) (fits : (x : ℕ) → after a m r ≤ x → after a m r ≤ keep x) (swept : (k : ℕ) → place ≤ k → IsSweptAt keep p t c a m k) where
  pub pays_after : IsReached t m place → IsInnermost p m place r → after a m r ≤ c.from m place
  pays_after reached w = by_kind (after a m r ≤ c.from m place) passes.instr plain loop next
    where
      passes : Passes p t m place reached.0
      passes = typed.each m place reached.0 reached.1

      at : Stands p t m place reached.0 passes.instr
      at = record { shape = reached.1; instr = passes.stands }

      kept : (x : ℕ) → c.from m place ≡ keep x → after a m r ≤ x → after a m r ≤ c.from m place
      kept x e le = omega (arith, e, fits x le)

      plain : loop_in (Some passes.instr) ≡ None → next_in (Some passes.instr) ≡ None → after a m r ≤ c.from m place
      plain l n = kept _ ((swept place (omega arith)).plain reached.0 passes.instr r at l n w) (omega arith)

      loop : (d n : ℕ) → BeginsLoop passes.instr d n → after a m r ≤ c.from m place
      loop d n is =
          let here = stands_as p t m place reached.0 (Begin d n) passes.instr at is in
          let begins = looped.begins m place d n here.goes in
          let later = begins.2.later in
          let next = leads_on p t m typed place (suc place) reached.0 passes.instr at (begins_on p t m place reached.0 passes.instr d n is) in
          let found = (swept place (omega arith)).loops d n reached.0 here in
          let round = (swept place (omega arith)).rounds begins.1 d n begins.2 (reached_is_some t m (suc place) next) in
          let follows = (swept begins.1 (omega (arith, later))).loop_exits place d n r begins.2 w in
          kept _ found (omega (arith, round, follows.around))

      next : (d to : ℕ) → EndsRound passes.instr d to → after a m r ≤ c.from m place
      next d to is =
          let here = stands_as p t m place reached.0 (Repeat d to) passes.instr at is in
          let closes = looped.closes m place d to here.goes in
          let there = subst (λ x. NextStands p t m place reached.0 d x) closes.3 here in
          let found = (swept place (omega arith)).next_places d closes.0 reached.0 there in
          let region = innermost_of_next p looped m place d closes.0 closes.1 r there.goes closes.2 w in
          kept _ found (omega (arith, ap (λ x. after a m x) region.1))
