-- How paths stay in the body of the innermost loop, and how they leave it: from what linking promises of loops and jumps.
use Rattle.std.proofs.lemmas.Bool.Decides.{nat_tests}
use Rattle.std.proofs.lemmas.Option.{same_Some}
use Rattle.std.proofs.Common.{◌≡◌, ◌<◌, ◌≤◌, ◌∙◌, ℕ, zero, suc, true, false, Option, Some, None, inl, inr, ⊎_elim, refl, sym, ap, arith, subst}
use Rattle.std.specs.Prelude.{◌⊎◌}
use Rattle.std.proofs.lemmas.Bool.{cases_lt, ltb-true, ltb-false}
use Rattle.aom_image.specs.Image.{Image}
use Rattle.aom_image.specs.Views.{instr_at, transfer_at, transfer_in}
use Rattle.aom_instructions.specs.declared.instr.Instr.{Instr}
use Rattle.aom_instructions.specs.Table.{transfer_of}
use Rattle.aom_instructions.specs.declared.transfer.Transfer.{Transfer}
use Rattle.aom_instructions.specs.declared.transfer.Transfer.TheVariants.{Begin, Repeat}
use Rattle.aom_link_conditions.specs.Bodies.{Body, IsIn, IsLooped}
use Rattle.aom_link_conditions.specs.Jumps.{back_of, jump_of, jumped, repeated}
use Rattle.aom_link_conditions.specs.Loops.{begun_by, loop_in, next_in, repeated_by}
use Rattle.aom_abstract_state.specs.AbstractState.{AbstractState}
use Rattle.aom_typing_rules.specs.Rules.{flows}
use Rattle.aom_typing_rules.specs.Typing.{Typing}
use Rattle.aom_static_bounds.specs.Costs.{AmongFlows, GoesOut, Inside, Region, Round, Whole}
use Rattle.aom_static_bounds.specs.Prices.{Prices, Stands, StandsAs, own}
use Rattle.aom_static_bounds.proofs.ImageLemmas.{transfer_there}
use Rattle.aom_static_bounds.proofs.InstructionsLemmas.{loop_is, next_is}
use Rattle.aom_static_bounds.specs.Sweeping.{BeginsBefore, IsInnermost, is_past}
use Rattle.aom_static_bounds.proofs.Ways.{Way, way_of}
use Rattle.aom_static_bounds.proofs.Ways.Way.{back, jump, on}

-- ---- instructions

-- an instruction begins a loop of that number with so many rounds, or ends a round of that number and goes back there
abbrev pub BeginsLoop : Instr → (number rounds : ℕ) → Type 0
BeginsLoop i d n = transfer_of i ≡ Begin d n

abbrev pub EndsRound : Instr → (number back : ℕ) → Type 0
EndsRound i d to = transfer_of i ≡ Repeat d to

-- so the instruction does that stands somewhere
abbrev pub LoopIn : Option Instr → (number rounds : ℕ) → Type 0
LoopIn o d n = transfer_in o ≡ Some (Begin d n)

abbrev pub NextIn : Option Instr → (number back : ℕ) → Type 0
NextIn o d to = transfer_in o ≡ Some (Repeat d to)

pub stands_so : (o : Option Instr) (i : Instr) (t : Transfer) → o ≡ Some i → transfer_of i ≡ t → transfer_in o ≡ Some t
stands_so o i t at is = ap transfer_in at ∙ ap (λ u. Some u) is

pub goes_so : (o : Option Instr) (i : Instr) (t : Transfer) → o ≡ Some i → transfer_in o ≡ Some t → transfer_of i ≡ t
goes_so o i t at is = same_Some (transfer_of i) t (sym (ap transfer_in at) ∙ is)

-- the instruction of a transfer, and the other way round
module _ (p : Image) (t : Typing) (m place : ℕ) (sh : AbstractState) where
  pub instr_as : (u : Transfer) → StandsAs p t m place sh u → (i : Instr) × Stands p t m place sh i × (transfer_of i ≡ u)
  instr_as u at = let w = transfer_there (instr_at p m place) u at.goes in (w.0, record { shape = at.shape; instr = w.1 }, w.2)

  pub stands_as : (u : Transfer) (i : Instr) → Stands p t m place sh i → transfer_of i ≡ u → StandsAs p t m place sh u
  stands_as u i at is = record { shape = at.shape; goes = stands_so (instr_at p m place) i u at.instr is }

  -- a loop goes on at its body, and a next where it goes back to or at the next place
  pub begins_on : (i : Instr) (d n : ℕ) → BeginsLoop i d n → AmongFlows (suc place) (flows p m place sh i)
  begins_on i d n is = subst (λ j. AmongFlows (suc place) (flows p m place sh j)) (sym (loop_is i d n is)) (inl refl)

  pub repeats_at : (i : Instr) (d to : ℕ) → EndsRound i d to → AmongFlows to (flows p m place sh i)
  repeats_at i d to is = subst (λ j. AmongFlows to (flows p m place sh j)) (sym (next_is i d to is)) (inl refl)

  pub repeats_on : (i : Instr) (d to : ℕ) → EndsRound i d to → AmongFlows (suc place) (flows p m place sh i)
  repeats_on i d to is = subst (λ j. AmongFlows (suc place) (flows p m place sh j)) (sym (next_is i d to is)) (inr (inl refl))

  -- both cost a step
  pub begins_costs : (c : Prices) (i : Instr) (d n : ℕ) → BeginsLoop i d n → own p m c sh i ≡ 1
  begins_costs c i d n is = ap (λ j. own p m c sh j) (loop_is i d n is)

  pub repeats_costs : (c : Prices) (i : Instr) (d to : ℕ) → EndsRound i d to → own p m c sh i ≡ 1
  repeats_costs c i d to is = ap (λ j. own p m c sh j) (next_is i d to is)

-- an instruction does one of the two, or neither
by_transfer : (P : Type 0) (i : Instr) (t : Transfer) → transfer_of i ≡ t → (loop_in (Some i) ≡ None → next_in (Some i) ≡ None → P) →
    ((d n : ℕ) → BeginsLoop i d n → P) → ((d to : ℕ) → EndsRound i d to → P) → P
unfolding loop_in next_in
by_transfer P i (Begin d n) is plain loop next = loop d n is
by_transfer P i (Repeat d to) is plain loop next = next d to is
by_transfer P i t is plain loop next = plain (ap (λ u. begun_by (Some u)) is) (ap (λ u. repeated_by (Some u)) is)

pub by_kind : (P : Type 0) (i : Instr) → (loop_in (Some i) ≡ None → next_in (Some i) ≡ None → P) → ((d n : ℕ) → BeginsLoop i d n → P) →
    ((d to : ℕ) → EndsRound i d to → P) → P
by_kind P i plain loop next = by_transfer P i (transfer_of i) refl plain loop next

goes_back : (i : Instr) (to : ℕ) → back_of i ≡ Some to → (d : ℕ) × EndsRound i d to
unfolding back_of
goes_back i to e = back (transfer_of i) e
  where
    back : (t : Transfer) → repeated t ≡ Some to → (d : ℕ) × (t ≡ Repeat d to)
    back t e = grind arith

-- a loop goes on at its body
loop_way : (place d n to : ℕ) (i : Instr) → BeginsLoop i d n → Way place i to → to ≡ suc place
unfolding jump_of back_of
loop_way place d n _ i is on = refl
loop_way place d n to i is (jump j) = let clash : None ≡ Some to = sym (ap jumped is) ∙ j in cc
loop_way place d n to i is (back b) = let clash : None ≡ Some to = sym (ap repeated is) ∙ b in cc

pub no_loop_here : (i : Instr) (d n : ℕ) → loop_in (Some i) ≡ None → BeginsLoop i d n → ⊥
unfolding loop_in
no_loop_here i d n none e = let clash : Some d ≡ None = sym (ap (λ t. begun_by (Some t)) e) ∙ none in cc

pub no_next_here : (i : Instr) (d to : ℕ) → next_in (Some i) ≡ None → EndsRound i d to → ⊥
unfolding next_in
no_next_here i d to none e = let clash : repeated_by (Some (Repeat d to)) ≡ None = sym (ap (λ t. repeated_by (Some t)) e) ∙ none in cc

pub no_way_back : (i : Instr) (to : ℕ) → next_in (Some i) ≡ None → back_of i ≡ Some to → ⊥
no_way_back i to none e = let next = goes_back i to e in no_next_here i next.0 to none next.1

pub not_both : (i : Instr) (d n e to : ℕ) → BeginsLoop i d n → EndsRound i e to → ⊥
not_both i d n e to a b = let clash : Begin d n ≡ Repeat e to = sym a ∙ b in cc

-- what stands there does one of them, once
pub not_both_in : (o : Option Instr) (d n e to : ℕ) → LoopIn o d n → NextIn o e to → ⊥
not_both_in o d n e to a b = let clash : Some (Begin d n) ≡ Some (Repeat e to) = sym a ∙ b in cc

pub same_rounds : (o : Option Instr) (d n e l : ℕ) → LoopIn o d n → LoopIn o e l → n ≡ l
same_rounds o d n e l a b = let one : Some (Begin d n) ≡ Some (Begin e l) = sym a ∙ b in cc

pub same_back : (o : Option Instr) (d to e other : ℕ) → NextIn o d to → NextIn o e other → to ≡ other
same_back o d to e other a b = let one : Some (Repeat d to) ≡ Some (Repeat e other) = sym a ∙ b in cc

pub next_is_no_loop : (i : Instr) (d to : ℕ) → EndsRound i d to → loop_in (Some i) ≡ None
unfolding loop_in
next_is_no_loop i d to e = ap (λ t. begun_by (Some t)) e

-- ---- past a region

-- a place past a region is past the end of a body
pub data Past (to : ℕ) : Region → Type 0 where
  past_end : (from end : ℕ) → end < to → Past to (Round from end)

pub passed : (r : Region) (to : ℕ) → is_past r to ≡ true → Past to r
passed x to is = grind (arith, nat_tests, past_end, ltb-true)

pub past_is_outside : (r : Region) (to : ℕ) → is_past r to ≡ true → Inside r to → ⊥
past_is_outside r to is = grind (arith, nat_tests, passed r to is, past_end)

pub here_is_inside : (r : Region) (place to : ℕ) → Inside r place → place < to → is_past r to ≡ false → Inside r to
here_is_inside x place to inside later past = grind (arith, nat_tests, ltb-false)

-- ---- bodies

module _ (p : Image) (looped : IsLooped p) (m : ℕ) where
  -- a body that begins in another ends in it
  pub nested : (from to d n f e k l : ℕ) → Body p m from to d n → Body p m f e k l → from ≤ f → f < to → e ≤ to
  nested from to d n f e k l body other after before =
      let inside = looped.next_places m e k (suc f) other.ends from to d n body (omega (arith, after), omega (arith, before)) in
      omega (arith, inside.1)

  -- a body that has a loop has the loop's body
  pub ends_before : (from to d n f e k l : ℕ) → Body p m from to d n → Body p m f e k l → IsIn from to f → e ≤ to
  ends_before from to d n f e k l body other inside = grind (arith, nested from to d n f e k l body other)

  pub one_end : (from to to' d n d' n' : ℕ) → Body p m from to d n → Body p m from to' d' n' → to' ≡ to
  one_end from to to' d n d' n' body other = grind (arith, nested from to d n from to' d' n' body other, nested from to' d' n' from to d n other body)

  -- where an instruction goes on in a body, unless it begins the loop, it stands there
  pub came_from : (place to : ℕ) (i : Instr) → instr_at p m place ≡ Some i → loop_in (Some i) ≡ None → Way place i to → (f e k l : ℕ) → Body p m f e k l →
      IsIn f e to → IsIn f e place
  unfolding loop_in
  came_from place to i stands none on f e k l body inside = grind arith
  came_from place to i stands none (jump j) f e k l body inside = looped.jumps m place to i stands j f e k l body inside
  came_from place to i stands none (back b) f e k l body inside =
      let next = goes_back i to b in
      looped.next_places m place next.0 to (stands_so _ i _ stands next.1) f e k l body inside

  pub first_same : (place e d k from f : ℕ) → transfer_at p m place ≡ Some (Repeat d (suc from)) → transfer_at p m e ≡ Some (Repeat k (suc f)) → e ≡ place → f ≡ from
  first_same place e d k from f at closes here = grind (arith, nat_tests)

  -- the body round a loop ends after it
  pub ends_after : (from to d n f e k l : ℕ) → Body p m from to d n → Body p m f e k l → IsIn f e from → to < e
  ends_after from to d n f e k l body other inside = grind (arith, ends_before f e k l from to d n other body inside)

  -- ---- the innermost body

  -- that of a loop, at its body's first place
  pub innermost_of_body : (from to d n : ℕ) → Body p m from to d n → IsInnermost p m (suc from) (Round from to)
  innermost_of_body from to d n body = search (arith, nat_tests)

  -- a region in which a loop begins, or which begins after one, is a body
  data Begun (from : ℕ) : Region → Type 0 where
    begun : (first to : ℕ) → from ≤ first → Begun from (Round first to)

  begun_there : (from : ℕ) (r : Region) → BeginsBefore from r → Begun from r
  begun_there from x before = grind (arith, nat_tests, begun)

  -- that of a next's loop, at the next
  pub innermost_of_next : (place d from n : ℕ) (r : Region) → transfer_at p m place ≡ Some (Repeat d (suc from)) → Body p m from place d n →
      IsInnermost p m place r → (end : ℕ) × (r ≡ Round from end)
  innermost_of_next place d from n r at body w = grind (arith, begun_there from r, nested from place d n)

  -- there is no other
  same_round : (place f e : ℕ) (s : Region) → IsInnermost p m place (Round f e) → IsInnermost p m place s → Begun f s → s ≡ Round f e
  same_round place f e _ v w (begun g k above) =
      let below = v.others g k w.body.0 w.body.1 w.body.2 w.inside in
      let same : g ≡ f = omega (arith, below, above) in
      let end = one_end f e k v.body.0 v.body.1 w.body.0 w.body.1 v.body.2 (subst (λ x. Body p m x k w.body.0 w.body.1) same w.body.2) in
      ap (λ x. Round x k) same ∙ ap (λ x. Round f x) end

  pub one_innermost : (place : ℕ) (r s : Region) → IsInnermost p m place r → IsInnermost p m place s → r ≡ s
  one_innermost place Whole Whole v w = refl
  one_innermost place (Round f e) s v w = sym (same_round place f e s v w (begun_there f s (w.others f e v.body.0 v.body.1 v.body.2 v.inside)))
  one_innermost place r (Round f e) v w = same_round place f e r w v (begun_there f r (v.others f e w.body.0 w.body.1 w.body.2 w.inside))

  -- and it stays the same along a path that stays in it
  pub innermost_on : (place to : ℕ) (i : Instr) (r : Region) → instr_at p m place ≡ Some i → loop_in (Some i) ≡ None → Way place i to →
      IsInnermost p m place r → Inside r to → IsInnermost p m to r
  innermost_on place to i r stands none way w inside = search (arith, nat_tests, came_from place to i stands none way)

  -- no loop round the first place
  pub innermost_first : IsInnermost p m 0 Whole
  innermost_first = record { body = tt; inside = tt; others = λ f e k l other inside. absurd (omega (arith, inside.0)) }

  -- ---- going out

  module _ (t : Typing) where
    -- what goes out of a body begins no loop
    out_from : (from to d n out : ℕ) → Body p m from to d n → (g : GoesOut p t m from to out) → loop_in (Some g.instr) ≡ None
    out_from from to d n out body g = by_kind (loop_in (Some g.instr) ≡ None) g.instr (λ none next. none) loop (λ k back e. next_is_no_loop g.instr k back e)
      where
        loop : (k l : ℕ) → BeginsLoop g.instr k l → loop_in (Some g.instr) ≡ None
        loop k l e =
            let next : out ≡ suc g.place = loop_way g.place k l out g.instr e (way_of p m g.place out g.shape g.instr g.flow) in
            let last : g.place ≡ to = omega (arith, g.inside.1, g.outside, next) in
            let here = stands_so _ g.instr _ g.stands.instr e in
            let ends = subst (λ x. NextIn (instr_at p m x) d (suc from)) (sym last) body.ends in
            absurd (not_both_in (instr_at p m g.place) k l d (suc from) here ends)

    -- a body that has the place to which another body goes out has that body's loop
    out_around : (from to d n out : ℕ) → Body p m from to d n → GoesOut p t m from to out → (f e k l : ℕ) → Body p m f e k l → IsIn f e out → IsIn f e from
    out_around from to d n out body g f e k l other inside =
        let there = came_from _ out _ g.stands.instr (out_from from to d n out body g) (way_of p m g.place out g.shape g.instr g.flow) f e k l other inside in
        ⊎_elim (λ (lt : f < from). (lt, omega (arith, g.inside.0, there.1))) (λ (ge : from ≤ f). let ends = nested from to d n f e k l body other ge
        (omega (arith, there.0, g.inside.1)) in absurd (omega (arith, ends, inside.1, g.outside))) (cases_lt f from)

    pub innermost_out : (from to d n out : ℕ) (r : Region) → Body p m from to d n → GoesOut p t m from to out → IsInnermost p m from r →
        Inside r out → IsInnermost p m out r
    innermost_out from to d n out r body g w inside = record {
      body = w.body;
      inside = inside;
      others = λ f e k l other there. w.others f e k l other (out_around from to d n out body g f e k l other there);
    }

    -- what a body goes out to past the end of the body round it, that one goes out to as well
    pub out_of_both : (from to d n out f e : ℕ) → Body p m from to d n → GoesOut p t m from to out → IsInnermost p m from (Round f e) →
        e < out → GoesOut p t m f e out
    out_of_both from to d n out f e body g w past =
        let ends = ends_before f e w.body.0 w.body.1 from to d n w.body.2 body w.inside in
        record {
          place = g.place;
          inside = (omega (arith, w.inside.0, g.inside.0), omega (arith, g.inside.1, ends));
          shape = g.shape;
          instr = g.instr;
          stands = g.stands;
          flow = g.flow;
          outside = past;
        }

  -- ---- there is an innermost body

  Around : ℕ → ℕ → Type 0
  Around place k = (to : ℕ) × (d : ℕ) × (n : ℕ) × Body p m k to d n × IsIn k to place

  Misses : ℕ → ℕ → Type 0
  Misses place k = (to d n : ℕ) → Body p m k to d n → IsIn k to place → ⊥

  around_or : (place k : ℕ) → Around place k ⊎ Misses place k
  unfolding Around Misses
  around_or place k = go (transfer_at p m k) refl
    where
      loop : (d n : ℕ) → transfer_at p m k ≡ Some (Begin d n) → Around place k ⊎ Misses place k
      loop d n begins =
          let found = looped.begins m k d n begins in
          let body = found.2 in
          ⊎_elim (λ (lt : k < place). ⊎_elim (λ (past : found.1 < place). inr (λ to' d' n' other inside. let same = one_end k found.1
          to' d n d' n' body other in absurd (omega (arith, same, inside.1, past)))) (λ (within : place ≤ found.1). inl (found.1, d, n, body, (lt, within)))
          (cases_lt found.1 place)) (λ (ge : place ≤ k). inr (λ to' d' n' other inside. absurd (omega (arith, ge, inside.0)))) (cases_lt k place)

      go : (o : Option Transfer) → transfer_at p m k ≡ o → Around place k ⊎ Misses place k
      go None e = inr (λ to d n body inside. let clash : None ≡ Some (Begin d n) = sym e ∙ body.begins in cc)
      go (Some (Begin d n)) e = loop d n e
      go (Some t) e = inr (λ to d n body inside. let clash : Some t ≡ Some (Begin d n) = sym e ∙ body.begins in cc)

  Found : ℕ → Type 0
  Found place = (r : Region) × IsInnermost p m place r

  search_below : (place k : ℕ) → ((f e d n : ℕ) → Body p m f e d n → IsIn f e place → f < k) → Found place
  unfolding Found Around Misses
  search_below place zero below = (Whole, record { body = tt; inside = tt; others = λ f e d n other inside. absurd (omega (arith, below f e d n other inside)) })
  search_below place (suc k) below = ⊎_elim (λ (a : Around place k).
      (Round k a.0, record { body = (a.1, a.2, a.3); inside = a.4; others = λ f e d n other inside. omega (arith, below f e d n other inside) }))
      (λ (none : Misses place k). search_below place k
      (λ f e d n other inside. ⊎_elim (λ (lt : f < k). lt) (λ (ge : k ≤ f). let same : f ≡ k = omega (arith, ge, below f e d n other inside) in
      absurd (none e d n (subst (λ x. Body p m x e d n) same other) (subst (λ x. IsIn x e place) same inside))) (cases_lt f k))) (around_or place k)

  pub innermost : (place : ℕ) → (r : Region) × IsInnermost p m place r
  unfolding Found
  innermost place = search_below place place (λ f e d n other inside. inside.0)
