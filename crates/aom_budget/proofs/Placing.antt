-- What a pass finds at a place, by the instruction that stands there: a plain one, a loop, or a next.
use Rattle.std.proofs.lemmas.Bool.Decides.{nat_tests}
use Rattle.std.proofs.lemmas.Option.{same_Some}
use Rattle.std.proofs.Common.{◌≡◌, ℕ, suc, ◌<◌, ◌≤◌, ◌+◌, ◌-◌, ◌*◌, List, [], Some, None, inl, inr, refl, sym, ap, ◌∙◌, subst, arith}
use Rattle.std.specs.Prelude.{max}
use Rattle.std.proofs.lemmas.Bool.Decides.{leb_tells}
use Rattle.aom_image.specs.Image.{Image}
use Rattle.aom_image.specs.Views.{instr_at}
use Rattle.aom_instructions.specs.declared.instr.Instr.{Instr}
use Rattle.aom_roles.specs.Tests.{AllTrue}
use Rattle.aom_link_conditions.specs.Bodies.{Body, IsLooped}
use Rattle.aom_link_conditions.specs.Linked.{IsLinked}
use Rattle.aom_link_conditions.specs.Loops.{loop_in, next_in}
use Rattle.aom_typing_rules.specs.Rules.{rule_needs, flows}
use Rattle.aom_abstract_state.specs.AbstractState.{AbstractState}
use Rattle.aom_roles.specs.Tables.{at}
use Rattle.aom_typing_rules.specs.Typing.{Typing, shape_at}
use Rattle.aom_static_bounds.specs.Shapes.{Shapes, AllMet}
use Rattle.aom_static_bounds.specs.Strongest.{IsMethodStrongest}
use Rattle.aom_static_bounds.specs.Calls.{Among, callees}
use Rattle.aom_static_bounds.specs.Prices.{Prices, own}
use Rattle.aom_static_bounds.specs.Costs.{AmongFlows, GoesOut, Region, Whole, Round}
use Rattle.aom_static_bounds.specs.Sweeping.{LoopExits, IsAfter, IsInnermost, after, most_within}
use Rattle.aom_budget.proofs.StaticBoundsLemmas.{BeginsLoop, LoopIn, NextIn, not_both_in, same_back, same_rounds, goes_forward, innermost_of_body, jumps_forward}
use Rattle.aom_budget.proofs.StaticBoundsLemmas.{goes_so, no_loop_here, no_next_here, one_innermost}
use Rattle.aom_budget.specs.StackDepths.{IsMost, Before}
use Rattle.aom_budget.specs.Pricing.{AreKept, kept, targets_of, most_to, after_in, ExitsAt, Found, Agrees, IsPassed, plain_cost}
use Rattle.aom_budget.proofs.Mentioned.{called_lower}
use Rattle.aom_budget.proofs.Passing.{targets, targets_same, among_flows, flows_among, most_same, own_same, Extends, round_found, passed_more}
use Rattle.aom_budget.proofs.InstructionsLemmas.{loop_is}
use Rattle.aom_budget.proofs.Rounds.{loop_ends_none, no_body_ends, one_begin, next_around, next_here}

module _ (p : Image) (prices : List ℕ) (m : ℕ) (s : Shapes) (looped : IsLooped p) (linked : IsLinked p) (strongest : IsMethodStrongest p m s) where
  -- ---- what is known of a reached place

  stands_there : (t : Typing) (x : ℕ) (sh : AbstractState) → at [] t m ≡ s → shape_at t m x ≡ Some sh → at None s x ≡ Some sh
  stands_there t x sh same e = subst (λ y. at None y x ≡ Some sh) same e

  there_stands : (t : Typing) (x : ℕ) (sh : AbstractState) → at [] t m ≡ s → at None s x ≡ Some sh → shape_at t m x ≡ Some sh
  there_stands t x sh same e = subst (λ y. at None y x ≡ Some sh) (sym same) e

  needs_at : (x : ℕ) (sh : AbstractState) (i : Instr) → at None s x ≡ Some sh → instr_at p m x ≡ Some i → AllTrue (rule_needs p m x sh i)
  needs_at x sh i there stands =
      let applies = strongest.typed.each x sh there in
      let same : applies.instr ≡ i = same_Some applies.instr i (sym applies.stands ∙ stands) in
      subst (λ j. AllTrue (rule_needs p m x sh j)) same applies.needs

  targets_at : (x : ℕ) (sh : AbstractState) (i : Instr) → at None s x ≡ Some sh → instr_at p m x ≡ Some i → targets_of p x sh i ≡ targets (flows p m x sh i)
  targets_at x sh i there stands = targets_same p m x sh i (needs_at x sh i there stands)

  called_below : (x : ℕ) (sh : AbstractState) (i : Instr) → at None s x ≡ Some sh → instr_at p m x ≡ Some i → (k : ℕ) → Among k (callees p m sh i) → k < m
  called_below x sh i there stands k c = called_lower p m k linked
      (record { states = s; strongest = strongest; place = x; calls = record { shape = sh; there = there; instr = i; stands = stands; calls = c } })

  -- what is no next goes on at later places
  forward : (x to : ℕ) (sh : AbstractState) (i : Instr) → instr_at p m x ≡ Some i → next_in (Some i) ≡ None → AmongFlows to (flows p m x sh i) → x < to
  forward x to sh i stands no_next among = goes_forward p m (jumps_forward p linked m) x to sh i stands no_next among

  module _ (x : ℕ) (old new : Found) (extends : Extends p m x old new) (h : IsPassed p prices m s (suc x) old) where
    -- ---- a plain instruction

    module _ (i : Instr) (stands : instr_at p m x ≡ Some i) (no_loop : loop_in (Some i) ≡ None) (no_next : next_in (Some i) ≡ None) (r : Region)
        (inner : IsInnermost p m x r) (same : new.after ≡ old.after) where
      plain_after : (c : Prices) (a : LoopExits) (t : Typing) → Agrees p prices m s x new t c a → after a m r ≡ after_in old.after r
      plain_after c a t agrees = go r inner
        where
          go : (u : Region) → IsInnermost p m x u → after a m u ≡ after_in old.after u
          go Whole w = refl
          go (Round f e) w = agrees.loop_exits f e w.body.0 w.body.1 w.inside.1 w.body.2 ∙ ap (λ l. at 0 l f) same

      plain_most : (c : Prices) (a : LoopExits) (t : Typing) (sh : AbstractState) → at None s x ≡ Some sh → Agrees p prices m s x new t c a →
          most_within c m r (flows p m x sh i) ≡ most_to old.from r (targets_of p x sh i)
      plain_most c a t sh there agrees =
          let each = λ (to : ℕ) (among : AmongFlows to (flows p m x sh i)).
          let past = forward x to sh i stands no_next among in
          agrees.from_costs to (omega (arith, past)) ∙ extends.from_costs to past in
          most_same c m r old.from (flows p m x sh i) each ∙ ap (λ l. most_to old.from r l) (sym (targets_at x sh i there stands))

      plain_value : (c : Prices) (a : LoopExits) (t : Typing) (sh : AbstractState) → at None s x ≡ Some sh → Agrees p prices m s x new t c a → at 0 new.from x
          ≡ plain_cost p m prices old r x sh i → c.from m x ≡ kept (own p m c sh i + max (after a m r) (most_within c m r (flows p m x sh i)))
      plain_value c a t sh there agrees is =
          rw (own_same p prices m c agrees.lower agrees.classes sh i (called_below x sh i there stands), plain_after c a t agrees, plain_most c a t sh there agrees)
          (agrees.from_costs x (omega arith) ∙ is)

      pub plain_more : after_in old.after r ≤ 4294967296 → ((sh : AbstractState) → at None s x ≡ Some sh → at 0 new.from x ≡ plain_cost p m prices old r x sh i) →
          IsPassed p prices m s x new
      plain_more low value = passed_more p prices m s looped x old new extends h (λ t c a agrees. record {
        plain = grind (arith, nat_tests, same_Some i, one_innermost p looped m x r, stands_there t x, plain_value c a t);
        loops = λ d n sh there. absurd (no_loop_here i d n no_loop (goes_so _ i _ stands there.goes));
        next_places = λ d f sh there. absurd (no_next_here i d (suc f) no_next (goes_so _ i _ stands there.goes));
        rounds = round_found p prices m s looped x old new extends h t c a agrees;
        loop_exits = λ f d n u b w. absurd (no_body_ends p m x f x d n i stands no_next b refl);
      }) (λ f d n u b w. absurd (no_body_ends p m x f x d n i stands no_next b refl)) (λ sh u there w.
          let is = value sh there in
          let same_region : u ≡ r = one_innermost p looped m x u r w inner in
          let covered : after_in old.after r ≤ at 0 new.from x = omega (arith, is, low) in
          rw (same_region, same) covered)

    -- ---- a loop

    module _ (d n : ℕ) (stands : LoopIn (instr_at p m x) d n) (same : new.after ≡ old.after) where
      abbrev pub round_of : ℕ
      round_of = at 0 old.from (suc x) - at 0 old.after x

      rounds_same : (t : Typing) (c : Prices) (a : LoopExits) → Agrees p prices m s x new t c a → c.round m x ≡ round_of
      rounds_same t c a agrees =
          let begins = looped.begins m x d n stands in
          let later = begins.2.later in
          let follows : a m x ≡ at 0 old.after x = agrees.loop_exits x begins.1 d n (omega (arith, later)) begins.2 ∙ ap (λ l. at 0 l x) same in
          let first : c.from m (suc x) ≡ at 0 old.from (suc x) = agrees.from_costs (suc x) (omega arith) ∙ extends.from_costs (suc x) (omega arith) in
          rw (agrees.rounds x, first, follows) refl

      loop_value : (t : Typing) (c : Prices) (a : LoopExits) → Agrees p prices m s x new t c a → at 0 new.from x
          ≡ kept (1 + (n - 1) * round_of + at 0 old.from (suc x)) → c.from m x ≡ kept (1 + (n - 1) * c.round m x + c.from m (suc x))
      loop_value t c a agrees is = grind (arith, nat_tests, rounds_same t c a agrees)

      body_reached : (sh : AbstractState) → at None s x ≡ Some sh → (y : AbstractState) × (at None s (suc x) ≡ Some y)
      body_reached sh there =
          let applies = strongest.typed.each x sh there in
          let one : BeginsLoop applies.instr d n = goes_so _ applies.instr _ applies.stands stands in
          let ways = subst (λ i. AllMet s (flows p m x sh i)) (loop_is applies.instr d n one) applies.flows in
          (ways.0.next, ways.0.there)

      loop_covers : (v q y around low : ℕ) → v ≡ kept (1 + q + y) → around ≤ low → low ≤ y → y ≤ 4294967296 → around ≤ v
      loop_covers v q y around low is le more small = omega (arith, is, le, more, small)

      pub loop_more : AreKept old.from → ((sh : AbstractState) → at None s x ≡ Some sh → at 0 new.from x ≡ kept (1 + (n - 1) * round_of + at 0 old.from (suc x))) →
          IsPassed p prices m s x new
      unfolding next_in loop_in
      loop_more small value = passed_more p prices m s looped x old new extends h (λ t c a agrees. record {
        plain = λ sh j u there j_no_loop j_no_next u_inner. absurd (no_loop_here j d n j_no_loop (goes_so _ j _ there.instr stands));
        loops = λ e l sh there.
            let rounds : l ≡ n = same_rounds (instr_at p m x) e l d n there.goes stands in
            let here = stands_there t x sh agrees.states there.shape in
            rw rounds (loop_value t c a agrees (value sh here));
        next_places = λ e f sh there. absurd (not_both_in (instr_at p m x) d n e (suc f) stands there.goes);
        rounds = round_found p prices m s looped x old new extends h t c a agrees;
        loop_exits = λ f e l u b w. absurd (loop_ends_none p m x f x e l d n stands b refl);
      }) (λ f e l u b w. absurd (loop_ends_none p m x f x e l d n stands b refl)) (λ sh u there w.
          let begins = looped.begins m x d n stands in
          let body = begins.2 in
          let around = h.around x begins.1 d n u body.later body w in
          let next = body_reached sh there in
          let covered = h.covers (suc x) next.0 (Round x begins.1) (omega arith) next.1 (innermost_of_body p looped m x begins.1 d n body) in
          rw same (loop_covers _ _ _ _ _ (value sh there) around covered (small.each (suc x))))

    -- ---- a next

    module _ (f d n : ℕ) (body : Body p m f x d n) (r : Region) (outside : IsInnermost p m (suc x) r) (u : ℕ)
        (exits : IsMost 4294967296 (Before (ExitsAt p m s old.from f x) (suc x)) u) where
      abbrev pub follows : ℕ
      follows = max (after_in old.after r) u

      module _ (is : at 0 new.after f ≡ follows) (small : AreKept old.from) where
        round_it : IsInnermost p m f r
        round_it = next_around p m looped f x d n r body outside

        closed : (t : Typing) (c : Prices) (a : LoopExits) → Agrees p prices m s x new t c a → a m f ≡ follows
        closed t c a agrees = agrees.loop_exits f x d n (omega arith) body ∙ is

        around_same : (t : Typing) (c : Prices) (a : LoopExits) → Agrees p prices m s x new t c a → after a m r ≡ after_in old.after r
        around_same t c a agrees = go r outside
          where
            go : (v : Region) → IsInnermost p m (suc x) v → after a m v ≡ after_in old.after v
            go Whole w = refl
            go (Round g e) w =
                let past = w.inside.1 in
                agrees.loop_exits g e w.body.0 w.body.1 (omega (arith, past)) w.body.2 ∙ extends.loop_exits g e w.body.0 w.body.1 (omega (arith, past)) w.body.2

        found_out : (t : Typing) (c : Prices) (a : LoopExits) → Agrees p prices m s x new t c a → (out : ℕ) → x < out → c.from m out ≡ at 0 old.from out
        found_out t c a agrees out past = agrees.from_costs out (omega (arith, past)) ∙ extends.from_costs out past

        exit_of : (t : Typing) → at [] t m ≡ s → (out : ℕ) → GoesOut p t m f x out → Before (ExitsAt p m s old.from f x) (suc x) (at 0 old.from out)
        exit_of t same out g =
            let there = stands_there t g.place g.shape same g.stands.shape in
            record {
              place = g.place;
              below = omega (arith, g.inside.1);
              comes = record {
                inside = g.inside;
                shape = g.shape;
                there = there;
                instr = g.instr;
                stands = g.stands.instr;
                out = out;
                flow = grind (arith, nat_tests, targets_at g.place g.shape g.instr there g.stands.instr, flows_among out);
                outside = g.outside;
                is = refl;
              };
            }

        goes_out : (t : Typing) → at [] t m ≡ s → (k : ℕ) → (b : Before (ExitsAt p m s old.from f x) (suc x) k) → GoesOut p t m f x b.comes.out
        goes_out t same k b = record {
          place = b.place;
          inside = b.comes.inside;
          shape = b.comes.shape;
          instr = b.comes.instr;
          stands = record { shape = there_stands t b.place b.comes.shape same b.comes.there; instr = b.comes.stands };
          flow = among_flows b.comes.out _
              (subst (λ l. Among b.comes.out l) (targets_at b.place b.comes.shape b.comes.instr b.comes.there b.comes.stands) b.comes.flow);
          outside = b.comes.outside;
        }

        follows_after : (t : Typing) (c : Prices) (a : LoopExits) → Agrees p prices m s x new t c a → IsAfter p t c a m f x r
        follows_after t c a agrees = record {
          around = omega (arith, around_same t c a agrees, closed t c a agrees);
          out = grind (arith, nat_tests, exit_of t agrees.states, found_out t c a agrees, closed t c a agrees);
          met = elim exits.met [
            | inl none ↦ inl (omega (arith, closed t c a agrees, around_same t c a agrees, none))
            | inr w ↦ elim (leb_tells u (after_in old.after r)) [
              | inl v ↦ inl (omega (arith, closed t c a agrees, around_same t c a agrees, v.1))
              | inr v ↦
                  let out = w.1.comes.out in
                  let value = w.1.comes.is in
                  inr (out, goes_out t agrees.states w.0 w.1, omega (arith, found_out t c a agrees out w.1.comes.outside, closed t c a agrees, w.2, v.1, value, small.each out))
            ]
          ];
        }

        one_next : (e g : ℕ) → NextIn (instr_at p m x) e (suc g) → g ≡ f
        one_next e g there = omega (arith, same_back (instr_at p m x) e (suc g) d (suc f) there body.ends)

        pub next_more : ((sh : AbstractState) → at None s x ≡ Some sh → at 0 new.from x ≡ kept (1 + follows)) → follows ≤ 4294967296 → IsPassed p prices m s x new
        unfolding next_in loop_in
        next_more value low = passed_more p prices m s looped x old new extends h (λ t c a agrees. record {
          plain = λ sh i v there none no_next w. absurd (no_next_here i d (suc f) no_next (goes_so _ i _ there.instr body.ends));
          loops = λ e l sh there. absurd (not_both_in (instr_at p m x) e l d (suc f) there.goes body.ends);
          next_places = λ e g sh there.
              let back = one_next e g there.goes in
              let here = stands_there t x sh agrees.states there.shape in
              rw (back, closed t c a agrees) (agrees.from_costs x (omega arith) ∙ value sh here);
          rounds = round_found p prices m s looped x old new extends h t c a agrees;
          loop_exits = λ g e l v b w.
              let begins = one_begin p m f g x d n e l body b in
              let region : r ≡ v = one_innermost p looped m f r v round_it (rw (sym begins) at w) in
              subst (λ y. IsAfter p t c a m y x v) begins (subst (λ y. IsAfter p t c a m f x y) region (follows_after t c a agrees));
        }) (λ g e l v b w.
            let begins = one_begin p m f g x d n e l body b in
            let region : v ≡ r = sym (one_innermost p looped m f r v round_it (rw (sym begins) at w)) in
            rw (region, sym begins, is) (rw (after_outside r outside) (omega arith))) (λ sh v there w.
            let region : v ≡ Round f x = one_innermost p looped m x v (Round f x) w (next_here p m looped f x d n body) in
            rw region (omega (arith, is, value sh there, low)))
          where
            after_outside : (v : Region) → IsInnermost p m (suc x) v → after_in new.after v ≡ after_in old.after v
            after_outside Whole w = refl
            after_outside (Round g e) w = let past = w.inside.1 in extends.loop_exits g e w.body.0 w.body.1 (omega (arith, past)) w.body.2
