-- The cases come out as their tables say; and of the worked method each path from each place costs no more than is said, and one just that.
use Rattle.std.proofs.lemmas.Bool.Decides.{nat_tests}
use Rattle.std.proofs.Common.{◌≡◌, ◌≤◌, ◌+◌, ◌*◌, ◌∙◌, ℕ, suc, Some, None, inl, inr, ⊎_elim, refl, sym, arith, subst}
use Rattle.std.specs.Prelude.{◌⊎◌}
use Rattle.aom_image.specs.Views.{class_at, class_in, instr_in, method_at, transfer_at, transfer_in}
use Rattle.aom_instructions.specs.declared.instr.Instr.{Instr}
use Rattle.aom_instructions.specs.declared.instr.Instr.TheVariants.{Jump, JumpEqual, Loop, Next, Print, Return}
use Rattle.aom_roles.specs.Classes.{kind_in}
use Rattle.aom_link_conditions.specs.Bodies.{Body}
use Rattle.aom_link_conditions.specs.Loops.{loop_in, next_in}
use Rattle.aom_link_conditions.specs.Roles.{keeper_in, own_role, fills_role, role_number, role_of}
use Rattle.aom_typing_rules.specs.Rules.{flows}
use Rattle.aom_static_bounds.specs.Cases.{PriceNeedsFail, a_word, worked, worked_typing}
use Rattle.aom_static_bounds.specs.Costs.{AmongFlows, Costs, GoesOut, Inside, Region, Round, Whole}
use Rattle.aom_static_bounds.specs.Costs.Costs.{ends, goes, loops}
use Rattle.aom_instructions.specs.declared.transfer.Transfer.TheVariants.{Repeat}
use Rattle.aom_static_bounds.specs.Prices.{LoopStands, Prices, Stands, own}
use Rattle.aom_static_bounds.proofs.Paths.{GoesOn, Rounds, ends_or_goes, outside_cost, rounds_of}
use Rattle.aom_static_bounds.proofs.Regions.{no_next_here}
use Rattle.std.specs.Prelude.{◌==◌, cond}
use Rattle.aom_link_conditions.specs.Overriding.{leads_in, over_in}
use Rattle.aom_roles.specs.Families.{descends_in, parent_in}
use Rattle.std.proofs.lemmas.Bool.{eqb-true}
use Rattle.std.proofs.Common.{ap}
use Rattle.aom_static_bounds.proofs.Adding.{by_past}
use Rattle.aom_static_bounds.proofs.LoopEscapes.{body_out, exit_most, flows_out, place_out}

abbrev There : ℕ → Instr → Type 0
There place i = Stands worked worked_typing 0 place a_word i

-- ---- the code

-- what stands at each place
at_each : There 0 (Loop 0 3) × There 1 (Loop 1 5) × There 2 (JumpEqual 0 0 7) × There 3 (Print 0) × There 4 (Next 1 2)
    × There 5 (Next 0 1) × There 6 (Jump 9) × There 7 (Print 0) × There 8 (Print 0) × There 9 (Return 0)
unfolding method_at instr_in
at_each = search (arith, nat_tests)

looped : (place d n : ℕ) → There place (Loop d n) → LoopStands worked worked_typing 0 place a_word d n
looped place d n at = record { shape = at.shape; goes = ap transfer_in at.instr }

outer : Body worked 0 0 5 0 3
outer = record { begins = ap transfer_in at_each.0.instr; later = omega arith; ends = ap transfer_in at_each.5.instr }

inner : Body worked 0 1 4 1 5
inner = record { begins = ap transfer_in at_each.1.instr; later = omega arith; ends = ap transfer_in at_each.4.instr }

same_depth : (d t e u : ℕ) → Some (Repeat d t) ≡ Some (Repeat e u) → d ≡ e
same_depth d t e u same = cc

-- where the nexts stand: that of depth 1 at 4, and that of depth 0 at 5
next_place : (to d back : ℕ) → transfer_at worked 0 to ≡ Some (Repeat d back) → to + d ≡ 5
unfolding method_at instr_in
next_place x d back e = grind (arith, nat_tests, same_depth)

inner_end : (to : ℕ) → transfer_at worked 0 to ≡ Some (Repeat 1 2) → to ≡ 4
inner_end to e = omega (arith, next_place to 1 2 e)

outer_end : (to : ℕ) → transfer_at worked 0 to ≡ Some (Repeat 0 1) → to ≡ 5
outer_end to e = omega (arith, next_place to 0 1 e)

-- ---- where the bodies go out

-- only these two of the places past the end are flowed to
unless : (a b out : ℕ) → ℕ
unless a b out = cond (out == a) 0 (cond (out == b) 0 1)

one_of : (a b out : ℕ) → unless a b out ≤ 0 → (out ≡ a) ⊎ (out ≡ b)
unfolding unless
one_of a b out none = by_past (out == a) ((out ≡ a) ⊎ (out ≡ b)) (λ is. inl (eqb-true out a is)) (λ not_a.
    by_past (out == b) ((out ≡ a) ⊎ (out ≡ b)) (λ is. inr (eqb-true out b is)) (λ not_b.
    let one : unless a b out ≡ 1 = ap (λ x. cond x 0 (cond (out == b) 0 1)) not_a ∙ ap (λ x. cond x 0 1) not_b in absurd (omega (arith, one, none))))

out_of_inner : (out : ℕ) → GoesOut worked worked_typing 0 1 4 out → (out ≡ 5) ⊎ (out ≡ 7)
unfolding method_at instr_in body_out place_out flows_out unless
out_of_inner out g = one_of 5 7 out (exit_most worked worked_typing 0 1 4 (unless 5 7) out g)

out_of_outer : (out : ℕ) → GoesOut worked worked_typing 0 0 5 out → (out ≡ 6) ⊎ (out ≡ 7)
unfolding method_at instr_in body_out place_out flows_out unless
out_of_outer out g = one_of 6 7 out (exit_most worked worked_typing 0 0 5 (unless 6 7) out g)

-- ---- no path costs more

module _ (c : Prices) where
  abbrev Path : Region → ℕ → ℕ → Type 0
  Path r place n = Costs worked worked_typing c 0 r place n

  abbrev Most : Region → ℕ → ℕ → Type 0
  Most r place n = (k : ℕ) → Path r place k → k ≤ n

  -- an instruction of cost 1 that goes on where paths cost so much at most
  line : (r : Region) (place n : ℕ) (i : Instr) → There place i → loop_in (Some i) ≡ None → Inside r place → own worked 0 c a_word i ≡ 1 →
      ((to : ℕ) → AmongFlows to (flows worked 0 place a_word i) → Most r to n) → Most r place (1 + n)
  line r place n i at none inside one all k path = ⊎_elim (λ (e : k ≡ own worked 0 c a_word i). omega (arith, e, one))
      (λ (g : GoesOn worked worked_typing c 0 r place k a_word i). omega (arith, g.is, one, all g.to g.among g.rest g.path))
      (ends_or_goes worked worked_typing c 0 r place k path a_word i at none inside)

  to_one : (r : Region) (a n to : ℕ) → Most r a n → (a ≡ to) ⊎ ⊥ → Most r to n
  to_one r a n to most among = ⊎_elim (λ e. subst (λ x. Most r x n) e most) (λ none. absurd none) among

  -- a next ends the round
  ends_here : (d to : ℕ) → next_in (Some (Next d to)) ≡ None → ⊥
  ends_here d to plain = no_next_here (Next d to) d to plain refl

  round_end : (r : Region) (place d to : ℕ) → There place (Next d to) → loop_in (Some (Next d to)) ≡ None → Inside r place → Most r place 1
  round_end r place d to at none inside k path = grind (arith, ends_here d to)

  from_9 : Most Whole 9 1
  unfolding loop_in
  from_9 = line Whole 9 0 (Return 0) at_each.9 refl tt refl (λ to among. absurd among)

  from_8 : Most Whole 8 2
  unfolding loop_in
  from_8 = line Whole 8 1 (Print 0) at_each.8 refl tt refl (λ to among. to_one Whole 9 1 to from_9 among)

  from_7 : Most Whole 7 3
  unfolding loop_in
  from_7 = line Whole 7 2 (Print 0) at_each.7 refl tt refl (λ to among. to_one Whole 8 2 to from_8 among)

  from_6 : Most Whole 6 2
  unfolding loop_in
  from_6 = line Whole 6 1 (Jump 9) at_each.6 refl tt refl (λ to among. to_one Whole 9 1 to from_9 among)

  -- within the inner body
  in_4 : Most (Round 1 4) 4 1
  unfolding loop_in
  in_4 = round_end (Round 1 4) 4 1 2 at_each.4 refl (omega arith, omega arith)

  in_3 : Most (Round 1 4) 3 2
  unfolding loop_in
  in_3 = line (Round 1 4) 3 1 (Print 0) at_each.3 refl (omega arith, omega arith) refl (λ to among. to_one (Round 1 4) 4 1 to in_4 among)

  past_inner : Most (Round 1 4) 7 2
  past_inner k path = let nothing = outside_cost worked worked_typing c 0 (Round 1 4) 7 k path (λ inside. omega (arith, inside.1)) in omega (arith, nothing)

  in_2 : Most (Round 1 4) 2 3
  unfolding loop_in
  in_2 = grind (arith, line (Round 1 4) 2 2 (JumpEqual 0 0 7) at_each.2, in_3)

  -- within the outer body
  in_5 : Most (Round 0 5) 5 1
  unfolding loop_in
  in_5 = round_end (Round 0 5) 5 0 1 at_each.5 refl (omega arith, omega arith)

  past_outer : Most (Round 0 5) 7 1
  past_outer k path = let nothing = outside_cost worked worked_typing c 0 (Round 0 5) 7 k path (λ inside. omega (arith, inside.1)) in omega (arith, nothing)

  -- a loop whose rounds and exits cost so much at most
  loop_line : (r : Region) (place end d n b e : ℕ) →
      There place (Loop d n) → Inside r place → ((to : ℕ) → Body worked 0 place to d n → to ≡ end) → Most (Round place end) (suc place) b →
      ((out : ℕ) → GoesOut worked worked_typing 0 place end out → Most r out e) → (k : ℕ) → Path r place k → (x : ℕ) × (x ≤ b) × (k ≤ 1 + n * x + e)
  loop_line r place end d n b e at inside is_end most exits k path = go (rounds_of worked worked_typing c 0 r place k path a_word d n (looped place d n at) inside)
    where
      go : Rounds worked worked_typing c 0 r place k d n → (x : ℕ) × (x ≤ b) × (k ≤ 1 + n * x + e)
      go v = grind (arith, nat_tests)

  in_1 : Most (Round 0 5) 1 17
  in_1 k path =
      let w = loop_line (Round 0 5) 1 4 1 5 3 1 at_each.1 (omega arith, omega arith) (λ to body. inner_end to body.ends) in_2 exits k path in
      omega (arith, w.1, w.2)
    where
      exits : (out : ℕ) → GoesOut worked worked_typing 0 1 4 out → Most (Round 0 5) out 1
      exits out g = grind (arith, nat_tests, in_5, past_outer, out_of_inner)

  from_0 : Most Whole 0 55
  from_0 k path =
      let w = loop_line Whole 0 5 0 3 17 3 at_each.0 tt (λ to body. outer_end to body.ends) in_1 exits k path in
      omega (arith, w.1, w.2)
    where
      exits : (out : ℕ) → GoesOut worked worked_typing 0 0 5 out → Most Whole out 3
      exits out g = ⊎_elim (λ (e : out ≡ 6). subst (λ x. Most Whole x 3) (sym e) (λ k path. omega (arith, from_6 k path)))
          (λ (e : out ≡ 7). subst (λ x. Most Whole x 3) (sym e) from_7) (out_of_outer out g)

  -- ---- and one costs just that

  exit_path : Path Whole 7 3
  unfolding loop_in next_in
  exit_path = goes tt at_each.7 refl refl (inl refl) (goes tt at_each.8 refl refl (inl refl) (ends tt at_each.9 refl))

  inner_round : Path (Round 1 4) 2 3
  unfolding loop_in next_in
  inner_round = goes (omega arith, omega arith) at_each.2 refl refl (inl refl)
      (goes (omega arith, omega arith) at_each.3 refl refl (inl refl) (ends (omega arith, omega arith) at_each.4 refl))

  inner_exit : GoesOut worked worked_typing 0 1 4 5
  inner_exit = record { place = 4; inside = (omega arith, omega arith); shape = a_word; instr = Next 1 2; stands = at_each.4; flow = inr (inl refl); outside = omega arith }

  outer_exit : GoesOut worked worked_typing 0 0 5 7
  outer_exit = record { place = 2; inside = (omega arith, omega arith); shape = a_word; instr = JumpEqual 0 0 7; stands = at_each.2; flow = inr (inl refl); outside = omega arith }

  outer_round : Path (Round 0 5) 1 17
  unfolding loop_in
  outer_round = loops (omega arith, omega arith) (looped 1 1 5 at_each.1) inner inner_round inner_exit (ends (omega arith, omega arith) at_each.5 refl)

  worked_path : Path Whole 0 55
  worked_path = loops tt (looped 0 0 3 at_each.0) outer outer_round outer_exit exit_path

pub price_needs_fail : PriceNeedsFail
unfolding class_at kind_in method_at class_in role_of fills_role role_number leads_in over_in descends_in parent_in own_role keeper_in
price_needs_fail = search (arith, nat_tests, worked_path, from_0)
