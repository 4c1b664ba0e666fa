-- The loops round a place after each move of a method: what they count for is no more, but for a loop that begins.
use Rattle.std.proofs.lemmas.Bool.Decides.{nat_tests}
use Rattle.std.proofs.Common.{◌≡◌, ◌<◌, ◌≤◌, ◌+◌, ◌∙◌, ℕ, zero, suc, cond, List, length, Some}
use Rattle.std.proofs.Common.{None, IfSome, slice_get, ⊎_elim, refl, sym, ap, arith, subst}
use Rattle.std.specs.Prelude.{◌≢◌}
use Rattle.std.proofs.lemmas.Bool.{cases_lt, eq-eqb, ne_eqb}
use Rattle.aom_instructions.specs.declared.instr.Instr.{Instr}
use Rattle.aom_termination.proofs.StaticBoundsLemmas.{LoopIn, NextIn}
use Rattle.aom_link_conditions.specs.Jumps.{Body, JumpIsValid, jump_of}
use Rattle.aom_link_conditions.specs.Loops.{Closes, LoopsNest, begun_by, loop_at, loop_in, next_in, repeated_by}
use Rattle.aom_termination.proofs.LinkConditionsLemmas.{at_place, back_of_closed, back_there, begins_there, closed_by, loop_there, next_there, next_within}
use Rattle.aom_roles.specs.Tables.{at, set_extending}
use Rattle.aom_termination.proofs.SemanticsLemmas.{at-set_extending}
use Rattle.aom_termination.specs.Within.{loops_rank_term, total, rank_term_at}
use Rattle.aom_termination.proofs.Sums.{total_but, total_le}
use Rattle.aom_termination.proofs.Bodies.{IsIn, body_in, in_body, other_number, transfer_within}

-- ---- the bodies round a place

-- a body of which no loop begins here goes on from here
from_here : (code : List Instr) (k p d : ℕ) → loop_at code k ≡ None → IsIn code d p (suc k) → IsIn code d p k
from_here code k p d none w = search (arith, nat_tests, cases_lt p k)

-- the body of a loop, as the jumps see it
as_body : (code : List Instr) (d p q : ℕ) → Closes code d p q → Body code p q
as_body code d p q c =
    let begins = loop_there (slice_get code p) d c.begins in
    record {
      begins = begins_there (slice_get code p) d begins.0 begins.1;
      later = c.later;
      back = back_there (slice_get code q) d (suc p) (next_there (slice_get code q) d (suc p) c.ends);
    }

-- a jump goes into no body from outside
jumps_within : (code : List Instr) (k to : ℕ) (i : Instr) → JumpIsValid code → slice_get code k ≡ Some i → jump_of i ≡ Some to → (p d : ℕ) →
    IsIn code d p to → IsIn code d p k
jumps_within code k to i well stands jump p d w =
    let body = as_body code d p w.end w.closes in
    let closed = well.bodies w.end (next_within code w.end _ w.closes.ends) p body in
    let out = at_place (λ s x. IfSome (jump_of x) (λ t. p < t → t ≤ w.end → (p < s) × (s ≤ w.end))) code k i closed stands in
    let both : (p < k) × (k ≤ w.end) = (rw jump at out) w.after w.upto in
    record { after = both.0; end = w.end; upto = both.1; closes = w.closes }

-- which loop a next closes
pub closed_loop : (code : List Instr) (k d t : ℕ) → LoopsNest code → NextIn (slice_get code k) d t → (r : ℕ) × Closes code d r k × (t ≡ suc r)
unfolding next_in
closed_loop code k d t nest stands =
    let ends = ap repeated_by stands in
    let c = closed_by code k (record { number = d; back = t }) nest ends in
    (c.place, c.closes, back_of_closed code d k t ends c)

-- ---- counters

at_same : (cs : List ℕ) (d n : ℕ) → at 0 (set_extending 0 cs d n) d ≡ n
at_same cs d n = at-set_extending 0 cs d d n ∙ ap (λ b. cond b n (at 0 cs d)) (eq-eqb d d refl)

at_other : (cs : List ℕ) (c d n : ℕ) → c ≢ d → at 0 (set_extending 0 cs d n) c ≡ at 0 cs c
at_other cs c d n other = at-set_extending 0 cs d c n ∙ ap (λ b. cond b n (at 0 cs c)) (ne_eqb d c (λ e. other (sym e)))

-- ---- what counters alike count for

total_alike : (f g : ℕ → ℕ) (n : ℕ) → ((j : ℕ) → f j ≡ g j) → total f n ≡ total g n
total_alike f g zero h = refl
total_alike f g (suc n) h = ap (λ k. k + f n) (total_alike f g n h) ∙ ap (λ k. total g n + k) (h n)

pub rank_term_alike : (code : List Instr) (rank_term : ℕ → ℕ → ℕ) (cs ds : List ℕ) → ((i : ℕ) → at 0 cs i ≡ at 0 ds i) → (place : ℕ) →
    loops_rank_term code rank_term cs place ≡ loops_rank_term code rank_term ds place
rank_term_alike code rank_term cs ds alike place = grind (arith, nat_tests, total_alike)

-- ---- a worth that grows with the counter

module _ (code : List Instr) (rank_term : ℕ → ℕ → ℕ) (grows : (p a b : ℕ) → a ≤ b → rank_term a p ≤ rank_term b p) where
  abbrev of_loop : List ℕ → ℕ → ℕ → ℕ
  of_loop cs k p = rank_term_at code rank_term cs k p (loop_at code p)

  abbrev all_loops : List ℕ → ℕ → ℕ
  all_loops cs k = loops_rank_term code rank_term cs k

  -- at most what the counter says
  at_most : (cs : List ℕ) (k p d : ℕ) → loop_at code p ≡ Some d → of_loop cs k p ≤ rank_term (at 0 cs d) p
  at_most cs k p d e = grind (arith, nat_tests)

  -- just that within its body
  within_it : (cs : List ℕ) (k p d : ℕ) → IsIn code d p k → of_loop cs k p ≡ rank_term (at 0 cs d) p
  within_it cs k p d w = grind (arith, nat_tests, body_in code d p k w)

  -- no more where the new place is in its body only if the old one was, and its counter is no greater
  implied : (cs cs' : List ℕ) (k k' p : ℕ) → ((d : ℕ) → IsIn code d p k' → IsIn code d p k × (at 0 cs' d ≤ at 0 cs d)) → of_loop cs' k' p ≤ of_loop cs k p
  implied cs cs' k k' p h = grind (arith, nat_tests, in_body code, within_it cs k p)

  forward : (cs cs' : List ℕ) (k to : ℕ) → ((p d : ℕ) → IsIn code d p to → IsIn code d p k × (at 0 cs' d ≤ at 0 cs d)) → all_loops cs' to ≤ all_loops cs k
  forward cs cs' k to h = total_le (λ p. of_loop cs' to p) (λ p. of_loop cs k p) (length code) (λ p. implied cs cs' k to p (h p))

  -- to the next place
  pub straight_on : (cs : List ℕ) (k : ℕ) (i : Instr) → slice_get code k ≡ Some i → loop_in (Some i) ≡ None → all_loops cs (suc k) ≤ all_loops cs k
  straight_on cs k i stands none = forward cs cs k (suc k) (λ p d w. (from_here code k p d (ap loop_in stands ∙ none) w, omega arith))

  -- to where a jump leads
  pub jumps : (cs : List ℕ) (k to : ℕ) (i : Instr) → JumpIsValid code → slice_get code k ≡ Some i → jump_of i ≡ Some to → all_loops cs to ≤ all_loops cs k
  jumps cs k to i well stands jump = forward cs cs k to (λ p d w. (jumps_within code k to i well stands jump p d w, omega arith))

  -- a loop begins all its rounds, which come to what it counts for
  pub enters : (cs : List ℕ) (k d n : ℕ) → LoopsNest code → LoopIn (slice_get code k) d n → all_loops (set_extending 0 cs d n) (suc k) ≤ all_loops cs k + rank_term n k
  unfolding loop_in
  enters cs k d n nest stands =
      let cs' = set_extending 0 cs d n in
      let within = transfer_within code k _ stands in
      let most : of_loop cs' (suc k) k ≤ rank_term n k = grind (arith, nat_tests, at_same, at_most) in
      let sums = total_but (λ p. of_loop cs' (suc k) p) (λ p. of_loop cs k p) k (length code) 0 (rank_term n k) within others (omega (arith, most)) in
      omega (arith, sums)
    where
      around : (p : ℕ) → p ≢ k → (c : ℕ) → IsIn code c p (suc k) → IsIn code c p k × (at 0 (set_extending 0 cs d n) c ≤ at 0 cs c)
      around p other c w =
          let inside : IsIn code c p k = record {
            after = ⊎_elim (λ (lt : p < k). lt) (λ (ge : k ≤ p). absurd (other (omega (arith, ge, w.after)))) (cases_lt p k);
            end = w.end;
            upto = omega (arith, w.upto);
            closes = w.closes;
          } in
          let same = at_other cs c d n (other_number code c d p k n nest inside stands) in
          (inside, omega (arith, same))

      others : (p : ℕ) → p ≢ k → of_loop (set_extending 0 cs d n) (suc k) p ≤ of_loop cs k p
      others p other = implied cs (set_extending 0 cs d n) k (suc k) p (around p other)

  -- the last round is over
  pub leaves : (cs : List ℕ) (k d t : ℕ) → NextIn (slice_get code k) d t → all_loops (set_extending 0 cs d 0) (suc k) ≤ all_loops cs k
  unfolding loop_in
  leaves cs k d t stands = forward cs (set_extending 0 cs d 0) k (suc k) (λ p c w. (from_here code k p c (ap begun_by stands) w, grind (arith, nat_tests, at-set_extending)))

  -- one more round begins of the loop that a next closes, with a counter that is no greater
  module _ (cs : List ℕ) (k d t n : ℕ) (nest : LoopsNest code) (stands : NextIn (slice_get code k) d t) (fewer : n ≤ at 0 cs d) (r : ℕ)
      (it : Closes code d r k) where
    -- the loop at r has its number, and those round it have others
    other_loop : (c p : ℕ) → IsIn code c p r → c ≢ d
    unfolding loop_in
    other_loop c p inside = let loop = loop_there (slice_get code r) d it.begins in other_number code c d p r loop.0 nest inside loop.1

    around : (p : ℕ) → p ≢ r → (c : ℕ) → IsIn code c p (suc r) → IsIn code c p k × (at 0 (set_extending 0 cs d n) c ≤ at 0 cs c)
    around p other c w =
        let before : p < r = ⊎_elim (λ (lt : p < r). lt) (λ (ge : r ≤ p). absurd (other (omega (arith, ge, w.after)))) (cases_lt p r) in
        let later : k < w.end = ⊎_elim (λ (a : w.end < r). absurd (omega (arith, a, w.upto))) (λ (a : k < w.end). a)
        (nest.nested c d p w.end r k w.closes it before) in
        let inside : IsIn code c p r = record { after = before; end = w.end; upto = omega (arith, w.upto); closes = w.closes } in
        let same = at_other cs c d n (other_loop c p inside) in
        (record { after = omega (arith, before, it.later); end = w.end; upto = omega (arith, later); closes = w.closes }, omega (arith, same))

    pub back : all_loops (set_extending 0 cs d n) (suc r) + rank_term (at 0 cs d) r ≤ all_loops cs k + rank_term n r
    back =
        let cs' = set_extending 0 cs d n in
        let most : of_loop cs' (suc r) r ≤ rank_term n r = subst (λ x. of_loop cs' (suc r) r ≤ rank_term x r) (at_same cs d n) (at_most cs' (suc r) r d it.begins) in
        let here : of_loop cs k r ≡ rank_term (at 0 cs d) r = within_it cs k r d (record { after = it.later; end = k; upto = omega arith; closes = it }) in
        let within = next_within code k _ it.ends in
        total_but (λ p. of_loop cs' (suc r) p) (λ p. of_loop cs k p) r (length code) (rank_term (at 0 cs d) r) (rank_term n r)
        (omega (arith, within, it.later)) (λ p other. implied cs cs' k (suc r) p (around p other)) (omega (arith, most, here))
