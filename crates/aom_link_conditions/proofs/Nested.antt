-- What loops that nest give: a next goes back, and of two loops with a common place the inner one has the higher number.
use Rattle.std.proofs.lemmas.Bool.Decides.{nat_tests}
use Rattle.std.proofs.Common.{◌≡◌, ◌<◌, ◌≤◌, ◌+◌, ℕ, zero, suc, List, [], length, Some, IfSome, slice_get, inl, inr, ⊎_elim, arith, subst}
use Rattle.std.proofs.lemmas.Option.{slice_get_within, slice_get_cases}
use Rattle.aom_instructions.specs.declared.instr.Instr.{Instr}
use Rattle.aom_link_conditions.specs.Jumps.{back_of}
use Rattle.aom_link_conditions.specs.Loops.{Closes, ClosesSome, Ending, LoopsNest, next_at, next_in}
use Rattle.aom_link_conditions.proofs.Nesting.{ClosedBefore, Scanned, loop_within, must_pass, scanned_more, scanned_none}

-- the scan comes to each place
pub scanned_at : (code : List Instr) (i : ℕ) → LoopsNest code → i ≤ length code → (s : List ℕ) × Scanned code i s
scanned_at code zero nest le = ([], scanned_none code)
scanned_at code (suc i) nest le =
    let w = scanned_at code i nest (omega (arith, le)) in
    elim (slice_get_cases code i).1 as (λ _. (s : List ℕ) × Scanned code (suc i) s) [
      | inl x ↦
          let r = must_pass code i x.0 w.0 x.2 w.1 nest in
          let next : i + 1 ≡ suc i = omega arith in
          (r.0, subst (λ k. Scanned code k r.0) next (scanned_more code i x.0 w.0 r.0 x.2 r.1 w.1))
      | inr x ↦ absurd (omega (arith, x.0, le))
    ]

pub deeper : (code : List Instr) (c d p q r s : ℕ) → LoopsNest code → Closes code c p q → Closes code d r s → p < r → r < q → c < d
deeper code c d p q r s nest outer inner below within =
    let w = scanned_at code r nest (let l = loop_within code r d inner.begins in omega (arith, l)) in
    let number = nest.number r d inner.begins in
    let count = w.1.count in
    ⊎_elim (λ (open_here : slice_get w.0 c ≡ Some p). let l = slice_get_within w.0 c p open_here in omega (arith, l, number, count))
    (λ (b : ClosedBefore code r c p).
    let one = nest.closed p c outer.begins in
    let x = one.only q outer in
    let y = one.only b.place b.closes in
    let z = b.below in
    absurd (omega (arith, x, y, z, within))) (w.1.loops p c below outer.begins)

-- the loop that a next closes
pub closed_by : (code : List Instr) (q : ℕ) (e : Ending) → LoopsNest code → next_at code q ≡ Some e → ClosesSome code e.number q
closed_by code q e nest at = let w = nest.closing q in rw at at w

-- it begins right before the place that the next goes back to
pub back_of_closed : (code : List Instr) (d q t : ℕ) → next_at code q ≡ Some (record { number = d; back = t }) → (c : ClosesSome code d q) → t ≡ suc c.place
back_of_closed code d q t at c = search (arith, nat_tests)

-- so where a next goes back to is within the method
pub back_within : (code : List Instr) (place : ℕ) (i : Instr) → LoopsNest code → slice_get code place ≡ Some i → IfSome (back_of i) (λ t. t < length code)
unfolding back_of next_in
back_within code place x nest e = grind (arith, slice_get_within code place)
