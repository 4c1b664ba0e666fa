-- What is left of a method falls with each of its moves.
use Rattle.std.proofs.Common.{◌≡◌, ◌<◌, ◌≤◌, ◌+◌, ◌-◌, ◌*◌, ◌^◌, ◌∙◌, ℕ, refl, suc, List, length, Some, None, slice_get, ap, arith}
use Rattle.std.proofs.lemmas.Option.{slice_get_within}
use Rattle.aom_instructions.specs.declared.instr.Instr.{Instr}
use Rattle.aom_termination.proofs.StaticBoundsLemmas.{LoopIn, NextIn}
use Rattle.aom_link_conditions.specs.Jumps.{JumpIsValid, KeepsWithin, jump_of}
use Rattle.aom_link_conditions.specs.Loops.{LoopsNest, loop_in}
use Rattle.aom_termination.proofs.LinkConditionsLemmas.{at_place}
use Rattle.aom_roles.specs.Tables.{at, set_extending}
use Rattle.aom_instructions.specs.declared.transfer.Transfer.TheVariants.{Begin}
use Rattle.aom_termination.proofs.ImageLemmas.{transfer_there}
use Rattle.aom_termination.proofs.Bodies.{transfer_within}
use Rattle.aom_termination.specs.Within.{all_rounds, left, rounds_by, rounds_of, rounds_weight, weight}
use Rattle.aom_termination.proofs.Rounds as rounds
use Rattle.aom_termination.proofs.Sums.{pow_less, pow_some, pow_step, scaled, scaled_le}
use Rattle.aom_termination.proofs.Sums.{one_of_all}

-- ---- weights

weight_some : (code : List Instr) (k : ℕ) → 1 ≤ weight code k
weight_some code k = pow_some (all_rounds code) (length code - k)

weight_less : (code : List Instr) (k to : ℕ) → k < length code → k < to → weight code to < weight code k
weight_less code k to within later = pow_less (all_rounds code) (length code - to) (length code - k) (omega (arith, within, later))

rounds_less : (code : List Instr) (k : ℕ) (d n : ℕ) → LoopIn (slice_get code k) d n → n ≤ all_rounds code
rounds_less code k d n e =
    let w = transfer_there (slice_get code k) (Begin d n) e in
    let le = one_of_all rounds_of all_rounds (λ x xs. refl) code k w.0 w.1 in
    omega (arith, le, ap rounds_by w.2)

-- a loop's place weighs more than its body does for all rounds
weight_loop : (code : List Instr) (k n : ℕ) → k < length code → n ≤ all_rounds code → weight code (suc k) + n * weight code (suc k) < weight code k
weight_loop code k n within le =
    let w = weight code (suc k) in
    let some : 1 ≤ w = weight_some code (suc k) in
    let long : length code - k ≡ suc (length code - suc k) = omega (arith, within) in
    let same : weight code k ≡ (all_rounds code + 2) * w = ap (λ j. (all_rounds code + 2) ^ j) long ∙ pow_step (all_rounds code) (length code - suc k) in
    let more : (n + 2) * w ≤ (all_rounds code + 2) * w = scaled_le (n + 2) (all_rounds code + 2) w (omega (arith, le)) in
    grind (arith, some, same, more)

-- more rounds weigh more
grows : (code : List Instr) (p a b : ℕ) → a ≤ b → rounds_weight code a p ≤ rounds_weight code b p
grows code p a b le = scaled_le a b (weight code (suc p)) le

-- ---- the moves

pub straight_on : (code : List Instr) (cs : List ℕ) (k : ℕ) (i : Instr) → slice_get code k ≡ Some i → loop_in (Some i) ≡ None → left code cs (suc k) < left code cs k
straight_on code cs k i stands none =
    let less = weight_less code k (suc k) (slice_get_within code k i stands) (omega arith) in
    omega (arith, less, rounds.straight_on code (rounds_weight code) (grows code) cs k i stands none)

-- a jump goes forward
pub jumps : (code : List Instr) (cs : List ℕ) (k to : ℕ) (i : Instr) → JumpIsValid code → slice_get code k ≡ Some i → jump_of i ≡ Some to →
    left code cs to < left code cs k
jumps code cs k to i well stands jump =
    let keeps = at_place (KeepsWithin (length code)) code k i well.each stands in
    let later : k < to = (let h = keeps.forward in rw jump at h) in
    let less = weight_less code k to (slice_get_within code k i stands) later in
    omega (arith, less, rounds.jumps code (rounds_weight code) (grows code) cs k to i well stands jump)

-- a loop begins all its rounds
pub enters : (code : List Instr) (cs : List ℕ) (k d n : ℕ) → LoopsNest code → LoopIn (slice_get code k) d n →
    left code (set_extending 0 cs d n) (suc k) < left code cs k
enters code cs k d n nest stands =
    let pays = weight_loop code k n (transfer_within code k _ stands) (rounds_less code k d n stands) in
    omega (arith, pays, rounds.enters code (rounds_weight code) (grows code) cs k d n nest stands)

-- the last round is over
pub leaves : (code : List Instr) (cs : List ℕ) (k d t : ℕ) → NextIn (slice_get code k) d t → left code (set_extending 0 cs d 0) (suc k) < left code cs k
leaves code cs k d t stands =
    let less = weight_less code k (suc k) (transfer_within code k _ stands) (omega arith) in
    omega (arith, less, rounds.leaves code (rounds_weight code) (grows code) cs k d t stands)

-- one more round begins
pub back : (code : List Instr) (cs : List ℕ) (k d t n : ℕ) → LoopsNest code → NextIn (slice_get code k) d t → at 0 cs d - 1 ≡ suc n →
    left code (set_extending 0 cs d (suc n)) t < left code cs k
back code cs k d t n nest stands fewer =
    let r = rounds.closed_loop code k d t nest stands in
    let again = rounds.back code (rounds_weight code) (grows code) cs k d t (suc n) nest stands (omega (arith, fewer)) r.0 r.1 in
    let more = scaled (suc n) (at 0 cs d) (weight code (suc r.0)) (omega (arith, fewer)) in
    rw r.2 (omega (arith, again, more, weight_some code k))
