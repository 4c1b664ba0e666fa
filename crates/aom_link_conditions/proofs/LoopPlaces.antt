-- The loop or the next that stands where one is found.
use Rattle.std.proofs.lemmas.Bool.Decides.{nat_tests}
use Rattle.std.proofs.Common.{◌≡◌, ◌<◌, ℕ, suc, List, length, IfSome, IsTrue, Option, Some, slice_index_or, refl, arith}
use Rattle.std.proofs.lemmas.Option.{same_Some, slice_get_read}
use Rattle.aom_instructions.specs.declared.instr.Instr.{Instr}
use Rattle.aom_image.specs.Views.{transfer_in}
use Rattle.aom_instructions.specs.declared.transfer.Transfer.{Transfer}
use Rattle.aom_instructions.specs.declared.transfer.Transfer.TheVariants.{Begin, Repeat}
use Rattle.aom_link_conditions.specs.Jumps.{Body, back_of, begins_loop}
use Rattle.aom_link_conditions.specs.Loops.{begun_by, loop_in, next_in, repeated_by}

begun : (t : Option Transfer) (d : ℕ) → begun_by t ≡ Some d → (n : ℕ) × (t ≡ Some (Begin d n))
begun t d e = grind arith

repeated : (t : Option Transfer) (d to : ℕ) → repeated_by t ≡ Some (record { number = d; back = to }) → t ≡ Some (Repeat d to)
repeated t d to e = grind arith

-- a loop of that number begins there
pub loop_there : (o : Option Instr) (d : ℕ) → loop_in o ≡ Some d → (n : ℕ) × (transfer_in o ≡ Some (Begin d n))
unfolding loop_in
loop_there o d e = begun (transfer_in o) d e

-- and that next ends a round of it
pub next_there : (o : Option Instr) (d t : ℕ) → next_in o ≡ Some (record { number = d; back = t }) → transfer_in o ≡ Some (Repeat d t)
unfolding next_in
next_there o d t e = repeated (transfer_in o) d t e

-- so a loop begins there, and that next goes back
pub begins_there : (o : Option Instr) (d n : ℕ) → transfer_in o ≡ Some (Begin d n) → IfSome o (λ i. IsTrue (begins_loop i))
unfolding begins_loop
begins_there o d n e = grind (arith, same_Some)

pub back_there : (o : Option Instr) (d t : ℕ) → transfer_in o ≡ Some (Repeat d t) → IfSome o (λ i. back_of i ≡ Some t)
unfolding back_of
back_there o d t e = grind (arith, same_Some)

-- a body, from what stands at its two places
pub body_here : (code : List Instr) (p q : ℕ) (i j : Instr) → q < length code →
    i ≡ slice_index_or code q i → p < length code → j ≡ slice_index_or code p j → p < q → IsTrue (begins_loop j) → back_of i ≡ Some (suc p) → Body code p q
body_here code p q i j lt at first there later begins back = search (arith, nat_tests, slice_get_read code)

pub body_begins : (code : List Instr) (p q : ℕ) (j : Instr) → p < length code → j ≡ slice_index_or code p j → Body code p q → IsTrue (begins_loop j)
body_begins code p q j lt at b = rw (slice_get_read code (length code) p j refl lt at) at b.begins

pub body_back : (code : List Instr) (p q : ℕ) (i : Instr) → q < length code → i ≡ slice_index_or code q i → Body code p q → back_of i ≡ Some (suc p)
body_back code p q i lt at b = rw (slice_get_read code (length code) q i refl lt at) at b.back
