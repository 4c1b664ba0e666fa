-- What is left of a method's code from a place on: a number that falls as a run goes through the code.
use Rattle.std.specs.Prelude.{ℕ, zero, suc, Bool, false, cond, ◌&&◌, ◌==◌, nat_lt, ◌+◌, ◌-◌, ◌*◌, ◌^◌, List, [], ◌∷◌, length, drop, Option, Some, None}
use Rattle.std.specs.List.{list_any}
use Rattle.aom_instructions.specs.Table.{transfer_of}
use Rattle.aom_instructions.specs.declared.instr.Instr.{Instr}
use Rattle.aom_instructions.specs.declared.transfer.Transfer.{Transfer}
use Rattle.aom_instructions.specs.declared.transfer.Transfer.TheVariants.{Begin, Repeat}
use Rattle.aom_link_conditions.specs.Loops.{loop_at}
use Rattle.aom_roles.specs.Tables.{at}

-- how many rounds a loop declares
abbrev pub rounds_by : Transfer → ℕ
rounds_by (Begin d n) = n
rounds_by _ = 0

abbrev pub rounds_of : Instr → ℕ
rounds_of i = rounds_by (transfer_of i)

abbrev pub all_rounds : List Instr → ℕ
all_rounds [] = 0
all_rounds (i ∷ code) = rounds_of i + all_rounds code

-- each place weighs more than the next place times what a loop's rounds can bring it back
abbrev pub weight : List Instr → ℕ → ℕ
weight code place = (all_rounds code + 2) ^ (length code - place)

-- whether it ends the rounds of that loop
abbrev pub ends_by : (number back : ℕ) → Transfer → Bool
ends_by number back (Repeat d t) = (d == number) && (t == back)
ends_by number back _ = false

abbrev pub is_end_of : (number back : ℕ) → Instr → Bool
is_end_of number back i = ends_by number back (transfer_of i)

-- whether a place is in the body of a loop at p: after it, and up to a next that ends its rounds
abbrev pub is_in_body : List Instr → (number p place : ℕ) → Bool
is_in_body code number p place = nat_lt p place && list_any (is_end_of number (suc p)) (drop place code)

-- what a loop counts for at a place in its body, by its counter and where it begins
abbrev pub rank_term_at : List Instr → (rank_term : ℕ → ℕ → ℕ) (counters : List ℕ) → (place p : ℕ) → Option ℕ → ℕ
rank_term_at code rank_term counters place p None = 0
rank_term_at code rank_term counters place p (Some number) = cond (is_in_body code number p place) (rank_term (at 0 counters number) p) 0

abbrev pub total : (ℕ → ℕ) → ℕ → ℕ
total f zero = 0
total f (suc n) = total f n + f n

-- what all the loops round a place count for
abbrev pub loops_rank_term : List Instr → (rank_term : ℕ → ℕ → ℕ) (counters : List ℕ) → (place : ℕ) → ℕ
loops_rank_term code rank_term counters place = total (λ p. rank_term_at code rank_term counters place p (loop_at code p)) (length code)

-- for each round that is left the body may be gone through once more
abbrev pub rounds_weight : List Instr → (rounds p : ℕ) → ℕ
rounds_weight code rounds p = rounds * weight code (suc p)

-- where a run stands, and the rounds that are left of the loops round that place
abbrev pub left : List Instr → (counters : List ℕ) → (place : ℕ) → ℕ
left code counters place = weight code place + loops_rank_term code (rounds_weight code) counters place
