-- What a move does to what no place tells: it takes its course, and only the end of a dispatch changes it otherwise.
use Rattle.std.proofs.lemmas.Bool.Decides.{nat_tests}
use Rattle.std.proofs.Common.{arith, List, ap, inl, inr, ◌∷◌, ◌≡◌}
use Rattle.std.specs.Prelude.{◌⊎◌}
use Rattle.aom_image.specs.Image.{Image}
use Rattle.aom_semantics.specs.Effects.{StopRequest, Goes_its_way, stop_requested}
use Rattle.aom_semantics.specs.Moves.{counted, dispatch_ends}
use Rattle.aom_semantics.specs.State.{Choice, Dispatch, Dispatched, Counters, State, Task}
use Rattle.aom_safety.specs.Steps.{Empties, Acts, Arrives, Clears, Comes_out, Ends, Move, Rests, Undoes, Reclaims}

-- the rest after a move takes a course
abbrev pub Takes : Image → State → State → Type 0
Takes p s u = (x : StopRequest) × (u.rest ≡ stop_requested x (counted p s).rest)

-- or a dispatch ends with it
abbrev pub IsEnd : Image → State → State → Type 0
IsEnd p s u = (d : Dispatch) × (ts : List Task) × (s.tasks ≡ Dispatched d ∷ ts) × (u ≡ dispatch_ends p d (counted p s))

pub move_rest : (p : Image) (c : Choice) (s u : State) → Move p c s u → Takes p s u ⊎ IsEnd p s u
move_rest p c s u (Acts fr ts i e at there met fits same) = grind (arith, nat_tests)
move_rest p c s u (Rests still same) = inl (Goes_its_way, ap (λ (x : State). x.rest) same)
move_rest p c s u (Reclaims ts o at there owns same) = inl (Goes_its_way, ap (λ (x : State). x.rest) same)
move_rest p c s u (Empties ts o at there same) = grind (arith, nat_tests)
move_rest p c s u (Clears code ts items o at top there same) = inl (Goes_its_way, ap (λ (x : State). x.rest) same)
move_rest p c s u (Undoes code ts items k w at top same) = inl (Goes_its_way, ap (λ (x : State). x.rest) same)
move_rest p c s u (Arrives code fr ts items at top same) = inl (Goes_its_way, ap (λ (x : State). x.rest) same)
move_rest p c s u (Comes_out code d ts items at top same) = inl (Goes_its_way, ap (λ (x : State). x.rest) same)
move_rest p c s u (Ends d ts at same) = inr (d, ts, at, same)

-- a course neither ends the run nor takes back main's line
pub course_ended : (x : StopRequest) (r : Counters) → (stop_requested x r).ended ≡ r.ended
course_ended x r = grind arith

pub course_announced : (x : StopRequest) (r : Counters) → (stop_requested x r).announced ≡ r.announced
course_announced x r = grind arith
