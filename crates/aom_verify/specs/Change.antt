-- What a sweep changes, and why that ends: places are reached, or states fall.
use Rattle.std.specs.Prelude.{ℕ, ◌≡◌, ◌<◌, ◌+◌, ◌-◌, ◌||◌, Option, Some, None}
use Rattle.std.specs.List.{sum_by}
use Rattle.aom_abstract_state.specs.AbstractState.{AbstractState}
use Rattle.aom_abstract_state.specs.declared.kind.FieldState.{FieldState}
use Rattle.aom_abstract_state.specs.declared.kind.FieldState.TheVariants.{Empty, Full, Perhaps}
use Rattle.aom_abstract_state.specs.declared.kind.Kind.{Kind}
use Rattle.aom_abstract_state.specs.declared.kind.Kind.TheVariants.{Unset, Word, Null, Own, Maybe}
use Rattle.aom_static_bounds.specs.Shapes.{Shapes}
use Rattle.aom_verify.specs.declared.change.StatesChange.{StatesChange}
use Rattle.aom_verify.specs.declared.change.StatesChange.TheVariants.{Nothing, Fell, Reached}
use Rattle.aom_verify.specs.declared.change.Step.{Step}

-- how often a kind can still fall
abbrev pub kind_rank : Kind → ℕ
kind_rank Unset = 0
kind_rank Word = 1
kind_rank Null = 1
kind_rank (Own t a) = 1
kind_rank (Maybe t a) = 0

abbrev pub filling_rank : FieldState → ℕ
filling_rank Empty = 1
filling_rank Full = 1
filling_rank Perhaps = 0

-- a set of request states falls as states come to it; it is a byte
abbrev pub states_rank : ℕ → ℕ
states_rank states = 256 - states

abbrev pub shape_rank : AbstractState → ℕ
shape_rank sh = sum_by kind_rank sh.registers + sum_by filling_rank sh.fields + states_rank sh.states

abbrev pub place_rank : Option AbstractState → ℕ
place_rank None = 0
place_rank (Some sh) = shape_rank sh

-- how often the states can still fall
abbrev pub rank : Shapes → ℕ
rank s = sum_by place_rank s

abbrev pub unreached : Option AbstractState → ℕ
unreached None = 1
unreached (Some sh) = 0

-- how many places are not reached
abbrev pub unreached_count : Shapes → ℕ
unreached_count s = sum_by unreached s

-- the states after that change
abbrev pub IsChange : Shapes → Shapes → StatesChange → Type 0
IsChange old new Nothing = new ≡ old
IsChange old new Fell = (unreached_count new ≡ unreached_count old) × (rank new < rank old)
IsChange old new Reached = unreached_count new < unreached_count old

-- one change and then another
abbrev pub then : StatesChange → StatesChange → StatesChange
then Nothing after = after
then Fell Reached = Reached
then Fell _ = Fell
then Reached _ = Reached

-- one step and then another
abbrev pub step_then : Step → Step → Step
step_then x y = record { change = then x.change y.change; is_behind = x.is_behind || y.is_behind }
