-- A line of a source at which a run is, and where it has left that line.
use Rattle.std.specs.Prelude.{ℕ, Bool, true, false, not, ◌||◌, ◌==◌, nat_lt, if◌then◌else◌, length, Option, Some, None}
use Rattle.aom_image.specs.Image.{Image}
use Rattle.aom_semantics.specs.State.{State}
use Rattle.aom_debug_protocol.specs.declared.spot.CodeLocation.{CodeLocation}
use Rattle.aom_debug_symbols.specs.NameLists.{NameLists, line_at}
use Rattle.aom_debug_stepping.specs.Next.{next_of, spot_of}
use Rattle.aom_debug_stepping.specs.declared.source_lines.LineScope.{LineScope}

-- the line of what is next, with so many tasks at hand; where no instruction is next there is none, and each method counts that is entered
abbrev pub scope_of : NameLists → (enters : Bool) → Option CodeLocation → (tasks : ℕ) → LineScope
scope_of ns enters (Some spot) tasks = record { names = ns; line = line_at ns spot; depth = tasks; enters = enters }
scope_of ns enters None tasks = record { names = ns; line = None; depth = tasks; enters = true }

-- the line at which a state is
abbrev pub scope_at : Image → NameLists → (enters : Bool) → State → LineScope
scope_at p ns enters s = scope_of ns enters (spot_of (next_of p s)) (length s.tasks)

-- a line is another than at first; any is where there was none
abbrev pub is_other : (first now : Option ℕ) → Bool
is_other (Some first) (Some now) = not (first == now)
is_other _ _ = true

-- with more tasks at hand a method was entered; with fewer the method of that line is over; with as many it is another line
abbrev pub leaves_at : LineScope → (tasks : ℕ) → (line : Option ℕ) → Bool
leaves_at l tasks line = if nat_lt l.depth tasks then l.enters else (nat_lt tasks l.depth || is_other l.line line)

-- an instruction is next that is no more of that line
abbrev pub has_left : LineScope → (tasks : ℕ) → Option CodeLocation → Bool
has_left l tasks None = false
has_left l tasks (Some spot) = leaves_at l tasks (line_at l.names spot)
