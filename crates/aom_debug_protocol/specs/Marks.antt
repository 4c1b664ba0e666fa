-- Breakpoints, and the latest places.
use Rattle.std.specs.Prelude.{◌≡◌, Bool, ◌&&◌, ◌||◌, ◌==◌, false, cond, find, nat_lt, List, [], ◌∷◌, ◌++◌, length, Option}
use Rattle.std.specs.List.{list_any}
use Rattle.circular_buffer.specs.Buffer.{keep_last}
use Rattle.aom_debug_protocol.specs.declared.breakpoints.Breakpoint.{Breakpoint}
use Rattle.aom_debug_protocol.specs.declared.spot.CodeLocation.{CodeLocation}

abbrev pub same_spot : CodeLocation → CodeLocation → Bool
same_spot a b = a.method == b.method && a.place == b.place

abbrev pub is_at : CodeLocation → Breakpoint → Bool
is_at spot b = same_spot spot b.spot

-- there is a breakpoint at that place
abbrev pub has_spot : CodeLocation → List Breakpoint → Bool
has_spot spot bs = list_any (is_at spot) bs

-- that one
abbrev pub breakpoint_at : CodeLocation → List Breakpoint → Option Breakpoint
breakpoint_at spot bs = find (is_at spot) bs

-- one can be set: there is one at its place already, or there are fewer than sixteen
abbrev pub is_set : CodeLocation → List Breakpoint → Bool
is_set spot bs = has_spot spot bs || nat_lt (length bs) 16

-- the breakpoints with this one in the place of the first that is where it is
abbrev pub replaced : Breakpoint → List Breakpoint → List Breakpoint
replaced b [] = []
replaced b (x ∷ xs) = cond (is_at b.spot x) (b ∷ xs) (x ∷ replaced b xs)

-- the breakpoints once one is set, of which a place has one alone; the same where it cannot be
abbrev pub with_breakpoint : Breakpoint → List Breakpoint → List Breakpoint
with_breakpoint b bs = cond (has_spot b.spot bs) (replaced b bs) (cond (nat_lt (length bs) 16) (bs ++ b ∷ []) bs)

-- the breakpoints without the first at that place
abbrev pub without_spot : CodeLocation → List Breakpoint → List Breakpoint
without_spot spot [] = []
without_spot spot (x ∷ xs) = cond (is_at spot x) xs (x ∷ without_spot spot xs)

-- to take away a breakpoint that was set where there was none is to have those that were
abbrev pub UnbreakUndoesBreak : Type 0
UnbreakUndoesBreak = (b : Breakpoint) (bs : List Breakpoint) → has_spot b.spot bs ≡ false → without_spot b.spot (with_breakpoint b bs) ≡ bs

-- to note a place after the latest sixteen of a history is to have the latest sixteen of the longer history
abbrev pub NotesKeepLatest : Type 0
NotesKeepLatest = (history : List CodeLocation) (spot : CodeLocation) → keep_last 16 (keep_last 16 history ++ spot ∷ []) ≡ keep_last 16 (history ++ spot ∷ [])
