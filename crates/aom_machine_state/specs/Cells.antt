-- How a cell comes, and what becomes of its request as it goes.
use Rattle.std.specs.Prelude.{◌≡◌, ◌≢◌, ◌⊎◌, ◌+◌, ℕ, Some, None, true, ◌<◌, Bool, ◌||◌, nat_le, ◌==◌, false, map}
use Rattle.std.specs.List.{list_any}
use Rattle.aom_cells.specs.Heap.{Heap, null, cell_at, count, blank, Changes}
use Rattle.aom_semantics.specs.State.{raised}
use Rattle.aom_machine_state.specs.LineBuffer.{LineBuffer}
use Rattle.aom_machine_state.specs.declared.parts.Parts.{Parts}
use Rattle.aom_clients.specs.Lists.{Table, without}
use Rattle.aom_scheduler.specs.Requests.{request_at}
use Rattle.aom_active_objects.specs.Agrees.{Active}
use Rattle.aom_active_objects.specs.Meanings.{Removes}

-- a request is refused: the script names its number, or, where it is for a cell, the heap is full
abbrev pub refuses_entry : LineBuffer → Parts → Bool
refuses_entry lines m = list_any (λ n. n == raised m.rest.requests) lines.refused

abbrev pub refuses : LineBuffer → Parts → Bool
refuses lines m = refuses_entry lines m || nat_le m.cells.limit (count m.cells)

-- a number for a new cell: null and the cells as they were, or a number below the limit that was free
abbrev pub Made : ℕ → Bool → ℕ → Heap → Heap → Type 0
Made class refused id old new =
    ((refused ≡ true) × (id ≡ null) × (new ≡ old))
    ⊎ ((refused ≡ false) × (class < 256) × (cell_at old id ≡ None) × (id ≢ null) × Changes old new id (Some (blank class)) × (count new ≡ count old + 1) × (id < new.limit))

-- the object is enlisted no more, if it was
abbrev pub Delists : Active → Active → ℕ → Type 0
Delists old new id = ((request_at old.table id ≡ None) × (new ≡ old)) ⊎ Removes old new id

-- and is in no list of servers
abbrev pub unlisted : ℕ → Table → Table
unlisted n t = record t { lists = map (without n) t.lists }
