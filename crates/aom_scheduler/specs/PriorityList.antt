-- The objects that are enlisted, in the order in which they are picked.
use Rattle.std.specs.Prelude.{◌≡◌, ◌≢◌, ◌<◌, ◌==◌, ◌⊎◌, ◌<ℤ◌, ℕ, ℤ, Bool, true, false, if◌then◌else◌, int_le, List, [], ◌∷◌, Option, Some, None, IsSome, map, filter, slice_get}
use Rattle.aom_scheduler.specs.Order.{place_of, IsOrdered}
use Rattle.aom_scheduler.specs.declared.entry.ScheduleEntry.{ScheduleEntry}

-- the entries in order of choice, and the number below which ids are
pub record PriorityList : Type 0 where
  pub entries : List ScheduleEntry
  pub limit : ℕ

-- the first may stand before the second
abbrev pub before : ScheduleEntry → ScheduleEntry → Bool
before e f = int_le f.priority e.priority

-- where the object stands
abbrev pub place : ℕ → PriorityList → Option ℕ
place id r = place_of (λ e. e.id) id r.entries

-- the object has an entry
abbrev pub IsEnlisted : ℕ → PriorityList → Type 0
IsEnlisted id r = IsSome (place id r)

-- a new entry: not ready
abbrev pub waiting : ℕ → ℤ → ScheduleEntry
waiting id priority = record { id = id; priority = priority; is_ready = false }

-- the entry as it is once the object is ready, or not
abbrev pub marked_entry : ℕ → Bool → ScheduleEntry → ScheduleEntry
marked_entry id ready e = if e.id == id then record e { is_ready = ready } else e

-- the list with the object ready, or not
abbrev pub marked : ℕ → Bool → List ScheduleEntry → List ScheduleEntry
marked id ready entries = map (marked_entry id ready) entries

-- those that are ready
abbrev pub ready_ids : List ScheduleEntry → List ℕ
ready_ids entries = map (λ e. e.id) (filter (λ e. e.is_ready) entries)

-- the first that is ready
abbrev pub first_ready : List ScheduleEntry → Option ℕ
first_ready [] = None
first_ready (e ∷ es) = if e.is_ready then Some e.id else first_ready es

-- ids are below the limit and distinct, and no priority is higher than one before it
abbrev pub IsSound : PriorityList → Type 0
IsSound r = IsOrdered (λ e. e.id) before r.limit r.entries

-- another entry that is ready is of a lower priority than this one, or of the same and later
abbrev pub IsBehind : List ScheduleEntry → ℕ → ScheduleEntry → Type 0
IsBehind entries at picked = (k : ℕ) (e : ScheduleEntry) → slice_get entries k ≡ Some e → k ≢ at → e.is_ready ≡ true → (e.priority <ℤ picked.priority) ⊎
    ((e.priority ≡ picked.priority) × (at < k))

-- the object is ready, and all others that are ready are behind it
pub record IsPick (entries : List ScheduleEntry) (id : ℕ) : Type 0 where
  pub at : ℕ
  pub entry : ScheduleEntry
  pub there : slice_get entries at ≡ Some entry
  pub same : entry.id ≡ id
  pub ready : entry.is_ready ≡ true
  pub others : IsBehind entries at entry
