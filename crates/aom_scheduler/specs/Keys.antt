-- By what each object is found among those that are enlisted, in a list by id.
use Rattle.std.specs.Prelude.{◌≡◌, ◌<◌, ℕ, Bool, true, false, ◌||◌, ◌&&◌, int_lt, int_le, nat_lt, List, Option, Some, None, All, AllPairs, is_some, length, slice_index_or}
use Rattle.aom_scheduler.specs.Order.{place_of, IsOrdered}
use Rattle.aom_scheduler.specs.PriorityList.{before}
use Rattle.aom_scheduler.specs.declared.entry.ScheduleEntry.{ScheduleEntry}
use Rattle.aom_scheduler.specs.declared.key.Key.{Key}

-- the first key's object stands before the second's: it is of a higher priority, or of the same and its turn is before
abbrev pub goes_before : Key → Key → Bool
goes_before k l = int_lt l.priority k.priority || (int_le l.priority k.priority && nat_lt k.turn l.turn)

-- there are two keys, and the first's object stands before the second's
abbrev pub precedes : Option Key → Option Key → Bool
precedes (Some k) (Some l) = goes_before k l
precedes _ _ = false

-- there is a place, before this one
abbrev pub stands_before : ℕ → Option ℕ → Bool
stands_before at None = false
stands_before at (Some n) = nat_lt n at

-- the list has a key for the entry, of its priority and of a turn before the next
pub record HasKey (keys : List (Option Key)) (next : ℕ) (e : ScheduleEntry) : Type 0 where
  pub turn : ℕ
  pub is : slice_index_or keys e.id None ≡ Some (record { priority = e.priority; turn = turn })
  pub less : turn < next

-- the entries are in order, the list has a key for each and for no other, and by their keys they stand as they do
pub record IsKeyed (entries : List ScheduleEntry) (keys : List (Option Key)) (next : ℕ) : Type 0 where
  pub ordered : IsOrdered (λ e. e.id) before (length keys) entries
  pub listed : (id : ℕ) → is_some (slice_index_or keys id None) ≡ is_some (place_of (λ e. e.id) id entries)
  pub keyed : All (HasKey keys next) entries
  pub ranked : AllPairs (λ e f. precedes (slice_index_or keys e.id None) (slice_index_or keys f.id None) ≡ true) entries
