-- Where an object stands among those that are ready.
use Rattle.std.specs.Prelude.{◌≡◌, ◌<◌, ◌≤◌, ℕ, true, false, length, insert, remove}
use Rattle.aom_scheduler.specs.PriorityList.{PriorityList, marked, ready_ids}

-- the object is ready, and stands there among those that are
pub record IsReadyAt (r : PriorityList) (id at : ℕ) : Type 0 where
  pub within : at < length (ready_ids r.entries)
  pub less : remove (ready_ids r.entries) at ≡ ready_ids (marked id false r.entries)
  pub same : marked id true r.entries ≡ r.entries

-- the object waits, and would stand there if it were ready
pub record IsWaitingAt (r : PriorityList) (id at : ℕ) : Type 0 where
  pub within : at ≤ length (ready_ids r.entries)
  pub room : length (ready_ids r.entries) < r.limit
  pub more : insert (ready_ids r.entries) at id ≡ ready_ids (marked id true r.entries)
  pub same : marked id false r.entries ≡ r.entries
