-- What these make of a turn is what the checked machine makes of its cells.
use Rattle.std.specs.Prelude.{◌≡◌, ℕ, Bool, true, is_some, Option}
use Rattle.aom_semantics.specs.Places.{Request}
use Rattle.aom_active_objects.specs.Agrees.{Active, RefinesRequests}

-- what stands for requests and queues stands for the same ones by other functions; the queue of what is not enlisted does not matter
abbrev pub StatusIsDetermined : Type 0
StatusIsDetermined =
    (a : Active) (asked other : ℕ → Option Request) (queues then : ℕ → Option Bool) → ((n : ℕ) → asked n ≡ other n) → ((n : ℕ) → is_some (other n) ≡ true → queues n ≡ then n) → RefinesRequests a asked queues → RefinesRequests a other then
