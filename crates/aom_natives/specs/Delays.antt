-- What a delay makes of its entries.
use Rattle.std.specs.Prelude.{ℕ, ℤ, ◌-◌, ◌==◌, Bool, List, map}
use Rattle.aom_natives.specs.declared.delay.OwedRequest.{OwedRequest}

-- the ids that are owed
abbrev pub ids_in : List OwedRequest → List ℕ
ids_in entries = map (λ e. e.id) entries

-- an entry waits for no poll any more
abbrev pub is_due : OwedRequest → Bool
is_due e = e.count == 0

-- what a poll answers for it
abbrev pub completed : OwedRequest → ℕ × ℤ
completed e = (e.id, e.code)

-- it waits for one poll less
abbrev pub lowered : OwedRequest → OwedRequest
lowered e = record e { count = e.count - 1 }
