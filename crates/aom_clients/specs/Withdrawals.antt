-- What is left once messages were withdrawn one after another.
use Rattle.std.specs.Prelude.{ℕ, if◌then◌else◌, List, [], ◌∷◌, ◌++◌, map, slice_index_or, slice_set}
use Rattle.aom_clients.specs.Lists.{without}
use Rattle.aom_clients.specs.declared.place.MessagePlace.{MessagePlace}
use Rattle.aom_clients.specs.declared.place.MessagePlace.TheVariants.{Free}
use Rattle.aom_clients.specs.Table.{closed_place, is_queued}

-- the queues without these nodes
abbrev pub without_each : List ℕ → List (List ℕ) → List (List ℕ)
without_each [] queues = queues
without_each (m ∷ ms) queues = without_each ms (map (without m) queues)

-- the place of a message that its client leaves
abbrev pub left_at : ℕ → List MessagePlace → List MessagePlace
left_at m places = slice_set places m (closed_place (slice_index_or places m Free))

-- the places of all these
abbrev pub left_each : List ℕ → List MessagePlace → List MessagePlace
left_each [] places = places
left_each (m ∷ ms) places = left_each ms (left_at m places)

-- those of them that waited
abbrev pub waiting_each : List ℕ → List MessagePlace → List ℕ
waiting_each [] places = []
waiting_each (m ∷ ms) places = if is_queued (slice_index_or places m Free) then m ∷ waiting_each ms (left_at m places) else waiting_each ms (left_at m places)

-- a message is noted that waited
abbrev pub noted : ℕ → MessagePlace → List ℕ → List ℕ
noted m was freed = if is_queued was then freed ++ m ∷ [] else freed
