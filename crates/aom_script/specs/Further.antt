-- Scripts that say one thing more.
use Rattle.std.specs.Prelude.{ℕ, nat_le, List, [], ◌∷◌, ◌++◌}
use Rattle.std.specs.List.{insert, prefix_len}
use Rattle.aom_transcript.specs.declared.event.TimedEvent.{TimedEvent}
use Rattle.aom_script.specs.Script.{Script}

-- the request of that number is refused too
abbrev pub with_refusal : ℕ → Script → Script
with_refusal number script = record script { refused = script.refused ++ number ∷ [] }

-- how many of the first events come by that time
abbrev pub place_after : ℕ → List TimedEvent → ℕ
place_after time timed = prefix_len (λ event. nat_le event.time time) timed

-- an event comes too, after all that come by its time
abbrev pub with_event : TimedEvent → Script → Script
with_event event script = record script { timed = insert script.timed (place_after event.time script.timed) event }
