-- Which injections are tried, in their order.
use Rattle.std.specs.Prelude.{ℕ, ◌≡◌, ◌≤◌, All, length, zero, suc, ◌+◌, ◌-◌, ◌^◌, ◌==◌, ◌||◌, Bool, false, if◌then◌else◌, is_some, min, List, [], ◌∷◌, ◌++◌, Option, Some, None, map, filter, take, drop}
use Rattle.std.specs.List.{flat_map, fold, list_any}
use Rattle.aom_text.specs.Numbers.{number_of, number_within}
use Rattle.aom_text.specs.Text.{lines_of}
use Rattle.aom_text.specs.Words.{words}
use Rattle.aom_text.specs.declared.number.Number.{Number}
use Rattle.aom_transcript.specs.declared.event.Event.{Event}
use Rattle.aom_transcript.specs.declared.event.Event.TheVariants as events
use Rattle.aom_transcript.specs.declared.event.TimedEvent.{TimedEvent}
use Rattle.aom_fault_injection.specs.declared.injection.Injection.{Injection}
use Rattle.aom_fault_injection.specs.declared.injection.Injection.TheVariants.{Refusal, Pair, Death}
use Rattle.aom_fault_injection.specs.declared.injection.KillTarget.{KillTarget}
use Rattle.aom_fault_injection.specs.declared.injection.KillTarget.TheVariants.{Native, Client}
use Rattle.aom_fault_injection.specs.declared.tries.Part.{Part}
use Rattle.aom_fault_injection.specs.declared.tries.Tries.{Tries}

-- ---- when a run does something

abbrev pub time_of_number : Option Number → Option ℕ
time_of_number None = None
time_of_number (Some number) = number_within 0 (10 ^ 15) number

-- `@` and a time, as a script may have one
abbrev pub time_of_word : List ℕ → Option ℕ
time_of_word [] = None
time_of_word (byte ∷ digits) = if byte == 64 then time_of_number (number_of digits) else None

abbrev pub time_of_words : List (List ℕ) → Option ℕ
time_of_words [] = None
time_of_words (word ∷ others) = time_of_word word

-- the time with which the line of a dispatch begins
abbrev pub time_of_line : List ℕ → Option ℕ
time_of_line line = time_of_words (words line)

-- the last of some times is that one
abbrev pub is_last : ℕ → List ℕ → Bool
is_last time times = fold (λ earlier other. other == time) false times

-- one time more, unless it is the last one
abbrev pub marked : List ℕ → Option ℕ → List ℕ
marked times None = times
marked times (Some time) = if is_last time times then times else times ++ time ∷ []

-- the times of the dispatches of a transcript, each once
abbrev pub times_in : List ℕ → List ℕ
times_in transcript = fold (λ times line. marked times (time_of_line line)) [] (lines_of transcript)

-- ---- what is asked for

abbrev pub marks_times : Tries → Bool
marks_times tries = tries.kills || tries.deaths

-- more than single refusals
abbrev pub asks_more : Tries → Bool
asks_more tries = tries.kills || tries.deaths || is_some tries.pairs

-- ---- refusals

-- so many numbers, from the first on
abbrev pub numbers : (first count : ℕ) → List ℕ
numbers first zero = []
numbers first (suc count) = first ∷ numbers (first + 1) count

-- the numbers from the first on that are below an end
abbrev pub below : (first end : ℕ) → List ℕ
below first end = numbers first (end - first)

-- the last number of a request that a script can refuse, of so many that the run makes
abbrev pub last_request : ℕ → ℕ
last_request requests = min requests (2 ^ 32 - 1)

-- the requests of a part, of so many
abbrev pub part_of : Part → ℕ → List ℕ
part_of part requests = below part.first (min part.last requests + 1)

-- that request and each later one
abbrev pub pairs_with : (last : ℕ) → ℕ → List Injection
pairs_with last number = map (Pair number) (below (number + 1) (last + 1))

-- each request of a part, and each later one
abbrev pub pairs_of : Part → ℕ → List Injection
pairs_of part requests = flat_map (pairs_with (last_request requests)) (part_of part requests)

-- the first so many of them, if they are asked for
abbrev pub some_pairs : Option ℕ → List Injection → List Injection
some_pairs None pairs = []
some_pairs (Some most) pairs = take most pairs

abbrev pub first_of : List Injection → Option Injection
first_of [] = None
first_of (injection ∷ others) = Some injection

-- the first that is left out
abbrev pub left_out : Option ℕ → List Injection → Option Injection
left_out None pairs = None
left_out (Some most) pairs = first_of (drop most pairs)

-- ---- deaths

-- it is of that client
abbrev pub is_of : ℕ → Event → Bool
is_of client (events.Client other command) = other == client
is_of client _ = false

-- the script names that client
abbrev pub is_named : List TimedEvent → ℕ → Bool
is_named timed client = list_any (λ event. is_of client event.event) timed

-- all natives, of which a script may speak of sixteen
abbrev pub natives_among : Bool → ℕ → List KillTarget
natives_among kills natives = if kills then map Native (below 0 (min natives 16)) else []

-- the clients that the script names
abbrev pub clients_among : Bool → List TimedEvent → List KillTarget
clients_among deaths timed = if deaths then map Client (filter (is_named timed) (below 0 64)) else []

abbrev pub victims_of : Tries → ℕ → List TimedEvent → List KillTarget
victims_of tries natives timed = natives_among tries.kills natives ++ clients_among tries.deaths timed

-- each of them, at each of these times
abbrev pub deaths_of : List ℕ → List KillTarget → List Injection
deaths_of times victims = flat_map (λ time. map (Death time) victims) times

-- ---- all

-- what is tried of a run that makes so many requests and does something at these times, beside so many natives: refusals, deaths and pairs
abbrev pub planned : Tries → (natives : ℕ) → List TimedEvent → (requests : ℕ) → (times : List ℕ) → List Injection
planned tries natives timed requests times =
    map Refusal (part_of tries.part requests) ++ deaths_of times (victims_of tries natives timed) ++ some_pairs tries.pairs (pairs_of tries.part requests)

-- the first of its pairs that is not
abbrev pub unplanned : Tries → (requests : ℕ) → Option Injection
unplanned tries requests = left_out tries.pairs (pairs_of tries.part requests)

-- they are times of events
abbrev pub AreTimes : List ℕ → Type 0
AreTimes times = All (λ time. time ≤ 10 ^ 15) times

-- ---- pairs, as they are added

-- more were added to some, or as many of them as may be there, and that is the first that was not
abbrev pub Grows : (old more : List Injection) (most : ℕ) (new : List Injection) → Option Injection → Type 0
Grows old more most new None = (new ≡ old ++ more) × (length new ≤ most)
Grows old more most new (Some injection) = (length new ≡ most) × ((later : List Injection) × (old ++ more ≡ new ++ injection ∷ later))
