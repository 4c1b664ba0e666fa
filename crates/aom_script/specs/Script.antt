-- What the text of a script denotes.
use Rattle.std.specs.Prelude.{◌≡◌, ℕ, ℤ, ◌≤◌, ◌<◌, ◌+◌, ◌-◌, ◌^◌, ◌⊎◌, ◌&&◌, Bool, true, false, nat_le, if◌then◌else◌, List, [], ◌∷◌, ◌++◌, length, codes, Option, Some, None, option_map, Result, Ok, Err}
use Rattle.std.specs.List.{list_all, flat_map, fold, All}
use Rattle.std.specs.Str.{bytes_eq}
use Rattle.aom_text.specs.Words.{is_plain, is_none_left, words}
use Rattle.aom_text.specs.Text.{lines_of}
use Rattle.aom_text.specs.Numbers.{number_of, number_below, number_within, number_signed}
use Rattle.aom_text.specs.declared.number.Number.{Number}
use Rattle.aom_transcript.specs.declared.event.ClientCommand.{ClientCommand}
use Rattle.aom_transcript.specs.declared.event.ClientCommand.TheVariants.{Connect, Send, Close, Die}
use Rattle.aom_transcript.specs.declared.event.Event.{Event}
use Rattle.aom_transcript.specs.declared.event.Event.TheVariants.{Report, Kill, Client}
use Rattle.aom_transcript.specs.declared.event.TimedEvent.{TimedEvent}
use Rattle.aom_script.specs.declared.fault.ScriptFault.{ScriptFault}
use Rattle.aom_script.specs.declared.fault.ScriptFaultKind.{ScriptFaultKind}
use Rattle.aom_script.specs.declared.fault.ScriptFaultKind.TheVariants.{NotAscii, BadLine, BadNumber, TimeBack, LimitPassed, OutOfMemory}
use Rattle.aom_script.specs.declared.line.ScriptLine.{ScriptLine}
use Rattle.aom_script.specs.declared.line.ScriptLine.TheVariants.{Empty, Refuse, Timed}
use Rattle.aom_script.specs.declared.reading.CommandNumbers.{CommandNumbers}
use Rattle.aom_script.specs.declared.reading.CommandNumbers.TheVariants.{ToConnect, ToSend, ToClose, ToDie}
use Rattle.aom_script.specs.declared.reading.EventNumbers.{EventNumbers}
use Rattle.aom_script.specs.declared.reading.EventNumbers.TheVariants.{ToReport, ToKill, OfClient}
use Rattle.aom_script.specs.declared.reading.Reading.{Reading}
use Rattle.aom_script.specs.declared.reading.Reading.TheVariants.{Blank, Refusal, At}

-- a script, as contracts see it
pub record Script : Type 0 where
  -- the numbers of the requests that are refused, in the order of the text
  pub refused : List ℕ
  -- what comes from outside, in the order of the text
  pub timed : List TimedEvent

-- ---- the shape of a line, and its numbers

-- the numbers of each kind of line, if they all are numbers
abbrev pub refusal_says : Option Number → Result Reading ScriptFaultKind
refusal_says (Some request) = Ok (Refusal request)
refusal_says None = Err BadNumber

abbrev pub report_numbers : Option Number → Option Number → Option Number → Result Reading ScriptFaultKind
report_numbers (Some time) (Some native) (Some word) = Ok (At time (ToReport native word))
report_numbers _ _ _ = Err BadNumber

abbrev pub kill_numbers : Option Number → Option Number → Result Reading ScriptFaultKind
kill_numbers (Some time) (Some native) = Ok (At time (ToKill native))
kill_numbers _ _ = Err BadNumber

abbrev pub connect_numbers : Option Number → Option Number → Option Number → Option Number → Result Reading ScriptFaultKind
connect_numbers (Some time) (Some client) (Some class) (Some slots) = Ok (At time (OfClient client (ToConnect class slots)))
connect_numbers _ _ _ _ = Err BadNumber

abbrev pub message_numbers : Option Number → Option Number → Option Number → Option Number → Option Number → Option CommandNumbers
message_numbers (Some function) (Some first) (Some second) (Some third) (Some fourth) = Some (ToSend function first second third fourth)
message_numbers _ _ _ _ _ = None

abbrev pub command_numbers : Option Number → Option Number → Option CommandNumbers → Result Reading ScriptFaultKind
command_numbers (Some time) (Some client) (Some command) = Ok (At time (OfClient client command))
command_numbers _ _ _ = Err BadNumber

-- the words of each kind of line, without the one that names the kind
abbrev pub event_says : List (List ℕ) → Result Reading ScriptFaultKind
event_says (time ∷ native ∷ word ∷ []) = report_numbers (number_of time) (number_of native) (number_of word)
event_says _ = Err BadLine

abbrev pub kill_says : List (List ℕ) → Result Reading ScriptFaultKind
kill_says (time ∷ native ∷ []) = kill_numbers (number_of time) (number_of native)
kill_says _ = Err BadLine

abbrev pub connect_says : List (List ℕ) → Result Reading ScriptFaultKind
connect_says (time ∷ client ∷ class ∷ slots ∷ []) = connect_numbers (number_of time) (number_of client) (number_of class) (number_of slots)
connect_says _ = Err BadLine

-- a message has a function and four words
abbrev pub message_says : List ℕ → List ℕ → List (List ℕ) → Result Reading ScriptFaultKind
message_says time client (function ∷ first ∷ second ∷ third ∷ fourth ∷ []) =
    command_numbers (number_of time) (number_of client) (message_numbers (number_of function) (number_of first) (number_of second) (number_of third) (number_of fourth))
message_says time client _ = Err BadLine

abbrev pub send_says : List (List ℕ) → Result Reading ScriptFaultKind
send_says (time ∷ client ∷ words) = message_says time client words
send_says _ = Err BadLine

abbrev pub leaving_says : CommandNumbers → List (List ℕ) → Result Reading ScriptFaultKind
leaving_says command (time ∷ client ∷ []) = command_numbers (number_of time) (number_of client) (Some command)
leaving_says command _ = Err BadLine

-- the kinds of lines of clients
abbrev pub client_says : List ℕ → List (List ℕ) → Result Reading ScriptFaultKind
client_says kind others =
    if bytes_eq kind (codes "connect") then connect_says others
    else if bytes_eq kind (codes "send") then send_says others
    else if bytes_eq kind (codes "close") then leaving_says ToClose others
    else if bytes_eq kind (codes "die") then leaving_says ToDie others
    else Err BadLine

-- the kinds of timed lines
abbrev pub timed_says : List ℕ → List (List ℕ) → Result Reading ScriptFaultKind
timed_says kind others =
    if bytes_eq kind (codes "event") then event_says others
    else if bytes_eq kind (codes "kill") then kill_says others
    else client_says kind others

-- `refuse`, with one word behind it and these others
abbrev pub is_refusal : List ℕ → List (List ℕ) → Bool
is_refusal first others = bytes_eq first (codes "refuse") && is_none_left others

-- the words of a line: `refuse N`, or a timed line, whose kind is the second word
abbrev pub words_say : List (List ℕ) → Result Reading ScriptFaultKind
words_say [] = Ok Blank
words_say (first ∷ []) = Err BadLine
words_say (first ∷ second ∷ others) = if is_refusal first others then refusal_says (number_of second) else timed_says second (first ∷ others)

-- what a line has, or what is wrong with its bytes, its shape or its numbers, in this order
abbrev pub reading_of : List ℕ → Result Reading ScriptFaultKind
reading_of line = if list_all is_plain line then words_say (words line) else Err NotAscii

-- ---- the ranges of its numbers

-- both, where there are both
abbrev pub both : {A B C : Type 0} → (A → B → C) → Option A → Option B → Option C
both make (Some a) (Some b) = Some (make a b)
both make _ _ = None

-- all five words of a message
abbrev pub send_of : Option ℤ → Option ℤ → Option ℤ → Option ℤ → Option ℤ → Option ClientCommand
send_of (Some function) (Some first) (Some second) (Some third) (Some fourth) = Some (Send (function ∷ first ∷ second ∷ third ∷ fourth ∷ []))
send_of _ _ _ _ _ = None

-- a class has a number below 256, and a session 64 slots at most
abbrev pub command_within : CommandNumbers → Option ClientCommand
command_within (ToConnect class slots) = both Connect (number_within 0 255 class) (number_within 0 64 slots)
command_within (ToSend function first second third fourth) = send_of (number_signed function) (number_signed first) (number_signed second) (number_signed third) (number_signed fourth)
command_within ToClose = Some Close
command_within ToDie = Some Die

-- a native's number is below 16 and a client's below 64, a word has 32 bits with its sign
abbrev pub event_within : EventNumbers → Option Event
event_within (ToReport native word) = both Report (number_within 0 15 native) (number_signed word)
event_within (ToKill native) = option_map Kill (number_within 0 15 native)
event_within (OfClient client command) = both Client (number_within 0 63 client) (command_within command)

abbrev pub at_time : ℕ → Event → ScriptLine
at_time time event = Timed (record { time = time; event = event })

-- what a line says, if its numbers are in their ranges: a request's number has 32 bits and is not 0, a time is at most 10^15
abbrev pub said_by : Reading → Option ScriptLine
said_by Blank = Some Empty
said_by (Refusal request) = option_map Refuse (number_within 1 (2 ^ 32 - 1) request)
said_by (At time event) = both at_time (number_within 0 (10 ^ 15) time) (event_within event)

-- its time is below the last one
abbrev pub is_back : ℕ → Reading → Bool
is_back last (At time event) = number_below last time
is_back last _ = false

-- there is such a line: the last has the number 65536
abbrev pub counted : ℕ → Option ScriptLine → Result ScriptLine ScriptFaultKind
counted number (Some said) = if nat_le number 65536 then Ok said else Err LimitPassed
counted number None = Err LimitPassed

-- what a line has is told after the last time
abbrev pub in_place : ℕ → ℕ → Result Reading ScriptFaultKind → Result ScriptLine ScriptFaultKind
in_place number last (Err kind) = Err kind
in_place number last (Ok reading) = if is_back last reading then Err TimeBack else counted number (said_by reading)

-- what the line of that number says after the last time, or its first fault
abbrev pub line_says : ℕ → ℕ → List ℕ → Result ScriptLine ScriptFaultKind
line_says number last line = in_place number last (reading_of line)

-- ---- all lines

-- what a line that is not faulty says
abbrev pub said_in : Result Reading ScriptFaultKind → Option ScriptLine
said_in (Ok reading) = said_by reading
said_in (Err kind) = None

-- the requests that are refused, and the events, by what a line says
abbrev pub refused_by : Option ScriptLine → List ℕ
refused_by (Some (Refuse request)) = request ∷ []
refused_by _ = []

abbrev pub timed_by : Option ScriptLine → List TimedEvent
timed_by (Some (Timed event)) = event ∷ []
timed_by _ = []

-- the requests that lines refuse, in their order
abbrev pub refused_in : List (List ℕ) → List ℕ
refused_in lines = flat_map (λ line. refused_by (said_in (reading_of line))) lines

-- the events of lines, in their order
abbrev pub timed_in : List (List ℕ) → List TimedEvent
timed_in lines = flat_map (λ line. timed_by (said_in (reading_of line))) lines

-- the time of the last of some events after that time
abbrev pub time_after : ℕ → List TimedEvent → ℕ
time_after time events = fold (λ earlier event. event.time) time events

-- the time of the last event; the first stands after the time 0
abbrev pub last_time : List TimedEvent → ℕ
last_time events = time_after 0 events

abbrev pub fault_in : Result ScriptLine ScriptFaultKind → Option ScriptFaultKind
fault_in (Ok said) = None
fault_in (Err kind) = Some kind

-- the first fault of a line, by the lines before it
abbrev pub fault_of : List (List ℕ) → List ℕ → Option ScriptFaultKind
fault_of before line = fault_in (line_says (length before + 1) (last_time (timed_in before)) line)

-- a fault in the line of that number
abbrev pub in_line : ℕ → Option ScriptFaultKind → List ScriptFault
in_line number None = []
in_line number (Some kind) = record { line = number; kind = kind } ∷ []

-- the first fault of each faulty line, after some lines
abbrev pub faults_after : List (List ℕ) → List (List ℕ) → List ScriptFault
faults_after before [] = []
faults_after before (line ∷ lines) = in_line (length before + 1) (fault_of before line) ++ faults_after (before ++ line ∷ []) lines

-- a script, unless there are faults; of those the first is told
abbrev pub unless : List ScriptFault → Script → Result Script ScriptFault
unless [] script = Ok script
unless (fault ∷ faults) script = Err fault

-- what lines denote
abbrev pub denoted_by : List (List ℕ) → Result Script ScriptFault
denoted_by lines = unless (faults_after [] lines) (record { refused = refused_in lines; timed = timed_in lines })

-- what a text denotes: a script, or the first fault of its first faulty line
abbrev pub denoted : List ℕ → Result Script ScriptFault
denoted text = if nat_le (length text) (2 ^ 20) then denoted_by (lines_of text) else Err (record { line = 1; kind = LimitPassed })

-- ---- what holds of the events of a script

-- from that time on, no time is below the one before it
abbrev pub Rises : ℕ → List TimedEvent → Type 0
Rises time [] = Unit {0}
Rises time (event ∷ events) = (time ≤ event.time) × Rises event.time events

abbrev pub SlotsFit : ClientCommand → Type 0
SlotsFit (Connect class slots) = slots ≤ 64
SlotsFit _ = Unit {0}

-- there are 16 natives, 64 clients, and as many slots at most
abbrev pub NumbersFit : Event → Type 0
NumbersFit (Report native word) = native < 16
NumbersFit (Kill native) = native < 16
NumbersFit (Client client command) = (client < 64) × SlotsFit command

pub record InRange (event : TimedEvent) : Type 0 where
  pub time : event.time ≤ 10 ^ 15
  pub numbers : NumbersFit event.event

-- the times never fall, and each number is in its range
pub record IsTimely (events : List TimedEvent) : Type 0 where
  pub rises : Rises 0 events
  pub in_range : All InRange events

-- ---- what is answered

-- what a line says has to be kept
abbrev pub is_kept : ScriptLine → Bool
is_kept Empty = false
is_kept (Refuse request) = true
is_kept (Timed event) = true

-- memory was wanting for what a line says, and neither that line nor one before it is faulty
pub record LinesWantMemory (lines : List (List ℕ)) (fault : ScriptFault) : Type 0 where
  pub kind : fault.kind ≡ OutOfMemory
  pub before : List (List ℕ)
  pub line : List ℕ
  pub later : List (List ℕ)
  pub parts : lines ≡ before ++ line ∷ later
  pub at : fault.line ≡ length before + 1
  pub faultless : faults_after [] before ≡ []
  pub said : ScriptLine
  pub says : line_says fault.line (last_time (timed_in before)) line ≡ Ok said
  pub kept : is_kept said ≡ true

-- what comes of keeping what a line says: it is there, or memory was wanting
abbrev pub AddsLine : ScriptLine → Script → Script → Result (Unit {0}) ScriptFaultKind → Type 0
AddsLine said old new (Ok done) = (new.refused ≡ old.refused ++ refused_by (Some said)) × (new.timed ≡ old.timed ++ timed_by (Some said))
AddsLine said old new (Err kind) = (kind ≡ OutOfMemory) × (is_kept said ≡ true)

-- what comes of adding a line to a script: what it says is there, or its first fault is told, or memory was wanting
abbrev pub Adds : ℕ → List ℕ → Script → Script → Result (Unit {0}) ScriptFaultKind → Type 0
Adds number line old new result =
    ((said : ScriptLine) × (line_says number (last_time old.timed) line ≡ Ok said) × AddsLine said old new result)
    ⊎ ((kind : ScriptFaultKind) × (result ≡ Err kind) × (line_says number (last_time old.timed) line ≡ Err kind))

-- and the text is not too long, since else nothing has to grow
pub record WantsMemory (text : List ℕ) (fault : ScriptFault) : Type 0 where
  pub size : length text ≤ 2 ^ 20
  pub lines : LinesWantMemory (lines_of text) fault

-- what a fault says of a text: it is its first fault, or memory was wanting before there is one
abbrev pub RefusesOrWants : List ℕ → ScriptFault → Type 0
RefusesOrWants text fault = (denoted text ≡ Err fault) ⊎ WantsMemory text fault
