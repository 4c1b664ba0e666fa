-- No fault of a text is want of memory: by the definition of what a text denotes.
use Rattle.std.proofs.Common.{◌≡◌, ℕ, ◌+◌, ◌^◌, nat_le, if◌then◌else◌, Bool, true, false, List, []}
use Rattle.std.proofs.Common.{◌∷◌, ◌++◌, length, codes, Option, None, Some, Result, Ok, Err, subst}
use Rattle.std.specs.List.{list_all}
use Rattle.std.specs.Str.{bytes_eq}
use Rattle.aom_text.specs.Numbers.{number_of}
use Rattle.aom_text.specs.Text.{lines_of}
use Rattle.aom_text.specs.Words.{is_plain, words}
use Rattle.aom_text.specs.declared.number.Number.{Number}
use Rattle.aom_script.specs.Script.{Script, client_says, command_numbers, connect_numbers, connect_says, counted, denoted, denoted_by}
use Rattle.aom_script.specs.Script.{event_says, fault_in, fault_of, faults_after, in_line, in_place, is_back, is_refusal, kill_numbers}
use Rattle.aom_script.specs.Script.{kill_says, last_time, leaving_says, line_says, message_says, reading_of, refusal_says, refused_in}
use Rattle.aom_script.specs.Script.{said_by, send_says, report_numbers, timed_in, timed_says, unless, words_say}
use Rattle.aom_script.specs.declared.fault.ScriptFault.{ScriptFault}
use Rattle.aom_script.specs.declared.fault.ScriptFaultKind.{ScriptFaultKind}
use Rattle.aom_script.specs.declared.fault.ScriptFaultKind.TheVariants.{NotAscii, BadLine, BadNumber, TimeBack, LimitPassed, OutOfMemory}
use Rattle.aom_script.specs.declared.line.ScriptLine.{ScriptLine}
use Rattle.aom_script.specs.declared.reading.CommandNumbers.{CommandNumbers}
use Rattle.aom_script.specs.declared.reading.CommandNumbers.TheVariants.{ToClose, ToDie}
use Rattle.aom_script.specs.declared.reading.Reading.{Reading}

-- a fault of the text itself
abbrev pub IsOfText : ScriptFaultKind → Type 0
IsOfText NotAscii = Unit {0}
IsOfText BadLine = Unit {0}
IsOfText BadNumber = Unit {0}
IsOfText TimeBack = Unit {0}
IsOfText LimitPassed = Unit {0}
IsOfText OutOfMemory = ⊥

abbrev Fails_so : {A : Type 0} → Result A ScriptFaultKind → Type 0
Fails_so (Ok x) = Unit {0}
Fails_so (Err kind) = IsOfText kind

abbrev Has_so : Option ScriptFaultKind → Type 0
Has_so None = Unit {0}
Has_so (Some kind) = IsOfText kind

abbrev All_so : List ScriptFault → Type 0
All_so [] = Unit {0}
All_so (fault ∷ faults) = IsOfText fault.kind × All_so faults

abbrev Denotes_so : Result Script ScriptFault → Type 0
Denotes_so (Ok script) = Unit {0}
Denotes_so (Err fault) = IsOfText fault.kind

either : {A : Type 0} (P : A → Type 0) (b : Bool) (x y : A) → P x → P y → P (if b then x else y)
either P true x y here there = here
either P false x y here there = there

-- ---- the kinds of lines

refusals : (request : Option Number) → Fails_so (refusal_says request)
refusals None = tt
refusals (Some request) = tt

reports : (time native word : Option Number) → Fails_so (report_numbers time native word)
reports (Some time) (Some native) (Some word) = tt
reports (Some time) (Some native) None = tt
reports (Some time) None word = tt
reports None native word = tt

kills : (time native : Option Number) → Fails_so (kill_numbers time native)
kills (Some time) (Some native) = tt
kills (Some time) None = tt
kills None native = tt

events : (ws : List (List ℕ)) → Fails_so (event_says ws)
events [] = tt
events (time ∷ []) = tt
events (time ∷ native ∷ []) = tt
events (time ∷ native ∷ word ∷ []) = reports (number_of time) (number_of native) (number_of word)
events (time ∷ native ∷ word ∷ other ∷ ws) = tt

ends : (ws : List (List ℕ)) → Fails_so (kill_says ws)
ends [] = tt
ends (time ∷ []) = tt
ends (time ∷ native ∷ []) = kills (number_of time) (number_of native)
ends (time ∷ native ∷ other ∷ ws) = tt

commands : (time client : Option Number) (command : Option CommandNumbers) → Fails_so (command_numbers time client command)
commands (Some time) (Some client) (Some command) = tt
commands (Some time) (Some client) None = tt
commands (Some time) None command = tt
commands None client command = tt

connected : (time client class slots : Option Number) → Fails_so (connect_numbers time client class slots)
connected (Some time) (Some client) (Some class) (Some slots) = tt
connected (Some time) (Some client) (Some class) None = tt
connected (Some time) (Some client) None slots = tt
connected (Some time) None class slots = tt
connected None client class slots = tt

connects : (ws : List (List ℕ)) → Fails_so (connect_says ws)
connects [] = tt
connects (time ∷ []) = tt
connects (time ∷ client ∷ []) = tt
connects (time ∷ client ∷ class ∷ []) = tt
connects (time ∷ client ∷ class ∷ slots ∷ []) = connected (number_of time) (number_of client) (number_of class) (number_of slots)
connects (time ∷ client ∷ class ∷ slots ∷ other ∷ ws) = tt

messages : (time client : List ℕ) (ws : List (List ℕ)) → Fails_so (message_says time client ws)
messages time client [] = tt
messages time client (a ∷ []) = tt
messages time client (a ∷ b ∷ []) = tt
messages time client (a ∷ b ∷ c ∷ []) = tt
messages time client (a ∷ b ∷ c ∷ d ∷ []) = tt
messages time client (a ∷ b ∷ c ∷ d ∷ e ∷ []) = commands (number_of time) (number_of client) _
messages time client (a ∷ b ∷ c ∷ d ∷ e ∷ f ∷ ws) = tt

sends : (ws : List (List ℕ)) → Fails_so (send_says ws)
sends [] = tt
sends (time ∷ []) = tt
sends (time ∷ client ∷ ws) = messages time client ws

leavings : (command : CommandNumbers) (ws : List (List ℕ)) → Fails_so (leaving_says command ws)
leavings command [] = tt
leavings command (time ∷ []) = tt
leavings command (time ∷ client ∷ []) = commands (number_of time) (number_of client) (Some command)
leavings command (time ∷ client ∷ other ∷ ws) = tt

clients : (kind : List ℕ) (ws : List (List ℕ)) → Fails_so (client_says kind ws)
clients kind ws =
    let of_death = either Fails_so (bytes_eq kind (codes "die")) (leaving_says ToDie ws) (Err BadLine) (leavings ToDie ws) tt in
    let of_close = either Fails_so (bytes_eq kind (codes "close")) (leaving_says ToClose ws) _ (leavings ToClose ws) of_death in
    let of_send = either Fails_so (bytes_eq kind (codes "send")) (send_says ws) _ (sends ws) of_close in
    either Fails_so (bytes_eq kind (codes "connect")) (connect_says ws) _ (connects ws) of_send

timed : (kind : List ℕ) (ws : List (List ℕ)) → Fails_so (timed_says kind ws)
timed kind ws =
    let not_event = either Fails_so (bytes_eq kind (codes "kill")) (kill_says ws) (client_says kind ws) (ends ws) (clients kind ws) in
    either Fails_so (bytes_eq kind (codes "event")) (event_says ws)
    (if bytes_eq kind (codes "kill") then kill_says ws else client_says kind ws) (events ws) not_event

of_words : (ws : List (List ℕ)) → Fails_so (words_say ws)
of_words [] = tt
of_words (first ∷ []) = tt
of_words (first ∷ second ∷ others) = either Fails_so (is_refusal first others)
    (refusal_says (number_of second)) (timed_says second (first ∷ others)) (refusals (number_of second)) (timed second (first ∷ others))

of_reading : (line : List ℕ) → Fails_so (reading_of line)
of_reading line = either Fails_so (list_all is_plain line) (words_say (words line)) (Err NotAscii) (of_words (words line)) tt

-- ---- lines in their places

of_count : (number : ℕ) (said : Option ScriptLine) → Fails_so (counted number said)
of_count number None = tt
of_count number (Some said) = either Fails_so (nat_le number 65536) (Ok said) (Err LimitPassed) tt tt

of_place : (number last : ℕ) (reading : Result Reading ScriptFaultKind) → Fails_so reading → Fails_so (in_place number last reading)
of_place number last (Err kind) h = h
of_place number last (Ok reading) h = either Fails_so (is_back last reading) (Err TimeBack) (counted number (said_by reading)) tt (of_count number (said_by reading))

has_so : (said : Result ScriptLine ScriptFaultKind) → Fails_so said → Has_so (fault_in said)
has_so (Ok said) h = tt
has_so (Err kind) h = h

added : (number : ℕ) (fault : Option ScriptFaultKind) (faults : List ScriptFault) → Has_so fault → All_so faults → All_so (in_line number fault ++ faults)
added number None faults h hs = hs
added number (Some kind) faults h hs = (h, hs)

of_line : (before : List (List ℕ)) (line : List ℕ) → Has_so (fault_of before line)
of_line before line =
    let number = length before + 1 in
    let last = last_time (timed_in before) in
    has_so (line_says number last line) (of_place number last (reading_of line) (of_reading line))

of_lines : (before lines : List (List ℕ)) → All_so (faults_after before lines)
of_lines before [] = tt
of_lines before (line ∷ lines) =
    added (length before + 1) (fault_of before line) (faults_after (before ++ line ∷ []) lines) (of_line before line) (of_lines (before ++ line ∷ []) lines)

first_so : (faults : List ScriptFault) (script : Script) → All_so faults → Denotes_so (unless faults script)
first_so [] script h = tt
first_so (fault ∷ faults) script h = h.0

of_text : (text : List ℕ) → Denotes_so (denoted text)
of_text text =
    let lines = lines_of text in
    let script : Script = record { refused = refused_in lines; timed = timed_in lines } in
    either Denotes_so (nat_le (length text) (2 ^ 20)) (denoted_by lines) (Err (record { line = 1; kind = LimitPassed }))
    (first_so (faults_after [] lines) script (of_lines [] lines)) tt

-- the fault that a text denotes
pub is_of_text : (text : List ℕ) (fault : ScriptFault) → denoted text ≡ Err fault → IsOfText fault.kind
is_of_text text fault denotes = subst Denotes_so denotes (of_text text)
