-- The times of a denoted script never fall and its numbers are in their ranges: line by line, by the lines before.
use Rattle.std.proofs.Common.{◌≡◌, ◌∙◌, ◌≤◌, ◌<◌, ℕ, ◌+◌, ◌^◌, false, List, [], ◌∷◌, ◌++◌, length, append-nil}
use Rattle.std.proofs.Common.{Option, Some, Result, Ok, Err, refl, sym, ap, subst, arith, rules, tests}
use Rattle.std.proofs.lemmas.Bool.Decides.{nat_tests}
use Rattle.std.proofs.lemmas.Grind.{flat_map-append, fold-append}
use Rattle.std.specs.Prelude.{option_map, ℤ}
use Rattle.std.specs.List.{All}
use Rattle.std.proofs.lemmas.List.Elements.{All-nil, All-cons}
use Rattle.aom_text.specs.Numbers.{number_below, number_within, number_signed}
use Rattle.aom_text.specs.declared.number.Number.{Number}
use Rattle.aom_transcript.specs.declared.event.ClientCommand.{ClientCommand}
use Rattle.aom_transcript.specs.declared.event.ClientCommand.TheVariants.{Connect, Close, Die}
use Rattle.aom_transcript.specs.declared.event.Event.{Event}
use Rattle.aom_transcript.specs.declared.event.Event.TheVariants.{Report, Kill, Client}
use Rattle.aom_transcript.specs.declared.event.TimedEvent.{TimedEvent}
use Rattle.aom_script.specs.declared.fault.ScriptFault.{ScriptFault}
use Rattle.aom_script.specs.declared.fault.ScriptFaultKind.{ScriptFaultKind}
use Rattle.aom_script.specs.declared.line.ScriptLine.{ScriptLine}
use Rattle.aom_script.specs.declared.line.ScriptLine.TheVariants.{Empty, Refuse, Timed}
use Rattle.aom_script.specs.declared.reading.CommandNumbers.{CommandNumbers}
use Rattle.aom_script.specs.declared.reading.CommandNumbers.TheVariants.{ToConnect, ToSend, ToClose, ToDie}
use Rattle.aom_script.specs.declared.reading.EventNumbers.{EventNumbers}
use Rattle.aom_script.specs.declared.reading.EventNumbers.TheVariants.{ToReport, ToKill, OfClient}
use Rattle.aom_script.specs.declared.reading.Reading.{Reading}
use Rattle.aom_script.specs.declared.reading.Reading.TheVariants.{Blank, Refusal, At}
use Rattle.aom_script.specs.Script.{Script, reading_of, said_by, said_in, event_within, is_back, both, at_time, command_within}
use Rattle.aom_script.specs.Script.{send_of, line_says, time_after, last_time, fault_in, timed_by, refused_in, timed_in, in_line}
use Rattle.aom_script.specs.Script.{faults_after, unless, denoted_by, Rises, NumbersFit, SlotsFit, InRange, IsTimely}
use Rattle.aom_script.proofs.Lines.{Said, is_said}

-- ---- numbers

pub in_range : (low high : ℕ) (n : Number) (k : ℕ) → number_within low high n ≡ Some k → (k ≡ n.size) × (k ≤ high)
in_range low high n k e = grind (arith, nat_tests)

not_below : (last : ℕ) (n : Number) → number_below last n ≡ false → last ≤ n.size
not_below last n c = search (rules, tests, c)

-- what both make, of two numbers in their ranges
made : {A B C : Type 0} (P : C → Type 0) (make : A → B → C) (a : Option A) (b : Option B) (e : C) → ((x : A) (y : B) → a ≡ Some x → b ≡ Some y → P (make x y)) →
    both make a b ≡ Some e → P e
made x make y b e holds is = grind arith

mapped : {A C : Type 0} (P : C → Type 0) (make : A → C) (a : Option A) (e : C) → ((x : A) → a ≡ Some x → P (make x)) → option_map make a ≡ Some e → P e
mapped x make y e holds is = grind arith

below : (low high : ℕ) (n : Number) (k : ℕ) → number_within low high n ≡ Some k → k < high + 1
below low high n k is = let small = (in_range low high n k is).1 in omega (arith, small)

send_fits : (a b c d e : Option ℤ) (command : ClientCommand) → send_of a b c d e ≡ Some command → SlotsFit command
send_fits a b c d e command is = grind arith

slots_fit : (numbers : CommandNumbers) (command : ClientCommand) → command_within numbers ≡ Some command → SlotsFit command
slots_fit (ToConnect class slots) command is =
    made SlotsFit Connect (number_within 0 255 class) (number_within 0 64 slots) command (λ k n at few. (in_range 0 64 slots n few).1) is
slots_fit (ToSend a b c d e) command is = send_fits (number_signed a) (number_signed b) (number_signed c) (number_signed d) (number_signed e) command is
slots_fit ToClose command is = let same : Close ≡ command = cc in subst SlotsFit same tt
slots_fit ToDie command is = let same : Die ≡ command = cc in subst SlotsFit same tt

numbers_fit : (event : EventNumbers) (e : Event) → event_within event ≡ Some e → NumbersFit e
numbers_fit (ToReport native word) e is = made NumbersFit Report (number_within 0 15 native) (number_signed word) e (λ n w within said. below 0 15 native n within) is
numbers_fit (ToKill native) e is = mapped NumbersFit Kill (number_within 0 15 native) e (λ n within. below 0 15 native n within) is
numbers_fit (OfClient client command) e is =
    made NumbersFit Client (number_within 0 63 client) (command_within command) e (λ c x within said. (below 0 63 client c within, slots_fit command x said)) is

-- ---- one line

-- what a line adds to the events, after the last time
pub record Fits (last : ℕ) (said : ScriptLine) : Type 0 where
  pub rises : (events : List TimedEvent) → Rises (time_after last (timed_by (Some said))) events → Rises last (timed_by (Some said) ++ events)
  pub in_range : (events : List TimedEvent) → All InRange events → All InRange (timed_by (Some said) ++ events)

nothing : (last : ℕ) (said : ScriptLine) → timed_by (Some said) ≡ [] → Fits last said
nothing last said none = record {
  rises = λ events r. subst (λ es. Rises (time_after last es) events → Rises last (es ++ events)) (sym none) (λ r. r) r;
  in_range = λ events a. subst (λ es. All InRange (es ++ events)) (sym none) a;
}

one : (last : ℕ) (event : TimedEvent) → last ≤ event.time → InRange event → Fits last (Timed event)
one last event later within = record { rises = λ events r. (later, r); in_range = λ events a. All-cons InRange event events within a }

timed_fits : (last : ℕ) (time : Number) (event : EventNumbers) (said : ScriptLine) →
    number_below last time ≡ false → both at_time (number_within 0 (10 ^ 15) time) (event_within event) ≡ Some said → Fits last said
timed_fits last time event said on_time is = made (Fits last) at_time (number_within 0 (10 ^ 15) time) (event_within event) said fits_at is
  where
    fits_at : (t : ℕ) (e : Event) → number_within 0 (10 ^ 15) time ≡ Some t → event_within event ≡ Some e → Fits last (at_time t e)
    fits_at t e at comes =
        let within = in_range 0 (10 ^ 15) time t at in
        let later = subst (λ k. last ≤ k) (sym within.0) (not_below last time on_time) in
        one last (record { time = t; event = e }) later (record { time = within.1; numbers = numbers_fit event e comes })

refusal_fits : (last : ℕ) (o : Option ℕ) (said : ScriptLine) → option_map Refuse o ≡ Some said → Fits last said
refusal_fits last o said is = grind arith

fits : (last : ℕ) (reading : Reading) (said : ScriptLine) → is_back last reading ≡ false → said_by reading ≡ Some said → Fits last said
fits last Blank said on_time is = let line : Empty ≡ said = cc in nothing last said (ap (λ s. timed_by (Some s)) (sym line))
fits last (Refusal request) said on_time is = refusal_fits last _ said is
fits last (At time event) said on_time is = timed_fits last time event said on_time is

-- ---- all lines

-- the last time, with one line more
time_on : (before : List (List ℕ)) (line : List ℕ) →
    last_time (timed_in (before ++ line ∷ [])) ≡ time_after (last_time (timed_in before)) (timed_by (said_in (reading_of line)))
time_on before line = ap last_time (flat_map-append (λ l. timed_by (said_in (reading_of l))) before (line ∷ []) ∙ ap (λ es. timed_in before ++ es)
    (append-nil (timed_by (said_in (reading_of line))))) ∙ fold-append (λ earlier event. event.time) 0 (timed_in before) (timed_by (said_in (reading_of line)))

-- some events rise from that time on, and are in their ranges
pub record Are (time : ℕ) (events : List TimedEvent) : Type 0 where
  pub rises : Rises time events
  pub in_range : All InRange events

added : (last : ℕ) (reading : Result Reading ScriptFaultKind) (said : ScriptLine) (number : ℕ) (events : List TimedEvent) →
    Said number last reading said → Are (time_after last (timed_by (said_in reading))) events → Are last (timed_by (said_in reading) ++ events)
added last reading said number events s are =
    let is : said_in reading ≡ Some said = ap said_in s.reads ∙ s.says in
    let f = fits last s.ok said s.on_time s.says in
    subst (λ o. Are (time_after last (timed_by o)) events → Are last (timed_by o ++ events))
    (sym is) (λ are. record { rises = f.rises events are.rises; in_range = f.in_range events are.in_range }) are

timely_after : (before lines : List (List ℕ)) → faults_after before lines ≡ [] → Are (last_time (timed_in before)) (timed_in lines)
timely_after before [] e = record { rises = tt; in_range = All-nil InRange }
timely_after before (line ∷ lines) e = go (line_says (length before + 1) (last_time (timed_in before)) line) (timely_after (before ++ line ∷ []) lines) refl e where
  go : (said : Result ScriptLine ScriptFaultKind) → (faults_after (before ++ line ∷ []) lines ≡ [] →
      Are (last_time (timed_in (before ++ line ∷ []))) (timed_in lines)) → line_says (length before + 1) (last_time (timed_in before)) line ≡ said →
      in_line (length before + 1) (fault_in said) ++ faults_after (before ++ line ∷ []) lines ≡ [] → Are (last_time (timed_in before)) (timed_in (line ∷ lines))
  go (Ok said) rest says e =
      let later = subst (λ t. Are t (timed_in lines)) (time_on before line) (rest e) in
      added (last_time (timed_in before)) (reading_of line) said (length before + 1) (timed_in lines)
      (is_said (length before + 1) (last_time (timed_in before)) (reading_of line) said says) later
  go (Err kind) rest says e = absurd cc

-- where a script is denoted no line is faulty
no_fault : (faults : List ScriptFault) (read script : Script) → unless faults read ≡ Ok script → (faults ≡ []) × (read ≡ script)
no_fault faults read script e = grind arith

pub timely : (lines : List (List ℕ)) (script : Script) → denoted_by lines ≡ Ok script → IsTimely script.timed
timely lines script e =
    let both = no_fault (faults_after [] lines) (record { refused = refused_in lines; timed = timed_in lines }) script e in
    let are = timely_after [] lines both.0 in
    subst IsTimely (ap (λ (s : Script). s.timed) both.1) (record { rises = are.rises; in_range = are.in_range })
