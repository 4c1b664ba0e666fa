-- What befalls a run beside what its script says, and the words for it.
use Rattle.std.specs.Prelude.{ℕ, ◌≤◌, ◌<◌, ◌^◌, List, ◌++◌, codes, decimal}
use Rattle.aom_transcript.specs.declared.event.ClientCommand.TheVariants.{Die}
use Rattle.aom_transcript.specs.declared.event.Event.{Event}
use Rattle.aom_transcript.specs.declared.event.Event.TheVariants as events
use Rattle.aom_script.specs.Script.{Script}
use Rattle.aom_script.specs.Further.{with_event, with_refusal}
use Rattle.aom_fault_injection.specs.declared.injection.Injection.{Injection}
use Rattle.aom_fault_injection.specs.declared.injection.Injection.TheVariants.{Refusal, Pair, Death}
use Rattle.aom_fault_injection.specs.declared.injection.KillTarget.{KillTarget}
use Rattle.aom_fault_injection.specs.declared.injection.KillTarget.TheVariants.{Native, Client}

-- a native is killed, and a client dies
abbrev pub end_of : KillTarget → Event
end_of (Native native) = events.Kill native
end_of (Client client) = events.Client client Die

-- the script that says this too
abbrev pub injected : Injection → Script → Script
injected (Refusal number) script = with_refusal number script
injected (Pair number other) script = with_refusal other (with_refusal number script)
injected (Death time victim) script = with_event (record { time = time; event = end_of victim }) script

abbrev pub victim_text : KillTarget → List ℕ
victim_text (Native native) = codes " kill " ++ decimal native
victim_text (Client client) = codes " die " ++ decimal client

-- the words by which a script says it: those of two lines, one behind the other, where it has two
abbrev pub injection_text : Injection → List ℕ
injection_text (Refusal number) = codes "refuse " ++ decimal number
injection_text (Pair number other) = codes "refuse " ++ decimal number ++ codes " refuse " ++ decimal other
injection_text (Death time victim) = decimal time ++ victim_text victim

-- its number is one of a native or of a client
abbrev pub IsKillTarget : KillTarget → Type 0
IsKillTarget (Native native) = native < 16
IsKillTarget (Client client) = client < 64

-- a script can say it
abbrev pub CanInject : Injection → Type 0
CanInject (Refusal number) = Unit {0}
CanInject (Pair number other) = Unit {0}
CanInject (Death time victim) = (time ≤ 10 ^ 15) × IsKillTarget victim
