-- What a rule answers, apart from the cleanup entries of the state that it is applied to.
use Rattle.std.specs.Prelude.{ℕ, List, [], ◌∷◌, ◌++◌, Option, Some, None, Result, Ok, Err}
use Rattle.aom_abstract_state.specs.Entries.{made_ready_at, without_top}
use Rattle.aom_abstract_state.specs.Needs.{Flow as Leads}
use Rattle.aom_abstract_state.specs.EntryStacks.{entries_of}
use Rattle.aom_abstract_state.specs.AbstractState.{Known, AbstractState}
use Rattle.aom_abstract_state.specs.declared.flow.Change.{Change}
use Rattle.aom_abstract_state.specs.declared.flow.Flow.{Flow}
use Rattle.aom_abstract_state.specs.declared.flow.Last.{Last}
use Rattle.aom_abstract_state.specs.declared.flow.Last.TheVariants.{Same, More, Fewer}
use Rattle.aom_abstract_state.specs.declared.flow.Next.{Next}
use Rattle.aom_abstract_state.specs.declared.flow.FlowEdge.{FlowEdge}
use Rattle.aom_abstract_state.specs.declared.kind.CleanupEntry.{CleanupEntry}
use Rattle.aom_abstract_state.specs.declared.entry_stacks.Node.{Node}
use Rattle.aom_abstract_state.specs.declared.shape.Kept.{Kept}
use Rattle.aom_abstract_state.specs.declared.why.Reason.{Reason}

-- a state, from what is known apart from its entries, and from those
abbrev pub known_with : Known → List CleanupEntry → AbstractState
known_with known es = record { registers = known.registers; fields = known.fields; entries = es; states = known.states; message_state = known.message_state }

abbrev pub kept_shape : List Node → Kept → AbstractState
kept_shape nodes kept = known_with kept.known (entries_of nodes kept.entry_stack)

abbrev pub made_ready_perhaps : Option ℕ → List CleanupEntry → List CleanupEntry
made_ready_perhaps None es = es
made_ready_perhaps (Some k) es = made_ready_at es k

abbrev pub last_changed : Last → List CleanupEntry → List CleanupEntry
last_changed Same es = es
last_changed (More e) es = e ∷ es
last_changed Fewer es = without_top es

-- the entries after a change: one is readied first
abbrev pub changed : Change → List CleanupEntry → List CleanupEntry
changed change es = last_changed change.last (made_ready_perhaps change.made_ready es)

abbrev pub next_shape : List CleanupEntry → Next → AbstractState
next_shape es next = known_with next.known (changed next.change es)

abbrev pub leads_to : List CleanupEntry → Option FlowEdge → List Leads
leads_to es None = []
leads_to es (Some way) = (way.to, known_with way.known es) ∷ []

-- where a flow leads, to states with these entries
abbrev pub leads_both : List CleanupEntry → Flow → List Leads
leads_both es flow = leads_to es flow.first ++ leads_to es flow.second

-- the flows of a state with these entries
abbrev pub ways_from : List CleanupEntry → Flow → List Leads
ways_from es flow = leads_both (changed flow.change es) flow

-- what a rule answers of a state with these entries
abbrev pub reported : List CleanupEntry → Result Flow Reason → Result (List Leads) Reason
reported es (Ok flow) = Ok (ways_from es flow)
reported es (Err why) = Err why
