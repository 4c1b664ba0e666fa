-- What waits in the machine's queue is what waits at the object that is owned at the path, one after another.
use Rattle.std.proofs.Common.{◌≡◌, ◌∙◌, ℕ, List, [], ◌∷◌, Option, Some, None, ap, length, refl, sym}
use Rattle.std.specs.Prelude.{map, option_map, slice_get}
use Rattle.std.proofs.lemmas.Option.{none-some}
use Rattle.aom_clients.specs.Clients.{queue_at, taken_entry}
use Rattle.aom_clients.specs.Clients as kept
use Rattle.aom_clients.specs.declared.entry.QueueEntry.{QueueEntry}
use Rattle.aom_clients.specs.declared.entry.QueueEntry.TheVariants.{Connect, Message, Close}
use Rattle.aom_image.specs.Image.{Image}
use Rattle.aom_image.specs.declared.method.Thing.{Thing}
use Rattle.aom_image.specs.declared.method.Thing.TheVariants.{Object as An_object_of, Message as A_message}
use Rattle.aom_semantics.specs.Places.{Cell, Object, service_of}
use Rattle.aom_semantics.specs.State.{State}
use Rattle.aom_machine_state.specs.Serving.{asked_by}
use Rattle.aom_machine_state.specs.Stands.{Refines}
use Rattle.aom_machine_state.specs.declared.parts.Parts.{Parts}
use Rattle.aom_debug_protocol.specs.declared.answer.Answer.{Answer}
use Rattle.aom_debug_views.specs.CellViews.{class_in}
use Rattle.aom_debug_views.specs.Reporting.{gathered, listed}
use Rattle.aom_debug_paths.proofs.DebugViewsLemmas.{items_answered}
use Rattle.aom_debug_paths.specs.declared.following.Found.{Found}
use Rattle.aom_debug_paths.specs.Paths.{IsFound, asked_answer, object_queue, queue_in, taken_answer, waiting_lines}

-- one entry
entry_reported : (k : kept.ClientsState) (e : QueueEntry) → taken_answer (taken_entry k e) ≡ asked_answer (asked_by k.places e)
entry_reported k (Connect c) = refl
entry_reported k (Message m) = refl
entry_reported k (Close c) = refl

entries_reported : (k : kept.ClientsState) (es : List QueueEntry) → map (λ e. taken_answer (taken_entry k e)) es ≡ map asked_answer (map (asked_by k.places) es)
entries_reported k [] = refl
entries_reported k (e ∷ es) = ap (λ a. a ∷ map (λ x. taken_answer (taken_entry k x)) es) (entry_reported k e)
    ∙ ap (λ ys. asked_answer (asked_by k.places e) ∷ ys) (entries_reported k es)

-- what is told of what waits behind so many others
abbrev pub entry_lines : Parts → ℕ → ℕ → List Answer
entry_lines m n i = listed (option_map (λ e. taken_answer (taken_entry m.clients e)) (slice_get (queue_at m.clients n) i))

-- all of a queue
pub queue_reported : (p : Image) (m : Parts) (s : State) → Refines (record { image = p; parts = m }) s → (n : ℕ) →
    gathered (entry_lines m n) (length (queue_at m.clients n)) ≡ waiting_lines (service_of s.cells n).queue
queue_reported p m s st n = items_answered (λ e. taken_answer (taken_entry m.clients e)) (queue_at m.clients n) ∙ entries_reported m.clients (queue_at m.clients n)
    ∙ ap (map asked_answer) (st.agrees.services.clients.queues n)

pub queue_found : (cs : List Cell) (x : Option Object) (f : Found) → IsFound x (Some f) → queue_in cs x ≡ Some (waiting_lines (service_of cs f.cell).queue)
queue_found cs x f is = ap (λ y. queue_in cs y) is.1 ∙ ap (λ t. object_queue cs is.0.name t) is.2 ∙ ap (λ n. Some (waiting_lines (service_of cs n).queue)) is.3

-- and there is none where there is no object
pub queue_none : (cs : List Cell) (x : Option Object) → IsFound x None → queue_in cs x ≡ None
queue_none cs None none = refl
queue_none cs (Some o) none = go o.thing none
  where
    go : (t : Thing) → class_in t ≡ None → object_queue cs o.name t ≡ None
    go (An_object_of class) is = absurd (none-some class (sym is))
    go A_message is = refl
