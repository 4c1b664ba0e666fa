-- What a place owns, as a value.
use Rattle.std.specs.Prelude.{ℕ, ◌≡◌, ◌<◌, Some, None}
use Rattle.aom_image.specs.declared.method.Thing.TheVariants.{Object as An_object_of, Message as A_message}
use Rattle.aom_cells.specs.Heap.{class_at}
use Rattle.aom_semantics.specs.Places.{Elsewhere, Entry as At_entry, Field as In_field, Going as Goes, In_service, Object as Machine_object, Place, Register as In_register_of, Root as Of_image, Session as Of_session, held, service_of}
use Rattle.aom_semantics.specs.State.{State}
use Rattle.aom_machine_state.specs.declared.parts.Parts.{Parts}
use Rattle.aom_debug_views.specs.Owners.{source_at, source_in}
use Rattle.aom_debug_views.specs.declared.holding.Holding.{Holding}
use Rattle.aom_debug_views.specs.declared.holding.Holding.TheVariants as holds
use Rattle.aom_debug_views.specs.declared.holding.Owner.{Owner}
use Rattle.aom_debug_views.specs.declared.holding.Owner.TheVariants as of

-- the place that is meant
abbrev pub place_of : Owner → Place
place_of of.Root = Elsewhere Of_image
place_of (of.Register depth register) = In_register_of depth register
place_of (of.Entry height) = At_entry height
place_of of.Service = Elsewhere In_service
place_of (of.Going depth) = Goes depth
place_of (of.Field cell field) = In_field cell field
place_of (of.Session server client) = Elsewhere (Of_session server client)

-- there are 64 clients
abbrev pub IsOwner : Owner → Type 0
IsOwner (of.Session server client) = client < 64
IsOwner _ = Unit {0}

-- what the machine has by that number
abbrev pub HasNumber : Parts → ℕ → Holding → Type 0
HasNumber m n holds.Nothing = (class_at m.cells n ≡ None) × (source_at m n ≡ None)
HasNumber m n (holds.Object cell class) = (cell ≡ n) × (class_at m.cells n ≡ Some class)
HasNumber m n (holds.Message source) = (class_at m.cells n ≡ None) × (source_at m n ≡ Some source)

-- what a place of a state holds: nothing, the object of that name and class, or a message, by who hears when it is completed
abbrev pub HoldsSo : State → Place → Holding → Type 0
HoldsSo s r holds.Nothing = held s.cells r ≡ None
HoldsSo s r (holds.Object cell class) = (o : Machine_object) × (held s.cells r ≡ Some o) × (o.thing ≡ An_object_of class) × (o.name ≡ cell)
HoldsSo s r (holds.Message source) = (o : Machine_object) × (held s.cells r ≡ Some o) × (o.thing ≡ A_message) × (source_in (service_of s.cells o.name) ≡ Some source)
