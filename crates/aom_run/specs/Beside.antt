-- What a machine and the natives beside it stand for.
use Rattle.std.specs.Prelude.{ℕ, ◌≡◌, ◌<◌, ◌≤◌, ◌==◌, Bool, false, not, List, Option, length, is_some}
use Rattle.aom_image.specs.Image.{Image}
use Rattle.aom_image.specs.declared.method.Thing.{Thing}
use Rattle.aom_determinism.specs.Endings.{one_where}
use Rattle.aom_natives.specs.Owed.{times}
use Rattle.aom_natives.specs.Slots.{ids_at, living_at}
use Rattle.aom_determinism.specs.Owed.{SessionsHold, owes}
use Rattle.aom_semantics.specs.Natives.{is_dead, is_served_by}
use Rattle.aom_semantics.specs.State.{State}
use Rattle.aom_transcript.specs.declared.event.Event.{Event}
use Rattle.aom_transcript.specs.declared.event.Event.TheVariants.{Client, Kill, Report}
use Rattle.aom_machine_state.specs.Stands.{MachineModel, Refines}

-- the slots of natives are as the state says: there are as many as the image names, at least; those live that are not killed; and what is
-- kept as outstanding at each is what its cells have outstanding there
pub record Serves {L : Type 0} (kept : L → List ℕ) (p : Image) (s : State) (slots : List (Option L)) : Type 0 where
  pub enough : p.header.natives ≤ length slots
  pub lives : (n : ℕ) → n < length slots → is_some (living_at slots n) ≡ not (is_dead s.killed n)
  pub ids : (n m : ℕ) → times m (ids_at kept slots n) ≡ one_where (owes p s.cells n m)
  pub sessions : SessionsHold p s

-- the same natives live, with the same outstanding
pub record KeptSame {L : Type 0} (kept : L → List ℕ) (old new : List (Option L)) : Type 0 where
  pub count : length new ≡ length old
  pub living : (k : ℕ) → is_some (living_at new k) ≡ is_some (living_at old k)
  pub ids : (k : ℕ) → ids_at kept new k ≡ ids_at kept old k

-- an event is for that native, or ends it; a client's command is for none
abbrev pub is_for_native : Event → ℕ → Bool
is_for_native (Report native word) k = native == k
is_for_native (Kill native) k = native == k
is_for_native (Client client command) k = false

-- each native that an event is not for is as it was
pub record KeepsUnreported {L : Type 0} (event : Event) (old new : List (Option L)) : Type 0 where
  pub count : length new ≡ length old
  pub at : (k : ℕ) → is_for_native event k ≡ false → living_at new k ≡ living_at old k

-- each native that serves no class of the image is as it was
pub record KeepsUnnamed {L : Type 0} (p : Image) (old new : List (Option L)) : Type 0 where
  pub at : (k : ℕ) → ((t : Thing) → is_served_by p k t ≡ false) → living_at new k ≡ living_at old k

-- a machine with such natives beside it stands for a state
pub record StandsBeside {L : Type 0} (kept : L → List ℕ) (m : MachineModel) (slots : List (Option L)) (s : State) : Type 0 where
  pub stands : Refines m s
  pub serves : Serves kept m.image s slots
  pub countable : length slots < 18446744073709551616
