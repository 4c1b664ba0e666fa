-- What clients have at the cells where these change: by what a change keeps of a cell.
use Rattle.std.proofs.lemmas.Bool.Decides.{nat_tests}
use Rattle.std.proofs.Common.{arith, List, None, Option, Some, ap, false, refl, ℕ, ℤ, ◌==◌, ◌≡◌}
use Rattle.aom_image.specs.Image.{Image}
use Rattle.aom_safety.specs.WellTyped.{IsOwnedChain, OwnedFirst, owned_object_of, EndsSessions, IsAttended}
use Rattle.aom_semantics.specs.State.{OwnedObject, Dispatch}
use Rattle.aom_safety.proofs.SemanticsLemmas.{asking, detaching, held_kept, moving, named_kept, read_here, read_kept, read_there, read_unnamed, read_without}
use Rattle.aom_safety.proofs.SemanticsLemmas.{requests, services, serving, storing, tidy_kept}
use Rattle.aom_semantics.specs.Natives.{all_detached}
use Rattle.aom_semantics.specs.Places.{Cell, Object, Place, Request, Service, NoDuplicates, held, moved, named, requested}
use Rattle.aom_semantics.specs.Places.{service_of, set_request, set_service, set_word_field, unserved, without}

pub service_moved : (cs : List Cell) (p q : Place) (n : ℕ) → service_of (moved p q cs) n ≡ service_of cs n
service_moved cs p q = read_kept (moving p q) services (λ c. refl) cs

pub service_asked : (cs : List Cell) (m : ℕ) (r : Option Request) (n : ℕ) → service_of (set_request m r cs) n ≡ service_of cs n
service_asked cs m r = read_kept (asking m r) services (λ c. refl) cs

pub service_detached : (p : Image) (k : ℕ) (cs : List Cell) (n : ℕ) → service_of (all_detached p k cs) n ≡ service_of cs n
service_detached p k = read_kept (detaching p k) services (λ c. refl)

pub service_stored : (cs : List Cell) (m w : ℕ) (v : ℤ) (n : ℕ) → service_of (set_word_field m w v cs) n ≡ service_of cs n
service_stored cs m w v = read_kept (storing m w v) services (λ c. refl) cs

-- of what is not there they have nothing
pub service_unnamed : (cs : List Cell) (n : ℕ) → named cs n ≡ None → service_of cs n ≡ unserved
service_unnamed = read_unnamed services

-- of all but what goes they have what they had
pub service_without : (cs : List Cell) (g : Place) (o : Object) (n : ℕ) → NoDuplicates cs → held cs g ≡ Some o → (o.name == n) ≡ false →
    service_of (without g cs) n ≡ service_of cs n
service_without = read_without services

-- ---- where they have something else at a cell

pub held_served : (cs : List Cell) (m : ℕ) (v : Service) (q : Place) → held (set_service m v cs) q ≡ held cs q
held_served cs m v = held_kept (serving m v) (λ c. refl) cs

pub named_served : (cs : List Cell) (m : ℕ) (v : Service) (n : ℕ) → named (set_service m v cs) n ≡ named cs n
named_served cs m v = named_kept (serving m v) cs

pub requested_served : (cs : List Cell) (m : ℕ) (v : Service) (n : ℕ) → requested (set_service m v cs) n ≡ requested cs n
requested_served cs m v = read_kept (serving m v) requests (λ c. refl) cs

pub tidy_served : (cs : List Cell) (m : ℕ) (v : Service) → NoDuplicates cs → NoDuplicates (set_service m v cs)
tidy_served cs m v = tidy_kept (serving m v) (λ c. refl) cs

pub service_here : (cs : List Cell) (m : ℕ) (v : Service) (o : Object) → named cs m ≡ Some o → service_of (set_service m v cs) m ≡ v
service_here cs m v = read_here (serving m v) services m v (λ c. refl) cs

pub service_there : (cs : List Cell) (m n : ℕ) (v : Service) → (m == n) ≡ false → service_of (set_service m v cs) n ≡ service_of cs n
service_there cs m n v = read_there (serving m v) services m v (λ c. refl) cs n

-- ---- what a stack says of it

-- where its server has the same sessions
attended_alike : (p : Image) (cs cs' : List Cell) (d : Dispatch) → ((y : OwnedObject) →
    owned_object_of d ≡ Some y → (service_of cs' y.object.name).sessions ≡ (service_of cs y.object.name).sessions) → IsAttended p cs d → IsAttended p cs' d
attended_alike p cs cs' x sessions h = grind arith

module _ (p : Image) (cs cs' : List Cell) (service : (n : ℕ) → (service_of cs' n).sessions ≡ (service_of cs n).sessions) where
  pub attended_kept : (d : Dispatch) → IsAttended p cs d → IsAttended p cs' d
  attended_kept d = attended_alike p cs cs' d (λ y e. service y.object.name)

-- where it is so for the server of the dispatch
pub attended_at : (p : Image) (cs cs' : List Cell) (d : Dispatch) →
    ((y : OwnedObject) → owned_object_of d ≡ Some y → service_of cs' y.object.name ≡ service_of cs y.object.name) → IsAttended p cs d → IsAttended p cs' d
attended_at p cs cs' d service = attended_alike p cs cs' d (λ y e. ap (λ v. v.sessions) (service y e))

-- the object that is dispatched lives, and is at its place
pub sits_there : (cs : List Cell) (owned_chain : List OwnedObject) (y : OwnedObject) → IsOwnedChain cs owned_chain → OwnedFirst cs (Some y) owned_chain →
    (held cs y.place ≡ Some y.object) × (named cs y.object.name ≡ Some y.object)
sits_there cs owned_chain y is_owned_chain first = grind arith

pub sits_lives : (cs : List Cell) (owned_chain : List OwnedObject) (y : OwnedObject) → IsOwnedChain cs owned_chain → OwnedFirst cs (Some y) owned_chain → named cs y.object.name ≡ Some y.object
sits_lives cs owned_chain y is_owned_chain first = (sits_there cs owned_chain y is_owned_chain first).1

pub sessions_kept : (p : Image) (cs cs' : List Cell) → ((n : ℕ) → named cs' n ≡ named cs n) →
    ((n : ℕ) → (service_of cs' n).sessions ≡ (service_of cs n).sessions) → (o : Object) (left : List ℕ) → EndsSessions p cs o left → EndsSessions p cs' o left
sessions_kept p cs cs' names service o left h = search (arith, nat_tests)
