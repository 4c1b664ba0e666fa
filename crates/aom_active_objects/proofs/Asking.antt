-- What the requests are by name after each change of the cells.
use Rattle.std.proofs.lemmas.Bool.Decides.{nat_tests}
use Rattle.std.proofs.Common.{◌≡◌, ◌==◌, ℕ, ℤ, true, false, List, [], ◌∷◌, Option, Some, None, arith}
use Rattle.std.specs.Prelude.{is_some}
use Rattle.std.proofs.Math.Nat.{le-max_left, le-max_right}
use Rattle.aom_image.specs.declared.method.Thing.{Thing}
use Rattle.aom_active_objects.proofs.SemanticsLemmas.{named_name, named_without, requested_without, unnamed}
use Rattle.aom_active_objects.proofs.SafetyLemmas.{requested_here, requested_there, requested_unnamed, service_unnamed, service_without}
use Rattle.aom_semantics.specs.Requests.{next_order, next_timer}
use Rattle.aom_semantics.specs.Places.{Cell, Object, Place, Request, NoDuplicates, held, named, requested, set_request, with_new, without, Service}
use Rattle.aom_semantics.specs.Places.{service_of}
use Rattle.aom_active_objects.specs.Agrees.{queue_in, queued}
use Rattle.aom_active_objects.specs.Meanings.{AreWanted, IsNewest, IsNewestTimer, asked_anew}
use Rattle.aom_image.specs.Image.{Image}
use Rattle.aom_semantics.specs.Servers.{is_server}

-- another request of a cell that is there
pub asked_set : (cs : List Cell) (n : ℕ) (r : Option Request) → is_some (named cs n) ≡ true → (m : ℕ) →
    asked_anew n r (requested cs) m ≡ requested (set_request n r cs) m
asked_set cs n r there m = grind (arith, requested_here cs n r, requested_there cs n m r)

-- a new cell is not enlisted
pub asked_new : (cs : List Cell) (name : ℕ) (thing : Thing) (words : List ℤ) (owner : Place) → named cs name ≡ None → (n : ℕ) →
    requested (with_new name thing words owner cs) n ≡ requested cs n
asked_new cs name thing words owner new n = grind (arith, requested_unnamed cs name new)

-- a cell that goes takes its request with it
pub asked_gone : (cs : List Cell) (g : Place) (o : Object) → NoDuplicates cs → held cs g ≡ Some o → (n : ℕ) →
    requested (without g cs) n ≡ asked_anew o.name None (requested cs) n
asked_gone cs g o no_duplicates holds n = grind (arith, requested_unnamed, unnamed cs g o no_duplicates holds, requested_without cs g o n no_duplicates holds)

-- the next order comes after those of all requests, and that of timers after those of all that run
pub newest : (cs : List Cell) → NoDuplicates cs → IsNewest (next_order cs) (requested cs)
newest [] no_duplicates n r e = cc
newest (c ∷ cs) no_duplicates n r e = grind (arith, nat_tests, newest cs no_duplicates.2 n r, le-max_left, le-max_right)

pub newest_timer : (cs : List Cell) → NoDuplicates cs → IsNewestTimer (next_timer cs) (requested cs)
newest_timer [] no_duplicates n t e = cc
newest_timer (c ∷ cs) no_duplicates n t e = grind (arith, newest_timer cs no_duplicates.2 n t)

-- ---- the queues

-- what waits at a name is told by what stands there and by its queue alone
pub queue_same : (p : Image) (o : Option Object) (v w : Service) → v.queue ≡ w.queue → queue_in p o v ≡ queue_in p o w
queue_same p x v w same = grind arith

pub queued_same : (p : Image) (cs cs' : List Cell) → ((n : ℕ) → named cs' n ≡ named cs n) → ((n : ℕ) → (service_of cs' n).queue ≡ (service_of cs n).queue) →
    (n : ℕ) → queued p cs' n ≡ queued p cs n
queued_same p cs cs' names queues n = grind (arith, nat_tests, queue_same p)

-- a cell that goes is no server, and all others are as they were
pub queued_gone : (p : Image) (cs : List Cell) (g : Place) (o : Object) → NoDuplicates cs → held cs g ≡ Some o → (n : ℕ) → (o.name == n) ≡ false →
    queued p (without g cs) n ≡ queued p cs n
queued_gone p cs g o no_duplicates there n other = grind (arith, named_without cs g o n no_duplicates there other, service_without cs g o n no_duplicates there other)

-- these are the queues in which something waits
pub are_wanted : (p : Image) (cs : List Cell) → ((o : Object) → named cs o.name ≡ Some o → is_server p o.thing ≡ false → (service_of cs o.name).queue ≡ []) →
    AreWanted (queued p cs) cs
are_wanted p cs none n = grind (arith, nat_tests, named_name cs n, service_unnamed cs n)
