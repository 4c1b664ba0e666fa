-- An event that comes after all that come by its time keeps the times in order and the numbers in their ranges: event by event.
use Rattle.std.proofs.Common.{◌≡◌, ◌≤◌, ℕ, suc, ◌+◌, Bool, true, false, cond, List, [], ◌∷◌, refl, sym, subst, arith}
use Rattle.std.proofs.lemmas.Bool.Decides.{nat_tests}
use Rattle.std.specs.Prelude.{nat_le}
use Rattle.std.specs.List.{All, insert}
use Rattle.std.proofs.lemmas.List.Elements.{All-cons, All-head, All-tail}
use Rattle.aom_transcript.specs.declared.event.TimedEvent.{TimedEvent}
use Rattle.aom_script.specs.Script.{InRange, IsTimely, Rises}
use Rattle.aom_script.specs.Further.{place_after}

comes_by : (a b : ℕ) → nat_le a b ≡ true → a ≤ b
comes_by a b is = grind (arith, nat_tests)

comes_later : (a b : ℕ) → nat_le a b ≡ false → b ≤ a
comes_later a b is = grind (arith, nat_tests)

-- the times rise as before
rises_too : (before : ℕ) (event : TimedEvent) (timed : List TimedEvent) → before ≤ event.time → Rises before timed →
    Rises before (insert timed (place_after event.time timed) event)
rises_too before event [] later rises = (later, tt)
rises_too before event (x ∷ xs) later rises =
    go (nat_le x.time event.time) refl (1 + place_after event.time xs) (omega arith) (λ by. rises_too x.time event xs by rises.1)
  where
    go : (b : Bool) → nat_le x.time event.time ≡ b → (k : ℕ) → k ≡ suc (place_after event.time xs) →
        (x.time ≤ event.time → Rises x.time (insert xs (place_after event.time xs) event)) → Rises before (insert (x ∷ xs) (cond b k 0) event)
    go true is k more rest = subst (λ k. Rises before (insert (x ∷ xs) k event)) (sym more) (rises.0, rest (comes_by x.time event.time is))
    go false is k more rest = (later, (comes_later x.time event.time is, rises.1))

-- and what holds of all of them and of the event holds of all
all_too : (event : TimedEvent) (timed : List TimedEvent) → All InRange timed → InRange event → All InRange (insert timed (place_after event.time timed) event)
all_too event [] all is = All-cons InRange event [] is all
all_too event (x ∷ xs) all is = go (nat_le x.time event.time) (1 + place_after event.time xs) (omega arith) (all_too event xs (All-tail InRange x xs all) is)
  where
    go : (b : Bool) (k : ℕ) → k ≡ suc (place_after event.time xs) → All InRange (insert xs (place_after event.time xs) event) →
        All InRange (insert (x ∷ xs) (cond b k 0) event)
    go true k more rest = subst (λ k. All InRange (insert (x ∷ xs) k event)) (sym more)
        (All-cons InRange x (insert xs (place_after event.time xs) event) (All-head InRange x xs all) rest)
    go false k more rest = All-cons InRange event (x ∷ xs) is all

pub timely_too : (event : TimedEvent) (timed : List TimedEvent) → InRange event → IsTimely timed → IsTimely (insert timed (place_after event.time timed) event)
timely_too event timed is timely = record { rises = rises_too 0 event timed (omega arith) timely.rises; in_range = all_too event timed timely.in_range is }
