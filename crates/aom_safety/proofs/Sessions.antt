-- The sessions of cells with natives, where cells move, change, come and go: by what a change keeps of each cell.
use Rattle.std.proofs.lemmas.Bool.Decides.{nat_tests}
use Rattle.std.proofs.Common.{arith, List, None, Option, Some, false, refl, ℕ, ℤ, ◌==◌, ◌≡◌}
use Rattle.std.proofs.lemmas.Bool.{eqb-true}
use Rattle.aom_image.specs.declared.method.Thing.{Thing}
use Rattle.aom_safety.proofs.SemanticsLemmas.{asking, moving, read_kept, read_unnamed, read_without, sessions, storing}
use Rattle.aom_semantics.specs.Places.{Cell, Object, Place, Request, NoDuplicates, held, in_session, moved, named, set_request, set_word_field, with_new, without}

pub session_moved : (cs : List Cell) (p q : Place) (n : ℕ) → in_session (moved p q cs) n ≡ in_session cs n
session_moved cs p q = read_kept (moving p q) sessions (λ c. refl) cs

pub session_set_word : (cs : List Cell) (n w : ℕ) (v : ℤ) (m : ℕ) → in_session (set_word_field n w v cs) m ≡ in_session cs m
session_set_word cs n w v = read_kept (storing n w v) sessions (λ c. refl) cs

pub session_asked : (cs : List Cell) (n : ℕ) (r : Option Request) (m : ℕ) → in_session (set_request n r cs) m ≡ in_session cs m
session_asked cs n r = read_kept (asking n r) sessions (λ c. refl) cs

-- a name that no cell has is in no session
pub session_unnamed : (cs : List Cell) (n : ℕ) → named cs n ≡ None → in_session cs n ≡ false
session_unnamed = read_unnamed sessions

pub session_new : (cs : List Cell) (name : ℕ) (thing : Thing) (words : List ℤ) (owner : Place) → named cs name ≡ None → (n : ℕ) →
    in_session (with_new name thing words owner cs) n ≡ in_session cs n
session_new cs name thing words owner new n = grind (arith, nat_tests, eqb-true name n, session_unnamed cs name new)

-- a cell that goes takes its own along
pub session_without : (cs : List Cell) (g : Place) (o : Object) (n : ℕ) → NoDuplicates cs → held cs g ≡ Some o → (o.name == n) ≡ false →
    in_session (without g cs) n ≡ in_session cs n
session_without = read_without sessions
