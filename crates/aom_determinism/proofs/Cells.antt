-- What changes of cells mean for what is outstanding: what each cell owes and meets is told by its name, its request and its session.
use Rattle.std.proofs.Common.{Bool, List, None, Option, Some, [], cond, false, refl, true, ℕ, ℤ, ◌&&◌, ◌==◌, ◌∙◌, ◌∷◌, ◌≡◌, arith}
use Rattle.std.proofs.lemmas.Bool.{and_right, eqb-true}
use Rattle.std.specs.Prelude.{is_some, not}
use Rattle.std.proofs.lemmas.Bool.Decides.{nat_tests}
use Rattle.aom_image.specs.Image.{Image}
use Rattle.aom_image.specs.declared.method.Thing.{Thing}
use Rattle.aom_determinism.specs.Laws.{BootOwesNothing}
use Rattle.aom_determinism.specs.Owed.{meets, owes, serves}
use Rattle.aom_determinism.proofs.SemanticsLemmas.{named_moved, named_without, requested_moved, requested_without, unnamed}
use Rattle.aom_determinism.proofs.SafetyLemmas.{named_set_word, requested_here, requested_set_word, requested_there, request_updated_alike, session_updated_alike}
use Rattle.aom_determinism.proofs.SafetyLemmas.{session_updated_requests, session_asked, session_moved, session_set_word, session_without}
use Rattle.aom_semantics.specs.Natives.{is_owed, is_served_by, native_of}
use Rattle.aom_semantics.specs.Requests.{thing_kind}
use Rattle.aom_semantics.specs.Places.{Cell, Elsewhere, Object, Place, Request, Root, NoDuplicates, held, in_session}
use Rattle.aom_semantics.specs.Places.{moved, named, requested, set_request, set_session, with_new, without}
use Rattle.aom_semantics.specs.State.{Receiver, Inside}
use Rattle.aom_semantics.specs.Words.{stored}

-- ---- a native serves what is of its class

pub served_so : (p : Image) (k n : ℕ) (t : Thing) → native_of (thing_kind p t) ≡ Some n → is_served_by p k t ≡ (n == k)
served_so p k n t e = rw e

pub served_none : (p : Image) (k : ℕ) (t : Thing) → native_of (thing_kind p t) ≡ None → is_served_by p k t ≡ false
served_none p k t e = rw e

pub native_served : (p : Image) (n : ℕ) (t : Thing) → is_served_by p n t ≡ true → native_of (thing_kind p t) ≡ Some n
native_served p n t e = grind (arith, nat_tests, served_none p n t, eqb-true, served_so p n)

-- a cell has one class
pub serves_one : (p : Image) (cs : List Cell) (n k m : ℕ) → serves p cs n m ≡ true → serves p cs k m ≡ true → n ≡ k
serves_one p cs n k m e f = grind (arith, nat_tests, native_served p n, native_served p k)

-- and owes at one native alone
pub owes_at_one : (p : Image) (cs : List Cell) (n k m : ℕ) → owes p cs n m ≡ true → owes p cs k m ≡ true → n ≡ k
owes_at_one p cs n k m e f = grind (arith, nat_tests, serves_one)

-- ---- sessions under changes of cells

-- a session that is opened or closed is that of the cell of its name, if there is one
session_set : (cs : List Cell) (n m : ℕ) (b : Bool) → in_session (set_session n b cs) m ≡ cond (n == m) (is_some (named cs m) && b) (in_session cs m)
session_set [] n m b = grind arith
session_set (c ∷ cs) n m b = grind (arith, nat_tests, session_set cs n m b)

-- ---- changes after which everyone owes and meets as before

pub record Unchanged (p : Image) (cs cs' : List Cell) : Type 0 where
  pub owes : (k m : ℕ) → owes p cs' k m ≡ owes p cs k m
  pub meets : (k m : ℕ) → meets p cs' k m ≡ meets p cs k m

pub unchanged_itself : (p : Image) (cs : List Cell) → Unchanged p cs cs
unchanged_itself p cs = record { owes = λ k m. refl; meets = λ k m. refl }

pub unchanged_along : (p : Image) (cs cs' cs'' : List Cell) → Unchanged p cs cs' → Unchanged p cs' cs'' → Unchanged p cs cs''
unchanged_along p cs cs' cs'' a b = record { owes = λ k m. b.owes k m ∙ a.owes k m; meets = λ k m. b.meets k m ∙ a.meets k m }

-- where each name has the same object, request and session
pub unchanged_alike : (p : Image) (cs cs' : List Cell) →
    ((m : ℕ) → named cs' m ≡ named cs m) → ((m : ℕ) → requested cs' m ≡ requested cs m) → ((m : ℕ) → in_session cs' m ≡ in_session cs m) → Unchanged p cs cs'
unchanged_alike p cs cs' objects requests sessions = search (arith, nat_tests, owes, meets)

pub unchanged_moved : (p : Image) (cs : List Cell) (a b : Place) → Unchanged p cs (moved a b cs)
unchanged_moved p cs a b = unchanged_alike p cs (moved a b cs) (λ m. named_moved cs a b m) (λ m. requested_moved cs a b m) (λ m. session_moved cs a b m)

pub unchanged_stored : (p : Image) (cs : List Cell) (receiver : Receiver) (w : ℕ) (v : ℤ) → Unchanged p cs (stored cs receiver w v)
unchanged_stored p cs x w v =
    grind (arith, nat_tests, unchanged_itself p cs, unchanged_alike p cs, named_set_word cs, requested_set_word cs, session_set_word cs)

-- a new cell owes nothing, and has no session
pub unchanged_new : (p : Image) (name : ℕ) (thing : Thing) (words : List ℤ) (owner : Place) (cs : List Cell) → named cs name ≡ None →
    Unchanged p cs (with_new name thing words owner cs)
unchanged_new p name thing words owner cs unused = search (arith, nat_tests, eqb-true name, owes p cs, and_right, meets p cs)

-- ---- another request, and another session

module _ (p : Image) (cs : List Cell) (o : Object) where
  pub owes_asked : (r : Option Request) (k m : ℕ) → owes p (set_request o.name r cs) k m ≡ cond (o.name == m) (serves p cs k o.name && is_owed r) (owes p cs k m)
  owes_asked r k m = grind (
    arith,
    nat_tests,
    request_updated_alike cs (Inside o (Elsewhere Root)) r,
    requested_here cs o.name r,
    owes p,
    owes p cs k m,
    eqb-true o.name m,
    requested_there cs o.name m r,
  )

  pub meets_asked : (r : Option Request) (k m : ℕ) → meets p (set_request o.name r cs) k m ≡ meets p cs k m
  meets_asked r k m = grind (arith, nat_tests, request_updated_alike cs (Inside o (Elsewhere Root)) r, session_asked cs o.name r m)

  pub meets_opened : (b : Bool) (k m : ℕ) → meets p (set_session o.name b cs) k m ≡ cond (o.name == m) (serves p cs k o.name && b) (meets p cs k m)
  meets_opened session k m =
      grind (arith, nat_tests, session_updated_alike cs (Inside o (Elsewhere Root)) session, session_set cs o.name m session, meets p cs k m, eqb-true o.name m)

  pub owes_opened : (b : Bool) (k m : ℕ) → owes p (set_session o.name b cs) k m ≡ owes p cs k m
  owes_opened b k m = grind (arith, nat_tests, session_updated_alike cs (Inside o (Elsewhere Root)) b, session_updated_requests cs (Inside o (Elsewhere Root)) b m)

  -- where that is as it was at the cell, nothing changes
  kept_at : (f : ℕ → Bool) (v : Bool) (m : ℕ) → v ≡ f o.name → cond (o.name == m) v (f m) ≡ f m
  kept_at f v m e = grind (arith, nat_tests, eqb-true o.name m)

  pub unchanged_asked : (r : Option Request) → ((k : ℕ) → (serves p cs k o.name && is_owed r) ≡ owes p cs k o.name) → Unchanged p cs (set_request o.name r cs)
  unchanged_asked r e = record { owes = λ k m. owes_asked r k m ∙ kept_at (λ x. owes p cs k x) _ m (e k); meets = meets_asked r }

  pub unchanged_opened : (b : Bool) → ((k : ℕ) → (serves p cs k o.name && b) ≡ meets p cs k o.name) → Unchanged p cs (set_session o.name b cs)
  unchanged_opened b e = record { owes = owes_opened b; meets = λ k m. meets_opened b k m ∙ kept_at (λ x. meets p cs k x) _ m (e k) }

-- ---- a cell goes

module _ (p : Image) (cs : List Cell) (g : Place) (o : Object) (no_duplicates : NoDuplicates cs) (there : held cs g ≡ Some o) where
  serves_gone : (k m : ℕ) → (o.name == m) ≡ true → serves p (without g cs) k m ≡ false
  serves_gone k m e = grind (arith, nat_tests, eqb-true o.name m e, unnamed cs g o no_duplicates there)

  pub owes_gone : (k m : ℕ) → owes p (without g cs) k m ≡ (not (o.name == m) && owes p cs k m)
  owes_gone k m = grind (arith, nat_tests, owes p, owes p cs k m, serves_gone k m, named_without cs g o m no_duplicates there, requested_without cs g o m no_duplicates there)

  pub meets_gone : (k m : ℕ) → meets p (without g cs) k m ≡ (not (o.name == m) && meets p cs k m)
  meets_gone k m = grind (arith, nat_tests, meets p, meets p cs k m, serves_gone k m, named_without cs g o m no_duplicates there, session_without cs g o m no_duplicates there)

-- ---- as a run begins

pub boot_owes_nothing : BootOwesNothing
boot_owes_nothing = search (arith, nat_tests, owes, meets)
