-- The sessions of cells, where cells move, change, come and go.
use Rattle.std.proofs.lemmas.Bool.Decides.{nat_tests}
use Rattle.std.proofs.Common.{ap, Bool, cond, false, List, None, Option, refl, Some, suc, sym, true, ℕ, ℤ, ◌==◌, ◌∙◌, ◌∷◌, ◌≡◌, [], pos, arith}
use Rattle.std.proofs.lemmas.Bool.{eqb-true, eqb-false}
use Rattle.aom_image.specs.Image.{Image}
use Rattle.aom_image.specs.declared.method.Argument.{Argument}
use Rattle.aom_image.specs.declared.method.Argument.TheVariants.{Own as Takes_own, Word as Takes_word}
use Rattle.aom_image.specs.declared.method.Thing.{Thing}
use Rattle.aom_cells.specs.Sessions.{Sets, Standing, is_open}
use Rattle.aom_machine_state.proofs.SafetyLemmas.{count_opened, session_updated_alike, session_asked, session_moved, session_new, session_set_word, session_unnamed}
use Rattle.aom_machine_state.proofs.SafetyLemmas.{session_without}
use Rattle.aom_semantics.specs.Calls.{passed_cells}
use Rattle.aom_semantics.specs.Requests.{request_updated}
use Rattle.aom_semantics.specs.Places.{Cell, Object, Place, Register, Request, NoDuplicates, held, in_session, moved}
use Rattle.aom_semantics.specs.Places.{named, set_request, set_session, with_new, without, word_field}
use Rattle.aom_semantics.specs.State.{Frame, Receiver, Inside, State, Task}
use Rattle.aom_semantics.specs.Words.{here, stored}
use Rattle.aom_machine_state.proofs.SemanticsLemmas.{unnamed}
use Rattle.aom_machine_state.specs.Agrees.{SameCells, SameNatives}
use Rattle.aom_cells.specs.Heap.{Heap}
use Rattle.aom_roles.specs.Tables.{at}
use Rattle.aom_semantics.specs.Natives.{session_updated}

-- ---- the machine's flags

module _ (p : Image) (w : Standing) (killed : List ℕ) where
  -- it does not matter by which cells the sessions are told
  pub natives_as : (cs ds : List Cell) → ((n : ℕ) → in_session ds n ≡ in_session cs n) → SameNatives p w cs killed → SameNatives p w ds killed
  natives_as cs ds same h = record { sessions = λ n. h.sessions n ∙ sym (same n); dead = h.dead; limit = h.limit }

  pub natives_moved : (cs : List Cell) (q r : Place) → SameNatives p w cs killed → SameNatives p w (moved q r cs) killed
  natives_moved cs q r h = natives_as cs (moved q r cs) (session_moved cs q r) h

  pub natives_stored : (cs : List Cell) (receiver : Receiver) (k : ℕ) (v : ℤ) → SameNatives p w cs killed → SameNatives p w (stored cs receiver k v) killed
  natives_stored cs x k v h = grind (arith, nat_tests, natives_as cs, session_set_word cs)

  pub natives_made : (cs : List Cell) (n : ℕ) (thing : Thing) (words : List ℤ) (owner : Place) →
      named cs n ≡ None → SameNatives p w cs killed → SameNatives p w (with_new n thing words owner cs) killed
  natives_made cs n thing words owner fresh h = natives_as cs (with_new n thing words owner cs) (session_new cs n thing words owner fresh) h

  pub natives_asked : (cs : List Cell) (n : ℕ) (r : Option Request) → SameNatives p w cs killed → SameNatives p w (set_request n r cs) killed
  natives_asked cs n r h = natives_as cs (set_request n r cs) (session_asked cs n r) h

  pub natives_request_updated : (cs : List Cell) (receiver : Receiver) (r : Option Request) → SameNatives p w cs killed → SameNatives p w (request_updated cs receiver r) killed
  natives_request_updated cs (Inside o from) r h = natives_asked cs o.name r h
  natives_request_updated cs _ r h = h

module _ (p : Image) (fr : Frame) (ts : List Task) (s : State) (w : Standing) where
  pub natives_passed : (depth : ℕ) (xs : List Argument) (first to : ℕ) (cs : List Cell) → SameNatives p w cs s.killed →
      SameNatives p w (passed_cells p fr ts s depth xs first to cs) s.killed
  natives_passed depth [] first to cs h = h
  natives_passed depth (Takes_word ∷ xs) first to cs h = natives_passed depth xs (suc first) (suc to) cs h
  natives_passed depth (Takes_own t ∷ xs) first to cs h = natives_passed depth xs (suc first) (suc to) (moved (here fr ts s first) (Register depth to) cs)
      (natives_moved p w s.killed cs (here fr ts s first) (Register depth to) h)

-- ---- a session that opens or closes

session_here : (cs : List Cell) (n : ℕ) (b : Bool) (o : Object) → named cs n ≡ Some o → in_session (set_session n b cs) n ≡ b
session_here [] n b o e = cc
session_here (c ∷ cs) n b o e = grind (arith, nat_tests, session_here cs n b o)

session_there : (cs : List Cell) (n : ℕ) (b : Bool) (k : ℕ) → (n == k) ≡ false → in_session (set_session n b cs) k ≡ in_session cs k
session_there [] n b k apart = refl
session_there (c ∷ cs) n b k apart = grind (arith, nat_tests, session_there cs n b k apart, eqb-true c.object.name n)

pub natives_set : (p : Image) (old new : Standing) (killed : List ℕ) (cs : List Cell) (o : Object) (b : Bool) →
    named cs o.name ≡ Some o → Sets old new o.name b → SameNatives p old cs killed → SameNatives p new (set_session o.name b cs) killed
natives_set p old new killed cs o b lives set h = record { sessions = λ n. by n (o.name == n) refl; dead = set.killed ∙ h.dead; limit = set.places ∙ h.limit }
  where
    by : (n : ℕ) (x : Bool) → (o.name == n) ≡ x → is_open new n ≡ in_session (set_session o.name b cs) n
    by n true same = grind (arith, nat_tests, eqb-true o.name n same, session_here cs o.name b o lives)
    by n false other = set.others n (λ e. eqb-false o.name n other (sym e)) ∙ h.sessions n ∙ sym (session_there cs o.name b n other)

-- it changes no word and no count
pub words_opened : (cs : List Cell) (n : ℕ) (b : Bool) (k w : ℕ) → word_field (set_session n b cs) k w ≡ word_field cs k w
words_opened [] n b k w = refl
words_opened (c ∷ cs) n b k w = ap (λ x. cond (c.object.name == k) (at (pos 0) c.words w) x) (words_opened cs n b k w)

-- so the same cells live
pub cells_session_updated : (p : Image) (h : Heap) (cs : List Cell) (receiver : Receiver) (b : Bool) → SameCells p h cs → SameCells p h (session_updated cs receiver b)
cells_session_updated p h cs x b same = grind (arith, nat_tests, session_updated_alike cs, words_opened cs, count_opened cs)

-- a cell that goes has its session closed
pub natives_gone : (p : Image) (old new : Standing) (killed : List ℕ) (cs : List Cell) (g : Place) (o : Object) →
    NoDuplicates cs → held cs g ≡ Some o → Sets old new o.name false → SameNatives p old cs killed → SameNatives p new (without g cs) killed
natives_gone p old new killed cs g o no_duplicates holds shut h = record {
  sessions = λ n. by n (o.name == n) refl;
  dead = shut.killed ∙ h.dead;
  limit = shut.places ∙ h.limit;
}
  where
    by : (n : ℕ) (b : Bool) → (o.name == n) ≡ b → is_open new n ≡ in_session (without g cs) n
    by n true same = grind (arith, nat_tests, eqb-true o.name n same, session_unnamed, unnamed cs g o no_duplicates holds)
    by n false other = shut.others n (λ e. eqb-false o.name n other (sym e)) ∙ h.sessions n ∙ sym (session_without cs g o n no_duplicates holds other)
