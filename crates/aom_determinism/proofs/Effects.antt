-- Effects that begin, complete and cancel no request and open and close no session change nothing that is outstanding, and no effect kills a native.
use Rattle.std.proofs.lemmas.Bool.Decides.{nat_tests}
use Rattle.std.proofs.Common.{arith, List, None, [], suc, ℕ, ◌∷◌, ◌≡◌}
use Rattle.aom_image.specs.Image.{Image}
use Rattle.aom_image.specs.declared.method.Argument.{Argument}
use Rattle.aom_image.specs.declared.method.Argument.TheVariants.{Own as Takes_own, Word as Takes_word}
use Rattle.aom_image.specs.declared.method.Gives.{Gives}
use Rattle.aom_determinism.proofs.Cells.{Unchanged, unchanged_along, unchanged_itself, unchanged_moved, unchanged_new, unchanged_stored}
use Rattle.aom_determinism.proofs.Services.{unchanged_served}
use Rattle.aom_semantics.specs.Calls.{accepted_cells, passed_cells, returned}
use Rattle.aom_semantics.specs.Effects.{Cancels, Effect, Goes_on, Leaves, Made, Replied, Requested, Returns, Sessioned, Update, applied, cells_after, Handed}
use Rattle.aom_semantics.specs.Places.{Cell, Place, named}
use Rattle.aom_semantics.specs.State.{Dispatch, Frame, State, Task}

-- a cell that is made has that name, no request nor session changes, and no message is completed
abbrev pub LeavesAlone : ℕ → Update → Type 0
LeavesAlone name (Made n class a) = n ≡ name
LeavesAlone name (Requested r) = ⊥
LeavesAlone name (Sessioned session) = ⊥
LeavesAlone name (Replied a code) = ⊥
LeavesAlone name (Handed n a) = ⊥
LeavesAlone name _ = Unit {0}

abbrev pub IsAside : ℕ → Effect → Type 0
IsAside name (Goes_on ch) = LeavesAlone name ch.update
IsAside name (Leaves code u) = LeavesAlone name u
IsAside name (Cancels m) = ⊥
IsAside name (Returns g a) = ⊥
IsAside name _ = Unit {0}

module _ (p : Image) (fr : Frame) (ts : List Task) (s : State) where
  -- arguments and results move
  passed_unchanged : (depth : ℕ) (xs : List Argument) (first to : ℕ) (cs : List Cell) → Unchanged p cs (passed_cells p fr ts s depth xs first to cs)
  passed_unchanged depth [] first to cs = unchanged_itself p cs
  passed_unchanged depth (Takes_word ∷ xs) first to cs = passed_unchanged depth xs (suc first) (suc to) cs
  passed_unchanged depth (Takes_own t ∷ xs) first to cs = grind (arith, nat_tests, unchanged_along p cs, unchanged_moved p cs, passed_unchanged depth xs)

  -- a session that `accept` gives moves to its place, and the server has it
  accepted_unchanged : (d : Dispatch) (from : Place) → Unchanged p s.cells (accepted_cells d from s.cells)
  accepted_unchanged x from =
      grind (arith, nat_tests, unchanged_along p s.cells, unchanged_moved p s.cells from, unchanged_served p, unchanged_itself p s.cells)

  pub returned_unchanged : (g : Gives) (a : ℕ) (below : List Task) → Unchanged p s.cells (returned p fr ts s g a below).cells
  returned_unchanged g a x = grind (arith, nat_tests, unchanged_itself, unchanged_moved, accepted_unchanged, unchanged_itself p s.cells)

  module _ (name : ℕ) (unused : named s.cells name ≡ None) where
    update_unchanged : (u : Update) → LeavesAlone name u → Unchanged p s.cells (cells_after p fr ts s u)
    update_unchanged x h = grind (arith, nat_tests, unchanged_moved p s.cells, unchanged_new p, unchanged_stored p s.cells fr.receiver, unchanged_itself p s.cells)

    pub applied_unchanged : (e : Effect) → IsAside name e → Unchanged p s.cells (applied p fr ts s e).cells
    applied_unchanged x h = grind (arith, nat_tests, update_unchanged, passed_unchanged, unchanged_moved p s.cells, unchanged_itself p s.cells)

pub applied_killed : (p : Image) (fr : Frame) (ts : List Task) (s : State) (e : Effect) → (applied p fr ts s e).killed ≡ s.killed
applied_killed p fr ts s x = grind (arith, nat_tests)
