-- What the tasks come to after a leave, a return, an arrival and the going of a cell; and what of the cells is only passed on.
use Rattle.std.proofs.lemmas.Bool.Decides.{nat_tests}
use Rattle.std.proofs.Common.{List, Option, Some, [], arith, suc, ℕ, ℤ, ◌+◌, ◌∷◌, ◌≡◌, ◌≤◌}
use Rattle.aom_image.specs.Image.{Image}
use Rattle.aom_image.specs.declared.method.Argument.{Argument}
use Rattle.aom_image.specs.declared.method.Argument.TheVariants.{Word as Takes_word, Own as Takes_own}
use Rattle.aom_image.specs.declared.method.Gives.{Gives}
use Rattle.aom_abstract_state.specs.AbstractState.{AbstractState}
use Rattle.aom_typing_rules.specs.Typing.{Typing}
use Rattle.aom_semantics.specs.Calls.{accepted_cells, below_top, ended_well, passed_cells}
use Rattle.aom_semantics.specs.Calls.{returned}
use Rattle.aom_safety.specs.Claims.{Layer, Method, tasks_of}
use Rattle.aom_semantics.specs.Cleanup.{code_reported, to_trap}
use Rattle.aom_semantics.specs.Places.{Cell, Register, Request, moved}
use Rattle.aom_semantics.specs.State.{Answered, Asks, Dispatch, Frame, Receiver, Item, Run, OwnedObject, State, Task, next, resumed}
use Rattle.aom_safety.specs.WellTyped.{Now, Stack}
use Rattle.aom_termination.specs.RankTerms.{RankTerms, over_rank_term, tasks_rank_term, waiting_rank_term}
use Rattle.aom_semantics.specs.Destruction.{next_destructor}
use Rattle.aom_semantics.specs.Requests.{ended_cells, request_updated}

-- ---- cells that are only passed on

-- by a number of the cells that is no more where one register's object is another's
module _ (f : List Cell → ℕ) (passes : (d i e j : ℕ) (cs : List Cell) → f (moved (Register d i) (Register e j) cs) ≤ f cs) where
  -- with the arguments of a call
  pub passed_less : (p : Image) (fr : Frame) (ts : List Task) (s : State) (depth : ℕ) (xs : List Argument) (first to : ℕ) (cs : List Cell) →
      f (passed_cells p fr ts s depth xs first to cs) ≤ f cs
  passed_less p fr ts s depth [] first to cs = omega arith
  passed_less p fr ts s depth (Takes_word ∷ xs) first to cs = passed_less p fr ts s depth xs (suc first) (suc to) cs
  passed_less p fr ts s depth (Takes_own t ∷ xs) first to cs = grind (arith, nat_tests, passed_less p fr ts s depth xs)

-- ---- tasks

module _ (w : RankTerms) where
  -- the methods over the trap end
  pub to_trap_less : (ts : List Task) → waiting_rank_term w (to_trap ts) ≤ waiting_rank_term w ts
  to_trap_less (Run fr ∷ ts) = omega (arith, to_trap_less ts)
  to_trap_less _ = omega arith

  -- what waited goes on
  pub resumed_alike : (ts : List Task) → tasks_rank_term w (resumed ts) ≡ waiting_rank_term w ts
  resumed_alike x = grind arith

  -- the code is a word, and changes no place
  pub reported_alike : (g : Gives) (r : ℕ) (code : ℤ) (fr : Frame) (ts : List Task) →
      tasks_rank_term w (Run (next (code_reported g r code fr)) ∷ ts) ≡ waiting_rank_term w (Run fr ∷ ts)
  reported_alike x r code fr ts = grind arith

  -- a return to what stands below
  module _ (f : List Cell → ℕ) (g : List Item → ℕ) (passes : (d i e j : ℕ) (cs : List Cell) → f (moved (Register d i) (Register e j) cs) ≤ f cs)
      (below : (items : List Item) → g (below_top items) ≤ g items) (asks : (cs : List Cell) (h : Receiver) (r : Option Request) → f (request_updated cs h r) ≡ f cs)
      (answers : (x : OwnedObject) (answer : ℤ) → w.dispatch (Answered x answer) ≤ w.dispatch (Asks x))
      (serves : (d : Dispatch) → w.dispatch (ended_well d) ≤ w.dispatch d) (p : Image) (t : Typing) (s : State) (fr : Frame) (sh : AbstractState) (gives : Gives)
      (a : ℕ) (accepts : (d : Dispatch) (e i : ℕ) → f (accepted_cells d (Register e i) (ended_cells p fr s.cells)) ≤ f (ended_cells p fr s.cells)) where
    -- the state as the method ends
    abbrev pub ended : State
    ended = record s { cells = ended_cells p fr s.cells }

    ended_less : f (ended_cells p fr s.cells) ≤ f s.cells
    ended_less = grind (arith, nat_tests)

    -- a dispatch that asked has its answer
    abbrev pub after : List Layer → State
    after ls = returned p fr (tasks_of ls) ended gives a (tasks_of ls)

    abbrev pub Less : List Layer → Type 0
    Less ls = (tasks_rank_term w (after ls).tasks ≤ over_rank_term w fr.method (tasks_of ls) + waiting_rank_term w (tasks_of ls))
        × (f (after ls).cells + g (after ls).items ≤ f s.cells + g s.items)

    -- the next of a line begins with what the one before it had behind it
    abbrev pub LinesFall : Type 0
    LinesFall = (m k : ℕ) → next_destructor p m ≡ Some k → w.method k [] 0 + w.rest k ≤ w.rest m

    pub returned_less : LinesFall → (ls : List Layer) → Stack p t s.cells Now (Method fr sh ∷ ls) → Less ls
    returned_less fall y z = grind (arith, nat_tests, ended_less)
