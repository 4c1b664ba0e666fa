-- Laws of what is at hand, task by task.
use Rattle.std.specs.Prelude.{ℤ, List, [], ◌∷◌}
use Rattle.aom_semantics.specs.State.{Frame, Task, Run, Trapped, Destroy, Unwind, Dispatched, Closing}

-- what holds of a method that runs, of one that waits, of a trap and of a leave, over the tasks below
pub record TaskLaw : Type 1 where
  pub Runs : Frame → List Task → Type 0
  pub Waits : Frame → List Task → Type 0
  pub Stands : List Task → Type 0
  pub Unwinds : ℤ → List Task → Type 0

-- of tasks over which others stand
abbrev pub Below : TaskLaw → List Task → Type 0
Below l [] = Unit {0}
Below l (Run fr ∷ ts) = l.Waits fr ts × Below l ts
Below l (Trapped ∷ ts) = l.Stands ts × Below l ts
Below l (Destroy ∷ ts) = Below l ts
Below l (Closing ∷ ts) = Below l ts
Below l (Unwind code ∷ ts) = l.Unwinds code ts × Below l ts
Below l (Dispatched d ∷ ts) = Below l ts

-- of all that is at hand: a method on top runs, and the others wait
abbrev pub Holds : TaskLaw → List Task → Type 0
Holds l [] = Unit {0}
Holds l (Run fr ∷ ts) = l.Runs fr ts × Below l ts
Holds l (Trapped ∷ ts) = Below l (Trapped ∷ ts)
Holds l (Destroy ∷ ts) = Below l ts
Holds l (Closing ∷ ts) = Below l ts
Holds l (Unwind code ∷ ts) = Below l (Unwind code ∷ ts)
Holds l (Dispatched d ∷ ts) = Below l ts
