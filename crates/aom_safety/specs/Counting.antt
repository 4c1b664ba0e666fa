-- What counts as a step: an instruction that runs, those of destructors and operations among them, and a cell that goes.
use Rattle.std.specs.Prelude.{ℕ, Bool, true, false, cond, is_none, ◌+◌, ◌-◌, ◌^◌, ◌≡◌, min, List, ◌∷◌}
use Rattle.aom_image.specs.Image.{Image}
use Rattle.aom_semantics.specs.State.{Dispatch, Of_main, Main_left, Of_root, Of_object, Object_left, Asks, Answered, Task, Run, Destroy, Dispatched, State, Choice, Goes, raised, Of_server}
use Rattle.aom_image.specs.declared.method.Role.TheVariants.{Error}
use Rattle.aom_semantics.specs.Requests.{part_of}
use Rattle.aom_semantics.specs.Moves.{step}
use Rattle.aom_semantics.specs.World.{boot_state, begins, moves, turns, Observed, Reaches, Environment, Turning, Picks, turning, turn}
use Rattle.aom_transcript.specs.declared.line.Line.{Line}

-- the steps that a move is; a code that arrives and a dispatch that ends are none
abbrev pub steps_of : List Task → ℕ
steps_of (Run fr ∷ ts) = 1
steps_of (Destroy ∷ ts) = 1
steps_of _ = 0

-- the dispatch of an object ends as this one does
abbrev pub ends_object : Image → Dispatch → Bool
ends_object p Of_main = false
ends_object p (Main_left code) = false
ends_object p Of_root = false
ends_object p (Of_object x) = true
ends_object p (Object_left x code) = is_none (part_of p Error x.object.thing)
ends_object p (Asks x) = true
ends_object p (Answered x answer) = true
ends_object p (Of_server x c stage) = false

-- with that move steps are counted anew
abbrev pub restarts : Image → List Task → Bool
restarts p (Dispatched d ∷ ts) = ends_object p d
restarts p _ = false

-- and with a turn that dispatches an object
abbrev pub starts : Turning → Bool
starts (Picks x) = true
starts _ = false

-- the steps that a run has taken since the dispatch of an object last began or ended
abbrev pub taken : {p : Image} {outside : Environment} {from : State} {lines : List Line} {s : State} → Reaches p outside from lines s → ℕ
taken begins = 0
taken {p = p} (moves {s = s} c reached busy opened goes) = cond (restarts p s.tasks) 0 (taken reached + steps_of s.tasks)
taken {outside = outside} (turns {s = s} observed reached between well goes) = cond (starts (turning outside observed s)) 0 (taken reached)

-- as a number that stays at its greatest value
abbrev pub in_range : ℕ → ℕ
in_range n = min n (2 ^ 64 - 1)

-- each move counts the steps that it is, and nothing else changes the count; so from its boot on it is what a run has taken
pub record StepsAreCounted : Type 0 where
  pub boot : (p : Image) → (boot_state p).rest.steps ≡ 0
  pub moves : (p : Image) (c : Choice) (s u : State) → s.rest.steps ≡ in_range s.rest.steps → step p c s ≡ Goes u → u.rest.steps ≡ cond (restarts p s.tasks) 0 (in_range (s.rest.steps + steps_of s.tasks))
  pub turns : (p : Image) (outside : Environment) (observed : Observed) (s u : State) → turn p outside observed s ≡ Goes u → u.rest.steps ≡ cond (starts (turning outside observed s)) 0 s.rest.steps
  pub runs : (p : Image) (outside : Environment) (lines : List Line) (s : State) (reached : Reaches p outside (boot_state p) lines s) → s.rest.steps ≡ in_range (taken reached)

-- a dispatch of an object counts as it ends, and so far as the count reaches
pub record DispatchesAreCounted : Type 0 where
  pub moves : (p : Image) (c : Choice) (s u : State) → step p c s ≡ Goes u → u.rest.dispatches ≡ cond (restarts p s.tasks) (raised s.rest.dispatches) s.rest.dispatches
  pub turns : (p : Image) (outside : Environment) (observed : Observed) (s u : State) → turn p outside observed s ≡ Goes u → u.rest.dispatches ≡ s.rest.dispatches
