-- A method that a result comes to, or that loses one, still runs where it did.
use Rattle.std.proofs.lemmas.Bool.Decides.{nat_tests}
use Rattle.std.proofs.Common.{arith, ℕ, ◌+◌, ◌<◌, ◌≡◌, ◌^◌, ◌∷◌, List, length}
use Rattle.aom_frames.specs.Tasks.{TopFrameIs, on_top, place_here, with_register}
use Rattle.aom_frames.specs.declared.frame.Frame.{Frame}
use Rattle.aom_frames.specs.declared.task.Task.{Task}
use Rattle.aom_frames.specs.declared.task.Task.TheVariants.{Run}
use Rattle.aom_image.specs.declared.method.Gives.{Gives}
use Rattle.aom_machine_state.specs.declared.parts.Parts.{Parts}
use Rattle.aom_machine_instructions.specs.Acts.{resulted}
use Rattle.aom_machine_instructions.specs.Cleanup.{lost}

-- a method runs whatever becomes of its frame
pub on_top_runs : (f : Frame → Frame) (ts : List Task) → TopFrameIs ts → TopFrameIs (on_top f ts)
on_top_runs f x runs = grind arith

pub on_top_long : (f : Frame → Frame) (ts : List Task) → length (on_top f ts) ≡ length ts
on_top_long f x = grind arith

pub resulted_runs : (g : Gives) (to n : ℕ) (m : Parts) → TopFrameIs m.stack.tasks → TopFrameIs (resulted g to n m).stack.tasks
resulted_runs x to n m runs = grind (arith, nat_tests, on_top_runs)

-- it runs there, and may go on
pub record GoesOn (ts : List Task) : Type 0 where
  pub runs : TopFrameIs ts
  pub within : (place_here ts + 1) < 2 ^ 64

pub set_goes_on : (k n : ℕ) (ts : List Task) → GoesOn ts → GoesOn (on_top (with_register k n) ts)
set_goes_on k n (Run f ∷ ts) on = record { runs = on.runs; within = on.within }
set_goes_on k n _ on = absurd on.runs

pub lost_goes_on : (g : Gives) (to : ℕ) (m : Parts) → GoesOn m.stack.tasks → GoesOn (lost g to m).stack.tasks
lost_goes_on x to m on = grind (arith, nat_tests, set_goes_on to)

pub resulted_goes_on : (g : Gives) (to n : ℕ) (m : Parts) → GoesOn m.stack.tasks → GoesOn (resulted g to n m).stack.tasks
resulted_goes_on x to n m on = grind (arith, nat_tests, set_goes_on to n m.stack.tasks on)
