-- The innermost method of the machine is that of each state that it stands for, and a walk by its depth is one by the state's.
use Rattle.std.proofs.Common.{arith, ◌≡◌, ◌≤◌, ◌<◌, ◌∙◌, ℕ, zero, suc, Bool, cond, List, [], ◌∷◌, ◌++◌, length, Option, Some, slice_get}
use Rattle.std.proofs.Common.{refl, sym, ap, subst}
use Rattle.std.specs.Prelude.{reverse}
use Rattle.std.proofs.lemmas.List.{length-reverse, reverse-append}
use Rattle.aom_image.specs.Image.{Image}
use Rattle.aom_frames.specs.declared.task.Task.{Task as Machine_task}
use Rattle.aom_semantics.specs.State.{State, Task}
use Rattle.aom_machine_state.specs.Agrees.{SameTask, SameTasks}
use Rattle.aom_debug_stepping.proofs.MachineStateLemmas.{by_tasks, same_length}
use Rattle.aom_run.specs.Calls.{RefinesWithNatives}
use Rattle.aom_typing_rules.specs.Typing.{Typing}
use Rattle.aom_debug_protocol.specs.declared.breakpoints.Breakpoint.{Breakpoint}
use Rattle.aom_debug_protocol.specs.declared.spot.CodeLocation.{CodeLocation}
use Rattle.aom_debug_stepping.specs.Sends.{HostedMachine, Sends}
use Rattle.aom_debug_stepping.specs.RunGoals.{WalksOver, WalksThere, stays_at}
use Rattle.aom_debug_stepping.specs.Over.{depth_of, is_method, last_run, runs_there, under_method}
use Rattle.aom_debug_stepping.specs.declared.over.Awaited.{Awaited}
use Rattle.aom_debug_stepping.specs.declared.walking.Until.TheVariants.{Depth}

-- ---- the last method from the bottom is the first from the top

module _ {A : Type 0} where
  before_last : (ys : List A) (x : A) (k : ℕ) → k < length ys → slice_get (ys ++ x ∷ []) k ≡ slice_get ys k
  before_last [] x k less = absurd (omega (arith, less))
  before_last (y ∷ ys) x zero less = refl
  before_last (y ∷ ys) x (suc k) less = before_last ys x k (omega (arith, less))

  at_last : (ys : List A) (x : A) → slice_get (ys ++ x ∷ []) (length ys) ≡ Some x
  at_last [] x = refl
  at_last (y ∷ ys) x = at_last ys x

abbrev runs : Machine_task → Bool
runs t = runs_there (Some t)

abbrev under_run : List Machine_task → ℕ
under_run [] = 0
under_run (t ∷ ts) = cond (runs t) (length ts) (under_run ts)

last_before : (ys : List Machine_task) (x : Machine_task) (n : ℕ) → n ≤ length ys → last_run (ys ++ x ∷ []) n ≡ last_run ys n
last_before ys x zero few = refl
last_before ys x (suc n) few = ap (λ o. cond (runs_there o) n (last_run (ys ++ x ∷ []) n)) (before_last ys x n (omega (arith, few)))
    ∙ ap (λ k. cond (runs_there (slice_get ys n)) n k) (last_before ys x n (omega (arith, few)))

last_more : (ys : List Machine_task) (x : Machine_task) → last_run (ys ++ x ∷ []) (suc (length ys)) ≡ cond (runs x) (length ys) (last_run ys (length ys))
last_more ys x = ap (λ o. cond (runs_there o) (length ys) (last_run (ys ++ x ∷ []) (length ys))) (at_last ys x)
    ∙ ap (λ k. cond (runs x) (length ys) k) (last_before ys x (length ys) (omega arith))

last_under : (ts : List Machine_task) → last_run (reverse ts) (length ts) ≡ under_run ts
last_under [] = refl
last_under (t ∷ ts) =
    let long = length-reverse ts in
    ap (λ (ys : List Machine_task). last_run ys (suc (length ts))) (reverse-append (t ∷ []) ts) ∙ ap (λ n. last_run (reverse ts ++ t ∷ []) (suc n)) (sym long)
    ∙ last_more (reverse ts) t ∙ ap (λ n. cond (runs t) n (last_run (reverse ts) n)) long ∙ ap (λ k. cond (runs t) (length ts) k) (last_under ts)

-- ---- and it is that of the state

alike : (m : Machine_task) (u : Task) → SameTask m u → runs m ≡ is_method u
alike m u same = grind arith

one_more : (m : Machine_task) (u : Task) (ms : List Machine_task) (us : List Task) → SameTask m u → length ms ≡ length us → under_run ms ≡ under_method us →
    under_run (m ∷ ms) ≡ under_method (u ∷ us)
one_more m u ms us same long below = ap (λ b. cond b (length ms) (under_run ms)) (alike m u same)
    ∙ ap (λ n. cond (is_method u) n (under_run ms)) long ∙ ap (λ k. cond (is_method u) (length us) k) below

same_under : (ms : List Machine_task) (us : List Task) → SameTasks ms us → under_run ms ≡ under_method us
same_under = by_tasks (λ ms us. under_run ms ≡ under_method us) refl (λ m u ms us same rest below. one_more m u ms us same (same_length ms us rest) below)

pub under_reported : (ms : List Machine_task) (us : List Task) → SameTasks ms us → last_run (reverse ms) (length ms) ≡ under_method us
under_reported ms us same = last_under ms ∙ same_under ms us same

-- ---- a walk by that depth

pub walks_over : {X : Type 0} {B : X → Type 0} (t : Typing) (p : Image) (refused : List ℕ) (scope : Awaited) (bs : List Breakpoint) (old new : List CodeLocation)
    (depth : ℕ) (a c : HostedMachine X B) (before out : Option (List ℕ)) → ((s : State) → RefinesWithNatives a s → depth ≡ depth_of scope s.tasks) →
    Sends (WalksThere p refused (λ v. stays_at t p (Depth depth) bs v) old new) a before out c → Sends (WalksOver t p refused scope bs old new) a before out c
walks_over t p refused scope bs old new depth a c before out reported x s stands =
    let f = x s stands in
    (f.0, f.1, subst (λ n. WalksThere p refused (λ v. stays_at t p (Depth n) bs v) old new s f.0 f.1) (reported s stands) f.2, f.3, f.4)
