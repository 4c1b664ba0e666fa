-- What the kind of the task on top says of the tasks at hand.
use Rattle.std.proofs.lemmas.Bool.Decides.{nat_tests}
use Rattle.std.proofs.Common.{arith, ◌≡◌, ℕ, ℤ, List, [], ◌∷◌, Option, Some, None, subst, sym, ap}
use Rattle.aom_frames.specs.declared.task.Task.{Task}
use Rattle.aom_frames.specs.declared.task.Task.TheVariants.{Trapped}
use Rattle.aom_frames.specs.declared.dispatch.Dispatch.{Dispatch}
use Rattle.aom_frames.specs.declared.task.TaskKind.{TaskKind}
use Rattle.aom_frames.specs.declared.task.TaskKind.TheVariants as kinds
use Rattle.aom_frames.specs.Tasks.{IsOf, TopFrameIs}
use Rattle.aom_machine_instructions.specs.Going.{ending_here}
use Rattle.aom_image.specs.Image.{Image}
use Rattle.aom_machine_state.specs.Room.{ReturnsTo}
use Rattle.aom_machine_state.specs.Places.{IsClosing, IsDestroying, IsEnding, IsTrapped, IsUnwinding, going_here, code_here}

-- a task of that kind is on top
abbrev pub Topped : TaskKind → List Task → Type 0
Topped kind us = (ts : List Task) × (t : Task) × (us ≡ t ∷ ts) × IsOf kind t

module _ (kind : TaskKind) (us : List Task) (top : Topped kind us) where
  -- what is on top, where that is told of its kind
  below_it : (k : TaskKind) → kind ≡ k → (P : List Task → Type 0) → ((t : Task) → IsOf k t → P (t ∷ top.0)) → P us
  below_it k is P by = subst P (sym top.2) (by top.1 (subst (λ x. IsOf x top.1) is top.3))

  pub runs_on : kind ≡ kinds.Run → TopFrameIs us
  runs_on is = below_it kinds.Run is TopFrameIs (λ t of. subst (λ x. TopFrameIs (x ∷ top.0)) (sym of.1) tt)

  pub trap_on : kind ≡ kinds.Trapped → us ≡ Trapped ∷ top.0
  trap_on is = below_it kinds.Trapped is (λ vs. vs ≡ Trapped ∷ top.0) (λ t of. ap (λ x. x ∷ top.0) of)

  pub trapped_on_top : kind ≡ kinds.Trapped → IsTrapped us
  trapped_on_top is = subst IsTrapped (sym (trap_on is)) tt

  pub goes_on_top : {x : ℕ} → kind ≡ kinds.Destroy x → IsDestroying us
  goes_on_top {x} is = below_it (kinds.Destroy x) is IsDestroying (λ t of. subst (λ y. IsDestroying (y ∷ top.0)) (sym of) tt)

  pub number_on_top : {x : ℕ} → kind ≡ kinds.Destroy x → x ≡ going_here us
  number_on_top {x} is = below_it (kinds.Destroy x) is (λ vs. x ≡ going_here vs) (λ t of. ap (λ y. going_here (y ∷ top.0)) (sym of))

  pub closes_on_top : kind ≡ kinds.Closing → IsClosing us
  closes_on_top is = below_it kinds.Closing is IsClosing (λ t of. subst (λ y. IsClosing (y ∷ top.0)) (sym of) tt)

  pub leaves_on_top : {code : ℤ} → kind ≡ kinds.Unwind code → IsUnwinding us
  leaves_on_top {code} is = below_it (kinds.Unwind code) is IsUnwinding (λ t of. subst (λ y. IsUnwinding (y ∷ top.0)) (sym of) tt)

  pub code_on_top : {code : ℤ} → kind ≡ kinds.Unwind code → code ≡ code_here us
  code_on_top {code} is = below_it (kinds.Unwind code) is (λ vs. code ≡ code_here vs) (λ t of. ap (λ y. code_here (y ∷ top.0)) (sym of))

  pub ends_on_top : {d : Dispatch} → kind ≡ kinds.Dispatched d → ending_here us ≡ Some d
  ends_on_top {d} is = below_it (kinds.Dispatched d) is (λ vs. ending_here vs ≡ Some d) (λ t of. ap (λ y. ending_here (y ∷ top.0)) of)

-- a dispatch that is told is at its end, and one at its end is told
abbrev IsReported : Option Dispatch → Type 0
IsReported None = ⊥
IsReported (Some d) = Unit {0}

reported_ends : (us : List Task) → IsReported (ending_here us) → IsEnding us
reported_ends x reported = grind arith

pub ending_of : {d : Dispatch} (us : List Task) → ending_here us ≡ Some d → IsEnding us
ending_of us e = reported_ends us (subst IsReported (sym e) tt)

-- nothing returns to what closes the sessions of a server
pub closing_not_returned : (p : Image) (us : List Task) → IsClosing us → ReturnsTo p us → ⊥
closing_not_returned p x closing returns = grind arith

-- where a cell goes, nothing else is on top
pub goes_not_none : (us : List Task) → IsDestroying us → us ≡ [] → ⊥
goes_not_none us going none = subst IsDestroying none going

pub goes_not_else : (kind : TaskKind) (us : List Task) → Topped kind us → IsDestroying us → ((x : ℕ) → kind ≡ kinds.Destroy x → ⊥) → ⊥
goes_not_else kind us top going other = grind (arith, nat_tests)
