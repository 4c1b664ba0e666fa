-- From the first move on main's line is written: a move takes its course, or ends a dispatch, and neither takes that back.
use Rattle.std.proofs.lemmas.Bool.Decides.{nat_tests}
use Rattle.std.proofs.Common.{arith, Bool, Option, true, ℕ, ℤ, ◌≡◌}
use Rattle.std.specs.Prelude.{◌⊎◌}
use Rattle.aom_image.specs.Image.{Image}
use Rattle.aom_machine.proofs.SafetyLemmas.{IsEnd, Takes, course_announced, move_rest, steps_are_moves}
use Rattle.aom_image.specs.declared.method.Role.TheVariants.{Error as Answers}
use Rattle.aom_semantics.specs.Requests.{part_of}
use Rattle.aom_semantics.specs.Moves.{answered, asking, dispatch_ends, handled, main_ends, object_ends, stage_ends, step}
use Rattle.aom_semantics.specs.Places.{Elsewhere, Object, Root, held}
use Rattle.aom_semantics.specs.State.{Answered, Asks, Choice, Dispatch, Goes, Object_left, Of_main, Of_object, Of_server, OwnedObject, Stage, State}

abbrev IsReported : State → Type 0
IsReported s = s.rest.announced ≡ true

main_reported : (p : Image) (s : State) → IsReported s → (b : Bool) (o : Option Object) → IsReported (main_ends p b o s)
main_reported p s reported x o = grind arith

module _ (p : Image) (s : State) (reported : IsReported s) where
  object_reported : IsReported (object_ends p s)
  object_reported = main_reported p (handled s) reported s.rest.stopped (held s.cells (Elsewhere Root))

  answer_reported : (answer : ℤ) → IsReported (answered p answer s)
  answer_reported answer = grind (arith, object_reported)

  asking_reported : (m : Option ℕ) (x : OwnedObject) (code : ℤ) → IsReported (asking p m x code s)
  asking_reported x y code = grind (arith, nat_tests, answer_reported code)

  stage_reported : (x : OwnedObject) (client : ℕ) (stage : Stage) → IsReported (stage_ends x client stage s)
  stage_reported x client stage = grind arith

  end_reported : (d : Dispatch) → IsReported (dispatch_ends p d s)
  end_reported Of_main = main_reported p s reported s.rest.stopped (held s.cells (Elsewhere Root))
  end_reported (Of_object x) = object_reported
  end_reported (Object_left x code) = asking_reported (part_of p Answers x.object.thing) x code
  end_reported (Asks x) = object_reported
  end_reported (Answered x answer) = answer_reported answer
  end_reported (Of_server x client stage) = stage_reported x client stage
  end_reported _ = reported

pub step_reported : (p : Image) (c : Choice) (s u : State) → step p c s ≡ Goes u → u.rest.announced ≡ true
step_reported p c s u e = grind (
  arith,
  nat_tests,
  move_rest p c s u (steps_are_moves p c s u e),
  steps_are_moves p c s u e,
  Takes p s u ⊎ IsEnd p s u,
  IsEnd p s u,
  course_announced,
  end_reported p,
)
