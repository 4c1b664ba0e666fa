-- A run that is not over lasts: a move ends it only where nothing is left at hand.
use Rattle.std.proofs.lemmas.Bool.Decides.{nat_tests}
use Rattle.std.proofs.Common.{arith, Bool, None, Option, cond, inr, pos, refl, ℕ, ℤ, [], ◌≡◌}
use Rattle.std.specs.Ordering.{int_eq}
use Rattle.std.specs.Prelude.{◌⊎◌}
use Rattle.aom_image.specs.Image.{Image}
use Rattle.aom_machine.proofs.SafetyLemmas.{IsEnd, Takes, course_ended, move_rest, steps_are_moves}
use Rattle.aom_image.specs.declared.method.Role.TheVariants.{Error as Answers}
use Rattle.aom_semantics.specs.Requests.{part_of}
use Rattle.aom_semantics.specs.Moves.{answered, asking, dispatch_ends, failed, handled, main_ends, object_ends, stage_ends, step}
use Rattle.aom_semantics.specs.Places.{Elsewhere, Object, Root, held}
use Rattle.aom_semantics.specs.State.{Answered, Asks, Choice, Dispatch, Goes, Object_left, Of_main, Of_object, Of_server, OwnedObject, Stage, State}

-- it is not over, or nothing is at hand
abbrev pub Lasts : State → Type 0
Lasts s = (s.rest.ended ≡ None) ⊎ (s.tasks ≡ [])

module _ (p : Image) (s : State) (going : s.rest.ended ≡ None) where
  main_lasts : (b : Bool) (o : Option Object) → Lasts (main_ends p b o s)
  main_lasts x o = grind arith

module _ (p : Image) (s : State) (going : s.rest.ended ≡ None) where
  object_lasts : Lasts (object_ends p s)
  object_lasts = main_lasts p (handled s) going s.rest.stopped (held s.cells (Elsewhere Root))

  either_lasts : (answer : ℤ) (b : Bool) → Lasts (cond b (object_ends p s) (failed answer s))
  either_lasts answer x = grind (arith, nat_tests, object_lasts)

  answer_lasts : (answer : ℤ) → Lasts (answered p answer s)
  answer_lasts answer = either_lasts answer (int_eq answer (pos 0))

  asking_lasts : (m : Option ℕ) (x : OwnedObject) (code : ℤ) → Lasts (asking p m x code s)
  asking_lasts x y code = grind (arith, nat_tests, answer_lasts code)

  stage_lasts : (x : OwnedObject) (client : ℕ) (stage : Stage) → Lasts (stage_ends x client stage s)
  stage_lasts x client y = grind arith

  end_lasts : (d : Dispatch) → Lasts (dispatch_ends p d s)
  end_lasts Of_main = main_lasts p s going s.rest.stopped (held s.cells (Elsewhere Root))
  end_lasts (Of_object x) = object_lasts
  end_lasts (Object_left x code) = asking_lasts (part_of p Answers x.object.thing) x code
  end_lasts (Asks x) = object_lasts
  end_lasts (Answered x answer) = answer_lasts answer
  end_lasts (Of_server x client stage) = stage_lasts x client stage
  end_lasts _ = inr refl

pub step_lasts : (p : Image) (c : Choice) (s u : State) → step p c s ≡ Goes u → s.rest.ended ≡ None → Lasts u
step_lasts p c s u e going = grind (
  arith,
  nat_tests,
  move_rest p c s u (steps_are_moves p c s u e),
  steps_are_moves p c s u e,
  Takes p s u ⊎ IsEnd p s u,
  IsEnd p s u,
  course_ended,
  end_lasts p,
)
