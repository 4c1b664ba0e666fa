use Rattle.std.proofs.Common.{inl, inr, refl, subst, sym, ◌<◌, ◌∙◌}
use Rattle.aom_machine.specs.Steps.{timers}
use Rattle.aom_run.specs.Calls.{Completed as Completes_one}
use Rattle.aom_run.specs.Turns.{CompletesDue, IsDue, KeepsMachine}
use Rattle.aom_run.proofs.Between.{completed_far, completed_stands, fewer_then, no_more_then, none_completed, none_still, one_completed, was_due}
use Rattle.aom_run.proofs.Keeping.{as_many, keeps_all, keeps_on}
use Rattle.aom_run.proofs.turns.complete_due.Goals as goal

pub loop-init : goal.loop-init
loop-init g c = record {
  completed = none_completed c.args.machine.now;
  keeps = keeps_all c.args.machine.now c.requires.rests.0 c.requires.rests.1;
  agree = c.requires.agree;
  natives = refl;
  fewer = inl refl;
}

pub due-requires : goal.due-requires
due-requires g c = record { agree = c.loop.invariant.agree; between = c.loop.invariant.keeps.between }

pub loop-smaller : goal.loop-smaller
loop-smaller g c = c.due.ensures.fewer c.loop-test.true

pub loop-preserved : goal.loop-preserved
loop-preserved g c =
    let i = c.loop.invariant in
    let m = c.loop.machine in
    let new = c.due.new.self in
    let k = i.keeps in
    let one = subst (λ b. Completes_one m b new) c.loop-test.true c.due.ensures.completed in
    record {
      completed = one_completed c.args.machine.now m new i.completed k.image one;
      keeps = keeps_on k (completed_stands c.args.machine.now m new i.completed k.image one k.stands)
          (completed_far c.args.machine.now m new i.completed k.image one k.stands) c.due.ensures.image (as_many m new c.due.ensures.natives);
      agree = c.due.ensures.agree;
      natives = c.due.ensures.natives ∙ i.natives;
      fewer = inr (fewer_then c.args.machine.now m new i.fewer (c.due.ensures.fewer c.loop-test.true));
    }

pub returns : goal.returns
returns g c =
    let i = c.loop.invariant in
    let m = c.loop.machine in
    let new = c.due.new.self in
    let none = subst (λ b. Completes_one m b new) c.loop-test.false c.due.ensures.completed in
    let same = sym none.0 in
    record {
      agree = c.due.ensures.agree;
      natives = c.due.ensures.natives ∙ i.natives;
      kept = subst (λ x. KeepsMachine c.args.machine.now x) same i.keeps;
      completed = subst (λ x. CompletesDue c.args.machine.now x) same i.completed;
      none = none_still m new none.0 none.1;
      implied = no_more_then c.args.machine.now m new i.fewer none.0;
      falls = subst (λ x. IsDue c.args.machine.now → timers x.core < timers c.args.machine.now.core) same (was_due c.args.machine.now m i.fewer none.1);
    }
