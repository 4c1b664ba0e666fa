-- Each kind makes a box more, which stands as a new native of that kind.
use Rattle.std.proofs.Common.{◌∙◌, ap, refl, arith}
use Rattle.std.proofs.lemmas.List.{take_all}
use denote.Param.Object.{read_made}
use Rattle.aom_natives.specs.declared.kind.NativeKind.TheVariants.{Counter, Line, Delay}
use Rattle.aom_natives.specs.declared.counter.Counter.{Counter as Adder}
use Rattle.aom_commands.specs.Beside.{NativeModel, counter_at, delay_at, line_at, new_of}
use Rattle.aom_commands.proofs.Boxes.{all_made, none_made, one_more_made, stands_same}
use Rattle.aom_commands.proofs.exploring.last_of.OwnLists.{own-1, at-1-1, at-1-2, at-1-3}
use Rattle.aom_commands.proofs.exploring.last_of.Goals as goal
use Rattle.aom_commands.proofs.exploring.last_of.Goals.{in-Counter+in_ok-new-in-Counter+in_ok-push-in-Counter, in-Line+in_ok-new-in-Line+in_ok-push-in-Line}
use Rattle.aom_commands.proofs.exploring.last_of.Goals.{in-Delay+in_ok-new-in-Delay+in_ok-push-in-Delay}

pub loop-kind-preserved : goal.loop-kind-preserved
loop-kind-preserved c = elim c.match-kind.branch [
  | in-Counter+in_ok-new-in-Counter+in_ok-push-in-Counter w ↦
      one_more_made _ c.args.trial.now.kinds.now c.loop-kind.boxes.items c.match-kind.boxes.items w.into_dyn_box.result
      c.loop-kind.kind-index Counter c.loop-kind.invariant (rw w.boxes-is w.in_ok-push-in-Counter.ensures.items) c.loop-kind-test.true w.in-Counter.is
      (stands_same _ (new_of Counter)
      (read_made own-1 (own-1.entry at-1-1) at-1-1 refl NativeModel
      (λ e x. record { owed = e.1.owed x; open_may = e.1.open_may x; start_may = e.1.start_may x; call_may = e.1.call_may x; poll_may = e.1.poll_may x })
      w.into_dyn_box.result.vtable w.into_dyn_box.result.value w.in_ok-new-in-Counter.field-0.value w.into_dyn_box.ensures.1
      ∙ ap (λ (a : Adder). counter_at a.total) w.in_ok-new-in-Counter.ensures.ok ∙ ap counter_at w.new.ensures.value))
  | in-Line+in_ok-new-in-Line+in_ok-push-in-Line w ↦
      one_more_made _ c.args.trial.now.kinds.now c.loop-kind.boxes.items c.match-kind.boxes.items w.into_dyn_box-in_ok-new-in-Line.result
      c.loop-kind.kind-index Line c.loop-kind.invariant (rw w.boxes-is w.in_ok-push-in-Line.ensures.items) c.loop-kind-test.true w.in-Line.is
      (stands_same _ (new_of Line)
      (read_made own-1 (own-1.entry at-1-2) at-1-2 refl NativeModel
      (λ e x. record { owed = e.1.owed x; open_may = e.1.open_may x; start_may = e.1.start_may x; call_may = e.1.call_may x; poll_may = e.1.poll_may x })
      w.into_dyn_box-in_ok-new-in-Line.result.vtable
      w.into_dyn_box-in_ok-new-in-Line.result.value w.in_ok-new-in-Line.field-0.value w.into_dyn_box-in_ok-new-in-Line.ensures.1
      ∙ ap line_at (w.in_ok-new-in-Line.ensures.ok ∙ w.new-in-Line.ensures.value)))
  | in-Delay+in_ok-new-in-Delay+in_ok-push-in-Delay w ↦
      one_more_made _ c.args.trial.now.kinds.now c.loop-kind.boxes.items c.match-kind.boxes.items w.into_dyn_box-in_ok-new-in-Delay.result
      c.loop-kind.kind-index Delay c.loop-kind.invariant (rw w.boxes-is w.in_ok-push-in-Delay.ensures.items) c.loop-kind-test.true w.in-Delay.is
      (stands_same _ (new_of Delay)
      (read_made own-1 (own-1.entry at-1-3) at-1-3 refl NativeModel
      (λ e x. record { owed = e.1.owed x; open_may = e.1.open_may x; start_may = e.1.start_may x; call_may = e.1.call_may x; poll_may = e.1.poll_may x })
      w.into_dyn_box-in_ok-new-in-Delay.result.vtable
      w.into_dyn_box-in_ok-new-in-Delay.result.value w.in_ok-new-in-Delay.field-0.value w.into_dyn_box-in_ok-new-in-Delay.ensures.1
      ∙ ap delay_at (w.in_ok-new-in-Delay.ensures.ok ∙ w.new-in-Delay.ensures.value)))
]

pub loop-kind-init : goal.loop-kind-init
loop-kind-init c = none_made _ c.args.trial.now.kinds.now _ c.new-boxes.ensures.items

pub last_beside-requires-clause-new : goal.last_beside-requires-clause-new
last_beside-requires-clause-new c = all_made _ c.args.trial.now.kinds.now c.loop-kind.boxes.items c.loop-kind.kind-index
    (take_all c.loop-kind.kind-index c.args.trial.now.kinds.now (omega (arith, c.loop-kind-test.false, c.loop-kind.auto.kind-index-end))) c.loop-kind.invariant
