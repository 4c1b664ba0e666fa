-- A native is killed as the checked machine kills it.
use Rattle.std.proofs.Common.{ap, subst, sym, ◌∙◌, ◌++◌, ◌∷◌, []}
use Rattle.aom_cells.specs.Sessions.{Standing}
use Rattle.aom_semantics.specs.World.{Kills}
use Rattle.aom_machine.specs.Turns.{Takes}
use Rattle.aom_machine.proofs.Killing.{killed_is, kills, kills_no_timer}
use Rattle.aom_machine.proofs.natives.kill.Goals as goal

pub returns-clause-killed : goal.returns-clause-killed
returns-clause-killed c = λ s st.
    let p = c.args.linked.now in
    let m = c.args.parts.now in
    let b = c.fail_all_requests.new.parts in
    subst (λ x. Takes (record { image = p; parts = m }) s (Kills c.args.native) c.args.lines.now c.push.new.self (record { image = p; parts = x }))
    (sym (killed_is p c.args.native m b c.fail_all_requests.ensures c.kill.new.self c.deliver.new.self c.kill.ensures c.deliver.ensures))
    (kills p c.args.native m b c.fail_all_requests.ensures c.requires.between c.args.lines.now c.push.new.self c.push.ensures s st)

pub returns-clause-timers : goal.returns-clause-timers
returns-clause-timers c = kills_no_timer c.args.linked.now c.args.native c.args.parts.now c.fail_all_requests.new.parts c.fail_all_requests.ensures c.requires.stands

pub returns-clause-ended : goal.returns-clause-ended
returns-clause-ended c = ap (λ (w : Standing). w.killed) c.kill.ensures ∙ ap (λ ks. ks ++ c.args.native ∷ []) c.fail_all_requests.ensures.others.killed
