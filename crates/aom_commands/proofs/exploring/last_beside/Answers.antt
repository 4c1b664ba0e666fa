-- The machine has the boxes in its slots, as many as kinds; memory is wanting where it has booted.
use Rattle.std.proofs.Common.{◌≡◌, ◌∙◌, List, ℕ, length, subst, sym}
use Rattle.std.specs.Prelude.{IfOk}
use Rattle.std.proofs.lemmas.Result.{IfErr-weaker, IfOk-weaker, err_from_is_err_and}
use Rattle.aom_transcript.specs.Sinks.{after}
use Rattle.aom_commands.specs.Explored.{IsLast, kept_text}
use Rattle.aom_commands.specs.Headline.{HasNatives, RefusesBoot, outside_of}
use Rattle.aom_commands.proofs.Boxes.{all_new, as_many, owe_nothing}
use Rattle.aom_commands.proofs.Tries.{refuses_same, wants_memory}
use Rattle.aom_commands.proofs.exploring.last_beside.Goals as goal

pub booted-requires : goal.booted-requires
booted-requires g c = record { owed = owe_nothing _ c.args.trial.now.kinds.now c.args.boxes.items c.requires.new }

pub returns-in_err-machine-clause-err : goal.returns-in_err-machine-clause-err
returns-in_err-machine-clause-err g c =
    let e = err_from_is_err_and c.from_residual.result c.from_residual.ensures.1 in
    let many = as_many _ c.args.trial.now.kinds.now c.args.boxes.items c.requires.new in
    rw e.1 (subst (λ f. RefusesBoot c.args.trial.now.accepted.now (length c.args.trial.now.kinds.now) f) (sym e.2)
    (refuses_same c.args.trial.now.accepted.now (length c.args.boxes.items) (length c.args.trial.now.kinds.now) _ many c.in_err-machine.ensures.err))

pub last_booted-last-requires-clause-new : goal.last_booted-last-requires-clause-new
last_booted-last-requires-clause-new g c = all_new _ (λ l. l.native) c.args.trial.now.kinds.now c.in_ok-machine.machine.natives.slots.items c.args.boxes.items
    c.in_ok-machine.ensures.boxes c.requires.new

pub returns-clause-ok : goal.returns-clause-ok
returns-clause-ok g c =
    let many = c.in_ok-machine.ensures.natives ∙ as_many _ c.args.trial.now.kinds.now c.args.boxes.items c.requires.new in
    subst (λ n. IfOk c.last_booted-last.result (λ last. (text : List ℕ) × IsLast c.args.trial.now.accepted.now
    (outside_of c.args.trial.now.script.now c.args.trial.now.limit n) last text × (kept_text c.last_booted-last.new.kept.keeps
    c.last_booted-last.new.kept.text.items ≡ after (kept_text c.args.kept.now.keeps c.args.kept.now.text.items) text))) many c.last_booted-last.ensures.ok

pub returns-clause-enough : goal.returns-clause-enough
returns-clause-enough g c =
    let many = as_many _ c.args.trial.now.kinds.now c.args.boxes.items c.requires.new in
    IfOk-weaker c.last_booted-last.result _ _ (λ _ _. subst (λ n. HasNatives c.args.trial.now.accepted.now n) many c.in_ok-machine.ensures.enough)
    c.last_booted-last.ensures.ok

pub returns-clause-err : goal.returns-clause-err
returns-clause-err g c =
    let many = as_many _ c.args.trial.now.kinds.now c.args.boxes.items c.requires.new in
    IfErr-weaker c.last_booted-last.result _ _
    (λ fault wants. wants_memory c.args.trial.now.accepted.now (length c.args.trial.now.kinds.now) fault wants
    (subst (λ n. HasNatives c.args.trial.now.accepted.now n) many c.in_ok-machine.ensures.enough)) c.last_booted-last.ensures.err
