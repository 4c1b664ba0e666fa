-- Work ends elsewhere, for another reason, or there.
use Rattle.std.proofs.Common.{◌≡◌, ◌∙◌, ap, sym}
use Rattle.std.proofs.lemmas.Bool.{eqb-false, eqb-true}
use Rattle.std.proofs.lemmas.Result.{IfOk-weaker}
use Rattle.aom_abstract_state.specs.Whys.{why_number}
use Rattle.aom_diagnostic_commands.proofs.Knowing.{ends_elsewhere, same_why, some_state, reported_there}
use Rattle.aom_diagnostic_commands.proofs.stopping.write_stop.Goals as goal

pub returns-then-stop-at : goal.returns-then-stop-at
returns-then-stop-at c =
    let stop = c.args.stop.now in
    ends_elsewhere c.args.told.now c.args.linked.now c.args.at.now.method c.args.at.now.place c.args.at.now.why c.args.out.now stop.state_table stop.place stop.why c.requires.stops
    (λ here so. c.if-stop-at.true here)

pub returns : goal.returns
returns c =
    let stop = c.args.stop.now in
    let other = eqb-false (why_number stop.why) (why_number c.args.at.now.why) (sym c.is_same_why.ensures ∙ c.if-is_same_why.false) in
    ends_elsewhere c.args.told.now c.args.linked.now c.args.at.now.method c.args.at.now.place c.args.at.now.why c.args.out.now stop.state_table stop.place stop.why c.requires.stops
    (λ here so. other (ap why_number so))

pub returns-in-Some : goal.returns-in-Some
returns-in-Some c =
    let stop = c.args.stop.now in
    let so : stop.why ≡ c.args.at.now.why =
    same_why stop.why c.args.at.now.why (eqb-true (why_number stop.why) (why_number c.args.at.now.why) (sym c.is_same_why.ensures ∙ c.if-is_same_why.true)) in
    IfOk-weaker c.write_state.result _ _ (λ done put. reported_there c.args.told.now c.args.linked.now c.args.at.now.method c.args.at.now.place c.args.at.now.why
    c.args.out.now stop.state_table stop.place stop.why c.requires.stops c.in-Some.shape _ c.if-stop-at.false so c.in-Some.ensures put) c.write_state.ensures

pub returns-in-None : goal.returns-in-None
returns-in-None c =
    let stop = c.args.stop.now in
    absurd (some_state c.args.told.now c.args.linked.now c.args.at.now.method c.args.at.now.place c.args.at.now.why c.args.out.now stop.state_table stop.place stop.why c.requires.stops
    c.if-stop-at.false c.in-None.ensures)
