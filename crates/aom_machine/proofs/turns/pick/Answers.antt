-- The object that is picked is the one that the checked machine dispatches.
use Rattle.std.proofs.Common.{subst, sym, ◌∙◌}
use Rattle.aom_active_objects.specs.Meanings.{Picks}
use Rattle.aom_machine.proofs.Taking.{can_serve, serves_one}
use Rattle.aom_machine.proofs.Turning.{picks_can, picks_none, picks_one}
use Rattle.aom_machine.proofs.turns.pick.Goals as goal

pub serve-requires-clause-can : goal.serve-requires-clause-can
serve-requires-clause-can c =
    let picks = subst (λ o. Picks c.args.parts.now.active c.pick.new.self o) c.in-Some.is c.pick.ensures in
    can_serve c.args.linked.now c.args.parts.now c.requires.between c.pick.new.self c.in-Some.id c.requires.stands picks
    (sym c.is_server.ensures ∙ c.if-is_server.true)

pub dispatch-requires-clause-can : goal.dispatch-requires-clause-can
dispatch-requires-clause-can c =
    let picks = subst (λ o. Picks c.args.parts.now.active c.pick.new.self o) c.in-Some.is c.pick.ensures in
    picks_can c.args.linked.now c.args.parts.now c.requires.between c.pick.new.self c.in-Some.id c.requires.stands picks
    (sym c.is_server.ensures ∙ c.if-is_server.false)

pub returns-then-is_server : goal.returns-then-is_server
returns-then-is_server c =
    let picks = subst (λ o. Picks c.args.parts.now.active c.pick.new.self o) c.in-Some.is c.pick.ensures in
    serves_one c.args.linked.now c.args.parts.now c.requires.between c.pick.new.self c.in-Some.id c.args.lines.now c.serve.new.lines c.serve.new.parts picks
    (sym c.is_server.ensures ∙ c.if-is_server.true) c.serve.ensures

pub returns-else-is_server : goal.returns-else-is_server
returns-else-is_server c =
    let picks = subst (λ o. Picks c.args.parts.now.active c.pick.new.self o) c.in-Some.is c.pick.ensures in
    picks_one c.args.linked.now c.args.parts.now c.requires.between c.pick.new.self c.in-Some.id c.args.lines.now c.dispatch.new.lines c.dispatch.new.parts
    picks (sym c.is_server.ensures ∙ c.if-is_server.false) c.dispatch.ensures

pub returns-in_default : goal.returns-in_default
returns-in_default c = picks_none c.args.linked.now c.args.parts.now c.requires.between c.pick.new.self c.args.lines.now c.pick.result
    c.in_default.not-Some c.pick.ensures
