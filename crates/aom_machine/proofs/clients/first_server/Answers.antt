-- The server of a class that was enlisted first.
use Rattle.std.proofs.Common.{arith, rules, sym, ◌<◌, ◌∙◌}
use Rattle.aom_machine.proofs.MachineInstructionsLemmas.{class_fits}
use Rattle.aom_machine.proofs.FirstServer.{declared_first, first_known, first_served, of_kind}
use Rattle.aom_machine.proofs.clients.first_server.Goals as goal

pub first-requires : goal.first-requires
first-requires c =
    let small : c.args.class < 256 = search rules in
    let same = c.from.ensures in
    let many = c.requires.1.agrees.services.listed.classes in
    omega (arith, small, same, many)

pub class-class-requires-clause-small : goal.class-class-requires-clause-small
class-class-requires-clause-small c = class_fits c.args.linked.now c.args.parts.now c.requires.0 c.requires.1.agrees c.from-2.result

pub class-class-requires-clause-lives : goal.class-class-requires-clause-lives
class-class-requires-clause-lives c =
    let first = rw c.from.ensures at c.in_ok-cell.ensures in
    rw c.from-2.ensures (first_known c.args.linked.now c.args.parts.now c.requires c.args.class c.in_ok-cell.cell (sym first)).lives

pub class-requires : goal.class-requires
class-requires c =
    let first = rw c.from.ensures at c.in_ok-cell.ensures in
    let class = rw c.from-2.ensures at c.class-class.ensures in
    declared_first c.args.linked.now c.args.parts.now c.args.class c.in_ok-cell.cell
    (first_known c.args.linked.now c.args.parts.now c.requires c.args.class c.in_ok-cell.cell (sym first)) c.class-class.result class

pub unreachable-requires : goal.unreachable-requires
unreachable-requires c =
    let first = rw c.from.ensures at c.in_ok-cell.ensures in
    let class = rw c.from-2.ensures at c.class-class.ensures in
    let known = first_known c.args.linked.now c.args.parts.now c.requires c.args.class c.in_ok-cell.cell (sym first) in
    let is = of_kind c.args.linked.now c.args.parts.now c.args.class c.in_ok-cell.cell known c.class-class.result c.class.result.now class c.class.ensures in
    c.in_default.not-Server known.most known.session is

pub returns-clause-value : goal.returns-clause-value
returns-clause-value c =
    let first = rw c.from.ensures at c.in_ok-cell.ensures in
    let class = rw c.from-2.ensures at c.class-class.ensures in
    let known = first_known c.args.linked.now c.args.parts.now c.requires c.args.class c.in_ok-cell.cell (sym first) in
    let is = of_kind c.args.linked.now c.args.parts.now c.args.class c.in_ok-cell.cell known c.class-class.result c.class.result.now class c.class.ensures in
    first_served c.args.linked.now c.args.parts.now c.args.class c.in_ok-cell.cell known (sym first) c.in-Server.sessions _ (sym is ∙ c.in-Server.is)

pub returns-clause-below : goal.returns-clause-below
returns-clause-below c =
    let first = rw c.from.ensures at c.in_ok-cell.ensures in
    (first_known c.args.linked.now c.args.parts.now c.requires c.args.class c.in_ok-cell.cell (sym first)).below
