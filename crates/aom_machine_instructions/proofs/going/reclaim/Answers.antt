use Rattle.std.proofs.Common.{arith, refl}
use Rattle.aom_machine_instructions.proofs.GoneActs.{go_does, room_left}
use Rattle.aom_machine_instructions.proofs.Resulting.{on_top_runs}
use Rattle.aom_machine_instructions.specs.Acts.{going_at}
use Rattle.aom_clients.specs.Clients.{queue_at}
use Rattle.aom_machine_instructions.proofs.going.reclaim.Goals as goal

pub overflow_cast-number : goal.overflow_cast-number
overflow_cast-number c =
    let small = c.requires.reclaims.small in
    omega (arith, small)

pub push-requires : goal.push-requires
push-requires c =
    let m = c.args.parts.now in
    rw c.end_server.ensures.reported (room_left c.args.lines.now m.clients (queue_at m.clients c.args.number) c.requires.room)

pub returns-clause-gone : goal.returns-clause-gone
returns-clause-gone c =
    let m = c.args.parts.now in
    let class = rw c.end_server.ensures.rest at c.release-class.ensures.class in
    let gone = rw c.end_server.ensures.rest at c.release-class.ensures.gone in
    let count = rw c.end_server.ensures.rest at c.release-class.ensures.count in
    let off = rw c.end_server.ensures.rest at c.release-class.ensures.delisted in
    let shut = rw c.end_server.ensures.rest at c.release-class.ensures.closed in
    rw (
      c.resume.ensures,
      c.release-class.ensures.rest,
      c.release-class.ensures.unlisted,
      c.end_server.ensures.rest,
      c.end_server.ensures.clients,
      c.push.ensures,
      c.end_server.ensures.reported,
    )
    (go_does (going_at c.args.number m) c.release-class.new.self.cells c.release-class.new.self.active c.release-class.new.self.sessions
    c.end_server.new.parts.messages c.args.number c.release-class.result c.args.lines.now refl class gone count off shut c.end_server.ensures.messages)

pub returns-clause-runs : goal.returns-clause-runs
returns-clause-runs c = λ runs. rw (c.resume.ensures, c.release-class.ensures.rest, c.end_server.ensures.rest) (on_top_runs _ _ runs)
