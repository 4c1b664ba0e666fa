use Rattle.std.proofs.Common.{arith}
use Rattle.aom_machine_instructions.proofs.Finding.{class_fits}
use Rattle.aom_machine_instructions.proofs.ClosingSessions.{cells_taken, moves_none, moves_some, room_above, server_goes, server_queued, server_small, server_there}
use Rattle.aom_machine_instructions.proofs.ClosingSessions.{session_found, stack_taken}
use Rattle.aom_machine_instructions.proofs.going.close_next_session.Goals as goal

pub going_number-number-requires : goal.going_number-number-requires
going_number-number-requires c = rw c.drop_task.ensures (server_goes c.args.linked.now c.args.parts.now c.requires.stands c.requires.announced c.requires.closing)

pub overflow_cast-number : goal.overflow_cast-number
overflow_cast-number c =
    let is = rw c.drop_task.ensures at c.going_number-number.ensures in
    let small = server_small c.args.linked.now c.args.parts.now c.requires.stands c.requires.announced c.requires.closing in
    omega (arith, is, small)

pub take_session-requires : goal.take_session-requires
take_session-requires c =
    let is = rw c.drop_task.ensures at c.going_number-number.ensures in
    rw (c.drop_task.ensures, is) (server_queued c.args.linked.now c.args.parts.now c.requires.stands c.requires.announced c.requires.closing)

pub push-requires : goal.push-requires
push-requires c =
    let is = rw c.drop_task.ensures at c.going_number-number.ensures in
    let stack = stack_taken c.args.linked.now c.args.parts.now c.requires.stands c.requires.announced c.requires.closing c.going_number-number.result
    is c.drop_task.new.self c.take_session.new.parts c.take_session.result c.drop_task.ensures c.take_session.ensures.rest c.take_session.ensures.session in
    let room = room_above c.args.linked.now c.args.parts.now c.requires.stands c.requires.announced c.requires.closing in
    rw stack (omega (arith, room))

pub begin-requires-clause-lives : goal.begin-requires-clause-lives
begin-requires-clause-lives c =
    let is = rw c.drop_task.ensures at c.going_number-number.ensures in
    session_found c.args.linked.now c.args.parts.now c.requires.stands
    c.requires.announced c.requires.closing c.going_number-number.result is c.drop_task.new.self c.take_session.new.parts c.take_session.result
    c.drop_task.ensures c.take_session.ensures.rest c.take_session.ensures.session c.in-Some.session c.in-Some.is c.in-Some.ensures.small

pub begin-requires-clause-small : goal.begin-requires-clause-small
begin-requires-clause-small c =
    let is = rw c.drop_task.ensures at c.going_number-number.ensures in
    let cells = cells_taken c.args.linked.now c.args.parts.now c.requires.stands c.requires.announced c.requires.closing c.going_number-number.result
    is c.drop_task.new.self c.take_session.new.parts c.take_session.result c.drop_task.ensures c.take_session.ensures.rest c.take_session.ensures.session in
    rw cells (class_fits c.args.linked.now c.args.parts.now c.requires.stands.0 c.requires.stands.1.agrees c.in-Some.session)

pub begin-requires-clause-room : goal.begin-requires-clause-room
begin-requires-clause-room c =
    let is = rw c.drop_task.ensures at c.going_number-number.ensures in
    let stack = stack_taken c.args.linked.now c.args.parts.now c.requires.stands c.requires.announced c.requires.closing c.going_number-number.result
    is c.drop_task.new.self c.take_session.new.parts c.take_session.result c.drop_task.ensures c.take_session.ensures.rest c.take_session.ensures.session in
    let room = room_above c.args.linked.now c.args.parts.now c.requires.stands c.requires.announced c.requires.closing in
    rw (c.push.ensures, stack) (omega (arith, room))

pub class-class-requires-clause-lives : goal.class-class-requires-clause-lives
class-class-requires-clause-lives c =
    let is = rw c.drop_task.ensures at c.going_number-number.ensures in
    let cells = cells_taken c.args.linked.now c.args.parts.now c.requires.stands c.requires.announced c.requires.closing c.going_number-number.result
    is c.drop_task.new.self c.take_session.new.parts c.take_session.result c.drop_task.ensures c.take_session.ensures.rest c.take_session.ensures.session in
    rw (cells, is) (server_there c.args.linked.now c.args.parts.now c.requires.stands c.requires.announced c.requires.closing)

pub destruct-requires : goal.destruct-requires
destruct-requires c =
    let is = rw c.drop_task.ensures at c.going_number-number.ensures in
    let stack = stack_taken c.args.linked.now c.args.parts.now c.requires.stands c.requires.announced c.requires.closing c.going_number-number.result
    is c.drop_task.new.self c.take_session.new.parts c.take_session.result c.drop_task.ensures c.take_session.ensures.rest c.take_session.ensures.session in
    let room = room_above c.args.linked.now c.args.parts.now c.requires.stands c.requires.announced c.requires.closing in
    record { room = rw stack (omega (arith, room)) }

pub returns-in-Some : goal.returns-in-Some
returns-in-Some c = λ reported.
    let is = rw c.drop_task.ensures at c.going_number-number.ensures in
    moves_some c.args.linked.now c.args.parts.now c.requires.stands c.requires.announced c.requires.closing
    c.going_number-number.result is c.drop_task.new.self c.take_session.new.parts c.take_session.result c.drop_task.ensures c.take_session.ensures.rest
    c.take_session.ensures.session reported c.in-Some.session c.begin.new.parts c.in-Some.is c.in-Some.ensures.small (rw c.push.ensures at c.begin.ensures)

pub returns-in-None : goal.returns-in-None
returns-in-None c = λ reported.
    let is = rw c.drop_task.ensures at c.going_number-number.ensures in
    moves_none c.args.linked.now c.args.parts.now c.requires.stands c.requires.announced c.requires.closing
    c.going_number-number.result is c.drop_task.new.self c.take_session.new.parts c.take_session.result c.drop_task.ensures c.take_session.ensures.rest
    c.take_session.ensures.session reported c.class-class.result c.destruct.new.parts c.in-None.is c.class-class.ensures c.destruct.ensures
