use Rattle.std.proofs.Common.{sym, ◌∙◌, arith}
use Rattle.std.proofs.lemmas.Bool.{false≢true}
use Rattle.aom_machine_instructions.proofs.Rooms.{has_room}
use Rattle.aom_machine_instructions.proofs.Stepping.{unwinding_moves}
use Rattle.aom_machine_instructions.proofs.UnwindActs.{deals_move, unwinds_marked, unwinds_to, unwinds_trapped, unwinds_whole, calls_there}
use Rattle.aom_machine_instructions.proofs.leaving.unwind.Goals as goal

pub run_cleanup_entry-requires-clause-entry : goal.run_cleanup_entry-requires-clause-entry
run_cleanup_entry-requires-clause-entry c = c.above_mark.ensures.0 c.if-above_mark.true

pub run_cleanup_entry-requires-clause-lives : goal.run_cleanup_entry-requires-clause-lives
run_cleanup_entry-requires-clause-lives c = unwinds_whole c.args.linked.now c.args.parts.now c.requires.stands c.requires.unwinding

pub run_cleanup_entry-requires-clause-room : goal.run_cleanup_entry-requires-clause-room
run_cleanup_entry-requires-clause-room c = has_room c.args.linked.now c.args.parts.now c.requires.stands

pub arrive-requires-clause-marked : goal.arrive-requires-clause-marked
arrive-requires-clause-marked c = unwinds_marked c.args.linked.now c.args.parts.now c.requires.stands c.requires.unwinding
    (λ above. false≢true (sym c.if-above_mark.false ∙ c.above_mark.ensures.1 above))

pub arrive-requires-clause-trapped : goal.arrive-requires-clause-trapped
arrive-requires-clause-trapped c = unwinds_trapped c.args.linked.now c.args.parts.now c.requires.stands c.requires.unwinding

pub arrive-requires-clause-below : goal.arrive-requires-clause-below
arrive-requires-clause-below c = unwinds_to c.args.linked.now c.args.parts.now c.requires.stands c.requires.unwinding

pub arrive-requires-clause-stack : goal.arrive-requires-clause-stack
arrive-requires-clause-stack c = let room = has_room c.args.linked.now c.args.parts.now c.requires.stands in omega (arith, room)

pub arrive-requires-clause-calls : goal.arrive-requires-clause-calls
arrive-requires-clause-calls c = calls_there c.args.linked.now c.requires.stands.1.sound.wired _

pub returns-then-above_mark : goal.returns-then-above_mark
returns-then-above_mark c =
    let deals = deals_move c.args.linked.now c.args.parts.now c.args.lines.now (c.above_mark.ensures.0 c.if-above_mark.true) in
    rw c.run_cleanup_entry.ensures
    (unwinding_moves c.args.linked.now c.args.parts.now _ c.args.lines.now c.args.lines.now c.requires.unwinding c.requires.announced deals)

pub returns-else-above_mark : goal.returns-else-above_mark
returns-else-above_mark c = unwinding_moves c.args.linked.now c.args.parts.now c.arrive.new.parts c.args.lines.now c.arrive.new.lines c.requires.unwinding
    c.requires.announced c.arrive.ensures
