use Rattle.std.proofs.Common.{rules, FitsSigned, to_z, of_z, w32, ◌∙◌}
use Rattle.std.proofs.lemmas.Int.{to_z-of_z}
use Rattle.aom_cells.specs.Heap.{null}
use Rattle.aom_machine_instructions.proofs.Resulting.{set_goes_on}
use Rattle.aom_machine_instructions.proofs.TokenActs.{answer_done, answer_rest, answer_reported, reply_answerable}
use Rattle.aom_machine_instructions.proofs.messages.reply.Goals as goal

pub answer-requires-clause-open : goal.answer-requires-clause-open
answer-requires-clause-open c = rw (c.take_register-message.ensures.value, c.take_register-message.ensures.emptied)
    (reply_answerable c.requires.next.0 c.args.parts.now c.args.from c.args.code c.requires.next.1)

pub returns-clause-does : goal.returns-clause-does
returns-clause-does c =
    let fits : FitsSigned w32 c.word-code.result = search rules in
    λ refused.
    answer_done c.args.parts.now c.take_register-message.new.self c.answer.new.parts c.args.lines.now c.answer.new.lines c.take_register-message.result
    (to_z w32 (of_z w32 c.word-code.result)) c.args.from c.args.code
    c.take_register-message.ensures.emptied c.take_register-message.ensures.value (to_z-of_z w32 c.word-code.result fits
    ∙ c.word-code.ensures) refused c.next.new.self c.take_register-message.ensures.in_range c.next.ensures c.answer.ensures

pub returns-clause-reports : goal.returns-clause-reports
returns-clause-reports c =
    let fits : FitsSigned w32 c.word-code.result = search rules in
    answer_reported c.args.parts.now c.take_register-message.new.self c.answer.new.parts c.args.lines.now c.answer.new.lines c.take_register-message.result
    (to_z w32 (of_z w32 c.word-code.result)) c.args.from c.args.code
    c.take_register-message.ensures.emptied c.take_register-message.ensures.value (to_z-of_z w32 c.word-code.result fits ∙ c.word-code.ensures) c.answer.ensures

pub next-requires-clause-runs : goal.next-requires-clause-runs
next-requires-clause-runs c =
    let next = c.requires.next.1 in
    let on = set_goes_on c.args.from null c.args.parts.now.stack.tasks (record { runs = next.runs; within = next.within }) in
    let same = answer_rest c.take_register-message.result
    (to_z w32 (of_z w32 c.word-code.result)) c.take_register-message.new.self c.answer.new.parts c.args.lines.now c.answer.new.lines c.answer.ensures in
    rw (same, c.take_register-message.ensures.emptied) on.runs

pub next-requires-clause-within : goal.next-requires-clause-within
next-requires-clause-within c =
    let next = c.requires.next.1 in
    let on = set_goes_on c.args.from null c.args.parts.now.stack.tasks (record { runs = next.runs; within = next.within }) in
    let same = answer_rest c.take_register-message.result
    (to_z w32 (of_z w32 c.word-code.result)) c.take_register-message.new.self c.answer.new.parts c.args.lines.now c.answer.new.lines c.answer.ensures in
    rw (same, c.take_register-message.ensures.emptied) on.within
