-- Five words are a message; where there are fewer, or more, it is none.
use Rattle.std.proofs.Common.{◌∙◌, ap, sym}
use Rattle.aom_text.specs.Numbers.{number_of}
use Rattle.aom_script.specs.Script.{command_numbers}
use Rattle.aom_script.proofs.Messages.{just_five, none_there, none_behind, too_few, too_many}
use Rattle.aom_script.proofs.clients.read_message.Goals as goal

pub returns-in_default : goal.returns-in_default
returns-in_default c = too_many c.args.time.now c.args.client.now c.args.words _ _ _ _
    c.next.ensures.rest c.next-2.ensures.rest c.next-3.ensures.rest c.next-4.ensures.rest _ c.next-5.ensures.rest (sym c.is_empty.ensures ∙ c.if-is_empty.false)

pub returns-in_default-2 : goal.returns-in_default-2
returns-in_default-2 c = too_few c.args.time.now c.args.client.now c.args.words
    _ _ _ _ c.next.ensures.rest c.next-2.ensures.rest c.next-3.ensures.rest c.next-4.ensures.rest (none_there _ _ c.next-5.ensures.word c.in_default.is-4)

pub returns-in_default-3 : goal.returns-in_default-3
returns-in_default-3 c = too_few c.args.time.now c.args.client.now c.args.words _ _ _ _ c.next.ensures.rest c.next-2.ensures.rest
    c.next-3.ensures.rest c.next-4.ensures.rest (none_behind _ _ c.next-4.ensures.rest (none_there _ _ c.next-4.ensures.word c.in_default.is-3))

pub returns-in_default-4 : goal.returns-in_default-4
returns-in_default-4 c =
    too_few c.args.time.now c.args.client.now c.args.words _ _ _ _ c.next.ensures.rest c.next-2.ensures.rest c.next-3.ensures.rest c.next-4.ensures.rest
    (none_behind _ _ c.next-4.ensures.rest (none_behind _ _ c.next-3.ensures.rest (none_there _ _ c.next-3.ensures.word c.in_default.is-2)))

pub returns-in_default-5 : goal.returns-in_default-5
returns-in_default-5 c = too_few c.args.time.now c.args.client.now
    c.args.words _ _ _ _ c.next.ensures.rest c.next-2.ensures.rest c.next-3.ensures.rest c.next-4.ensures.rest (none_behind _ _ c.next-4.ensures.rest
    (none_behind _ _ c.next-3.ensures.rest (none_behind _ _ c.next-2.ensures.rest (none_there _ _ c.next-2.ensures.word c.in_default.is-1))))

pub returns-in_default-6 : goal.returns-in_default-6
returns-in_default-6 c = too_few c.args.time.now c.args.client.now c.args.words _ _ _ _ c.next.ensures.rest
    c.next-2.ensures.rest c.next-3.ensures.rest c.next-4.ensures.rest (none_behind _ _ c.next-4.ensures.rest (none_behind _ _ c.next-3.ensures.rest
    (none_behind _ _ c.next-2.ensures.rest (none_behind _ _ c.next.ensures.rest (none_there _ _ c.next.ensures.word c.in_default.is-0)))))

-- the words that are there are just five
pub returns-in-Some-Some-Some-Some-Some : goal.returns-in-Some-Some-Some-Some-Some
returns-in-Some-Some-Some-Some-Some c =
    let w = c.in-Some-Some-Some-Some-Some in
    c.with_numbers.ensures ∙ ap (λ m. command_numbers (number_of c.args.time.now) (number_of c.args.client.now) m) c.message_of-command.ensures
    ∙ just_five c.args.time.now c.args.client.now c.args.words _ _ _ _ c.next.ensures.rest c.next-2.ensures.rest c.next-3.ensures.rest c.next-4.ensures.rest
    w.function.now w.first.now w.second.now w.third.now w.fourth.now w.ensures.word w.ensures'.word w.ensures''.word w.ensures'''.word w.ensures''''.word _
    c.next-5.ensures.rest c.if-is_empty.ensures
