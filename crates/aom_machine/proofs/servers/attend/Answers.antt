use Rattle.std.proofs.Common.{refl, sym, ◌∙◌}
use Rattle.aom_machine.proofs.servers.attend.Goals as goal

pub returns : goal.returns
returns c =
    let class = rw c.from-number.ensures at c.class-class.ensures in
    let read = rw c.new-message.ensures at c.load_message_words.ensures.read in
    let reported = rw (c.new-message.ensures, c.begin-frame.ensures, c.from-number.ensures) at c.load_message_words.ensures.reported in (
      c.in-Some.session,
      c.class-class.result,
      c.in-Some-role.method,
      sym c.session.ensures ∙ c.in-Some.is,
      class,
      sym c.role.ensures ∙ c.in-Some-role.is,
      read,
      rw (c.run_under.ensures, c.new.ensures, c.number-parts.ensures.value, c.new-message.ensures, c.from-number.ensures, reported) refl,
    )
