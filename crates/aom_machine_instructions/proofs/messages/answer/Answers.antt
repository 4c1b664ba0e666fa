use Rattle.std.proofs.Common.{inr}
use Rattle.std.specs.Int.{w32}
use Rattle.std.proofs.lemmas.Int.{to_z-of_z}
use Rattle.aom_machine_instructions.proofs.TokenActs.{is_no_token, place_reported}
use Rattle.aom_machine_instructions.proofs.messages.answer.Goals as goal

pub returns-else-is_some : goal.returns-else-is_some
returns-else-is_some c =
    let completes = rw (to_z-of_z w32 c.args.code c.ranges.code) at c.complete.ensures in
    inr (record {
      completes = completes;
      sent = is_no_token c.args.parts.now.tokens c.numbered-id.result completes.place c.class.result c.is_some.result c.class.ensures
          c.is_some.ensures c.if-is_some.false (place_reported completes.place c.numbered-id.result c.args.number completes.number c.numbered-id.ensures);
    })
