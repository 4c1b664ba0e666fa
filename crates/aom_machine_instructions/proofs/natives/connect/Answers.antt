use Rattle.std.proofs.Common.{rules, FitsSigned, subst, sym, ◌<◌}
use Rattle.std.specs.Int.{w32}
use Rattle.std.proofs.lemmas.Int.{to_z-of_z}
use Rattle.aom_machine_instructions.proofs.NativeActs.{connect_does, connect_lives, connect_served, same_places}
use Rattle.aom_machine_instructions.proofs.natives.connect.Goals as goal

pub living-id-requires : goal.living-id-requires
living-id-requires c = rw c.this.ensures (connect_lives c.args.linked.now c.args.parts.now c.args.to c.requires)

pub native-native-requires-clause-native : goal.native-native-requires-clause-native
native-native-requires-clause-native c = connect_served c.args.linked.now c.args.parts.now c.args.to c.requires

pub set_session-requires : goal.set_session-requires
set_session-requires c = subst (λ n. c.living-id.result < n) (sym (same_places c.args.linked.now c.args.parts.now c.requires.stands)) c.living-id.ensures.below

pub returns : goal.returns
returns c = λ refused.
    let fits : FitsSigned w32 c.connected-answer.result = search rules in
    let set = rw (c.opens-is_open.ensures, c.is_dead-is_dead.ensures, c.living-id.ensures.value, c.this.ensures) at c.set_session.ensures.set in
    let writes = rw (
      to_z-of_z w32 c.connected-answer.result fits,
      c.connected-answer.ensures,
      c.is_dead-is_dead.ensures,
      c.living-id.ensures.value,
      c.this.ensures,
      c.set_session.ensures.rest,
    ) at c.write_word.ensures in
    connect_does c.args.linked.now c.args.parts.now c.write_word.new.self refused c.native-native.result c.native-native.ensures c.args.to
    c.set_session.new.parts.sessions set writes
