use Rattle.std.proofs.Common.{rules, FitsSigned}
use Rattle.std.specs.Int.{w32}
use Rattle.std.proofs.lemmas.Int.{to_z-of_z}
use Rattle.aom_machine_instructions.proofs.NativeActs.{ask_does, ask_lives, ask_served}
use Rattle.aom_machine_instructions.proofs.natives.ask_native.Goals as goal

pub cell-id-requires-clause-lives : goal.cell-id-requires-clause-lives
cell-id-requires-clause-lives c = ask_lives c.args.linked.now c.args.parts.now c.args.to c.requires.0 c.requires.1 c.requires.2

pub native-native-requires-clause-native : goal.native-native-requires-clause-native
native-native-requires-clause-native c = ask_served c.args.linked.now c.args.parts.now c.args.to c.requires.0 c.requires.1 c.requires.2

pub returns : goal.returns
returns c = λ refused function word.
    let fits : FitsSigned w32 c.replied-reply.result = search rules in
    let writes = rw (to_z-of_z w32 c.replied-reply.result fits, c.replied-reply.ensures, c.is_dead-is_dead.ensures, c.cell-id.ensures) at c.write_word.ensures in
    ask_does c.args.linked.now c.args.parts.now c.write_word.new.self refused c.native-native.result c.native-native.ensures c.args.to function word writes
