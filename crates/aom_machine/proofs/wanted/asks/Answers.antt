use Rattle.std.proofs.Common.{◌≡◌, false, rules}
use Rattle.aom_machine.proofs.Unwanted.{unwanted}
use Rattle.aom_machine.proofs.wanted.asks.Goals as goal

pub returns-then-not-has_natives-clause-quiet : goal.returns-then-not-has_natives-clause-quiet
returns-then-not-has_natives-clause-quiet c = λ off s st.
    let none : c.args.has_natives ≡ false = search rules in
    unwanted c.args.linked.now (c.requires.named none) st.sound.formed s
