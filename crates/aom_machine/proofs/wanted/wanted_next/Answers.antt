use Rattle.std.proofs.Common.{rules}
use Rattle.aom_machine.proofs.Unwanted.{unwanted}
use Rattle.aom_machine.proofs.wanted.wanted_next.Goals as goal

-- an image without natives asks nothing
pub returns-then-header-eq0 : goal.returns-then-header-eq0
returns-then-header-eq0 c = λ s st. unwanted c.args.linked.now (search rules) st.sound.formed s
