-- The lines come of what they came of.
use Rattle.std.proofs.Common.{◌≡◌, map}
use Rattle.aom_source_code.proofs.code.Code.shorten_jumps.Given as goal

abbrev pub invariant-loop-back : goal.invariant-loop-back
invariant-loop-back l = map (λ line. line.token) l.self.lines.items ≡ map (λ line. line.token) l.fn.self.lines.items
