-- The line that is written has the token of the one that stood there.
use Rattle.std.proofs.Common.{ap}
use Rattle.std.proofs.Math.Seq.{map-set_same}
use Rattle.aom_source_code.proofs.code.Code.shorten_jump.Goals as goal

pub returns-then-eq : goal.returns-then-eq
returns-then-eq c = record { map = map-set_same (λ l. l.token) c.args.self.now.lines.items c.args.at _ _ (ap (λ l. l.token) c.index-own.ensures) }
