-- The blocks with one token more before them.
use Rattle.std.proofs.Common.{rules}
use Rattle.aom_source_tokens.specs.Tokens.{word_of}
use Rattle.aom_source_scopes.proofs.Tables.{added}
use Rattle.aom_source_scopes.proofs.blocks.Blocks.add.Goals as goal

-- src/blocks.rt:48:5
pub returns : goal.returns
returns c = λ t ts is so. added c.args.self.now (record { closers = c.turn.new.braces; own = c.push-2.new.self; next = c.push.new.self }) (word_of c.args.kind) t ts is so (search rules) (search rules) (search rules)
