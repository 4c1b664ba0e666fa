-- The blocks so far are those of so many last tokens.
use Rattle.std.proofs.Common.{◌-◌, drop, length}
use Rattle.aom_source_scopes.specs.Tables.{AreOf}
use Rattle.aom_source_scopes.proofs.blocks.Blocks.of.Given as goal

abbrev pub invariant-loop-back : goal.invariant-loop-back
invariant-loop-back l = record { so_far : AreOf (drop (length l.tokens.tokens - l.back) l.tokens.tokens) l.blocks }
