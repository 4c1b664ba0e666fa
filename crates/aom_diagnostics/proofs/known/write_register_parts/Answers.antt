-- Each register's part is out behind those before it.
use Rattle.aom_abstract_state.specs.Kinds.{register}
use Rattle.aom_diagnostics.specs.Known.{register_part}
use Rattle.aom_diagnostics.proofs.Parts.{one_part_more}
use Rattle.aom_diagnostics.proofs.known.write_register_parts.Goals as goal

pub loop-number-preserved : goal.loop-number-preserved
loop-number-preserved c = one_part_more (λ i. register_part c.args.names.now i (register c.args.shape.now i)) c.loop-number.number
    c.args.out.now c.loop-number.out c.write_register.new.out c.loop-number.invariant (rw c.kind_at-kind.ensures at c.in_ok-write_register.ensures)
