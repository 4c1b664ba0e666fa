-- Where it cannot be set nothing changes.
use Rattle.std.proofs.Common.{◌∙◌, List, ap, refl, sym}
use Rattle.aom_debug_protocol.specs.declared.breakpoints.Breakpoint.{Breakpoint}
use Rattle.aom_debug.proofs.Declining.{set_not}
use Rattle.aom_debug.proofs.debugger.Debugger.set.Goals as goal

pub returns-then-not-set : goal.returns-then-not-set
returns-then-not-set g c =
    let full = sym c.if-not-set.ensures.answer in
    (full, record { same = ap (λ (spots : List Breakpoint). record c.args.self.now { breakpoints = spots }) (c.set.ensures.breakpoints ∙ set_not (record { spot = c.args.spot; condition = c.args.condition }) c.args.self.now.breakpoints full); silent = refl })
