-- Where there is none nothing changes.
use Rattle.std.proofs.Common.{◌∙◌, List, ap, refl, sym}
use Rattle.aom_debug_protocol.specs.declared.breakpoints.Breakpoint.{Breakpoint}
use Rattle.aom_debug.proofs.DebugProtocolLemmas.{none_kept}
use Rattle.aom_debug.proofs.debugger.Debugger.clear_breakpoint.Goals as goal

pub returns-then-not-clear_breakpoint : goal.returns-then-not-clear_breakpoint
returns-then-not-clear_breakpoint g c =
    let none = sym c.if-not-clear_breakpoint.ensures.answer in
    (none, record { same = ap (λ (spots : List Breakpoint). record c.args.self.now { breakpoints = spots }) (c.clear_breakpoint.ensures.breakpoints ∙ none_kept c.args.spot c.args.self.now.breakpoints none); silent = refl })
