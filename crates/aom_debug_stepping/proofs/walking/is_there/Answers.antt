use Rattle.aom_debug_stepping.proofs.walking.is_there.Goals as goal

pub returns-in-Breakpoint : goal.returns-in-Breakpoint
returns-in-Breakpoint g c = rw c.in-Breakpoint.is c.is_broken.ensures

pub returns-in-EndOfDispatch : goal.returns-in-EndOfDispatch
returns-in-EndOfDispatch g c = rw c.in-EndOfDispatch.is (λ t strongest s st. c.ends_all.ensures s st)
