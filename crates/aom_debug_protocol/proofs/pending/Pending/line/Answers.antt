-- What is kept of a line that is not long is the line; one that is long is none.
use Rattle.aom_debug_protocol.proofs.Keeping.{fits_line, too_long}
use Rattle.std.proofs.Common.{◌∙◌, ap}
use Rattle.std.specs.Prelude.{Some}
use Rattle.aom_debug_protocol.proofs.pending.Pending.line.Goals as goal

pub returns-then-self : goal.returns-then-self
returns-then-self c = λ line is. too_long line _ (c.self.view_is ∙ is) c.if-self.true

pub returns : goal.returns
returns c = λ line is. ap Some c.as_slice.ensures.value ∙ fits_line line _ (c.self.view_is ∙ is) c.if-self.false
