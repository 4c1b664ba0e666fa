-- What goes first is told by its class.
use Rattle.std.proofs.Common.{◌∙◌}
use Rattle.aom_debug_stepping.proofs.MachineInstructionsLemmas.{class_fits}
use Rattle.aom_debug_stepping.proofs.NextPlaces.{destroyed_reported}
use Rattle.aom_debug_stepping.proofs.next.begins.Goals as goal

pub class-requires-clause-lives : goal.class-requires-clause-lives
class-requires-clause-lives c = c.first_to_go-first.ensures.lives

pub returns : goal.returns
returns c = λ s st q is. c.begins_by.ensures ∙ destroyed_reported _ _ s st q _ _ _ is c.requires.lives c.first_to_go-first.ensures.first c.class.ensures

pub class-requires-clause-small : goal.class-requires-clause-small
class-requires-clause-small c = class_fits c.args.linked.now c.args.parts.now c.requires.stands.0 c.requires.stands.1.agrees c.first_to_go-first.result
