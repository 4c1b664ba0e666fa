-- The root's number is null where it owns nothing, and else that of a living cell.
use Rattle.std.proofs.Common.{ap, sym}
use Rattle.aom_debug_stepping.proofs.MachineInstructionsLemmas.{root_lives}
use Rattle.aom_semantics.specs.Places.{Elsewhere, Root}
use Rattle.aom_debug_stepping.specs.Next.{destruction_of}
use Rattle.aom_debug_stepping.proofs.NextPlaces.{root_owns_nothing, root_shows}
use Rattle.aom_debug_stepping.proofs.next.begins_root.Goals as goal

pub returns-then-parts : goal.returns-then-parts
returns-then-parts c = λ s st. sym (ap (destruction_of c.args.linked.now s.cells) (root_owns_nothing c.args.linked.now c.args.parts.now s st c.if-parts.true))

pub begins-requires-clause-lives : goal.begins-requires-clause-lives
begins-requires-clause-lives c = root_lives c.args.linked.now c.args.parts.now c.requires.stands c.if-parts.false

pub returns : goal.returns
returns c = λ s st. c.begins.ensures s st (Elsewhere Root) (root_shows c.args.linked.now c.args.parts.now s st)
