-- The names passed over are not the word.
use Rattle.std.proofs.Common.{◌≡◌, drop}
use Rattle.aom_source_scripts.specs.Scripts.{number_of}
use Rattle.aom_source_scripts.proofs.naming.number_of.Given as goal

abbrev pub invariant-loop-named : goal.invariant-loop-named
invariant-loop-named l = number_of l.names l.word ≡ number_of (drop l.named-index l.names) l.word
