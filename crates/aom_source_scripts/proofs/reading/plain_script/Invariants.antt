-- The bytes read so far have come to this.
use Rattle.std.proofs.Common.{◌≡◌, take, fold}
use Rattle.aom_source_scripts.specs.Scripts.{after, start}
use Rattle.aom_source_scripts.proofs.reading.plain_script.Given as goal

abbrev pub invariant-loop-byte : goal.invariant-loop-byte
invariant-loop-byte l = l.reading ≡ fold (after l.names) start (take l.byte-index l.script)
