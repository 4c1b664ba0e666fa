-- The names so far have their numbers.
use Rattle.std.proofs.Common.{◌≡◌, map, take, vec_len}
use Rattle.aom_source_commands.specs.Scripts.{numbers_of}
use Rattle.aom_source_commands.proofs.scripts.script_names.Given as goal

abbrev pub invariant-loop-name : goal.invariant-loop-name
invariant-loop-name l = record {
  names : map (λ n. n.name.now) l.named.items ≡ take l.name-index (map (λ n. n.now) l.names);
  numbers : map (λ n. n.number) l.named.items ≡ numbers_of l.name-index l.classes;
  count : vec_len l.named ≡ l.name-index;
}
