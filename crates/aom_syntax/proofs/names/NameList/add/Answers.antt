-- The table stays one of first places, whether the name stood there before or not.
use Rattle.std.proofs.Common.{rules}
use Rattle.aom_syntax.proofs.Places.{found_again, found_fresh}
use Rattle.aom_syntax.proofs.names.NameList.add.Goals as goal
use Rattle.aom_syntax.proofs.names.NameList.add.Goals.{then-not-contains_key+in_ok-insert, else-not-contains_key}

pub invariant_of-self-2 : goal.invariant_of-self-2
invariant_of-self-2 c = elim c.if-not-contains_key.branch [
  | then-not-contains_key+in_ok-insert w ↦ search (rules, found_fresh _ c.args.name c.self.inside.places w.insert.new.self c.self.invariant)
  | else-not-contains_key w ↦ search (rules, found_again c.self.inside.names.items c.args.name c.self.inside.places c.self.invariant)
]
