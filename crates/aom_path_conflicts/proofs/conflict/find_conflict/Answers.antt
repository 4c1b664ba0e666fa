-- One place more leads there in no other state.
use Rattle.std.proofs.Common.{◌≡◌, ◌<◌, ◌+◌, ℕ, List, arith, inl, inr, subst, sym}
use Rattle.std.proofs.lemmas.Bool.Decides.{leb_tells}
use Rattle.aom_path_conflicts.specs.Conflicts.{AgreesFrom}
use Rattle.aom_path_conflicts.proofs.conflict.find_conflict.Goals as goal

pub loop-from-preserved : goal.loop-from-preserved
loop-from-preserved c from below = elim (leb_tells c.loop-from.from from) [
  | inr early ↦ c.loop-from.invariant from early.1
  | inl late ↦
      let same : c.loop-from.from ≡ from = omega (arith, late.1, below) in
      subst (λ (k : ℕ). AgreesFrom c.args.linked.now c.args.method c.args.states.now k c.args.place c.known-known.result.registers) same c.in-None.ensures.none
]
