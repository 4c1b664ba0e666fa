-- One without rounds has no line.
use Rattle.std.proofs.Common.{◌≡◌, ◌≢◌, ℕ, zero, suc, Some, ap, refl, sym}
use Rattle.aom_debug_protocol.specs.declared.answer.Answer.TheVariants.{Loop}
use Rattle.aom_debug_views.specs.Frames.{loop_answer}
use Rattle.aom_debug_views.proofs.frames.loop_answer.Goals as goal

some_of : (i rounds : ℕ) → rounds ≢ 0 → Some (Loop i rounds) ≡ loop_answer i rounds
some_of i zero some = absurd (some refl)
some_of i (suc rounds) some = refl

pub returns-then-rounds-eq0 : goal.returns-then-rounds-eq0
returns-then-rounds-eq0 c = ap (loop_answer c.args.number) (sym c.if-rounds-eq0.true)

pub returns : goal.returns
returns c = some_of c.args.number c.args.rounds c.if-rounds-eq0.false
