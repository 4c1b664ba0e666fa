use Rattle.std.proofs.Common.{rules, subst, List, arith, ap, refl}
use Rattle.aom_source_syntax.specs.declared.stack.Waiting.{Waiting}
use Rattle.aom_source_syntax.specs.Reading.{Stands, Refuses}
use Rattle.aom_source_syntax.proofs.Standing.{stands_token, stands_part, stands_item, stands_as, refuses_part}
use Rattle.aom_source_syntax.proofs.Weights.{lead_of, waiting_lighter, item_lighter}
use Rattle.aom_source_syntax.proofs.reader.Reader.expected.Goals as goal

pub returns-in-Token-clause-stands : goal.returns-in-Token-clause-stands
returns-in-Token-clause-stands c =
    let P : List Waiting → Type 0 = λ x. Stands c.args.text.now c.loop-waiting.self.items.items x c.args.at in
    stands_token c.args.text.now c.loop-waiting.self.items.items c.in-Some.waiting c.pop.new.self c.args.at c.in-Token.class c.in-Token.is
    (subst P c.in-Some.ensures.next c.loop-waiting.invariant)

pub loop-waiting-preserved : goal.loop-waiting-preserved
loop-waiting-preserved c =
    let P : List Waiting → Type 0 = λ x. Stands c.args.text.now c.loop-waiting.self.items.items x c.args.at in
    let chosen = c.in_ok-choose-in-Part.ensures.chosen in
    stands_as c.args.text.now _ c.choose.new.self.items.items _ c.choose.new.self.stack c.args.at c.choose.ensures.items chosen.2
    (stands_part c.args.text.now c.loop-waiting.self.items.items c.in-Some.waiting c.pop.new.self c.args.at c.in-Part.part chosen.0 c.in-Part.is chosen.1
    (subst P c.in-Some.ensures.next c.loop-waiting.invariant))

pub loop-waiting-preserved-in-Continue-1 : goal.loop-waiting-preserved-in-Continue-1
loop-waiting-preserved-in-Continue-1 c =
    let P : List Waiting → Type 0 = λ x. Stands c.args.text.now c.loop-waiting.self.items.items x c.args.at in
    stands_as c.args.text.now _ c.leave.new.self.items.items _ c.leave.new.self.stack c.args.at c.in_ok-leave-in-Action.ensures.items c.leave.ensures.stack
    (stands_item c.args.text.now c.loop-waiting.self.items.items c.in-Some.waiting c.pop.new.self c.args.at c.in-Action.action c.in-Action.is
    (subst P c.in-Some.ensures.next c.loop-waiting.invariant))

pub returns-in_err-choose-in-Part-clause-refused : goal.returns-in_err-choose-in-Part-clause-refused
returns-in_err-choose-in-Part-clause-refused c =
    let P : List Waiting → Type 0 = λ x. Stands c.args.text.now c.loop-waiting.self.items.items x c.args.at in
    let fact : Refuses c.args.text.now c.in_err-choose-in-Part.field-0.0
    = refuses_part c.args.text.now c.loop-waiting.self.items.items c.in-Some.waiting c.pop.new.self c.args.at c.in-Part.part _ c.in-Part.is
    (subst P c.in-Some.ensures.next c.loop-waiting.invariant) c.in_err-choose-in-Part.ensures.refused in
    search rules

pub loop-waiting-smaller : goal.loop-waiting-smaller
loop-waiting-smaller c =
    let chosen = c.in_ok-choose-in-Part.ensures.chosen in
    let less = waiting_lighter c.in-Some.waiting c.in-Part.part chosen.0 c.args.at c.pop.new.self _ _ c.in-Part.is chosen.1 in
    omega (arith, less, ap lead_of chosen.2, ap lead_of c.in-Some.ensures.next)

pub loop-waiting-smaller-in-Continue-1 : goal.loop-waiting-smaller-in-Continue-1
loop-waiting-smaller-in-Continue-1 c =
    omega (arith, item_lighter c.in-Some.waiting c.pop.new.self _ c.in-Action.is refl (omega arith), ap lead_of c.leave.ensures.stack, ap lead_of c.in-Some.ensures.next)
