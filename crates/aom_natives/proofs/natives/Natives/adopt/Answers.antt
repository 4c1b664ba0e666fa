use Rattle.std.proofs.Common.{◌≡◌, ◌∙◌, ◌+◌, [], ◌∷◌, ◌++◌, Some, ap, sym, subst, vec_len, arith, rules}
use Rattle.std.specs.Prelude.{replicate}
use Rattle.aom_natives.specs.Owed.{OweNothing}
use Rattle.aom_natives.proofs.Adopting.{agree-more, front, last-is, moved-more, nothing-more, others-are}
use Rattle.aom_natives.proofs.natives.Natives.adopt.Goals as goal

pub loop-ids-preserved : goal.loop-ids-preserved
loop-ids-preserved g c =
    let now = c.loop-ids in
    let pushed : c.push.new.self.items ≡ now.slots.items ++ Some (record { native = c.remove-native.result; ids = c.in-Some.ids }) ∷ [] =
    rw c.unwrap.ensures at c.push.ensures.items in
    let popped = c.in-Some.ensures.items in
    let first : now.boxes.items ≡ c.remove-native.result ∷ c.remove-native.new.self.items = rw c.remove-native.ensures.items
    (front now.boxes.items c.remove-native.result (omega (arith, c.remove-native.ensures.len)) c.remove-native.ensures.value) in
    let rooms : c.pop.new.self.items ++ c.in-Some.ids ∷ [] ≡ replicate (vec_len c.remove-native.new.self + 1) [] =
    sym popped ∙ now.invariant.rooms ∙ ap (λ n. replicate n []) (sym c.remove-native.ensures.len) in
    let left = vec_len c.remove-native.new.self in
    let fresh : c.in-Some.ids ≡ [] = last-is [] c.in-Some.ids left c.pop.new.self.items rooms in
    let owe = subst (OweNothing (λ b. (goal.Native-dyn g (b.vtable, b.value)).owed b.value)) first now.invariant.owe in
    record {
      moved = rw pushed (moved-more now.slots.items _ (λ x. x.native) _ _ _ first now.invariant.moved);
      room = omega (arith, c.push.ensures.len, c.push.ensures.capacity, c.remove-native.ensures.len, now.invariant.room);
      rooms = others-are [] c.in-Some.ids left c.pop.new.self.items rooms;
      nothing = rw pushed (nothing-more now.slots.items _ (λ x. x.ids) fresh now.invariant.nothing);
      agree = rw pushed (agree-more now.slots.items _ (λ x. x.ids) (λ x. (goal.Native-dyn g (x.native.vtable, x.native.value)).owed x.native.value) fresh
          owe.0 now.invariant.agree);
      owe = owe.1;
    }

pub returns-in-Err-clause-back : goal.returns-in-Err-clause-back
returns-in-Err-clause-back g c = search rules

pub returns-clause-nothing : goal.returns-clause-nothing
returns-clause-nothing g c = c.loop-ids.invariant.nothing

pub returns-clause-agree : goal.returns-clause-agree
returns-clause-agree g c = c.loop-ids.invariant.agree
