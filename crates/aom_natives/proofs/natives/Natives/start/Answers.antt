use Rattle.std.proofs.Common.{◌≡◌, ◌<◌, ◌≤ℤ◌, ◌<ℤ◌, pos, ◌++◌, ◌∷◌, [], length, subst}
use Rattle.std.proofs.lemmas.Int.{to_z-of_z}
use Rattle.aom_natives.specs.Owed.{IsNew}
use Rattle.aom_natives.specs.Slots.{ids_of}
use Rattle.aom_natives.proofs.Slots.{answer-to, called, from-slot, living-agrees}
use mir.Syntax.{w32}
use mir.Val.{of_z, to_z}
use Rattle.aom_natives.proofs.natives.Natives.start.Goals as goal

pub start-requires-clause-agree : goal.start-requires-clause-agree
start-requires-clause-agree g c = living-agrees c.args.self.now.slots.items c.args.n _ _ c.requires.alive c.index_mut.ensures.value c.in-Some.is _ _ c.requires.agree

pub start-requires-clause-fresh : goal.start-requires-clause-fresh
start-requires-clause-fresh g c = from-slot c.args.self.now.slots.items c.args.n _ _ c.requires.alive c.index_mut.ensures.value c.in-Some.is
    (λ o. IsNew (ids_of (λ l. l.ids) o) c.args.id) c.requires.fresh

pub start-requires-clause-room : goal.start-requires-clause-room
start-requires-clause-room g c = from-slot c.args.self.now.slots.items c.args.n _ _ c.requires.alive c.index_mut.ensures.value c.in-Some.is
    (λ o. length (ids_of (λ l. l.ids) o) < 4096) c.requires.room

pub returns : goal.returns
returns g c =
    let same = to_z-of_z w32 c.start.result (record { sfits = c.start.type_inv }) in
    assumption (
      called c.args.self.now.slots.items c.args.n _ _ c.requires.alive c.index_mut.ensures.value c.in-Some.is _ _ c.requires.agree c.start.new.self
          c.start.ensures.agree (λ old new. (pos 0 ≤ℤ to_z w32 (of_z w32 c.start.result) → new ≡ old ++ c.args.id ∷ []) × (to_z w32 (of_z w32 c.start.result) <ℤ
          pos 0 → new ≡ old)) (λ t. c.start.ensures.taken (subst (λ z. pos 0 ≤ℤ z) same t), λ t. c.start.ensures.refused (subst (λ z. z <ℤ pos 0) same t)),
      answer-to c.args.self.now.slots.items c.args.n _ _ c.requires.alive c.index_mut.ensures.value c.in-Some.is
          (λ l. (goal.Native-dyn g (l.native.vtable, l.native.value)).start_may l.native.value c.args.id) _ _ c.start.result c.ranges.function c.ranges.word
          (record { sfits = c.start.type_inv }) c.start.ensures.answer,
    )
