-- How the bodies of loops lie in a linked image: what jumps, nexts and nesting give.
use Rattle.std.proofs.Common.{◌≡◌, ◌≢◌, ◌<◌, ◌≤◌, ◌∙◌, ℕ, suc, length, Some, IfSome, slice_get, ⊎_elim, ap, sym, subst, arith}
use Rattle.std.proofs.lemmas.Bool.{cases_lt}
use Rattle.std.proofs.lemmas.Option.{slice_get_within}
use Rattle.aom_image.specs.Image.{Image}
use Rattle.aom_image.specs.Views.{instr_at, instr_in, method_at, transfer_at, transfer_in}
use Rattle.aom_instructions.specs.Fits.{InstrFits, limits}
use Rattle.aom_image.specs.WellFormed.{MethodFits, WellFormed}
use Rattle.aom_instructions.specs.declared.instr.Instr.{Instr}
use Rattle.aom_instructions.specs.declared.transfer.Transfer.{Transfer}
use Rattle.aom_instructions.specs.declared.transfer.Transfer.TheVariants.{Begin, Repeat}
use Rattle.aom_image.specs.declared.method.Method.{Method}
use Rattle.aom_link_conditions.specs.Jumps.{Body as Body_in, JumpIsValid, StaysOut, jump_of}
use Rattle.aom_link_conditions.specs.Linked.{IsLinked}
use Rattle.aom_link_conditions.specs.Loops.{Closes, LoopsNest, begun_by, loop_at, loop_in, next_in, repeated_by}
use Rattle.aom_link_conditions.proofs.Facts.{all_there, at_place, of_method}
use Rattle.aom_link_conditions.proofs.Nested.{back_of_closed, closed_by, deeper}
use Rattle.aom_link_conditions.specs.Bodies.{Body, IsIn, IsLooped}
use Rattle.aom_link_conditions.proofs.ImageLemmas.{transfer_there}
use Rattle.aom_link_conditions.proofs.InstructionsLemmas.{some_rounds}
use Rattle.aom_link_conditions.proofs.LoopPlaces.{back_there, begins_there, loop_there, next_there}

-- the bodies of a method that is there
module _ (p : Image) (formed : WellFormed p) (linked : IsLinked p) (m : ℕ) (k : Method) (here : method_at p m ≡ Some k) where
  nest : LoopsNest k.code
  unfolding method_at
  nest = at_place (λ _ x. LoopsNest x.code) p.methods m k linked.loops here

  well : JumpIsValid k.code
  unfolding method_at
  well = at_place (λ _ x. JumpIsValid x.code) p.methods m k linked.jumps here

  in_code : (place : ℕ) (t : Transfer) → transfer_at p m place ≡ Some t → transfer_in (slice_get k.code place) ≡ Some t
  unfolding instr_in
  in_code place t at = sym (ap (λ o. transfer_in (instr_in o place)) here) ∙ at

  at_code : (place : ℕ) (t : Transfer) → transfer_in (slice_get k.code place) ≡ Some t → transfer_at p m place ≡ Some t
  unfolding instr_in
  at_code place t at = ap (λ o. transfer_in (instr_in o place)) here ∙ at

  closing : (from to d n : ℕ) → Body p m from to d n → Closes k.code d from to
  unfolding loop_in next_in
  closing from to d n body = record {
    begins = ap begun_by (in_code from (Begin d n) body.begins);
    later = body.later;
    ends = ap repeated_by (in_code to (Repeat d (suc from)) body.ends);
  }

  body_of : (from to d n : ℕ) → transfer_in (slice_get k.code from) ≡ Some (Begin d n) → Closes k.code d from to → Body p m from to d n
  body_of from to d n begins c = record {
    begins = at_code from (Begin d n) begins;
    later = c.later;
    ends = at_code to (Repeat d (suc from)) (next_there (slice_get k.code to) d (suc from) c.ends);
  }

  jump_stays : (place t : ℕ) (i : Instr) → slice_get k.code place ≡ Some i → jump_of i ≡ Some t → (from to d n : ℕ) → Body p m from to d n →
      IsIn from to t → IsIn from to place
  jump_stays place t i at jump from to d n body inside =
      let ends = transfer_there (slice_get k.code to) (Repeat d (suc from)) (in_code to (Repeat d (suc from)) body.ends) in
      let around : Body_in k.code from to = record {
        begins = begins_there (slice_get k.code from) d n (in_code from (Begin d n) body.begins);
        later = body.later;
        back = back_there (slice_get k.code to) d (suc from) (in_code to (Repeat d (suc from)) body.ends);
      } in
      let closed = well.bodies to (slice_get_within k.code to ends.0 ends.1) from around place in
      let stays = subst (λ o. IfSome o (StaysOut from to place)) at closed in
      subst (λ o. IfSome o (λ u. from < u → u ≤ to → (from < place) × (place ≤ to))) jump stays inside.0 inside.1

  closer : (place d t : ℕ) → transfer_in (slice_get k.code place) ≡ Some (Repeat d t) → (from : ℕ) × Closes k.code d from place × (t ≡ suc from)
  unfolding next_in
  closer place d t at =
      let ends = ap repeated_by at in
      let c = closed_by k.code place (record { number = d; back = t }) nest ends in
      (c.place, c.closes, back_of_closed k.code d place t ends c)

  next_stays : (place e t : ℕ) → transfer_in (slice_get k.code place) ≡ Some (Repeat e t) → (from to d n : ℕ) → Body p m from to d n → IsIn from to t → IsIn from to place
  next_stays place e t at from to d n body inside =
      let c = closer place e t at in
      let outer = closing from to d n body in
      let later = c.1.later in
      ⊎_elim (λ (lt : from < c.0). ⊎_elim (λ (apart : to < c.0). absurd (omega (arith, apart, c.2, inside.1)))
      (λ (within : place < to). (omega (arith, lt, later), omega (arith, within))) (nest.nested d e from to c.0 place outer c.1 lt)) (λ (ge : c.0 ≤ from).
      let same : c.0 ≡ from = omega (arith, ge, c.2, inside.0) in
      let number : e ≡ d = (let two : Some e ≡ Some d = sym c.1.begins ∙ (ap (loop_at k.code) same ∙ outer.begins) in cc) in
      let one = nest.closed from d outer.begins in
      let x = one.only to outer in
      let y = one.only place (subst (λ f. Closes k.code d f place) same (subst (λ u. Closes k.code u c.0 place) number c.1)) in
      (omega (arith, later, same), omega (arith, x, y))) (cases_lt from c.0)

  rounds : (place d n : ℕ) → transfer_in (slice_get k.code place) ≡ Some (Begin d n) → 0 < n
  unfolding method_at
  rounds place d n at =
      let fits = all_there (MethodFits p.header.version (length p.classes) (length p.methods)) p.methods m k formed.methods.each here in
      let limit = limits p.header.version (length p.classes) (length p.methods) (length k.code) in
      let w = transfer_there (slice_get k.code place) (Begin d n) at in
      some_rounds limit w.0 d n (all_there (InstrFits limit) k.code place w.0 fits.code w.1) w.2

  begun : (place d n : ℕ) → transfer_in (slice_get k.code place) ≡ Some (Begin d n) → (0 < n) × (to : ℕ) × Body p m place to d n
  unfolding loop_in
  begun place d n at =
      let one = nest.closed place d (ap begun_by at) in
      (rounds place d n at, one.place, body_of place one.place d n at one.closes)

  closed : (place d t : ℕ) → transfer_in (slice_get k.code place) ≡ Some (Repeat d t) → (from : ℕ) × (n : ℕ) × Body p m from place d n × (t ≡ suc from)
  closed place d t at =
      let c = closer place d t at in
      let l = loop_there (slice_get k.code c.0) d c.1.begins in
      (c.0, l.0, body_of c.0 place d l.0 l.1 c.1, c.2)

  one_end : (from to to' d n : ℕ) → Body p m from to d n → Body p m from to' d n → to ≡ to'
  one_end from to to' d n body other =
      let a = closing from to d n body in
      let b = closing from to' d n other in
      let one = nest.closed from d a.begins in
      one.only to a ∙ sym (one.only to' b)

  two_numbers : (from to d n from' to' d' n' place : ℕ) → Body p m from to d n → Body p m from' to' d' n' → from ≢ from' → IsIn from to place →
      IsIn from' to' place → d ≢ d'
  two_numbers from to d n from' to' d' n' place body other differs inside also same =
      let a = closing from to d n body in
      let b = closing from' to' d' n' other in
      ⊎_elim (λ (lt : from < from'). let w = deeper k.code d d' from to from' to' nest a b lt (omega (arith, inside.1, also.0)) in omega (arith, w, same))
      (λ (ge : from' ≤ from). ⊎_elim
      (λ (lt : from' < from). let w = deeper k.code d' d from' to' from to nest b a lt (omega (arith, also.1, inside.0)) in omega (arith, w, same))
      (λ (le : from ≤ from'). differs (omega (arith, ge, le))) (cases_lt from' from)) (cases_lt from from')

-- the method in which a transfer stands
in_method : (p : Image) (m place : ℕ) (t : Transfer) → transfer_at p m place ≡ Some t → (k : Method) × (method_at p m ≡ Some k) × (transfer_in (slice_get k.code place) ≡ Some t)
in_method p m place t at =
    let w = transfer_there (instr_at p m place) t at in
    let k = of_method p m place w.0 w.1 in
    (k.0, k.1, ap transfer_in k.2 ∙ ap (λ (u : Transfer). Some u) w.2)

pub linked_is_looped : (p : Image) → WellFormed p → IsLinked p → IsLooped p
linked_is_looped p formed linked = record {
  jumps = λ m place t i at jump from to d n body inside.
      let w = of_method p m place i at in
      jump_stays p formed linked m w.0 w.1 place t i w.2 jump from to d n body inside;
  next_places = λ m place e t at. let w = in_method p m place (Repeat e t) at in next_stays p formed linked m w.0 w.1 place e t w.2;
  begins = λ m place d n at. let w = in_method p m place (Begin d n) at in begun p formed linked m w.0 w.1 place d n w.2;
  closes = λ m place d t at. let w = in_method p m place (Repeat d t) at in closed p formed linked m w.0 w.1 place d t w.2;
  once = λ m from to to' d n body. let w = in_method p m from (Begin d n) body.begins in one_end p formed linked m w.0 w.1 from to to' d n body;
  apart = λ m from to d n from' to' d' n' place body other differs inside also.
      let w = in_method p m from (Begin d n) body.begins in
      two_numbers p formed linked m w.0 w.1 from to d n from' to' d' n' place body other differs inside also;
}
