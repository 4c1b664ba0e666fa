use Rattle.std.proofs.Common.{◌≡◌, ◌<◌, ℕ, List, Some, IsSome, length, slice_get, slice_index_or, refl, arith, ◌∙◌}
use Rattle.aom_image.specs.Image.{Image}
use Rattle.aom_image.specs.Views.{instr_at, method_at}
use Rattle.aom_image.specs.declared.method.Method.{Method}
use Rattle.aom_instructions.specs.declared.instr.Instr.{Instr}
use Rattle.aom_rule_functions.proofs.LinkConditionsLemmas.{has_method, in_method, read, within}
use Rattle.aom_rule_functions.proofs.Callees.{callee_there, code_register_there}
use Rattle.aom_rule_functions.proofs.rules.instr_at.Goals as goal

pub method-requires : goal.method-requires
method-requires c = has_method c.args.linked.now c.args.method c.args.place c.requires

-- in the code of the method there is an instruction at that place, which is the one that the image has
module _ (p : Image) (m k : ℕ) (d : Method) (found : method_at p m ≡ Some d) (there : IsSome (instr_at p m k)) (code : List Instr) (same : code ≡ d.code) where
  here : IsSome (slice_get d.code k)
  here = rw (← in_method p m k d found) there

  below : k < length code
  below = within _ _ k k same refl here

  is_read : (x : Instr) → x ≡ slice_index_or code k x → instr_at p m k ≡ Some x
  is_read x e = in_method p m k d found ∙ read _ _ k k x same refl here e

pub bounds-as_slice-place : goal.bounds-as_slice-place
bounds-as_slice-place c = below c.args.linked.now c.args.method c.args.place c.method.result.now c.method.ensures c.requires _ c.as_slice.ensures

pub offset_bounds-as_slice-place : goal.offset_bounds-as_slice-place
offset_bounds-as_slice-place c =
    omega (arith, below c.args.linked.now c.args.method c.args.place c.method.result.now c.method.ensures c.requires _ c.as_slice.ensures)

pub returns-clause-value : goal.returns-clause-value
returns-clause-value c =
    is_read c.args.linked.now c.args.method c.args.place c.method.result.now c.method.ensures c.requires _ c.as_slice.ensures _ c.index-as_slice-place.is

pub returns-clause-place : goal.returns-clause-place
returns-clause-place c = omega (arith, below c.args.linked.now c.args.method c.args.place c.method.result.now c.method.ensures c.requires _ c.as_slice.ensures)

pub returns-clause-callee : goal.returns-clause-callee
returns-clause-callee c = let read =
    is_read c.args.linked.now c.args.method c.args.place c.method.result.now c.method.ensures c.requires _ c.as_slice.ensures _ c.index-as_slice-place.is in
    callee_there c.args.linked.now c.args.method c.args.place _ (rw c.image.ensures at c.methods-formed.ensures.well_formed) read

pub returns-clause-code : goal.returns-clause-code
returns-clause-code c = let read =
    is_read c.args.linked.now c.args.method c.args.place c.method.result.now c.method.ensures c.requires _ c.as_slice.ensures _ c.index-as_slice-place.is in
    code_register_there c.args.linked.now c.args.method c.args.place _ (rw c.image.ensures at c.methods-formed.ensures.well_formed) read
