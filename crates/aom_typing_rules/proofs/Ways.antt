-- Where the ways on from an instruction lead, and what its needs say of them.
use Rattle.std.proofs.Common.{arith, ◌≡◌, ℕ, Bool, true, Option, Some}
use Rattle.aom_image.specs.Image.{Image}
use Rattle.aom_instructions.specs.declared.instr.Instr.{Instr}
use Rattle.aom_roles.specs.Tests.{AllTrue}
use Rattle.aom_link_conditions.specs.Jumps.{back_of, goes_on, jump_of}
use Rattle.aom_typing_rules.specs.Cleanup.{owns_object}
use Rattle.aom_abstract_state.specs.Kinds.{is_object_or_null, register}
use Rattle.aom_typing_rules.specs.Rules.{rule_needs, ways_of}
use Rattle.aom_abstract_state.specs.AbstractState.{AbstractState}
use Rattle.aom_typing_rules.specs.Ways.{Branches, Branches_in, Branches_on_empty, Branches_on_null, Ends, Goes_back, Goes_on, Goes_to, Pushed, Ways}

abbrev pub turning : Bool → Option ℕ → Bool × Option ℕ
turning on to = (on, to)

-- a run may go on at the place after the instruction, where it jumps, and where it goes back
abbrev pub Leads : Instr → Ways → Type 0
Leads i Ends = true ≡ true
Leads i (Goes_on news) = goes_on i ≡ true
Leads i (Goes_to to) = jump_of i ≡ Some to
Leads i (Branches to) = turning (goes_on i) (jump_of i) ≡ turning true (Some to)
Leads i (Goes_back to) = turning (goes_on i) (back_of i) ≡ turning true (Some to)
Leads i (Branches_on_null a to) = turning (goes_on i) (jump_of i) ≡ turning true (Some to)
Leads i (Branches_on_empty f to) = turning (goes_on i) (jump_of i) ≡ turning true (Some to)
Leads i (Branches_in there here to) = turning (goes_on i) (jump_of i) ≡ turning true (Some to)

pub leads : (p : Image) (i : Instr) → Leads i (ways_of p i)
unfolding goes_on jump_of back_of
leads p x = grind arith

-- what is tested is an object or null, and what is pushed is an object
abbrev pub Allows : AbstractState → Ways → Type 0
Allows sh (Branches_on_null a to) = is_object_or_null (register sh a) ≡ true
Allows sh (Goes_on (Pushed a)) = owns_object (register sh a) ≡ true
Allows sh _ = true ≡ true

pub allows : (p : Image) (m pc : ℕ) (sh : AbstractState) (i : Instr) → AllTrue (rule_needs p m pc sh i) → Allows sh (ways_of p i)
allows p m pc sh x needs = grind arith
