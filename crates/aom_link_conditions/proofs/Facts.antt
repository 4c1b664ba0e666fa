-- What is known of the parts of a linked image, by their numbers.
use Rattle.std.proofs.lemmas.Bool.Decides.{nat_tests}
use Rattle.std.proofs.Common.{arith, ◌≡◌, ℕ, List, All, length, IfSome, Some, slice_get, subst}
use Rattle.std.proofs.lemmas.List.Elements.{All-get_or}
use Rattle.std.proofs.lemmas.Option.{get_or_from_slice_get, slice_get_within}
use Rattle.aom_image.specs.Image.{Image}
use Rattle.aom_image.specs.Views.{method_at, instr_at, instr_in}
use Rattle.aom_image.specs.declared.method.Method.{Method}
use Rattle.aom_instructions.specs.declared.instr.Instr.{Instr}
use Rattle.aom_link_conditions.specs.Jumps.{KeepsWithin, JumpIsValid}
use Rattle.aom_link_conditions.specs.Linked.{IsLinked}

-- what holds at each place of a list holds of an element
pub at_place : {X : Type 0} (P : ℕ → X → Type 0) (xs : List X) (k : ℕ) (x : X) → ((j : ℕ) → IfSome (slice_get xs j) (P j)) → slice_get xs k ≡ Some x → P k x
at_place P xs k x h e = let here = h k in rw e at here

-- what holds of all elements of a list holds of the one at a place
pub all_there : {X : Type 0} (P : X → Type 0) (xs : List X) (k : ℕ) (x : X) → All P xs → slice_get xs k ≡ Some x → P x
all_there P xs k x h e = subst P (get_or_from_slice_get xs k x x e) (All-get_or P xs k x (slice_get_within xs k x e) h)

-- an instruction is one of its method's code
pub of_method : (p : Image) (m place : ℕ) (i : Instr) → instr_at p m place ≡ Some i → (d : Method) × (method_at p m ≡ Some d) × (slice_get d.code place ≡ Some i)
unfolding instr_in
of_method p m place i e = grind (arith, nat_tests)

-- an instruction's jump and next place are within its method
pub linked_place : (p : Image) (m place : ℕ) (d : Method) (i : Instr) → IsLinked p → method_at p m ≡ Some d → slice_get d.code place ≡ Some i →
    KeepsWithin (length d.code) place i
unfolding method_at
linked_place p m place d i l e f = at_place (KeepsWithin (length d.code)) d.code place i (at_place (λ _ x. JumpIsValid x.code) p.methods m d l.jumps e).each f
