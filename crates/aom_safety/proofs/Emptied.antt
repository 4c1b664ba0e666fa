-- A cell of which no field owns: by an induction over the cells, just where none owns an object and none a message.
use Rattle.std.proofs.lemmas.Bool.Decides.{nat_tests}
use Rattle.std.proofs.Common.{arith, Bool, List, [], refl, true, ℕ, ◌∷◌, ◌≡◌}
use Rattle.std.proofs.lemmas.Bool.{and_from}
use Rattle.std.specs.Prelude.{not}
use Rattle.aom_image.specs.declared.method.Thing.{Thing}
use Rattle.aom_roles.specs.Tests.{AllTrue}
use Rattle.aom_roles.specs.Things.{is_object}
use Rattle.aom_semantics.specs.Destruction.{needs_emptied, owns_no_message, owns_no_object, owns_none, owns_nothing}
use Rattle.aom_semantics.specs.Places.{Cell}

-- where none owns, none owns such a thing
owns_none_of : (such : Thing → Bool) (cs : List Cell) (n : ℕ) → owns_nothing cs n ≡ true → owns_none such cs n ≡ true
owns_none_of such [] n e = refl
owns_none_of such (c ∷ cs) n e = grind (arith, nat_tests, and_from, owns_none_of such cs n)

pub emptied_by : (cs : List Cell) (n : ℕ) → owns_nothing cs n ≡ true → AllTrue (needs_emptied cs n)
emptied_by cs n e = (owns_none_of is_object cs n e, (owns_none_of (λ t. not (is_object t)) cs n e, tt))

-- and the other way round
pub owns_nothing_by : (cs : List Cell) (n : ℕ) → owns_no_object cs n ≡ true → owns_no_message cs n ≡ true → owns_nothing cs n ≡ true
owns_nothing_by [] n object message = refl
owns_nothing_by (c ∷ cs) n object message = grind (arith, nat_tests, and_from, owns_nothing_by cs n)
