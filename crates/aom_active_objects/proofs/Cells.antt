-- Names and requests of cells that stand once.
use Rattle.std.proofs.lemmas.Bool.Decides.{nat_tests}
use Rattle.std.proofs.Common.{◌≡◌, ◌==◌, ℕ, true, false, cond, List, ◌∷◌, Some, refl, ap, ◌∙◌, arith}
use Rattle.std.specs.Prelude.{is_some}
use Rattle.std.proofs.lemmas.Bool.{eq-eqb, ne_eqb}
use Rattle.aom_active_objects.proofs.SafetyLemmas.{requested_unnamed}
use Rattle.aom_semantics.specs.Places.{Cell, Object, Request, NoDuplicates, named, requested}

-- what has a request is there
pub asked_lives : (cs : List Cell) (n : ℕ) (r : Request) → requested cs n ≡ Some r → is_some (named cs n) ≡ true
asked_lives cs n r e = grind (arith, requested_unnamed cs n)

-- what is there behind a cell has another name, and another place
pub other_name : (c : Cell) (cs : List Cell) (n : ℕ) → NoDuplicates (c ∷ cs) → is_some (named cs n) ≡ true → (c.object.name == n) ≡ false
other_name c cs n no_duplicates lives = grind (arith, nat_tests, ne_eqb c.object.name n)

-- the request of the first cell, and that of another
pub asked_first : (c : Cell) (cs : List Cell) → requested (c ∷ cs) c.object.name ≡ c.request
asked_first c cs = ap (λ b. cond b c.request (requested cs c.object.name)) (eq-eqb c.object.name c.object.name refl)

pub asked_later : (c : Cell) (cs : List Cell) (n : ℕ) (r : Request) → NoDuplicates (c ∷ cs) → requested cs n ≡ Some r → requested (c ∷ cs) n ≡ Some r
asked_later c cs n r no_duplicates e = ap (λ b. cond b c.request (requested cs n)) (other_name c cs n no_duplicates (asked_lives cs n r e)) ∙ e

-- what is there still is behind another cell
pub named_first : (c : Cell) (cs : List Cell) → named (c ∷ cs) c.object.name ≡ Some c.object
named_first c cs = ap (λ b. cond b (Some c.object) (named cs c.object.name)) (eq-eqb c.object.name c.object.name refl)

pub named_later : (c : Cell) (cs : List Cell) (n : ℕ) (o : Object) → NoDuplicates (c ∷ cs) → named cs n ≡ Some o → named (c ∷ cs) n ≡ Some o
named_later c cs n o no_duplicates e = ap (λ b. cond b (Some c.object) (named cs n)) (other_name c cs n no_duplicates (ap is_some e)) ∙ e
