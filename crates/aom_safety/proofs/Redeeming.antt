-- A reply to a token completes the request that waits for it: all else of the cells is as it was, so what is claimed and what is known hold on.
use Rattle.std.proofs.lemmas.Bool.Decides.{nat_tests}
use Rattle.std.proofs.Common.{arith, List, None, Option, Some, [], ap, refl, true, ℕ, ℤ, ◌∙◌, ◌∷◌, ◌≡◌}
use Rattle.std.proofs.lemmas.Bool.{eq-eqb, ne_eqb}
use Rattle.aom_image.specs.Image.{Image}
use Rattle.aom_image.specs.declared.class.ClassKind.{ClassKind}
use Rattle.aom_typing_rules.specs.Typing.{Typing}
use Rattle.aom_safety.proofs.SemanticsLemmas.{Alters, read_so, requests}
use Rattle.aom_safety.proofs.Storing.{Alike, alike_itself, altered_alike, fits_listed, stack_alike}
use Rattle.aom_safety.proofs.Turned.{recorded_so}
use Rattle.aom_safety.specs.Claims.{Layer}
use Rattle.aom_semantics.specs.Natives.{is_owed}
use Rattle.aom_semantics.specs.Places.{Cell, Object, Request, NoDuplicates, named, requested}
use Rattle.aom_safety.specs.Requests.{Known, ConformsTo}
use Rattle.aom_semantics.specs.Tokens.{all_redeemed, awaits, is_redeemable, redeemed, redeemed_by, redeemed_request}
use Rattle.aom_safety.specs.WellTyped.{Good}

abbrev pub redeeming : (order : ℕ) (code : ℤ) → Alters (all_redeemed order code)
redeeming order code = record { each = redeemed order code; none = refl; some = λ c cs. refl; object = λ c. refl }

pub redeemed_alike : (order : ℕ) (code : ℤ) (cs : List Cell) → Alike cs (all_redeemed order code cs)
redeemed_alike order code = altered_alike (redeeming order code) (λ c. refl) (λ c. refl)

pub redeemed_by_alike : (order : Option ℕ) (code : ℤ) (cs : List Cell) → Alike cs (redeemed_by order code cs)
redeemed_by_alike x code cs = grind (arith, nat_tests, alike_itself cs, redeemed_alike)

pub requested_redeemed : (order : ℕ) (code : ℤ) (cs : List Cell) (n : ℕ) → requested (all_redeemed order code cs) n ≡ redeemed_request order code (requested cs n)
requested_redeemed order code cs n = read_so (redeeming order code) requests n (redeemed_request order code) cs (λ c is here. refl) (λ none. refl)

-- what is enlisted stays so, and nothing else is
redeemed_none : (order : ℕ) (code : ℤ) (r : Option Request) → r ≡ None → redeemed_request order code r ≡ None
redeemed_none order code r e = ap (redeemed_request order code) e

-- what is known of a request is known of it once it is completed
pub conforms_to_redeemed : (order : ℕ) (code : ℤ) (k : Option ClassKind) (n : Known) (r : Option Request) → ConformsTo k n r → ConformsTo k n (redeemed_request order code r)
conforms_to_redeemed order code k n r s = grind (arith, nat_tests, recorded_so code)

-- what waits for a token is pending
pub awaits_owed : (order : ℕ) (k : Option ClassKind) (n : Known) (r : Option Request) → ConformsTo k n r → awaits order r ≡ true → is_owed r ≡ true
awaits_owed order k n r s e = grind arith

redeemable_cells : (order : ℕ) (cs : List Cell) → ((o : Object) → named cs o.name ≡ Some o →
    awaits order (requested cs o.name) ≡ true → is_owed (requested cs o.name) ≡ true) → NoDuplicates cs → is_redeemable (Some order) cs ≡ true
redeemable_cells order [] h no_duplicates = refl
redeemable_cells order (c ∷ cs) h no_duplicates = grind (arith, nat_tests, redeemable_cells order cs, eq-eqb c.object.name c.object.name, ne_eqb c.object.name)

module _ (p : Image) (t : Typing) where
  pub redeemable : (order : Option ℕ) (cs : List Cell) (ls : List Layer) → Good p t cs ls → is_redeemable order cs ≡ true
  redeemable x cs ls good = grind (arith, nat_tests, redeemable_cells, awaits_owed)

  all_redeemed_good : (order : ℕ) (code : ℤ) (cs : List Cell) (ls : List Layer) → Good p t cs ls → Good p t (all_redeemed order code cs) ls
  all_redeemed_good order code cs ls good = record {
    stack = grind (arith, nat_tests, stack_alike p t cs, redeemed_alike order code cs, requested_redeemed order code cs);
    fits = λ r. fits_listed p t cs (all_redeemed order code cs) (redeemed_alike order code cs) ls r
        (λ x none. requested_redeemed order code cs x.name ∙ redeemed_none order code (requested cs x.name) none) (good.fits r);
    conforms_to = grind (arith, nat_tests, requested_redeemed order code cs, conforms_to_redeemed order code, redeemed_alike order code cs);
    no_duplicates = (redeemed_alike order code cs).no_duplicates good.no_duplicates;
  }

  pub redeemed_good : (order : Option ℕ) (code : ℤ) (cs : List Cell) (ls : List Layer) → Good p t cs ls → Good p t (redeemed_by order code cs) ls
  redeemed_good None code cs ls good = good
  redeemed_good (Some order) code cs ls good = all_redeemed_good order code cs ls good
