-- What the table of roles answers.
use Rattle.std.proofs.Common.{◌≡◌, ◌<◌, ◌≤◌, ◌∙◌, ℕ, false, List, [], ◌∷◌, length, Option}
use Rattle.std.proofs.Common.{Some, None, IfSome, slice_get, get_or, position, refl, sym, ap, arith}
use Rattle.std.proofs.lemmas.Option.{slice_get_read, get_or_from_slice_get}
use Rattle.aom_image.specs.Image.{Image}
use Rattle.std.specs.List.{All}
use Rattle.std.proofs.lemmas.List.Elements.{All-get_or}
use Rattle.std.proofs.lemmas.List.Quantifiers.{position-Some}
use Rattle.aom_image.specs.WellFormed.{MethodFits}
use Rattle.aom_image.specs.declared.method.Method.{Method}
use Rattle.aom_instructions.specs.declared.version.Version.{Version}
use Rattle.aom_image.specs.declared.method.Role.{Role}
use Rattle.aom_link_conditions.specs.Roles.{fills_role, is_class, role_number, role_of}
use Rattle.aom_linker.specs.Table.{IsRow, IsTable}
use Rattle.aom_linker.proofs.LinkConditionsLemmas.{both}

-- a class that is not there is not this one
pub other_class : (classes c : ℕ) (own : Option ℕ) → IfSome own (λ k. k < classes) → classes ≤ c → is_class c own ≡ false
other_class classes c None h le = refl
other_class classes c (Some k) h le = grind arith

-- no method is of a class that is not there
pub no_player : (version : Version) (classes methods c : ℕ) (r : Role) (xs : List Method) → All (MethodFits version classes methods) xs → classes ≤ c →
    position (fills_role c r) xs ≡ None
unfolding fills_role
no_player version classes methods c r [] h le = refl
no_player version classes methods c r (x ∷ xs) h le = elim (position (fills_role c r) (x ∷ xs)) as (λ o. position (fills_role c r) (x ∷ xs) ≡ o → o ≡ None) [
  | None ↦ λ e. refl
  | Some i ↦ λ e.
      let at = position-Some (fills_role c r) (x ∷ xs) i x e in
      let fits = All-get_or (MethodFits version classes methods) (x ∷ xs) i x at.0 h in
      let other = other_class classes c (get_or (x ∷ xs) i x).class fits.class le in
      let there = (both (is_class c (get_or (x ∷ xs) i x).class) _ at.1).0 in
      absurd (cc)
] refl

-- what is read from a row of the table
pub row_found : (p : Image) (table rows : List (List (Option ℕ))) (c i k : ℕ) (r : Role) (row : List (Option ℕ)) (x : Option ℕ) →
    IsTable p table → rows ≡ table → i ≡ c → i < length rows → row ≡ get_or rows i row → k ≡ role_number r → get_or row k x ≡ role_of p c r
row_found p table rows c i k r row x t same here lt e n =
    let there : slice_get rows i ≡ Some row = slice_get_read rows (length rows) i row refl lt e in
    let at : slice_get table c ≡ Some row = ap (λ (l : List (List (Option ℕ))). slice_get l c) (sym same) ∙ (ap (slice_get rows) (sym here) ∙ there) in
    let rows_here = t.rows c in
    let is : IsRow p c row = rw at at rows_here in
    ap (λ (j : ℕ). get_or row j x) n ∙ get_or_from_slice_get row (role_number r) (role_of p c r) x (is r)
