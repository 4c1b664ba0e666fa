-- What stands between dots is read part by part: where a branch is none, or there is no room for one more, no way is said.
use Rattle.std.proofs.Common.{◌≡◌, ◌∙◌, ◌<◌, Bor, ℕ, suc, Bool, true, false, cond, nat_le, List, [], ◌∷◌}
use Rattle.std.proofs.Common.{◌++◌, length, Option, Some, None, ap, append_assoc, arith, refl, sym}
use Rattle.std.specs.Prelude.{IfSome, option_map}
use Rattle.std.proofs.lemmas.List.{append-nil}
use Rattle.std.proofs.lemmas.Option.{none-some, same_Some}
use Rattle.aom_debug_protocol.specs.Ways.{Way, before, branch_said, branches_said, fitting, further, parts_in, path_from, way_at}
use Rattle.aom_debug_protocol.specs.declared.way.Branch.{Branch}
use Rattle.aom_debug_protocol.specs.declared.way.Outer.{Outer}

-- a way, and further by what is said
abbrev pub onto : Way → Option (List Branch) → Option Way
onto w None = None
onto w (Some bs) = fitting (record w { branches = w.branches ++ bs })

pub begins : (outer : Outer) (o : Option (List Branch)) → onto (way_at outer) o ≡ path_from (Some outer) o
begins outer None = refl
begins outer (Some bs) = refl

-- nothing more is said
pub ends : (w : Way) → fitting w ≡ Some w → onto w (Some []) ≡ Some w
ends w fits = ap (λ bs. fitting (record w { branches = bs })) (append-nil w.branches) ∙ fits

fits_so : (w : Way) (x : Way) → fitting w ≡ Some x → w ≡ x
fits_so w x is = go (nat_le (length w.branches) 85) is
  where
    go : (b : Bool) → cond b (Some w) None ≡ Some x → w ≡ x
    go true e = same_Some w x e
    go false e = absurd (none-some x e)

-- one branch further, and then the others
pub goes_on : (w x : Way) (b : Branch) (part : List ℕ) (parts : List (List ℕ)) →
    branch_said part ≡ Some b → fitting (further w b) ≡ Some x → onto w (branches_said (part ∷ parts)) ≡ onto x (branches_said parts)
goes_on w x b part parts said fits = ap (λ o. onto w (before o (branches_said parts))) said ∙ go (branches_said parts)
  where
    go : (o : Option (List Branch)) → onto w (before (Some b) o) ≡ onto x o
    go None = refl
    go (Some bs) = ap (λ ys. fitting (record w { branches = ys })) (sym (append_assoc w.branches (b ∷ []) bs))
        ∙ ap (λ (y : Way). fitting (record y { branches = y.branches ++ bs })) (fits_so (further w b) x fits)

-- what fits still fits
pub fits_still : (w x : Way) → fitting w ≡ Some x → fitting x ≡ Some x
fits_still w x is = ap fitting (sym (fits_so w x is)) ∙ is

-- how much is not yet read
abbrev pub left : Option (List ℕ) → ℕ
left None = 0
left (Some bs) = suc (length bs)

pub shrinks : (o : Option (Bor (List ℕ))) (n : ℕ) → IfSome o (λ r. length r.now < n) → left (option_map (λ r. r.now) o) < suc n
shrinks None n less = omega arith
shrinks (Some r) n less = omega (arith, less)

-- the parts of what is not yet read
abbrev pub parts_of : Option (Bor (List ℕ)) → List (List ℕ)
parts_of o = parts_in (option_map (λ r. r.now) o)
