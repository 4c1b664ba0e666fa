-- What a list of the verifier's tables has once a place of it is written.
use Rattle.std.proofs.Common.{◌≡◌, ◌∙◌, ◌==◌, ◌∷◌, ◌++◌, ℕ, zero, suc, List, [], length, ap, cond, refl, sym}
use Rattle.std.proofs.Math.Dec.{eqb-suc-suc, eqb-suc-zero, eqb-zero-suc}
use Rattle.aom_roles.specs.Tables.{at, set_extending}

pub at-set_extending : {A : Type 0} (d : A) (xs : List A) (i j : ℕ) (v : A) → at d (set_extending d xs i v) j ≡ cond (i == j) v (at d xs j)
at-set_extending d [] zero zero v = refl
at-set_extending d [] zero (suc j) v = ap (λ b. cond b v d) (sym (eqb-zero-suc j))
at-set_extending d [] (suc i) zero v = ap (λ b. cond b v d) (sym (eqb-suc-zero i))
at-set_extending d [] (suc i) (suc j) v = at-set_extending d [] i j v ∙ ap (λ b. cond b v d) (sym (eqb-suc-suc i j))
at-set_extending d (x ∷ xs) zero zero v = refl
at-set_extending d (x ∷ xs) zero (suc j) v = ap (λ b. cond b v (at d xs j)) (sym (eqb-zero-suc j))
at-set_extending d (x ∷ xs) (suc i) zero v = ap (λ b. cond b v x) (sym (eqb-suc-zero i))
at-set_extending d (x ∷ xs) (suc i) (suc j) v = at-set_extending d xs i j v ∙ ap (λ b. cond b v (at d xs j)) (sym (eqb-suc-suc i j))

-- a list written at its end
pub put_at_end : {A : Type 0} (d : A) (xs : List A) (v : A) → set_extending d xs (length xs) v ≡ xs ++ v ∷ []
put_at_end d [] v = refl
put_at_end d (x ∷ xs) v = ap (λ ys. x ∷ ys) (put_at_end d xs v)
