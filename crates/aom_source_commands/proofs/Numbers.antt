-- The names of a script with their numbers, one by one.
use Rattle.std.proofs.Common.{◌≡◌, ◌∙◌, ℕ, ◌+◌, ◌<◌, suc, List, [], ◌∷◌, ◌++◌, Bor, get_or, length, map, take, ap, ap₂, refl, sym}
use Rattle.std.proofs.Math.Numerals.{suc-eq-add-one}
use Rattle.std.proofs.lemmas.List.{map-append, map_more, take-map}
use Rattle.aom_image.specs.declared.class.ClassDecl.{ClassDecl}
use Rattle.aom_source_scripts.specs.declared.naming.ScriptName.{ScriptName}
use Rattle.aom_source_commands.specs.Scripts.{number_in, numbers_of}

numbers_behind : (i : ℕ) (classes : List ClassDecl) → numbers_of (suc i) classes ≡ numbers_of i classes ++ number_in classes i ∷ []
unfolding numbers_of
numbers_behind i classes = refl

pub numbers_none : (classes : List ClassDecl) → [] ≡ numbers_of 0 classes
unfolding numbers_of
numbers_none classes = refl

-- one class more has its number
pub one_number_more : (named more : List ScriptName) (n : ScriptName) (i : ℕ) (classes : List ClassDecl) → more ≡ named ++ n ∷ []
    → map (λ (s : ScriptName). s.number) named ≡ numbers_of i classes → n.number ≡ number_in classes i → map (λ (s : ScriptName). s.number) more ≡ numbers_of (i + 1) classes
one_number_more named more n i classes grown so is =
    let number : ScriptName → ℕ = λ s. s.number in
    ap (map number) grown ∙ map-append number named (n ∷ []) ∙ ap₂ (λ xs x. xs ++ x ∷ []) so is ∙ sym (numbers_behind i classes) ∙ ap (λ k. numbers_of k classes) (suc-eq-add-one i)

-- and its name
pub one_name_more : (named more : List ScriptName) (n : ScriptName) (i : ℕ) (names : List (Bor (List ℕ))) (d : Bor (List ℕ)) → i < length names → more ≡ named ++ n ∷ []
    → map (λ (s : ScriptName). s.name.now) named ≡ take i (map (λ (b : Bor (List ℕ)). b.now) names) → n.name.now ≡ (get_or names i d).now
    → map (λ (s : ScriptName). s.name.now) more ≡ take (i + 1) (map (λ (b : Bor (List ℕ)). b.now) names)
one_name_more named more n i names d within grown so is =
    let name : ScriptName → List ℕ = λ s. s.name.now in
    let now : Bor (List ℕ) → List ℕ = λ b. b.now in
    ap (map name) grown ∙ map-append name named (n ∷ []) ∙ ap₂ (λ xs x. xs ++ x ∷ []) (so ∙ take-map now i names) is
    ∙ sym (map_more now names i d within) ∙ sym (take-map now (i + 1) names)
