-- A name that is declared is read at its place, and the words of the language behind it.
use Rattle.std.proofs.lemmas.Bool.Decides.{nat_tests}
use Rattle.std.proofs.Common.{arith, ◌≡◌, ℕ, Bool, true, List, [], ◌∷◌, ◌++◌, Some, Ok, Err, refl, ap, ◌∙◌}
use Rattle.std.specs.Prelude.{if◌then◌else◌}
use Rattle.std.proofs.lemmas.Bool.{eq-eqb}
use Rattle.aom_text.specs.Names.{is_name}
use Rattle.aom_text.specs.declared.fault.AsmFaultKind.TheVariants.{DoubleName}
use Rattle.aom_syntax.specs.Classes.{declared, declared_at, flag, is_at}
use Rattle.aom_syntax.specs.Names.{place_of}
use Rattle.aom_syntax.specs.Reading.{◌>>=◌, as_name, name}
use Rattle.aom_syntax.specs.declared.keyword.Keyword.{Keyword}
use Rattle.aom_asm_semantics.proofs.SyntaxLemmas.{at_place, ok_is, passed, steps}
use Rattle.aom_asm_semantics.proofs.Readings.{Takes, sees, took_same}
use Rattle.aom_asm_semantics.specs.Source.{mark}
use Rattle.aom_asm_semantics.proofs.Pieces.{Leaves, NotNext, Took, is_not, is_there, named, pair, saw, take_it}
use Rattle.aom_asm_semantics.proofs.Words.{takes_name}

-- ---- names that are declared

pub record Declared (space : List (List ℕ)) (place : ℕ) (ws rest : List (List ℕ)) : Type 0 where
  pub w : List ℕ
  pub words : ws ≡ w ∷ rest
  pub is_name : is_name w ≡ true
  pub placed : place_of w space ≡ Some place

pub saw_declared : (space : List (List ℕ)) (place : ℕ) (ws : List (List ℕ)) (u : Unit {0}) (rest : List (List ℕ)) → declared place space ws ≡ Ok (u, rest) →
    Declared space place ws rest
saw_declared space place ws u rest is =
    let s = steps (name ws) (λ x. declared_at place space x.0 >>= λ y. Ok (y, x.1)) (u, rest) is in
    let t = steps (declared_at place space s.first.0) (λ y. Ok (y, s.first.1)) (u, rest) s.second in
    let last : pair t.first s.first.1 ≡ (u, rest) = ok_is (pair t.first s.first.1) (u, rest) t.second in
    let v = saw as_name ws s.first.0 s.first.1 s.read in
    let i = named space v.w s.first.0 v.says in
    let at = passed (is_at place (place_of s.first.0 space)) (Ok tt) DoubleName t.first t.read in
    record {
      w = v.w;
      words = v.words ∙ ap (λ p. v.w ∷ p.1) last;
      is_name = i.0;
      placed = ap (λ n. place_of n space) i.1 ∙ at_place place (place_of s.first.0 space) at.0;
    }

pub takes_declared : (space : List (List ℕ)) (place : ℕ) (w : List ℕ) → is_name w ≡ true → place_of w space ≡ Some place → Takes (declared place space) (w ∷ []) tt
takes_declared space place w is there = sees (declared_at place space) (takes_name w is)
    (ap (λ o. if is_at place o then Ok tt else Err DoubleName) there ∙ ap (λ b. if b then Ok tt else Err DoubleName) (eq-eqb place place refl))

-- ---- words that stand alone

pub saw_mark : (key : Keyword) (ws : List (List ℕ)) (b : Bool) (rest : List (List ℕ)) → flag key ws ≡ Ok (b, rest) → ws ≡ mark key b ++ rest
saw_mark key ws b rest is = go (take_it key ws)
  where
    go : Took key ws → ws ≡ mark key b ++ rest
    go (is_there vs words there) = grind (arith, nat_tests, pair, ok_is, words)
    go (is_not there) = grind (arith, nat_tests, pair, ok_is)

pub reads_mark : (key : Keyword) (b : Bool) (rest : List (List ℕ)) → NotNext key rest → Leaves (flag key) (mark key b ++ rest) b rest
reads_mark key x rest other = grind (arith, nat_tests, took_same key rest)
