-- Statements in a text: what the first of them does, and what stands behind it.
use Rattle.std.proofs.lemmas.Bool.Decides.{nat_tests}
use Rattle.std.proofs.Common.{arith, ◌≡◌, ℕ, ◌+◌, ◌≤◌, ◌^◌, List, [], ◌∷◌, ◌++◌, length, slice_get, Some, Ok, Err, refl, ap, ◌∙◌}
use Rattle.std.specs.Prelude.{if◌then◌else◌}
use Rattle.std.proofs.lemmas.Bool.{le-leb}
use Rattle.aom_text.specs.declared.fault.AsmFaultKind.TheVariants.{LimitPassed}
use Rattle.aom_text.specs.declared.text.Statement.{Statement}
use Rattle.aom_syntax.specs.declared.scope.Scope.{Scope}
use Rattle.aom_asm.specs.Body.{Program}
use Rattle.aom_asm.specs.Denoted.{grown, read_rest, step}
use Rattle.aom_asm_semantics.specs.Texts.{all_words}

-- the first of the statements whose words begin so, and those behind it
pub record First (ss : List Statement) (ws : List (List ℕ)) (left : List (List (List ℕ))) : Type 0 where
  pub one : Statement
  pub rest : List Statement
  pub is : ss ≡ one ∷ rest
  pub here : one.words ≡ ws
  pub behind : all_words rest ≡ left

pub first_of : {ws : List (List ℕ)} {left : List (List (List ℕ))} (ss : List Statement) → all_words ss ≡ ws ∷ left → First ss ws left
first_of [] words = absurd cc
first_of (s ∷ ss) words = record { one = s; rest = ss; is = refl; here = cc; behind = cc }

-- reading statements from a program on is reading the others, which have those words, from another program on
pub record Goes (last : ℕ) (scope : Scope) (p : Program) (ss : List Statement) (q : Program) (left : List (List (List ℕ))) : Type 0 where
  pub rest : List Statement
  pub words : all_words rest ≡ left
  pub reads : read_rest last scope p ss ≡ read_rest last scope q rest

module _ {last : ℕ} {scope : Scope} where
  -- nothing is read
  pub stays : {p q : Program} {left : List (List (List ℕ))} (ss : List Statement) → p ≡ q → all_words ss ≡ left → Goes last scope p ss q left
  stays ss same words = record { rest = ss; words = words; reads = ap (λ p. read_rest last scope p ss) same }

  -- one statement is read
  pub steps : {p q : Program} {ws : List (List ℕ)} {left : List (List (List ℕ))} (ss : List Statement) →
      all_words ss ≡ ws ∷ left → ((rest : List Statement) → all_words rest ≡ left → step scope rest p ws ≡ Ok q) → Goes last scope p ss q left
  steps {p = p} {q = q} ss words read =
      let f = first_of ss words in
      record {
        rest = f.rest;
        words = f.behind;
        reads = grind (arith, nat_tests);
      }

  -- and more is read behind it
  pub goes_on : {p q r : Program} {ss : List Statement} {left more : List (List (List ℕ))} →
      Goes last scope p ss q left → ((rest : List Statement) → all_words rest ≡ left → Goes last scope q rest r more) → Goes last scope p ss r more
  goes_on first later =
      let next = later first.rest first.words in
      record { rest = next.rest; words = next.words; reads = first.reads ∙ next.reads }

  -- the same program at the end
  pub arrives : {p q r : Program} {ss : List Statement} {left : List (List (List ℕ))} → q ≡ r → Goes last scope p ss q left → Goes last scope p ss r left
  arrives same goes = record { rest = goes.rest; words = goes.words; reads = goes.reads ∙ ap (λ q. read_rest last scope q goes.rest) same }

-- there is room for as many bytes
pub room : (bytes size : ℕ) → size + bytes ≤ 2 ^ 20 → grown bytes size ≡ Ok (size + bytes)
room bytes size fits = ap (λ b. if b then Ok (size + bytes) else Err LimitPassed) (le-leb (size + bytes) (2 ^ 20) fits)

pub at_seam : {X : Type 0} (xs : List X) (x : X) (ys : List X) → slice_get (xs ++ x ∷ ys) (length xs) ≡ Some x
at_seam [] x ys = refl
at_seam (y ∷ xs) x ys = at_seam xs x ys
