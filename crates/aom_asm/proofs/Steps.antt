-- What was read came of steps that were read.
use Rattle.std.proofs.Common.{◌≡◌, refl, ap, ℕ, ◌+◌, ◌≤◌, ◌^◌, nat_le, arith, Result, Ok, Err, List, [], ◌∷◌}
use Rattle.std.proofs.lemmas.Bool.{leb-true}
use Rattle.aom_text.specs.declared.fault.AsmFault.{AsmFault}
use Rattle.aom_text.specs.declared.fault.AsmFaultKind.{AsmFaultKind}
use Rattle.aom_text.specs.declared.fault.AsmFaultKind.TheVariants.{LimitPassed}
use Rattle.aom_asm.specs.Denoted.{and_then, at_line, grown, opened, read_program, read_rest}
use Rattle.aom_asm.proofs.SyntaxLemmas.{ok_is, passed}
use Rattle.aom_asm.specs.Body.{Program}
use Rattle.aom_syntax.specs.declared.scope.Scope.{Scope}
use Rattle.aom_text.specs.declared.text.Statement.{Statement}

pub no_ok : {X E : Type 0} (e : E) (x : X) → Err e ≡ Ok x → ⊥
no_ok e x is = cc

-- the two steps of what was read, with its line
pub record Steps {A B : Type 0} (r : Result A AsmFault) (f : A → Result B AsmFault) (y : B) : Type 0 where
  pub first : A
  pub read : r ≡ Ok first
  pub second : f first ≡ Ok y

pub steps_then : {A B : Type 0} (r : Result A AsmFault) (f : A → Result B AsmFault) (y : B) → and_then r f ≡ Ok y → Steps r f y
steps_then (Ok x) f y is = record { first = x; read = refl; second = is }
steps_then (Err e) f y is = absurd (no_ok e y is)

-- what was said in a line
pub said : {X : Type 0} (line : ℕ) (r : Result X AsmFaultKind) (x : X) → at_line line r ≡ Ok x → r ≡ Ok x
said line (Ok y) x is = ap Ok (ok_is y x is)
said line (Err e) x is = absurd (no_ok _ x is)

-- there was room for so many bytes
pub grown_is : (bytes size n : ℕ) → grown bytes size ≡ Ok n → (n ≡ size + bytes) × (n ≤ 2 ^ 20)
grown_is bytes size n is =
    let i = passed (nat_le (size + bytes) (2 ^ 20)) (Ok (size + bytes)) LimitPassed n is in
    let same : size + bytes ≡ n = ok_is (size + bytes) n i.1 in
    let room : size + bytes ≤ 2 ^ 20 = leb-true (size + bytes) (2 ^ 20) i.0 in
    (omega arith, omega arith)

-- a program that was read: what its first statement opened, and what was read behind it
pub data Started (last : ℕ) (scope : Scope) (q : Program) : List Statement → Type 0 where
  started : (s : Statement) (ss : List Statement) (p : Program) → opened scope s.words ≡ Ok p → read_rest last scope p ss ≡ Ok q → Started last scope q (s ∷ ss)

pub program_starts : (last : ℕ) (scope : Scope) (ss : List Statement) (q : Program) → read_program last scope ss ≡ Ok q → Started last scope q ss
program_starts last scope [] q is = absurd (no_ok _ _ is)
program_starts last scope (s ∷ ss) q is =
    let t = steps_then (at_line s.line (opened scope s.words)) (λ p. read_rest last scope p ss) q is in
    started s ss t.first (said s.line (opened scope s.words) t.first t.read) t.second
