-- A fault of the first reading is the fault of the statements; else the second one tells what they say.
use Rattle.std.proofs.Common.{◌≡◌, ◌∙◌, ap, ap₂, sym, List, [], false, true, ℕ, Result, Ok, Err, subst}
use Rattle.std.proofs.lemmas.Result.{err_from_is_err_and}
use Rattle.aom_text.specs.declared.text.Statement.{Statement}
use Rattle.aom_text.specs.declared.fault.AsmFault.{AsmFault}
use Rattle.aom_text.specs.declared.fault.AsmFaultKind.{AsmFaultKind}
use Rattle.aom_syntax.specs.Reading.{ReadsOrNoMemory}
use Rattle.aom_syntax.specs.declared.scope.Scope.{Scope}
use Rattle.aom_asm.specs.Denoted.{Answers, at_line, and_then, read_program, read_statements, scope_of, image_of}
use Rattle.aom_image.specs.declared.class.ClassDecl.{ClassDecl}
use Rattle.aom_asm.specs.Body.{Program}
use Rattle.aom_asm.proofs.assembling.read_statements.Goals as goal
use Rattle.aom_asm.proofs.Steps.{said}
use Rattle.aom_asm.proofs.SyntaxLemmas.{ok_is}

fails : (last : ℕ) (ss : List Statement) (e : AsmFault) → read_program last (scope_of false ss []) ss ≡ Err e → read_statements last ss ≡ Err e
fails last ss e is = ap (λ r. and_then r (λ first. and_then (read_program last (scope_of true ss first.classes) ss) (λ p. Ok (image_of p)))) is

-- a scope that was read is the one that is meant
named : (last : ℕ) (r : Result Scope AsmFaultKind) (s t : Scope) → Ok s ≡ at_line last r → ReadsOrNoMemory (λ s. s) r (Ok t) → s ≡ t
named last r s t is reads = sym (ok_is t s (subst (λ r. ReadsOrNoMemory (λ s. s) r (Ok t)) (said last r s (sym is)) reads))

-- a program that was read denotes its image
as_image : (r read : Result Program AsmFault) → Answers (λ p. p) r read → Answers image_of r (and_then read (λ p. Ok (image_of p)))
as_image (Ok p) read is = ap (λ x. and_then x (λ p. Ok (image_of p))) is
as_image (Err e) read fails = λ other. ap (λ x. and_then x (λ p. Ok (image_of p))) (fails other)

-- what is read again, with the classes of the first reading, is what the statements say
again : (last : ℕ) (ss : List Statement) (s : Scope) (first : Program) (kinds : List ClassDecl) (r : Result Program AsmFault) →
    s ≡ scope_of false ss [] → read_program last s ss ≡ Ok first → kinds ≡ first.classes
    → Answers (λ p. p) r (read_program last (record s { is_strict = true; kinds = kinds }) ss) → Answers image_of r (read_statements last ss)
again last ss s first kinds r is found classes read =
    let statements = ap (λ x. and_then x (λ first. and_then (read_program last (scope_of true ss first.classes) ss) (λ p. Ok (image_of p))))
    (ap (λ t. read_program last t ss) (sym is) ∙ found) in
    let program = ap₂ (λ (t : Scope) (k : List ClassDecl). read_program last (record t { is_strict = true; kinds = k }) ss) is classes in
    subst (λ x. Answers image_of r x) (sym statements) (as_image r _ (subst (λ x. Answers (λ p. p) r x) program read))

pub returns-in_err-first : goal.returns-in_err-first
returns-in_err-first c =
    let e = err_from_is_err_and c.from_residual-in_err-first.result c.from_residual-in_err-first.ensures.1 in
    let scope = named c.args.last c.named.result c.in_ok-scope.scope _ c.in_ok-scope.ensures c.named.ensures in
    rw (e.1, e.2) (λ other. fails c.args.last c.args.text _ (ap₂ (read_program c.args.last) (sym scope) (sym c.again.ensures) ∙ c.in_err-first.ensures other))

pub returns : goal.returns
returns c =
    let scope = named c.args.last c.named.result c.in_ok-scope.scope _ c.in_ok-scope.ensures c.named.ensures in
    again c.args.last c.args.text c.in_ok-scope.scope c.in_ok-first.first _ c.read_again.result scope
    (ap (read_program c.args.last c.in_ok-scope.scope) (sym c.again.ensures) ∙ c.in_ok-first.ensures) c.into_classes.ensures c.read_again.ensures
