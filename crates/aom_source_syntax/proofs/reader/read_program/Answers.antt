use Rattle.std.proofs.Common.{rules}
use Rattle.std.specs.Prelude.{IfOk, IfErr}
use Rattle.aom_source_syntax.specs.Programs.{classes_of, IsProgram}
use Rattle.aom_source_syntax.specs.Reading.{Refuses}
use Rattle.aom_source_syntax.proofs.Unique.{if_program, if_refused}
use Rattle.aom_source_syntax.proofs.reader.read_program.Goals as goal

pub returns-in-Ok-clause-only : goal.returns-in-Ok-clause-only
returns-in-Ok-clause-only c =
    let h : IfOk c.read.result (λ items. IsProgram (classes_of c.args.tokens.now.tokens) items.items) = search rules in
    if_program (classes_of c.args.tokens.now.tokens) (λ items. items.items) c.read.result h

pub returns-in-Ok-clause-complete : goal.returns-in-Ok-clause-complete
returns-in-Ok-clause-complete c =
    let h : IfErr c.read.result (λ fault. Refuses (classes_of c.args.tokens.now.tokens) fault) = search rules in
    if_refused (classes_of c.args.tokens.now.tokens) c.read.result h
