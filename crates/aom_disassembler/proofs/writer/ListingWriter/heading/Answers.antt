use Rattle.std.proofs.Common.{◌∷◌, []}
use Rattle.aom_syntax.specs.Keywords.{keyword_text}
use Rattle.aom_syntax.specs.declared.keyword.Keyword.TheVariants.{Method, Of, Over}
use Rattle.aom_disassembler.specs.Methods.{flag_words, promise_words, role_keyword}
use Rattle.aom_disassembler.specs.Operands.{class_after, method_after, method_name}
use Rattle.aom_disassembler.proofs.Behind.{line_behind, on_err}
use Rattle.aom_disassembler.proofs.writer.ListingWriter.heading.Goals as goal

pub returns : goal.returns
returns c =
    let m = c.args.method.now in
    line_behind 32 (10 ∷ []) (keyword_text Method) (method_name c.args.place ∷ keyword_text (role_keyword m.role) ∷ [])
    (class_after Of m.class) (method_after Over m.over) (flag_words m.flags.0) (promise_words m) c.args.self.now _ _ _ _ _ _ c.end_line.result
    c.in_ok-name_and_role.ensures c.in_ok-class_after.ensures c.in_ok-method_after.ensures c.in_ok-flags.ensures c.in_ok-promise.ensures c.end_line.ensures

pub returns-in_err-name_and_role : goal.returns-in_err-name_and_role
returns-in_err-name_and_role c = on_err _ c.from_residual.result c.from_residual.ensures.0

pub returns-in_err-class_after : goal.returns-in_err-class_after
returns-in_err-class_after c = on_err _ c.from_residual-in_err-class_after.result c.from_residual-in_err-class_after.ensures.0

pub returns-in_err-method_after : goal.returns-in_err-method_after
returns-in_err-method_after c = on_err _ c.from_residual-in_err-method_after.result c.from_residual-in_err-method_after.ensures.0

pub returns-in_err-flags : goal.returns-in_err-flags
returns-in_err-flags c = on_err _ c.from_residual-in_err-flags.result c.from_residual-in_err-flags.ensures.0

pub returns-in_err-promise : goal.returns-in_err-promise
returns-in_err-promise c = on_err _ c.from_residual-in_err-promise.result c.from_residual-in_err-promise.ensures.0
