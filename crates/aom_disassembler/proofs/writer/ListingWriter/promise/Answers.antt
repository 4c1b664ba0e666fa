use Rattle.std.proofs.Common.{◌∷◌, ◌++◌, ap, ◌∙◌}
use Rattle.std.specs.Prelude.{map}
use Rattle.aom_syntax.specs.Keywords.{keyword_text}
use Rattle.aom_syntax.specs.declared.keyword.Keyword.TheVariants.{Args, Gives, In, Out}
use Rattle.aom_disassembler.specs.Methods.{argument_word, gives_words, states_word}
use Rattle.aom_disassembler.specs.Text.{list_word}
use Rattle.aom_disassembler.proofs.Behind.{on_err, promise_behind}
use Rattle.aom_disassembler.proofs.writer.ListingWriter.promise.Goals as goal

pub returns : goal.returns
returns c =
    let m = c.args.method.now in
    promise_behind 32 (keyword_text In)
    (states_word m.before.0) (keyword_text Out) (states_word m.after.0) (keyword_text Args) (list_word (map argument_word m.arguments)) (keyword_text Gives)
    (gives_words m.gives) c.args.self.now _ _ _ _ _ _ c.gives.result c.in_ok-states.ensures c.in_ok-states-2.ensures c.in_ok-keyword.ensures
    (c.in_ok-list.ensures ∙ ap (λ xs. c.keyword.new.self ++ 32 ∷ list_word (map argument_word xs)) c.as_slice.ensures) c.in_ok-keyword-2.ensures c.gives.ensures

pub returns-in_err-states : goal.returns-in_err-states
returns-in_err-states c = on_err _ c.from_residual.result c.from_residual.ensures.0

pub returns-in_err-states-2 : goal.returns-in_err-states-2
returns-in_err-states-2 c = on_err _ c.from_residual-in_err-states-2.result c.from_residual-in_err-states-2.ensures.0

pub returns-in_err-keyword : goal.returns-in_err-keyword
returns-in_err-keyword c = on_err _ c.from_residual-in_err-keyword.result c.from_residual-in_err-keyword.ensures.0

pub returns-in_err-list : goal.returns-in_err-list
returns-in_err-list c = on_err _ c.from_residual-in_err-list.result c.from_residual-in_err-list.ensures.0

pub returns-in_err-keyword-2 : goal.returns-in_err-keyword-2
returns-in_err-keyword-2 c = on_err _ c.from_residual-in_err-keyword-2.result c.from_residual-in_err-keyword-2.ensures.0
