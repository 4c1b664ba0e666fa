-- A command with one rule more, by what the command and the rule are.
use Rattle.std.proofs.Common.{◌≡◌, ◌∙◌, ap₂, false, IfOk, IsOkAnd, Result, Ok, Err}
use Rattle.std.proofs.lemmas.Result.{IfOk-weaker}
use Rattle.clap.specs.Words.{AddsArg, App, Rule, rule_of, with_rule}
use Rattle.clap.specs.declared.builder.arg.Arg.{Arg}
use Rattle.clap.specs.declared.builder.command.Command.{Command}
use Rattle.aom_command_line.specs.CommandLine.{HasForm}
use Rattle.aom_command_line.proofs.Reading.{as_before}

pub ruled : {x a b : App} {r s : Rule} → x ≡ with_rule a r → a ≡ b → r ≡ s → x ≡ with_rule b s
ruled added same rule = added ∙ ap₂ with_rule same rule

-- a command with its first argument
pub first : {E : Type 0} {bare : Command} (arg : Arg) (form : App) (rule : Rule) (made : Result Command E) →
    IfOk made (λ c. AddsArg bare arg c) → HasForm form bare → rule_of arg ≡ rule → arg.global ≡ false → IfOk made (λ c. HasForm (with_rule form rule) c)
first arg form rule made adds bare is own =
    IfOk-weaker made _ _ (λ c added. record { shape = ruled (added.shape own) bare.shape is; own = as_before _ _ _ added.globals own ∙ bare.own }) adds

-- a command with one argument more, where it was made
pub next : {E : Type 0} (arg : Arg) (form : App) (rule : Rule) (made more : Result Command E) → IfOk more (λ c. IsOkAnd made (λ m. AddsArg m arg c)) →
    IfOk made (λ m. HasForm form m) → rule_of arg ≡ rule → arg.global ≡ false → IfOk more (λ c. HasForm (with_rule form rule) c)
next arg form rule (Ok m) more adds bare is own = first arg form rule more adds bare is own
next arg form rule (Err e) more adds bare is own = IfOk-weaker more _ _ (λ c added. elim added [ ]) adds
