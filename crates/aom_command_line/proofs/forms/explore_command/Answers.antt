-- The form is made of the arguments in turn.
use Rattle.std.proofs.Common.{rules, codes}
use Rattle.clap.specs.Words.{new_app}
use Rattle.aom_command_line.specs.CommandLine.{HasForm}
use Rattle.aom_command_line.proofs.Rules.{first, next}
use Rattle.aom_command_line.proofs.forms.explore_command.Goals as goal

pub returns : goal.returns
returns c =
    let bare : HasForm (new_app (codes "explore")) c.about.result = record { shape = search rules; own = search rules } in
    let limit = first c.limit_arg.result _ _ c.arg-command.result c.arg-command.ensures bare c.limit_arg.ensures.rule c.limit_arg.ensures.own in
    let from = next c.from_arg.result _ _ c.arg-command.result c.with_arg-command.result c.with_arg-command.ensures limit c.from_arg.ensures.rule
    c.from_arg.ensures.own in
    let to = next c.to_arg.result _ _ c.with_arg-command.result c.with_arg-command-2.result c.with_arg-command-2.ensures from
    c.to_arg.ensures.rule c.to_arg.ensures.own in
    let kills = next c.kills_arg.result _ _ c.with_arg-command-2.result c.with_arg-command-3.result c.with_arg-command-3.ensures to c.kills_arg.ensures.rule
    c.kills_arg.ensures.own in
    let deaths = next c.deaths_arg.result _ _ c.with_arg-command-3.result c.with_arg-command-4.result c.with_arg-command-4.ensures kills
    c.deaths_arg.ensures.rule c.deaths_arg.ensures.own in
    let pairs = next c.pairs_arg.result _ _ c.with_arg-command-4.result c.with_arg-command-5.result c.with_arg-command-5.ensures deaths c.pairs_arg.ensures.rule
    c.pairs_arg.ensures.own in
    let tries = next c.tries_arg.result _ _ c.with_arg-command-5.result c.with_arg-command-6.result c.with_arg-command-6.ensures pairs c.tries_arg.ensures.rule
    c.tries_arg.ensures.own in
    let base = next c.base_arg.result _ _ c.with_arg-command-6.result c.with_arg-command-7.result c.with_arg-command-7.ensures tries c.base_arg.ensures.rule
    c.base_arg.ensures.own in
    let expect = next c.expect_arg.result _ _ c.with_arg-command-7.result c.with_arg-command-8.result c.with_arg-command-8.ensures base
    c.expect_arg.ensures.rule c.expect_arg.ensures.own in
    let text = next c.text_arg.result _ _ c.with_arg-command-8.result c.with_arg-command-9.result c.with_arg-command-9.ensures expect c.text_arg.ensures.rule
    c.text_arg.ensures.own in
    c.with_files.ensures _ text
