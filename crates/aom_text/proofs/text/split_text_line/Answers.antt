use Rattle.std.proofs.Common.{◌<◌, ◌≤◌, length, ap, ◌∙◌, arith}
use Rattle.std.proofs.lemmas.List.{take_all}
use Rattle.std.specs.List.{list_all}
use Rattle.aom_text.specs.Words.{is_plain}
use Rattle.aom_text.proofs.Parting.{lines_first, lines_only, found, not_found}
use Rattle.aom_text.proofs.text.split_text_line.Goals as goal

pub returns-then-end-text-clause-line : goal.returns-then-end-text-clause-line
returns-then-end-text-clause-line c =
    lines_only c.args.text.now (not_found _ c.args.text.now c.scan_line-end.result.0 c.scan_line-end.ensures.end (omega (arith, c.if-end-text.true))) c.requires

pub returns-then-end-text-clause-plain : goal.returns-then-end-text-clause-plain
returns-then-end-text-clause-plain c =
    let all : length c.args.text.now ≤ c.scan_line-end.result.0 = omega (arith, c.if-end-text.true) in
    c.scan_line-end.ensures.plain ∙ ap (list_all is_plain) (take_all _ _ all)

pub returns-clause-line : goal.returns-clause-line
returns-clause-line c =
    let within : c.scan_line-end.result.0 < length c.args.text.now = omega (arith, c.if-end-text.false, c.scan_line-end.ensures.within) in
    lines_first c.args.text.now _ (found _ c.args.text.now c.scan_line-end.result.0 c.scan_line-end.ensures.end within)
