-- What goes out is the buffer's lines, or a beginning of them.
use Rattle.std.proofs.Common.{List, ap, length, rules, sym, ◌≡◌, ◌∙◌}
use Rattle.aom_machine_state.specs.LineBuffer.{LineBuffer}
use Rattle.aom_debug_stepping.proofs.Sending.{after_none, none_there}
use Rattle.aom_debug_stepping.proofs.stepping.send.Goals as goal

-- ---- there are none

pub returns-then-is_empty-clause-clear : goal.returns-then-is_empty-clause-clear
returns-then-is_empty-clause-clear g c =
    let none : length c.args.lines.now.lines ≡ 0 = search rules in
    ap (λ ls. record c.args.lines.now { lines = ls }) (none_there c.args.lines.now.lines none)

pub returns-then-is_empty-clause-prefix : goal.returns-then-is_empty-clause-prefix
returns-then-is_empty-clause-prefix g c =
    let none : length c.args.lines.now.lines ≡ 0 = search rules in
    (0, after_none _)

pub returns-then-is_empty-clause-whole : goal.returns-then-is_empty-clause-whole
returns-then-is_empty-clause-whole g c = λ all.
    let none : length c.args.lines.now.lines ≡ 0 = search rules in
    rw (none_there c.args.lines.now.lines none) (after_none _)

-- ---- there are some

pub returns-clause-prefix : goal.returns-clause-prefix
returns-clause-prefix g c = rw c.lines-2.ensures at c.write_lines.ensures.prefix

pub returns-clause-whole : goal.returns-clause-whole
returns-clause-whole g c = search rules
