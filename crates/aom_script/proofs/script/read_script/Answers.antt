use Rattle.std.proofs.Common.{IfOk, Ok, Err, Result, ℕ, List, ◌≡◌, rules}
use Rattle.aom_text.specs.Text.{lines_of}
use Rattle.aom_script.specs.Script.{Script, denoted_by, IsTimely}
use Rattle.aom_script.specs.declared.fault.ScriptFault.{ScriptFault}
use Rattle.aom_script.proofs.Timely.{timely}
use Rattle.aom_script.proofs.script.read_script.Goals as goal

of_lines : (lines : List (List ℕ)) (result : Result Script ScriptFault) → IfOk result (λ script. denoted_by lines ≡ Ok script) →
    IfOk result (λ script. IsTimely script.timed)
of_lines lines (Ok script) denotes = timely lines script denotes
of_lines lines (Err fault) denotes = tt

pub returns-clause-timely : goal.returns-clause-timely
returns-clause-timely c = of_lines (lines_of c.args.text.now) c.read_lines.result c.read_lines.ensures.ok

pub returns-clause-err : goal.returns-clause-err
returns-clause-err c = search rules

pub returns-clause-ok : goal.returns-clause-ok
returns-clause-ok c = search rules
