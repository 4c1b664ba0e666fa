-- What a line reads as is told after the last time, where the line is counted.
use Rattle.std.proofs.Common.{◌≡◌, ◌∙◌, ◌≤◌, ◌<◌, ℕ, Bool, false, List, Option, Some, Ok, Err, if◌then◌else◌, ap, sym, arith}
use Rattle.aom_script.specs.Script.{counted, in_place, is_back, line_says, reading_of, said_by}
use Rattle.aom_script.specs.declared.fault.ScriptFaultKind.TheVariants.{LimitPassed, TimeBack}
use Rattle.aom_script.specs.declared.line.ScriptLine.{ScriptLine}
use Rattle.aom_script.specs.declared.reading.Reading.{Reading}
use Rattle.aom_script.proofs.line.read_line.Goals as goal

reported : (number last : ℕ) (line : List ℕ) (reading : Reading) (said : Option ScriptLine) →
    Ok reading ≡ reading_of line → false ≡ is_back last reading → said ≡ said_by reading → counted number said ≡ line_says number last line
reported number last line reading said is on says = ap (counted number) says ∙ ap (λ (b : Bool). if b then Err TimeBack else counted number (said_by reading)) on
    ∙ ap (in_place number last) is

within : (number : ℕ) (said : ScriptLine) → number ≤ 65536 → Ok said ≡ counted number (Some said)
within number said few = grind arith

beyond : (number : ℕ) (said : ScriptLine) → 65536 < number → Err LimitPassed ≡ counted number (Some said)
beyond number said many = grind arith

pub returns-in-Some : goal.returns-in-Some
returns-in-Some c = within _ _ c.if-number-le-MAX_LINES.true ∙ reported c.args.number c.args.last c.args.line.now c.in_ok-reading.reading _
    (sym c.in_ok-reading.was ∙ c.of.ensures) c.if-is_back.ensures (sym c.in-Some.is ∙ c.said_by.ensures)

pub returns-in_default : goal.returns-in_default
returns-in_default c = beyond _ c.in-Some.said c.if-number-le-MAX_LINES.false ∙ reported c.args.number c.args.last c.args.line.now c.in_ok-reading.reading _
    (sym c.in_ok-reading.was ∙ c.of.ensures) c.if-is_back.ensures (sym c.in-Some.is ∙ c.said_by.ensures)

pub returns-in_default-2 : goal.returns-in_default-2
returns-in_default-2 c = reported c.args.number c.args.last c.args.line.now c.in_ok-reading.reading _
    (sym c.in_ok-reading.was ∙ c.of.ensures) c.if-is_back.ensures (sym c.in_default.is ∙ c.said_by.ensures)
