use Rattle.std.proofs.Common.{sym, subst, arith}
use Rattle.aom_source_syntax.specs.declared.fault.SyntaxFault.{SyntaxFault}
use Rattle.aom_source_syntax.specs.Reading.{Mismatch}
use Rattle.aom_source_syntax.proofs.cursor.Cursor.pass.Goals as goal

pub returns-then-depth-gt-MOST_OPEN-clause-refused : goal.returns-then-depth-gt-MOST_OPEN-clause-refused
returns-then-depth-gt-MOST_OPEN-clause-refused c =
    let P : SyntaxFault → Type 0 = λ x. Mismatch c.args.text.now c.args.self.at c.args.self.depth c.args.class x.kind in
    subst P (sym c.fault-then-depth-gt-MOST_OPEN.ensures)
    (c.has.ensures.0 c.if-not-has.false, omega (arith, c.if-depth-gt-MOST_OPEN.true, c.depth_behind-depth.ensures))
