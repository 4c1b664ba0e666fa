use Rattle.std.proofs.Common.{◌≡◌, ◌+◌, ◌∙◌, ℕ, ap, rules, sym, arith, refl, inl, None}
use Rattle.std.proofs.lemmas.Option.{slice_get_within}
use Rattle.aom_source_syntax.specs.Programs.{depth_behind, depth_at}
use Rattle.aom_source_syntax.specs.Reading.{Refuses}
use Rattle.aom_source_syntax.proofs.Standing.{stands_expecting, stands_passed, stands_at, shallow_next, depth_next, refuses_token, program_at_end, none_before_end}
use Rattle.aom_source_syntax.proofs.reader.read.Goals as goal

pub returns-in_err-cursor-clause-refused : goal.returns-in_err-cursor-clause-refused
returns-in_err-cursor-clause-refused c =
    let fact : Refuses c.args.text.now c.in_err-cursor.field-0.0
    = refuses_token c.args.text.now c.expected.new.self.items.items c.expected.new.self.stack c.loop-reader.cursor.at c.loop-reader.cursor.depth c.in-Some.class _
    c.loop-reader.invariant.depth c.loop-reader.invariant.shallow c.in_err-cursor.ensures.token
    (stands_expecting c.args.text.now _ _ c.loop-reader.cursor.at c.in_ok-class.field-0 _ c.in-Some.is c.in_ok-class.ensures.stands) c.in_err-cursor.ensures.refused in
    search rules

pub loop-reader-smaller : goal.loop-reader-smaller
loop-reader-smaller c =
    omega (arith, c.in_ok-cursor.ensures.at, slice_get_within c.args.text.now c.loop-reader.cursor.at c.in-Some.class c.in_ok-cursor.ensures.found)

pub loop-reader-preserved : goal.loop-reader-preserved
loop-reader-preserved c =
    let had = c.in_ok-cursor.ensures in
    let behind : c.in_ok-cursor.cursor.depth ≡ depth_at c.args.text.now c.in_ok-cursor.cursor.at
    = had.depth ∙ ap (λ (n : ℕ). depth_behind n c.in-Some.class) c.loop-reader.invariant.depth
    ∙ sym (depth_next c.args.text.now c.loop-reader.cursor.at c.in-Some.class had.found) ∙ ap (depth_at c.args.text.now) (sym had.at) in
    record {
      stands = stands_at c.args.text.now _ _ (c.loop-reader.cursor.at + 1) c.in_ok-cursor.cursor.at (sym had.at)
          (stands_passed c.args.text.now _ _ c.loop-reader.cursor.at c.in-Some.class had.found
          (stands_expecting c.args.text.now c.expected.new.self.items.items c.expected.new.self.stack c.loop-reader.cursor.at c.in_ok-class.field-0 _ c.in-Some.is c.in_ok-class.ensures.stands));
      within = omega (arith, had.at, slice_get_within c.args.text.now c.loop-reader.cursor.at c.in-Some.class had.found);
      depth = behind;
      few = had.shallow;
      shallow = shallow_next c.args.text.now c.loop-reader.cursor.at c.in_ok-cursor.cursor.at had.at (omega (arith, behind, had.shallow)) c.loop-reader.invariant.shallow;
    }

pub returns-then-cursor-text-clause-refused : goal.returns-then-cursor-text-clause-refused
returns-then-cursor-text-clause-refused c = (
  none_before_end c.args.text.now _ c.loop-reader.cursor.at c.if-cursor-text.true
      (stands_expecting c.args.text.now c.expected.new.self.items.items c.expected.new.self.stack c.loop-reader.cursor.at c.in_ok-class.field-0 None c.in_default.is c.in_ok-class.ensures.stands),
  inl refl,
)

pub returns-clause-program : goal.returns-clause-program
returns-clause-program c =
    program_at_end c.args.text.now _ c.loop-reader.cursor.at (omega arith)
    (stands_expecting c.args.text.now c.expected.new.self.items.items c.expected.new.self.stack c.loop-reader.cursor.at c.in_ok-class.field-0 None c.in_default.is c.in_ok-class.ensures.stands)
