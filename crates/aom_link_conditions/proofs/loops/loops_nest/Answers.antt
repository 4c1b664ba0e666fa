use Rattle.std.proofs.Common.{◌≡◌, Some, slice_get, refl, arith}
use Rattle.std.proofs.lemmas.Option.{slice_get_read}
use Rattle.aom_link_conditions.proofs.Nesting.{scanned_more, must_pass, none_open, nests}
use Rattle.aom_link_conditions.proofs.loops.loops_nest.Goals as goal

pub returns-then-not-pass : goal.returns-then-not-pass
returns-then-not-pass c =
    let here : slice_get c.args.code.now c.loop-place.place ≡ Some c.index-code-place.result =
    slice_get_read _ _ _ _ refl c.loop-place-test.true c.index-code-place.is in (
      λ no. absurd (cc),
      λ nest.
          let pass = must_pass _ _ _ _ here c.loop-place.invariant nest in
          absurd (c.pass.ensures.refused c.if-not-pass.true pass.0 pass.1),
    )

pub loop-place-preserved : goal.loop-place-preserved
loop-place-preserved c = let here : slice_get c.args.code.now c.loop-place.place ≡ Some c.index-code-place.result =
    slice_get_read _ _ _ _ refl c.loop-place-test.true c.index-code-place.is in
    scanned_more _ _ _ _ _ here (c.pass.ensures.done c.if-not-pass.false) c.loop-place.invariant

pub returns : goal.returns
returns c = (
  λ empty. nests _ _ _ c.loop-place-test.false (grind (arith, empty, c.is_empty.ensures)) c.loop-place.invariant,
  λ nest.
      let none = none_open _ _ _ c.loop-place-test.false c.loop-place.invariant nest in
      grind (arith, none, c.is_empty.ensures),
)
