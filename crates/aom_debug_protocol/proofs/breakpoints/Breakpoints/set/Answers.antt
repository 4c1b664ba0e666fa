-- One at its place is written over, and else it stands behind the others.
use Rattle.std.proofs.Common.{◌≡◌, ◌∙◌, ◌++◌, ◌∷◌, [], List, None, Some, ap, cond, length, nat_lt, sym}
use Rattle.std.specs.List.{position, refill}
use Rattle.std.specs.Prelude.{slice_set}
use Rattle.aom_debug_protocol.specs.Marks.{is_at, is_set, with_breakpoint}
use Rattle.aom_debug_protocol.specs.declared.breakpoints.Breakpoint.{Breakpoint}
use Rattle.aom_debug_protocol.proofs.Marking.{added, may_be_set, room_tells, written_back}
use Rattle.aom_debug_protocol.proofs.breakpoints.Breakpoints.set.Goals as goal

pub returns-in-Some-clause-answer : goal.returns-in-Some-clause-answer
returns-in-Some-clause-answer c = let found : Some c.in-Some.index ≡ position (is_at c.args.breakpoint.spot) c.args.self.now =
    c.in-Some.ensures.value ∙ ap (λ (xs : List Breakpoint). position (is_at c.args.breakpoint.spot) xs) (c.as_slice.ensures.value ∙ c.self.view_is) in
    may_be_set c.args.breakpoint.spot c.args.self.now c.in-Some.index (sym found)

pub returns-in-Some-clause-breakpoints : goal.returns-in-Some-clause-breakpoints
returns-in-Some-clause-breakpoints c =
    let found : Some c.in-Some.index ≡ position (is_at c.args.breakpoint.spot) c.self.inside.breakpoints.items =
    c.in-Some.ensures.value ∙ ap (λ (xs : List Breakpoint). position (is_at c.args.breakpoint.spot) xs) c.as_slice.ensures.value in
    written_back c.args.breakpoint c.self.inside.breakpoints.items c.deref_mut.result.now c.in-Some.index c.deref_mut.ensures.value (sym found)
    ∙ ap (with_breakpoint c.args.breakpoint) c.self.view_is

pub returns-in-None-clause-answer : goal.returns-in-None-clause-answer
returns-in-None-clause-answer c = let none : None ≡ position (is_at c.args.breakpoint.spot) c.args.self.now =
    c.in-None.ensures.value ∙ ap (λ (xs : List Breakpoint). position (is_at c.args.breakpoint.spot) xs) (c.as_slice.ensures.value ∙ c.self.view_is) in
    c.add.ensures.answer ∙ room_tells c.args.breakpoint.spot c.args.self.now (sym none)

pub returns-in-None-clause-breakpoints : goal.returns-in-None-clause-breakpoints
returns-in-None-clause-breakpoints c = let none : None ≡ position (is_at c.args.breakpoint.spot) c.args.self.now =
    c.in-None.ensures.value ∙ ap (λ (xs : List Breakpoint). position (is_at c.args.breakpoint.spot) xs) (c.as_slice.ensures.value ∙ c.self.view_is) in
    c.add.ensures.breakpoints ∙ added c.args.breakpoint c.args.self.now (sym none)
