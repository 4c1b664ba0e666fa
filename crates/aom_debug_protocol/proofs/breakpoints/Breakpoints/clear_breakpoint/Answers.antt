-- The one that the search finds is taken away.
use Rattle.std.proofs.Common.{◌≡◌, ◌∙◌, List, None, Some, ap, sym}
use Rattle.std.specs.List.{position, remove}
use Rattle.aom_debug_protocol.specs.Marks.{is_at}
use Rattle.aom_debug_protocol.specs.declared.breakpoints.Breakpoint.{Breakpoint}
use Rattle.aom_debug_protocol.proofs.Marking.{none_has, none_kept, taken_has, taken_is}
use Rattle.aom_debug_protocol.proofs.breakpoints.Breakpoints.clear_breakpoint.Goals as goal

pub returns-in-Some-clause-answer : goal.returns-in-Some-clause-answer
returns-in-Some-clause-answer c = let found : Some c.in-Some.index ≡ position (is_at c.args.spot) c.args.self.now =
    c.in-Some.ensures.value ∙ ap (λ (xs : List Breakpoint). position (is_at c.args.spot) xs) (c.as_slice.ensures.value ∙ c.self.view_is) in
    sym (taken_has c.args.spot c.args.self.now c.in-Some.index (sym found))

pub returns-in-Some-clause-breakpoints : goal.returns-in-Some-clause-breakpoints
returns-in-Some-clause-breakpoints c = let found : Some c.in-Some.index ≡ position (is_at c.args.spot) c.args.self.now =
    c.in-Some.ensures.value ∙ ap (λ (xs : List Breakpoint). position (is_at c.args.spot) xs) (c.as_slice.ensures.value ∙ c.self.view_is) in
    c.remove.ensures.items ∙ ap (λ (xs : List Breakpoint). remove xs c.in-Some.index) c.self.view_is ∙ taken_is c.args.spot c.args.self.now c.in-Some.index (sym found)

pub returns-in-None-clause-answer : goal.returns-in-None-clause-answer
returns-in-None-clause-answer c = let none : None ≡ position (is_at c.args.spot) c.args.self.now =
    c.in-None.ensures.value ∙ ap (λ (xs : List Breakpoint). position (is_at c.args.spot) xs) (c.as_slice.ensures.value ∙ c.self.view_is) in
    sym (none_has c.args.spot c.args.self.now (sym none))

pub returns-in-None-clause-breakpoints : goal.returns-in-None-clause-breakpoints
returns-in-None-clause-breakpoints c = let none : None ≡ position (is_at c.args.spot) c.args.self.now =
    c.in-None.ensures.value ∙ ap (λ (xs : List Breakpoint). position (is_at c.args.spot) xs) (c.as_slice.ensures.value ∙ c.self.view_is) in
    sym (none_kept c.args.spot c.args.self.now (none_has c.args.spot c.args.self.now (sym none)))
