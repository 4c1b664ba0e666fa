-- The frame's register is told by its strongest abstract state, and what is no frame has none.
use Rattle.std.proofs.Common.{◌∙◌, ap, sym}
use Rattle.std.specs.Prelude.{is_some}
use Rattle.aom_semantics.specs.Owned.{over}
use Rattle.aom_debug_views.specs.Frames.{kinds_of}
use Rattle.aom_debug_views.proofs.Contents.{frame_shows, no_register, typed_register}
use Rattle.aom_debug_views.proofs.Registers.{frame_method, is_reached}
use Rattle.aom_debug_views.proofs.Tasks.{frame_stands, frames_reported}
use Rattle.aom_debug_views.proofs.frames.register_over.Goals as goal

pub returns-in_default : goal.returns-in_default
returns-in_default c = λ t strongest s st.
    let p = c.args.checked.now in
    let k = c.args.depth in
    let none = sym (frames_reported p c.args.parts.now s st k) ∙ ap is_some (sym c.in_default.ensures) in
    sym (no_register (λ i. kinds_of t (over s.tasks k) i) s.cells k (over s.tasks k) c.args.register none)

pub shape-requires : goal.shape-requires
shape-requires c =
    let p = c.args.checked.now in
    let m = c.args.parts.now in
    frame_method p m c.requires.agrees c.requires.stands c.args.depth c.in-Some.frame (frame_stands p m c.args.depth c.in-Some.frame c.in-Some.ensures)

pub returns-in-Some-shape : goal.returns-in-Some-shape
returns-in-Some-shape c = λ t strongest s st.
    let p = c.args.checked.now in
    let m = c.args.parts.now in
    let k = c.args.depth in
    let f = c.in-Some.frame in
    let sh = c.in-Some-shape.shape in
    let there = frame_stands p m k f c.in-Some.ensures in
    let shown = frame_shows p m c.requires.stands c.requires.agrees k f sh there c.in-Some-shape.ensures in
    let method = frame_method p m c.requires.agrees c.requires.stands k f there in
    c.register_answer.ensures p k shown s st ∙ typed_register p m f sh k shown method c.in-Some-shape.ensures t strongest s st c.args.register

pub returns-in-None : goal.returns-in-None
returns-in-None c = λ t strongest s st.
    let p = c.args.checked.now in
    let m = c.args.parts.now in
    let f = c.in-Some.frame in
    absurd (is_reached p m c.requires.agrees s st c.args.depth f (frame_stands p m c.args.depth f c.in-Some.ensures) c.in-None.ensures)
