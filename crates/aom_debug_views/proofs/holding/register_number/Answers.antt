-- A frame's registers are shown by its strongest abstract state, and what is no frame has none.
use Rattle.std.proofs.Common.{subst, sym}
use Rattle.aom_semantics.specs.Places.{Register}
use Rattle.aom_debug_views.specs.Owners.{Shows}
use Rattle.aom_debug_views.proofs.Numbers.{shown_if, shows_null}
use Rattle.aom_debug_views.proofs.Registers.{frame_method, frame_shown, is_reached}
use Rattle.aom_debug_views.proofs.Tasks.{frame_stands, no_registers}
use Rattle.aom_debug_views.proofs.holding.register_number.Goals as goal

pub returns-in_default : goal.returns-in_default
returns-in_default c =
    let p = c.args.checked.now in
    let m = c.args.parts.now in
    shows_null (record { image = p; parts = m }) (Register c.args.depth c.args.register) (no_registers p m c.args.depth c.in_default.ensures c.args.register)

pub shape-requires : goal.shape-requires
shape-requires c =
    let p = c.args.checked.now in
    let m = c.args.parts.now in
    frame_method p m c.requires.agrees c.requires.stands c.args.depth c.in-Some.frame (frame_stands p m c.args.depth c.in-Some.frame c.in-Some.ensures)

pub returns-in-Some-shape : goal.returns-in-Some-shape
returns-in-Some-shape c =
    let p = c.args.checked.now in
    let m = c.args.parts.now in
    let all = frame_shown p m c.requires.agrees c.args.depth _ _ (frame_stands p m c.args.depth c.in-Some.frame c.in-Some.ensures) c.in-Some-shape.ensures in
    subst (λ n. Shows (record { image = p; parts = m }) n (Register c.args.depth c.args.register)) (sym c.register_in.ensures)
    (shown_if _ (record { image = p; parts = m }) _ (Register c.args.depth c.args.register) (all.each c.args.register))

pub returns-in-None : goal.returns-in-None
returns-in-None c =
    let p = c.args.checked.now in
    let m = c.args.parts.now in
    let f = c.in-Some.frame in
    record { each = λ s st. absurd (is_reached p m c.requires.agrees s st _ f (frame_stands p m c.args.depth f c.in-Some.ensures) c.in-None.ensures) }
