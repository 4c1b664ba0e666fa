-- One register after another.
use Rattle.std.proofs.Common.{◌≡◌, ◌∙◌, ℕ, List, ap, arith, subst, sym}
use Rattle.aom_semantics.specs.Places.{Register}
use Rattle.aom_semantics.specs.State.{State}
use Rattle.aom_machine_state.specs.Stands.{MachineModel}
use Rattle.std.specs.Prelude.{IfSome, option_map}
use Rattle.aom_debug_views.specs.Owners.{In_register, Owned, Shows, frame_registers, grown, way_text}
use Rattle.aom_debug_views.proofs.Sought.{among_next, among_part, not_there, text_among}
use Rattle.aom_debug_views.proofs.seeking.seek_task.Goals as goal

abbrev hangs : State → (depth frames i : ℕ) → List Owned
hangs s depth frames i = grown s.cells (In_register frames i) (Register depth i)

pub returns-then-is_some : goal.returns-then-is_some
returns-then-is_some c = λ s st.
    let i = c.loop-register.register in
    let m : MachineModel = record { image = c.args.checked.now; parts = c.args.parts.now } in
    among_part c.args.sought (hangs s c.args.depth c.args.frames) i 16 c.seek_place-found.result c.loop-register-test.true (c.loop-register.invariant s st)
    (c.seek_place-found.ensures c.args.checked.now (In_register c.args.frames i) (Register c.args.depth i) c.register.ensures.text
    (subst (λ k. Shows m c.register_number-number.result (Register c.args.depth k)) (subst (λ o. IfSome o (λ n. n ≡ i)) c.unwrap-at.ensures c.new.ensures.value)
    c.register_number-number.ensures) s st) (sym c.is_some.ensures ∙ c.if-is_some.true)

pub loop-register-preserved : goal.loop-register-preserved
loop-register-preserved c = λ s st.
    let i = c.loop-register.register in
    let m : MachineModel = record { image = c.args.checked.now; parts = c.args.parts.now } in
    among_next c.args.sought (hangs s c.args.depth c.args.frames) i (c.loop-register.invariant s st) (not_there c.args.sought c.seek_place-found.result _
    (c.seek_place-found.ensures c.args.checked.now (In_register c.args.frames i) (Register c.args.depth i) c.register.ensures.text
    (subst (λ k. Shows m c.register_number-number.result (Register c.args.depth k)) (subst (λ o. IfSome o (λ n. n ≡ i)) c.unwrap-at.ensures c.new.ensures.value)
    c.register_number-number.ensures) s st) (sym c.is_some.ensures ∙ c.if-is_some.false))

pub returns : goal.returns
returns c = λ s st.
    let most = c.loop-register.auto.register-end in
    let least = c.loop-register-test.false in
    let all : c.loop-register.register ≡ 16 = omega (arith, most, least) in
    sym (ap (λ k. text_among c.args.sought (frame_registers s.cells c.args.depth c.args.frames k)) (sym all)
    ∙ ap (option_map way_text) (c.loop-register.invariant s st))
