-- A method that is not there, or has a typing, is not refused.
use Rattle.std.proofs.Common.{◌≡◌, ◌∙◌, ◌<◌, ◌≤◌, List, ap, arith, length}
use Rattle.aom_image.specs.Image.{Image}
use Rattle.aom_image.specs.declared.method.Method.{Method}
use Rattle.aom_diagnostic_commands.proofs.StaticBoundsLemmas.{method_within, within_method}
use Rattle.aom_diagnostic_commands.proofs.Knowing.{ends_nowhere, no_method}
use Rattle.aom_diagnostic_commands.proofs.stopping.write_known_in.Goals as goal

pub returns-then-len-number : goal.returns-then-len-number
returns-then-len-number c =
    let shown : c.methods.result.now ≡ c.args.linked.now.methods = c.methods.ensures.value ∙ ap (λ (p : Image). p.methods) c.image.ensures in
    let count : c.len.result ≡ length c.args.linked.now.methods = c.len.ensures ∙ ap (λ (xs : List Method). length xs) shown in
    let past : length c.args.linked.now.methods ≤ c.args.at.now.method = omega (arith, c.if-len-number.true, count, c.number.ensures.value) in
    no_method c.args.told.now c.args.linked.now c.args.at.now.method c.args.at.now.place c.args.at.now.why c.args.out.now
    (λ there. omega (arith, past, method_within c.args.linked.now c.args.at.now.method there))

pub stop_of-requires : goal.stop_of-requires
stop_of-requires c =
    let shown : c.methods.result.now ≡ c.args.linked.now.methods = c.methods.ensures.value ∙ ap (λ (p : Image). p.methods) c.image.ensures in
    let count : c.len.result ≡ length c.args.linked.now.methods = c.len.ensures ∙ ap (λ (xs : List Method). length xs) shown in
    let within : c.args.at.now.method < length c.args.linked.now.methods = omega (arith, c.if-len-number.false, count, c.number.ensures.value) in
    within_method c.args.linked.now c.args.at.now.method within

pub write_stop-requires-clause-method : goal.write_stop-requires-clause-method
write_stop-requires-clause-method c =
    let shown : c.methods.result.now ≡ c.args.linked.now.methods = c.methods.ensures.value ∙ ap (λ (p : Image). p.methods) c.image.ensures in
    let count : c.len.result ≡ length c.args.linked.now.methods = c.len.ensures ∙ ap (λ (xs : List Method). length xs) shown in
    let within : c.args.at.now.method < length c.args.linked.now.methods = omega (arith, c.if-len-number.false, count, c.number.ensures.value) in
    within_method c.args.linked.now c.args.at.now.method within

pub returns-in-None : goal.returns-in-None
returns-in-None c = ends_nowhere c.args.told.now c.args.linked.now c.args.at.now.method c.args.at.now.place c.args.at.now.why c.args.out.now (rw c.in-None.is at c.in_ok-stop.ensures.none)
