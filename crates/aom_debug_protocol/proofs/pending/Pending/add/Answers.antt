-- A byte is kept where there is room for it.
use Rattle.std.proofs.Common.{◌≡◌, ◌≢◌, ◌<◌, ◌==◌, ◌∙◌, length, true, false, sym, rules, tests, arith}
use Rattle.aom_debug_protocol.proofs.Keeping.{full, fits}
use Rattle.aom_debug_protocol.proofs.pending.Pending.add.Goals as goal

pub returns-then-is_full : goal.returns-then-is_full
returns-then-is_full c = λ line is.
    let e : (length c.self.inside.bytes.items == 256) ≡ true = sym c.is_full.ensures.value ∙ c.if-is_full.true in
    let at : length c.self.inside.bytes.items ≡ 256 = search (rules, tests, e) in
    full line c.args.byte _ (c.self.view_is ∙ is) at

pub returns-else-is_full : goal.returns-else-is_full
returns-else-is_full c = λ line is.
    let e : (length c.self.inside.bytes.items == 256) ≡ false = sym c.is_full.ensures.value ∙ c.if-is_full.false in
    let ne : length c.self.inside.bytes.items ≢ 256 = search (rules, tests, e) in
    let below : length c.self.inside.bytes.items < 256 = omega (arith, ne, c.is_full.ensures.fits) in
    rw c.push.ensures.items (fits line c.args.byte _ (c.self.view_is ∙ is) below)
