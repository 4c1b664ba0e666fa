-- What was written went out whole, or the failure is left to be told.
use Rattle.std.proofs.Common.{◌∙◌, refl, sym, inl, inr}
use Rattle.aom_commands.proofs.Untelling.{out_same, says_same}
use Rattle.aom_commands.proofs.pricing.show.Goals as goal

pub returns-then-has_failed : goal.returns-then-has_failed
returns-then-has_failed g c =
    let written = c.write_text.ensures in
    λ errors status reported. inr (
      reported.0,
      sym c.has_failed.ensures ∙ c.if-has_failed.true,
      says_same c.deref.result.now _ _ c.deref.ensures.value (record { count = written.prefix.0; part = written.prefix.2; whole = written.whole }),
      reported.1,
    )

pub returns-in-Some : goal.returns-in-Some
returns-in-Some g c =
    let written = out_same c.deref.result.now _ _ _ c.deref.ensures.value (c.write_text.ensures.whole (sym c.has_failed.ensures ∙ c.if-has_failed.false)) in
    rw c.in-Some.is (λ errors status reported. inl (reported.0, written, reported.1))

pub returns-in-None : goal.returns-in-None
returns-in-None g c =
    let written = out_same c.deref.result.now _ _ _ c.deref.ensures.value (c.write_text.ensures.whole (sym c.has_failed.ensures ∙ c.if-has_failed.false)) in
    rw c.in-None.is (λ errors silent. inl (refl, written, silent))
