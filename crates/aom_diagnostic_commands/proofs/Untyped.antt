-- A method has no typing where a state that arrives at one of its places is refused there: a typing says no more than each that arrives.
use Rattle.std.proofs.Common.{◌≡◌, ◌∙◌, ℕ, List, [], ◌∷◌, Err, inl, inr, sym}
use Rattle.std.proofs.lemmas.Option.{same_Some}
use Rattle.aom_image.specs.Image.{Image}
use Rattle.aom_instructions.specs.declared.instr.Instr.{Instr}
use Rattle.aom_roles.specs.Tests.{AllTrue}
use Rattle.aom_abstract_state.specs.AbstractState.{AbstractState}
use Rattle.aom_abstract_state.specs.Arguments.{entry_shape}
use Rattle.aom_abstract_state.specs.Needs.{Flow, Need, judged}
use Rattle.aom_abstract_state.specs.declared.why.Reason.{Reason}
use Rattle.aom_typing_rules.specs.Rules.{flows, rule_needs}
use Rattle.aom_static_bounds.specs.Shapes.{AllMet, Applies, HasTyping, IsMethodTyped, Meets, Shapes}
use Rattle.aom_verify.specs.Arrivals.{Arrives, FailsFor, IsOneOf, IsRefused, StopsAt}
use Rattle.aom_verify.specs.Arrivals.Arrives.{begins, led, met}
use Rattle.aom_verify.specs.Arrivals.FailsFor.{by_meet, by_rule}
use Rattle.aom_verify.specs.Arrivals.IsRefused.{by_need, without_meet}
use Rattle.aom_diagnostic_commands.proofs.AbstractStateLemmas.{transitive}
use Rattle.aom_diagnostic_commands.proofs.TypingRulesLemmas.{flows_more, needs_more}
use Rattle.aom_diagnostic_commands.proofs.VerifyLemmas.{follow_met}

-- ---- what is met

one_met : (t : Shapes) (ways : List Flow) (way : Flow) → AllMet t ways → IsOneOf ways way → Meets t way.0 way.1
one_met t [] way all one = absurd one
one_met t (x ∷ xs) way all (inl same) = rw same all.0
one_met t (x ∷ xs) way all (inr one) = one_met t xs way all.1 one

-- needs that are all met are not judged to fail
passes : {A : Type 0} (xs : List Need) (a : A) (why : Reason) → AllTrue xs → judged xs a ≡ Err why → ⊥
passes [] a why all e = absurd cc
passes (x ∷ xs) a why all e = passes xs a why all.1 (rw all.0 at e)

-- ---- a typing of the method

module _ (p : Image) (m : ℕ) (t : Shapes) (typed : IsMethodTyped p m t) where
  -- it applies to what arrives
  needs_met : (pc : ℕ) (sh : AbstractState) (i : Instr) (meets : Meets t pc sh) (applies : Applies p m t pc meets.next) → applies.instr ≡ i → AllTrue (rule_needs p m pc sh i)
  needs_met pc sh i meets applies same = needs_more p m pc meets.next sh i meets.implied (rw same at applies.needs)

  ways_met : (pc : ℕ) (sh : AbstractState) (i : Instr) (meets : Meets t pc sh) (applies : Applies p m t pc meets.next) → applies.instr ≡ i → AllMet t (flows p m pc sh i)
  ways_met pc sh i meets applies same =
      follow_met t (flows p m pc meets.next i) (flows p m pc sh i) (flows_more p m pc meets.next sh i meets.implied (rw same at applies.needs)) (rw same at applies.flows)

  arrival_met : (pc : ℕ) (sh : AbstractState) → Arrives p m pc sh → Meets t pc sh
  arrival_met _ _ (begins {sh} implied no_less) =
      let entry = typed.entry in
      record { next = entry.next; there = entry.there; implied = transitive entry.next (entry_shape p m) sh entry.implied no_less }
  arrival_met _ _ (led {pc} {to} {sh} {next} {i} before stands needs one) =
      let meets = arrival_met pc sh before in
      let applies = typed.each pc meets.next meets.there in
      let same : applies.instr ≡ i = same_Some applies.instr i (sym applies.stands ∙ stands) in
      one_met t (flows p m pc sh i) (to, next) (ways_met pc sh i meets applies same) one
  arrival_met _ _ (met {pc} {a} {b} {c} first second meet) =
      let one = arrival_met pc a first in
      let other = arrival_met pc b second in
      let same : other.next ≡ one.next = same_Some other.next one.next (sym other.there ∙ one.there) in
      record { next = one.next; there = one.there; implied = meet.strongest one.next one.implied (rw same at other.implied) }

  never_fails : (pc : ℕ) (why : Reason) → FailsFor p m pc why → ⊥
  never_fails pc why (by_rule {sh} {i} arrives stands fails) =
      let meets = arrival_met pc sh arrives in
      let applies = typed.each pc meets.next meets.there in
      let same : applies.instr ≡ i = same_Some applies.instr i (sym applies.stands ∙ stands) in
      passes (rule_needs p m pc sh i) (flows p m pc sh i) why (needs_met pc sh i meets applies same) fails
  never_fails pc why (by_meet {a} {b} first second none reason) =
      let one = arrival_met pc a first in
      let other = arrival_met pc b second in
      let same : other.next ≡ one.next = same_Some other.next one.next (sym other.there ∙ one.there) in
      none.none one.next one.implied (rw same at other.implied)

-- ---- where the verifier stops

pub fails_there : (p : Image) (m : ℕ) (s : Shapes) (place : ℕ) (why : Reason) → StopsAt p m s place why → FailsFor p m place why
fails_there p m s place why stops = go stops.refused
  where
    go : IsRefused p m place stops.shape why → FailsFor p m place why
    go (by_need is reported) = by_rule (stops.arrive place stops.shape stops.there) is reported
    go (without_meet other none reported) = by_meet (stops.arrive place stops.shape stops.there) other none reported

pub untyped_there : (p : Image) (m place : ℕ) (why : Reason) → FailsFor p m place why → ¬ HasTyping p m
untyped_there p m place why fails typing = never_fails p m typing.states typing.typed place why fails
