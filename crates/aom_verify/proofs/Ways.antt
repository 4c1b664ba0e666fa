-- What the rule answers: its needs hold and its flows stay within the method, or a need fails.
use Rattle.std.proofs.Common.{◌≡◌, ℕ, suc, ◌<◌, true, false, cond, List, [], ◌∷◌, length, IsSome, IfSome, Some, None, Result, Ok, Err, refl, sym, ap, subst}
use Rattle.std.specs.Prelude.{IfOk, IfErr}
use Rattle.aom_image.specs.Image.{Image}
use Rattle.aom_image.specs.Views.{instr_at, method_at}
use Rattle.aom_instructions.specs.declared.instr.Instr.{Instr}
use Rattle.aom_link_conditions.specs.Jumps.{KeepsWithin, back_of, jump_of}
use Rattle.aom_link_conditions.specs.Linked.{IsLinked}
use Rattle.aom_link_conditions.specs.Loops.{LoopsNest}
use Rattle.aom_verify.proofs.LinkConditionsLemmas.{at_place, back_within, linked_place, of_method}
use Rattle.aom_image.specs.declared.method.Method.{Method}
use Rattle.aom_roles.specs.Tests.{AllTrue}
use Rattle.aom_abstract_state.specs.Kinds.{register, field}
use Rattle.aom_abstract_state.specs.Changes.{reported, ways_from}
use Rattle.aom_abstract_state.specs.Needs.{Need, Flow, judged}
use Rattle.aom_abstract_state.specs.declared.flow.Flow.{Flow as Ruled}
use Rattle.aom_typing_rules.specs.Objects.{flow_jump_null, flow_jump_empty}
use Rattle.aom_typing_rules.specs.Rules.{rule_needs, flows, rule, ways_of}
use Rattle.aom_abstract_state.specs.AbstractState.{AbstractState}
use Rattle.aom_typing_rules.specs.Ways.{Ways, Ends, Goes_on, Goes_to, Branches, Goes_back, Branches_on_null, Branches_on_empty, Branches_in, flowing}
use Rattle.aom_abstract_state.specs.declared.kind.FieldState.{FieldState}
use Rattle.aom_abstract_state.specs.declared.kind.FieldState.TheVariants as field_states
use Rattle.aom_abstract_state.specs.declared.kind.Kind.{Kind}
use Rattle.aom_abstract_state.specs.declared.kind.Kind.TheVariants as kinds
use Rattle.aom_abstract_state.specs.declared.why.Reason.{Reason}
use Rattle.aom_verify.proofs.TypingRulesLemmas.{Leads, by_states, leads}
use Rattle.aom_verify.specs.Sweep.{AllWithin, Flows, Fails, WithinMethod}

judged_ok : (needs : List Need) (fs gs : List Flow) → judged needs fs ≡ Ok gs → AllTrue needs × (gs ≡ fs)
judged_ok [] fs gs e = (tt, cc)
judged_ok (need ∷ needs) fs gs e = elim need.0 as (λ b. cond b (judged needs fs) (Err need.1) ≡ Ok gs → ((b ≡ true) × AllTrue needs) × (gs ≡ fs)) [
  | true ↦ λ e. let r = judged_ok needs fs gs e in ((refl, r.0), r.1)
  | false ↦ λ e. absurd cc
] e

judged_err : (needs : List Need) (fs : List Flow) (why : Reason) → judged needs fs ≡ Err why → ¬ AllTrue needs
judged_err [] fs why e = λ all. cc
judged_err (need ∷ needs) fs why e = λ all. judged_err needs fs why (rw all.0 at e) all.1

pub has_flows : (p : Image) (m pc : ℕ) (sh : AbstractState) (ways : List Flow) → IsSome (instr_at p m pc) →
    IfSome (instr_at p m pc) (λ i. Ok ways ≡ rule p m pc sh i) → Flows p m pc sh ways
has_flows p m pc sh ways some h =
    elim (instr_at p m pc) as (λ o. instr_at p m pc ≡ o → IsSome o → IfSome o (λ i. Ok ways ≡ rule p m pc sh i) → Flows p m pc sh ways) [
      | None ↦ λ e some h. absurd cc
      | Some i ↦ λ e some h.
          let r = judged_ok (rule_needs p m pc sh i) (flows p m pc sh i) ways (sym h) in
          record { instr = i; stands = e; needs = r.0; is = r.1 }
    ] refl some h

pub has_failed : (p : Image) (m pc : ℕ) (sh : AbstractState) (why : Reason) → IsSome (instr_at p m pc) →
    IfSome (instr_at p m pc) (λ i. Err why ≡ rule p m pc sh i) → Fails p m pc sh why
has_failed p m pc sh why some h =
    elim (instr_at p m pc) as (λ o. instr_at p m pc ≡ o → IsSome o → IfSome o (λ i. Err why ≡ rule p m pc sh i) → Fails p m pc sh why) [
      | None ↦ λ e some h. absurd cc
      | Some i ↦ λ e some h. record { instr = i; stands = e; unmet = judged_err (rule_needs p m pc sh i) (flows p m pc sh i) why (sym h); is = sym h }
    ] refl some h

-- ---- of what the rule answers

pub rule_flows : (p : Image) (m pc : ℕ) (sh : AbstractState) (r : Result Ruled Reason) → IsSome (instr_at p m pc)
    → IfSome (instr_at p m pc) (λ i. reported sh.entries r ≡ rule p m pc sh i) → IfOk r (λ flow. Flows p m pc sh (ways_from sh.entries flow))
rule_flows p m pc sh (Ok flow) some h = has_flows p m pc sh (ways_from sh.entries flow) some h
rule_flows p m pc sh (Err why) some h = tt

pub rule_fails : (p : Image) (m pc : ℕ) (sh : AbstractState) (r : Result Ruled Reason) → IsSome (instr_at p m pc)
    → IfSome (instr_at p m pc) (λ i. reported sh.entries r ≡ rule p m pc sh i) → IfErr r (λ why. Fails p m pc sh why)
rule_fails p m pc sh (Ok flow) some h = tt
rule_fails p m pc sh (Err why) some h = has_failed p m pc sh why some h

-- ---- within the method

null_within : (p : Image) (m n pc : ℕ) (sh : AbstractState) (k : Kind) (a to : ℕ) → to < n → suc pc < n → AllWithin n (flow_jump_null p m pc sh k a to)
null_within p m n pc sh kinds.Unset a to h next = tt
null_within p m n pc sh kinds.Word a to h next = tt
null_within p m n pc sh kinds.Null a to h next = (h, tt)
null_within p m n pc sh (kinds.Own t age) a to h next = (next, tt)
null_within p m n pc sh (kinds.Maybe t age) a to h next = (next, (h, tt))

empty_within : (p : Image) (m n pc : ℕ) (sh : AbstractState) (x : FieldState) (f to : ℕ) → to < n → suc pc < n → AllWithin n (flow_jump_empty p m pc sh x f to)
empty_within p m n pc sh field_states.Empty f to h next = (h, tt)
empty_within p m n pc sh field_states.Full f to h next = (next, tt)
empty_within p m n pc sh field_states.Perhaps f to h next = (next, (h, tt))

-- the flows of an instruction that keeps within its method
flows_within : (p : Image) (m n pc : ℕ) (sh : AbstractState) (i : Instr) → KeepsWithin n pc i → IfSome (back_of i) (λ t. t < n) → AllWithin n (flows p m pc sh i)
flows_within p m n pc sh i h back = within (ways_of p i) (leads p i)
  where
    jumps : (to : ℕ) → jump_of i ≡ Some to → to < n
    jumps to e = subst (λ o. IfSome o (λ t. t < n)) e h.within

    within : (ways : Ways) → Leads i ways → AllWithin n (flowing p m pc sh ways)
    within Ends lead = tt
    within (Goes_on news) lead = (h.ends lead, tt)
    within (Goes_to to) lead = (jumps to lead, tt)
    within (Branches to) lead = (h.ends (ap (λ x. x.0) lead), (jumps to (ap (λ x. x.1) lead), tt))
    within (Goes_back to) lead = (subst (λ o. IfSome o (λ t. t < n)) (ap (λ x. x.1) lead) back, (h.ends (ap (λ x. x.0) lead), tt))
    within (Branches_on_null a to) lead = null_within p m n pc sh (register sh a) a to (jumps to (ap (λ x. x.1) lead)) (h.ends (ap (λ x. x.0) lead))
    within (Branches_on_empty f to) lead = empty_within p m n pc sh (field sh f) f to (jumps to (ap (λ x. x.1) lead)) (h.ends (ap (λ x. x.0) lead))
    within (Branches_in there here to) lead =
        let on = h.ends (ap (λ x. x.0) lead) in
        let turned = jumps to (ap (λ x. x.1) lead) in
        by_states (λ fs. AllWithin n fs) sh (suc pc) there here to tt (λ s. (on, tt)) (λ t. (turned, tt)) (λ s t. (on, (turned, tt)))

nest_of : (p : Image) (m : ℕ) (d : Method) → IsLinked p → method_at p m ≡ Some d → LoopsNest d.code
unfolding method_at
nest_of p m d linked e = at_place (λ _ x. LoopsNest x.code) p.methods m d linked.loops e

pub ways_within : (p : Image) (m pc : ℕ) (sh : AbstractState) (ways : List Flow) → IsLinked p → Flows p m pc sh ways → WithinMethod p m ways
ways_within p m pc sh ways linked h = record {
  each = λ d e.
      let w = of_method p m pc h.instr h.stands in
      let same : w.0 ≡ d = let f = w.1 in cc in
      let keeps = linked_place p m pc d h.instr linked e (rw same at w.2) in
      let nest = nest_of p m d linked e in
      rw h.is (flows_within p m (length d.code) pc sh h.instr keeps (back_within d.code pc h.instr nest (rw same at w.2)));
}
