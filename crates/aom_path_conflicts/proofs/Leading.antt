-- Where the state of a place leads, by what the rule answers.
use Rattle.std.proofs.Common.{◌≡◌, ℕ, ◌<◌, ◌≤◌, List, None, IfSome, IsSome, Option, Some, arith, length, subst, sym}
use Rattle.std.specs.Prelude.{IfNone}
use Rattle.std.proofs.lemmas.Option.{slice_get_past}
use Rattle.aom_image.specs.Image.{Image}
use Rattle.aom_image.specs.Views.{instr_at, instr_in, method_at}
use Rattle.aom_image.specs.declared.method.Method.{Method}
use Rattle.aom_abstract_state.specs.AbstractState.{AbstractState}
use Rattle.aom_abstract_state.specs.Changes.{ways_from}
use Rattle.aom_abstract_state.specs.Needs.{Flow}
use Rattle.aom_abstract_state.specs.declared.flow.Flow.{Flow as Answered}
use Rattle.aom_abstract_state.specs.declared.kind.CleanupEntry.{CleanupEntry}
use Rattle.aom_abstract_state.specs.declared.kind.Kind.{Kind}
use Rattle.aom_abstract_state.specs.declared.why.Reason.{Reason}
use Rattle.aom_abstract_state.proofs.AbstractStateLemmas.{there}
use Rattle.aom_verify.specs.Sweep.{Fails, Flows}
use Rattle.aom_path_conflicts.specs.Conflicts.{AgreesAt, DiffersAt, EachAgrees, LeadsOn, SomeDiffers}
use Rattle.aom_path_conflicts.specs.declared.conflict.Difference.{Difference}

pub has_instr : (p : Image) (m place : ℕ) (method : Method) → method_at p m ≡ Some method → place < length method.code → IsSome (instr_at p m place)
unfolding instr_in
has_instr p m place method is within = rw is (there method.code place within)

pub has_no_instr : (p : Image) (m place : ℕ) (method : Method) → method_at p m ≡ Some method → length method.code ≤ place → instr_at p m place ≡ None
unfolding instr_in
has_no_instr p m place method is past = rw is (slice_get_past method.code place past)

module _ (p : Image) (m from : ℕ) (sh : AbstractState) (place : ℕ) (here : List Kind) where
  pub too_many : 1024 ≤ length sh.entries → AgreesAt p m from sh place here
  too_many many = record { each = λ ways leads. absurd (omega (arith, many, leads.few)) }

  pub past_end : (method : Method) → method_at p m ≡ Some method → length method.code ≤ from → AgreesAt p m from sh place here
  past_end method is past = record {
    each = λ ways leads.
        let none = has_no_instr p m from method is past in
        let some = leads.flows.stands in
        absurd cc;
  }

  ways_differ : (ways : List Flow) (d : Difference) → length sh.entries < 1024 → Flows p m from sh ways → SomeDiffers here place d ways → DiffersAt p m from sh place here d
  ways_differ ways d few flows differs = record { ways = ways; leads = record { few = few; flows = flows }; differs = differs }

  pub same_ways : (one other : List Flow) → Flows p m from sh one → Flows p m from sh other → one ≡ other
  same_ways one other a b =
      let first = a.stands in
      let second = b.stands in
      let is = a.is in
      let so = b.is in
      cc

  ways_agree : (ways : List Flow) → Flows p m from sh ways → EachAgrees here place ways → AgreesAt p m from sh place here
  ways_agree ways flows agree = record { each = λ other leads. subst (λ (ws : List Flow). EachAgrees here place ws) (same_ways ways other flows leads.flows) agree }

  pub refused : (why : Reason) → Fails p m from sh why → AgreesAt p m from sh place here
  refused why fails = record {
    each = λ ways leads.
        let same : leads.flows.instr ≡ fails.instr = let first = leads.flows.stands in let second = fails.stands in cc in
        absurd (fails.unmet (rw same at leads.flows.needs));
  }

  -- ---- by what flows come of the answer

  pub answer_differs : (flow : Answered) (found : Option Difference) → length sh.entries < 1024 → Flows p m from sh (ways_from sh.entries flow) →
      IfSome found (λ d. (es : List CleanupEntry) → SomeDiffers here place d (ways_from es flow)) → IfSome found (λ d. DiffersAt p m from sh place here d)
  answer_differs flow None few flows h = tt
  answer_differs flow (Some d) few flows h = ways_differ (ways_from sh.entries flow) d few flows (h sh.entries)

  pub answer_agrees : (flow : Answered) (found : Option Difference) → Flows p m from sh (ways_from sh.entries flow) →
      IfNone found ((es : List CleanupEntry) → EachAgrees here place (ways_from es flow)) → IfNone found (AgreesAt p m from sh place here)
  answer_agrees flow None flows h = ways_agree (ways_from sh.entries flow) flows (h sh.entries)
  answer_agrees flow (Some d) flows h = tt
