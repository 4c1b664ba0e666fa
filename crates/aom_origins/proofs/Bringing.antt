-- What the state of a place brings about, by what the rule answers.
use Rattle.std.proofs.Common.{◌≡◌, ◌∙◌, ℕ, ◌<◌, ◌≤◌, Bool, false, true, List, [], Some, None, ap, length, sym}
use Rattle.std.proofs.lemmas.Bool.{false≢true}
use Rattle.aom_image.specs.Image.{Image}
use Rattle.aom_image.specs.Views.{method_at}
use Rattle.aom_image.specs.declared.method.Method.{Method}
use Rattle.aom_abstract_state.specs.AbstractState.{AbstractState, Known}
use Rattle.aom_abstract_state.specs.Needs.{Flow}
use Rattle.aom_abstract_state.specs.declared.why.Reason.{Reason}
use Rattle.aom_verify.specs.Sweep.{Fails, Flows}
use Rattle.aom_origins.specs.Origins.{Brings, known_of, all_bring}
use Rattle.aom_origins.specs.Subjects.{is_same}
use Rattle.aom_origins.specs.declared.subject.Subject.{Subject}
use Rattle.aom_origins.proofs.PathConflictsLemmas.{has_no_instr, same_ways}

module _ (p : Image) (m from : ℕ) (sh : AbstractState) (subject : Subject) (now : Known) where
  pub past_end : (method : Method) → method_at p m ≡ Some method → length method.code ≤ from → ¬ Brings p m from sh subject now
  past_end method is past brings =
      let none = has_no_instr p m from method is past in
      let some = brings.leads.flows.stands in
      absurd cc

  pub brings_about : (ways : List Flow) (found : Bool) → is_same subject (known_of sh) now ≡ false → length sh.entries < 1024 → Flows p m from sh ways →
      found ≡ all_bring subject now ways → found ≡ true → Brings p m from sh subject now
  brings_about ways found otherwise few flows is so =
      record { otherwise = otherwise; ways = ways; leads = record { few = few; flows = flows }; brings = sym is ∙ so }

  pub brings_not : (ways : List Flow) (found : Bool) → Flows p m from sh ways → found ≡ all_bring subject now ways → found ≡ false → ¬ Brings p m from sh subject now
  brings_not ways found flows is so brings =
      let same : brings.ways ≡ ways = same_ways p m from sh from [] brings.ways ways brings.leads.flows flows in
      false≢true (sym so ∙ is ∙ ap (all_bring subject now) (sym same) ∙ brings.brings)

  pub refused : (why : Reason) → Fails p m from sh why → ¬ Brings p m from sh subject now
  refused why fails brings =
      let flows = brings.leads.flows in
      let same : flows.instr ≡ fails.instr = let first = flows.stands in let second = fails.stands in cc in
      fails.unmet (rw same at flows.needs)
