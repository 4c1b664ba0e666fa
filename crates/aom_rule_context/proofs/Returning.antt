-- What a return asks, one list of needs after the other.
use Rattle.std.proofs.Common.{◌≡◌, ℕ, List, [], ◌++◌, Ok, Err, ◌∙◌}
use Rattle.aom_image.specs.Image.{Image}
use Rattle.aom_image.specs.Views.{gives_of}
use Rattle.aom_typing_rules.specs.Calls.{rule_ended, rule_left, rule_result, rule_return}
use Rattle.aom_abstract_state.specs.Needs.{Flow, Need, judged, tested}
use Rattle.aom_abstract_state.specs.AbstractState.{AbstractState}
use Rattle.aom_abstract_state.specs.declared.why.Reason.{Reason}
use Rattle.aom_rule_context.proofs.AbstractStateLemmas.{failed_first, passed_first}

abbrev nowhere : List Flow
nowhere = []

module _ (p : Image) (m pc : ℕ) (sh : AbstractState) (a : ℕ) where
  abbrev of_result : List Need
  of_result = rule_result p m pc sh (gives_of p m) a

  abbrev left : List Need
  left = rule_left p m pc sh a

  abbrev ended : List Need
  ended = rule_ended p m pc sh

  pub refused : (w : Reason) → tested of_result ≡ Err w → judged (rule_return p m pc sh a) nowhere ≡ Err w
  refused w e = failed_first of_result (left ++ ended) tt nowhere w e

  pub left_refused : (u : Unit {0}) (w : Reason) → tested of_result ≡ Ok u → tested left ≡ Err w → judged (rule_return p m pc sh a) nowhere ≡ Err w
  left_refused u w e f = passed_first of_result (left ++ ended) tt u nowhere e ∙ failed_first left ended tt nowhere w f

  pub returned : (u v : Unit {0}) → tested of_result ≡ Ok u → tested left ≡ Ok v → judged (rule_return p m pc sh a) nowhere ≡ judged ended nowhere
  returned u v e f = passed_first of_result (left ++ ended) tt u nowhere e ∙ passed_first left ended tt v nowhere f
