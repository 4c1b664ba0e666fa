-- What a call or a trap asks and leaves, by the declaration of the called method: its parts decide in turn.
use Rattle.std.proofs.Common.{◌≡◌, ℕ, true, false, not, cond, List, [], ◌∷◌, ◌++◌, length, Option, Some, Result, Ok, Err, refl, ap, sym, ◌∙◌}
use Rattle.std.proofs.lemmas.List.{append_assoc}
use Rattle.aom_image.specs.Image.{Image}
use Rattle.aom_image.specs.Views.{arguments_of, method_at, method_class, method_role, is_quiet}
use Rattle.aom_instructions.specs.declared.instr.Target.{Target}
use Rattle.aom_image.specs.declared.method.Argument.{Argument}
use Rattle.aom_image.specs.declared.method.Method.{Method}
use Rattle.aom_image.specs.declared.method.Role.{Role}
use Rattle.aom_roles.specs.Roles.{is_construct}
use Rattle.aom_typing_rules.specs.Calls.{brought, caught, while_called, rule_given, rule_target, rule_arguments}
use Rattle.aom_typing_rules.specs.Calls.{rule_moved, flow_call, rule_trapped, rule_trap, flow_trap}
use Rattle.aom_typing_rules.specs.Beginning.{resting}
use Rattle.aom_typing_rules.specs.RuleContext.{RuleContext, call_answer, trap_answer}
use Rattle.aom_rule_context.specs.declared.calls.Call.{Call}
use Rattle.aom_abstract_state.specs.Arguments.{arguments_moved}
use Rattle.aom_abstract_state.specs.Needs.{Need, Flow, judged, tested, to_next}
use Rattle.aom_abstract_state.specs.AbstractState.{AbstractState}
use Rattle.aom_abstract_state.specs.declared.why.Reason.{Reason}
use Rattle.aom_abstract_state.specs.declared.why.Reason.TheVariants.{QuietBroken}
use Rattle.aom_rule_context.proofs.TypingRulesLemmas.{arguments_leave}
use Rattle.aom_rule_context.proofs.AbstractStateLemmas.{after_there, all_failed, all_passed, arguments_there, class_there, failed_first, gives_there, passed_first, role_there}

-- what passes is what was to pass
passed_is : {A : Type 0} (xs : List Need) (a z : A) → judged xs a ≡ Ok z → a ≡ z
passed_is [] a z e = cc
passed_is {A = A} (x ∷ xs) a z e = elim x.0 as (λ t. cond t (judged xs a) (Err x.1) ≡ Ok z → a ≡ z) [
  | true ↦ λ e. passed_is xs a z e
  | false ↦ λ e. absurd cc
] e

module _ (p : Image) (m : ℕ) (sh : AbstractState) (target : Target) (m' first : ℕ) (d : Method) where
  abbrev of_target : List Need
  of_target = rule_target p m sh target m' d.class (is_construct (Some d.role)) first (length d.arguments)

  abbrev of_arguments : List Need
  of_arguments = rule_arguments p sh d.arguments first

  abbrev moved : AbstractState
  moved = arguments_moved d.arguments first sh

  abbrev given : List Need
  given = rule_given p m sh target m' d first

  pub target_refused : (w : Reason) → tested of_target ≡ Err w → judged given moved ≡ Err w
  target_refused w e = failed_first of_target of_arguments tt moved w e

  pub arguments_refused : (u : Unit {0}) (w : Reason) → tested of_target ≡ Ok u → tested of_arguments ≡ Err w → judged given moved ≡ Err w
  arguments_refused u w e f = passed_first of_target of_arguments tt u moved e ∙ all_failed of_arguments moved w f

  pub both_met : (u v : Unit {0}) → tested of_target ≡ Ok u → tested of_arguments ≡ Ok v → judged given moved ≡ Ok moved
  both_met u v e f = passed_first of_target of_arguments tt u moved e ∙ all_passed of_arguments moved v f

  pub entries_kept : (z : AbstractState) → judged given moved ≡ Ok z → sh.entries ≡ z.entries
  entries_kept z e = sym (arguments_leave d.arguments first sh) ∙ ap (λ (s : AbstractState). s.entries) (passed_is given moved z e)

  -- ---- what comes after them

  -- each part decides in turn, and where all are met the flows are those of the last
  pub record Decides (rest : AbstractState → List Need) (left : AbstractState → List Flow) (answer : Result (List Flow) Reason) : Type 0 where
    pub refused : (w : Reason) → judged given moved ≡ Err w → answer ≡ Err w
    pub rest_refused : (z : AbstractState) (w : Reason) → judged given moved ≡ Ok z → tested (rest z) ≡ Err w → answer ≡ Err w
    pub met : (z : AbstractState) (u : Unit {0}) → judged given moved ≡ Ok z → tested (rest z) ≡ Ok u → answer ≡ Ok (left z)

  decides : (rest : AbstractState → List Need) (left : AbstractState → List Flow) (answer : Result (List Flow) Reason) → answer ≡ judged (given ++ rest moved) (left moved) →
      Decides rest left answer
  decides rest left answer is = record {
    refused = λ w e. is ∙ failed_first given (rest moved) moved (left moved) w e;
    rest_refused = λ z w e f. is ∙ passed_first given (rest moved) moved z (left moved) e
        ∙ all_failed (rest moved) (left moved) w (ap (λ s. tested (rest s)) (passed_is given moved z e) ∙ f);
    met = λ z u e f. is ∙ passed_first given (rest moved) moved z (left moved) e ∙ all_passed (rest moved) (left moved) u
        (ap (λ s. tested (rest s)) (passed_is given moved z e) ∙ f) ∙ ap (λ s. Ok (left s)) (passed_is given moved z e);
  }

-- ---- at a site

module _ (site : RuleContext) (call : Call) (d : Method) (there : method_at site.image call.method ≡ Some d) where
  abbrev needs : List Need
  needs = rule_given site.image site.method site.shape call.target call.method d call.first

  abbrev after : AbstractState
  after = arguments_moved d.arguments call.first site.shape

  abbrev lasting : ℕ → AbstractState → AbstractState
  lasting ended s = while_called call.target d.class ended s

  -- what is asked, by what is declared of the called method
  abbrev asks : (AbstractState → List Need) → Option ℕ → Option Role → List Argument → List Need
  asks rest class role xs = rule_target site.image site.method site.shape call.target call.method class (is_construct role) call.first (length xs)
      ++ (rule_arguments site.image site.shape xs call.first ++ rest (arguments_moved xs call.first site.shape))

  asked : (rest : AbstractState → List Need) →
      asks rest (method_class site.image call.method) (method_role site.image call.method) (arguments_of site.image call.method) ≡ needs ++ rest after
  asked rest = ap (λ class. asks rest class (method_role site.image call.method) (arguments_of site.image call.method)) (class_there
      site.image call.method d there) ∙ ap (λ role. asks rest d.class role (arguments_of site.image call.method)) (role_there site.image call.method d there)
      ∙ ap (λ xs. asks rest d.class (Some d.role) xs) (arguments_there site.image call.method d there) ∙ sym (append_assoc (of_target site.image site.method
      site.shape call.target call.method call.first d) (of_arguments site.image site.method site.shape call.target call.method call.first d) (rest after))

  -- ---- calls

  abbrev of_moved : AbstractState → List Need
  of_moved s = rule_moved site.image site.method s call.target call.method call.result

  abbrev left_by_call : AbstractState → List Flow
  left_by_call s = to_next site.place (brought d.gives call.result (lasting d.after.0 s))

  call_leaves : flow_call site.image site.method site.place site.shape call.target call.method call.first call.result ≡ left_by_call after
  call_leaves =
      rw (gives_there site.image call.method d there, class_there site.image call.method d there, arguments_there site.image call.method d there, after_there site.image call.method d there) refl

  call_is : call_answer site call.target call.method call.first call.result ≡ judged (needs ++ of_moved after) (left_by_call after)
  call_is = ap (λ ns. judged ns (flow_call site.image site.method site.place site.shape call.target call.method call.first call.result)) (asked of_moved)
      ∙ ap (λ fs. judged (needs ++ of_moved after) fs) call_leaves

  pub call_decides : Decides site.image site.method site.shape call.target call.method call.first d of_moved left_by_call
      (call_answer site call.target call.method call.first call.result)
  call_decides = decides site.image site.method site.shape call.target call.method call.first d of_moved left_by_call
      (call_answer site call.target call.method call.first call.result) call_is

  -- ---- traps

  abbrev of_trapped : AbstractState → List Need
  of_trapped s = rule_trapped site.image site.method site.place site.shape s call.target call.method call.result

  abbrev left_by_trap : AbstractState → List Flow
  left_by_trap s = to_next site.place (caught d.gives call.result (lasting (resting site.image d.class) s))

  module _ (nonquiet : is_quiet site.image site.method ≡ false) where
    trap_asks : rule_trap site.image site.method site.place site.shape call.target call.method call.first call.result
        ≡ (true, QuietBroken) ∷ (needs ++ of_trapped after)
    trap_asks = ap (λ quiet. (not quiet, QuietBroken) ∷ asks of_trapped (method_class site.image call.method) (method_role site.image call.method)
        (arguments_of site.image call.method)) nonquiet ∙ ap (λ (ns : List Need). (true, QuietBroken) ∷ ns) (asked of_trapped)

    trap_leaves : flow_trap site.image site.method site.place site.shape call.target call.method call.first call.result ≡ left_by_trap after
    trap_leaves = rw (gives_there site.image call.method d there, class_there site.image call.method d there, arguments_there site.image call.method d there) refl

    trap_is : trap_answer site call.target call.method call.first call.result ≡ judged (needs ++ of_trapped after) (left_by_trap after)
    trap_is = ap (λ ns. judged ns (flow_trap site.image site.method site.place site.shape call.target call.method call.first call.result)) trap_asks
        ∙ ap (λ fs. judged (needs ++ of_trapped after) fs) trap_leaves

    pub trap_decides : Decides site.image site.method site.shape call.target call.method call.first d of_trapped left_by_trap
        (trap_answer site call.target call.method call.first call.result)
    trap_decides = decides site.image site.method site.shape call.target call.method call.first d of_trapped left_by_trap
        (trap_answer site call.target call.method call.first call.result) trap_is
