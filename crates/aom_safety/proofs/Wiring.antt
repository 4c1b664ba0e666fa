-- What a linked image gives the laws: main and the destructors are as they must be, what is called does or constructs, and its families are as the laws want
-- them.
use Rattle.std.proofs.lemmas.Bool.Decides.{nat_tests}
use Rattle.std.proofs.lemmas.List.{nil_from_length}
use Rattle.std.proofs.lemmas.Bool.{cases_Bool, true≢false}
use Rattle.std.proofs.Common.{Bool, IfSome, IsSome, IsTrue, List, None, Option, Some, [], ap, arith, false}
use Rattle.std.proofs.Common.{inl, inr, length, refl, subst, sym, true, ℕ, ◌<◌, ◌∙◌, ◌∷◌, ◌≡◌}
use Rattle.aom_safety.proofs.ImageLemmas.{action_there, none_given, some_given}
use Rattle.aom_safety.proofs.InstructionsLemmas.{call_is, operation_is, trap_is}
use Rattle.std.specs.Prelude.{is_none, not, replicate, ◌||◌, ◌⊎◌}
use Rattle.std.proofs.lemmas.Option.{slice_get_cases, slice_get_within}
use Rattle.aom_image.specs.Image.{Image}
use Rattle.aom_image.specs.Views.{action_at, arguments_in, arguments_of, class_at, class_in, fields_in, gives_in, gives_of, has, instr_at}
use Rattle.aom_image.specs.Views.{is_quiet, leaves, leaves_in, method_at, method_class, method_role, quiet_in, role_in}
use Rattle.aom_instructions.specs.Fits.{InstrFits, limits}
use Rattle.aom_image.specs.WellFormed.{MethodFits, WellFormed}
use Rattle.aom_instructions.specs.declared.action.Action.TheVariants.{Call, PushOperation}
use Rattle.aom_instructions.specs.declared.action.CallMode.TheVariants.{Plain, Trapped}
use Rattle.aom_instructions.specs.declared.instr.Instr.{Instr}
use Rattle.aom_instructions.specs.declared.instr.Target.{Target}
use Rattle.aom_instructions.specs.declared.limits.Limits.{Limits}
use Rattle.aom_image.specs.declared.method.Gives.{Gives}
use Rattle.aom_image.specs.declared.method.Gives.TheVariants.{Nothing, Own as An_own, Word as A_word}
use Rattle.aom_image.specs.declared.method.Method.{Method as Method_declared}
use Rattle.aom_image.specs.declared.method.Role.{Role}
use Rattle.aom_image.specs.declared.method.Role.TheVariants.{Accept, Cancel, Construct, Destruct, Do, Error, Main, Run, Service, Undo}
use Rattle.aom_image.specs.declared.method.Thing.TheVariants.{Object as An_object_of}
use Rattle.aom_roles.specs.Classes.{is_session, is_session_in, is_session_kind, kind_in, sessions_at, sessions_in, sessions_of}
use Rattle.aom_roles.specs.Shapes.{HasShape, IsCancel, IsConstruct, IsDo, IsMain, IsShaped, IsTrapped as ShapedTrapped, IsUndo as ShapedUndo}
use Rattle.aom_roles.specs.Shapes.{NamesRoles, gives_left, gives_nothing, is_role, is_word, kind_of, gives_word, gives_object, is_object}
use Rattle.aom_link_conditions.specs.Linked.{IsLinked}
use Rattle.aom_link_conditions.specs.Needs.{HasActive, KindNeeds, NeedsMet}
use Rattle.aom_link_conditions.specs.Roles.{is_inherited, main_of, role_of, same_role}
use Rattle.aom_safety.proofs.LinkConditionsLemmas.{all_there, at_place, main_found, of_method, own_found, role_inherits, same_roles}
use Rattle.aom_roles.specs.Things.{Member, field_thing, holder_of}
use Rattle.aom_safety.proofs.InheritanceLemmas.{keeper}
use Rattle.aom_safety.proofs.Families.{family_kinds, linked_is_family, session_before}
use Rattle.aom_safety.specs.Laws.{IsAcceptor, IsAnswerer, IsServiceMethod, IsCalled, IsHandler, IsTrapped, IsWired}
use Rattle.aom_safety.specs.WellTyped.{IsOfFamily, IsUndo, LeavesNone}
use Rattle.aom_image.specs.declared.method.Argument.{Argument}
use Rattle.aom_image.specs.declared.method.Argument.TheVariants.{Word as Takes_word}
use Rattle.std.specs.List.{list_all}
use Rattle.aom_roles.specs.States.{cancel_open, first_of, last_of, server_states, states_of}
use Rattle.aom_typing_rules.specs.Requests.{own_kind, unissued}
use Rattle.aom_abstract_state.specs.Arguments.{after_in, after_of, before_in, before_of}
use Rattle.aom_image.specs.declared.class.ClassKind.{ClassKind}
use Rattle.aom_image.specs.declared.class.ClassKind.TheVariants.{Active as An_active, Server as A_server}
use Rattle.aom_roles.specs.Kinds.{is_active_kind}
use Rattle.aom_safety.proofs.AbstractStateLemmas.{has_along}

nothing_given : (g : Gives) → gives_nothing g ≡ true → g ≡ Nothing
unfolding gives_nothing
nothing_given g e = grind arith

word_given : (g : Gives) → gives_word g ≡ true → g ≡ A_word
unfolding gives_word
word_given g e = grind arith

-- so many words
all_words : (xs : List Argument) → IsTrue (list_all is_word xs) → xs ≡ replicate (length xs) Takes_word
unfolding is_word
all_words [] w = refl
all_words (x ∷ xs) w = grind (arith, nat_tests, all_words xs)

words_alone : (n : ℕ) (xs : List Argument) → length xs ≡ n → IsTrue (list_all is_word xs) → xs ≡ replicate n Takes_word
words_alone n xs e w = all_words xs w ∙ ap (λ k. replicate k Takes_word) e

object_given : (c : ℕ) (g : Gives) → gives_object c g ≡ true → g ≡ An_own (An_object_of c)
unfolding gives_object is_object
object_given c g e = grind arith

some_there : (o : Option ℕ) → IsSome o → (m : ℕ) × (o ≡ Some m)
some_there o h = grind arith

leaves_none : (g : Gives) → gives_left g ≡ false → LeavesNone g
unfolding gives_left
leaves_none g e = grind arith

one_of : (a b : Bool) → IsTrue (a || b) → IsTrue a ⊎ IsTrue b
one_of true b h = inl refl
one_of false b h = inr h

-- a method of no kind of class is of no class
of_none : (p : Image) (c : Option ℕ) → IfSome c (λ k. k < length p.classes) → is_none (kind_of p c) ≡ true → c ≡ None
unfolding kind_of kind_in class_at
of_none p c within e = grind (arith, nat_tests, none_given, slice_get_cases p.classes)

-- the method of a role
role_at : (p : Image) (m : ℕ) (r : Role) → method_role p m ≡ Some r → (d : Method_declared) × (method_at p m ≡ Some d) × (d.role ≡ r)
unfolding role_in
role_at p m r e = some_given (λ o. role_in o ≡ Some r) (method_at p m) e (λ none. cc) (λ d is same. (d, is, (cc)))

-- main works on no object
pub linked_main_of_none : (p : Image) → IsLinked p → (m : ℕ) → method_role p m ≡ Some Main → own_kind p m ≡ None
unfolding class_in method_at kind_of
linked_main_of_none p linked m e = grind (arith, nat_tests, role_at p m Main e, all_there (IsShaped p) p.methods m)

module _ (p : Image) (formed : WellFormed p) (linked : IsLinked p) where
  shaped : (m : ℕ) (d : Method_declared) → method_at p m ≡ Some d → IsShaped p d
  unfolding method_at
  shaped m d e = all_there (IsShaped p) p.methods m d linked.shapes e

  of_role : (m : ℕ) (d : Method_declared) (r : Role) → method_at p m ≡ Some d → d.role ≡ r → HasShape r (kind_of p d.class) d
  of_role m d r e same = subst (λ x. HasShape x (kind_of p d.class) d) same (shaped m d e).role

  -- a method that plays a role for a class, of the class or of one that it descends from, and its shape
  its_role : (c m : ℕ) (r : Role) → role_of p c r ≡ Some m → (d : Method_declared) × (method_at p m ≡ Some d) × IsOfFamily p c m × (d.role ≡ r)
      × HasShape r (kind_of p d.class) d
  unfolding class_in
  its_role c m r e = search (arith, nat_tests, role_inherits p c m r e, of_role m)

  -- and of a role that is not inherited, of the class itself
  own_its_role : (c m : ℕ) (r : Role) → is_inherited r ≡ false →
      role_of p c r ≡ Some m → (d : Method_declared) × (method_at p m ≡ Some d) × (d.class ≡ Some c) × (d.role ≡ r) × HasShape r (kind_of p d.class) d
  unfolding role_of
  own_its_role c m r own e = grind (arith, nat_tests, own_found p c m r, of_role m)

  main_is : (m : ℕ) → main_of p ≡ Some m → (IsSome (method_at p m)) × (method_role p m ≡ Some Main) × (gives_of p m ≡ Nothing) × (arguments_of p m ≡ [])
  unfolding role_in gives_in arguments_in
  main_is m e =
      let d = main_found p m e in
      let s : IsMain (kind_of p d.0.class) d.0 = of_role m d.0 Main d.1 d.2 in (
        rw d.1 refl,
        ap role_in d.1 ∙ ap (λ r. Some r) d.2,
        ap gives_in d.1 ∙ nothing_given d.0.gives s.gives,
        ap arguments_in d.1 ∙ nil_from_length d.0.arguments s.takes.count,
      )

  -- a main has no class
  static_main : (m : ℕ) → method_role p m ≡ Some Main → method_class p m ≡ None
  unfolding class_in method_at
  static_main m e =
      let d = role_at p m Main e in
      let fits = all_there (MethodFits p.header.version (length p.classes) (length p.methods)) p.methods m d.0 formed.methods.each d.1 in
      let s : IsMain (kind_of p d.0.class) d.0 = of_role m d.0 Main d.1 d.2 in
      ap class_in d.1 ∙ of_none p d.0.class fits.class s.of

  destructor_is : (c m : ℕ) → role_of p c Destruct ≡ Some m → (IsSome (method_at p m)) ×
      (method_role p m ≡ Some Destruct) × IsOfFamily p c m × (leaves p m ≡ false) × (is_quiet p m ≡ true) × (gives_of p m ≡ Nothing) × (arguments_of p m ≡ [])
  unfolding role_in class_in leaves_in quiet_in gives_in arguments_in
  destructor_is c m e = grind (arith, nat_tests, its_role c m Destruct e, shaped m, nothing_given, nil_from_length)

  -- a class has no fields but those of the class whose destructor it has
  destructor_empties : (c m : ℕ) → role_of p c Destruct ≡ Some m → (f : ℕ) → field_thing p (Member c) f ≡ field_thing p (holder_of p m) f
  destructor_empties c m e f = grind (arith, nat_tests, keeper p linked.parents linked.calls linked.needs c m e, destructor_is c m e)

  cancel_is : (m : ℕ) → method_role p m ≡ Some Cancel → (is_quiet p m ≡ true) × (gives_of p m ≡ Nothing)
  unfolding quiet_in gives_in
  cancel_is m e =
      let d = role_at p m Cancel e in
      let s : IsCancel (kind_of p d.0.class) d.0 = of_role m d.0 Cancel d.1 d.2 in
      (ap quiet_in d.1 ∙ s.flags, ap gives_in d.1 ∙ nothing_given d.0.gives s.gives)

  canceller_is : (c m : ℕ) → role_of p c Cancel ≡ Some m →
      (IsSome (method_at p m)) × (method_role p m ≡ Some Cancel) × IsOfFamily p c m × (arguments_of p m ≡ []) × (before_of p m ≡ cancel_open)
  unfolding role_in arguments_in before_in
  canceller_is c m e = grind (arith, nat_tests, its_role c m Cancel e, nil_from_length)

  -- what a class needs by its kind
  abbrev Needs : ℕ → Option ClassKind → Type 0
  Needs c o = IfSome o (λ k. KindNeeds p c k)

  needs : (c : ℕ) → Needs c (kind_of p (Some c))
  unfolding kind_of kind_in class_at
  needs c = grind (arith, nat_tests, at_place (NeedsMet p) p.classes c)

  -- a class of active objects has one that cancels, and one that is dispatched for its objects
  active_needs : (c : ℕ) (o : Option ClassKind) → Needs c o → is_active_kind o ≡ true → HasActive p c
  active_needs c o n a = grind arith

  has_canceller : (c : ℕ) → is_active_kind (kind_of p (Some c)) ≡ true → (m : ℕ) × (role_of p c Cancel ≡ Some m)
  has_canceller c active = some_there (role_of p c Cancel) (active_needs c (kind_of p (Some c)) (needs c) active).cancel

  has_handler : (c : ℕ) → is_active_kind (kind_of p (Some c)) ≡ true → (m : ℕ) × (role_of p c Run ≡ Some m)
  has_handler c active = some_there (role_of p c Run) (active_needs c (kind_of p (Some c)) (needs c) active).run

  handler_is : (c m : ℕ) → role_of p c Run ≡ Some m → IsHandler p c m
  unfolding role_in arguments_in gives_in before_in
  handler_is c m e = search (arith, nat_tests, its_role c m Run e, nil_from_length, nothing_given)

  answerer_is : (c m : ℕ) → role_of p c Error ≡ Some m → IsAnswerer p c m
  unfolding role_in arguments_in gives_in leaves_in before_in
  answerer_is c m e = search (arith, nat_tests, its_role c m Error e, words_alone 1, word_given)

  -- a server has a method that accepts
  has_acceptor : (c session : ℕ) → sessions_at p c ≡ Some session → (m : ℕ) × (role_of p c Accept ≡ Some m)
  unfolding kind_of sessions_in sessions_of
  has_acceptor c session serves = grind (arith, nat_tests, some_there, needs c)

  acceptor_is : (c session m : ℕ) → sessions_at p c ≡ Some session → role_of p c Accept ≡ Some m → IsAcceptor p c m session
  unfolding role_in class_in arguments_in gives_in before_in kind_of
  acceptor_is c session m serves e = search (arith, nat_tests, own_its_role c m Accept, nil_from_length, object_given session)

  attendant_is : (c m : ℕ) → role_of p c Service ≡ Some m → IsServiceMethod p c m
  unfolding role_in class_in arguments_in gives_in kind_of
  attendant_is c m e = search (arith, nat_tests, own_its_role c m Service, words_alone 5, nothing_given)

  -- what is of a class of sessions has a method that serves, and no sessions
  of_session : (c : ℕ) → is_session p c ≡ true → ((m : ℕ) × (role_of p c Service ≡ Some m)) × (sessions_at p c ≡ None)
  unfolding kind_of is_session_in is_session_kind sessions_in sessions_of
  of_session c is = grind (arith, nat_tests, needs c, some_there)

  has_attendant : (c session : ℕ) → sessions_at p c ≡ Some session → (m : ℕ) × (role_of p session Service ≡ Some m)
  has_attendant c session serves = (of_session session (session_before p linked c session serves).1).0

  -- what may leave is not quiet
  nonquiet : (m : ℕ) → leaves p m ≡ true → is_quiet p m ≡ false
  unfolding leaves_in quiet_in
  nonquiet m e = some_given (λ o. leaves_in o ≡ true) (method_at p m) e (λ none. cc)
      (λ d f e. ap quiet_in f ∙ (elim (cases_Bool (quiet_in (Some d))) as (λ x. quiet_in (Some d) ≡ false) [
        | inl q ↦ absurd (true≢false (sym e ∙ (shaped m d f).flags.quiet q))
        | inr q ↦ q
      ]))

  operands_fit : (m place : ℕ) (i : Instr) → instr_at p m place ≡ Some i → (l : Limits) × InstrFits l i
  unfolding method_at
  operands_fit m place i e =
      let w = of_method p m place i e in
      let fits = all_there (MethodFits p.header.version (length p.classes) (length p.methods)) p.methods m w.0 formed.methods.each w.1 in
      let l = limits p.header.version (length p.classes) (length p.methods) (length w.0.code) in
      (l, all_there (InstrFits l) w.0.code place i fits.code w.2)

  -- what may be called ends with no request issued
  unissued_part : (whole set : ℕ) → unissued whole ≡ true → IsTrue (has whole set) → unissued set ≡ true
  unissued_part whole set u h = grind (arith, nat_tests, cases_Bool, has_along whole set)

  do_ends : (k : Option ClassKind) (d : Method_declared) → IsDo k d → unissued d.after.0 ≡ true
  do_ends (Some (An_active v)) d s = ap not s.settled
  do_ends (Some (A_server most x)) d s = unissued_part server_states d.after.0 refl s.ends.within
  do_ends _ d s = ap unissued s.ends

  construct_ends : (k : Option ClassKind) (d : Method_declared) → IsConstruct k d → unissued d.after.0 ≡ true
  unfolding states_of
  construct_ends k d s = grind (arith, nat_tests, unissued_part)

  ends_unissued : (m : ℕ) (d : Method_declared) → method_at p m ≡ Some d → IsTrue (same_role d.role Do || same_role d.role Construct) →
      unissued (after_of p m) ≡ true
  unfolding after_in
  ends_unissued m d e names =
      grind (arith, nat_tests, one_of, do_ends, of_role m d Do e, same_roles d.role Do, construct_ends, of_role m d Construct e, same_roles d.role Construct)

  construct_begins : (m : ℕ) (d : Method_declared) → method_at p m ≡ Some d → d.role ≡ Construct → before_of p m ≡ first_of (kind_of p (method_class p m))
  unfolding before_in class_in
  construct_begins m d e role = grind (arith, nat_tests, of_role m d Construct e role)

  destruct_states : (c m : ℕ) → role_of p c Destruct ≡ Some m → (before_of p m ≡ states_of (kind_of p (Some c))) × (after_of p m ≡ last_of (kind_of p (Some c)))
  unfolding before_in after_in class_in
  destruct_states c m e = grind (arith, nat_tests, its_role c m Destruct e, family_kinds p linked c)

  -- only a class of active objects has to have a destructor for its requests
  none_destructs : (c : ℕ) → role_of p c Destruct ≡ None → last_of (kind_of p (Some c)) ≡ states_of (kind_of p (Some c))
  unfolding kind_of kind_in class_at last_of states_of
  none_destructs c none = grind (arith, nat_tests, needs, at_place (NeedsMet p) p.classes c)

  -- an instruction names methods of the roles that it wants
  named_roles : (m place : ℕ) (i : Instr) → instr_at p m place ≡ Some i → NamesRoles p i
  named_roles m place i e = let w = of_method p m place i e in all_there (NamesRoles p) w.0.code place i (shaped m w.0 w.1).code w.2

  called_is : (m place : ℕ) (target : Target) (m' first c : ℕ) → action_at p m place ≡ Some (Call Plain target m' first c) → IsCalled p m'
  unfolding role_in is_role
  called_is m place target m' first c e =
      let w = action_there _ _ e in
      let names = subst (λ i. NamesRoles p i) (call_is w.0 target m' first c w.2) (named_roles m place w.0 w.1) in
      some_given (λ o. IsTrue (is_role Do (role_in o) || is_role Construct (role_in o))) (method_at p m') names (λ names. cc) (λ d f names. record {
        there = rw f refl;
        ends = ends_unissued m' d f names;
        begins = λ e. construct_begins m' d f (let same : Some d.role ≡ Some Construct = sym (ap role_in f) ∙ e in cc);
        role = grind (arith, nat_tests, one_of, same_roles d.role Do, same_roles d.role Construct);
      })

  trapped_is : (m place : ℕ) (target : Target) (m' first c : ℕ) → action_at p m place ≡ Some (Call Trapped target m' first c) → IsTrapped p m'
  unfolding role_in is_role
  trapped_is m place target m' first c e =
      let w = action_there _ _ e in
      let names : ShapedTrapped p m' = subst (λ i. NamesRoles p i) (trap_is w.0 target m' first c w.2) (named_roles m place w.0 w.1) in
      let gives : LeavesNone (gives_of p m') = leaves_none (gives_of p m') names.gives in
      some_given (λ o. IsTrue (is_role Do (role_in o))) (method_at p m') names.role (λ names. cc) (λ d f names. record {
        there = rw f refl;
        ends = ends_unissued m' d f (grind arith);
        role = ap role_in f ∙ ap (λ r. Some r) (same_roles d.role Do names);
        gives = gives;
      })

  pushed_is : (m place a m' : ℕ) → action_at p m place ≡ Some (PushOperation a m') → IsUndo p m'
  unfolding role_in is_role class_in leaves_in quiet_in gives_in arguments_in method_at
  pushed_is m place a m' e =
      let w = action_there _ _ e in
      let names = subst (λ i. NamesRoles p i) (operation_is w.0 a m' w.2) (named_roles m place w.0 w.1) in
      some_given (λ o. IsTrue (is_role Undo (role_in o))) (method_at p m') names (λ names. cc) (λ d f names.
      let role : d.role ≡ Undo = same_roles d.role Undo names in
      let fits = all_there (MethodFits p.header.version (length p.classes) (length p.methods)) p.methods m' d formed.methods.each f in
      let u : ShapedUndo (kind_of p d.class) d = of_role m' d Undo f role in record {
        there = rw f refl;
        role = ap role_in f ∙ ap (λ r. Some r) role;
        class = ap class_in f ∙ of_none p d.class fits.class u.of;
        leaves = ap leaves_in f ∙ (shaped m' d f).flags.quiet u.flags;
        quiet = ap quiet_in f ∙ u.flags;
        gives = ap gives_in f ∙ nothing_given d.gives u.gives;
        arguments = ap arguments_in f ∙ words_alone 1 d.arguments u.takes.count u.takes.words;
      })

  -- a class without a destructor owns nothing
  owns_none : (c : ℕ) → role_of p c Destruct ≡ None → (f : ℕ) → field_thing p (Member c) f ≡ None
  unfolding fields_in class_at
  owns_none c none f = grind (arith, nat_tests, slice_get_within, at_place (NeedsMet p) p.classes c)

pub linked_is_wired : (p : Image) → WellFormed p → IsLinked p → IsWired p
linked_is_wired p formed linked = record {
  has_main = linked.main;
  main = main_is p formed linked;
  destructor = destructor_is p formed linked;
  empties = destructor_empties p formed linked;
  static_main = static_main p formed linked;
  operands = operands_fit p formed linked;
  cancel = has_canceller p formed linked;
  canceller = canceller_is p formed linked;
  handler = has_handler p formed linked;
  handles = handler_is p formed linked;
  answers = answerer_is p formed linked;
  cancels = cancel_is p formed linked;
  quiets = nonquiet p formed linked;
  called = called_is p formed linked;
  trapped = trapped_is p formed linked;
  pushed = pushed_is p formed linked;
  destructs = destruct_states p formed linked;
  undestructed = none_destructs p formed linked;
  no_destructor = owns_none p formed linked;
  family = linked_is_family p linked formed;
  constructs = λ c m e. (its_role p formed linked c m Construct e).2;
  overriders = linked.overriders.each;
  acceptor = has_acceptor p formed linked;
  accepts = acceptor_is p formed linked;
  attendant = has_attendant p formed linked;
  attends = attendant_is p formed linked;
  sessions = grind (arith, nat_tests, of_session, session_before);
}
