-- What is known at the place of a refusal, by where work on the method ends: there for that reason, elsewhere, or nowhere.
use Rattle.std.proofs.Common.{ℕ, ◌≡◌, ◌∙◌, ◌++◌, ◌&&◌, ◌<◌, ◌≤◌, true, false, List, [], ◌∷◌, Option, Some}
use Rattle.std.proofs.Common.{None, IsSome, Result, ap, length, refl, slice_get, subst, sym}
use Rattle.std.specs.Prelude.{IfSome, not}
use Rattle.std.proofs.lemmas.Bool.{false≢true, le-ltb, lt-ltb}
use Rattle.std.proofs.lemmas.Option.{none-some, same_Some, slice_get_past}
use Rattle.aom_image.specs.Image.{Image}
use Rattle.aom_image.specs.Views.{instr_at, instr_in, method_at}
use Rattle.aom_image.specs.declared.method.Method.{Method}
use Rattle.aom_instructions.specs.declared.instr.Instr.{Instr}
use Rattle.aom_link_conditions.specs.Faults.{Fails, RefusesOrWants}
use Rattle.aom_link_conditions.specs.Linked.{IsLinked}
use Rattle.aom_link_conditions.specs.declared.fault.LinkFault.{LinkFault}
use Rattle.aom_link_conditions.specs.declared.fault.LinkFault.TheVariants.{ClassOrder, CallOrder, MissingRole, DoubleRole, RoleShape, BadJump}
use Rattle.aom_link_conditions.specs.declared.fault.LinkFault.TheVariants.{BadLoop, NoMain, OutOfMemory, BadParent, BadOverride}
use Rattle.aom_typing_rules.specs.Rules.{rule}
use Rattle.aom_diagnostic_commands.proofs.AbstractStateLemmas.{there}
use Rattle.aom_abstract_state.specs.Changes.{reported}
use Rattle.aom_abstract_state.specs.AbstractState.{AbstractState}
use Rattle.aom_roles.specs.Tables.{at}
use Rattle.aom_abstract_state.specs.declared.flow.Flow.{Flow as Changed}
use Rattle.aom_abstract_state.specs.Whys.{why_number}
use Rattle.aom_abstract_state.specs.declared.why.Reason.{Reason}
use Rattle.aom_abstract_state.specs.declared.why.Reason.TheVariants.{RegisterKind, OwnedAtLeave, OwnedAtReturn, CleanupAtReturn, PopEmpty, LeaveNotAllowed, FieldNotNull}
use Rattle.aom_abstract_state.specs.declared.why.Reason.TheVariants.{FieldsLeft, NotFresh, StillFresh, NotIdle, NotIssued, IssuedAtLeave, IssuedAtReturn, StillActive}
use Rattle.aom_abstract_state.specs.declared.why.Reason.TheVariants.{NotCancelled, MessageAtLeave, MessageAtReturn, NotAdded, EntryState, QuietBroken}
use Rattle.aom_static_bounds.specs.Shapes.{HasTyping, Shapes}
use Rattle.aom_verify.specs.Arrivals.{StopsAt}
use Rattle.aom_diagnostic_commands.specs.Explained.{KnownThere, TellsState, ToldBy, is_need, reports_why, ways_differ}
use Rattle.aom_diagnostic_commands.specs.Explained.KnownThere.{elsewhere, known, unrefused}

-- ---- what an instruction asks

pub has_instr : (p : Image) (m place : ℕ) (method : Method) → method_at p m ≡ Some method → place < length method.code → IsSome (instr_at p m place)
unfolding instr_in
has_instr p m place method is within = rw is (there method.code place within)

pub has_no_instr : (p : Image) (m place : ℕ) (method : Method) → method_at p m ≡ Some method → length method.code ≤ place → instr_at p m place ≡ None
unfolding instr_in
has_no_instr p m place method is past = rw is (slice_get_past method.code place past)

module _ (p : Image) (m place : ℕ) (sh : AbstractState) (why : Reason) where
  pub too_many : 1024 ≤ length sh.entries → false ≡ ways_differ p m place sh why
  unfolding ways_differ
  too_many many = sym (ap (λ b. b && not (is_need p m place sh why (instr_at p m place))) (le-ltb (length sh.entries) 1024 many))

  -- with so few entries the instruction decides
  decides : (o : Option Instr) → length sh.entries < 1024 → instr_at p m place ≡ o → not (is_need p m place sh why o) ≡ ways_differ p m place sh why
  unfolding ways_differ
  decides o few is = ap (λ u. not (is_need p m place sh why u)) (sym is)
      ∙ sym (ap (λ b. b && not (is_need p m place sh why (instr_at p m place))) (lt-ltb (length sh.entries) 1024 few))

  pub none_needs : length sh.entries < 1024 → instr_at p m place ≡ None → true ≡ ways_differ p m place sh why
  none_needs few none = decides None few none

  -- the rule answers as its clause says
  pub rule_differs : length sh.entries < 1024 → (answer : Result Changed Reason) → IsSome (instr_at p m place) → IfSome (instr_at p m place)
      (λ i. reported sh.entries answer ≡ rule p m place sh i) → not (reports_why (reported sh.entries answer) why) ≡ ways_differ p m place sh why
  rule_differs few answer some is = answered (instr_at p m place) some is ∙ decides (instr_at p m place) few refl
    where
      answered : (o : Option Instr) → IsSome o → IfSome o (λ i. reported sh.entries answer ≡ rule p m place sh i) →
          not (reports_why (reported sh.entries answer) why) ≡ not (is_need p m place sh why o)
      answered None some is = absurd (false≢true some)
      answered (Some i) some is = ap (λ r. not (reports_why r why)) is

-- ---- reasons by their numbers

-- each reason behind its number, from 1 on
whys : List Reason
whys =
    RegisterKind ∷ RegisterKind ∷ OwnedAtLeave ∷ OwnedAtReturn ∷ CleanupAtReturn ∷ PopEmpty ∷ LeaveNotAllowed ∷ FieldNotNull ∷ FieldsLeft ∷ NotFresh ∷ StillFresh ∷ NotIdle ∷ NotIssued
    ∷ IssuedAtLeave ∷ IssuedAtReturn ∷ StillActive ∷ NotCancelled ∷ MessageAtLeave ∷ MessageAtReturn ∷ NotAdded ∷ EntryState ∷ QuietBroken ∷ []

numbered : (why : Reason) → slice_get whys (why_number why) ≡ Some why
unfolding whys
numbered RegisterKind = refl
numbered OwnedAtLeave = refl
numbered OwnedAtReturn = refl
numbered CleanupAtReturn = refl
numbered PopEmpty = refl
numbered LeaveNotAllowed = refl
numbered FieldNotNull = refl
numbered FieldsLeft = refl
numbered NotFresh = refl
numbered StillFresh = refl
numbered NotIdle = refl
numbered NotIssued = refl
numbered IssuedAtLeave = refl
numbered IssuedAtReturn = refl
numbered StillActive = refl
numbered NotCancelled = refl
numbered MessageAtLeave = refl
numbered MessageAtReturn = refl
numbered NotAdded = refl
numbered EntryState = refl
numbered QuietBroken = refl

pub same_why : (a b : Reason) → why_number a ≡ why_number b → a ≡ b
same_why a b e = same_Some a b (sym (numbered a) ∙ ap (slice_get whys) e ∙ numbered b)

-- ---- where work ends

module _ (by : ToldBy) (p : Image) (m place : ℕ) (why : Reason) (out : List ℕ) where
  module _ (s : Shapes) (other : ℕ) (reason : Reason) (stop : StopsAt p m s other reason) where
    -- work ends there, and the state of the place is told
    pub reported_there : (sh : AbstractState) (new : List ℕ) → other ≡ place → reason ≡ why → Some sh ≡ at None s place → TellsState by p m s place sh why out new →
        KnownThere by p m place why out new
    reported_there sh new here so is put =
        let moved = subst (λ k. StopsAt p m s k why) here (subst (λ w. StopsAt p m s other w) so stop) in
        known s moved (subst (λ (x : AbstractState). TellsState by p m s place x why out new) (same_Some sh moved.shape (is ∙ moved.there)) put)

    -- the place has a state
    pub some_state : other ≡ place → None ≡ at None s place → ⊥
    some_state here none = none-some stop.shape (none ∙ ap (at None s) (sym here) ∙ stop.there)

    -- it ends elsewhere, or for another reason
    pub ends_elsewhere : (other ≡ place → reason ≡ why → ⊥) → KnownThere by p m place why out out
    ends_elsewhere not = elsewhere s other reason stop not refl

  -- it ends nowhere
  pub ends_nowhere : HasTyping p m → KnownThere by p m place why out out
  ends_nowhere typing = unrefused (λ linked there none. none typing) refl

  pub no_method : (IsSome (method_at p m) → ⊥) → KnownThere by p m place why out out
  no_method none = unrefused (λ linked there untyped. none there) refl

  -- the parts of the image do not go together
  pub not_linked : (fault : LinkFault) → RefusesOrWants p fault → (fault ≡ OutOfMemory → ⊥) → KnownThere by p m place why out out
  unfolding RefusesOrWants Fails
  not_linked fault refused other = unrefused (λ linked there untyped. unlinked fault refused other linked) refl
    where
      unlinked : (fault : LinkFault) → RefusesOrWants p fault → (fault ≡ OutOfMemory → ⊥) → IsLinked p → ⊥
      unlinked ClassOrder refused other linked = refused linked.classes
      unlinked CallOrder refused other linked = refused.1 linked.calls
      unlinked MissingRole refused other linked = refused.2 linked.needs
      unlinked DoubleRole refused other linked = refused.3 linked.single
      unlinked RoleShape refused other linked = refused.4 linked.shapes
      unlinked BadJump refused other linked = refused.5 linked.jumps
      unlinked BadLoop refused other linked = refused.6 linked.loops
      unlinked NoMain refused other linked = refused.7 linked.main
      unlinked BadParent refused other linked = refused.8 linked.parents
      unlinked BadOverride refused other linked = refused.9 linked.overriders
      unlinked OutOfMemory refused other linked = other refl
