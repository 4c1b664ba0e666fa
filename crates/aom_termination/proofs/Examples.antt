-- A closed image with a typing and a table that pays for it: the premises of the laws of steps can be met.
use Rattle.std.proofs.lemmas.Option.{same_Some}
use Rattle.std.specs.Prelude.{false}
use Rattle.std.proofs.Common.{◌≡◌, ◌≤◌, ◌+◌, ◌-◌, ◌*◌, ◌∙◌, ℕ, zero, suc, List, [], ◌∷◌, Option}
use Rattle.std.proofs.Common.{Some, None, IsSome, replicate, refl, sym, ap, arith, subst, pos}
use Rattle.aom_image.specs.Image.{Image}
use Rattle.aom_image.specs.Small.{a_class, a_header, a_method}
use Rattle.aom_image.specs.Views.{arguments_in, class_at, class_in, fields_in, gives_in, instr_at, instr_in, method_at, quiet_in, role_in}
use Rattle.aom_image.specs.declared.class.ClassKind.TheVariants.{Plain}
use Rattle.aom_instructions.specs.declared.instr.Instr.{Instr}
use Rattle.aom_instructions.specs.Table.{transfer_of}
use Rattle.aom_instructions.specs.declared.instr.Instr.TheVariants.{Delete, Loop, New, Next, Return, Stop}
use Rattle.aom_instructions.specs.declared.transfer.Transfer.TheVariants.{Begin, Repeat}
use Rattle.aom_image.specs.declared.method.Gives.TheVariants.{Nothing}
use Rattle.aom_image.specs.declared.method.Method.{Method}
use Rattle.aom_image.specs.declared.method.Role.{Role}
use Rattle.aom_image.specs.declared.method.Role.TheVariants.{Destruct, Main}
use Rattle.aom_image.specs.declared.method.Thing.{Thing}
use Rattle.aom_image.specs.declared.method.Thing.TheVariants.{Object, Message}
use Rattle.aom_roles.specs.Classes.{kind_in, sessions_in, sessions_of}
use Rattle.aom_roles.specs.Shapes.{kind_of}
use Rattle.aom_roles.specs.Roles.{role_number}
use Rattle.aom_link_conditions.specs.Loops.{loop_in, next_in}
use Rattle.aom_roles.specs.Families.{parent_in}
use Rattle.aom_link_conditions.specs.Roles.{destructor_of, keeper_in, main_of, own_role, fills_role, role_of}
use Rattle.aom_termination.proofs.LinkConditionsLemmas.{destroyed, role_inherits}
use Rattle.aom_abstract_state.specs.Order.{IsImpliedBy, Weaker, WeakerFilling, alike, alike_filling, perhaps_empty, unset_null}
use Rattle.aom_typing_rules.specs.Rules.{flows}
use Rattle.aom_abstract_state.specs.AbstractState.{AbstractState}
use Rattle.aom_roles.specs.Tables.{at}
use Rattle.aom_typing_rules.specs.Typing.{IsTyped, Leads, Passes, Typing, shape_at}
use Rattle.aom_abstract_state.specs.Arguments.{after_in, before_in, entry_shape}
use Rattle.aom_abstract_state.specs.declared.kind.MessageState.TheVariants.{Here}
use Rattle.aom_abstract_state.specs.declared.kind.InitState.TheVariants.{Ready}
use Rattle.aom_abstract_state.specs.declared.kind.FieldState.{FieldState}
use Rattle.aom_abstract_state.specs.declared.kind.FieldState.TheVariants.{Empty, Perhaps}
use Rattle.aom_abstract_state.specs.declared.kind.Kind.{Kind}
use Rattle.aom_abstract_state.specs.declared.kind.Kind.TheVariants.{Maybe, Null, Unset}
use Rattle.aom_semantics.specs.Moves.{step}
use Rattle.aom_semantics.specs.State.{Goes, IsStuck, Outcome}
use Rattle.aom_semantics.specs.World.{boot_state}
use Rattle.aom_transcript.specs.declared.line.Ending.{Ending}
use Rattle.aom_transcript.specs.declared.line.Ending.TheVariants.{Stopped}
use Rattle.aom_static_bounds.specs.Prices.{AllPaid, Prices, Stands, own, perhaps_price, price, sessions_cost}
use Rattle.aom_static_bounds.specs.Most.{line}
use Rattle.std.proofs.lemmas.List.Elements.{All-nil, All-cons}
use Rattle.aom_image.specs.declared.class.ClassDecl.{ClassDecl}
use Rattle.aom_roles.specs.Families.{HasNoParents}
use Rattle.aom_termination.proofs.StaticBoundsLemmas.{instr_as, line_alone}
use Rattle.aom_static_bounds.specs.Dispatches.{IsAffordable, main_price}

-- ---- the image: main makes an object and deletes it, in three rounds

abbrev method : Option ℕ → Role → ℕ → List Instr → Method
method class role flags code = a_method class role flags 0 0 [] Nothing code

abbrev image : Image
image = record {
  header = a_header 1 0 0 None 18;
  classes = a_class Plain 0 0 [] ∷ [];
  methods = method (Some 0) Destruct 2 (Return 0 ∷ []) ∷ method None Main 0 (Loop 0 3 ∷ New 0 0 ∷ Delete 0 ∷ Next 0 1 ∷ Stop ∷ Return 0 ∷ []) ∷ [];
}

-- a state that knows a register alone
abbrev holding : Kind → AbstractState
holding kind = record { registers = kind ∷ []; fields = []; entries = []; states = 0; message_state = Here }

abbrev made : Kind
made = Maybe (Object 0) Ready

abbrev typing : Typing
typing = (Some (holding Unset) ∷ [])
    ∷ (Some (holding Unset) ∷ Some (holding Unset) ∷ Some (holding made) ∷ Some (holding Null) ∷ Some (holding Null) ∷ Some (holding Null) ∷ [])
    ∷ []

-- a deletion is 3: itself, the object's destructor, which is a return, and its going
abbrev costs : List (List ℕ)
costs = (1 ∷ []) ∷ (18 ∷ 7 ∷ 6 ∷ 3 ∷ 2 ∷ 1 ∷ []) ∷ []

abbrev table : Prices
table = record { from = λ m place. at 0 (at [] costs m) place; round = λ m q. 5; destruction = λ x. 2 }

-- ---- at each place

-- the instructions of the image, one after another
module _ (P : ℕ → ℕ → AbstractState → Instr → Type 0) (ends : P 0 0 (holding Unset) (Return 0)) (loops : P 1 0 (holding Unset) (Loop 0 3))
    (makes : P 1 1 (holding Unset) (New 0 0)) (deletes : P 1 2 (holding made) (Delete 0)) (next_places : P 1 3 (holding Null) (Next 0 1))
    (stops : P 1 4 (holding Null) Stop) (returns : P 1 5 (holding Null) (Return 0)) where
  abbrev At_place : ℕ → ℕ → AbstractState → Type 0
  At_place m place sh = (i : Instr) × (instr_at image m place ≡ Some i) × P m place sh i

  so : (m place : ℕ) (sh sh' : AbstractState) → Some sh ≡ Some sh' → At_place m place sh → At_place m place sh'
  so m place sh sh' e h = subst (λ x. At_place m place x) (same_Some sh sh' e) h

  there : (m place : ℕ) (sh : AbstractState) → shape_at typing m place ≡ Some sh → At_place m place sh
  unfolding method_at instr_in
  there zero zero sh e = so 0 0 _ sh e (_, refl, ends)
  there (suc zero) zero sh e = so 1 0 _ sh e (_, refl, loops)
  there (suc zero) (suc zero) sh e = so 1 1 _ sh e (_, refl, makes)
  there (suc zero) (suc (suc zero)) sh e = so 1 2 _ sh e (_, refl, deletes)
  there (suc zero) (suc (suc (suc zero))) sh e = so 1 3 _ sh e (_, refl, next_places)
  there (suc zero) (suc (suc (suc (suc zero)))) sh e = so 1 4 _ sh e (_, refl, stops)
  there (suc zero) (suc (suc (suc (suc (suc zero))))) sh e = so 1 5 _ sh e (_, refl, returns)
  there _ _ sh e = cc

  at_each : (m place : ℕ) (sh : AbstractState) (i : Instr) → Stands image typing m place sh i → P m place sh i
  at_each m place sh i it = let x = there m place sh it.shape in subst (λ y. P m place sh y) (same_Some x.0 i (sym x.1 ∙ it.instr)) x.2

-- ---- the table pays

abbrev Ends : ℕ → ℕ → AbstractState → Instr → Type 0
Ends m place sh i = own image m table sh i ≤ table.from m place

abbrev Flows : ℕ → ℕ → AbstractState → Instr → Type 0
Flows m place sh i = loop_in (Some i) ≡ None → next_in (Some i) ≡ None → AllPaid table m (own image m table sh i) (table.from m place) (flows image m place sh i)

flows_pay : (m place : ℕ) (sh : AbstractState) (i : Instr) → Stands image typing m place sh i → Flows m place sh i
unfolding loop_in next_in
flows_pay = at_each Flows (λ l n. tt) (λ l n. cc) (λ l n. (omega arith, tt)) (λ l n. (omega arith, tt)) (λ l n. cc) (λ l n. (omega arith, tt)) (λ l n. tt)

abbrev Loops : ℕ → ℕ → AbstractState → Instr → Type 0
Loops m place sh i = (d n : ℕ) → transfer_of i ≡ Begin d n → 1 + (n - 1) * table.round m place + table.from m (suc place) ≤ table.from m place

loops_pay : (m place : ℕ) (sh : AbstractState) (i : Instr) → Stands image typing m place sh i → Loops m place sh i
loops_pay = at_each Loops (λ d n e. cc) (λ d n e. let is : 3 ≡ n = cc in subst (λ k. 1 + (k - 1) * 5 + 7 ≤ 18) is (omega arith)) (λ d n e. cc) (λ d n e. cc)
    (λ d n e. cc) (λ d n e. cc) (λ d n e. cc)

abbrev NextPlaces : ℕ → ℕ → AbstractState → Instr → Type 0
NextPlaces m place sh i = (d to : ℕ) → transfer_of i ≡ Repeat d to → 1 + table.from m (suc place) ≤ table.from m place

next_places_pay : (m place : ℕ) (sh : AbstractState) (i : Instr) → Stands image typing m place sh i → NextPlaces m place sh i
next_places_pay = at_each NextPlaces (λ d to e. cc) (λ d to e. cc) (λ d to e. cc) (λ d to e. cc) (λ d to e. omega arith) (λ d to e. cc) (λ d to e. cc)

abbrev Rounds : ℕ → ℕ → AbstractState → Instr → Type 0
Rounds m place sh i = (d first : ℕ) → transfer_of i ≡ Repeat d (suc first) → 1 + table.from m (suc first) ≤ table.from m place + table.round m first

rounds_pay : (m place : ℕ) (sh : AbstractState) (i : Instr) → Stands image typing m place sh i → Rounds m place sh i
rounds_pay = at_each Rounds (λ d x e. cc) (λ d x e. cc) (λ d x e. cc) (λ d x e. cc) next (λ d x e. cc) (λ d x e. cc)
  where
    next : (d x : ℕ) → Repeat 0 1 ≡ Repeat d (suc x) → 1 + table.from 1 (suc x) ≤ 8
    next d x e = let is : 1 ≡ suc x = cc in subst (λ k. 1 + table.from 1 k ≤ 8) is (omega arith)

-- the one destructor is method 0
destructors_pay : (x : Thing) (m : ℕ) → destructor_of image x ≡ Some m → 1 + price table m ≤ 2
unfolding method_at
destructors_pay x m e =
    let there = destroyed image x m e in
    let w = role_inherits image there.0 m Destruct there.2 in of_method m w.class (w.method, w.there, w.of, w.role)
  where
    of_method : (m class : ℕ) → (d : Method) × (method_at image m ≡ Some d) × (d.class ≡ Some class) × (d.role ≡ Destruct) → 1 + price table m ≤ 2
    of_method zero class w = omega arith
    of_method (suc zero) class w =
        let role : Main ≡ w.0.role = ap (λ (d : Method). d.role) (same_Some _ w.0 w.1) in
        let clash : Main ≡ Destruct = role ∙ w.3 in
        absurd (cc)
    of_method (suc (suc m)) class w = let e : None ≡ Some w.0 = w.1 in cc

-- and no class has sessions
no_sessions : (x : Thing) → sessions_cost image (λ k. table.destruction (Object k)) x ≡ 0
unfolding class_at kind_in
no_sessions (Object zero) = refl
no_sessions (Object (suc k)) = refl
no_sessions Message = refl

sessions_pay : (x : Thing) → 1 + perhaps_price table (destructor_of image x) + sessions_cost image (λ k. table.destruction (Object k)) x ≤ 2
sessions_pay x = omega (arith, go (destructor_of image x) refl, no_sessions x)
  where
    go : (o : Option ℕ) → destructor_of image x ≡ o → perhaps_price table o ≤ 1
    go None e = omega arith
    go (Some m) e = omega (arith, destructors_pay x m e)

parentless : HasNoParents image
parentless = All-cons (λ (d : ClassDecl). d.parent ≡ None) (a_class Plain 0 0 []) [] refl (All-nil (λ (d : ClassDecl). d.parent ≡ None))

lines_pay : (x : Thing) → 1 + line image (perhaps_price table) x + sessions_cost image (λ k. table.destruction (Object k)) x ≤ 2
lines_pay x = omega (arith, sessions_pay x, line_alone image parentless (perhaps_price table) refl x)

main_costs_18 : main_price image table ≡ 18
unfolding main_of role_number
main_costs_18 = refl

affordable : IsAffordable image typing table
affordable = record {
  priced = record {
    ends = at_each Ends (omega arith) (omega arith) (omega arith) (omega arith) (omega arith) (omega arith) (omega arith);
    flows = flows_pay;
    loops = λ m place d n sh it. let i = instr_as image typing m place sh _ it in loops_pay m place sh i.0 i.1 d n i.2;
    next_places = λ m place d to sh it. let i = instr_as image typing m place sh _ it in next_places_pay m place sh i.0 i.1 d to i.2;
    rounds = λ m place d x sh it. let i = instr_as image typing m place sh _ it in rounds_pay m place sh i.0 i.1 d x i.2;
    lines = lines_pay;
    may_override = λ x y e. omega arith;
  };
  declared = omega (arith, main_costs_18);
}

-- ---- and the typing is one

one_register : (k l : Kind) → Weaker k l → IsImpliedBy (holding k) (holding l)
one_register k l w = record { registers = each; fields = λ i. alike_filling; entries = refl; states = refl; message_state = refl }
  where
    each : (i : ℕ) → Weaker (at Unset (k ∷ []) i) (at Unset (l ∷ []) i)
    each zero = w
    each (suc i) = alike

entered : (x : FieldState) → WeakerFilling Perhaps x →
    IsImpliedBy (holding Unset) (record { registers = []; fields = replicate 8 x; entries = []; states = 0; message_state = Here })
entered x w = record { registers = unset; fields = λ i. each 8 i; entries = refl; states = refl; message_state = refl }
  where
    unset : (i : ℕ) → Weaker (at Unset (Unset ∷ []) i) Unset
    unset zero = alike
    unset (suc i) = alike

    each : (n i : ℕ) → WeakerFilling Perhaps (at Perhaps (replicate n x) i)
    each zero i = alike_filling
    each (suc n) zero = w
    each (suc n) (suc i) = each n i

abbrev Passing : ℕ → ℕ → AbstractState → Instr → Type 0
Passing m place sh i = Passes image typing m place sh

passing : (m place : ℕ) (sh : AbstractState) → shape_at typing m place ≡ Some sh → Passes image typing m place sh
unfolding method_at instr_in gives_in quiet_in role_in class_in class_at fields_in role_of own_role keeper_in parent_in fills_role role_number after_in
passing m place sh e = (there Passing
    (record { instr = Return 0; stands = refl; needs = (refl, (refl, (refl, (refl, (refl, (refl, (refl, (refl, (refl, tt))))))))); flows = tt })
    (record { instr = Loop 0 3; stands = refl; needs = tt; flows = ((_, refl, one_register Unset Unset alike), tt) })
    (record { instr = New 0 0; stands = refl; needs = (refl, (refl, tt)); flows = ((_, refl, one_register made made alike), tt) })
    (record { instr = Delete 0; stands = refl; needs = (refl, tt); flows = ((_, refl, one_register Null Null alike), tt) }) (record
    { instr = Next 0 1; stands = refl; needs = tt; flows = ((_, refl, one_register Unset Null unset_null), ((_, refl, one_register Null Null alike), tt)) })
    (record { instr = Stop; stands = refl; needs = tt; flows = ((_, refl, one_register Null Null alike), tt) }) (record
    { instr = Return 0; stands = refl; needs = (refl, (refl, (refl, (refl, (refl, (refl, (refl, (refl, (refl, tt))))))))); flows = tt }) m place sh e).2

enters_method : (m : ℕ) → IsSome (method_at image m) → Leads typing m 0 (entry_shape image m)
unfolding method_at arguments_in role_in before_in
enters_method zero some = (_, refl, entered Perhaps alike_filling)
enters_method (suc zero) some = (_, refl, entered Empty perhaps_empty)
enters_method (suc (suc m)) some = cc

typed : IsTyped image typing
typed = record { each = passing; entry = enters_method }

-- ---- a run that takes all of it

-- so many moves on, with one name for each new cell, which is free again by then
abbrev after : ℕ → Outcome → Outcome
after zero o = o
after (suc n) (Goes s) = after n (step image (record { name = 0; refused = false; answer = pos 0 }) s)
after (suc n) (IsStuck kind) = IsStuck kind

abbrev outcome : Outcome → Option (ℕ × Option Ending)
outcome (Goes s) = Some (s.rest.steps, s.rest.ended)
outcome (IsStuck kind) = None

runs_to_its_end : outcome (after 20 (Goes (boot_state image))) ≡ Some (18, Some Stopped)
unfolding main_of role_number method_at instr_in gives_in quiet_in role_in class_in class_at fields_in role_of own_role keeper_in parent_in fills_role kind_of
    kind_in sessions_in sessions_of
runs_to_its_end = refl
