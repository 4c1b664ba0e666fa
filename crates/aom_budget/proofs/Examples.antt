-- What some instructions may call, a chain of methods that is too deep, and what dispatches of objects cost.
use Rattle.std.proofs.Common.{◌≡◌, ℕ, zero, suc, ◌<◌, ◌≤◌, [], ◌∷◌, Some, None, IsSome, refl, arith}
use Rattle.std.proofs.lemmas.Option.{same_Some}
use Rattle.aom_image.specs.Image.{Image}
use Rattle.aom_image.specs.Small.{a_class, a_header, a_method}
use Rattle.aom_image.specs.Views.{method_at, class_at, class_in}
use Rattle.aom_image.specs.declared.class.ClassKind.TheVariants.{Active, Session, Server}
use Rattle.aom_image.specs.declared.class.Provider.TheVariants.{Own as Own_provider}
use Rattle.aom_instructions.specs.declared.instr.Instr.TheVariants.{Push, PushOperation, Delete, Trap, Cancel, PopDelete}
use Rattle.aom_instructions.specs.declared.instr.Target.TheVariants.{This}
use Rattle.aom_image.specs.declared.method.Gives.TheVariants.{Nothing}
use Rattle.aom_image.specs.declared.method.Method.{Method}
use Rattle.aom_image.specs.declared.method.Role.{Role}
use Rattle.aom_image.specs.declared.method.Role.TheVariants as roles
use Rattle.aom_image.specs.declared.method.Thing.TheVariants.{Object}
use Rattle.aom_roles.specs.Families.{descends_in, parent_in}
use Rattle.aom_link_conditions.specs.Overriding.{leads_in, over_in}
use Rattle.aom_roles.specs.Classes.{kind_in, sessions_in, sessions_of}
use Rattle.aom_roles.specs.Roles.{role_number}
use Rattle.aom_link_conditions.specs.Roles.{keeper_in, own_role, fills_role, role_of}
use Rattle.aom_abstract_state.specs.AbstractState.{AbstractState}
use Rattle.aom_abstract_state.specs.declared.kind.MessageState.TheVariants.{Here}
use Rattle.aom_abstract_state.specs.declared.kind.InitState.TheVariants.{Ready}
use Rattle.aom_abstract_state.specs.declared.kind.Kind.{Kind}
use Rattle.aom_abstract_state.specs.declared.kind.Kind.TheVariants.{Null, Own, Maybe}
use Rattle.aom_static_bounds.specs.Calls.{callees, MayCall}
use Rattle.aom_static_bounds.specs.Depths.{Frames, IsTooDeep}
use Rattle.aom_static_bounds.specs.Depths.Frames.{alone, calling}
use Rattle.aom_budget.specs.Budgets.{declared_by}
use Rattle.aom_budget.specs.Figures.{IsWithin, ReportsFirst, budget_owner_by}
use Rattle.aom_budget.specs.Pricing.{destruction_by}
use Rattle.aom_budget.specs.declared.fault.BudgetFault.TheVariants.{OverBudget}
use Rattle.aom_budget.specs.declared.fault.BudgetOwner.TheVariants.{Class}

method : ℕ → Role → Method
method class role = a_method (Some class) role 0 0 0 [] Nothing []

-- class 0 is the session class of the server class 1; their destructors are the methods 0 and 1
image : Image
image = record {
  header = a_header 4 0 0 None 100;
  classes = a_class Session 0 0 [] ∷ a_class (Server 4 0) 10 0 [] ∷ [];
  methods = method 0 roles.Destruct ∷ method 1 roles.Destruct ∷ method 1 roles.Cancel ∷ method 1 roles.Do ∷ [];
}

holding : Kind → AbstractState
holding kind = record { registers = kind ∷ []; fields = []; entries = []; states = 0; message_state = Here }

-- a class is listed by itself, and once more among the classes that descend from it
delete_of_a_server : callees image 3 (holding (Own (Object 1) Ready)) (Delete 0) ≡ 1 ∷ 0 ∷ 1 ∷ 0 ∷ []
unfolding image method holding class_at kind_in sessions_in sessions_of role_of fills_role role_number descends_in parent_in own_role keeper_in
delete_of_a_server = refl

push_of_perhaps_a_session : callees image 3 (holding (Maybe (Object 0) Ready)) (Push 0) ≡ 0 ∷ 0 ∷ []
unfolding image method holding class_at kind_in sessions_in sessions_of role_of fills_role role_number descends_in parent_in own_role keeper_in
push_of_perhaps_a_session = refl

delete_of_null : callees image 3 (holding Null) (Delete 0) ≡ []
unfolding holding
delete_of_null = refl

cancel_of_its_class : callees image 3 (holding Null) Cancel ≡ 2 ∷ 2 ∷ []
unfolding image method class_at method_at class_in role_of fills_role role_number descends_in parent_in own_role keeper_in
cancel_of_its_class = refl

operation_is_called : callees image 3 (holding Null) (PushOperation 0 2) ≡ 2 ∷ []
operation_is_called = refl

trap_calls : callees image 3 (holding Null) (Trap This 2 0 0) ≡ 2 ∷ []
unfolding image method method_at over_in leads_in
trap_calls = refl

-- what goes was counted where it was pushed
pop_calls_nothing : callees image 3 (holding Null) PopDelete ≡ []
pop_calls_nothing = refl

-- a server goes with the four sessions that it may have
destruction_of_a_server : destruction_by image (5 ∷ 7 ∷ 1 ∷ 1 ∷ []) (Object 1) ≡ 32
unfolding image method class_at kind_in role_of fills_role role_number descends_in parent_in own_role keeper_in
destruction_of_a_server = refl

destruction_of_a_session : destruction_by image (5 ∷ 7 ∷ 1 ∷ 1 ∷ []) (Object 0) ≡ 6
unfolding image method class_at kind_in role_of fills_role role_number descends_in parent_in own_role keeper_in
destruction_of_a_session = refl

destruction_is_kept : destruction_by image (4294967296 ∷ 7 ∷ 1 ∷ 1 ∷ []) (Object 1) ≡ 4294967296
unfolding image method class_at kind_in role_of fills_role role_number descends_in parent_in own_role keeper_in
destruction_is_kept = refl

chain : (p : Image) → IsSome (method_at p 0) → ((m : ℕ) → m < 256 → MayCall p (suc m) m) → (n : ℕ) → n ≤ 256 → Frames p n (suc n)
chain p first calls zero h = alone first
chain p first calls (suc n) h = calling (calls n (omega (arith, h))) (chain p first calls n (omega (arith, h)))

-- 257 methods, each of which calls the one before it
chain_of_257 : (p : Image) → IsSome (method_at p 0) → ((m : ℕ) → m < 256 → MayCall p (suc m) m) → IsTooDeep p
chain_of_257 p first calls = record { method = 256; count = 257; frames = chain p first calls 256 (omega arith); many = omega arith }

-- ---- budgets

-- class 0 is active: it runs in the method 0, and the method 1 is its error method; class 1 has sessions, whose service is the method 2; class 2 is their
-- server, which accepts in the method 3
dispatched : Image
dispatched = record {
  header = a_header 4 0 0 None 100;
  classes = a_class (Active Own_provider) 12 0 [] ∷ a_class Session 0 0 [] ∷ a_class (Server 4 1) 8 0 [] ∷ [];
  methods = method 0 roles.Run ∷ method 0 roles.Error ∷ method 1 roles.Service ∷ method 2 roles.Accept ∷ method 1 roles.Destruct ∷ [];
}

active_pays_for_both : budget_owner_by dispatched (7 ∷ 5 ∷ 1 ∷ 1 ∷ 1 ∷ []) (Class 0) ≡ 12
unfolding dispatched method class_at role_of own_role keeper_in parent_in fills_role role_number
active_pays_for_both = refl

sum_is_kept : budget_owner_by dispatched (4294967296 ∷ 5 ∷ 1 ∷ 1 ∷ 1 ∷ []) (Class 0) ≡ 4294967296
unfolding dispatched method class_at role_of own_role keeper_in parent_in fills_role role_number
sum_is_kept = refl

server_pays_for_accept : budget_owner_by dispatched (7 ∷ 5 ∷ 3 ∷ 6 ∷ 4 ∷ []) (Class 2) ≡ 6
unfolding dispatched method class_at kind_in role_of fills_role role_number descends_in parent_in own_role keeper_in
server_pays_for_accept = refl

server_pays_for_service : budget_owner_by dispatched (7 ∷ 5 ∷ 8 ∷ 6 ∷ 4 ∷ []) (Class 2) ≡ 8
unfolding dispatched method class_at kind_in role_of fills_role role_number descends_in parent_in own_role keeper_in
server_pays_for_service = refl

-- the end of a session is a step, and its destructor
server_pays_for_the_end : budget_owner_by dispatched (7 ∷ 5 ∷ 3 ∷ 6 ∷ 8 ∷ []) (Class 2) ≡ 9
unfolding dispatched method class_at kind_in role_of fills_role role_number descends_in parent_in own_role keeper_in
server_pays_for_the_end = refl

sessions_declare_nothing : declared_by dispatched (Class 1) ≡ None
unfolding dispatched class_at
sessions_declare_nothing = refl

-- a class that costs just what it declares is within, and one step more is over
within_to_the_step : IsWithin dispatched (7 ∷ 5 ∷ 1 ∷ 1 ∷ 1 ∷ []) (Class 0)
unfolding dispatched method class_at role_of own_role keeper_in parent_in fills_role role_number
within_to_the_step most e = let same : 12 ≡ most = same_Some 12 most e in omega (arith, same)

over_by_a_step : ReportsFirst dispatched (7 ∷ 6 ∷ 1 ∷ 1 ∷ 1 ∷ []) (OverBudget (Class 0) 13 12)
unfolding dispatched method class_at role_of own_role keeper_in parent_in fills_role role_number
over_by_a_step =
    record { class = 0; reports = record { most = 12; declares = refl; over = omega arith; is = refl }; earlier = λ k below. absurd (omega (arith, below)) }
