-- Where an image fails a condition of linking.
use Rattle.std.specs.Prelude.{◌<◌, ◌⊎◌, ℕ, length, IfSome, IsSome, Option, Some, None, slice_get}
use Rattle.aom_image.specs.Image.{Image}
use Rattle.aom_image.specs.Views.{instr_at}
use Rattle.aom_image.specs.declared.class.ClassDecl.{ClassDecl}
use Rattle.aom_image.specs.declared.method.Method.{Method}
use Rattle.aom_instructions.specs.declared.instr.Instr.{Instr}
use Rattle.aom_roles.specs.Classes.{ClassOrdered, ClassesOrdered, EachOrdered, SessionRoot}
use Rattle.aom_roles.specs.Firsts.{FirstNot}
use Rattle.aom_roles.specs.Shapes.{AllShaped, IsShaped, NamesRoles}
use Rattle.aom_link_conditions.specs.Calls.{AllCallsOrdered, CallsOrdered, RunsBelow}
use Rattle.aom_link_conditions.specs.Families.{AllContinue, ContinuesParent}
use Rattle.aom_link_conditions.specs.Jumps.{JumpFails, JumpIsValid}
use Rattle.aom_link_conditions.specs.Linked.{AllJumpsValid, AllLoopsNest}
use Rattle.aom_link_conditions.specs.Loops.{LoopsNest}
use Rattle.aom_link_conditions.specs.Needs.{AllNeedsMet, ClassSingle, EachSingle, NeedsMet, RolesSingle, SecondMain}
use Rattle.aom_link_conditions.specs.Overriding.{AllMayOverride, OtherOverrider, OverridersFit, MayOverrideNamed}
use Rattle.aom_link_conditions.specs.declared.fault.LinkFault.{LinkFault}
use Rattle.aom_link_conditions.specs.declared.fault.LinkFault.TheVariants.{ClassOrder, CallOrder, MissingRole, DoubleRole, RoleShape, BadJump, BadLoop, BadParent, BadOverride}
use Rattle.aom_link_conditions.specs.declared.place.LinkPlace.{LinkPlace}
use Rattle.aom_link_conditions.specs.declared.place.LinkPlace.TheVariants.{Class, Method as InMethod, Instruction}

-- the image has such a place
abbrev pub IsThere : Image → LinkPlace → Type 0
IsThere p (Class c) = c < length p.classes
IsThere p (InMethod m) = m < length p.methods
IsThere p (Instruction m i) = IsSome (instr_at p m i)

-- an instruction of a method, or where there is none the method
abbrev pub place_in : ℕ → Option ℕ → LinkPlace
place_in m None = InMethod m
place_in m (Some i) = Instruction m i

-- ---- the first at which a condition fails

-- the first class
abbrev pub AtClass : Image → (ℕ → ClassDecl → Type 0) → LinkPlace → Type 0
AtClass p P (Class c) = FirstNot P p.classes c
AtClass p P _ = ⊥

-- the first method, and in it the first instruction; the method alone where each of its instructions keeps what is asked of one
abbrev pub AtInstruction : Image → (ℕ → Method → Type 0) → (ℕ → Method → Instr → Type 0) → LinkPlace → Type 0
AtInstruction p P Q (InMethod m) = FirstNot P p.methods m × IfSome (slice_get p.methods m) (λ d. (i : ℕ) → IfSome (slice_get d.code i) (Q m d))
AtInstruction p P Q (Instruction m i) = FirstNot P p.methods m × IfSome (slice_get p.methods m) (λ d. FirstNot (λ _. Q m d) d.code i)
AtInstruction p P Q _ = ⊥

-- the first class that names one that does not come before it, or the root that is a session
abbrev pub AtOrder : Image → LinkPlace → Type 0
AtOrder p (Class c) = FirstNot (ClassOrdered p) p.classes c ⊎ (EachOrdered p p.classes × SessionRoot p (Some c))
AtOrder p _ = ⊥

-- the first class with a role twice, or the second main
abbrev pub AtDouble : Image → LinkPlace → Type 0
AtDouble p (Class c) = FirstNot (λ e _. ClassSingle p.methods e) p.classes c
AtDouble p (InMethod m) = EachSingle p.methods p.classes × SecondMain p.methods (Some m)
AtDouble p _ = ⊥

-- a jump of the first method that jumps as it may not
abbrev pub AtJump : Image → LinkPlace → Type 0
AtJump p (Instruction m i) = FirstNot (λ _ d. JumpIsValid d.code) p.methods m × IfSome (slice_get p.methods m) (λ d. JumpFails d.code i)
AtJump p _ = ⊥

-- the first method whose loops do not nest
abbrev pub AtLoop : Image → LinkPlace → Type 0
AtLoop p (InMethod m) = FirstNot (λ _ d. LoopsNest d.code) p.methods m
AtLoop p _ = ⊥

-- the first method that may not stand for the one that it overrides, or one that overrides what another of its class does before it
abbrev pub AtOverride : Image → LinkPlace → Type 0
AtOverride p (InMethod m) = FirstNot (λ _. MayOverrideNamed p) p.methods m ⊎ (AllMayOverride p × OtherOverrider p (Some m))
AtOverride p _ = ⊥

abbrev pub FailsAt : Image → LinkFault → LinkPlace → Type 0
FailsAt p ClassOrder x = AtOrder p x
FailsAt p CallOrder x = AtInstruction p (CallsOrdered p) (λ m d. RunsBelow p m d.class) x
FailsAt p MissingRole x = AtClass p (NeedsMet p) x
FailsAt p DoubleRole x = AtDouble p x
FailsAt p RoleShape x = AtInstruction p (λ _. IsShaped p) (λ _ _. NamesRoles p) x
FailsAt p BadJump x = AtJump p x
FailsAt p BadLoop x = AtLoop p x
FailsAt p BadParent x = AtClass p (λ _. ContinuesParent p) x
FailsAt p BadOverride x = AtOverride p x
FailsAt p _ x = ⊥

-- ---- and where it does not

-- the condition of a fault, where it is one of classes or methods
abbrev pub ConditionHolds : Image → LinkFault → Type 0
ConditionHolds p ClassOrder = ClassesOrdered p
ConditionHolds p CallOrder = AllCallsOrdered p
ConditionHolds p MissingRole = AllNeedsMet p
ConditionHolds p DoubleRole = RolesSingle p
ConditionHolds p RoleShape = AllShaped p
ConditionHolds p BadJump = AllJumpsValid p
ConditionHolds p BadLoop = AllLoopsNest p
ConditionHolds p BadParent = AllContinue p
ConditionHolds p BadOverride = OverridersFit p
ConditionHolds p _ = Unit {0}

-- the place at which an image fails the condition; none where it keeps it
abbrev pub PlaceOf : Image → LinkFault → Option LinkPlace → Type 0
PlaceOf p fault None = ConditionHolds p fault
PlaceOf p fault (Some x) = IsThere p x × FailsAt p fault x
