-- What a method may run, and which destructors may come of what it mentions.
use Rattle.std.specs.Prelude.{◌≡◌, ◌<◌, ℕ, true, List, All, Option, IfSome, IsTrue, slice_get}
use Rattle.aom_image.specs.Image.{Image}
use Rattle.aom_image.specs.Views.{fields_of, gives_of}
use Rattle.aom_instructions.specs.declared.instr.Instr.{Instr}
use Rattle.aom_instructions.specs.Table.{action_of}
use Rattle.aom_instructions.specs.declared.action.Action.{Action}
use Rattle.aom_instructions.specs.declared.action.Action.TheVariants as actions
use Rattle.aom_image.specs.declared.method.Argument.{Argument}
use Rattle.aom_image.specs.declared.method.Argument.TheVariants as arguments
use Rattle.aom_image.specs.declared.method.Gives.{Gives}
use Rattle.aom_image.specs.declared.method.Gives.TheVariants as gives
use Rattle.aom_image.specs.declared.method.Method.{Method}
use Rattle.aom_image.specs.declared.method.Role.{Role}
use Rattle.aom_image.specs.declared.method.Role.TheVariants as roles
use Rattle.aom_image.specs.declared.method.Thing.{Thing}
use Rattle.aom_image.specs.declared.method.Thing.TheVariants.{Object, Message}
use Rattle.aom_roles.specs.Classes.{sessions_at}
use Rattle.aom_roles.specs.Families.{descends}
use Rattle.aom_link_conditions.specs.Overriding.{leads_to}
use Rattle.aom_link_conditions.specs.Roles.{keeper_of, fills_role, is_main}

-- every method of a class with that role has a number below m
abbrev pub AllBelow : List Method → ℕ → ℕ → Role → Type 0
AllBelow methods m c r = (k : ℕ) → IfSome (slice_get methods k) (λ d. IsTrue (fills_role c r d) → k < m)

abbrev pub DestructsBelow : Image → ℕ → ℕ → Type 0
DestructsBelow p m c = AllBelow p.methods m c roles.Destruct

-- what runs as an object of a class goes: the destructors of the class and of those that it descends from
abbrev pub GoesBelow : Image → ℕ → ℕ → Type 0
GoesBelow p m x = (y : ℕ) → descends p x y ≡ true → DestructsBelow p m y

-- and those of its sessions
pub record EndsBelow (p : Image) (m x : ℕ) : Type 0 where
  pub own : GoesBelow p m x
  pub sessions : IfSome (sessions_at p x) (GoesBelow p m)

-- what a method m asks of a class that it mentions: that all that runs as an object goes, of the class or of a descendant, has lower numbers
abbrev pub Mentions : Image → ℕ → ℕ → Type 0
Mentions p m c = (x : ℕ) → descends p x c ≡ true → EndsBelow p m x

-- the cancel methods that an object of the class has
abbrev pub CancelsBelow : Image → ℕ → ℕ → Type 0
CancelsBelow p m x = IfSome (keeper_of p x roles.Cancel) (λ y. AllBelow p.methods m y roles.Cancel)

-- what a method m asks of its class where it cancels: that all those of the class and of its descendants have lower numbers
abbrev pub MayCancel : Image → ℕ → ℕ → Type 0
MayCancel p m c = (x : ℕ) → descends p x c ≡ true → CancelsBelow p m x

-- every method that overrides another, itself or through others, has a number below m
abbrev pub OverridersBelow : Image → ℕ → ℕ → Type 0
OverridersBelow p m called = (k : ℕ) → IfSome (slice_get p.methods k) (λ d. IsTrue (leads_to p d.over called) → k < m)

abbrev pub MentionsThing : Image → ℕ → Thing → Type 0
MentionsThing p m (Object c) = Mentions p m c
MentionsThing p m Message = Unit {0}

abbrev pub MentionsArgument : Image → ℕ → Argument → Type 0
MentionsArgument p m arguments.Word = Unit {0}
MentionsArgument p m (arguments.Own t) = MentionsThing p m t

abbrev pub MentionsResult : Image → ℕ → Gives → Type 0
MentionsResult p m gives.Nothing = Unit {0}
MentionsResult p m gives.Word = Unit {0}
MentionsResult p m (gives.Own t) = MentionsThing p m t
MentionsResult p m (gives.Maybe t) = MentionsThing p m t
MentionsResult p m (gives.Left c) = Mentions p m c

-- a method that is called comes before, with all that override it, and its result is mentioned
pub record CallsBelow (p : Image) (m called : ℕ) : Type 0 where
  pub below : called < m
  pub overriders : OverridersBelow p m called
  pub gives : MentionsResult p m (gives_of p called)

-- what an action runs and mentions, in a method m of a class or of none
abbrev pub ActsBelow : Image → ℕ → Option ℕ → Action → Type 0
ActsBelow p m own (actions.Make c) = Mentions p m c
ActsBelow p m own (actions.Call manner t called a r) = CallsBelow p m called
ActsBelow p m own (actions.PushOperation a called) = called < m
ActsBelow p m own actions.Cancel = IfSome own (MayCancel p m)
ActsBelow p m own _ = Unit {0}

abbrev pub RunsBelow : Image → ℕ → Option ℕ → Instr → Type 0
RunsBelow p m own i = ActsBelow p m own (action_of i)

abbrev pub MentionsFields : Image → ℕ → Option ℕ → Type 0
MentionsFields p m own = IfSome own (λ c. All (MentionsThing p m) (fields_of p c))

abbrev pub MentionsRoot : Image → ℕ → Type 0
MentionsRoot p m = IfSome p.header.root (Mentions p m)

-- all that a method runs and mentions; main owns the root
pub record CallsOrdered (p : Image) (m : ℕ) (d : Method) : Type 0 where
  pub arguments : All (MentionsArgument p m) d.arguments
  pub gives : MentionsResult p m d.gives
  pub fields : MentionsFields p m d.class
  pub root : IsTrue (is_main d) → MentionsRoot p m
  pub code : All (RunsBelow p m d.class) d.code

abbrev pub EachCallsOrdered : Image → List Method → Type 0
EachCallsOrdered p methods = (m : ℕ) → IfSome (slice_get methods m) (CallsOrdered p m)

-- what each method runs, now or as an object goes, comes before it
abbrev pub AllCallsOrdered : Image → Type 0
AllCallsOrdered p = EachCallsOrdered p p.methods
