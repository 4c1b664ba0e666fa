-- Who pays for the steps of a dispatch, and what is declared of it: main pays for its own dispatch and for the root's destruction, and a class for each dispatch of its objects or servers.
use Rattle.std.specs.Prelude.{ℕ, ◌+◌, ◌≤◌, max, List, [], ◌∷◌, Option, Some, None}
use Rattle.aom_image.specs.Image.{Image}
use Rattle.aom_image.specs.Views.{class_at}
use Rattle.aom_image.specs.declared.class.ClassDecl.{ClassDecl}
use Rattle.aom_image.specs.declared.class.ClassKind.{ClassKind}
use Rattle.aom_image.specs.declared.class.ClassKind.TheVariants.{Active, Plain, Server, Session}
use Rattle.aom_image.specs.declared.method.Role.TheVariants.{Run as Handles, Error as Answers, Accept as Accepts, Service as Attends}
use Rattle.aom_image.specs.declared.method.Thing.{Thing}
use Rattle.aom_image.specs.declared.method.Thing.TheVariants.{Object, Message}
use Rattle.aom_link_conditions.specs.Roles.{role_of}
use Rattle.aom_roles.specs.Shapes.{kind_of}
use Rattle.aom_semantics.specs.State.{Answered, Asks, Dispatch, Dispatched, Main_left, Object_left, Of_main, Of_object, Of_root, Of_server, Task}
use Rattle.aom_static_bounds.specs.Dispatches.{main_price}
use Rattle.aom_static_bounds.specs.Prices.{Prices, perhaps_price}

-- ---- who pays

-- the class of an object
abbrev pub class_of : Thing → Option ℕ
class_of (Object x) = Some x
class_of Message = None

-- the class of the object or the server that is dispatched; none where main pays
abbrev pub budget_owner_of : Dispatch → Option ℕ
budget_owner_of Of_main = None
budget_owner_of (Main_left code) = None
budget_owner_of Of_root = None
budget_owner_of (Of_object x) = class_of x.object.thing
budget_owner_of (Object_left x code) = class_of x.object.thing
budget_owner_of (Asks x) = class_of x.object.thing
budget_owner_of (Answered x answer) = class_of x.object.thing
budget_owner_of (Of_server x client stage) = class_of x.object.thing

-- of the dispatch that stands below all else; none with nothing at hand
abbrev pub budget_owner : List Task → Option ℕ
budget_owner [] = None
budget_owner (Dispatched d ∷ ts) = budget_owner_of d
budget_owner (_ ∷ ts) = budget_owner ts

-- ---- what it costs

-- an object runs, and its `error` method follows where that left; a server accepts a session, has one serve, or lets one go
abbrev pub dispatch_price : Image → Prices → ℕ → Option ClassKind → ℕ
dispatch_price p c x None = 0
dispatch_price p c x (Some Plain) = 0
dispatch_price p c x (Some (Active provider)) = perhaps_price c (role_of p x Handles) + perhaps_price c (role_of p x Answers)
dispatch_price p c x (Some (Server most session)) = max (perhaps_price c (role_of p x Accepts)) (max (perhaps_price c (role_of p session Attends)) (c.destruction (Object session)))
dispatch_price p c x (Some Session) = 0

abbrev pub object_price : Image → Prices → ℕ → ℕ
object_price p c x = dispatch_price p c x (kind_of p (Some x))

abbrev pub price_of : Image → Prices → Option ℕ → ℕ
price_of p c None = main_price p c
price_of p c (Some x) = object_price p c x

-- ---- what is declared

-- of each dispatch of an object of that class
abbrev pub class_budget : Option ClassDecl → ℕ
class_budget None = 0
class_budget (Some class) = class.budget

abbrev pub declared_of : Image → Option ℕ → ℕ
declared_of p None = p.header.budget
declared_of p (Some x) = class_budget (class_at p x)

-- the price of each class is within its declaration
pub record AffordsObjects (p : Image) (c : Prices) : Type 0 where
  pub each : (x : ℕ) → object_price p c x ≤ declared_of p (Some x)
