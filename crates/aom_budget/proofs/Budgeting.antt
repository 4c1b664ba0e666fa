-- What was found of each dispatch is its price, and an image whose dispatches cost more than is declared of them is none that keeps its budgets.
use Rattle.std.proofs.lemmas.Bool.Decides.{nat_tests}
use Rattle.std.proofs.Common.{◌≡◌, ◌∙◌, ◌<◌, ◌≤◌, ◌+◌, ap, ap₂, ℕ, Bool, true, false, List, [], length, Option, Some, None, IsSome, refl, sym, subst, arith}
use Rattle.aom_budget.proofs.ImageLemmas.{some_given}
use Rattle.std.specs.Prelude.{min, slice_get, if◌then◌else◌}
use Rattle.std.proofs.lemmas.Bool.Decides.{eqb_tells}
use Rattle.std.proofs.lemmas.Option.{slice_get_within, same_Some}
use Rattle.aom_image.specs.Image.{Image}
use Rattle.aom_image.specs.Views.{class_at, method_at}
use Rattle.aom_image.specs.WellFormed.{ClassFits, WellFormed, is_dispatched}
use Rattle.aom_instructions.specs.declared.version.Version.{Version}
use Rattle.aom_image.specs.declared.class.ClassDecl.{ClassDecl}
use Rattle.aom_image.specs.declared.class.ClassKind.{ClassKind}
use Rattle.aom_image.specs.declared.class.ClassKind.TheVariants.{Plain, Active, Server, Session}
use Rattle.aom_image.specs.declared.method.Role.{Role}
use Rattle.aom_image.specs.declared.method.Role.TheVariants.{Run, Error, Accept, Service}
use Rattle.aom_image.specs.declared.method.Thing.{Thing}
use Rattle.aom_image.specs.declared.method.Thing.TheVariants.{Object}
use Rattle.aom_link_conditions.specs.Linked.{IsLinked}
use Rattle.aom_link_conditions.specs.Roles.{main_of, role_of}
use Rattle.aom_budget.proofs.LinkConditionsLemmas.{all_there, main_found as main_method, role_inherits}
use Rattle.aom_roles.specs.Tables.{at}
use Rattle.aom_budget.proofs.AbstractStateLemmas.{there}
use Rattle.aom_typing_rules.specs.Typing.{Typing}
use Rattle.aom_static_bounds.specs.Strongest.{IsStrongest}
use Rattle.aom_static_bounds.specs.Depths.{DepthsWithin}
use Rattle.aom_static_bounds.specs.Heights.{HeightsWithin}
use Rattle.aom_static_bounds.specs.Costs.{ArePrices, destructor_price}
use Rattle.aom_static_bounds.specs.Dispatches.{IsAffordable, main_price, method_price, root_price}
use Rattle.aom_static_bounds.specs.Layers.{SayTheSame}
use Rattle.aom_static_bounds.specs.Prices.{Prices, price}
use Rattle.aom_budget.proofs.StaticBoundsLemmas.{IsCovered, destructs_within, found_of, going_alike, law_one, prices_alike, standing, within_method}
use Rattle.aom_budget.specs.Budgets.{BudgetsWithin, CostsWithin, IsBefore, IsOver, class_declares, class_price}
use Rattle.aom_budget.specs.Budgets.{budget_of, declared_by, kind_price, budget_owner_price, role_price}
use Rattle.aom_budget.specs.Faults.{Refuses, RefusesOrWants}
use Rattle.aom_budget.specs.Figures.{ClassesWithin, IsWithin, ReportsFirst, ReportsOver, class_by, kind_by, main_by, budget_owner_by, role_by, root_by}
use Rattle.aom_budget.specs.Pricing.{ArePriced, destruction_by, price_by}
use Rattle.aom_budget.specs.declared.fault.BudgetFault.{BudgetFault}
use Rattle.aom_budget.specs.declared.fault.BudgetFault.TheVariants.{OverBudget, TooDeep, CleanupTooDeep, OutOfMemory}
use Rattle.aom_budget.specs.declared.fault.BudgetOwner.{BudgetOwner}
use Rattle.aom_budget.specs.declared.fault.BudgetOwner.TheVariants.{Main, Class}
use Rattle.aom_budget.proofs.Priced.{pays_before}

-- main, and what plays a role in a class, are methods
main_there : (p : Image) (m : ℕ) → main_of p ≡ Some m → IsSome (method_at p m)
main_there p m e = let d = main_method p m e in rw d.1 refl

role_there : (p : Image) (k m : ℕ) (role : Role) → role_of p k role ≡ Some m → IsSome (method_at p m)
role_there p k m role e = let w = role_inherits p k m role e in rw w.there refl

some_main : (p : Image) → IsLinked p → (m : ℕ) × (main_of p ≡ Some m)
some_main p linked = some_given (λ o. IsSome o) (main_of p) linked.main (λ some. cc) (λ m e some. (m, e))

-- ---- of two strongest typings each says as much as the other

pub covered : (p : Image) (t d : Typing) → IsStrongest p t → IsStrongest p d → IsCovered p t d
covered p t d one other = record {
  each = λ m place sh i stands.
      let some = standing p m place i stands.instr in
      let mine = one.each m some in
      let its = other.each m some in
      let down = (its.least (at [] t m) mine.typed).each in
      let up = (mine.least (at [] d m) its.typed).each place sh stands.shape in
      let back = down place up.next up.there in
      (up.next, record { shape = up.there; instr = stands.instr }, up.implied, rw (same_Some back.next sh (sym back.there ∙ stands.shape)) at back.implied);
}

-- so the prices by the one are those by the other
module _ (p : Image) (formed : WellFormed p)
    (linked : IsLinked p) (t d : Typing) (one : IsStrongest p t) (other : IsStrongest p d) (c e : Prices) (are : ArePrices p t c) (also : ArePrices p d e) where
  same : SayTheSame p c e
  same = law_one p d c e formed linked (pays_before p d linked other)
      (prices_alike p t d c one.typed other.typed (covered p t d one other) (covered p d t other one) are) also

  same_role : (k : ℕ) (role : Role) → role_price p c k role ≡ role_price p e k role
  same_role k role = go (role_of p k role) refl
    where
      go : (o : Option ℕ) → role_of p k role ≡ o → destructor_price c o ≡ destructor_price e o
      go None is = refl
      go (Some m) is = same.methods m (role_there p k m role is)

  same_kind : (k : ℕ) (kind : ClassKind) → kind_price p c k kind ≡ kind_price p e k kind
  same_kind k Plain = refl
  same_kind k (Active provider) = rw (same_role k Run, same_role k Error) refl
  same_kind k (Server sessions session) = rw (same_role k Accept, same_role session Service, same.classes (Object session)) refl
  same_kind k Session = refl

  same_class : (k : ℕ) (class : Option ClassDecl) → class_price p c k class ≡ class_price p e k class
  same_class k None = refl
  same_class k (Some d) = same_kind k d.kind

  same_root : (root : Option ℕ) → root_price c root ≡ root_price e root
  same_root None = refl
  same_root (Some x) = same.classes (Object x)

  same_main : (o : Option ℕ) → main_of p ≡ o → method_price p c o ≡ method_price p e o
  same_main None is = refl
  same_main (Some m) is = rw (same.methods m (main_there p m is), same_root p.header.root) refl

  pub same_budget_owner : (budget_owner : BudgetOwner) → budget_owner_price p c budget_owner ≡ budget_owner_price p e budget_owner
  same_budget_owner x = grind (arith, nat_tests, same_main, same_class)

-- ---- what was found

module _ (p : Image) (prices : List ℕ) (h : ArePriced p prices) where
  abbrev whole : Prices
  whole = h.reported.whole.prices

  price_found : (m : ℕ) → IsSome (method_at p m) → at 0 prices m ≡ min 4294967296 (price whole m)
  price_found m some = sym (h.is m some) ∙ h.reported.methods m some

  role_found : (k : ℕ) (role : Role) → role_by p prices k role ≡ min 4294967296 (role_price p whole k role)
  role_found k role = go (role_of p k role) refl
    where
      go : (o : Option ℕ) → role_of p k role ≡ o → price_by prices o ≡ min 4294967296 (destructor_price whole o)
      go None e = refl
      go (Some m) e = price_found m (role_there p k m role e)

  module _ (formed : WellFormed p) (linked : IsLinked p) where
    destruction_found : (x : Thing) → destruction_by p prices x ≡ min 4294967296 (whole.destruction x)
    destruction_found x = omega (
      arith,
      found_of p formed linked whole h.reported.whole.are.classes x,
      going_alike 4294967296 p (price_by prices) (destructor_price whole) refl x
          (λ k runs. omega (arith, price_found k (within_method p k (destructs_within p x k runs)))),
    )

    root_found : (root : Option ℕ) → root_by p prices root ≡ min 4294967296 (root_price whole root)
    root_found None = refl
    root_found (Some x) = destruction_found (Object x)

    main_found : (m : ℕ) → main_of p ≡ Some m → main_by p prices ≡ min 4294967296 (main_price p whole)
    main_found m is = rw is (omega (arith, price_found m (main_there p m is), root_found p.header.root))

    kind_found : (k : ℕ) (kind : ClassKind) → kind_by p prices k kind ≡ min 4294967296 (kind_price p whole k kind)
    kind_found k Plain = refl
    kind_found k (Active provider) = omega (arith, role_found k Run, role_found k Error)
    kind_found k (Server sessions session) = omega (arith, role_found k Accept, role_found session Service, destruction_found (Object session))
    kind_found k Session = refl

    class_found : (k : ℕ) (class : Option ClassDecl) → class_by p prices k class ≡ min 4294967296 (class_price p whole k class)
    class_found k x = grind (arith, nat_tests, kind_found k)

    found : (budget_owner : BudgetOwner) → budget_owner_by p prices budget_owner ≡ min 4294967296 (budget_owner_price p whole budget_owner)
    found x = grind (arith, nat_tests, some_main p linked, main_found, class_found)

-- ---- what is declared

-- a budget is below 2^32, so what counts for 2^32 is more
class_below : (version : Version) (classes natives : ℕ) (class : ClassDecl) (most : ℕ) → ClassFits version classes natives class →
    budget_of class ≡ Some most → most < 4294967296
class_below version classes natives class most fits e = go (is_dispatched class.kind) e
  where
    go : (b : Bool) → (if b then Some class.budget else None) ≡ Some most → most < 4294967296
    go true e = omega (arith, fits.budget, same_Some class.budget most e)
    go false e = absurd cc

declared_below : (p : Image) (budget_owner : BudgetOwner) (most : ℕ) → WellFormed p → declared_by p budget_owner ≡ Some most → most < 4294967296
unfolding class_at
declared_below p Main most formed e = let is : p.header.budget ≡ most = same_Some p.header.budget most e in omega (arith, formed.header.budget, is)
declared_below p (Class k) most formed e = go (slice_get p.classes k) refl e
  where
    go : (o : Option ClassDecl) → slice_get p.classes k ≡ o → class_declares o ≡ Some most → most < 4294967296
    go None is e = absurd cc
    go (Some d) is e = class_below p.header.version (length p.classes) p.header.natives d most
        (all_there (ClassFits p.header.version (length p.classes) p.header.natives) p.classes k d formed.classes.each is) e

-- what is past the classes declares nothing
declares_within : (p : Image) (k most : ℕ) → declared_by p (Class k) ≡ Some most → k < length p.classes
unfolding class_at
declares_within p k most e = grind (arith, slice_get_within p.classes k)

-- ---- what was found against what is declared

pub main_within : (p : Image) (prices : List ℕ) (declared cost : ℕ) → declared ≡ p.header.budget → cost ≡ main_by p prices → cost ≤ declared → IsWithin p prices Main
main_within p prices declared cost declares costs le most e = let same : p.header.budget ≡ most = same_Some p.header.budget most e in
    omega (arith, le, costs, declares, same)

pub main_over : (p : Image) (prices : List ℕ) (declared cost : ℕ) (fault : BudgetFault) → declared ≡ p.header.budget → cost ≡ main_by p prices →
    declared < cost → fault ≡ OverBudget Main cost declared → ReportsOver p prices Main fault
main_over p prices declared cost fault declares costs over reported =
    record { most = p.header.budget; declares = refl; over = omega (arith, over, costs, declares); is = reported ∙ ap₂ (OverBudget Main) costs declares }

pub class_there : (p : Image) (k : ℕ) → k < length p.classes → IsSome (class_at p k)
unfolding class_at
class_there p k within = there p.classes k within

-- what the class at a number declares
module _ (p : Image) (prices : List ℕ) (k : ℕ) (class : ClassDecl) (is : class_at p k ≡ Some class) where
  declares_here : (most : Option ℕ) → budget_of class ≡ most → declared_by p (Class k) ≡ most
  declares_here most e = ap class_declares is ∙ e

  pub within_none : budget_of class ≡ None → IsWithin p prices (Class k)
  within_none none most e = let declares = declares_here None none in absurd cc

  pub within_some : (declared cost : ℕ) → budget_of class ≡ Some declared → cost ≡ budget_owner_by p prices (Class k) → cost ≤ declared → IsWithin p prices (Class k)
  within_some declared cost declares costs le most e = let same : declared ≡ most =
      same_Some declared most (sym (declares_here (Some declared) declares) ∙ e) in omega (arith, le, costs, same)

  pub reports_first : (declared cost : ℕ) (fault : BudgetFault) → ClassesWithin p prices k → budget_of class ≡ Some declared →
      cost ≡ budget_owner_by p prices (Class k) → declared < cost → fault ≡ OverBudget (Class k) cost declared → ReportsFirst p prices fault
  reports_first declared cost fault earlier declares costs over reported = record {
    class = k;
    reports = record { most = declared; declares = declares_here (Some declared) declares; over = omega (arith, over, costs); is = reported ∙ ap (λ n. OverBudget (Class k) n declared) costs };
    earlier = earlier;
  }

-- one more is within
pub classes_more : (p : Image) (prices : List ℕ) (count : ℕ) → ClassesWithin p prices count → IsWithin p prices (Class count) → ClassesWithin p prices (count + 1)
classes_more p prices count below here k within = grind (arith, nat_tests, eqb_tells k count)

-- ---- the test

module _ (p : Image) (prices : List ℕ) (formed : WellFormed p) (linked : IsLinked p) (h : ArePriced p prices) where
  costs_within : (budget_owner : BudgetOwner) → IsWithin p prices budget_owner → (most : ℕ) → declared_by p budget_owner ≡ Some most → budget_owner_price p (whole p prices h) budget_owner ≤ most
  costs_within budget_owner within most e = omega (arith, found p prices h formed linked budget_owner, within most e, declared_below p budget_owner most formed e)

  pub budgets_within : IsWithin p prices Main → ClassesWithin p prices (length p.classes) → BudgetsWithin p
  budgets_within main classes = record { typing = h.typing; strongest = h.strongest; prices = whole p prices h; are = h.reported.whole.are; within = within }
    where
      within : CostsWithin p (whole p prices h)
      within Main most e = costs_within Main main most e
      within (Class k) most e = costs_within (Class k) (classes k (declares_within p k most e)) most e

  -- a fault that tells of the first payer that is over is why the image is refused
  refuses_over : (budget_owner : BudgetOwner) (fault : BudgetFault) → ReportsOver p prices budget_owner fault →
      ((before : BudgetOwner) → IsBefore before budget_owner → IsWithin p prices before) → Refuses p fault
  refuses_over budget_owner fault reports earlier = subst (Refuses p) (sym reports.is) (record {
    typing = h.typing;
    strongest = h.strongest;
    prices = whole p prices h;
    are = h.reported.whole.are;
    declares = reports.declares;
    is = found p prices h formed linked budget_owner;
    over = omega (arith, reports.over, found p prices h formed linked budget_owner);
    first = λ before enough is_before e. costs_within before (earlier before is_before) enough e;
  })

  pub refuses_main : (fault : BudgetFault) → ReportsOver p prices Main fault → Refuses p fault
  refuses_main fault reports = grind (arith, nat_tests, refuses_over Main fault reports)

  pub refuses_class : (fault : BudgetFault) → IsWithin p prices Main → ReportsFirst p prices fault → Refuses p fault
  refuses_class fault main first = grind (arith, nat_tests, refuses_over (Class first.class) fault first.reports)

-- ---- what an accepted image keeps to

-- a table pays for each dispatch within what is declared of it
pub affordable : (p : Image) (prices : List ℕ) → WellFormed p → IsLinked p → BudgetsWithin p → ArePriced p prices →
    (t : Typing) × IsStrongest p t × (c : Prices) × IsAffordable p t c × CostsWithin p c
affordable p prices formed linked b h =
    (h.typing, h.strongest, whole p prices h, record { priced = h.reported.whole.pays; declared = within Main p.header.budget refl }, within)
  where
    within : CostsWithin p (whole p prices h)
    within budget_owner most e = grind (arith, nat_tests, same_budget_owner p formed linked h.typing b.typing h.strongest b.strongest)

-- an image that keeps its budgets is over none
none_over : (p : Image) (budget_owner : BudgetOwner) (found most : ℕ) → WellFormed p → IsLinked p → BudgetsWithin p → IsOver p budget_owner found most → ⊥
none_over p budget_owner found most formed linked b h = grind (
  arith,
  nat_tests,
  same_budget_owner p formed linked b.typing h.typing b.strongest h.strongest b.prices h.prices b.are h.are budget_owner,
)

-- an image within its limits is refused for nothing
pub refuses_none : (p : Image) (fault : BudgetFault) → WellFormed p → IsLinked p → Refuses p fault → BudgetsWithin p → DepthsWithin p → HeightsWithin p → ⊥
refuses_none p x formed linked h budgets within low = grind (arith, nat_tests, none_over p, found)

-- what an image is refused for is told, and where it is within its limits memory was wanting
pub reported_or_wants : (p : Image) (fault : BudgetFault) → Refuses p fault → RefusesOrWants p fault
reported_or_wants p x h = grind arith

pub wants_memory : (p : Image) (fault : BudgetFault) → WellFormed p → IsLinked p → RefusesOrWants p fault → BudgetsWithin p → DepthsWithin p →
    HeightsWithin p → fault ≡ OutOfMemory
wants_memory p (OverBudget budget_owner found most) formed linked h budgets within low =
    absurd (refuses_none p (OverBudget budget_owner found most) formed linked h budgets within low)
wants_memory p TooDeep formed linked h budgets within low = absurd (refuses_none p TooDeep formed linked h budgets within low)
wants_memory p CleanupTooDeep formed linked h budgets within low = absurd (refuses_none p CleanupTooDeep formed linked h budgets within low)
wants_memory p OutOfMemory formed linked h budgets within low = refl
