-- What a run of a method costs those that begin it.
use Rattle.std.proofs.lemmas.Bool.Decides.{nat_tests}
use Rattle.aom_termination.proofs.InheritanceLemmas.{body_runs, overrides_there}
use Rattle.aom_link_conditions.specs.Overriding.{body_of}
use Rattle.std.proofs.Common.{Bool, List, None, Option, Some, [], ap, arith, cond, false, length, refl}
use Rattle.std.proofs.Common.{slice_get, subst, suc, true, ℕ, ◌*◌, ◌+◌, ◌<◌, ◌^◌, ◌∙◌, ◌≡◌, ◌≤◌}
use Rattle.std.proofs.lemmas.Option.{slice_get_within}
use Rattle.aom_image.specs.Image.{Image}
use Rattle.aom_image.specs.Views.{is_quiet, leaves, leaves_in, method_at, quiet_in}
use Rattle.aom_instructions.specs.declared.instr.Instr.{Instr}
use Rattle.aom_instructions.specs.Table.{action_of}
use Rattle.aom_instructions.specs.declared.action.Action.TheVariants as action
use Rattle.aom_image.specs.declared.method.Method.{Method}
use Rattle.aom_image.specs.declared.class.ClassKind.{ClassKind}
use Rattle.aom_image.specs.declared.method.Role.{Role}
use Rattle.aom_image.specs.declared.method.Role.TheVariants.{Cancel as Cancel_role, Destruct}
use Rattle.aom_image.specs.declared.method.Thing.{Thing}
use Rattle.aom_link_conditions.specs.Calls.{ActsBelow, CallsBelow, CallsOrdered, RunsBelow}
use Rattle.aom_link_conditions.specs.Linked.{IsLinked}
use Rattle.aom_link_conditions.specs.Roles.{main_of, own_role, role_of}
use Rattle.aom_roles.specs.Shapes.{FlagsFit, HasShape, IsShaped, kind_of, may_leave, is_quiet as quiet_bit}
use Rattle.aom_termination.proofs.LinkConditionsLemmas.{all_there, at_place, cancels_own, child_there, keeper_own, role_inherits}
use Rattle.aom_termination.proofs.RolesLemmas.{through}
use Rattle.aom_roles.specs.Families.{descends, parent_of}
use Rattle.aom_semantics.specs.Destruction.{begun, destructed}
use Rattle.aom_semantics.specs.Places.{Object}
use Rattle.aom_semantics.specs.State.{Task}
use Rattle.aom_safety.specs.WellTyped.{IsUndo}
use Rattle.aom_termination.specs.Ranks.{all_left, base, cell_rank, closing_rank, left_in, level, price, run_rank, spare, tasks_rank, waiting_rank}
use Rattle.aom_termination.proofs.StaticBoundsLemmas.{line_first, line_step}
use Rattle.aom_static_bounds.specs.Most.{line, line_from, line_in}
use Rattle.aom_image.specs.declared.method.Thing.TheVariants.{Message, Object as Object_of}
use Rattle.aom_termination.specs.Within.{left}
use Rattle.aom_termination.proofs.Sums.{double_le, one_beside, one_of, pow_less, pow_more, pow_some, pow_step, pow_twice, scaled_le, whole_run}
use Rattle.aom_termination.proofs.ImageLemmas.{cons_given, some_given}
use Rattle.aom_termination.proofs.Sums.{one_of_all}

left_below : (ms : List Method) (k : ℕ) (m : Method) → slice_get ms k ≡ Some m → left m.code [] 0 ≤ all_left ms
left_below ms k m e = one_of_all (λ (x : Method). left x.code [] 0) all_left (λ x xs. refl) ms k m e

left_at_begin : (p : Image) (m : ℕ) → left_in (method_at p m) [] 0 ≤ all_left p.methods
unfolding method_at
left_at_begin p m = grind (arith, nat_tests, left_below p.methods m)

pub price_some : (p : Image) (m : ℕ) → 1 ≤ price p m
price_some p m = pow_some (spare p) (level p m)

pub cell_some : (p : Image) → 1 ≤ cell_rank p
cell_some p = pow_some (spare p) (suc (length p.methods))

-- a whole run of a method and two more are paid by a move of a higher level
pub run_paid : (p : Image) (m : ℕ) (n : ℕ) → level p m < n → left_in (method_at p m) [] 0 * price p m + 2 ≤ base p ^ n
run_paid p m n lower =
    let whole = whole_run (left_in (method_at p m) [] 0) (spare p) (price p m) (omega (arith, left_at_begin p m)) (price_some p m) in
    let step : base p ^ suc (level p m) ≡ base p * price p m = pow_step (spare p) (level p m) in
    let more : base p ^ suc (level p m) ≤ base p ^ n = pow_more (spare p) (suc (level p m)) n (omega (arith, lower)) in
    omega (arith, whole, step, more)

-- what is called has a lower level
pub called_lower : (p : Image) (m m' : ℕ) → m' < m → (is_quiet p m ≡ true → is_quiet p m' ≡ true) → level p m' < level p m
called_lower p m m' below quiet = grind (arith, nat_tests)

-- a cell has two at least, and as there is a method, so has what goes before a server
pub cell_two : (p : Image) → 2 ≤ cell_rank p
cell_two p = omega (arith, pow_less (spare p) 0 (suc (length p.methods)) (omega arith), pow_some (spare p) 0)

power_two : (p : Image) → IsLinked p → 2 ≤ base p ^ length p.methods
unfolding main_of
power_two p linked =
    let some : 1 ≤ length p.methods = grind (arith, nat_tests, cons_given) in
    omega (arith, pow_less (spare p) 0 (length p.methods) (omega (arith, some)), pow_some (spare p) 0)

closing_two : (p : Image) → IsLinked p → 2 ≤ closing_rank p
closing_two p linked = omega (arith, power_two p linked, one_of (length p.classes) (base p ^ length p.methods))

-- a method that may leave is not quiet
pub nonquiet_leaver : (p : Image) → IsLinked p → (m : ℕ) → leaves p m ≡ true → is_quiet p m ≡ false
unfolding leaves_in quiet_in method_at
nonquiet_leaver p linked m e = some_given (λ o. leaves_in o ≡ true) (slice_get p.methods m) e (λ none. cc) (λ d there may.
    let shaped : IsShaped p d = all_there (IsShaped p) p.methods m d linked.shapes there in ap quiet_in there ∙ flag d shaped.flags (quiet_bit d) refl may)
  where
    flag : (d : Method) → FlagsFit d → (b : Bool) → quiet_bit d ≡ b → may_leave d ≡ true → b ≡ false
    flag d fits true q e = let never = fits.quiet q in cc
    flag d fits false q e = refl

-- a move of a method that is not quiet pays for a cell
pub cell_paid : (p : Image) (m : ℕ) → is_quiet p m ≡ false → cell_rank p + cell_rank p ≤ price p m
cell_paid p m nonquiet = grind (arith, nat_tests, pow_twice, pow_more)

-- ---- destructors

record IsQuietThere (p : Image) (m : ℕ) : Type 0 where
  within : m < length p.methods
  quiet : is_quiet p m ≡ true

-- what plays a role whose shape asks for it is a quiet method of the image
role_quiet : (p : Image) → IsLinked p → (c m : ℕ) (role : Role) →
    ((kind : Option ClassKind) (d : Method) → HasShape role kind d → quiet_in (Some d) ≡ true) → role_of p c role ≡ Some m → IsQuietThere p m
unfolding method_at
role_quiet p linked c m role quiet e =
    let w = role_inherits p c m role e in
    let d = w.method in
    let shaped : IsShaped p d = all_there (IsShaped p) p.methods m d linked.shapes w.there in
    let shape : HasShape role (kind_of p d.class) d = subst (λ r. HasShape r (kind_of p d.class) d) w.role shaped.role in
    record { within = slice_get_within p.methods m d w.there; quiet = ap quiet_in w.there ∙ quiet (kind_of p d.class) d shape }

quiet_destructor : (p : Image) → IsLinked p → (c m : ℕ) → role_of p c Destruct ≡ Some m → IsQuietThere p m
unfolding quiet_in
quiet_destructor p linked c m e = role_quiet p linked c m Destruct (λ kind d shape. shape.flags) e

-- a whole run of a class's own destructor is paid by a power that is over all quiet methods
destructor_paid : (p : Image) → IsLinked p → (c : ℕ) → run_rank p (own_role p c Destruct) + 2 ≤ base p ^ length p.methods
unfolding role_of
destructor_paid p linked c = grind (arith, nat_tests, power_two p linked, quiet_destructor p linked c, keeper_own p Destruct c, run_paid p)

-- and so many of them by so many
line_in_paid : (p : Image) → IsLinked p → (n : ℕ) (o : Option ℕ) → line_in p (run_rank p) n o + 2 ≤ suc n * base p ^ length p.methods
line_in_paid p linked (suc n) (Some c) = grind (arith, nat_tests, destructor_paid p linked c, line_in_paid p linked n, one_beside (suc n))
line_in_paid p linked n x = grind (arith, nat_tests, power_two p linked, one_of n, destructor_paid p linked, one_of 0)

-- a line has one of each class at most
line_paid : (p : Image) → IsLinked p → (x : Thing) → line p (run_rank p) x + 2 ≤ closing_rank p
line_paid p linked Message = closing_two p linked
line_paid p linked (Object_of c) = go (parent_of p c) refl
  where
    go : (o : Option ℕ) → parent_of p c ≡ o → line p (run_rank p) (Object_of c) + 2 ≤ closing_rank p
    go None above =
        let step = line_step p (run_rank p) c in
        let none = ap (line_from p (run_rank p)) above in
        omega (arith, step, none, destructor_paid p linked c, one_of (length p.classes) (base p ^ length p.methods))
    go (Some e) above =
        let within = child_there p c e above in
        let all = line_in_paid p linked c (Some c) in
        let more = scaled_le (suc c) (suc (length p.classes)) (base p ^ length p.methods) (omega (arith, within)) in
        omega (arith, all, more)

-- a line of destructors and the going after it are paid by what goes before a server, with one left
pub destructed_paid : (p : Image) → IsLinked p → (o : Object) (height : ℕ) (below : List Task) →
    tasks_rank p (destructed p o height below) + 1 ≤ closing_rank p + waiting_rank p below
destructed_paid p linked o height below = grind (arith, nat_tests, closing_two p linked, line_first p, line_paid p linked o.thing)

-- a destruction that begins is paid by its cell, with one left
pub begun_paid : (p : Image) → IsLinked p → (o : Object) (height : ℕ) (below : List Task) →
    tasks_rank p (begun p o height below) + 1 ≤ cell_rank p + waiting_rank p below
begun_paid p linked o height below = grind (arith, nat_tests, pow_step, double_le, closing_two p linked, destructed_paid p linked o height below)

-- what an instruction of a method runs comes before the method
pub runs_below : (p : Image) → IsLinked p → (m place : ℕ) (d : Method) (i : Instr) → method_at p m ≡ Some d → slice_get d.code place ≡ Some i →
    RunsBelow p m d.class i
unfolding method_at
runs_below p linked m place d i is stands = all_there (RunsBelow p m d.class) d.code place i (at_place (CallsOrdered p) p.methods m d linked.calls is).code stands

-- so what runs in the place of a method that is called does
pub body_before : (p : Image) (m m' : ℕ) (view : Option ℕ) → CallsBelow p m m' → body_of p m' view < m
unfolding method_at
body_before p m m' view below = grind (arith, nat_tests, body_runs p m' view, overrides_there p)

-- an operation is paid by its item, with two left
pub undo_paid : (p : Image) (m : ℕ) → IsUndo p m → left_in (method_at p m) [] 0 * price p m + 2 ≤ cell_rank p
unfolding method_at
undo_paid p m undo =
    let is : level p m ≡ m = ap (λ b. cond b m (suc (suc (length p.methods)) + m)) undo.quiet in
    let within : m < length p.methods = grind (arith, nat_tests, some_given, slice_get_within) in
    run_paid p m (suc (length p.methods)) (omega (arith, is, within))

-- ---- methods that cancel

-- one is a quiet method of the image
pub quiet_canceller : (p : Image) → IsLinked p → (c m : ℕ) → role_of p c Cancel_role ≡ Some m → is_quiet p m ≡ true
unfolding quiet_in
quiet_canceller p linked c m e = (role_quiet p linked c m Cancel_role (λ kind d shape. shape.flags) e).quiet

-- and comes before what cancels by it, also where the object is of a class that descends from the method's
pub canceller_before : (p : Image) → IsLinked p → (m place : ℕ) (d : Method) (i : Instr) (c x m' : ℕ) → method_at p m ≡ Some d → slice_get d.code place ≡ Some i →
    action_of i ≡ action.Cancel → d.class ≡ Some c → descends p x c ≡ true → role_of p x Cancel_role ≡ Some m' → m' < m
canceller_before p linked m place d i c x m' is stands cancels class family e =
    let below = subst (ActsBelow p m d.class) cancels (runs_below p linked m place d i is stands) in
    grind (arith, nat_tests, below, cancels_own p m x, through p)
