-- A line of destructors, class by class from below, and what is in it.
use Rattle.std.proofs.lemmas.Bool.Decides.{nat_tests}
use Rattle.std.proofs.Common.{IfSome, List, None, Option, Some, [], ap, arith, inl, inr, length, refl, suc, sym, true, zero, ℕ, ◌++◌, ◌+◌, ◌==◌, ◌||◌}
use Rattle.std.proofs.Common.{◌∙◌, ◌∷◌, ◌≡◌, ◌≤◌}
use Rattle.std.specs.Prelude.{max}
use Rattle.std.proofs.lemmas.Bool.{eq-eqb, or_right}
use Rattle.std.proofs.lemmas.Option.{slice_get_past, same_Some}
use Rattle.aom_budget.proofs.ImageLemmas.{some_given}
use Rattle.aom_image.specs.Image.{Image}
use Rattle.aom_image.specs.Views.{class_at, class_in, method_at, method_class}
use Rattle.aom_image.specs.WellFormed.{WellFormed}
use Rattle.aom_image.specs.declared.method.Method.{Method}
use Rattle.aom_image.specs.declared.method.Role.{Role}
use Rattle.aom_image.specs.declared.method.Role.TheVariants.{Cancel, Destruct}
use Rattle.aom_image.specs.declared.method.Thing.{Thing}
use Rattle.aom_image.specs.declared.method.Thing.TheVariants.{Message, Object}
use Rattle.aom_budget.proofs.RolesLemmas.{fewer, none_below, parent_below}
use Rattle.aom_roles.specs.Classes.{kind_at, kind_in, sessions_at, sessions_in}
use Rattle.aom_roles.specs.Families.{descends, descends_in, parent_of}
use Rattle.aom_budget.proofs.LinkConditionsLemmas.{child_there, keeper_own, none_there, own_found, role_inherits}
use Rattle.aom_budget.proofs.LinkerLemmas.{no_player}
use Rattle.aom_link_conditions.specs.Roles.{own_role, role_by, role_of}
use Rattle.aom_static_bounds.specs.Calls.{Among, cancels, destructors, lines, lines_of, listed}
use Rattle.aom_static_bounds.specs.Layers.{Destructs, InLine, Runs}
use Rattle.aom_budget.proofs.StaticBoundsLemmas.{among_either, below_from, gone_with, line_step}
use Rattle.aom_static_bounds.specs.Most.{line, line_from}
use Rattle.aom_budget.specs.Greatest.{most_at}
use Rattle.aom_budget.specs.Pricing.{kept, price_by}
use Rattle.aom_budget.proofs.Greatest.{most_append}

-- ---- the destructor that a class has itself

module _ (p : Image) where
  class_of_own : (c m : ℕ) → own_role p c Destruct ≡ Some m → method_class p m ≡ Some c
  unfolding class_in
  class_of_own c m own = let w = own_found p c m Destruct own in rw w.1 w.2

  inherits_own : (c k : ℕ) → own_role p c Destruct ≡ Some k → role_of p c Destruct ≡ Some k
  unfolding role_of
  inherits_own c k own = ap (role_by p Destruct) (keeper_own p Destruct c k own) ∙ own

  pub is_own : (c m : ℕ) → role_of p c Destruct ≡ Some m → method_class p m ≡ Some c → own_role p c Destruct ≡ Some m
  unfolding role_of
  is_own c m role class = grind (arith, nat_tests, some_given, class_of_own)

  pub not_own : (c m : ℕ) → role_of p c Destruct ≡ Some m → (method_class p m ≡ Some c → ⊥) → own_role p c Destruct ≡ None
  not_own c m role other = grind (arith, nat_tests, inherits_own c, class_of_own c)

  pub none_own : (c : ℕ) → role_of p c Destruct ≡ None → own_role p c Destruct ≡ None
  none_own c role = grind (arith, nat_tests, inherits_own c)

-- ---- what a line costs, one class first

module _ (p : Image) (cost : Option ℕ → ℕ) where
  -- one class more
  pub line_goes : (x own t y : ℕ) (o next : Option ℕ) (w : ℕ) → o ≡ Some x → own ≡ cost (own_role p x Destruct) → y ≡ kept (t + own) → next ≡ parent_of p x →
      kept (t + line_from p cost o) ≡ w → kept (y + line_from p cost next) ≡ w
  line_goes x own t y o next w is price sum parent h = grind (arith, nat_tests, line_step p cost x)

-- ---- and what is listed of it

module _ (p : Image) where
  nothing_after : (xs : List ℕ) → (xs ++ []) ≡ xs
  nothing_after [] = refl
  nothing_after (x ∷ xs) = ap (λ ys. x ∷ ys) (nothing_after xs)

  none_listed : (n : ℕ) → lines p n None ≡ []
  none_listed x = grind arith

  last_listed : (n c : ℕ) → c ≤ 0 → (listed (own_role p c Destruct) ++ lines p n (parent_of p c)) ≡ listed (own_role p c Destruct)
  last_listed n c le = grind (arith, nat_tests, none_below p, none_listed n, nothing_after)

  enough_listed : (n m : ℕ) (o : Option ℕ) → IfSome o (λ c. c ≤ n) → IfSome o (λ c. c ≤ m) → lines p n o ≡ lines p m o
  enough_listed zero zero None a b = refl
  enough_listed zero (suc m) None a b = refl
  enough_listed (suc n) zero None a b = refl
  enough_listed (suc n) (suc m) None a b = refl
  enough_listed zero zero (Some c) a b = refl
  enough_listed zero (suc m) (Some c) a b = sym (last_listed m c a)
  enough_listed (suc n) zero (Some c) a b = last_listed n c b
  enough_listed (suc n) (suc m) (Some c) a b = ap (λ xs. listed (own_role p c Destruct) ++ xs) (enough_listed n m (parent_of p c) (fewer p c n a) (fewer p c m b))

  lines_step : (c : ℕ) → lines_of p (Some c) ≡ (listed (own_role p c Destruct) ++ lines_of p (parent_of p c))
  lines_step x = grind (arith, nat_tests, none_below p, nothing_after, none_listed, parent_below p, enough_listed)

  pub most_step : (ds : List ℕ) (c : ℕ) →
      most_at ds (lines_of p (Some c)) ≡ max (most_at ds (listed (own_role p c Destruct))) (most_at ds (lines_of p (parent_of p c)))
  most_step ds c = ap (most_at ds) (lines_step c) ∙ most_append ds (listed (own_role p c Destruct)) (lines_of p (parent_of p c))

  pub most_goes : (ds : List ℕ) (x own t y : ℕ) (o next : Option ℕ) (w : ℕ) → o ≡ Some x → own ≡ most_at ds (listed (own_role p x Destruct)) → y ≡ max t own →
      next ≡ parent_of p x → max t (most_at ds (lines_of p o)) ≡ w → max y (most_at ds (lines_of p next)) ≡ w
  most_goes ds x own t y o next w is depth most parent h = grind (arith, nat_tests, most_step ds x)

pub most_listed : (ns : List ℕ) (o : Option ℕ) → most_at ns (listed o) ≡ price_by ns o
most_listed ns x = grind arith

-- ---- what is in a line

listed_is : (o : Option ℕ) (k : ℕ) → Among k (listed o) → o ≡ Some k
listed_is x k h = grind arith

in_lines : (p : Image) (n : ℕ) (o : Option ℕ) (k : ℕ) → Among k (lines p n o) → (d : ℕ) × (descends_in p n o d ≡ true) × (own_role p d Destruct ≡ Some k)
unfolding descends_in
in_lines p zero None k h = absurd h
in_lines p (suc n) None k h = absurd h
in_lines p zero (Some c) k h = (c, eq-eqb c c refl, listed_is (own_role p c Destruct) k h)
in_lines p (suc n) (Some c) k h = elim (among_either k (listed (own_role p c Destruct)) (lines p n (parent_of p c)) h) [
  | inl here ↦ (c, ap (λ b. b || descends_in p n (parent_of p c) c) (eq-eqb c c refl), listed_is (own_role p c Destruct) k here)
  | inr rest ↦ let w = in_lines p n (parent_of p c) k rest in (w.0, or_right (c == w.0) (descends_in p n (parent_of p c) w.0) w.1, w.2)
]

in_line : (p : Image) (c k : ℕ) → Among k (lines_of p (Some c)) → InLine p (Object c) k
in_line p c k h = in_lines p c (Some c) k h

gone_runs : (p : Image) (y k : ℕ) → Among k (gone_with p y) → Runs p (Object y) k
gone_runs p y k h = grind (arith, nat_tests, among_either k, in_line p y k, in_line p)

-- of all that may stand for a class
pub destructors_from : (p : Image) (c k : ℕ) → Among k (destructors p (Some c)) → (y : ℕ) × (descends p y c ≡ true) × Runs p (Object y) k
destructors_from p c k h = let w = below_from p (gone_with p) c k h in (w.0, w.1, gone_runs p w.0 k w.2)

pub cancels_from : (p : Image) (c k : ℕ) → Among k (cancels p (Some c)) → (y : ℕ) × (descends p y c ≡ true) × (role_of p y Cancel ≡ Some k)
cancels_from p c k h = let w = below_from p (λ x. listed (role_of p x Cancel)) c k h in (w.0, w.1, listed_is (role_of p w.0 Cancel) k w.2)

-- ---- by their roles

abbrev pub Plays : Image → ℕ → Role → Type 0
Plays p k r = (d : Method) × (method_at p k ≡ Some d) × (d.role ≡ r)

line_plays : (p : Image) (x : Thing) (k : ℕ) → InLine p x k → Plays p k Destruct
line_plays p (Object c) k w = let f = own_found p w.0 k Destruct w.2 in (f.0, f.1, f.3)
line_plays p Message k w = absurd w

pub runs_plays : (p : Image) (x : Thing) (k : ℕ) → Runs p x k → Plays p k Destruct
runs_plays p x k (inl w) = line_plays p x k w
runs_plays p x k (inr w) = line_plays p (Object w.0) k w.2

pub destructs_plays : (p : Image) (x : Thing) (k : ℕ) → Destructs p x k → Plays p k Destruct
destructs_plays p x k w = runs_plays p w.0 k w.2

pub destructors_play : (p : Image) (c k : ℕ) → Among k (destructors p (Some c)) → Plays p k Destruct
destructors_play p c k h = let w = destructors_from p c k h in runs_plays p (Object w.0) k w.2

pub cancels_play : (p : Image) (c k : ℕ) → Among k (cancels p (Some c)) → Plays p k Cancel
cancels_play p c k h = let w = cancels_from p c k h in let f = role_inherits p w.0 k Cancel w.2 in (f.method, f.there, f.role)

-- a method of another role is none of these
pub plays_not : (p : Image) (k : ℕ) (d : Method) (r : Role) → method_at p k ≡ Some d → (d.role ≡ r → ⊥) → Plays p k r → ⊥
plays_not p k d r is other w = other (ap (λ (e : Method). e.role) (same_Some d w.0 (sym is ∙ w.1)) ∙ w.2)

-- ---- a class that is not there

module _ (p : Image) (formed : WellFormed p) (c : ℕ) (past : length p.classes ≤ c) where
  absent_own : (r : Role) → own_role p c r ≡ None
  unfolding own_role
  absent_own r = no_player p.header.version (length p.classes) (length p.methods) c r p.methods formed.methods.each past

  pub absent_role : (r : Role) → role_of p c r ≡ None
  absent_role r = none_there p r c past (absent_own r)

  absent_parent : parent_of p c ≡ None
  absent_parent = grind (arith, nat_tests, child_there p c)

  pub absent_kind : kind_at p c ≡ None
  unfolding kind_in class_at
  absent_kind = ap kind_in (slice_get_past p.classes c past)

  absent_sessions : sessions_at p c ≡ None
  unfolding sessions_in
  absent_sessions = ap sessions_in absent_kind

  pub absent_line : (cost : Option ℕ → ℕ) → cost None ≡ 0 → line p cost (Object c) ≡ 0
  absent_line cost nobody = grind (arith, nat_tests, absent_own Destruct, absent_parent, line_step p cost c)

  pub absent_gone : gone_with p c ≡ []
  absent_gone = grind (arith, nat_tests, lines_step p c, absent_own Destruct, absent_parent, absent_sessions)

  pub absent_cancels : listed (role_of p c Cancel) ≡ []
  absent_cancels = ap listed (absent_role Cancel)
