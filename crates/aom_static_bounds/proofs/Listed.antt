-- The lists of what an instruction may call have each method that it pays for: by the number of a class or a method that counts.
use Rattle.std.proofs.lemmas.Bool.Decides.{nat_tests}
use Rattle.std.proofs.Common.{Bool, List, None, Option, Some, [], ap, arith, false, inl, inr, length, refl, subst, suc, sym, true, zero, ℕ, ◌++◌, ◌<◌}
use Rattle.std.proofs.Common.{◌==◌, ◌||◌, ◌∙◌, ◌∷◌, ◌≡◌}
use Rattle.std.specs.Prelude.{◌⊎◌}
use Rattle.std.proofs.lemmas.Bool.{eqb-true}
use Rattle.aom_image.specs.Image.{Image}
use Rattle.aom_image.specs.declared.method.Role.TheVariants.{Cancel, Destruct}
use Rattle.aom_image.specs.declared.method.Thing.{Thing}
use Rattle.aom_image.specs.declared.method.Thing.TheVariants.{Object}
use Rattle.aom_static_bounds.proofs.RolesLemmas.{itself, through}
use Rattle.aom_roles.specs.Classes.{sessions_at}
use Rattle.aom_roles.specs.Families.{descends, descends_in, parent_of}
use Rattle.aom_link_conditions.specs.Overriding.{leads_in, over_in, overrides}
use Rattle.aom_link_conditions.specs.Roles.{own_role, role_of}
use Rattle.aom_static_bounds.proofs.LinkConditionsLemmas.{keeper_found}
use Rattle.aom_static_bounds.proofs.ImageLemmas.{some_given}
use Rattle.aom_roles.specs.Things.{is_subtype}
use Rattle.aom_static_bounds.specs.Calls.{Among, bodies, cancels, destructors, each_below, each_of, lines, lines_of, listed, thing_class}
use Rattle.aom_static_bounds.specs.Layers.{Cancelled, Destructs, InLine, MayRun, Runs}
use Rattle.aom_static_bounds.proofs.Methods.{method_within}
use Rattle.aom_static_bounds.proofs.Maxima.{within_or_same}

-- ---- among lists

pub among_left : (k : ℕ) (xs ys : List ℕ) → Among k xs → Among k (xs ++ ys)
among_left k [] ys h = absurd h
among_left k (x ∷ xs) ys (inl e) = inl e
among_left k (x ∷ xs) ys (inr h) = inr (among_left k xs ys h)

pub among_right : (k : ℕ) (xs ys : List ℕ) → Among k ys → Among k (xs ++ ys)
among_right k [] ys h = h
among_right k (x ∷ xs) ys h = inr (among_right k xs ys h)

pub among_either : (k : ℕ) (xs ys : List ℕ) → Among k (xs ++ ys) → Among k xs ⊎ Among k ys
among_either k [] ys h = inr h
among_either k (x ∷ xs) ys (inl e) = inl (inl e)
among_either k (x ∷ xs) ys (inr h) = elim (among_either k xs ys h) [ inl there ↦ inl (inr there) | inr there ↦ inr there ]

among_listed : (o : Option ℕ) (k : ℕ) → o ≡ Some k → Among k (listed o)
among_listed o k is = subst (λ x. Among k (listed x)) (sym is) (inl refl)

-- ---- of the numbers below one that count

each_has : (counts : ℕ → Bool) (f : ℕ → List ℕ) (n y k : ℕ) → y < n → counts y ≡ true → Among k (f y) → Among k (each_of counts f n)
each_has counts f zero y k lt c h = absurd (omega (arith, lt))
each_has counts f (suc n) y k lt c h = grind (arith, among_right k, each_has counts f n y k, among_left k)

each_from : (counts : ℕ → Bool) (f : ℕ → List ℕ) (n k : ℕ) → Among k (each_of counts f n) → (y : ℕ) × (counts y ≡ true) × Among k (f y)
each_from counts f zero k h = absurd h
each_from counts f (suc n) k h = grind (arith, nat_tests, among_either k, each_from counts f n k)

pub below_lists : (p : Image) (f : ℕ → List ℕ) (c y k : ℕ) → descends p y c ≡ true → Among k (f y) → Among k (each_below p f (Some c))
below_lists p f c y k h among = go (y == c) refl
  where
    go : (b : Bool) → (y == c) ≡ b → Among k (each_below p f (Some c))
    go true same = among_left k (f c) (each_of (λ x. descends p x c) f (length p.classes)) (subst (λ x. Among k (f x)) (eqb-true y c same) among)
    go false other = among_right k (f c) (each_of (λ x. descends p x c) f (length p.classes))
        (each_has (λ x. descends p x c) f (length p.classes) y k (within_or_same p y c h other) h among)

pub below_from : (p : Image) (f : ℕ → List ℕ) (c k : ℕ) → Among k (each_below p f (Some c)) → (y : ℕ) × (descends p y c ≡ true) × Among k (f y)
below_from p f c k h = grind (arith, nat_tests, among_either k (f c), itself p c, each_from)

-- ---- destructors

own_lists : (p : Image) (c d k : ℕ) → c ≡ d → own_role p d Destruct ≡ Some k → Among k (listed (own_role p c Destruct))
own_lists p c d k same is = among_listed (own_role p c Destruct) k (ap (λ x. own_role p x Destruct) same ∙ is)

line_lists : (p : Image) (n : ℕ) (o : Option ℕ) (d k : ℕ) → descends_in p n o d ≡ true → own_role p d Destruct ≡ Some k → Among k (lines p n o)
unfolding descends_in
line_lists p (suc n) (Some c) d k h is = go (c == d) refl h (λ above. line_lists p n (parent_of p c) d k above is)
  where
    go : (b : Bool) → (c == d) ≡ b → (b || descends_in p n (parent_of p c) d) ≡ true →
        (descends_in p n (parent_of p c) d ≡ true → Among k (lines p n (parent_of p c))) → Among k (lines p (suc n) (Some c))
    go true same h later = among_left k (listed (own_role p c Destruct)) (lines p n (parent_of p c)) (own_lists p c d k (eqb-true c d same) is)
    go false other h later = among_right k (listed (own_role p c Destruct)) (lines p n (parent_of p c)) (later h)
line_lists p x y d k h is = grind arith

abbrev pub gone_with : Image → ℕ → List ℕ
gone_with p c = lines_of p (Some c) ++ lines_of p (sessions_at p c)

runs_lists : (p : Image) (c k : ℕ) → Runs p (Object c) k → Among k (gone_with p c)
runs_lists p c k (inl w) = among_left k (lines_of p (Some c)) (lines_of p (sessions_at p c)) (line_lists p c (Some c) w.0 k w.1 w.2)
runs_lists p c k (inr w) = grind (arith, among_right k, line_lists p w.0 (Some w.0) w.2.0 k w.2.1 w.2.2)

-- the destructors that run as what stands there goes are those that may be called
pub runs_among : (p : Image) (x : Thing) (k : ℕ) → Destructs p x k → Among k (destructors p (thing_class x))
runs_among p (Object c) k (Object y, stands, runs) = below_lists p (gone_with p) c y k stands (runs_lists p y k runs)
runs_among p x k y = grind arith

-- and what stands for a thing runs no others than that
pub stands_among :
    (p : Image) (x y : Thing) (k : ℕ) → is_subtype p x y ≡ true → Among k (destructors p (thing_class x)) → Among k (destructors p (thing_class y))
stands_among p (Object a) (Object b) k h among =
    let w = below_from p (gone_with p) a k among in
    below_lists p (gone_with p) b w.0 k (through p w.0 a b w.1 h) w.2
stands_among p x y k h among = grind arith

-- the destructor that a class has, itself or from above, is in its line
pub kept_in_line : (p : Image) (c m : ℕ) → role_of p c Destruct ≡ Some m → InLine p (Object c) m
unfolding role_of
kept_in_line p c m e = grind (arith, nat_tests, some_given, keeper_found p Destruct c)

-- ---- cancels and calls

pub cancel_among : (p : Image) (class : Option ℕ) (k : ℕ) → Cancelled p class k → Among k (cancels p class)
cancel_among p None k w = absurd w
cancel_among p (Some c) k w = below_lists p (λ x. listed (role_of p x Cancel)) c w.0 k w.1 (among_listed (role_of p w.0 Cancel) k w.2)

overrider_there : (p : Image) (k m : ℕ) → overrides p k m ≡ true → k < length p.methods
unfolding over_in leads_in
overrider_there p k m over = grind (arith, nat_tests, method_within p k)

pub run_among : (p : Image) (j k : ℕ) → MayRun p j k → Among k (bodies p j)
run_among p j k (inl same) = inl (sym same)
run_among p j k (inr over) = inr (each_has (λ b. overrides p b j) (λ b. b ∷ []) (length p.methods) k k (overrider_there p k j over) over (inl refl))
