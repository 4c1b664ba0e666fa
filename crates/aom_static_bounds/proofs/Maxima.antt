-- The most of numbers: it is no less than each that counts, no more than what all are within, and related where they are.
use Rattle.std.proofs.lemmas.Bool.Decides.{nat_tests}
use Rattle.std.proofs.Common.{◌≡◌, ◌<◌, ◌≤◌, ◌+◌, ◌==◌, ℕ, zero, suc, Bool, true, false, cond, length, Option, Some, None, inl, inr, refl}
use Rattle.std.proofs.Common.{ap, arith, subst, IfSome, slice_get}
use Rattle.std.specs.Prelude.{max}
use Rattle.std.proofs.lemmas.Bool.{cases_lt, eq-eqb, eqb-true, or_left, or_right}
use Rattle.std.proofs.lemmas.Option.{slice_get_within}
use Rattle.aom_image.specs.Image.{Image}
use Rattle.aom_image.specs.Views.{class_at}
use Rattle.aom_image.specs.WellFormed.{ParentFits, WellFormed, may_descend}
use Rattle.aom_image.specs.declared.class.ClassKind.{ClassKind}
use Rattle.aom_image.specs.declared.class.ClassDecl.{ClassDecl}
use Rattle.aom_image.specs.declared.method.Role.TheVariants.{Destruct}
use Rattle.aom_image.specs.declared.method.Thing.{Thing}
use Rattle.aom_image.specs.declared.method.Thing.TheVariants.{Object, Message}
use Rattle.aom_roles.specs.Families.{descends, descends_in, lower, parent_in, parent_of}
use Rattle.aom_roles.specs.Classes.{is_session, is_session_in, is_session_kind, kind_in}
use Rattle.aom_static_bounds.proofs.RolesLemmas.{along, from_none, itself, stands_along}
use Rattle.aom_static_bounds.proofs.LinkConditionsLemmas.{all_there}
use Rattle.aom_link_conditions.specs.Families.{Continues, ContinuesParent}
use Rattle.aom_link_conditions.specs.Linked.{IsLinked}
use Rattle.aom_link_conditions.specs.Overriding.{overrides}
use Rattle.aom_link_conditions.specs.Roles.{own_role}
use Rattle.aom_roles.specs.Things.{is_subtype}
use Rattle.aom_static_bounds.specs.Most.{line, line_in, most_below, most_of, most_run, most_standing}
use Rattle.aom_static_bounds.specs.Layers.{InLine, MayRun}

-- ---- bounds

pub most_has : (counts : ℕ → Bool) (f : ℕ → ℕ) (n k : ℕ) → k < n → counts k ≡ true → f k ≤ most_of counts f n
most_has counts f zero k lt c = absurd (omega (arith, lt))
most_has counts f (suc n) k lt c = grind (arith, nat_tests, most_has counts f n k, cases_lt k n)

pub most_least : (counts : ℕ → Bool) (f : ℕ → ℕ) (n v : ℕ) → ((k : ℕ) → k < n → counts k ≡ true → f k ≤ v) → most_of counts f n ≤ v
most_least counts f zero v each = omega arith
most_least counts f (suc n) v each = grind (arith, nat_tests, most_least counts f n v)

-- ---- what stands for a class has a class that is there, or is it

parent_there : (p : Image) (c : ℕ) (d : Option ClassDecl) (e : ℕ) → class_at p c ≡ d → lower c (parent_in d) ≡ Some e → c < length p.classes
unfolding class_at parent_in
parent_there p c x e is some = grind (arith, nat_tests, slice_get_within p.classes c)

pub within_or_same : (p : Image) (c d : ℕ) → descends p c d ≡ true → (c == d) ≡ false → c < length p.classes
within_or_same p c d h other = grind (arith, nat_tests, from_none p c d other, parent_there p c)

-- ---- standing

pub below_has : (p : Image) (f : ℕ → ℕ) (x c : ℕ) → descends p x c ≡ true → f x ≤ most_below p f c
below_has p f x c h = go (x == c) refl
  where
    go : (b : Bool) → (x == c) ≡ b → f x ≤ most_below p f c
    go true same = let e = ap f (eqb-true x c same) in omega (arith, e)
    go false other =
        let most = most_has (λ y. descends p y c) f (length p.classes) x (within_or_same p x c h other) h in
        omega (arith, most)

pub below_least : (p : Image) (f : ℕ → ℕ) (c v : ℕ) → ((x : ℕ) → descends p x c ≡ true → f x ≤ v) → most_below p f c ≤ v
below_least p f c v each =
    let rest = most_least (λ y. descends p y c) f (length p.classes) v (λ k lt h. each k h) in
    let here = each c (itself p c) in
    omega (arith, rest, here)

pub standing_has : (p : Image) (f : Thing → ℕ) (x y : Thing) → is_subtype p x y ≡ true → f x ≤ most_standing p f y
standing_has p f (Object x) (Object y) h = below_has p (λ c. f (Object c)) x y h
standing_has p f x y h = grind arith

pub standing_least : (p : Image) (f : Thing → ℕ) (y : Thing) (v : ℕ) → ((x : Thing) → is_subtype p x y ≡ true → f x ≤ v) → most_standing p f y ≤ v
standing_least p f (Object c) v each = below_least p (λ x. f (Object x)) c v (λ x h. each (Object x) h)
standing_least p f Message v each = each Message refl

-- what stands in the place of a thing comes to no more than what the thing is declared to come to
pub most_stands_in : (p : Image) (f : Thing → ℕ) (x y : Thing) → is_subtype p x y ≡ true → most_standing p f x ≤ most_standing p f y
most_stands_in p f x y h = standing_least p f x (most_standing p f y) (λ z a. standing_has p f z y (stands_along p z x y a h))

-- a call of a method, and one of what overrides it
pub run_has : (p : Image) (f : ℕ → ℕ) (j k : ℕ) → MayRun p j k → k < length p.methods → f k ≤ most_run p f j
run_has p f j k (inl same) lt = let e = ap f same in omega (arith, e)
run_has p f j k (inr over) lt = let most = most_has (λ b. overrides p b j) f (length p.methods) k lt over in omega (arith, most)

-- ---- sessions have no descendants

-- no class has a session's for its parent
abbrev pub SessionsEnd : Image → Type 0
SessionsEnd p = (c e : ℕ) → parent_of p c ≡ Some e → is_session p e ≡ false

-- a class with a parent declares it
parent_named : (p : Image) (c e : ℕ) → parent_of p c ≡ Some e → (d : ClassDecl) × (class_at p c ≡ Some d) × (d.parent ≡ Some e)
unfolding parent_in
parent_named p c e is = grind (arith, nat_tests)

descends_plainly : (k : ClassKind) → may_descend k ≡ true → is_session_kind k ≡ false
unfolding is_session_kind
descends_plainly k may = grind arith

-- in a file no class of sessions has a child: what has a parent is of another kind, and its parent's
pub sessions_end : (p : Image) → WellFormed p → IsLinked p → SessionsEnd p
unfolding class_at is_session_in kind_in
sessions_end p formed linked c e parent =
    let own = parent_named p c e parent in
    let d = own.0 in
    let fits = all_there (λ d. ParentFits p.header.version (length p.classes) d.kind d.parent) p.classes c d formed.families.parents own.1 in
    let may = subst (λ o. ParentFits p.header.version (length p.classes) d.kind o) own.2 fits in
    let goes : IfSome (slice_get p.classes e) (Continues d) = grind (arith, all_there (ContinuesParent p) p.classes c d linked.parents own.1) in
    of (slice_get p.classes e) refl goes may.1
  where
    of : (o : Option ClassDecl) → slice_get p.classes e ≡ o → IfSome o (Continues (parent_named p c e parent).0) →
        may_descend (parent_named p c e parent).0.kind ≡ true → is_session p e ≡ false
    of x at goes may = grind (arith, nat_tests, descends_plainly, parent_named)

pub session_alone : (p : Image) → SessionsEnd p → (s x : ℕ) → is_session p s ≡ true → descends p x s ≡ true → x ≡ s
session_alone p ends s x is h = along p (λ c. c ≡ s) s (λ c e parent same. absurd (clash c e parent same)) refl x h
  where
    clash : (c e : ℕ) → parent_of p c ≡ Some e → e ≡ s → ⊥
    clash c e parent same = let not = ends c e parent in let so = ap (λ k. is_session p k) same in cc

pub session_most : (p : Image) → SessionsEnd p → (f : Thing → ℕ) (s : ℕ) → is_session p s ≡ true → most_standing p f (Object s) ≡ f (Object s)
session_most p ends f s is =
    let up = standing_has p f (Object s) (Object s) (itself p s) in
    let down = below_least p (λ c. f (Object c)) s (f (Object s)) (λ x h. let e = ap (λ c. f (Object c)) (session_alone p ends s x is h) in omega (arith, e)) in
    omega (arith, up, down)

-- ---- related

module _ (R : ℕ → ℕ → Type 0) (none : R 0 0) (maxima : (x y z w : ℕ) → R x y → R z w → R (max x z) (max y w)) where
  pub most_related : (counts : ℕ → Bool) (f g : ℕ → ℕ) (n : ℕ) → ((k : ℕ) → counts k ≡ true → R (f k) (g k)) → R (most_of counts f n) (most_of counts g n)
  most_related counts f g zero each = none
  most_related counts f g (suc n) each =
      maxima (cond (counts n) (f n) 0) (cond (counts n) (g n) 0) (most_of counts f n) (most_of counts g n) (go (counts n) refl) (most_related counts f g n each)
    where
      go : (b : Bool) → counts n ≡ b → R (cond b (f n) 0) (cond b (g n) 0)
      go true is = each n is
      go false is = none

  pub below_related : (p : Image) (f g : ℕ → ℕ) (c : ℕ) → ((x : ℕ) → descends p x c ≡ true → R (f x) (g x)) → R (most_below p f c) (most_below p g c)
  below_related p f g c each = maxima (f c) (g c) (most_of (λ y. descends p y c) f (length p.classes)) (most_of (λ y. descends p y c) g (length p.classes))
      (each c (itself p c)) (most_related (λ y. descends p y c) f g (length p.classes) each)

  pub standing_related :
      (p : Image) (f g : Thing → ℕ) (x : Thing) → ((y : Thing) → is_subtype p y x ≡ true → R (f y) (g y)) → R (most_standing p f x) (most_standing p g x)
  standing_related p f g (Object c) each = below_related p (λ x. f (Object x)) (λ x. g (Object x)) c (λ x h. each (Object x) h)
  standing_related p f g Message each = each Message refl

  pub run_related : (p : Image) (f g : ℕ → ℕ) (j : ℕ) → ((k : ℕ) → MayRun p j k → R (f k) (g k)) → R (most_run p f j) (most_run p g j)
  run_related p f g j each = maxima (f j) (g j) (most_of (λ k. overrides p k j) f (length p.methods)) (most_of (λ k. overrides p k j) g (length p.methods))
      (each j (inl refl)) (most_related (λ k. overrides p k j) f g (length p.methods) (λ k over. each k (inr over)))

module _ (R : ℕ → ℕ → Type 0) (none : R 0 0) (plus : (x y z w : ℕ) → R x y → R z w → R (x + z) (y + w))
    (p : Image) (f g : Option ℕ → ℕ) (nobody : R (f None) (g None)) where
  one_related : (o : Option ℕ) → ((k : ℕ) → o ≡ Some k → R (f (Some k)) (g (Some k))) → R (f o) (g o)
  one_related None each = nobody
  one_related (Some k) each = each k refl

  in_related : (n : ℕ) (o : Option ℕ) → ((k d : ℕ) → descends_in p n o d ≡ true → own_role p d Destruct ≡ Some k → R (f (Some k)) (g (Some k))) →
      R (line_in p f n o) (line_in p g n o)
  unfolding descends_in
  in_related zero None each = none
  in_related (suc n) None each = none
  in_related zero (Some c) each = one_related (own_role p c Destruct) (λ k is. each k c (eq-eqb c c refl) is)
  in_related (suc n) (Some c) each = plus (f (own_role p c Destruct)) (g (own_role p c Destruct)) (line_in p f n (parent_of p c))
      (line_in p g n (parent_of p c))
      (one_related (own_role p c Destruct) (λ k is. each k c (or_left (c == c) (descends_in p n (parent_of p c) c) (eq-eqb c c refl)) is))
      (in_related n (parent_of p c) (λ k d h is. each k d (or_right (c == d) (descends_in p n (parent_of p c) d) h) is))

  pub line_related : (x : Thing) → ((k : ℕ) → InLine p x k → R (f (Some k)) (g (Some k))) → R (line p f x) (line p g x)
  line_related (Object c) each = in_related c (Some c) (λ k d h is. each k (d, h, is))
  line_related Message each = none
