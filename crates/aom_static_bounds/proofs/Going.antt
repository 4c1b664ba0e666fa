-- What destructions cost: by the rule a server's takes in those of its sessions, and since these have no sessions, one pass over the destructors finds all.
use Rattle.std.proofs.Common.{◌≡◌, ◌+◌, ◌*◌, ℕ, true, Option, Some, None, inl, inr, refl, sym, ap, arith, ◌∙◌}
use Rattle.std.specs.Prelude.{max, min}
use Rattle.aom_image.specs.Image.{Image}
use Rattle.aom_image.specs.WellFormed.{WellFormed}
use Rattle.aom_image.specs.Views.{class_at}
use Rattle.aom_image.specs.declared.class.ClassDecl.{ClassDecl}
use Rattle.aom_image.specs.declared.class.ClassKind.{ClassKind}
use Rattle.aom_image.specs.declared.class.ClassKind.TheVariants.{Plain, Active, Server, Session}
use Rattle.aom_image.specs.declared.method.Thing.{Thing}
use Rattle.aom_image.specs.declared.method.Thing.TheVariants.{Object, Message}
use Rattle.aom_roles.specs.Classes.{is_session, is_session_in, is_session_kind, kind_at, kind_in, sessions_in, sessions_of}
use Rattle.aom_link_conditions.specs.Linked.{IsLinked}
use Rattle.aom_static_bounds.specs.Most.{line, most_standing}
use Rattle.aom_static_bounds.proofs.Maxima.{line_related, session_most, sessions_end, standing_related}
use Rattle.aom_static_bounds.specs.Prices.{Prices, kind_sessions, perhaps_price, perhaps_sessions, sessions_cost}
use Rattle.aom_static_bounds.specs.Costs.{destructor_price}
use Rattle.aom_static_bounds.specs.Layers.{Destructs, InLine, Runs, thing_sessions}
use Rattle.aom_static_bounds.specs.Sweeping.{all_going, going, whole_going}
use Rattle.aom_static_bounds.proofs.Capped.{Alike, alike_max, alike_plus, alike_times}

-- ---- related costs

module _ (R : ℕ → ℕ → Type 0) (none : R 0 0) (times : (n x y : ℕ) → R x y → R (n * x) (n * y)) where
  -- sessions cost as one of their class does
  module _ (f g : ℕ → ℕ) where
    kind_related : (kind : ClassKind) → ((s : ℕ) → sessions_of kind ≡ Some s → R (f s) (g s)) → R (kind_sessions f kind) (kind_sessions g kind)
    unfolding sessions_of
    kind_related Plain h = none
    kind_related (Active provider) h = none
    kind_related (Server most session) h = times most (f session) (g session) (h session refl)
    kind_related Session h = none

    perhaps_related : (o : Option ClassKind) → ((s : ℕ) → sessions_in o ≡ Some s → R (f s) (g s)) → R (perhaps_sessions f o) (perhaps_sessions g o)
    unfolding sessions_in
    perhaps_related None h = none
    perhaps_related (Some kind) h = kind_related kind h

    pub sessions_related : (p : Image) (x : Thing) → ((s : ℕ) → thing_sessions p x ≡ Some s → R (f s) (g s)) → R (sessions_cost p f x) (sessions_cost p g x)
    sessions_related p (Object c) h = perhaps_related (kind_at p c) h
    sessions_related p Message h = none

  -- what goes costs as the destructors that run
  module _ (one : R 1 1) (plus : (x y z w : ℕ) → R x y → R z w → R (x + z) (y + w))
      (maxima : (x y z w : ℕ) → R x y → R z w → R (max x z) (max y w)) (f g : Option ℕ → ℕ) (nobody : R (f None) (g None)) (p : Image) where
    going_related : (x : Thing) → ((k : ℕ) → InLine p x k → R (f (Some k)) (g (Some k))) → R (going p f x) (going p g x)
    going_related x h = plus 1 1 (line p f x) (line p g x) one (line_related R none plus p f g nobody x h)

    whole_related : (x : Thing) → ((k : ℕ) → Runs p x k → R (f (Some k)) (g (Some k))) → R (whole_going p f x) (whole_going p g x)
    whole_related x h = plus (going p f x) (going p g x) (sessions_cost p (λ s. going p f (Object s)) x) (sessions_cost p (λ s. going p g (Object s)) x)
        (going_related x (λ k e. h k (inl e)))
        (sessions_related (λ s. going p f (Object s)) (λ s. going p g (Object s)) p x (λ s is. going_related (Object s) (λ k e. h k (inr (s, is, e)))))

    pub all_related : (x : Thing) → ((k : ℕ) → Destructs p x k → R (f (Some k)) (g (Some k))) → R (all_going p f x) (all_going p g x)
    all_related x h = standing_related R none maxima p (whole_going p f) (whole_going p g) x (λ y stands. whole_related y (λ k runs. h k (y, stands, runs)))

times_same : (n x y : ℕ) → x ≡ y → n * x ≡ n * y
times_same n x y e = ap (λ k. n * k) e

plus_same : (x y z w : ℕ) → x ≡ y → z ≡ w → x + z ≡ y + w
plus_same x y z w a b = omega (arith, a, b)

pub max_same : (x y z w : ℕ) → x ≡ y → z ≡ w → max x z ≡ max y w
max_same x y z w a b = omega (arith, a, b)

-- two costs of methods that are the same for all that runs
pub going_same : (p : Image) (f g : Option ℕ → ℕ) → f None ≡ g None → (x : Thing) → ((k : ℕ) → Destructs p x k → f (Some k) ≡ g (Some k)) →
    all_going p f x ≡ all_going p g x
going_same p f g nobody = all_related (λ x y. x ≡ y) refl times_same refl plus_same max_same f g nobody p

-- two that are alike up to a limit
pub going_alike : (limit : ℕ) (p : Image) (f g : Option ℕ → ℕ) →
    f None ≡ g None → (x : Thing) → ((k : ℕ) → Destructs p x k → Alike limit (f (Some k)) (g (Some k))) → Alike limit (all_going p f x) (all_going p g x)
going_alike limit p f g nobody = all_related (λ x y. Alike _ x y) refl (alike_times _) refl (alike_plus _) (alike_max _) f g (ap (λ n. min limit n) nobody) p

-- ---- sessions have none

of_session : (cost : ℕ → ℕ) (o : Option ClassKind) → is_session_in o ≡ true → perhaps_sessions cost o ≡ 0
unfolding is_session_in is_session_kind
of_session cost o e = grind arith

sessions_ordered : (p : Image) → IsLinked p → (c s : ℕ) (class : Option ClassDecl) → class_at p c ≡ class →
    sessions_in (kind_in class) ≡ Some s → is_session p s ≡ true
unfolding class_at sessions_in kind_in
sessions_ordered p linked c s class e is = grind arith

their_class : (p : Image) → IsLinked p → (x : Thing) (s : ℕ) → thing_sessions p x ≡ Some s → is_session p s ≡ true
their_class p linked x s is = grind (arith, sessions_ordered p linked)

-- the sessions of a thing of a linked image have none
no_sessions : (p : Image) → IsLinked p → (x : Thing) (s : ℕ) → thing_sessions p x ≡ Some s → (cost : ℕ → ℕ) → sessions_cost p cost (Object s) ≡ 0
no_sessions p linked x s is cost = grind (arith, of_session, sessions_ordered p linked)

-- ---- the rule, and what one pass finds

-- a thing by the rule, without what may stand in its place
abbrev pub by_rule : Image → Prices → Thing → ℕ
by_rule p c y = 1 + line p (destructor_price c) y + sessions_cost p (λ k. c.destruction (Object k)) y

abbrev pub IsRuled : Image → Prices → Type 0
IsRuled p c = (x : Thing) → c.destruction x ≡ most_standing p (by_rule p c) x

abbrev pub IsFound : Image → Prices → Type 0
IsFound p c = (x : Thing) → c.destruction x ≡ all_going p (destructor_price c) x

module _ (p : Image) (formed : WellFormed p) (linked : IsLinked p) (c : Prices) where
  -- sessions that cost their going cost the same by both
  as_going : ((x : Thing) (s : ℕ) → thing_sessions p x ≡ Some s → c.destruction (Object s) ≡ going p (destructor_price c) (Object s)) → (x : Thing) →
      sessions_cost p (λ k. c.destruction (Object k)) x ≡ sessions_cost p (λ k. going p (destructor_price c) (Object k)) x
  as_going each x = sessions_related (λ x y. x ≡ y) refl times_same (λ k. c.destruction (Object k)) (λ k. going p (destructor_price c) (Object k)) p x (each x)

  all_as_going : ((x : Thing) (s : ℕ) → thing_sessions p x ≡ Some s → c.destruction (Object s) ≡ going p (destructor_price c) (Object s)) → (x : Thing) →
      most_standing p (by_rule p c) x ≡ all_going p (destructor_price c) x
  all_as_going each x = standing_related (λ x y. x ≡ y) refl max_same p (by_rule p c) (whole_going p (destructor_price c)) x
      (λ y stands. let same = as_going each y in omega (arith, same))

  pub found_of : IsRuled p c → IsFound p c
  found_of ruled x = ruled x ∙ all_as_going alone x
    where
      alone : (y : Thing) (s : ℕ) → thing_sessions p y ≡ Some s → c.destruction (Object s) ≡ going p (destructor_price c) (Object s)
      alone y s is =
          let one = ruled (Object s) in
          let most = session_most p (sessions_end p formed linked) (by_rule p c) s (their_class p linked y s is) in
          let none = no_sessions p linked y s is (λ k. c.destruction (Object k)) in
          omega (arith, one, most, none)

  pub ruled_of : IsFound p c → IsRuled p c
  ruled_of found x = found x ∙ sym (all_as_going alone x)
    where
      alone : (y : Thing) (s : ℕ) → thing_sessions p y ≡ Some s → c.destruction (Object s) ≡ going p (destructor_price c) (Object s)
      alone y s is =
          let one = found (Object s) in
          let most = session_most p (sessions_end p formed linked) (whole_going p (destructor_price c)) s (their_class p linked y s is) in
          let none = no_sessions p linked y s is (λ k. going p (destructor_price c) (Object k)) in
          omega (arith, one, most, none)

pub line_is : (p : Image) (c : Prices) (x : Thing) → line p (perhaps_price c) x ≡ line p (destructor_price c) x
line_is p c x = line_related (λ x y. x ≡ y) refl plus_same p (perhaps_price c) (destructor_price c) refl x (λ k runs. refl)
