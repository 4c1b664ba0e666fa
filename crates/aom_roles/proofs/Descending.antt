-- Descending is an order, by an induction over the generations above a class.
use Rattle.std.proofs.Common.{Bool, IfSome, Option, Some, None, ap, arith, cond, false, refl, subst, suc, sym, true, zero, ℕ, ◌<◌, ◌==◌, ◌||◌, ◌∙◌, ◌≡◌, ◌≤◌}
use Rattle.std.specs.Prelude.{nat_lt}
use Rattle.std.proofs.lemmas.Bool.{eq-eqb, eqb-true, ltb-true, ne_eqb, or_right}
use Rattle.std.proofs.lemmas.List.Elements.{All-get_or}
use Rattle.std.proofs.lemmas.Option.{get_or_from_slice_get, slice_get_within}
use Rattle.aom_roles.proofs.ImageLemmas.{some_given}
use Rattle.aom_image.specs.Image.{Image}
use Rattle.aom_image.specs.Views.{class_at}
use Rattle.aom_image.specs.declared.class.ClassDecl.{ClassDecl}
use Rattle.aom_roles.specs.Families.{HasNoParents, descends, descends_in, lower, parent_in, parent_of}

-- ---- parents are lower

lower_below : (c : ℕ) (o : Option ℕ) (e : ℕ) → lower c o ≡ Some e → e < c
lower_below c None e is = cc
lower_below c (Some d) e is = go (nat_lt d c) refl is
  where
    go : (b : Bool) → nat_lt d c ≡ b → cond b (Some d) None ≡ Some e → e < c
    go true lt is = let same : d ≡ e = cc in subst (λ x. x < c) same (ltb-true d c lt)
    go false lt is = cc

pub parent_below : (p : Image) (c e : ℕ) → parent_of p c ≡ Some e → e < c
parent_below p c e is = lower_below c (parent_in (class_at p c)) e is

pub none_below : (p : Image) → parent_of p 0 ≡ None
none_below p = go (parent_of p 0) refl
  where
    go : (o : Option ℕ) → parent_of p 0 ≡ o → o ≡ None
    go None is = refl
    go (Some e) is = let lt = parent_below p 0 e is in absurd (omega arith)

-- a parent needs a generation less
pub fewer : (p : Image) (c n : ℕ) → c ≤ suc n → IfSome (parent_of p c) (λ e. e ≤ n)
fewer p c n le = go (parent_of p c) refl
  where
    go : (o : Option ℕ) → parent_of p c ≡ o → IfSome o (λ e. e ≤ n)
    go None is = tt
    go (Some e) is = let lt = parent_below p c e is in omega arith

-- ---- enough generations

alone : (b : Bool) → (b || false) ≡ b
alone true = refl
alone false = refl

implied : (p : Image) (n c d : ℕ) → c ≤ 0 → ((c == d) || descends_in p n (parent_of p c) d) ≡ (c == d)
unfolding descends_in
implied p n c d le =
    let zero_so : c ≡ 0 = omega arith in
    ap (λ o. (c == d) || descends_in p n o d) (ap (λ i. parent_of p i) zero_so ∙ none_below p) ∙ alone (c == d)

pub enough : (p : Image) (n m : ℕ) (o : Option ℕ) (d : ℕ) → IfSome o (λ c. c ≤ n) → IfSome o (λ c. c ≤ m) → descends_in p n o d ≡ descends_in p m o d
unfolding descends_in
enough p zero zero None d a b = refl
enough p zero (suc m) None d a b = refl
enough p (suc n) zero None d a b = refl
enough p (suc n) (suc m) None d a b = refl
enough p zero zero (Some c) d a b = refl
enough p zero (suc m) (Some c) d a b = sym (implied p m c d a)
enough p (suc n) zero (Some c) d a b = implied p n c d b
enough p (suc n) (suc m) (Some c) d a b = ap (λ x. (c == d) || x) (enough p n m (parent_of p c) d (fewer p c n a) (fewer p c m b))

-- ---- what holds of a class and goes from a parent to its children holds of all that descend from it

pub along_in : (p : Image) (P : ℕ → Type 0) (d : ℕ) → ((c e : ℕ) → parent_of p c ≡ Some e → P e → P c) → P d → (n c : ℕ) → descends_in p n (Some c) d ≡ true → P c
unfolding descends_in
along_in p P d up base zero c h = subst P (sym (eqb-true c d h)) base
along_in p P d up base (suc n) c h = go (c == d) refl h (λ e rest. along_in p P d up base n e rest)
  where
    none_descends : (n : ℕ) → descends_in p n None d ≡ true → ⊥
    none_descends zero h = cc
    none_descends (suc n) h = cc

    go : (b : Bool) → (c == d) ≡ b → (b || descends_in p n (parent_of p c) d) ≡ true → ((e : ℕ) → descends_in p n (Some e) d ≡ true → P e) → P c
    go true same h later = subst P (sym (eqb-true c d same)) base
    go false other h later = some_given (λ o. descends_in p n o d ≡ true) (parent_of p c) h (λ none. none_descends n none) (λ e is rest. up c e is (later e rest))

pub along : (p : Image) (P : ℕ → Type 0) (d : ℕ) → ((c e : ℕ) → parent_of p c ≡ Some e → P e → P c) → P d → (c : ℕ) → descends p c d ≡ true → P c
along p P d up base c h = along_in p P d up base c c h

-- ---- the order

pub itself : (p : Image) (c : ℕ) → descends p c c ≡ true
unfolding descends_in
itself p zero = refl
itself p (suc n) = ap (λ b. b || descends_in p n (parent_of p (suc n)) (suc n)) (eq-eqb (suc n) (suc n) refl)

pub child : (p : Image) (c e d : ℕ) → parent_of p c ≡ Some e → descends p e d ≡ true → descends p c d ≡ true
unfolding descends_in
child p zero e d is h = let lt = parent_below p 0 e is in absurd (omega arith)
child p (suc n) e d is h =
    let above : descends_in p n (parent_of p (suc n)) d ≡ true =
    ap (λ o. descends_in p n o d) is ∙ enough p n e (Some e) d (let lt = parent_below p (suc n) e is in omega arith) (omega arith) ∙ h in
    or_right (suc n == d) (descends_in p n (parent_of p (suc n)) d) above

pub through : (p : Image) (x y z : ℕ) → descends p x y ≡ true → descends p y z ≡ true → descends p x z ≡ true
through p x y z a b = along p (λ c. descends p c z ≡ true) y (λ c e is h. child p c e z is h) b x a

pub no_higher : (p : Image) (c d : ℕ) → descends p c d ≡ true → d ≤ c
no_higher p c d h = along p (λ c. d ≤ c) d (λ c e is le. let lt = parent_below p c e is in omega arith) (omega arith) c h

pub is_other : (c d : ℕ) → (c ≡ d → ⊥) → (c == d) ≡ false
is_other c d other = ne_eqb c d other

-- a look from a class is one from its parent, where it is not the class itself
pub from_parent : (p : Image) (c e d : ℕ) → (c == d) ≡ false → parent_of p c ≡ Some e → descends p c d ≡ descends p e d
unfolding descends_in
from_parent p zero e d other is = let lt = parent_below p 0 e is in absurd (omega arith)
from_parent p (suc n) e d other is = ap (λ b. b || descends_in p n (parent_of p (suc n)) d) other ∙ ap (λ o. descends_in p n o d) is
    ∙ enough p n e (Some e) d (let lt = parent_below p (suc n) e is in omega arith) (omega arith)

pub from_none : (p : Image) (c d : ℕ) → (c == d) ≡ false → parent_of p c ≡ None → descends p c d ≡ false
unfolding descends_in
from_none p zero d other is = other
from_none p (suc n) d other is = ap (λ b. b || descends_in p n (parent_of p (suc n)) d) other ∙ ap (λ o. descends_in p n o d) is ∙ none n
  where
    none : (n : ℕ) → descends_in p n None d ≡ false
    none zero = refl
    none (suc n) = refl

-- ---- an image without parents

pub no_parent : (p : Image) → HasNoParents p → (c e : ℕ) → parent_of p c ≡ Some e → ⊥
unfolding parent_in class_at
no_parent p none c e is = go (class_at p c) refl is
  where
    go : (o : Option ClassDecl) → class_at p c ≡ o → lower c (parent_in o) ≡ Some e → ⊥
    go None at is = cc
    go (Some d) at is =
        let here : d.parent ≡ None = subst (λ d. d.parent ≡ None) (get_or_from_slice_get p.classes c d d at)
        (All-get_or (λ d. d.parent ≡ None) p.classes c d (slice_get_within p.classes c d at) none) in
        let empty : None ≡ Some e = sym (ap (lower c) here) ∙ is in cc

-- where no class has a parent, a class descends from itself alone
pub one_class : (p : Image) → HasNoParents p → (c d : ℕ) → descends p c d ≡ true → c ≡ d
one_class p none c d h = along p (λ c. c ≡ d) d (λ c e is same. absurd (no_parent p none c e is)) refl c h
