-- What an object may own weighs less than it: the destructor that mentions it comes after all that it could run.
use Rattle.std.proofs.Common.{All, Bool, IfSome, Option, Some, None, [], ap, arith, cond, false, length}
use Rattle.std.proofs.Common.{refl, subst, suc, sym, true, zero, ℕ, ⊎_elim, ◌*◌, ◌<◌, ◌∙◌, ◌≡◌, ◌≤◌}
use Rattle.std.specs.Prelude.{is_some, IsSome, max, nat_lt, slice_get}
use Rattle.std.proofs.lemmas.Bool.{cases_lt, lt-ltb, ltb-true}
use Rattle.std.proofs.lemmas.Option.{slice_get_within}
use Rattle.aom_inheritance.proofs.ImageLemmas.{some_given}
use Rattle.aom_image.specs.Image.{Image}
use Rattle.aom_image.specs.Views.{class_at, fields_in, fields_of, method_at, method_class, class_in}
use Rattle.aom_image.specs.declared.class.ClassDecl.{ClassDecl}
use Rattle.aom_image.specs.declared.method.Method.{Method}
use Rattle.aom_image.specs.declared.method.Role.TheVariants.{Destruct}
use Rattle.aom_image.specs.declared.method.Thing.{Thing}
use Rattle.aom_image.specs.declared.method.Thing.TheVariants.{Object}
use Rattle.aom_roles.specs.Classes.{sessions_at}
use Rattle.aom_roles.specs.Families.{descends, parent_of}
use Rattle.aom_link_conditions.specs.Calls.{AllCallsOrdered, CallsOrdered, GoesBelow, Mentions, MentionsThing}
use Rattle.aom_link_conditions.specs.Families.{AllContinue}
use Rattle.aom_link_conditions.specs.Needs.{AllNeedsMet, NeedsMet}
use Rattle.aom_link_conditions.specs.Roles.{keeper_in, keeper_of, own_role, role_by, role_of}
use Rattle.aom_inheritance.proofs.LinkConditionsLemmas.{all_there, at_place, begins_whole, goes_role, none_kept, own_found}
use Rattle.aom_inheritance.proofs.Inheriting.{Continued, continued}
use Rattle.aom_inheritance.specs.Laws.{WeightsFall}
use Rattle.aom_inheritance.specs.Weights.{count_below, generation, own_weight, sessions_weight, weight, weight_by}

-- ---- generations are counted

counts_more : (small large : ℕ → Bool) → ((x : ℕ) → small x ≡ true → large x ≡ true) → (n : ℕ) → count_below small n ≤ count_below large n
unfolding count_below
counts_more small large wide zero = omega arith
counts_more small large wide (suc n) = go (small n) (large n) (wide n) (counts_more small large wide n)
  where
    go : (a b : Bool) → (a ≡ true → b ≡ true) → count_below small n ≤ count_below large n →
        cond a (suc (count_below small n)) (count_below small n) ≤ cond b (suc (count_below large n)) (count_below large n)
    go a b h le = grind arith

counts_one_more : (small large : ℕ → Bool) → ((x : ℕ) → small x ≡ true → large x ≡ true) → (k : ℕ) → small k ≡ false → large k ≡ true → (n : ℕ) → k < n →
    count_below small n < count_below large n
unfolding count_below
counts_one_more small large wide k out within zero lt = absurd (omega arith)
counts_one_more small large wide k out within (suc n) lt =
    ⊎_elim (λ lower. go (small n) (large n) (wide n) (counts_one_more small large wide k out within n lower)) (λ here.
    let same : n ≡ k = omega arith in
    let more = counts_more small large wide n in
    last (small n) (large n) (ap small same ∙ out) (ap large same ∙ within) more) (cases_lt k n)
  where
    go : (a b : Bool) → (a ≡ true → b ≡ true) → count_below small n < count_below large n →
        cond a (suc (count_below small n)) (count_below small n) < cond b (suc (count_below large n)) (count_below large n)
    go a b h le = grind arith

    last : (a b : Bool) → a ≡ false → b ≡ true → count_below small n ≤ count_below large n →
        cond a (suc (count_below small n)) (count_below small n) < cond b (suc (count_below large n)) (count_below large n)
    last a b f t le = grind arith

not_itself : (n : ℕ) → nat_lt n n ≡ false
not_itself n = go (nat_lt n n) refl
  where
    go : (b : Bool) → nat_lt n n ≡ b → b ≡ false
    go false e = refl
    go true e = let lt = ltb-true n n e in absurd (omega (arith, lt))

counts_within : (test : ℕ → Bool) (n : ℕ) → count_below test n ≤ n
unfolding count_below
counts_within test zero = omega arith
counts_within test (suc n) = go (test n) (counts_within test n)
  where
    go : (b : Bool) → count_below test n ≤ n → cond b (suc (count_below test n)) (count_below test n) ≤ suc n
    go b le = grind arith

-- ---- what is owned

double_below : (k m : ℕ) → k < m → (2 * suc k) ≤ (2 * m)
double_below k m lt = omega (arith, lt)

-- what weighs no more than the methods before one, with a step more for sessions
at_most : (a b n : ℕ) → a ≤ n → b ≤ n → max a b ≤ n
at_most a b n f g = grind (arith, f, g)

at_least : (a b n : ℕ) → n ≤ a → n ≤ max a b
at_least a b n f = grind (arith, f)

module _ (p : Image) where
  -- a destructor that comes before m weighs no more than twice its number
  light : (m z : ℕ) → GoesBelow p m z → own_weight p z ≤ (2 * m)
  light m z below = go (role_of p z Destruct) (goes_role p m z below)
    where
      go : (o : Option ℕ) → IfSome o (λ k. k < m) → weight_by o ≤ (2 * m)
      go None h = omega arith
      go (Some k) h = double_below k m h

  light_sessions : (m : ℕ) (o : Option ℕ) → IfSome o (GoesBelow p m) → sessions_weight p o ≤ suc (2 * m)
  light_sessions m None h = omega arith
  light_sessions m (Some s) h = let le = light m s h in omega (arith, le)

  light_thing : (m d x : ℕ) → Mentions p m d → descends p x d ≡ true → weight p x ≤ suc (2 * m)
  light_thing m d x w family =
      let ends = w x family in
      at_most (own_weight p x) (sessions_weight p (sessions_at p x)) (suc (2 * m)) (let le = light m x ends.own in omega (arith, le))
      (light_sessions m (sessions_at p x) ends.sessions)

  module _ (fit : AllContinue p) (calls : AllCallsOrdered p) (needs : AllNeedsMet p) where
    needs_of : (c : ℕ) (d : ClassDecl) → class_at p c ≡ Some d → NeedsMet p c d
    unfolding class_at
    needs_of c d at = at_place (NeedsMet p) p.classes c d needs at

    -- a method mentions what the fields of its class may own
    mentioned : (m y : ℕ) → method_class p m ≡ Some y → All (MentionsThing p m) (fields_of p y)
    unfolding class_in method_at
    mentioned m y is = go (method_at p m) refl is
      where
        go : (o : Option Method) → method_at p m ≡ o → class_in o ≡ Some y → All (MentionsThing p m) (fields_of p y)
        go None at is = cc
        go (Some d) at is = subst (λ o. IfSome o (λ c. All (MentionsThing p m) (fields_of p c))) is (at_place (CallsOrdered p) p.methods m d calls at).fields

    -- a class without a destructor of its own has the fields of its parent
    same_fields : (c e : ℕ) → parent_of p c ≡ Some e → own_role p c Destruct ≡ None → fields_of p c ≡ fields_of p e
    unfolding fields_in
    same_fields c e is none =
        let w = continued p fit c e is in
        ap fields_in w.at ∙ begins_whole w.child.fields w.parent.fields w.continues.fields (implied w) ∙ sym (ap fields_in w.above)
      where
        implied : (w : Continued p c e) → length w.child.fields ≤ length w.parent.fields
        implied w =
            let at : IfSome (Some e) (λ e. IfSome (class_at p e) (λ f. length f.fields < length w.child.fields → IsSome (own_role p c Destruct))) =
            subst (λ o. IfSome o (λ e. IfSome (class_at p e) (λ f. length f.fields < length w.child.fields → IsSome (own_role p c Destruct)))) w.named
            (needs_of c w.child w.at).more in
            let some : length w.parent.fields < length w.child.fields → IsSome (own_role p c Destruct) =
            subst (λ o. IfSome o (λ f. length f.fields < length w.child.fields → IsSome (own_role p c Destruct))) w.above at in
            ⊎_elim (λ lt. let clash : IsSome {T = ℕ} None = subst (λ (o : Option ℕ). IsSome o) none (some lt) in cc) (λ le. le)
            (cases_lt (length w.parent.fields) (length w.child.fields))

    -- a class has the fields of the one whose destructor it has
    kept_fields : (n c y : ℕ) → keeper_in p n (Some c) Destruct ≡ Some y → fields_of p c ≡ fields_of p y
    unfolding keeper_in
    kept_fields zero c y is = last (own_role p c Destruct) is
      where
        last : (o : Option ℕ) → cond (is_some o) (Some c) None ≡ Some y → fields_of p c ≡ fields_of p y
        last None is = cc
        last (Some k) is = let same : c ≡ y = cc in ap (fields_of p) same
    kept_fields (suc n) c y is = go (own_role p c Destruct) refl is (λ e rest. kept_fields n e y rest)
      where
        go : (o : Option ℕ) → own_role p c Destruct ≡ o → cond (is_some o) (Some c) (keeper_in p n (parent_of p c) Destruct) ≡ Some y →
            ((e : ℕ) → keeper_in p n (Some e) Destruct ≡ Some y → fields_of p e ≡ fields_of p y) → fields_of p c ≡ fields_of p y
        go (Some k) f is later = let same : c ≡ y = cc in ap (fields_of p) same
        go None f is later = some_given (λ o. keeper_in p n o Destruct ≡ Some y) (parent_of p c) is
            (λ none. let clash : None ≡ Some y = sym (none_kept p n Destruct) ∙ none in cc) (λ e at rest. same_fields c e at f ∙ later e rest)

    -- a class has the fields of the class whose destructor it has
    pub keeper : (c m : ℕ) → role_of p c Destruct ≡ Some m → (y : ℕ) × (method_class p m ≡ Some y) × (fields_of p c ≡ fields_of p y)
    unfolding role_of class_in
    keeper c m is = some_given (λ o. role_by p Destruct o ≡ Some m) (keeper_of p c Destruct) is (λ none. cc) (λ y at rest.
        let w = own_found p y m Destruct rest in (y, ap class_in w.1 ∙ w.2, kept_fields c c y at))

    -- who owns has a destructor, which comes after those of all that it may own
    owned : (c d f x : ℕ) → slice_get (fields_of p c) f ≡ Some (Object d) → descends p x d ≡ true → weight p x < weight p c
    unfolding fields_in
    owned c d f x e family = go (role_of p c Destruct) refl
      where
        has_owner : (o : Option ClassDecl) → class_at p c ≡ o → slice_get (fields_in o) f ≡ Some (Object d) → IsSome (role_of p c Destruct)
        has_owner None g h = let clash : slice_get {X = Thing} [] f ≡ Some (Object d) = h in cc
        has_owner (Some k) g h = (needs_of c k g).owner (let lt = slice_get_within k.fields f (Object d) h in omega (arith, lt))

        go : (o : Option ℕ) → role_of p c Destruct ≡ o → weight p x < weight p c
        go None g = let clash : IsSome {T = ℕ} None = subst (λ (o : Option ℕ). IsSome o) g (has_owner (class_at p c) refl e) in cc
        go (Some m) g =
            let k = keeper c m g in
            let there : slice_get (fields_of p k.0) f ≡ Some (Object d) = sym (ap (λ ts. slice_get ts f) k.2) ∙ e in
            let mentions : Mentions p m d = all_there (MentionsThing p m) (fields_of p k.0) f (Object d) (mentioned m k.0 k.1) there in
            let small = light_thing m d x mentions family in
            let large : (2 * suc m) ≤ weight p c = at_least (own_weight p c)
            (sessions_weight p (sessions_at p c)) (2 * suc m) (let same : own_weight p c ≡ 2 * suc m = ap weight_by g in omega (arith, same)) in
            omega (arith, small, large)

  served : (c s : ℕ) → sessions_at p c ≡ Some s → sessions_at p s ≡ None → weight p s < weight p c
  served c s e none = let large : suc (own_weight p s) ≤ weight p c = right (own_weight p c) (sessions_weight p (sessions_at p c))
      (suc (own_weight p s)) (let same : sessions_weight p (sessions_at p c) ≡ suc (own_weight p s) = ap (sessions_weight p) e in omega (arith, same)) in
      let small : weight p s ≤ own_weight p s = at_most (own_weight p s) (sessions_weight p (sessions_at p s))
      (own_weight p s) (omega arith) (let same : sessions_weight p (sessions_at p s) ≡ 0 = ap (sessions_weight p) none in omega (arith, same)) in
      omega (arith, small, large)
    where
      right : (a b n : ℕ) → n ≤ b → n ≤ max a b
      right a b n f = grind (arith, f)

  later : (x c : ℕ) → x < length p.classes → weight p x < weight p c → generation p x < generation p c
  later x c within lt = counts_one_more (λ y. nat_lt (weight p y) (weight p x)) (λ y. nat_lt (weight p y) (weight p c))
      (λ y h. lt-ltb (weight p y) (weight p c) (let less = ltb-true (weight p y) (weight p x) h in omega (arith, less, lt))) x
      (not_itself (weight p x)) (lt-ltb (weight p x) (weight p c) lt) (length p.classes) within

  few : (c : ℕ) → c < length p.classes → generation p c < length p.classes
  few c within = let one =
      counts_one_more (λ y. nat_lt (weight p y) (weight p c)) (λ y. true) (λ y h. refl) c (not_itself (weight p c)) refl (length p.classes) within in
      let all = counts_within (λ y. true) (length p.classes) in
      omega (arith, one, all)

pub weights_fall : WeightsFall
weights_fall = record { fields = λ p fit calls needs. owned p fit calls needs; sessions = served; generations = later; few = few }
