-- The servers of each class in the order in which they were enlisted: the first is the one that a connect asks, and the lists go on.
use Rattle.std.proofs.lemmas.Bool.Decides.{nat_tests}
use Rattle.std.proofs.Common.{ap, arith, Bool, cond, false, inl, inr, length, List, None, Option, refl, Some}
use Rattle.std.proofs.Common.{subst, suc, sym, true, ℕ, ◌&&◌, ◌++◌, ◌<◌, ◌==◌, ◌≤◌, ◌∙◌, ◌∷◌, ◌≡◌, ◌⊎◌, []}
use Rattle.std.specs.Prelude.{◌||◌, AllPairs, nat_lt, not, option_map, slice_index_or, slice_set}
use Rattle.std.proofs.lemmas.Bool.{and_parts, eq-eqb, eqb-true, ne_eqb, false≢true, ltb-false, ltb-true}
use Rattle.std.proofs.Math.ListN.{get_or-map}
use Rattle.std.proofs.lemmas.List.{get_or-set_other, get_or-set_same, length-map, length-set}
use Rattle.std.proofs.lemmas.List.Folds.{list_any-append, list_any_at}
use Rattle.std.proofs.lemmas.List.Kept.{AllPairs-filter}
use Rattle.std.proofs.lemmas.List.Quantifiers.{all_pairs_push}
use Rattle.std.proofs.lemmas.Map.Views.{any-filter_same}
use Rattle.std.proofs.lemmas.Option.{none-some, same_Some}
use Rattle.aom_image.specs.Image.{Image}
use Rattle.aom_image.specs.declared.method.Thing.{Thing}
use Rattle.aom_image.specs.declared.method.Thing.TheVariants.{Object as An_object_of}
use Rattle.aom_clients.specs.Lists.{Table, first_of, list_at, with_list, without as without_node}
use Rattle.aom_machine_state.proofs.SafetyLemmas.{listed_there}
use Rattle.aom_semantics.specs.Clients.{Listed, among_listed, asked_server, earlier, first_listed, is_of_class}
use Rattle.aom_semantics.specs.Places.{Cell, Object, Request, NoDuplicates, named, requested}
use Rattle.aom_semantics.specs.Servers.{is_among, is_server}
use Rattle.aom_machine_state.specs.Cells.{unlisted}
use Rattle.aom_machine_state.specs.Listing.{SameListed, is_listed, lists, order_in}

-- ---- the one that a connect asks

-- one that is enlisted of the class is found, or one that was enlisted before
abbrev Found : ℕ → List Cell → ℕ → Type 0
Found class cs order = (x : Listed) × (first_listed class cs ≡ Some x) × (x.order ≤ order)

earlier_least : (a : Listed) (others : Option Listed) (order : ℕ) → (a.order ≤ order) ⊎ ((x : Listed) × (others ≡ Some x) × (x.order ≤ order)) →
    (earlier a others).order ≤ order
earlier_least a x order least = grind (arith, nat_tests, ltb-true, same_Some, ltb-false)

found : (class : ℕ) (cs : List Cell) (n : ℕ) (o : Object) (r : Request) → named cs n ≡ Some o → requested cs n ≡ Some r →
    is_of_class class o.thing ≡ true → Found class cs r.order
found class [] n o r is asked of = absurd (none-some _ is)
found class (c ∷ cs) n o r is asked of = go (c.object.name == n) is asked (λ is asked. found class cs n o r is asked of)
  where
    go : (b : Bool) → cond b (Some c.object) (named cs n) ≡ Some o →
        cond b c.request (requested cs n) ≡ Some r → (named cs n ≡ Some o → requested cs n ≡ Some r → Found class cs r.order) → Found class (c ∷ cs) r.order
    go true is asked rest =
        let me : Listed = record { name = c.object.name; order = r.order } in
        let mine : is_of_class class c.object.thing ≡ true = ap (λ (x : Object). is_of_class class x.thing) (same_Some _ _ is) ∙ of in (
          earlier me (first_listed class cs),
          ap (λ q. among_listed class c.object q (first_listed class cs)) asked
              ∙ ap (λ b. cond b (Some (earlier me (first_listed class cs))) (first_listed class cs)) mine,
          earlier_least me (first_listed class cs) r.order (inl (omega arith)),
        )
    go false is asked rest = by c.request refl (rest is asked)
      where
        by : (q : Option Request) → c.request ≡ q → Found class cs r.order → Found class (c ∷ cs) r.order
        by None e f = (f.0, ap (λ q. among_listed class c.object q (first_listed class cs)) e ∙ f.1, f.2)
        by (Some q) e f = among (is_of_class class c.object.thing) refl
          where
            me : Listed
            me = record { name = c.object.name; order = q.order }

            listed : (b : Bool) → is_of_class class c.object.thing ≡ b →
                first_listed class (c ∷ cs) ≡ cond b (Some (earlier me (first_listed class cs))) (first_listed class cs)
            listed b mine = ap (λ q. among_listed class c.object q (first_listed class cs)) e
                ∙ ap (λ b. cond b (Some (earlier me (first_listed class cs))) (first_listed class cs)) mine

            among : (b : Bool) → is_of_class class c.object.thing ≡ b → Found class (c ∷ cs) r.order
            among true mine = (earlier me (first_listed class cs), listed true mine, earlier_least me (first_listed class cs) r.order (inr f))
            among false mine = (f.0, listed false mine ∙ f.1, f.2)

-- its order is that of its request
abbrev OrderOf : List Cell → Listed → Type 0
OrderOf cs x = (r : Request) × (requested cs x.name ≡ Some r) × (x.order ≡ r.order)

ordered : (class : ℕ) (cs : List Cell) (x : Listed) → NoDuplicates cs → first_listed class cs ≡ Some x → OrderOf cs x
ordered class [] x no_duplicates e = absurd (none-some _ e)
ordered class (c ∷ cs) x no_duplicates e = by c.request refl e (λ e. ordered class cs x no_duplicates.2 e)
  where
    -- another name stands below
    later : first_listed class cs ≡ Some x → OrderOf cs x → OrderOf (c ∷ cs) x
    later e (r, asked, same) =
        let l = listed_there class cs x no_duplicates.2 e in
        let other : (c.object.name == x.name) ≡ false = ne_eqb c.object.name x.name (λ same. none-some _ (sym no_duplicates.1 ∙ ap (named cs) (same ∙ sym l.1) ∙ l.2)) in
        (r, ap (λ b. cond b c.request (requested cs x.name)) other ∙ asked, same)

    by : (q : Option Request) → c.request ≡ q → among_listed class c.object q (first_listed class cs) ≡ Some x →
        (first_listed class cs ≡ Some x → OrderOf cs x) → OrderOf (c ∷ cs) x
    by None is e rest = later e (rest e)
    by (Some q) is e rest = among (is_of_class class c.object.thing) e
      where
        me : Listed
        me = record { name = c.object.name; order = q.order }

        mine : Some me ≡ Some x → OrderOf (c ∷ cs) x
        mine same = subst (OrderOf (c ∷ cs)) (same_Some _ _ same)
            (q, ap (λ b. cond b c.request (requested cs c.object.name)) (eq-eqb c.object.name c.object.name refl) ∙ is, refl)

        first : (others : Option Listed) → first_listed class cs ≡ others → Some (earlier me others) ≡ Some x → OrderOf (c ∷ cs) x
        first None same e = mine e
        first (Some b) same e = go (nat_lt b.order q.order) e
          where
            go : (y : Bool) → Some (cond y b me) ≡ Some x → OrderOf (c ∷ cs) x
            go true e = later (same ∙ e) (rest (same ∙ e))
            go false e = mine e

        among : (b : Bool) → cond b (Some (earlier me (first_listed class cs))) (first_listed class cs) ≡ Some x → OrderOf (c ∷ cs) x
        among true e = first (first_listed class cs) refl e
        among false e = later e (rest e)

-- what a list says of one that is in it
record Entry (p : Image) (cs : List Cell) (class n : ℕ) : Type 0 where
  object : Object
  request : Request
  lives : named cs n ≡ Some object
  asked : requested cs n ≡ Some request
  serves : is_server p object.thing ≡ true
  of : is_of_class class object.thing ≡ true

entry : (p : Image) (cs : List Cell) (class n : ℕ) → is_listed p cs class n ≡ true → Entry p cs class n
entry p cs class n e = go (named cs n) (requested cs n) refl refl e
  where
    go : (o : Option Object) (r : Option Request) → named cs n ≡ o → requested cs n ≡ r → lists p class o r ≡ true → Entry p cs class n
    go None r is asked e = absurd (false≢true e)
    go (Some o) None is asked e = absurd (false≢true e)
    go (Some o) (Some r) is asked e = let both = and_parts (is_server p o.thing) (is_of_class class o.thing) e in
        record { object = o; request = r; lives = is; asked = asked; serves = both.0; of = both.1 }

listed_entry : (p : Image) (cs : List Cell) (class n : ℕ) (o : Object) (r : Request) →
    named cs n ≡ Some o → requested cs n ≡ Some r → is_server p o.thing ≡ true → is_of_class class o.thing ≡ true → is_listed p cs class n ≡ true
listed_entry p cs class n o r is asked serves of = grind (arith, nat_tests, asked, serves, of)

-- whose class is one of servers
serves_class : (p : Image) (class : ℕ) (x : Thing) → is_of_class class x ≡ true → is_server p x ≡ is_server p (An_object_of class)
serves_class p class x of = grind (arith, nat_tests, eqb-true, of)

-- one that is in the rest of a list was enlisted after its first
after_first : (f : ℕ → ℕ) (n : ℕ) (ns : List ℕ) (m : ℕ) → AllPairs (λ a b. f a < f b) (n ∷ ns) → is_among m ns ≡ true → f n < f m
after_first f n ns m order among = go ns (λ i within. order 0 (suc i) 0 (omega arith) (omega (arith, within))) among
  where
    go : (xs : List ℕ) → ((i : ℕ) → i < length xs → f n < f (slice_index_or xs i 0)) → is_among m xs ≡ true → f n < f m
    go [] above e = absurd (false≢true e)
    go (x ∷ xs) above e = by (x == m) refl e (λ e. go xs (λ i within. above (suc i) (omega (arith, within))) e)
      where
        by : (b : Bool) → (x == m) ≡ b → (b || is_among m xs) ≡ true → (is_among m xs ≡ true → f n < f m) → f n < f m
        by true same e rest = subst (λ k. f n < f k) (eqb-true x m same) (above 0 (omega arith))
        by false other e rest = rest e

-- the first of the list of a class is whom a connect asks
pub first_asked : (p : Image) (t : Table) (cs : List Cell) → NoDuplicates cs → SameListed p t cs → (class : ℕ) →
    first_of (list_at t class) ≡ option_map (λ (x : Listed). x.name) (asked_server p class cs)
first_asked p t cs no_duplicates same class = go (list_at t class) (λ n. same.there n class) (same.order class)
  where
    order : ℕ → ℕ
    order n = order_in (requested cs n)

    in_list : (x : Listed) → first_listed class cs ≡ Some x → is_server p (An_object_of class) ≡ true → is_listed p cs class x.name ≡ true
    in_list x e serves =
        let l = listed_there class cs x no_duplicates e in
        let r = ordered class cs x no_duplicates e in
        listed_entry p cs class x.name l.0 r.0 (ap (named cs) (sym l.1) ∙ l.2) r.1 (serves_class p class l.0.thing l.3 ∙ serves) l.3

    go : (ns : List ℕ) → ((n : ℕ) → is_among n ns ≡ is_listed p cs class n) → AllPairs (λ a b. order a < order b) ns →
        first_of ns ≡ option_map (λ (x : Listed). x.name) (asked_server p class cs)
    go [] there sorted = by (is_server p (An_object_of class)) refl (first_listed class cs) refl
      where
        by : (b : Bool) → is_server p (An_object_of class) ≡ b → (l : Option Listed) → first_listed class cs ≡ l →
            None ≡ option_map (λ (x : Listed). x.name) (asked_server p class cs)
        by b serves None e = sym (ap (λ l. option_map (λ (x : Listed). x.name) (cond (is_server p (An_object_of class)) l None)) e
            ∙ ap (λ b. option_map (λ (x : Listed). x.name) (cond b None None)) serves ∙ none b)
          where
            none : (b : Bool) → option_map (λ (x : Listed). x.name) (cond b None None) ≡ None
            none true = refl
            none false = refl
        by true serves (Some x) e = absurd (false≢true (there x.name ∙ in_list x e serves))
        by false serves (Some x) e = sym (ap (λ b. option_map (λ (x : Listed). x.name) (cond b (first_listed class cs) None)) serves)
    go (n ∷ ns) there sorted =
        let me = entry p cs class n (sym (there n) ∙ ap (λ b. b || is_among n ns) (eq-eqb n n refl)) in
        let f = found class cs n me.object me.request me.lives me.asked me.of in
        let serves : is_server p (An_object_of class) ≡ true = sym (serves_class p class me.object.thing me.of) ∙ me.serves in
        let r = ordered class cs f.0 no_duplicates f.1 in
        let low : f.0.order ≤ me.request.order = f.2 in
        let is : order n ≡ me.request.order = ap order_in me.asked in
        let has : order f.0.name ≡ f.0.order = ap order_in r.1 ∙ sym r.2 in
        let asked : option_map (λ (x : Listed). x.name) (asked_server p class cs) ≡ Some f.0.name =
        ap (λ b. option_map (λ (x : Listed). x.name) (cond b (first_listed class cs) None)) serves ∙ ap (λ l. option_map (λ (x : Listed). x.name) l) f.1 in
        by (n == f.0.name) f.0.name refl (there f.0.name ∙ in_list f.0 f.1 serves)
        (λ among. let later = after_first order n ns f.0.name sorted among in omega (arith, later, low, is, has)) ∙ sym asked
      where
        by : (b : Bool) (m : ℕ) → (n == m) ≡ b → (b || is_among m ns) ≡ true → (is_among m ns ≡ true → ⊥) → Some n ≡ Some m
        by true m same e never = ap Some (eqb-true n m same)
        by false m other e never = absurd (never e)

-- ---- the lists go on

-- where the same are listed, in the same order
pub listed_same : (p : Image) (t : Table) (cs ds : List Cell) → ((n class : ℕ) → is_listed p ds class n ≡ is_listed p cs class n) →
    ((n : ℕ) → order_in (requested ds n) ≡ order_in (requested cs n)) → SameListed p t cs → SameListed p t ds
listed_same p t cs ds listed orders same = record {
  there = λ n class. same.there n class ∙ sym (listed n class);
  order = λ class i j d less within. let o = same.order class i j d less within in
      omega (arith, o, orders (slice_index_or (list_at t class) i d), orders (slice_index_or (list_at t class) j d));
  classes = same.classes;
  nodes = same.nodes;
}

-- so it is where no name, no order and no one enlisted is another
pub listed_alike : (p : Image) (t : Table) (cs ds : List Cell) → ((n : ℕ) → named ds n ≡ named cs n) →
    ((n : ℕ) → option_map (λ r. r.order) (requested ds n) ≡ option_map (λ r. r.order) (requested cs n)) → SameListed p t cs → SameListed p t ds
listed_alike p t cs ds names orders same = grind (arith, nat_tests, listed_same p t cs ds, same_Some)

or_true : (b : Bool) → (b || true) ≡ true
or_true b = grind arith

or_false : (b : Bool) → (b || false) ≡ b
or_false b = grind arith

-- one that is in no list is the last of its class from then on
module _ (p : Image) (t : Table) (cs ds : List Cell) (id class : ℕ) where
  pub listed_last : class < 256 → ((k : ℕ) → is_listed p cs k id ≡ false) → ((k : ℕ) → is_listed p ds k id ≡ (class == k)) → ((n k : ℕ) →
      (id == n) ≡ false → is_listed p ds k n ≡ is_listed p cs k n) → ((n : ℕ) → (id == n) ≡ false → order_in (requested ds n) ≡ order_in (requested cs n)) →
      ((n : ℕ) → is_listed p cs class n ≡ true → order_in (requested cs n) < order_in (requested ds id)) → SameListed p t cs →
      SameListed p (with_list class (list_at t class ++ id ∷ []) t) ds
  listed_last small free here others orders newest same = record {
    there = λ n k. ap (is_among n) (at_list k) ∙ among n k;
    order = λ k. subst (λ ns. AllPairs (λ a b. order_in (requested ds a) < order_in (requested ds b)) ns) (sym (at_list k)) (sorted k (class == k) refl);
    classes = length-set t.lists class _ ∙ same.classes;
    nodes = same.nodes;
  }
    where
      longer : List ℕ
      longer = list_at t class ++ id ∷ []

      at_list : (k : ℕ) → list_at (with_list class longer t) k ≡ cond (class == k) longer (list_at t k)
      at_list k = go (class == k) refl
        where
          go : (b : Bool) → (class == k) ≡ b → list_at (with_list class longer t) k ≡ cond b longer (list_at t k)
          go true e = ap (λ j. slice_index_or (slice_set t.lists class longer) j []) (sym (eqb-true class k e))
              ∙ get_or-set_same t.lists class longer [] (omega (arith, small, same.classes))
          go false e = get_or-set_other t.lists class k longer [] (λ d. false≢true (sym e ∙ eq-eqb class k (sym d)))

      in_longer : (n : ℕ) → is_among n longer ≡ (is_listed p cs class n || (id == n))
      in_longer n = grind (arith, nat_tests, list_any-append, or_false (id == n))

      among : (n k : ℕ) → is_among n (cond (class == k) longer (list_at t k)) ≡ is_listed p ds k n
      among n k = grind (arith, nat_tests, longer, in_longer n, or_true, eqb-true id n, or_false, eqb-true class k)

      -- what stands in a list is another
      other : (k : ℕ) (i d : ℕ) → i < length (list_at t k) → (id == slice_index_or (list_at t k) i d) ≡ false
      other k i d within = go (id == slice_index_or (list_at t k) i d) refl
        where
          at : ℕ
          at = slice_index_or (list_at t k) i d

          go : (b : Bool) → (id == at) ≡ b → b ≡ false
          go false e = refl
          go true e = absurd (false≢true (sym (free k) ∙ ap (is_listed p cs k) (eqb-true id at e) ∙ sym (same.there at k) ∙ list_any_at (λ x. x == at) (list_at t k) i d within (eq-eqb at at refl)))

      kept : (k : ℕ) → AllPairs (λ a b. order_in (requested ds a) < order_in (requested ds b)) (list_at t k)
      kept k i j d less within =
          let o = same.order k i j d less within in
          omega (arith, o, orders (slice_index_or (list_at t k) i d) (other k i d (omega (arith, less, within))), orders (slice_index_or (list_at t k) j d) (other k j d within))

      below : (i d : ℕ) → i < length (list_at t class) → order_in (requested ds (slice_index_or (list_at t class) i d)) < order_in (requested ds id)
      below i d within =
          let at = slice_index_or (list_at t class) i d in
          let less = newest at (sym (same.there at class) ∙ list_any_at (λ x. x == at) (list_at t class) i d within (eq-eqb at at refl)) in
          omega (arith, less, orders at (other class i d within))

      sorted : (k : ℕ) (b : Bool) → (class == k) ≡ b → AllPairs (λ a b. order_in (requested ds a) < order_in (requested ds b)) (cond b longer (list_at t k))
      sorted k true e = all_pairs_push (λ a b. order_in (requested ds a) < order_in (requested ds b)) (list_at t class) id (kept class) below
      sorted k false e = kept k

-- one that is gone is in no list
module _ (p : Image) (t : Table) (cs ds : List Cell) (id : ℕ) where
  pub listed_gone : ((k : ℕ) → is_listed p ds k id ≡ false) → ((n k : ℕ) → (id == n) ≡ false → is_listed p ds k n ≡ is_listed p cs k n) →
      ((n : ℕ) → (id == n) ≡ false → order_in (requested ds n) ≡ order_in (requested cs n)) → SameListed p t cs → SameListed p (unlisted id t) ds
  listed_gone free others orders same = record {
    there = λ n k. ap (is_among n) (at_list k) ∙ among n k (list_at t k) (same.there n k);
    order = λ k. subst (λ ns. AllPairs (λ a b. order_in (requested ds a) < order_in (requested ds b)) ns) (sym (at_list k)) (sorted k);
    classes = length-map t.lists (without_node id) ∙ same.classes;
    nodes = same.nodes;
  }
    where
      at_list : (k : ℕ) → list_at (unlisted id t) k ≡ without_node id (list_at t k)
      at_list k = get_or-map (without_node id) t.lists k []

      passes : (n : ℕ) (ns : List ℕ) → is_among n (without_node id ns) ≡ (not (n == id) && is_among n ns)
      passes n ns = any-filter_same (λ d. d == n) (λ y. not (y == id)) (not (n == id)) (λ k e. ap (λ m. not (m == id)) (eqb-true k n e)) ns

      among : (n k : ℕ) (ns : List ℕ) → is_among n ns ≡ is_listed p cs k n → is_among n (without_node id ns) ≡ is_listed p ds k n
      among n k ns is = grind (arith, nat_tests, passes n ns, eqb-true n id, ne_eqb id n, eq-eqb n id)

      -- what is left is another
      other : (ns : List ℕ) (i d : ℕ) → i < length (without_node id ns) → (id == slice_index_or (without_node id ns) i d) ≡ false
      other ns i d within =
          let at = slice_index_or (without_node id ns) i d in
          let left = and_parts (not (at == id)) (is_among at ns)
          (sym (passes at ns) ∙ list_any_at (λ x. x == at) (without_node id ns) i d within (eq-eqb at at refl)) in
          ne_eqb id at (λ same. false≢true (ap not (sym (eq-eqb at id (sym same))) ∙ left.0))

      sorted : (k : ℕ) → AllPairs (λ a b. order_in (requested ds a) < order_in (requested ds b)) (without_node id (list_at t k))
      sorted k i j d less within =
          let ns = without_node id (list_at t k) in
          let o = AllPairs-filter (λ a b. order_in (requested cs a) < order_in (requested cs b)) (λ y. not (y == id)) (list_at t k)
          (same.order k) i j d less within in
          omega (arith, o, orders (slice_index_or ns i d) (other (list_at t k) i d (omega (arith, less, within))), orders (slice_index_or ns j d) (other (list_at t k) j d within))
