-- Meeting a flow into the state at a place, and meeting several one after the other.
use Rattle.std.proofs.Common.{◌≡◌, ℕ, ◌<◌, List, [], ◌∷◌, ◌++◌, length, Some, None, slice_set, slice_index_or, inl, inr, refl, sym, ◌∙◌, ap, arith}
use Rattle.std.proofs.lemmas.Bool.Decides.{eqb_tells}
use Rattle.std.proofs.lemmas.List.{length-set}
use Rattle.std.proofs.lemmas.List.Sums.{sum_by-set}
use Rattle.aom_image.specs.Image.{Image}
use Rattle.aom_abstract_state.specs.Meet.{IsMeet, NoMeet, ReasonNoMeet}
use Rattle.aom_abstract_state.specs.Needs.{Flow}
use Rattle.aom_abstract_state.specs.Order.{IsImpliedBy}
use Rattle.aom_abstract_state.specs.AbstractState.{AbstractState}
use Rattle.aom_roles.specs.Tables.{at}
use Rattle.aom_abstract_state.specs.declared.why.Reason.{Reason}
use Rattle.aom_verify.proofs.AbstractStateLemmas.{at_set_here, at_set_other, at_within, reflexive, transitive}
use Rattle.aom_static_bounds.specs.Shapes.{Shapes, Meets, AllMet, IsBelow}
use Rattle.aom_verify.specs.Arrivals.{Arrives, AllArrive, EachArrives, JoinFails}
use Rattle.aom_verify.specs.Arrivals.Arrives.{met as met_there}
use Rattle.aom_verify.specs.Arrivals.IsRefused.{without_meet}
use Rattle.aom_verify.specs.Change.{place_rank, unreached, IsChange, then}
use Rattle.aom_verify.specs.Sweep.{AllWithin, Joins, CannotJoin}
use Rattle.aom_verify.specs.declared.change.StatesChange.{StatesChange}
use Rattle.aom_verify.specs.declared.change.StatesChange.TheVariants.{Nothing, Fell, Reached}
use Rattle.aom_verify.proofs.Ordering.{meets_below, below_self, below_along}
use Rattle.aom_verify.proofs.Falling.{shape_falls, changes_add}

-- what a new state at a place owes: it says no more than the flow and than the old state, is the strongest such, and arrives there as they do
pub record IsPut (s : Shapes) (to : ℕ) (sh m : AbstractState) : Type 0 where
  pub within : to < length s
  pub implied : IsImpliedBy m sh
  pub old : (there : AbstractState) → at None s to ≡ Some there → IsImpliedBy m there
  pub arrives : (p : Image) (k : ℕ) → AllArrive p k s → Arrives p k to sh → Arrives p k to m
  pub strongest : (n : AbstractState) → IsImpliedBy n sh → ((there : AbstractState) → at None s to ≡ Some there → IsImpliedBy n there) → IsImpliedBy n m

pub put_here : (s : Shapes) (to : ℕ) (m : AbstractState) → to < length s → at None (slice_set s to (Some m)) to ≡ Some m
put_here s to m h = at_set_here None s to (Some m) h

put_below : (s : Shapes) (to : ℕ) (sh m : AbstractState) → IsPut s to sh m → IsBelow (slice_set s to (Some m)) s
put_below s to sh m h = record {
  each = λ pc x e. elim (eqb_tells pc to) [
    | inl w ↦ record { next = m; there = rw w.1 (put_here s to m h.within); implied = h.old x (rw w.1 at e) }
    | inr w ↦ record { next = x; there = at_set_other None s to pc (Some m) w.1 ∙ e; implied = reflexive x }
  ];
}

-- a list of states below the old ones that meets the flow
below_at : (t s : Shapes) (to : ℕ) (sh : AbstractState) (meets : Meets t to sh) → IsBelow t s → (there : AbstractState) → at None s to ≡ Some there → IsImpliedBy meets.next there
below_at t s to sh meets below there e =
    let other = below.each to there e in
    let same : other.next ≡ meets.next = let f = other.there in let g = meets.there in cc in
    rw same at other.implied

put_strongest : (t s : Shapes) (to : ℕ) (sh m : AbstractState) → IsPut s to sh m → IsBelow t s → Meets t to sh → IsBelow t (slice_set s to (Some m))
put_strongest t s to sh m h below meets = record {
  each = λ pc x e. elim (eqb_tells pc to) [
    | inl w ↦
        let here = put_here s to m h.within in
        let same : m ≡ x = let f = rw w.1 at e in cc in
        let found : Meets t to m =
        record { next = meets.next; there = meets.there; implied = h.strongest meets.next meets.implied (below_at t s to sh meets below) } in
        rw (w.1, ← same) found
    | inr w ↦ below.each pc x (sym (at_set_other None s to pc (Some m) w.1) ∙ e)
  ];
}

put_arrives : (s : Shapes) (to : ℕ) (sh m : AbstractState) → IsPut s to sh m → (p : Image) (k : ℕ) → AllArrive p k s → Arrives p k to sh →
    AllArrive p k (slice_set s to (Some m))
put_arrives s to sh m h p k all here = λ pc x e. elim (eqb_tells pc to) [
  | inl w ↦
      let there = put_here s to m h.within in
      let same : m ≡ x = let f = rw w.1 at e in cc in
      rw (w.1, ← same) (h.arrives p k all here)
  | inr w ↦ all pc x (sym (at_set_other None s to pc (Some m) w.1) ∙ e)
]

joins_put : (s : Shapes) (to : ℕ) (sh m : AbstractState) (change : StatesChange) → IsPut s to sh m → IsChange s (slice_set s to (Some m)) change →
    Joins s (slice_set s to (Some m)) ((to, sh) ∷ []) change
joins_put s to sh m change h changed = record {
  size = length-set s to (Some m);
  below_old = put_below s to sh m h;
  met = (record { next = m; there = put_here s to m h.within; implied = h.implied }, tt);
  strongest = λ t below meets. put_strongest t s to sh m h below meets.0;
  arrives = λ p k all each. put_arrives s to sh m h p k all each.0;
  changed = changed;
}

-- a place is reached first
pub joins_first : (s : Shapes) (to : ℕ) (sh : AbstractState) → to < length s → at None s to ≡ None → Joins s (slice_set s to (Some sh)) ((to, sh) ∷ []) Reached
joins_first s to sh within e =
    let read : slice_index_or s to None ≡ None = at_within None None s to within ∙ e in
    joins_put s to sh sh Reached
    (record { within = within; implied = reflexive sh; old = λ there f. absurd cc; arrives = λ p k all here. here; strongest = λ n h k. h })
    (omega (arith, sum_by-set unreached s to (Some sh) None within, ap unreached read))

-- the state there says no more already
pub joins_none : (s : Shapes) (to : ℕ) (sh there : AbstractState) → at None s to ≡ Some there → IsImpliedBy there sh → Joins s s ((to, sh) ∷ []) Nothing
joins_none s to sh there here h = record {
  size = refl;
  below_old = below_self s;
  met = (record { next = there; there = here; implied = h }, tt);
  strongest = λ t below meets. below;
  arrives = λ p k all each. all;
  changed = refl;
}

-- the state there falls
pub joins_lower : (s : Shapes) (to : ℕ) (sh there less : AbstractState) → to < length s → at None s to ≡ Some there →
    ¬ IsImpliedBy there sh → IsMeet less there sh → less.states < 256 → Joins s (slice_set s to (Some less)) ((to, sh) ∷ []) Fell
joins_lower s to sh there less within here differs meet byte =
    let read : slice_index_or s to (Some there) ≡ Some there = at_within None (Some there) s to within ∙ here in
    let falls = shape_falls less there byte meet.first (λ h. differs (transitive there less sh h meet.second)) in
    joins_put s to sh less Fell (record {
      within = within;
      implied = meet.second;
      old = λ other f. let same : there ≡ other = cc in rw same at meet.first;
      arrives = λ p k all new. met_there (all to there here) new meet;
      strongest = λ n h k. meet.strongest n (k there here) h;
    }) (
      omega (arith, sum_by-set unreached s to (Some less) (Some there) within, ap unreached read),
      omega (arith, sum_by-set place_rank s to (Some less) (Some there) within, ap place_rank read, falls),
    )

-- nothing says no more than the state there and the flow
pub cannot_join : (s : Shapes) (to : ℕ) (sh there : AbstractState) → at None s to ≡ Some there → NoMeet there sh → CannotJoin s ((to, sh) ∷ [])
cannot_join s to sh there here no_meet =
    record { none = λ t below meets. no_meet.none meets.0.next (below_at t s to sh meets.0 below there here) meets.0.implied }

-- and where both arrive the state there is refused
pub join_fails : (s : Shapes) (to : ℕ) (sh there : AbstractState) (why : Reason) → at None s to ≡ Some there → NoMeet there sh → ReasonNoMeet there sh why →
    JoinFails s s ((to, sh) ∷ []) to why
join_fails s to sh there why here no_meet reason = λ p k all each. record { arrive = all; shape = there; there = here; refused = without_meet each.0 no_meet reason }

all_met_add : (s : Shapes) (xs ys : List Flow) → AllMet s xs → AllMet s ys → AllMet s (xs ++ ys)
all_met_add s [] ys h k = k
all_met_add s (x ∷ xs) ys h k = (h.0, all_met_add s xs ys h.1 k)

all_met_first : (s : Shapes) (xs ys : List Flow) → AllMet s (xs ++ ys) → AllMet s xs
all_met_first s [] ys h = tt
all_met_first s (x ∷ xs) ys h = (h.0, all_met_first s xs ys h.1)

all_met_last : (s : Shapes) (xs ys : List Flow) → AllMet s (xs ++ ys) → AllMet s ys
all_met_last s [] ys h = h
all_met_last s (x ∷ xs) ys h = all_met_last s xs ys h.1

pub all_met_below : (t s : Shapes) (xs : List Flow) → IsBelow t s → AllMet s xs → AllMet t xs
all_met_below t s [] h k = tt
all_met_below t s (x ∷ xs) h k = (meets_below t s x.0 x.1 h k.0, all_met_below t s xs h k.1)

pub joins_self : (s : Shapes) → Joins s s [] Nothing
joins_self s = record { size = refl; below_old = below_self s; met = tt; strongest = λ t below met. below; arrives = λ p k all each. all; changed = refl }

each_first : (p : Image) (k : ℕ) (xs ys : List Flow) → EachArrives p k (xs ++ ys) → EachArrives p k xs
each_first p k [] ys h = tt
each_first p k (x ∷ xs) ys h = (h.0, each_first p k xs ys h.1)

each_last : (p : Image) (k : ℕ) (xs ys : List Flow) → EachArrives p k (xs ++ ys) → EachArrives p k ys
each_last p k [] ys h = h
each_last p k (x ∷ xs) ys h = each_last p k xs ys h.1

pub joins_add : (a b c : Shapes) (xs ys : List Flow) (x y : StatesChange) → Joins a b xs x → Joins b c ys y → Joins a c (xs ++ ys) (then x y)
joins_add a b c xs ys x y h k = record {
  size = k.size ∙ h.size;
  below_old = below_along c b a k.below_old h.below_old;
  met = all_met_add c xs ys (all_met_below c b xs k.below_old h.met) k.met;
  strongest = λ t below met. k.strongest t (h.strongest t below (all_met_first t xs ys met)) (all_met_last t xs ys met);
  arrives = λ p m all each. k.arrives p m (h.arrives p m all (each_first p m xs ys each)) (each_last p m xs ys each);
  changed = changes_add a b c x y h.changed k.changed;
}

pub cannot_first : (a : Shapes) (xs ys : List Flow) → CannotJoin a xs → CannotJoin a (xs ++ ys)
cannot_first a xs ys h = record { none = λ t below met. h.none t below (all_met_first t xs ys met) }

pub cannot_last : (a b : Shapes) (xs ys : List Flow) (x : StatesChange) → Joins a b xs x → CannotJoin b ys → CannotJoin a (xs ++ ys)
cannot_last a b xs ys x h k = record { none = λ t below met. k.none t (h.strongest t below (all_met_first t xs ys met)) (all_met_last t xs ys met) }

-- the place where one way stops is that of all of them
pub fails_first : (a c : Shapes) (xs ys : List Flow) (place : ℕ) (why : Reason) → JoinFails a c xs place why → JoinFails a c (xs ++ ys) place why
fails_first a c xs ys place why fails = λ p k all each. fails p k all (each_first p k xs ys each)

pub fails_last : (a b c : Shapes) (xs ys : List Flow) (x : StatesChange) (place : ℕ) (why : Reason) → Joins a b xs x → JoinFails b c ys place why →
    JoinFails a c (xs ++ ys) place why
fails_last a b c xs ys x place why h fails = λ p k all each. fails p k (h.arrives p k all (each_first p k xs ys each)) (each_last p k xs ys each)

pub within_first : (n : ℕ) (xs ys : List Flow) → AllWithin n (xs ++ ys) → AllWithin n xs
within_first n [] ys h = tt
within_first n (x ∷ xs) ys h = (h.0, within_first n xs ys h.1)

pub within_last : (n : ℕ) (xs ys : List Flow) → AllWithin n (xs ++ ys) → AllWithin n ys
within_last n [] ys h = h
within_last n (x ∷ xs) ys h = within_last n xs ys h.1
