-- What the pass has found at a place stays so, where a table changes before that place alone.
use Rattle.std.proofs.lemmas.Bool.Decides.{nat_tests}
use Rattle.std.proofs.Common.{◌≡◌, ◌<◌, ◌≤◌, ◌+◌, ◌-◌, ◌*◌, ◌∙◌, ℕ, suc, List, Some, None, refl, sym, ap, arith, subst}
use Rattle.std.specs.Prelude.{max}
use Rattle.aom_image.specs.Image.{Image}
use Rattle.aom_instructions.specs.declared.instr.Instr.{Instr}
use Rattle.aom_image.specs.declared.method.Thing.{Thing}
use Rattle.aom_link_conditions.specs.Bodies.{Body, IsLooped}
use Rattle.aom_link_conditions.specs.Loops.{loop_in, next_in}
use Rattle.aom_abstract_state.specs.Needs.{Flow}
use Rattle.aom_typing_rules.specs.Rules.{flows}
use Rattle.aom_abstract_state.specs.AbstractState.{AbstractState}
use Rattle.aom_typing_rules.specs.Typing.{Typing}
use Rattle.aom_static_bounds.proofs.Ways.{JumpsForward}
use Rattle.aom_static_bounds.specs.Prices.{Prices, Stands, own, price}
use Rattle.aom_static_bounds.specs.Costs.{AmongFlows, Region, Round, Whole, destructor_price}
use Rattle.aom_static_bounds.specs.Layers.{Pays, PaysBefore}
use Rattle.aom_static_bounds.specs.Sweeping.{LoopExits, IsAfter, IsInnermost, after, all_going, most_within}
use Rattle.aom_static_bounds.proofs.At.{IsSweptAt}
use Rattle.aom_static_bounds.proofs.Adding.{way_forward}
use Rattle.aom_static_bounds.proofs.Going.{going_same, max_same}
use Rattle.aom_static_bounds.proofs.Regions.{ends_before}
use Rattle.aom_static_bounds.proofs.Related.{most_related, own_related}

-- ---- instructions and flows

-- two tables that say the same of the methods that are paid for
pub own_same : (keep : ℕ → ℕ) (p : Image) (c c' : Prices) → ((x : Thing) → c.destruction x ≡ keep (all_going p (destructor_price c) x)) →
    ((x : Thing) → c'.destruction x ≡ keep (all_going p (destructor_price c') x)) →
    (m : ℕ) (sh : AbstractState) (i : Instr) → ((k : ℕ) → Pays p m sh i k → price c' k ≡ price c k) → own p m c' sh i ≡ own p m c sh i
own_same keep p c c' classes classes' = own_related (λ x y. x ≡ y) refl p c' c (λ x y e. ap (λ n. 1 + n) e) max_same
    (λ x h. classes' x ∙ (ap keep (going_same p (destructor_price c') (destructor_price c) refl x h) ∙ sym (classes x)))

pub most_same : (p : Image) (c c' : Prices) (m : ℕ) (r : Region) (fs : List Flow) → ((to : ℕ) → AmongFlows to fs → c'.from m to ≡ c.from m to) →
    most_within c' m r fs ≡ most_within c m r fs
most_same p c c' m r = most_related (λ x y. x ≡ y) refl p c' c max_same m r

-- ---- a place

-- two tables say the same of the methods before one, and of it from a place on
pub record AreSameFrom (p : Image) (c c' : Prices) (a a' : LoopExits) (m down : ℕ) : Type 0 where
  pub before : (k : ℕ) → k < m → price c' k ≡ price c k
  pub from : (place : ℕ) → down ≤ place → c'.from m place ≡ c.from m place
  pub round : (place : ℕ) → down ≤ place → c'.round m place ≡ c.round m place
  pub after : (from to d n : ℕ) → down ≤ to → Body p m from to d n → a' m from ≡ a m from

module _ (keep : ℕ → ℕ) (p : Image) (t : Typing) (c c' : Prices) (a a' : LoopExits) (m : ℕ) (looped : IsLooped p) (forward : JumpsForward p m)
    (layered : PaysBefore p t) (classes : (x : Thing) → c.destruction x ≡ keep (all_going p (destructor_price c) x))
    (classes' : (x : Thing) → c'.destruction x ≡ keep (all_going p (destructor_price c') x)) (place : ℕ) (same : AreSameFrom p c c' a a' m place) where
  -- what follows a region that ends later
  after_same : (r : Region) (k : ℕ) → place ≤ k → IsInnermost p m k r → after a' m r ≡ after a m r
  after_same Whole k later w = refl
  after_same (Round f e) k later w = same.after f e w.body.0 w.body.1 (omega (arith, later, w.inside.1)) w.body.2

  plain_same : IsSweptAt keep p t c a m place → (sh : AbstractState) (i : Instr) (r : Region) → Stands p t m place sh i → loop_in (Some i) ≡ None → next_in
      (Some i) ≡ None → IsInnermost p m place r → c'.from m place ≡ keep (own p m c' sh i + max (after a' m r) (most_within c' m r (flows p m place sh i)))
  plain_same swept sh i r at l n w =
      let here = same.from place (omega arith) in
      let owned = own_same keep p c c' classes classes' m sh i (λ k paid. same.before k (layered.each m place k sh i at paid)) in
      let follows = after_same r place (omega arith) w in
      let on = most_same p c c' m r _ (λ to among. same.from to (let lt = way_forward p t m forward place to sh i at n among in omega (arith, lt))) in
      here ∙ (swept.plain sh i r at l n w ∙ ap keep (omega (arith, owned, follows, on)))

  loop_exits_same : IsSweptAt keep p t c a m place → (from d n : ℕ) (r : Region) → Body p m from place d n → IsInnermost p m from r → IsAfter p t c' a' m from place r
  loop_exits_same swept from d n r body w =
      let old = swept.loop_exits from d n r body w in
      let own_after = same.after from place d n (omega arith) body in
      let around = round_it r w in
      record {
        around = omega (arith, old.around, own_after, around);
        out = λ to g. omega (arith, old.out to g, own_after, same.from to (omega (arith, g.outside)));
        met = grind (arith, nat_tests, from, after);
      }
    where
      round_it : (s : Region) → IsInnermost p m from s → after a' m s ≡ after a m s
      round_it Whole v = refl
      round_it (Round f e) v =
          let ends = ends_before p looped m f e v.body.0 v.body.1 from place d n v.body.2 body v.inside in
          same.after f e v.body.0 v.body.1 ends v.body.2

  pub swept_same : IsSweptAt keep p t c a m place → IsSweptAt keep p t c' a' m place
  swept_same swept = record {
    plain = plain_same swept;
    loops = λ d n sh at.
        let rounds = ap (λ x. (n - 1) * x) (same.round place (omega arith)) in
        let next = same.from (suc place) (omega arith) in
        same.from place (omega arith) ∙ (swept.loops d n sh at ∙ ap keep (omega (arith, rounds, next)));
    next_places = λ d from sh at.
        let closes = looped.closes m place d (suc from) at.goes in
        let one : closes.0 ≡ from = omega (arith, closes.3) in
        let follows = same.after closes.0 place d closes.1 (omega arith) closes.2 in
        let named = subst (λ x. a' m x ≡ a m x) one follows in
        same.from place (omega arith) ∙ (swept.next_places d from sh at ∙ ap keep (omega (arith, named)));
    rounds = λ to d n body reached.
        let next = same.from (suc place) (omega arith) in
        let round = same.round place (omega arith) in
        let follows = same.after place to d n (omega (arith, body.later)) body in
        omega (arith, swept.rounds to d n body reached, next, round, follows);
    loop_exits = loop_exits_same swept;
  }
