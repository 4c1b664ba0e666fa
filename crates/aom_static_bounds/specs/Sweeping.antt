-- What one pass from a method's last place to its first finds.
use Rattle.std.specs.Prelude.{ℕ, suc, ◌+◌, ◌-◌, ◌*◌, ◌≡◌, ◌≤◌, ◌⊎◌, max, min, Bool, false, nat_lt, cond, List, [], ◌∷◌, Option, Some, None, IsSome}
use Rattle.aom_image.specs.Image.{Image}
use Rattle.aom_instructions.specs.declared.instr.Instr.{Instr}
use Rattle.aom_image.specs.declared.method.Thing.{Thing}
use Rattle.aom_image.specs.declared.method.Thing.TheVariants.{Object}
use Rattle.aom_link_conditions.specs.Bodies.{Body, IsIn}
use Rattle.aom_link_conditions.specs.Loops.{loop_in, next_in}
use Rattle.aom_static_bounds.specs.Most.{line, most_standing}
use Rattle.aom_abstract_state.specs.Needs.{Flow}
use Rattle.aom_typing_rules.specs.Rules.{flows}
use Rattle.aom_abstract_state.specs.AbstractState.{AbstractState}
use Rattle.aom_typing_rules.specs.Typing.{Typing, shape_at}
use Rattle.aom_static_bounds.specs.Prices.{LoopStands, NextStands, Prices, Stands, own, sessions_cost}
use Rattle.aom_static_bounds.specs.Costs.{Region, Whole, Round, Inside, GoesOut, destructor_price}

-- ---- the innermost loop round a place

abbrev pub IsBody : Image → ℕ → Region → Type 0
IsBody p m Whole = Unit {0}
IsBody p m (Round from to) = (d n : ℕ) × Body p m from to d n

-- a loop at that place is that of the region, or round it
abbrev pub BeginsBefore : ℕ → Region → Type 0
BeginsBefore from Whole = ⊥
BeginsBefore from (Round first to) = from ≤ first

-- the body of the innermost loop that has the place, or the whole method where none has
pub record IsInnermost (p : Image) (m place : ℕ) (r : Region) : Type 0 where
  pub body : IsBody p m r
  pub inside : Inside r place
  pub others : (from to d n : ℕ) → Body p m from to d n → IsIn from to place → BeginsBefore from r

-- ---- what comes after a loop

-- by method and a loop's place: the most that follows the loop
abbrev pub LoopExits : Type 0
LoopExits = ℕ → ℕ → ℕ

abbrev pub after : LoopExits → ℕ → Region → ℕ
after a m Whole = 0
after a m (Round from to) = a m from

-- jumps go forward, so a place past the end is all that is outside
abbrev pub is_past : Region → ℕ → Bool
is_past Whole place = false
is_past (Round from to) place = nat_lt to place

-- the most over the flows that stay in the region
abbrev pub most_within : Prices → ℕ → Region → List Flow → ℕ
most_within c m r [] = 0
most_within c m r (f ∷ fs) = max (cond (is_past r f.0) 0 (c.from m f.0)) (most_within c m r fs)

-- the number is the most that follows a loop: what follows the region that it stands in, or what its body goes out to
pub record IsAfter (p : Image) (t : Typing) (c : Prices) (a : LoopExits) (m from to : ℕ) (r : Region) : Type 0 where
  pub around : after a m r ≤ a m from
  pub out : (place : ℕ) → GoesOut p t m from to place → c.from m place ≤ a m from
  pub met : (a m from ≡ after a m r) ⊎ ((place : ℕ) × GoesOut p t m from to place × (c.from m place ≡ a m from))

-- ---- the pass

-- what the pass has found of a method once it is down to a place: each place from the later ones. Sums are kept whole, or up to a limit
pub record IsSweptFrom (keep : ℕ → ℕ) (p : Image) (t : Typing) (c : Prices) (a : LoopExits) (m down : ℕ) : Type 0 where
  pub plain :
      (place : ℕ) (sh : AbstractState) (i : Instr) (r : Region) → down ≤ place → Stands p t m place sh i → loop_in (Some i) ≡ None → next_in (Some i) ≡ None → IsInnermost p m place r →
      c.from m place ≡ keep (own p m c sh i + max (after a m r) (most_within c m r (flows p m place sh i)))
  pub loops : (place d n : ℕ) (sh : AbstractState) → down ≤ place → LoopStands p t m place sh d n →
      c.from m place ≡ keep (1 + (n - 1) * c.round m place + c.from m (suc place))
  pub next_places : (place d from : ℕ) (sh : AbstractState) → down ≤ place → NextStands p t m place sh d (suc from) → c.from m place ≡ keep (1 + a m from)
  -- a round is what is found at the body's first place, less what follows the loop
  pub rounds : (from to d n : ℕ) → down ≤ from → Body p m from to d n → IsSome (shape_at t m (suc from)) → c.from m (suc from) ≡ c.round m from + a m from
  pub loop_exits : (from to d n : ℕ) (r : Region) → down ≤ to → Body p m from to d n → IsInnermost p m from r → IsAfter p t c a m from to r

-- ---- destructions

-- what the going of a thing costs and its destructors, by what methods cost
abbrev pub going : Image → (Option ℕ → ℕ) → Thing → ℕ
going p cost x = 1 + line p cost x

-- and the going of its sessions, which have none themselves
abbrev pub whole_going : Image → (Option ℕ → ℕ) → Thing → ℕ
whole_going p cost x = going p cost x + sessions_cost p (λ k. going p cost (Object k)) x

-- of all that may stand there
abbrev pub all_going : Image → (Option ℕ → ℕ) → Thing → ℕ
all_going p cost x = most_standing p (whole_going p cost) x

-- of all methods and classes
pub record IsSweptBy (keep : ℕ → ℕ) (p : Image) (t : Typing) (c : Prices) (a : LoopExits) : Type 0 where
  pub methods : (m : ℕ) → IsSweptFrom keep p t c a m 0
  pub classes : (x : Thing) → c.destruction x ≡ keep (all_going p (destructor_price c) x)

abbrev pub IsSwept : Image → Typing → Prices → LoopExits → Type 0
IsSwept p t c a = IsSweptBy (λ n. n) p t c a

-- with each sum kept up to a limit
abbrev pub IsSweptUpTo : ℕ → Image → Typing → Prices → LoopExits → Type 0
IsSweptUpTo limit p t c a = IsSweptBy (λ n. min limit n) p t c a
