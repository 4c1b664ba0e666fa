-- The price of a method: the most over its paths, where a loop's body is taken for each of its rounds.
use Rattle.std.specs.Prelude.{ℕ, suc, ◌+◌, ◌*◌, ◌≡◌, ◌≤◌, ◌<◌, ◌⊎◌, List, [], ◌∷◌, Option, Some, None, IsSome}
use Rattle.aom_image.specs.Image.{Image}
use Rattle.aom_image.specs.Views.{method_at}
use Rattle.aom_instructions.specs.declared.instr.Instr.{Instr}
use Rattle.aom_image.specs.declared.method.Thing.{Thing}
use Rattle.aom_image.specs.declared.method.Thing.TheVariants.{Object}
use Rattle.aom_link_conditions.specs.Bodies.{Body, IsIn}
use Rattle.aom_link_conditions.specs.Loops.{loop_in, next_in}
use Rattle.aom_static_bounds.specs.Most.{line, most_standing}
use Rattle.aom_abstract_state.specs.Needs.{Flow}
use Rattle.aom_typing_rules.specs.Rules.{flows}
use Rattle.aom_abstract_state.specs.AbstractState.{AbstractState}
use Rattle.aom_typing_rules.specs.Typing.{Typing}
use Rattle.aom_static_bounds.specs.Prices.{LoopStands, Prices, Stands, own, price, sessions_cost}

-- where a path stays: in the whole method, or in a loop's body
pub data Region : Type 0 where
  Whole : Region
  Round : (from to : ℕ) → Region

abbrev pub Inside : Region → ℕ → Type 0
Inside Whole place = Unit {0}
Inside (Round from to) place = IsIn from to place

abbrev pub AmongFlows : ℕ → List Flow → Type 0
AmongFlows to [] = ⊥
AmongFlows to (f ∷ fs) = (f.0 ≡ to) ⊎ AmongFlows to fs

-- an instruction in the body may go on outside of it
pub record GoesOut (p : Image) (t : Typing) (m from to out : ℕ) : Type 0 where
  pub place : ℕ
  pub inside : IsIn from to place
  pub shape : AbstractState
  pub instr : Instr
  pub stands : Stands p t m place shape instr
  pub flow : AmongFlows out (flows p m place shape instr)
  pub outside : to < out

-- a path from that place that stays there costs so much, where what is called and what goes costs what the table says
pub data Costs (p : Image) (t : Typing) (c : Prices) (m : ℕ) : Region → ℕ → ℕ → Type 0 where
  -- a place outside counts where the path goes on
  outside : {r : Region} {place : ℕ} → (Inside r place → ⊥) → Costs p t c m r place 0
  -- a path may stop anywhere, and a next ends the round
  ends : {r : Region} {place : ℕ} {sh : AbstractState} {i : Instr} → Inside r place → Stands p t m place sh i → loop_in (Some i) ≡ None → Costs p t c m r place (own p m c sh i)
  goes :
      {r : Region} {place to n : ℕ} {sh : AbstractState} {i : Instr} → Inside r place → Stands p t m place sh i → loop_in (Some i) ≡ None → next_in (Some i) ≡ None →
      AmongFlows to (flows p m place sh i) → Costs p t c m r to n → Costs p t c m r place (own p m c sh i + n)
  -- all rounds of a loop, and what is after it
  loops :
      {r : Region} {place to d rounds b e out : ℕ} {sh : AbstractState} → Inside r place → LoopStands p t m place sh d rounds → Body p m place to d rounds →
      Costs p t c m (Round place to) (suc place) b → GoesOut p t m place to out → Costs p t c m r out e → Costs p t c m r place (1 + rounds * b + e)
  -- or nothing is
  loops_in :
      {r : Region} {place to d rounds b : ℕ} {sh : AbstractState} → Inside r place → LoopStands p t m place sh d rounds → Body p m place to d rounds →
      Costs p t c m (Round place to) (suc place) b → Costs p t c m r place (1 + rounds * b)

-- the most over the paths of the whole method
pub record IsPrice (p : Image) (t : Typing) (c : Prices) (m n : ℕ) : Type 0 where
  pub met : Costs p t c m Whole 0 n
  pub most : (k : ℕ) → Costs p t c m Whole 0 k → k ≤ n

abbrev pub destructor_price : Prices → Option ℕ → ℕ
destructor_price c None = 0
destructor_price c (Some m) = price c m

-- the table says the price of each method and of each destruction
pub record ArePrices (p : Image) (t : Typing) (c : Prices) : Type 0 where
  pub methods : (m : ℕ) → IsSome (method_at p m) → IsPrice p t c m (price c m)
  -- of all that may stand there: its going, its line of destructors, and the destruction of each session that a server may have
  pub classes : (x : Thing) → c.destruction x ≡ most_standing p (λ y. 1 + line p (destructor_price c) y + sessions_cost p (λ k. c.destruction (Object k)) y) x
