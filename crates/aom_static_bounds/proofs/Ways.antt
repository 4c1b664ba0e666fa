-- Where the flows of an instruction lead: to the next place, where it jumps, or where a next goes back, and each place is reached.
use Rattle.std.proofs.lemmas.Bool.Decides.{nat_tests}
use Rattle.std.proofs.Common.{arith, ◌≡◌, ◌<◌, ℕ, suc, List, [], ◌∷◌, Some, subst}
use Rattle.aom_image.specs.Image.{Image}
use Rattle.aom_image.specs.Views.{instr_at}
use Rattle.aom_instructions.specs.declared.instr.Instr.{Instr}
use Rattle.aom_link_conditions.specs.Jumps.{back_of, jump_of}
use Rattle.aom_abstract_state.specs.Needs.{Flow}
use Rattle.aom_typing_rules.specs.Objects.{flow_jump_empty, flow_jump_null}
use Rattle.aom_typing_rules.specs.Rules.{flows}
use Rattle.aom_abstract_state.specs.AbstractState.{AbstractState}
use Rattle.aom_typing_rules.specs.Typing.{AllLead, Typing, shape_at}
use Rattle.aom_abstract_state.specs.declared.kind.FieldState.{FieldState}
use Rattle.aom_abstract_state.specs.declared.kind.Kind.{Kind}
use Rattle.aom_static_bounds.proofs.TypingRulesLemmas.{leads}
use Rattle.aom_static_bounds.specs.Costs.{AmongFlows}
use Rattle.aom_static_bounds.proofs.Among.{by_flow}

-- the jumps of a method go forward
abbrev pub JumpsForward : Image → ℕ → Type 0
JumpsForward p m = (place to : ℕ) (i : Instr) → instr_at p m place ≡ Some i → jump_of i ≡ Some to → place < to

-- an instruction at a place goes on there
pub data Way (place : ℕ) (i : Instr) : ℕ → Type 0 where
  on : Way place i (suc place)
  jump : {to : ℕ} → jump_of i ≡ Some to → Way place i to
  back : {to : ℕ} → back_of i ≡ Some to → Way place i to

AllWays : ℕ → Instr → List Flow → Type 0
AllWays place i [] = Unit {0}
AllWays place i (f ∷ fs) = Way place i f.0 × AllWays place i fs

null_ways : (p : Image) (m pc : ℕ) (sh : AbstractState) (k : Kind) (a to : ℕ) (i : Instr) → jump_of i ≡ Some to → AllWays pc i (flow_jump_null p m pc sh k a to)
unfolding AllWays
null_ways p m pc sh x a to i e = grind (arith, nat_tests, jump, on)

empty_ways : (p : Image) (m pc : ℕ) (sh : AbstractState) (x : FieldState) (f to : ℕ) (i : Instr) → jump_of i ≡ Some to → AllWays pc i (flow_jump_empty p m pc sh x f to)
unfolding AllWays
empty_ways p m pc sh x f to i e = grind (arith, nat_tests, jump, on)

all_ways : (p : Image) (m pc : ℕ) (sh : AbstractState) (i : Instr) → AllWays pc i (flows p m pc sh i)
unfolding AllWays
all_ways p m pc sh i = grind (arith, leads p i, on, jump, back)

way_among : (place to : ℕ) (i : Instr) (fs : List Flow) → AllWays place i fs → AmongFlows to fs → Way place i to
unfolding AllWays
way_among place to i fs ways among =
    by_flow to (λ gs. AllWays place i gs → Way place i to) (λ f gs e all. subst (λ x. Way place i x) e all.0) (λ f gs rest all. rest all.1) fs among ways

-- a flow is one of the ways
pub way_of : (p : Image) (m place to : ℕ) (sh : AbstractState) (i : Instr) → AmongFlows to (flows p m place sh i) → Way place i to
way_of p m place to sh i among = way_among place to i (flows p m place sh i) (all_ways p m place sh i) among

-- the typing reaches the place
abbrev pub IsReached : Typing → ℕ → ℕ → Type 0
IsReached t m place = (sh : AbstractState) × (shape_at t m place ≡ Some sh)

pub led_to : (t : Typing) (m to : ℕ) (fs : List Flow) → AllLead t m fs → AmongFlows to fs → IsReached t m to
led_to t m to fs lead among = by_flow to
    (λ gs. AllLead t m gs → IsReached t m to) (λ f gs e all. subst (λ x. IsReached t m x) e (all.0.0, all.0.1)) (λ f gs rest all. rest all.1) fs among lead
