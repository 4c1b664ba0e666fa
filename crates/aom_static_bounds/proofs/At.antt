-- What the pass finds, place by place.
use Rattle.std.proofs.Common.{◌≡◌, ◌≤◌, ◌+◌, ◌-◌, ◌*◌, ℕ, suc, Some, None, arith}
use Rattle.std.specs.Prelude.{IsSome, max}
use Rattle.aom_image.specs.Image.{Image}
use Rattle.aom_instructions.specs.declared.instr.Instr.{Instr}
use Rattle.aom_link_conditions.specs.Bodies.{Body}
use Rattle.aom_link_conditions.specs.Loops.{loop_in, next_in}
use Rattle.aom_typing_rules.specs.Rules.{flows}
use Rattle.aom_abstract_state.specs.AbstractState.{AbstractState}
use Rattle.aom_typing_rules.specs.Typing.{Typing, shape_at}
use Rattle.aom_static_bounds.specs.Prices.{LoopStands, NextStands, Prices, Stands, own}
use Rattle.aom_static_bounds.specs.Costs.{Region}
use Rattle.aom_static_bounds.specs.Sweeping.{LoopExits, IsAfter, IsInnermost, IsSweptBy, IsSweptFrom, after, most_within}

-- at one place: of a loop's body what is found at its loop, and what follows it at its next
pub record IsSweptAt (keep : ℕ → ℕ) (p : Image) (t : Typing) (c : Prices) (a : LoopExits) (m place : ℕ) : Type 0 where
  pub plain : (sh : AbstractState) (i : Instr) (r : Region) → Stands p t m place sh i → loop_in (Some i) ≡ None → next_in (Some i) ≡ None → IsInnermost p m place r →
      c.from m place ≡ keep (own p m c sh i + max (after a m r) (most_within c m r (flows p m place sh i)))
  pub loops : (d n : ℕ) (sh : AbstractState) → LoopStands p t m place sh d n → c.from m place ≡ keep (1 + (n - 1) * c.round m place + c.from m (suc place))
  pub next_places : (d from : ℕ) (sh : AbstractState) → NextStands p t m place sh d (suc from) → c.from m place ≡ keep (1 + a m from)
  pub rounds : (to d n : ℕ) → Body p m place to d n → IsSome (shape_at t m (suc place)) → c.from m (suc place) ≡ c.round m place + a m place
  pub loop_exits : (from d n : ℕ) (r : Region) → Body p m from place d n → IsInnermost p m from r → IsAfter p t c a m from place r

module _ (keep : ℕ → ℕ) (p : Image) (t : Typing) (c : Prices) (a : LoopExits) where
  pub at_each : (m down : ℕ) → IsSweptFrom keep p t c a m down → (place : ℕ) → down ≤ place → IsSweptAt keep p t c a m place
  at_each m down swept place le = record {
    plain = λ sh i r. swept.plain place sh i r le;
    loops = λ d n sh. swept.loops place d n sh le;
    next_places = λ d from sh. swept.next_places place d from sh le;
    rounds = λ to d n. swept.rounds place to d n le;
    loop_exits = λ from d n r. swept.loop_exits from place d n r le;
  }

  pub from_each : (m down : ℕ) → ((place : ℕ) → down ≤ place → IsSweptAt keep p t c a m place) → IsSweptFrom keep p t c a m down
  from_each m down each = record {
    plain = λ place sh i r le. (each place le).plain sh i r;
    loops = λ place d n sh le. (each place le).loops d n sh;
    next_places = λ place d from sh le. (each place le).next_places d from sh;
    rounds = λ from to d n le. (each from le).rounds to d n;
    loop_exits = λ from to d n r le. (each to le).loop_exits from d n r;
  }

  pub place_of : IsSweptBy keep p t c a → (m place : ℕ) → IsSweptAt keep p t c a m place
  place_of swept m place = at_each m 0 (swept.methods m) place (omega arith)
