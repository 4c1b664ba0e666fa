-- What the paths from a place cost, by the instruction that stands there.
use Rattle.std.proofs.lemmas.Option.{same_Some}
use Rattle.std.proofs.Common.{⊎_elim, subst, ap, ◌≡◌, ◌+◌, ◌*◌, ◌∙◌, ℕ, suc, Some, None, inl, inr, refl, sym, arith}
use Rattle.std.specs.Prelude.{◌⊎◌}
use Rattle.aom_image.specs.Image.{Image}
use Rattle.aom_instructions.specs.declared.instr.Instr.{Instr}
use Rattle.aom_image.specs.Views.{instr_at, transfer_in}
use Rattle.aom_instructions.specs.Table.{transfer_of}
use Rattle.aom_instructions.specs.declared.transfer.Transfer.{Transfer}
use Rattle.aom_instructions.specs.declared.transfer.Transfer.TheVariants.{Begin}
use Rattle.aom_link_conditions.specs.Bodies.{Body}
use Rattle.aom_link_conditions.specs.Loops.{begun_by, loop_in, next_in}
use Rattle.aom_typing_rules.specs.Rules.{flows}
use Rattle.aom_abstract_state.specs.AbstractState.{AbstractState}
use Rattle.aom_typing_rules.specs.Typing.{Typing}
use Rattle.aom_static_bounds.specs.Prices.{LoopStands, Prices, Stands, own}
use Rattle.aom_static_bounds.specs.Costs.{AmongFlows, Costs, GoesOut, Inside, Region, Round}
use Rattle.aom_static_bounds.proofs.ImageLemmas.{transfer_there}
use Rattle.aom_static_bounds.specs.Costs.Costs.{outside, ends, goes, loops, loops_in}

module _ (p : Image) (t : Typing) (c : Prices) (m : ℕ) where
  pub same_instr : (place : ℕ) (sh sh' : AbstractState) (i i' : Instr) → Stands p t m place sh i → Stands p t m place sh' i' → i ≡ i'
  same_instr place sh sh' i i' a b = same_Some i i' (sym a.instr ∙ b.instr)

  -- ---- what a path does first

  -- the path goes on
  pub record GoesOn (r : Region) (place k : ℕ) (sh : AbstractState) (i : Instr) : Type 0 where
    pub to : ℕ
    pub rest : ℕ
    pub among : AmongFlows to (flows p m place sh i)
    pub plain : next_in (Some i) ≡ None
    pub path : Costs p t c m r to rest
    pub is : k ≡ own p m c sh i + rest

  -- all rounds of a loop, and what follows them
  pub record Rounds (r : Region) (place k d n : ℕ) : Type 0 where
    pub to : ℕ
    pub body : Body p m place to d n
    pub round : ℕ
    pub path : Costs p t c m (Round place to) (suc place) round
    pub rest : (k ≡ 1 + n * round) ⊎ ((out : ℕ) × (e : ℕ) × GoesOut p t m place to out × Costs p t c m r out e × (k ≡ 1 + n * round + e))

  -- from a loop all its rounds, and from another instruction it ends or goes on
  abbrev StepsBy : Region → (place k : ℕ) → AbstractState → Instr → Transfer → Type 0
  StepsBy r place k sh i (Begin d n) = Rounds r place k d n
  StepsBy r place k sh i _ = (k ≡ own p m c sh i) ⊎ GoesOn r place k sh i

  abbrev Steps : Region → (place k : ℕ) → AbstractState → Instr → Type 0
  Steps r place k sh i = StepsBy r place k sh i (transfer_of i)

  steps_by : (r : Region) (place k : ℕ) (sh : AbstractState) (i : Instr) (u : Transfer) → begun_by (Some u) ≡ None →
      (((k ≡ own p m c sh i) ⊎ GoesOn r place k sh i) → StepsBy r place k sh i u) × (StepsBy r place k sh i u → (k ≡ own p m c sh i) ⊎ GoesOn r place k sh i)
  steps_by r place k sh i u none = grind arith

  plain_steps : (r : Region) (place k : ℕ) (sh : AbstractState) (i : Instr) → loop_in (Some i) ≡ None →
      (((k ≡ own p m c sh i) ⊎ GoesOn r place k sh i) → Steps r place k sh i) × (Steps r place k sh i → (k ≡ own p m c sh i) ⊎ GoesOn r place k sh i)
  unfolding loop_in
  plain_steps r place k sh i none = steps_by r place k sh i (transfer_of i) none

  -- one thing alone stands there
  stepped : (r : Region) (place k : ℕ) (sh sh' : AbstractState) (i i' : Instr) → Stands p t m place sh i → Stands p t m place sh' i' →
      Steps r place k sh i → Steps r place k sh' i'
  stepped r place k sh sh' i i' a b s = grind arith

  all_stepped : (r : Region) (place k d n : ℕ) (sh sh' : AbstractState) (i : Instr) → LoopStands p t m place sh d n → Stands p t m place sh' i →
      Rounds r place k d n → Steps r place k sh' i
  all_stepped r place k d n sh sh' i a b all =
      let same : Begin d n ≡ transfer_of i = same_Some _ _ (sym a.goes ∙ ap transfer_in b.instr) in
      subst (λ u. StepsBy r place k sh' i u) same all

  -- a path begins outside, or takes a step
  begins : (r : Region) (place k : ℕ) → Costs p t c m r place k →
      ((Inside r place → ⊥) × (k ≡ 0)) ⊎ (Inside r place × ((sh : AbstractState) (i : Instr) → Stands p t m place sh i → Steps r place k sh i))
  begins r place k (outside far) = inl (far, refl)
  begins r place k (ends {sh = sh} {i = i} inside it none) = grind (arith, plain_steps r place k sh i none)
  begins r place k (goes {to = to} {n = n} {sh = sh} {i = i} inside it none plain among rest) =
      let on : GoesOn r place _ sh i = record { to = to; rest = n; among = among; plain = plain; path = rest; is = refl } in
      inr (inside, λ sh' i' at. stepped r place k sh sh' i i' it at ((plain_steps r place k sh i none).0 (inr on)))
  begins r place k (loops {to = to} {d = d} {rounds = n} {b = b} {e = e} {out = out} {sh = sh} inside it body round goes_out rest) =
      let all : Rounds r place _ d n = record { to = to; body = body; round = b; path = round; rest = inr (out, e, goes_out, rest, refl) } in
      inr (inside, λ sh' i' at. all_stepped r place k d n sh sh' i' it at all)
  begins r place k (loops_in {to = to} {d = d} {rounds = n} {b = b} {sh = sh} inside it body round) =
      let all : Rounds r place _ d n = record { to = to; body = body; round = b; path = round; rest = inl refl } in
      inr (inside, λ sh' i' at. all_stepped r place k d n sh sh' i' it at all)

  -- a path from a place outside costs nothing
  pub outside_cost : (r : Region) (place k : ℕ) → Costs p t c m r place k → (Inside r place → ⊥) → k ≡ 0
  outside_cost r place k path far = ⊎_elim (λ out. out.1) (λ within. absurd (far within.0)) (begins r place k path)

  first_step : (r : Region) (place k : ℕ) → Costs p t c m r place k → (sh : AbstractState) (i : Instr) → Stands p t m place sh i → Inside r place → Steps r place k sh i
  first_step r place k path sh i at inside = ⊎_elim (λ out. absurd (out.0 inside)) (λ within. within.1 sh i at) (begins r place k path)

  pub ends_or_goes : (r : Region) (place k : ℕ) → Costs p t c m r place k → (sh : AbstractState) (i : Instr) → Stands p t m place sh i → loop_in (Some i) ≡ None →
      Inside r place → (k ≡ own p m c sh i) ⊎ GoesOn r place k sh i
  ends_or_goes r place k path sh i at none inside = (plain_steps r place k sh i none).1 (first_step r place k path sh i at inside)

  pub rounds_of : (r : Region) (place k : ℕ) → Costs p t c m r place k → (sh : AbstractState) (d n : ℕ) → LoopStands p t m place sh d n →
      Inside r place → Rounds r place k d n
  rounds_of r place k path sh d n at inside =
      let w = transfer_there (instr_at p m place) (Begin d n) at.goes in
      let step = first_step r place k path sh w.0 (record { shape = at.shape; instr = w.1 }) inside in
      subst (λ u. StepsBy r place k sh w.0 u) w.2 step
