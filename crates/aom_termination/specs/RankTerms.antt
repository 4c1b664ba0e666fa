-- What the tasks at hand come to, where it is known what each of them is worth.
use Rattle.std.specs.Prelude.{ℕ, suc, ◌+◌, List, [], ◌∷◌}
use Rattle.aom_semantics.specs.State.{Closing, Destroy, Dispatch, Dispatched, Run, Task, Trapped, Unwind}

pub record RankTerms : Type 0 where
  -- a method, by its number, its counters and its place
  pub method : ℕ → (counters : List ℕ) → (place : ℕ) → ℕ
  -- what runs of its line behind a destructor
  pub rest : ℕ → ℕ
  pub trap : ℕ
  -- the going of a cell
  pub going : ℕ
  -- what goes before a server: its sessions, and then its destructor
  pub closing : ℕ
  pub leave : ℕ
  -- the end of a dispatch
  pub dispatch : Dispatch → ℕ

-- what a method still begins as it ends: over the going of a cell, the rest of its line
abbrev pub over_rank_term : RankTerms → ℕ → List Task → ℕ
over_rank_term w m [] = 0
over_rank_term w m (Run fr ∷ ts) = 0
over_rank_term w m (Trapped ∷ ts) = 0
over_rank_term w m (Destroy ∷ ts) = w.rest m
over_rank_term w m (Closing ∷ ts) = 0
over_rank_term w m (Unwind code ∷ ts) = 0
over_rank_term w m (Dispatched d ∷ ts) = 0

-- the tasks that wait: a method goes on at its next place
abbrev pub waiting_rank_term : RankTerms → List Task → ℕ
waiting_rank_term w [] = 0
waiting_rank_term w (Run fr ∷ ts) = w.method fr.method fr.counters (suc fr.place) + (over_rank_term w fr.method ts + waiting_rank_term w ts)
waiting_rank_term w (Trapped ∷ ts) = w.trap + waiting_rank_term w ts
waiting_rank_term w (Destroy ∷ ts) = w.going + waiting_rank_term w ts
waiting_rank_term w (Closing ∷ ts) = w.closing + waiting_rank_term w ts
waiting_rank_term w (Unwind code ∷ ts) = w.leave + waiting_rank_term w ts
waiting_rank_term w (Dispatched d ∷ ts) = w.dispatch d + waiting_rank_term w ts

-- with the method on top where it stands
abbrev pub tasks_rank_term : RankTerms → List Task → ℕ
tasks_rank_term w (Run fr ∷ ts) = w.method fr.method fr.counters fr.place + (over_rank_term w fr.method ts + waiting_rank_term w ts)
tasks_rank_term w ts = waiting_rank_term w ts
