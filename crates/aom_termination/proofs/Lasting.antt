-- What comes before servers go is no more after a change of the cells, where those that go stay, and no session is made.
use Rattle.std.proofs.lemmas.Bool.Decides.{nat_tests}
use Rattle.std.proofs.Common.{◌≡◌, ◌≤◌, ◌<◌, ◌∙◌, ℕ, ℤ, false, cond, List, [], ◌∷◌, length, Option, Some, None, refl, ap, arith, suc}
use Rattle.std.specs.Prelude.{◌==◌, ◌&&◌}
use Rattle.std.proofs.lemmas.Bool.{ne_eqb}
use Rattle.aom_image.specs.Image.{Image}
use Rattle.aom_image.specs.declared.method.Argument.{Argument}
use Rattle.aom_image.specs.declared.method.Argument.TheVariants.{Own as Takes_own, Word as Takes_word}
use Rattle.aom_image.specs.declared.method.Gives.{Gives}
use Rattle.aom_termination.proofs.SafetyLemmas.{held_dropped, held_elsewhere, held_set_word, queue_dropped, redeemed_by_alike, request_updated_alike}
use Rattle.aom_termination.proofs.SafetyLemmas.{session_updated_alike}
use Rattle.aom_termination.proofs.SemanticsLemmas.{held_without}
use Rattle.aom_semantics.specs.Tokens.{next_token, promised, redeemed_by}
use Rattle.aom_semantics.specs.Calls.{passed_cells, result_cells}
use Rattle.aom_semantics.specs.Cleanup.{to_trap, top_place}
use Rattle.aom_semantics.specs.Clients.{each_slot_released}
use Rattle.aom_semantics.specs.Effects.{Carried, Made, Popped, Pushed, Replied, Handed}
use Rattle.aom_semantics.specs.Effects.{Requested, Sessioned, Spot, Update, Written, cells_after, spot_place}
use Rattle.aom_semantics.specs.Requests.{ended_cells, on_request, own_request, request_updated}
use Rattle.aom_semantics.specs.Places.{Cell, Entry, Going, Object, Place, Request, held, moved, same_place, without}
use Rattle.aom_semantics.specs.Servers.{all_slot_released, is_queue_of, without_queue}
use Rattle.aom_semantics.specs.State.{Closing, Frame, Receiver, Run, State, Task, resumed}
use Rattle.aom_semantics.specs.Words.{here}
use Rattle.aom_static_bounds.specs.Prices.{Prices}
use Rattle.aom_termination.specs.Left.{closing_left, closings_left, is_session_with, sessions_left}
use Rattle.aom_termination.proofs.Pushed.{each_slot_released_same, field_no_session, moved_less, queue_less, redeemed_same}
use Rattle.aom_termination.proofs.Pushed.{request_updated_same, session_updated_same, stored_same, without_less}

-- below that depth the same cells go, and with no server there are more sessions
pub record Lasts (depth : ℕ) (cs us : List Cell) : Type 0 where
  pub going : (k : ℕ) → k < depth → held us (Going k) ≡ held cs (Going k)
  pub sessions : (c : Prices) (n : ℕ) → sessions_left c n us ≤ sessions_left c n cs

pub lasts_below : (m n : ℕ) (cs us : List Cell) → m ≤ n → Lasts n cs us → Lasts m cs us
lasts_below m n cs us le h = record { going = λ k lt. h.going k (omega (arith, le, lt)); sessions = h.sessions }

module _ (p : Image) (c : Prices) (cs us : List Cell) where
  pub closing_less : (o : Option Object) → ((n : ℕ) → sessions_left c n us ≤ sessions_left c n cs) → closing_left p c us o ≤ closing_left p c cs o
  closing_less None h = omega arith
  closing_less (Some o) h = omega (arith, h o.name)

  pub lasting : (ts : List Task) → Lasts (length ts) cs us → closings_left p c us ts ≤ closings_left p c cs ts
  lasting [] h = omega arith
  lasting (Closing ∷ ts) h = grind (arith, nat_tests, lasts_below, lasting ts, closing_less, h.sessions c)
  lasting (_ ∷ ts) h = lasting ts (lasts_below _ _ cs us (omega arith) h)

-- the methods over the trap end
pub to_trap_closings : (p : Image) (c : Prices) (cs : List Cell) (ts : List Task) → closings_left p c cs (to_trap ts) ≡ closings_left p c cs ts
to_trap_closings p c cs (Run fr ∷ ts) = to_trap_closings p c cs ts
to_trap_closings p c cs _ = refl

-- what waited goes on
pub resumed_closings : (p : Image) (c : Prices) (cs : List Cell) (ts : List Task) → closings_left p c cs (resumed ts) ≡ closings_left p c cs ts
resumed_closings p c cs x = grind arith

-- ---- changes of the cells

pub lasts_itself : (depth : ℕ) (cs : List Cell) → Lasts depth cs cs
lasts_itself depth cs = record { going = λ k lt. refl; sessions = λ c n. omega arith }

pub lasts_then : (depth : ℕ) (cs us vs : List Cell) → Lasts depth cs us → Lasts depth us vs → Lasts depth cs vs
lasts_then depth cs us vs a b = record { going = λ k lt. b.going k lt ∙ a.going k lt; sessions = λ c n. omega (arith, a.sessions c n, b.sessions c n) }

-- a place that is none of a cell that goes below that depth
abbrev pub IsApart : ℕ → Place → Type 0
IsApart depth r = (k : ℕ) → k < depth → same_place r (Going k) ≡ false

pub going_apart : (depth n : ℕ) → depth ≤ n → IsApart depth (Going n)
going_apart depth n le k lt = ap (λ b. b && (0 == 0)) (ne_eqb n k (λ e. absurd (omega (arith, le, lt, e))))

pub lasts_moved : (depth : ℕ) (from to : Place) (cs : List Cell) → IsApart depth from → IsApart depth to → ((n : ℕ) → is_session_with n to ≡ false) →
    Lasts depth cs (moved from to cs)
lasts_moved depth from to cs a b none = record {
  going = λ k lt. held_elsewhere cs from to (Going k) (b k lt) ∙ ap (λ x. cond x None (held cs (Going k))) (a k lt);
  sessions = λ c n. moved_less c (is_session_with n) from to cs (none n);
}

pub lasts_without : (depth : ℕ) (from : Place) (cs : List Cell) → IsApart depth from → Lasts depth cs (without from cs)
lasts_without depth from cs a = record {
  going = λ k lt. held_without cs from (Going k) ∙ ap (λ x. cond x None (held cs (Going k))) (a k lt);
  sessions = λ c n. without_less c (is_session_with n) from cs;
}

lasts_asked : (depth : ℕ) (cs : List Cell) (h : Receiver) (r : Option Request) → Lasts depth cs (request_updated cs h r)
lasts_asked depth cs h r = record { going = λ k lt. (request_updated_alike cs h r).held_so (Going k); sessions = grind (arith, nat_tests, request_updated_same) }

lasts_redeemed : (depth : ℕ) (order : Option ℕ) (code : ℤ) (cs : List Cell) → Lasts depth cs (redeemed_by order code cs)
lasts_redeemed depth order code cs = record { going = λ k lt. (redeemed_by_alike order code cs).held_so (Going k); sessions = λ c n. omega (arith, redeemed_same c (is_session_with n) order code cs) }

pub lasts_ended : (depth : ℕ) (p : Image) (fr : Frame) (cs : List Cell) → Lasts depth cs (ended_cells p fr cs)
lasts_ended depth p fr cs = grind (arith, nat_tests, lasts_asked depth cs fr.receiver, lasts_itself depth cs)

module _ (depth : ℕ) (p : Image) (fr : Frame) (ts : List Task) (s : State) where
  spot_apart : (x : Spot) → IsApart depth (spot_place p fr ts s x)
  spot_apart x k lt = grind (arith, nat_tests)

  spot_no_session : (x : Spot) (n : ℕ) → is_session_with n (spot_place p fr ts s x) ≡ false
  spot_no_session x n = grind (arith, nat_tests, field_no_session n fr.receiver)

  pub lasts_update : (u : Update) → Lasts depth s.cells (cells_after p fr ts s u)
  lasts_update (Carried from to) =
      lasts_moved depth (spot_place p fr ts s from) (spot_place p fr ts s to) s.cells (spot_apart from) (spot_apart to) (spot_no_session to)
  lasts_update (Made name x a) = record { going = λ k lt. refl; sessions = λ c n. omega arith }
  lasts_update (Written w v) =
      record { going = λ k lt. grind (arith, nat_tests, held_set_word); sessions = λ c n. omega (arith, stored_same c (is_session_with n) s.cells fr.receiver w v) }
  lasts_update (Requested r) = lasts_asked depth s.cells fr.receiver r
  lasts_update (Sessioned b) = record {
    going = λ k lt. (session_updated_alike s.cells fr.receiver b).held_so (Going k);
    sessions = λ c n. omega (arith, session_updated_same c (is_session_with n) s.cells fr.receiver b);
  }
  lasts_update (Pushed a) = lasts_moved depth (here fr ts s a) (Entry (length s.items)) s.cells (λ k lt. refl) (λ k lt. refl) (λ n. refl)
  lasts_update (Popped a) = lasts_moved depth (top_place s.items) (here fr ts s a) s.cells (λ k lt. refl) (λ k lt. refl) (λ n. refl)
  lasts_update (Replied a code) = grind (arith, nat_tests, lasts_then depth s.cells, lasts_redeemed depth, lasts_without depth)
  lasts_update (Handed name a) =
      let r = on_request (promised (next_token s.cells)) (own_request s.cells fr.receiver) in
      record { going = (lasts_asked depth s.cells fr.receiver r).going; sessions = λ c n. omega (arith, (lasts_asked depth s.cells fr.receiver r).sessions c n) }
  lasts_update _ = lasts_itself depth s.cells

  pub lasts_passed : (to_depth : ℕ) (xs : List Argument) (first to : ℕ) (cs : List Cell) → Lasts depth cs (passed_cells p fr ts s to_depth xs first to cs)
  lasts_passed to_depth [] first to cs = lasts_itself depth cs
  lasts_passed to_depth (Takes_word ∷ xs) first to cs = lasts_passed to_depth xs (suc first) (suc to) cs
  lasts_passed to_depth (Takes_own t ∷ xs) first to cs = grind (arith, nat_tests, lasts_then depth cs, lasts_moved depth, lasts_passed to_depth xs)

  pub lasts_result : (g : Gives) (a x : ℕ) (below : List Task) → Lasts depth s.cells (result_cells p fr ts s g a x below)
  lasts_result x a y below = grind (arith, nat_tests, lasts_moved depth, lasts_itself depth s.cells)

-- ---- a cell goes, with what waits in its queue

held_slot_released : (client : ℕ) (cs : List Cell) (q : Place) → held (all_slot_released client cs) q ≡ held cs q
held_slot_released client [] q = refl
held_slot_released client (x ∷ cs) q = ap (λ o. cond (same_place x.owner q) (Some x.object) o) (held_slot_released client cs q)

held_each : (clients : List ℕ) (cs : List Cell) (q : Place) → held (each_slot_released clients cs) q ≡ held cs q
held_each [] cs q = refl
held_each (k ∷ clients) cs q = held_each clients (all_slot_released k cs) q ∙ held_slot_released k cs q

going_queue : (n k : ℕ) (cs : List Cell) → held (without_queue n cs) (Going k) ≡ held cs (Going k)
going_queue n k cs = ap (λ l. held l (Going k)) (queue_dropped n cs) ∙ held_dropped (is_queue_of n) cs (Going k)

pub lasts_gone : (n name : ℕ) (clients : List ℕ) (cs : List Cell) → Lasts n cs (each_slot_released clients (without (Going n) (without_queue name cs)))
lasts_gone n name clients cs =
    let queued = without_queue name cs in
    let gone = without (Going n) queued in
    lasts_then n cs queued _ (record { going = λ k lt. going_queue name k cs; sessions = λ c m. queue_less c (is_session_with m) name cs })
    (lasts_then n queued gone _ (lasts_without n (Going n) queued (going_apart n n (omega arith)))
    (record { going = λ k lt. held_each clients gone (Going k); sessions = λ c m. omega (arith, each_slot_released_same c (is_session_with m) clients gone) }))
