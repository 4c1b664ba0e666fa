-- A run can always be brought to an end: each move lowers the rank, turns take of what is left, and there are only so many dispatches of objects.
use Rattle.std.proofs.lemmas.Bool.Decides.{nat_tests}
use Rattle.std.proofs.Common.{◌≡◌, ℕ, zero, suc, ◌+◌, ◌-◌, ◌^◌, ◌<◌, ◌≤◌, List, [], ◌∷◌, ◌++◌, Option}
use Rattle.std.proofs.Common.{Some, None, ap, refl, sym, ◌∙◌, arith, append-nil, append_assoc, pos}
use Rattle.std.proofs.Math.Facts.{sfits_lit}
use Rattle.std.proofs.lemmas.Bool.{ne_eqb}
use Rattle.aom_image.specs.Image.{Image}
use Rattle.aom_link_conditions.specs.Linked.{IsLinked}
use Rattle.aom_typing_rules.specs.Typing.{Typing, IsTyped}
use Rattle.aom_determinism.proofs.SafetyLemmas.{answers, boot_keeps, clients_keep, commanded_kept, goes_same, nothing, polled_rest, polled_so, step_keeps}
use Rattle.aom_determinism.proofs.SafetyLemmas.{turn_goes_on, well_on}
use Rattle.aom_safety.specs.Kept.{StateInvariant}
use Rattle.aom_safety.specs.Laws.{IsWired}
use Rattle.aom_semantics.specs.Places.{Cell, named}
use Rattle.aom_semantics.specs.State.{Task, State, Choice, Goes}
use Rattle.aom_semantics.specs.Moves.{step, written, is_refused, IsOpen}
use Rattle.aom_safety.specs.WellTyped.{WellTyped}
use Rattle.aom_semantics.specs.World.{AnswersWell, boot_state, Completion, Observed, ObservesWell, Environment, Reaches, Timed, Turning, by_event}
use Rattle.aom_semantics.specs.World.{by_timer, moves, polled, turn, turned, turning, turns, IsBusy, written_turn, IsBetween}
use Rattle.aom_transcript.specs.declared.event.TimedEvent.{TimedEvent}
use Rattle.aom_transcript.specs.declared.line.Line.{Line}
use Rattle.aom_transcript.specs.declared.line.Ending.{Ending}
use Rattle.aom_transcript.specs.declared.line.Ending.TheVariants.{Limit, Waiting}
use Rattle.aom_termination.specs.Ranks.{rank}
use Rattle.aom_determinism.proofs.TerminationLemmas.{leads_on, moves_lower_ranks}
use Rattle.aom_determinism.proofs.Sorts.{Kind, completes_one, cuts, observes_one, kills_one, kind_of, executes_one, passes_on, picks_one, polls_one, strays, waits}
use Rattle.aom_determinism.proofs.Remainders.{detached_no_more, commanded_no_more, completed_fewer, completed_no_more, event_there, events_left}
use Rattle.aom_determinism.proofs.Remainders.{fewer_left, later_left, left, natives_left, no_more_left, passed_late, timers_in}
use Rattle.aom_determinism.proofs.Spending.{moved_spares, picked_spares}
use Rattle.aom_determinism.specs.Endings.{CanEnd, RunsCanEnd, spare}

-- a number above all names
pub top : List Cell → ℕ
top [] = 0
top (c ∷ cs) = c.object.name + 1 + top cs

pub above : (cs : List Cell) (n : ℕ) → top cs ≤ n → named cs n ≡ None
unfolding top
above [] n h = refl
above (c ∷ cs) n h = grind (arith, nat_tests, ne_eqb c.object.name n, above cs n)

-- nothing is heard, with a free name
abbrev quiet : State → Observed
quiet s = record { completion = None; name = top s.cells }

-- a native that is polled may complete nothing
module _ (p : Image) (outside : Environment) (s : State) where
  event_well : (name : ℕ) (next : Option TimedEvent) (after : Turning) → AnswersWell p s after → AnswersWell p s (by_event outside name s next after)
  event_well name x after then = grind (arith, nat_tests)

  timer_well : (next : Option Timed) (after : Turning) → AnswersWell p s after → AnswersWell p s (by_timer s next after)
  timer_well x after then = grind arith

  completes_nothing : AnswersWell p s (turning outside (quiet s) s)
  completes_nothing = grind (arith, nat_tests, top s.cells, timer_well, event_well (top s.cells))

  observes_nothing : ObservesWell p outside (quiet s) s
  observes_nothing = record { completion = completes_nothing; name = above s.cells (top s.cells) (omega arith) }

-- a poll starts no timer, and nothing comes to be at hand
polled_no_more : (p : Image) (s u : State) (n : ℕ) (answer : Option Completion) → polled p n answer s ≡ Goes u → timers_in u.cells ≤ timers_in s.cells
polled_no_more p s u n answer e = grind (arith, nat_tests, polled_so p s u n answer e, timers_in s.cells, nothing, answers, completed_no_more)

polled_tasks : (p : Image) (s u : State) (n : ℕ) (answer : Option Completion) → polled p n answer s ≡ Goes u → u.tasks ≡ s.tasks
polled_tasks p s u n answer e = grind (arith, nat_tests, polled_so p s u n answer e, nothing, answers)

module _ (p : Image) (t : Typing) (outside : Environment) (few : outside.limit ≤ 2 ^ 64 - 1) (wired : IsWired p) (linked : IsLinked p) (is_typed : IsTyped p t) where
  -- an open choice
  choice : State → Choice
  choice s = record { name = top s.cells; refused = is_refused p outside.refused s; answer = pos 0 }

  is_open : (s : State) → IsOpen p outside.refused (choice s) s
  unfolding choice
  is_open s = record { name = above s.cells (top s.cells) (omega arith); refusal = refl; answer = sfits_lit tt }

  abbrev Reached : List Line → State → Type 0
  Reached lines s = Reaches p outside (boot_state p) lines s

  -- each run that has come so far can be brought to an end, where there may be fewer dispatches than that
  abbrev Ends : ℕ → Type 0
  Ends n = (lines : List Line) (s : State) → spare outside.limit s < n → Reached lines s → WellTyped p t s → CanEnd p outside lines

  -- what clients are at is kept
  kept : (lines : List Line) (s : State) → Reached lines s → StateInvariant p s
  kept lines s r = (well_on p t outside wired is_typed (boot_state p) (boot_keeps p t wired is_typed, clients_keep.boot p) lines s r).1

  -- the run is over: no more lines
  over : (lines : List Line) (s : State) (ending : Ending) → Reached lines s → s.rest.ended ≡ Some ending → CanEnd p outside lines
  over lines s ending r e = record { more = []; last = s; ending = ending; run = record { reaches = rw (append-nil lines) r; ended = e } }

  -- lines of a move, and then more
  further : (lines now : List Line) → CanEnd p outside (lines ++ now) → CanEnd p outside lines
  further lines now c = record { more = now ++ c.more; last = c.last; ending = c.ending; run = rw (append_assoc lines now c.more) at c.run }

  -- ---- turns

  -- between dispatches, with so little left, and so few natives to poll
  abbrev Between : ℕ → ℕ → ℕ → Type 0
  Between n k j = (lines : List Line) (s : State) →
      left outside s < k → natives_left outside s < j → spare outside.limit s < suc n → Reached lines s → WellTyped p t s → IsBetween s → CanEnd p outside lines

  -- a turn after which nothing is at hand, and the run goes on
  module _ (s u : State) (tasks : u.tasks ≡ s.tasks) (dispatches : u.rest.dispatches ≡ s.rest.dispatches) (ended : u.rest.ended ≡ s.rest.ended) where
    still_between : IsBetween s → IsBetween u
    still_between between = record { idle = tasks ∙ between.idle; going = ended ∙ between.going }

    still_spare : spare outside.limit u ≡ spare outside.limit s
    still_spare = grind (arith, nat_tests)

  -- less is left
  less_left : (n k : ℕ) → ((j : ℕ) → Between n k j) → (lines : List Line) (s u : State) → left outside s ≤ k → left outside u < left outside s →
      spare outside.limit s < suc n → u.tasks ≡ s.tasks → u.rest.dispatches ≡ s.rest.dispatches → u.rest.ended ≡ s.rest.ended → IsBetween s → Reached lines u →
      WellTyped p t u → CanEnd p outside lines
  less_left n k again lines s u most falls spares tasks dispatches ended between r typed =
      again (suc (natives_left outside u)) lines u (omega (arith, falls, most))
      (omega arith) (omega (arith, still_spare s u tasks dispatches ended, spares)) r typed (still_between s u tasks dispatches ended between)

  by_kind : (n k j : ℕ) → Ends n → ((j : ℕ) → Between n k j) → Between n (suc k) j →
      (lines : List Line) (s : State) → left outside s ≤ k → natives_left outside s ≤ j → spare outside.limit s < suc n → WellTyped p t s →
      IsBetween s → (x : Turning) → Kind outside s x → (u : State) → turned p s x ≡ Goes u → Reached lines u → WellTyped p t u → CanEnd p outside lines
  by_kind n k j ends again polling lines s most few_natives spares w between _ cuts u goes r typed = grind (arith, nat_tests, over lines u Limit r, goes_same)
  by_kind n k j ends again polling lines s most few_natives spares w between _ waits u goes r typed =
      over lines u Waiting r (ap (λ (v : State). v.rest.ended) (sym (goes_same _ u goes)))
  by_kind n k j ends again polling lines s most few_natives spares w between _ strays u goes r typed = cc
  by_kind n k j ends again polling lines s most few_natives spares w between _ (completes_one x first) u goes r typed =
      let same = sym (goes_same _ u goes) in
      let timers = completed_fewer (pos 0) s.cells w.good.no_duplicates x first in
      let falls = fewer_left outside s u (omega (arith, timers, ap (λ (v : State). timers_in v.cells) same, ap (λ (v : State). events_left outside v) same)) in
      less_left n k again lines s u most falls spares (ap (λ (v : State). v.tasks) same) (ap (λ (v : State). v.rest.dispatches) same)
      (ap (λ (v : State). v.rest.ended) same) between r typed
  by_kind n k j ends again polling lines s most few_natives spares w between _ (observes_one e next) u goes r typed = grind (
    arith,
    nat_tests,
    goes_same,
    event_there outside.events s.rest.delivered e next,
    fewer_left outside s u,
    timers_in,
    less_left n k again lines s u most,
  )
  by_kind n k j ends again polling lines s most few_natives spares w between _ (kills_one e native next) u goes r typed = grind (
    arith,
    nat_tests,
    goes_same,
    event_there outside.events s.rest.delivered e next,
    detached_no_more p native s.cells,
    fewer_left outside s u,
    timers_in,
    less_left n k again lines s u most,
  )
  by_kind n k j ends again polling lines s most few_natives spares w between _ (executes_one e c command name next) u goes r typed = grind (
    arith,
    nat_tests,
    goes_same,
    commanded_kept p c,
    event_there outside.events s.rest.delivered e next,
    commanded_no_more p c,
    fewer_left outside s u,
    timers_in,
    less_left n k again lines s u most,
  )
  by_kind n k j ends again polling lines s most few_natives spares w between _ (passes_on time next early) u goes r typed =
      grind (arith, nat_tests, goes_same, passed_late outside s u time next, later_left outside s u, timers_in, less_left n k again lines s u most)
  by_kind n k j ends again polling lines s most few_natives spares w between _ (picks_one x below) u goes r typed =
      grind (arith, nat_tests, picked_spares p outside.limit s u x.owned_object below between.idle goes)
  by_kind n k j ends again polling lines s most few_natives spares w between _ (polls_one native answer from to early) u goes r typed = grind (
    arith,
    nat_tests,
    polled_rest p s u native answer goes,
    polled_no_more p s u native answer goes,
    kept,
    no_more_left outside s u,
    polled_tasks p s u native answer goes,
    still_spare s u,
    still_between s u,
  )

  by_turns : (n k j : ℕ) → Ends n → Between n k j
  by_turns n (suc k) (suc j) ends lines s less few_natives spares r w between =
      let owed = observes_nothing p outside s in
      let observed = quiet s in
      let next = leads_on p t (turn p outside observed s) (turn_goes_on p t outside wired is_typed observed s w between owed (kept lines s r).fit) in
      further lines (written_turn p outside s) (by_kind n k j ends (λ i. by_turns n k i ends)
      (by_turns n (suc k) j ends) (lines ++ written_turn p outside s) s (omega (arith, less)) (omega (arith, few_natives)) spares w between
      (turning outside observed s) (kind_of outside s observed) next.0 next.1 (turns observed r between owed next.1) next.2)
  by_turns n x j ends lines s less few_natives spares r w between = grind arith

  -- ---- moves

  by_move : (n k : ℕ) → ((lines : List Line) (s : State) → rank p s < k → spare outside.limit s < n → Reached lines s → WellTyped p t s → CanEnd p outside lines)
      → (lines : List Line) (s : State) → rank p s ≤ k → spare outside.limit s < n → Reached lines s → WellTyped p t s → IsBusy s → CanEnd p outside lines
  by_move n k again lines s less spares r w busy =
      let free = is_open s in
      let next = leads_on p t (step p (choice s) s) (step_keeps p t wired is_typed (choice s) s w free.name) in
      let lower = moves_lower_ranks p t linked is_typed (choice s) s next.0 w busy next.1 in
      let kept = moved_spares p outside.limit few (choice s) s next.0 next.1 in
      further lines (written p s)
      (again (lines ++ written p s) next.0 (omega (arith, lower, less)) (omega (arith, kept, spares)) (moves (choice s) r busy free next.1) next.2)

  by_tasks : (n : ℕ) → Ends n → (ts : List Task) (lines : List Line) (s : State) → s.tasks ≡ ts →
      s.rest.ended ≡ None → spare outside.limit s < suc n → Reached lines s → WellTyped p t s → (IsBusy s → CanEnd p outside lines) → CanEnd p outside lines
  by_tasks n ends [] lines s none going spares r w busy = by_turns n
      (suc (left outside s)) (suc (natives_left outside s)) ends lines s (omega arith) (omega arith) spares r w (record { idle = none; going = going })
  by_tasks n ends (task ∷ tasks) lines s is going spares r w busy = busy (task, tasks, is)

  by_end : (n : ℕ) → Ends n → (e : Option Ending) (lines : List Line) (s : State) →
      s.rest.ended ≡ e → spare outside.limit s < suc n → Reached lines s → WellTyped p t s → (IsBusy s → CanEnd p outside lines) → CanEnd p outside lines
  by_end n ends None lines s going spares r w busy = by_tasks n ends s.tasks lines s refl going spares r w busy
  by_end n ends (Some ending) lines s ended spares r w busy = over lines s ending r ended

  by_moves : (n k : ℕ) → Ends n → (lines : List Line) (s : State) → rank p s < k → spare outside.limit s < suc n → Reached lines s →
      WellTyped p t s → CanEnd p outside lines
  by_moves n zero ends lines s less spares r w = absurd (omega (arith, less))
  by_moves n (suc k) ends lines s less spares r w =
      by_end n ends s.rest.ended lines s refl spares r w (λ busy. by_move (suc n) k (by_moves n k ends) lines s (omega (arith, less)) spares r w busy)

  ends_all : (n : ℕ) → Ends n
  ends_all zero lines s spares r w = absurd (omega (arith, spares))
  ends_all (suc n) lines s spares r w = by_moves n (suc (rank p s)) (ends_all n) lines s (omega arith) spares r w

pub runs_can_end : RunsCanEnd
runs_can_end p t outside few wired linked is_typed lines s r w =
    ends_all p t outside few wired linked is_typed (suc (spare outside.limit s)) lines s (omega arith) r w
