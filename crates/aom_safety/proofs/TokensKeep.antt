-- No two requests wait for one token and no two tokens have one order, in each state of a run: only `hand` brings an order, and a new one.
use Rattle.std.proofs.lemmas.Bool.Decides.{nat_tests}
use Rattle.std.proofs.Common.{Bool, List, None, Option, Some, [], arith, length, refl, subst, suc, sym, ℕ, ℤ, ⊎_elim, ◌∷◌, ◌≡◌}
use Rattle.std.proofs.lemmas.Option.{none-some}
use Rattle.aom_image.specs.Image.{Image}
use Rattle.aom_image.specs.Views.{arguments_of}
use Rattle.aom_image.specs.declared.method.Argument.{Argument}
use Rattle.aom_image.specs.declared.method.Argument.TheVariants.{Own as Takes_own, Word as Takes_word}
use Rattle.aom_image.specs.declared.method.Gives.{Gives}
use Rattle.aom_clients.specs.declared.client.Client.{Client}
use Rattle.aom_clients.specs.declared.refusal.CommandRefusal.{CommandRefusal}
use Rattle.aom_instructions.specs.declared.instr.Instr.{Instr}
use Rattle.aom_transcript.specs.declared.event.ClientCommand.{ClientCommand}
use Rattle.aom_roles.specs.Tests.{AllTrue}
use Rattle.aom_safety.proofs.Apart.{handed_apart, redeemed_by_apart}
use Rattle.aom_safety.proofs.ClientsEffects.{Fine, IsAnswer, IsCompleting, fewer_on, fine_effect}
use Rattle.aom_safety.proofs.ClientsMoves.{IsSteady}
use Rattle.aom_safety.proofs.Guarded.{acts_at}
use Rattle.aom_safety.proofs.Moving.{steps_are_moves}
use Rattle.aom_safety.proofs.Orders.{NoneComes, apart_still, comes_asked, comes_detached, comes_gone, comes_itself, comes_more, comes_moved}
use Rattle.aom_safety.proofs.Orders.{comes_opened, comes_requested, comes_served, comes_stored, comes_then, comes_withdrawn, comes_without}
use Rattle.aom_safety.proofs.Redeeming.{redeemed_by_alike}
use Rattle.aom_safety.proofs.Turned.{accepts, attends, completes, handles, keeps_all, kills, executes, parts, picks, turns_so}
use Rattle.aom_semantics.specs.Calls.{accepted_cells, passed_cells, result_cells, returned}
use Rattle.aom_semantics.specs.Cleanup.{top_place}
use Rattle.aom_semantics.specs.Clients.{Listed, client_at, commanded, connecting, leaving, sending, reported}
use Rattle.aom_semantics.specs.Destruction.{first_session, parting}
use Rattle.aom_semantics.specs.Effects.{Calls, Cancels, Carried, Destroys, Destroys_last, Effect, Goes_on, Handed, Leaves, Made, Popped, Pushed, Replied}
use Rattle.aom_semantics.specs.Effects.{Requested, Returns, Sessioned, Sets_trap, Update, Written, applied, cells_after, effect, needs, spot_place}
use Rattle.aom_semantics.specs.Requests.{completed_with, ended_cells, on_request}
use Rattle.aom_semantics.specs.Moves.{answered, counted, dispatch_ends, handled, main_ends, object_ends, step}
use Rattle.aom_semantics.specs.Places.{Cell, Elsewhere, Entry, Going, In_service, Object, Place, Queued, Request}
use Rattle.aom_semantics.specs.Places.{Root, Session, NoDuplicates, held, moved, named, requested, service_of, without}
use Rattle.aom_semantics.specs.Servers.{opened, parted, reserved, taken_first, withdrawn}
use Rattle.aom_semantics.specs.State.{Accepts, Answered, Asks, Choice, Dispatch, Frame, Goes, Object_left, Of_main}
use Rattle.aom_semantics.specs.State.{Of_object, Of_server, Disconnects, OwnedObject, Service_left, State, Task}
use Rattle.aom_safety.specs.Steps.{Acts, Arrives, Clears, Comes_out, Empties, Ends, Move, Rests, Undoes, Reclaims}
use Rattle.aom_semantics.specs.Tokens.{TokensApart, redeemed_by, token_of}
use Rattle.aom_semantics.specs.Words.{here}
use Rattle.aom_semantics.specs.World.{Observed, Environment, observed_one, taken_from, turn, with_request}

-- ---- an update

module _ (p : Image) (fr : Frame) (ts : List Task) (s : State) (no_duplicates : NoDuplicates s.cells) (apart : TokensApart s.cells) where
  still : (us : List Cell) → NoneComes s.cells us → TokensApart us
  still us none = apart_still s.cells us none apart

  apart_updated : (u : Update) → IsSteady fr s u → TokensApart (cells_after p fr ts s u)
  apart_updated (Carried from to) f = still _ (comes_moved s.cells (spot_place p fr ts s from) (spot_place p fr ts s to))
  apart_updated (Made name class a) f = still _ (comes_more _ s.cells refl refl)
  apart_updated (Written w v) f = still _ (comes_stored s.cells fr.receiver w v)
  apart_updated (Requested r) f = still _ (comes_requested s.cells fr.receiver r f.1)
  apart_updated (Sessioned session) f = still _ (comes_opened s.cells fr.receiver session)
  apart_updated (Pushed a) f = still _ (comes_moved s.cells (here fr ts s a) (Entry (length s.items)))
  apart_updated (Popped a) f = still _ (comes_moved s.cells (top_place s.items) (here fr ts s a))
  apart_updated (Replied a code) f = absurd f
  apart_updated (Handed name a) f = handed_apart name fr.receiver (here fr ts s a) s.cells apart
  apart_updated _ f = apart

  apart_replied : (a : ℕ) (code : ℤ) → TokensApart (cells_after p fr ts s (Replied a code))
  apart_replied a code =
      let order = token_of s.cells (held s.cells (here fr ts s a)) in
      let cs = redeemed_by order code s.cells in
      apart_still cs (without (here fr ts s a) cs) (comes_without cs ((redeemed_by_alike order code s.cells).no_duplicates no_duplicates) (here fr ts s a))
      (redeemed_by_apart order code s.cells apart)

-- ---- an effect

module _ (p : Image) (fr : Frame) (ts : List Task) (s : State) where
  comes_passed : (depth : ℕ) (xs : List Argument) (first to : ℕ) (cs : List Cell) → NoneComes cs (passed_cells p fr ts s depth xs first to cs)
  comes_passed depth [] first to cs = comes_itself cs
  comes_passed depth (Takes_word ∷ xs) first to cs = comes_passed depth xs (suc first) (suc to) cs
  comes_passed depth (Takes_own t ∷ xs) first to cs = grind (arith, nat_tests, comes_then cs, comes_moved cs, comes_passed depth xs)

  comes_result : (g : Gives) (a x : ℕ) (below : List Task) → NoneComes s.cells (result_cells p fr ts s g a x below)
  comes_result x a y below = grind (arith, nat_tests, comes_itself s.cells, comes_moved s.cells)

  comes_accepted : (d : Dispatch) (from : Place) → NoneComes s.cells (accepted_cells d from s.cells)
  comes_accepted (Of_server x client Accepts) from =
      let us = moved from (Elsewhere (Session x.object.name client)) s.cells in
      comes_then s.cells us (reserved (opened client) x.object.name us) (comes_moved s.cells from (Elsewhere (Session x.object.name client)))
      (comes_served us x.object.name (opened client (service_of us x.object.name)) refl)
  comes_accepted _ from = comes_itself s.cells

  comes_returned : (g : Gives) (a : ℕ) (below : List Task) → NoneComes s.cells (returned p fr ts s g a below).cells
  comes_returned g a x = grind (arith, nat_tests, comes_result g a, comes_accepted, comes_itself s.cells)

  comes_ended : NoneComes s.cells (ended_cells p fr s.cells)
  comes_ended = grind (arith, nat_tests, NoneComes s.cells, comes_requested s.cells fr.receiver, fewer_on, comes_itself s.cells)

module _ (p : Image) (fr : Frame) (ts : List Task) (s : State) (no_duplicates : NoDuplicates s.cells) (apart : TokensApart s.cells) where
  apart_applied : (e : Effect) → Fine fr s e → TokensApart (applied p fr ts s e).cells
  apart_applied (Goes_on ch) f = apart_updated p fr ts s no_duplicates apart ch.update f
  apart_applied (Leaves code u) f = apart_updated p fr ts s no_duplicates apart u f
  apart_applied (Calls target m first) f = still p fr ts s no_duplicates apart _ (comes_passed p fr ts s _ (arguments_of p m) first 0 s.cells)
  apart_applied (Sets_trap target m first) f = still p fr ts s no_duplicates apart _ (comes_passed p fr ts s _ (arguments_of p m) first 0 s.cells)
  apart_applied (Cancels m) f = grind (arith, nat_tests, still p fr ts s no_duplicates apart, comes_requested s.cells fr.receiver, fewer_on)
  apart_applied (Returns g a) f = absurd f
  apart_applied (Destroys o a words) f = still p fr ts s no_duplicates apart _ (comes_moved s.cells (here fr ts s a) (Going (suc (length ts))))
  apart_applied (Destroys_last o) f = still p fr ts s no_duplicates apart _ (comes_moved s.cells (top_place s.items) (Going (suc (length ts))))
  apart_applied _ f = apart

  apart_completed : (u : Update) → IsCompleting p fr ts s u → TokensApart (cells_after p fr ts s u)
  apart_completed (Replied a code) met = apart_replied p fr ts s no_duplicates apart a code
  apart_completed _ met = absurd met

  apart_answered : (e : Effect) → IsAnswer p fr ts s e → TokensApart (applied p fr ts s e).cells
  apart_answered (Goes_on ch) met = apart_completed ch.update met
  apart_answered (Returns g a) met = grind (arith, nat_tests, still p fr ts s no_duplicates apart, comes_then s.cells, comes_ended p fr ts s, comes_returned p fr ts)
  apart_answered _ met = absurd met

  apart_acted : (c : Choice) → named s.cells c.name ≡ None → (i : Instr) → AllTrue (needs p c fr ts s i) →
      TokensApart (applied p fr ts s (effect p c fr ts s i)).cells
  apart_acted c free i met = ⊎_elim (apart_applied (effect p c fr ts s i)) (apart_answered (effect p c fr ts s i)) (fine_effect p c fr ts s free i met)

-- ---- the other moves

comes_parting : (p : Image) (o : Object) (x : Option OwnedObject) (below : List Task) (s : State) → NoneComes s.cells (parting p o x below s).cells
comes_parting p o None below s = comes_itself s.cells
comes_parting p o (Some x) below s = comes_moved s.cells x.place _

comes_main : (p : Image) (s : State) (b : Bool) (root : Option Object) → NoneComes s.cells (main_ends p b root s).cells
comes_main p s x root = grind (arith, nat_tests, comes_moved s.cells (Elsewhere Root), comes_itself s.cells)

comes_object : (p : Image) (s : State) → NoneComes s.cells (object_ends p s).cells
comes_object p s = comes_main p (handled s) s.rest.stopped (held s.cells (Elsewhere Root))

comes_answered : (p : Image) (answer : ℤ) (s : State) → NoneComes s.cells (answered p answer s).cells
comes_answered p answer s = grind (arith, nat_tests, NoneComes s.cells, comes_object p s, comes_itself s.cells)

comes_dispatched : (p : Image) (d : Dispatch) (s : State) → NoDuplicates s.cells → NoneComes s.cells (dispatch_ends p d s).cells
comes_dispatched p Of_main s no_duplicates = comes_main p s s.rest.stopped (held s.cells (Elsewhere Root))
comes_dispatched p (Of_object x) s no_duplicates = comes_object p s
comes_dispatched p (Object_left x code) s no_duplicates = grind (arith, nat_tests, NoneComes s.cells, comes_answered p code s, comes_itself s.cells)
comes_dispatched p (Asks x) s no_duplicates = comes_object p s
comes_dispatched p (Answered x answer) s no_duplicates = comes_answered p answer s
comes_dispatched p (Of_server x client (Service_left code)) s no_duplicates = comes_without s.cells no_duplicates (Elsewhere In_service)
comes_dispatched p (Of_server x client Disconnects) s no_duplicates = comes_served s.cells x.object.name (parted client (service_of s.cells x.object.name)) refl
comes_dispatched p _ s no_duplicates = comes_itself s.cells

pub moved_apart : (p : Image) (c : Choice) (s u : State) → named s.cells c.name ≡ None → NoDuplicates s.cells → TokensApart s.cells →
    step p c s ≡ Goes u → TokensApart u.cells
moved_apart p c s u free no_duplicates apart e = of (steps_are_moves p c s u e)
  where
    v : State
    v = counted p s

    along : (w : State) → u ≡ w → TokensApart w.cells → TokensApart u.cells
    along w same h = subst (λ w. TokensApart w.cells) (sym same) h

    by : (w : State) → u ≡ w → NoneComes s.cells w.cells → TokensApart u.cells
    by w same none = along w same (apart_still s.cells w.cells none apart)

    of : Move p c s u → TokensApart u.cells
    of (Acts fr ts i x at there met may same) = let a = acts_at p c s u fr ts i at there e in along _ (sym a.1) (apart_acted p fr ts v no_duplicates apart c free i a.0)
    of (Reclaims ts o at there none same) = by _ same (comes_gone s.cells no_duplicates o.name (Going (length ts)) (service_of s.cells o.name).sessions)
    of (Empties ts o at there same) = by _ same (comes_parting p o (first_session s.cells o.name (service_of s.cells o.name).sessions) ts v)
    of (Clears code ts items o at top there same) = by _ same (comes_moved s.cells (Entry (length items)) _)
    of (Ends d ts at same) = by _ same (comes_dispatched p d v no_duplicates)
    -- the others change no cell
    of (Rests still same) = along _ same apart
    of (Undoes code ts items m w at top same) = along _ same apart
    of (Arrives code fr ts items at top same) = along _ same apart
    of (Comes_out code d ts items at top same) = along _ same apart

-- ---- turns

comes_completed : (cs : List Cell) (o : Object) (f : Request → Request) → ((r : Request) (k : ℕ) → (f r).token ≡ Some k → r.token ≡ Some k) →
    NoneComes cs (with_request f o cs)
comes_completed cs o f fewer = comes_asked cs o.name (on_request f (requested cs o.name)) (fewer_on f fewer (requested cs o.name))

module _ (p : Image) (client : ℕ) (s : State) (no_duplicates : NoDuplicates s.cells) where
  comes_connecting : (refused : Option CommandRefusal) (server : Option Listed) (slots : ℕ) → NoneComes s.cells (connecting p client s refused server slots).cells
  comes_connecting None (Some x) slots = comes_served s.cells x.name _ refl
  comes_connecting None None slots = comes_itself s.cells
  comes_connecting (Some r) server slots = comes_itself s.cells

  comes_sending : (refused : Option CommandRefusal) (c : Client) (name : ℕ) (words : List ℤ) → NoneComes s.cells (sending p client s refused c name words).cells
  comes_sending x y name words = grind (arith, nat_tests, comes_then s.cells, comes_served s.cells, comes_more, comes_itself s.cells)

  comes_reported : (c : Client) (cs : List Cell) → NoneComes cs (reported p client s c cs)
  comes_reported x cs = grind (arith, nat_tests, comes_served cs, comes_itself cs)

  comes_leaving : (to : Option Client) → NoneComes s.cells (leaving p client s to).cells
  comes_leaving None = comes_itself s.cells
  comes_leaving (Some to) =
      let us = withdrawn client s.cells in
      comes_then s.cells us (reported p client s (client_at s.clients client) us) (comes_withdrawn s.cells no_duplicates client) (comes_reported (client_at s.clients client) us)

  comes_commanded : (command : ClientCommand) (name : ℕ) → NoneComes s.cells (commanded p client s command name).cells
  comes_commanded x name = grind (arith, nat_tests, comes_connecting, comes_sending, comes_leaving)

comes_taken : (s : State) (n : ℕ) (from to : Place) → NoneComes s.cells (moved from to (taken_from n s).cells)
comes_taken s n from to =
    let us = (taken_from n s).cells in
    comes_then s.cells us (moved from to us) (comes_served s.cells n (taken_first (service_of s.cells n)) refl) (comes_moved us from to)

comes_turned : (p : Image) (outside : Environment) (observed : Observed) (s u : State) → NoDuplicates s.cells → turn p outside observed s ≡ Goes u → NoneComes s.cells u.cells
comes_turned p outside observed s u no_duplicates e = elim (turns_so p outside observed s u e) as (λ v d. NoneComes s.cells v.cells) [
  | keeps_all r ↦ comes_itself s.cells
  | completes code o r other ↦ comes_completed s.cells o (completed_with code) (λ r k e. absurd (none-some k e))
  | kills n r k ↦ comes_detached p n s.cells
  | executes client command name ↦ comes_commanded p client (observed_one s) no_duplicates command name
  | picks x v d ↦ elim d as (λ v d. NoneComes s.cells v.cells) [
    | handles m at ↦ comes_completed s.cells x.object _ (λ r k e. e)
    | accepts client m at ↦ comes_served s.cells x.object.name (taken_first (service_of s.cells x.object.name)) refl
    | attends client message m o there at ↦ comes_taken s x.object.name (Elsewhere (Queued x.object.name message)) (Elsewhere In_service)
    | parts client o there ↦ comes_taken s x.object.name (Elsewhere (Session x.object.name client)) (Going 1)
  ]
]

pub turned_apart : (p : Image) (outside : Environment) (observed : Observed) (s u : State) → NoDuplicates s.cells → TokensApart s.cells →
    turn p outside observed s ≡ Goes u → TokensApart u.cells
turned_apart p outside observed s u no_duplicates apart e = apart_still s.cells u.cells (comes_turned p outside observed s u no_duplicates e) apart

-- ---- as it boots

pub boot_apart : TokensApart []
boot_apart = record { waits = λ n m k a b. absurd (none-some k a); reported = λ n m k a b. absurd (none-some k a) }
