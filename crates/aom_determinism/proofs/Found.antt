-- The cell that a turn is about: whose timer is due, that is ready, or that stands at a place.
use Rattle.std.proofs.lemmas.Bool.Decides.{nat_tests}
use Rattle.std.proofs.Common.{arith, Bool, List, None, Option, Some, [], ap, cond, false, refl, subst, suc, true, zero, ℕ, ℤ, ◌==◌, ◌∙◌, ◌∷◌, ◌≡◌}
use Rattle.std.proofs.lemmas.Bool.{eq-eqb, ne_eqb}
use Rattle.std.specs.Prelude.{◌||◌}
use Rattle.aom_semantics.specs.Places.{Cell, Object, Phase, Request, NoDuplicates, Timer, named, requested, service_of}
use Rattle.aom_semantics.specs.Servers.{has_more}
use Rattle.aom_semantics.specs.State.{State}
use Rattle.aom_semantics.specs.World.{Candidate, Completes, Observed, Executes, Environment, Picks, Timed, Turning, among_ready, among_timers, before_others}
use Rattle.aom_semantics.specs.World.{by_event, by_timer, cell_at, first_due, first_ready, goes_before, goes_now, has_signal, is_ready, is_sooner}
use Rattle.aom_semantics.specs.World.{lives, next_event, next_native, next_time, picks, polls, sooner, turning}
use Rattle.aom_transcript.specs.declared.event.TimedEvent.{TimedEvent}

-- that object is there, with that request
pub record IsCell (cs : List Cell) (o : Object) (r : Option Request) : Type 0 where
  pub lives : named cs o.name ≡ Some o
  pub asked : requested cs o.name ≡ r

is_first : (c : Cell) (cs : List Cell) → IsCell (c ∷ cs) c.object c.request
is_first c cs = record {
  lives = ap (λ b. cond b (Some c.object) (named cs c.object.name)) (eq-eqb c.object.name c.object.name refl);
  asked = ap (λ b. cond b c.request (requested cs c.object.name)) (eq-eqb c.object.name c.object.name refl);
}

-- of another name
is_apart : (c : Cell) (cs : List Cell) (o : Object) → NoDuplicates (c ∷ cs) → named cs o.name ≡ Some o → (c.object.name == o.name) ≡ false
is_apart c cs o no_duplicates lives = grind (arith, nat_tests, ne_eqb c.object.name o.name, lives)

is_later : (c : Cell) (cs : List Cell) (o : Object) (r : Option Request) → NoDuplicates (c ∷ cs) → IsCell cs o r → IsCell (c ∷ cs) o r
is_later c cs o r no_duplicates f = record { lives = grind (arith, nat_tests); asked = ap (λ b. cond b c.request (requested cs o.name)) other ∙ f.asked }
  where
    other : (c.object.name == o.name) ≡ false
    other = is_apart c cs o no_duplicates f.lives

-- ---- by its place

pub stands_at : (cs : List Cell) → NoDuplicates cs → (i : ℕ) (c : Cell) → cell_at cs i ≡ Some c → IsCell cs c.object c.request
stands_at [] no_duplicates i c e = cc
stands_at (d ∷ cs) no_duplicates zero c e = let same : d ≡ c = cc in subst (λ (x : Cell). IsCell (d ∷ cs) x.object x.request) same (is_first d cs)
stands_at (d ∷ cs) no_duplicates (suc i) c e = is_later d cs c.object c.request no_duplicates (stands_at cs no_duplicates.2 i c e)

-- ---- by its timer

abbrev pub IsDue : List Cell → Timed → Type 0
IsDue cs x = (r : Request) × IsCell cs x.object (Some r) × (r.timer ≡ Some x.timer)

module _ (c : Cell) (cs : List Cell) (x : Timed) (no_duplicates : NoDuplicates (c ∷ cs)) (rest : first_due cs ≡ Some x → IsDue cs x) where
  due_later : first_due cs ≡ Some x → IsDue (c ∷ cs) x
  due_later e = let d = rest e in (d.0, is_later c cs x.object (Some d.0) no_duplicates d.1, d.2)

  due_here : (r : Request) → c.request ≡ Some r → (t : Timer) → r.timer ≡ Some t → record { object = c.object; timer = t } ≡ x → IsDue (c ∷ cs) x
  due_here r asked t timed same = subst (λ y. IsDue (c ∷ cs) y) same (r, subst (λ q. IsCell (c ∷ cs) c.object q) asked (is_first c cs), timed)

  sooner_due : (r : Request) → c.request ≡ Some r → (t : Timer) → r.timer ≡ Some t → (others : Option Timed) → first_due cs ≡ others →
      Some (sooner (record { object = c.object; timer = t }) others) ≡ Some x → IsDue (c ∷ cs) x
  sooner_due r asked t timed None same e = due_here r asked t timed cc
  sooner_due r asked t timed (Some b) same e = go (is_sooner b.timer t) e
    where
      go : (earlier : Bool) → Some (cond earlier b (record { object = c.object; timer = t })) ≡ Some x → IsDue (c ∷ cs) x
      go true e = due_later (same ∙ e)
      go false e = due_here r asked t timed cc

  by_its_timer : (order : ℕ) (priority : ℤ) (phase : Phase) (status : ℤ) (timer : Option Timer) (token : Option ℕ) → c.request ≡ Some
      (record { order = order; priority = priority; phase = phase; status = status; timer = timer; token = token }) → among_timers c.object (Some
      (record { order = order; priority = priority; phase = phase; status = status; timer = timer; token = token })) (first_due cs) ≡ Some x → IsDue (c ∷ cs) x
  by_its_timer order priority phase status None token asked e = due_later e
  by_its_timer order priority phase status (Some t) token asked e = sooner_due _ asked t refl (first_due cs) refl e

  by_its_request : (r : Option Request) → c.request ≡ r → among_timers c.object r (first_due cs) ≡ Some x → IsDue (c ∷ cs) x
  by_its_request None asked e = due_later e
  by_its_request (Some r) asked e = by_its_timer r.order r.priority r.phase r.status r.timer r.token asked e

pub is_due : (cs : List Cell) → NoDuplicates cs → (x : Timed) → first_due cs ≡ Some x → IsDue cs x
is_due [] no_duplicates x e = cc
is_due (c ∷ cs) no_duplicates x e = by_its_request c cs x no_duplicates (λ e. is_due cs no_duplicates.2 x e) c.request refl e

-- ---- as the first that is ready

-- its request is completed, or something waits in its queue
abbrev pub GoesNow : List Cell → Candidate → Type 0
GoesNow cs y = (is_ready y.request || has_more (service_of cs y.owned_object.object.name).queue) ≡ true

abbrev pub IsReady : List Cell → Candidate → Type 0
IsReady cs y = IsCell cs y.owned_object.object (Some y.request) × GoesNow cs y

module _ (c : Cell) (cs : List Cell) (y : Candidate) (no_duplicates : NoDuplicates (c ∷ cs)) (rest : first_ready cs ≡ Some y → IsReady cs y) where
  ready_later : first_ready cs ≡ Some y → IsReady (c ∷ cs) y
  ready_later e = grind (arith, nat_tests, is_later c cs y.owned_object.object (Some y.request) no_duplicates)

  abbrev me : Request → Candidate
  me r = record { owned_object = record { object = c.object; place = c.owner }; request = r }

  ready_here : (r : Request) → c.request ≡ Some r → goes_now c r ≡ true → me r ≡ y → IsReady (c ∷ cs) y
  ready_here r asked ready same = grind (arith, nat_tests, asked, is_first)

  first_of_all : (r : Request) → c.request ≡ Some r → goes_now c r ≡ true → (others : Option Candidate) → first_ready cs ≡ others →
      Some (before_others (me r) others) ≡ Some y → IsReady (c ∷ cs) y
  first_of_all r asked ready None same e = ready_here r asked ready cc
  first_of_all r asked ready (Some b) same e = go (goes_before b.request r) e
    where
      go : (later : Bool) → Some (cond later b (me r)) ≡ Some y → IsReady (c ∷ cs) y
      go true e = ready_later (same ∙ e)
      go false e = ready_here r asked ready cc

  ready_or_not : (r : Request) → c.request ≡ Some r → (b : Bool) → goes_now c r ≡ b →
      cond b (Some (before_others (me r) (first_ready cs))) (first_ready cs) ≡ Some y → IsReady (c ∷ cs) y
  ready_or_not r asked x ready e = grind (arith, nat_tests, first_of_all, asked, ready_later)

  with_request_of : (r : Option Request) → c.request ≡ r → among_ready c r (first_ready cs) ≡ Some y → IsReady (c ∷ cs) y
  with_request_of x asked e = grind (arith, nat_tests, ready_later, ready_or_not, asked)

pub is_found_ready : (cs : List Cell) → NoDuplicates cs → (y : Candidate) → first_ready cs ≡ Some y → IsReady cs y
is_found_ready [] no_duplicates y e = cc
is_found_ready (c ∷ cs) no_duplicates y e = with_request_of c cs y no_duplicates (λ e. is_found_ready cs no_duplicates.2 y e) c.request refl e

-- ---- what a turn is about

abbrev pub IsAbout : State → Turning → Type 0
IsAbout s (Completes o) = (x : Timed) × (first_due s.cells ≡ Some x) × (x.object ≡ o)
IsAbout s (Picks x) = (y : Candidate) × (first_ready s.cells ≡ Some y) × (y.owned_object ≡ x)
IsAbout s (Executes client command name) = named s.cells name ≡ None
IsAbout s _ = Unit {0}

module _ (outside : Environment) (observed : Observed) (s : State) where
  about_event : (name : ℕ) (next : Option TimedEvent) (after : Turning) → named s.cells name ≡ None → IsAbout s after →
      IsAbout s (by_event outside name s next after)
  about_event name x after free h = grind (arith, nat_tests, lives outside s)

  about_timer : (next : Option Timed) (after : Turning) → first_due s.cells ≡ next → IsAbout s after → IsAbout s (by_timer s next after)
  about_timer x after e h = grind arith

  -- where the limit is not reached
  abbrev within : Turning
  within = by_timer s (first_due s.cells) (by_event outside observed.name s
      (next_event outside s) (polls (next_native outside s) observed.completion (picks (has_signal s.cells) (first_ready s.cells) (next_time outside s))))

  about_within : named s.cells observed.name ≡ None → IsAbout s within
  about_within free = grind (arith, nat_tests, about_timer, about_event observed.name)

  pub turn_about : named s.cells observed.name ≡ None → IsAbout s (turning outside observed s)
  turn_about free = grind (arith, nat_tests, about_within free)
