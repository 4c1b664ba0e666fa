-- A step of the machine is moves of a run, and steps one after another fill a buffer.
use Rattle.std.proofs.Common.{◌≡◌, ℕ, ℤ, List, [], ◌++◌, sym, ap, subst, ◌∙◌, append-nil, append_assoc}
use Rattle.aom_run.proofs.ImageLemmas.{cons_given}
use Rattle.aom_image.specs.Image.{Image}
use Rattle.aom_semantics.specs.Moves.{written}
use Rattle.aom_semantics.specs.State.{State}
use Rattle.aom_semantics.specs.World.{Reaches, begins, moves as moved, turns, IsBusy, Environment}
use Rattle.aom_transcript.specs.declared.line.Line.{Line}
use Rattle.aom_machine_state.specs.LineBuffer.{LineBuffer}
use Rattle.aom_machine_state.specs.declared.progress.Progress.{Progress}
use Rattle.aom_machine.specs.Steps.{Steps, rests, moves, Settles, settled, settles, IsUncounted, Quiet, begins as none, goes_on as then_on}
use Rattle.aom_run.specs.Calls.{Stands, RefinesWithNatives, SteppedOn}
use Rattle.aom_run.specs.declared.machine.HostedMachine.{HostedMachine}
use Rattle.aom_run.specs.Runs.{Filled, Moving, begins as stays, goes_on}

is_busy : (s : State) → IsUncounted s.tasks → IsBusy s
is_busy s uncounted = cons_given (λ ts. IsUncounted ts) s.tasks uncounted (λ u. u) (λ t ts e u. (t, ts, e))

-- the moves that count as no step
settled_on : (p : Image) (refused : List ℕ) (b : State) (lines : List Line) (s : State) (more : List Line) (u : State)
    → Moving p refused b lines s → Settles p refused s more u → Moving p refused b (lines ++ more) u
settled_on p refused b lines s _ _ r (settled not) = subst (λ ls. Moving p refused b ls s) (sym (append-nil lines)) r
settled_on p refused b lines s _ v r (settles {u = u} {lines = more} c uncounted on free goes rest) = subst (λ ls. Moving p refused b ls v)
    (append_assoc lines _ more) (settled_on p refused b (lines ++ written p s) u more v (goes_on c r (is_busy s uncounted) free goes) rest)

-- a step of the machine is no move, or one or more
pub steps_on : (p : Image) (refused : List ℕ) (observed : ℤ) (b : State) (lines : List Line) (s : State) (more : List Line) (u : State)
    → Moving p refused b lines s → Steps p refused observed s more u → Moving p refused b (lines ++ more) u
steps_on p refused observed b lines s more u r (rests done) = subst (λ ls. Moving p refused b ls s) (sym (append-nil lines)) r
steps_on p refused observed b lines s _ v r (moves {u = u} {lines = more} c hand free observes goes rest) =
    subst (λ ls. Moving p refused b ls v) (append_assoc lines _ more) (settled_on p refused b _ u more v (goes_on c r hand.busy free goes) rest)

-- nor are several, of which the first alone hears a native
quietly_on : (p : Image) (refused : List ℕ) (observed : ℤ) (b : State) (lines : List Line) (s : State) (more : List Line) (v : State) →
    Moving p refused b lines s → Quiet p refused observed s more v → Moving p refused b (lines ++ more) v
quietly_on p refused observed b lines s _ _ r none = subst (λ ls. Moving p refused b ls s) (sym (append-nil lines)) r
quietly_on p refused observed b lines s _ _ r (then_on {v} {u} {before = ls} {lines = ks} before last hand wants) =
    subst (λ l. Moving p refused b l u) (append_assoc lines ls ks) (steps_on p _ observed b _ v ks u (quietly_on p refused observed b lines s ls v r before) last)

-- moves that go on from where others came to
pub moving_both : (p : Image) (refused : List ℕ) (b : State) (lines : List Line) (s : State) (more : List Line) (u : State)
    → Moving p refused b lines s → Moving p refused s more u → Moving p refused b (lines ++ more) u
moving_both p refused b lines s _ _ r stays = subst (λ ls. Moving p refused b ls s) (sym (append-nil lines)) r
moving_both p refused b lines s _ _ r (goes_on {lines = more} {s = v} {u = u} c before busy free goes) =
    subst (λ ls. Moving p refused b ls u) (append_assoc lines more (written p v)) (goes_on c (moving_both p refused b lines s more v r before) busy free goes)

-- and a run goes on with them
pub reaches_then : (p : Image) (outside : Environment) (b : State) (lines : List Line) (s : State) (more : List Line) (u : State)
    → Reaches p outside b lines s → Moving p outside.refused s more u → Reaches p outside b (lines ++ more) u
reaches_then p outside b lines s _ _ r stays = subst (λ ls. Reaches p outside b ls s) (sym (append-nil lines)) r
reaches_then p outside b lines s _ _ r (goes_on {lines = more} {s = v} {u = u} c before busy free goes) =
    subst (λ ls. Reaches p outside b ls u) (append_assoc lines more (written p v)) (moved c (reaches_then p outside b lines s more v r before) busy free goes)

-- a run that goes on from where another came to
pub reaches_both : (p : Image) (outside : Environment) (b : State) (lines : List Line) (s : State) (more : List Line) (u : State)
    → Reaches p outside b lines s → Reaches p outside s more u → Reaches p outside b (lines ++ more) u
reaches_both p outside b lines s _ _ r begins = subst (λ ls. Reaches p outside b ls s) (sym (append-nil lines)) r
reaches_both p outside b lines s _ _ r (moved {lines = more} {s = v} {u = u} c before busy free goes) =
    subst (λ ls. Reaches p outside b ls u) (append_assoc lines more (written p v)) (moved c (reaches_both p outside b lines s more v r before) busy free goes)
reaches_both p outside b lines s _ _ r (turns {lines = more} {s = v} {u = u} observed before between owed goes) =
    subst (λ ls. Reaches p outside b ls u) (append_assoc lines more _) (turns observed (reaches_both p outside b lines s more v r before) between owed goes)

module _ {X : Type 0} {B : X → Type 0} where
  -- what steps do, whatever they hear
  abbrev pub StepsOn : HostedMachine X B → Progress → LineBuffer → LineBuffer → HostedMachine X B → Type 0
  StepsOn old progress reported now new = (s : State) → RefinesWithNatives old s → (observed : ℤ) × SteppedOn old observed progress reported now new s

  -- so do steps of which more is said of what they hear
  pub steps_of : (old new : HostedMachine X B) (progress : Progress) (reported now : LineBuffer) {May : State → ℤ → Type 0} →
      ((s : State) → RefinesWithNatives old s → (observed : ℤ) × May s observed × SteppedOn old observed progress reported now new s) → StepsOn old progress reported now new
  steps_of old new progress reported now steps s stands = let x = steps s stands in (x.0, x.2)

  -- the buffer is filled, however far the machine has come
  abbrev pub Went : HostedMachine X B → LineBuffer → LineBuffer → HostedMachine X B → Type 0
  Went old reported now new = (s : State) → RefinesWithNatives old s → (lines : List Line) × (u : State) × Moving old.core.image reported.refused s lines u
      × (now ≡ record reported { lines = reported.lines ++ lines }) × RefinesWithNatives new u

  pub went_nowhere : (m : HostedMachine X B) (reported : LineBuffer) → Went m reported reported m
  went_nowhere m reported s stands = ([], s, stays, ap (λ ls. record reported { lines = ls }) (sym (append-nil reported.lines)), stands)

  pub went : (old new : HostedMachine X B) (reported now : LineBuffer) (progress : Progress) → Filled old progress reported now new → Went old reported now new
  went old new reported now progress filled s stands = let f = filled s stands in (f.0, f.1, f.2, f.3, f.5)

  pub filled : (old m new : HostedMachine X B) (reported mid now : LineBuffer) (progress : Progress) →
      Went old reported mid m → m.core.image ≡ old.core.image → StepsOn m progress mid now new → Filled old progress reported now new
  filled old m new reported mid now progress went image stepped s stands =
      let w = went s stands in
      let h = stepped w.1 w.4 in
      let x = h.1 in
      let same : mid.refused ≡ reported.refused = ap (λ (t : LineBuffer). t.refused) w.3 in
      let observed = h.0 in
      let quiet = subst (λ q. Quiet q reported.refused observed w.1 x.3.0 x.1) image (subst (λ r. Quiet m.core.image r observed w.1 x.3.0 x.1) same x.3.1) in
      let steps = subst (λ q. Steps q reported.refused observed x.1 x.0 x.2) image (subst (λ r. Steps m.core.image r observed x.1 x.0 x.2) same x.4) in
      let ls = x.3.0 ++ x.0 in
      let moving = subst (λ l. Moving old.core.image reported.refused s l x.2) (append_assoc w.0 x.3.0 x.0)
      (steps_on _ reported.refused observed s (w.0 ++ x.3.0) x.1 x.0 x.2 (quietly_on old.core.image reported.refused observed s w.0 w.1 x.3.0 x.1 w.2 quiet) steps) in
      let buffer = x.5 ∙ ap (λ (t : LineBuffer). record t { lines = t.lines ++ ls }) w.3 ∙ ap (λ l. record reported { lines = l }) (append_assoc reported.lines w.0 ls) in
      (w.0 ++ ls, x.2, moving, buffer, x.6, x.7)

  pub stands_on : (m new : HostedMachine X B) (reported now : LineBuffer) (progress : Progress) → Stands m → StepsOn m progress reported now new → Stands new
  stands_on m new reported now progress stands stepped = let x = (stepped stands.0 stands.1).1 in (x.2, x.7)

  pub room_stays : (m new : HostedMachine X B) (reported now : LineBuffer) (progress : Progress) → Stands m → StepsOn m progress reported now new → now.room ≡ reported.room
  room_stays m new reported now progress stands stepped = let x = (stepped stands.0 stands.1).1 in ap (λ (t : LineBuffer). t.room) x.5
