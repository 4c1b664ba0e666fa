-- What moves keep, one after another; and what is said by that after some of them is said by what it was before.
use Rattle.std.proofs.Common.{◌≡◌, ◌∙◌, ℕ, Bool, true, false, List, Option, Some, None, refl, ap, subst}
use Rattle.std.specs.Bool.{then_some}
use Rattle.aom_image.specs.Image.{Image}
use Rattle.aom_machine_state.specs.LineBuffer.{LineBuffer}
use Rattle.aom_script.specs.Script.{Script}
use Rattle.aom_machine.specs.Steps.{progress}
use Rattle.aom_run.specs.Calls.{Stands, natives_of}
use Rattle.aom_debug_protocol.specs.declared.spot.CodeLocation.{CodeLocation}
use Rattle.aom_run.specs.Turns.{observing}
use Rattle.aom_semantics.specs.World.{Environment}
use Rattle.aom_machine_state.specs.declared.progress.Progress.{Progress}
use Rattle.aom_debug_stepping.specs.Runners.{IsReady, KeepsRunner, Runner, Went, outside_of}
use Rattle.aom_debug_stepping.specs.Sends.{Breaks, Leads, HostedMachine, Sends}

module _ {X : Type 0} {B : X → Type 0} where
  pub keeps_all : (m : Runner X B) → IsReady m → KeepsRunner m m
  keeps_all m ready = record { image = refl; natives = refl; script = refl; lines = refl; limit = refl; ready = ready }

  pub keeps_on : {old mid new : Runner X B} → KeepsRunner old mid → KeepsRunner mid new → KeepsRunner old new
  keeps_on was is = record {
    image = is.image ∙ was.image;
    natives = is.natives ∙ was.natives;
    script = is.script ∙ was.script;
    lines = is.lines ∙ was.lines;
    limit = is.limit ∙ was.limit;
    ready = is.ready;
  }

  -- also where other instructions are noted
  pub keeps_noting : {old new : Runner X B} → KeepsRunner old new → (spots : List CodeLocation) → KeepsRunner old (record new { recent = spots })
  keeps_noting {new = new} keeps spots =
      let ready = keeps.ready in
      let again : IsReady (record new { recent = spots }) =
      record { stands = ready.stands; none = ready.none; room = ready.room; timely = ready.timely; few = ready.few } in
      record { image = keeps.image; natives = keeps.natives; script = keeps.script; lines = keeps.lines; limit = keeps.limit; ready = again }

  -- a machine that has moved, and stands for a state, and whose buffer is cleared again
  pub keeps_with : (m : Runner X B) → IsReady m → (machine : HostedMachine X B) (lines : LineBuffer) (page : List ℕ) → machine.core.image ≡ m.machine.core.image →
      natives_of machine ≡ natives_of m.machine → lines ≡ m.lines → Stands machine → KeepsRunner m (record m { machine = machine; lines = lines; page = page })
  keeps_with m ready machine lines page image natives same stands =
      let again : IsReady (record m { machine = machine; lines = lines; page = page }) = record {
        stands = stands;
        none = ap (λ (t : LineBuffer). t.lines) same ∙ ready.none;
        room = rw (image, ap (λ (t : LineBuffer). t.room) same) ready.room;
        timely = ready.timely;
        few = ready.few;
      } in
      record { image = image; natives = natives; script = refl; lines = same; limit = refl; ready = again }

  module _ {old new : Runner X B} (keeps : KeepsRunner old new) where
    -- what is heard outside is the same
    pub observes_as : outside_of new ≡ outside_of old
    observes_as = ap (λ (t : LineBuffer). observing t.refused new.limit (natives_of new.machine) new.script.timed) keeps.lines ∙ ap (λ l. observing old.lines.refused l
        (natives_of new.machine) new.script.timed) keeps.limit ∙ ap (λ n. observing old.lines.refused old.limit n new.script.timed) keeps.natives
        ∙ ap (λ (s : Script). observing old.lines.refused old.limit (natives_of old.machine) s.timed) keeps.script

    pub observed_as : (F : Image → Environment → Type 0) → F new.machine.core.image (outside_of new) → F old.machine.core.image (outside_of old)
    observed_as F x = subst (λ p. F p (outside_of old)) keeps.image (subst (λ o. F new.machine.core.image o) observes_as x)

    pub begun_as : (F : Image → List ℕ → Type 0) → F new.machine.core.image new.lines.refused → F old.machine.core.image old.lines.refused
    begun_as F = observed_as (λ p outside. F p outside.refused)

  -- what came of a move, by whether all its lines are out
  pub went_if : {so may : Leads} (a n : Runner X B) (before out : Option (List ℕ)) (failed : Bool) (far : Progress) (is_out : Bool) (result : Option Progress) →
      result ≡ then_some is_out far → far ≡ progress n.machine.core → (is_out ≡ true → Sends so a.machine before out n.machine) →
      (is_out ≡ false → (failed ≡ true) × Breaks may a.machine before out n.machine) → Went so may a before out failed result n
  went_if a n before out failed far true result is at sends breaks = rw is (sends refl, at)
  went_if a n before out failed far false result is at sends breaks = rw is (breaks refl)

  -- what came of a move is what came of more, by what is out before it
  pub went_as : {so may other must : Leads} (a m n : Runner X B) (before here out : Option (List ℕ)) (failed : Bool) (result : Option Progress)
      → (Sends so m.machine here out n.machine → Sends other a.machine before out n.machine) → (Breaks may m.machine here out n.machine →
      Breaks must a.machine before out n.machine) → Went so may m here out failed result n → Went other must a before out failed result n
  went_as a m n before here out failed None sends breaks x = (x.0, breaks x.1)
  went_as a m n before here out failed (Some far) sends breaks x = (sends x.0, x.1)
