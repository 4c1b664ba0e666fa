-- A look at the object that is owned at a path is what each state shows of it, or there is none.
use Rattle.std.proofs.Common.{ℕ, Bool, List, Option, Some, None, Ok, Err, refl}
use Rattle.std.specs.Prelude.{IfErr, IfOk}
use Rattle.aom_roles.specs.Things.{words_of}
use Rattle.aom_semantics.specs.Places.{service_of}
use Rattle.aom_semantics.specs.State.{State}
use Rattle.aom_debug_stepping.specs.Calls.{RefinesWithNatives}
use Rattle.aom_debug_protocol.specs.Ways.{Way}
use Rattle.aom_debug_protocol.specs.declared.fault.DebugFault.{DebugFault}
use Rattle.aom_debug_protocol.specs.declared.fault.DebugFault.TheVariants.{Ended, NoSuch}
use Rattle.aom_debug_views.specs.Reporting.{Reports, ReportsPart, answers_text}
use Rattle.aom_debug_paths.specs.declared.following.Found.{Found}
use Rattle.aom_debug_paths.specs.Paths.{owned_at, waiting_lines, word_lines}
use Rattle.aom_debug.proofs.DebugPathsLemmas.{queue_found, queue_none, words_found, words_none}
use Rattle.aom_debug.specs.Debugging.{Answer, Finds, FindsNone, LacksQueue, LacksWords, Looks, LooksAt, Outgoing, Seen, SeenPart, SeesQueue, SeesWords}
use Rattle.aom_debug.specs.declared.debugger.Debugger.{Debugger}
use Rattle.std.proofs.lemmas.Result.{IfErr-weaker, IfOk-weaker}

module _ {X : Type 0} {B : X → Type 0} (shows : Debugger X B → State → List ℕ → Type 0) (lacks : Debugger X B → State → Type 0)
    (old new : Debugger X B) (out : Outgoing) where
  -- what a look answers it answers at a path
  pub looks_at : (answer : Answer) → Looks shows old new out answer → LooksAt shows lacks old new out answer
  looks_at (Ok done) x = x
  looks_at (Err NoSuch) x = absurd x
  looks_at (Err _) x = x

-- what was not found each state lacks
module _ {X : Type 0} {B : X → Type 0} (w : Way) (d : Debugger X B) (out : Option (List ℕ)) (failed : Bool) where
  abbrev LooksNowhere : (Debugger X B → State → List ℕ → Type 0) → (Debugger X B → State → Type 0) → DebugFault → Type 0
  LooksNowhere shows lacks fault = LooksAt shows lacks d d (record { before = out; now = out; failed = failed }) (Err fault)

  looks_nowhere : (shows : Debugger X B → State → List ℕ → Type 0) (lacks : Debugger X B → State → Type 0) →
      (Finds w d None → (s : State) → RefinesWithNatives d.runner.machine s → lacks d s) →
      (fault : DebugFault) → FindsNone (Finds w d None) d fault → LooksNowhere shows lacks fault
  looks_nowhere shows lacks so NoSuch none = (none.0, record { same = refl; silent = refl }, so none.1)
  looks_nowhere shows lacks so Ended has_write_failed = (has_write_failed, record { same = refl; silent = refl })
  looks_nowhere shows lacks so _ none = absurd none

  pub words_nowhere : (fault : DebugFault) → FindsNone (Finds w d None) d fault → LooksNowhere (SeesWords w) (LacksWords w) fault
  words_nowhere = looks_nowhere (SeesWords w) (LacksWords w)
      (λ none s st. words_none d.runner.machine.core.image s.cells (owned_at s w) (none s st.stands))

  pub queue_nowhere : (fault : DebugFault) → FindsNone (Finds w d None) d fault → LooksNowhere (SeesQueue w) (LacksQueue w) fault
  queue_nowhere = looks_nowhere (SeesQueue w) (LacksQueue w) (λ none s st. queue_none s.cells (owned_at s w) (none s st.stands))

module _ {X : Type 0} {B : X → Type 0} (d : Debugger X B) (w : Way) (f : Found) (before now : Option (List ℕ)) where
  abbrev words_text : State → List ℕ
  words_text s = answers_text (word_lines s.cells f.cell (words_of d.runner.machine.core.image f.class))

  abbrev queue_text : State → List ℕ
  queue_text s = answers_text (waiting_lines (service_of s.cells f.cell).queue)

  module _ (is : Finds w d (Some f)) where
    pub words_seen : (reported : Answer) → IfOk reported (λ _. Reports d.runner.machine.core words_text before now) → IfOk reported (λ _. Seen (SeesWords w) d before now)
    words_seen reported reports = IfOk-weaker reported _ _
        (λ done t s st. (_, (_, words_found d.runner.machine.core.image s.cells (owned_at s w) f (is s st.stands), refl), t.out s st.stands)) reports

    pub words_part : (failed : Bool) (reported : Answer) → IfErr reported (λ fault. ReportsPart d.runner.machine.core words_text fault failed before now) →
        IfErr reported (λ fault. SeenPart (SeesWords w) d fault failed before now)
    words_part failed reported part = IfErr-weaker reported _ _ (λ fault t.
        (t.reported, t.fails, (λ s st. (_, (_, words_found d.runner.machine.core.image s.cells (owned_at s w) f (is s st.stands), refl), t.out s st.stands)))) part

    pub queue_seen : (reported : Answer) → IfOk reported (λ _. Reports d.runner.machine.core queue_text before now) → IfOk reported (λ _. Seen (SeesQueue w) d before now)
    queue_seen reported reports = IfOk-weaker reported _ _ (λ done t s st. (_, (_, queue_found s.cells (owned_at s w) f (is s st.stands), refl), t.out s st.stands)) reports

    pub queue_part : (failed : Bool) (reported : Answer) → IfErr reported (λ fault. ReportsPart d.runner.machine.core queue_text fault failed before now) →
        IfErr reported (λ fault. SeenPart (SeesQueue w) d fault failed before now)
    queue_part failed reported part = IfErr-weaker reported _ _
        (λ fault t. (t.reported, t.fails, (λ s st. (_, (_, queue_found s.cells (owned_at s w) f (is s st.stands), refl), t.out s st.stands)))) part
