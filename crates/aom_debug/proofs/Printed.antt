-- What a variable has is what each state shows of it, or it is not there.
use Rattle.std.proofs.Common.{◌≡◌, ◌≢◌, ◌⊎◌, ℕ, Bool, false, true, List, Option, Some, None, Ok, Err, refl}
use Rattle.std.specs.Prelude.{IfErr, IfOk}
use Rattle.std.proofs.lemmas.Result.{IfErr-weaker, IfOk-weaker}
use Rattle.aom_transcript.specs.Sinks.{after}
use Rattle.aom_transcript.specs.Text.{ended}
use Rattle.aom_semantics.specs.State.{State}
use Rattle.aom_debug_stepping.specs.Calls.{RefinesWithNatives}
use Rattle.aom_debug_symbols.specs.Answers.{answer_by}
use Rattle.aom_debug_protocol.specs.declared.answer.Answer.{Answer as Told}
use Rattle.aom_debug_protocol.specs.declared.variable.Variable.{Variable}
use Rattle.aom_debug_protocol.specs.declared.fault.DebugFault.{DebugFault}
use Rattle.aom_debug_protocol.specs.declared.fault.DebugFault.TheVariants.{Ended, NotThere}
use Rattle.aom_debug_views.specs.Reporting.{IsCut}
use Rattle.aom_debug.specs.Debugging.{Answer, Looks, Outgoing, Seen, SeenPart}
use Rattle.aom_debug.specs.Printing.{HasNone, HasValue, Prints, SeesVariable}
use Rattle.aom_debug.specs.declared.debugger.Debugger.{Debugger}

-- what a look answers is answered here
pub prints_so : {X : Type 0} {B : X → Type 0} (v : Variable) (old new : Debugger X B) (out : Outgoing) (answer : Answer) →
    Looks (SeesVariable v) old new out answer → Prints v old new out answer
prints_so v old new out (Ok done) x = x
prints_so v old new out (Err NotThere) x = absurd x
prints_so v old new out (Err _) x = x

-- what was not there is lacked
pub prints_nothing : {X : Type 0} {B : X → Type 0} (v : Variable) (d : Debugger X B) (out : Option (List ℕ)) (failed : Bool) (fault : DebugFault) →
    HasNone v d fault → Prints v d d (record { before = out; now = out; failed = failed }) (Err fault)
prints_nothing v d out failed NotThere none = (
  none.0,
  record { same = refl; silent = refl },
  (λ s st. (st.stands.typing, st.stands.sound.strongest, none.1 st.stands.typing st.stands.sound.strongest s st.stands)),
)
prints_nothing v d out failed Ended has_write_failed = (has_write_failed, record { same = refl; silent = refl })
prints_nothing v d out failed _ none = absurd none

module _ {X : Type 0} {B : X → Type 0} (v : Variable) (d : Debugger X B) (x : Told) (has : HasValue v d (Some x)) (before now : Option (List ℕ)) where
  pub value_seen : (reported : Answer) → IfOk reported (λ _. now ≡ after before (ended (answer_by d.names x))) → IfOk reported (λ _. Seen (SeesVariable v) d before now)
  value_seen reported put = IfOk-weaker reported _ _
      (λ done out s st. (_, (st.stands.typing, st.stands.sound.strongest, x, has st.stands.typing st.stands.sound.strongest s st.stands, refl), out)) put

  pub value_part : (failed : Bool) (reported : Answer) → IfErr reported (λ fault. IsCut (ended (answer_by d.names x)) fault failed before now) →
      IfErr reported (λ fault. SeenPart (SeesVariable v) d fault failed before now)
  value_part failed reported part = IfErr-weaker reported _ _ (λ fault cut. (
    cut.reported,
    cut.fails,
    (λ s st.
        (_, (st.stands.typing, st.stands.sound.strongest, x, has st.stands.typing st.stands.sound.strongest s st.stands, refl), (cut.sent, cut.out))),
  )) part
