-- Texts of each state, one after another.
use Rattle.std.proofs.Common.{◌≡◌, ◌∙◌, ◌<◌, ℕ, ◌+◌, List, [], ◌++◌, Option, Bool, add-one, ap, sym, take}
use Rattle.std.proofs.lemmas.List.{append-nil}
use Rattle.aom_semantics.specs.State.{State}
use Rattle.aom_machine_state.specs.Stands.{MachineModel, Refines}
use Rattle.aom_transcript.specs.Sinks.{after}
use Rattle.aom_debug_protocol.specs.declared.fault.DebugFault.{DebugFault}
use Rattle.aom_debug_views.specs.Reporting.{IsCut, Reports, ReportsPart, gathered}
use Rattle.aom_debug_views.proofs.Reporting.{cut_on, gathered_here, none_sent, sent_on}

module _ (m : MachineModel) where
  -- a text that is the same in each state
  pub text_out : (t : List ℕ) (f : State → List ℕ) (before now : Option (List ℕ)) → ((s : State) → Refines m s → t ≡ f s) → now ≡ after before t → Reports m f before now
  text_out t f before now same put = record { out = λ s st. put ∙ ap (after before) (same s st) }

  pub text_cut : (t : List ℕ) (f : State → List ℕ) (fault : DebugFault) (failed : Bool) (before now : Option (List ℕ)) → ((s : State) → Refines m s → t ≡ f s) →
      IsCut t fault failed before now → ReportsPart m f fault failed before now
  text_cut t f fault failed before now same cut = record {
    reported = cut.reported;
    fails = cut.fails;
    out = λ s st. (cut.sent, cut.out ∙ ap (λ u. after before (take cut.sent u)) (same s st));
  }

  -- two, one after the other
  module _ (a b : State → List ℕ) where
    pub texts_both : (before now new : Option (List ℕ)) → Reports m a before now → Reports m b now new → Reports m (λ s. a s ++ b s) before new
    texts_both before now new first later = record { out = λ s st. sent_on before now new (a s) (b s) (first.out s st) (later.out s st) }

    pub texts_first : (fault : DebugFault) (failed : Bool) (before new : Option (List ℕ)) → ReportsPart m a fault failed before new →
        ReportsPart m (λ s. a s ++ b s) fault failed before new
    texts_first fault failed before new cut = record {
      reported = cut.reported;
      fails = cut.fails;
      out = λ s st. let sent = cut.out s st in cut_on before before new [] (a s) (b s) sent.0 (none_sent before) sent.1;
    }

    pub texts_later : (fault : DebugFault) (failed : Bool) (before now new : Option (List ℕ)) → Reports m a before now → ReportsPart m b fault failed now new →
        ReportsPart m (λ s. a s ++ b s) fault failed before new
    texts_later fault failed before now new first cut = record {
      reported = cut.reported;
      fails = cut.fails;
      out = λ s st.
          let sent = cut.out s st in
          let part = cut_on before now new (a s) (b s) [] sent.0 (first.out s st) sent.1 in
          (part.0, part.1 ∙ ap (λ u. after before (take part.0 (a s ++ u))) (append-nil (b s)));
    }

  -- so many
  module _ (f : State → ℕ → List ℕ) where
    pub texts_next : (i : ℕ) (before now new : Option (List ℕ)) → Reports m (λ s. gathered (f s) i) before now → Reports m (λ s. f s i) now new →
        Reports m (λ s. gathered (f s) (i + 1)) before new
    texts_next i before now new was here = record { out = λ s st. rw add-one (sent_on before now new (gathered (f s) i) (f s i) (was.out s st) (here.out s st)) }

    pub texts_part : (n : State → ℕ) (i : ℕ) (fault : DebugFault) (failed : Bool) (before now new : Option (List ℕ)) → Reports m (λ s. gathered (f s) i) before now →
        ((s : State) → Refines m s → i < n s) → ReportsPart m (λ s. f s i) fault failed now new → ReportsPart m (λ s. gathered (f s) (n s)) fault failed before new
    texts_part n i fault failed before now new was within cut = record {
      reported = cut.reported;
      fails = cut.fails;
      out = λ s st.
          let sent = cut.out s st in
          let here = gathered_here (f s) i (n s) (within s st) in
          let part = cut_on before now new (gathered (f s) i) (f s i) here.0 sent.0 (was.out s st) sent.1 in
          (part.0, part.1 ∙ ap (λ u. after before (take part.0 u)) (sym here.1));
    }

    pub texts_all : (n : State → ℕ) (i : ℕ) (before now : Option (List ℕ)) → Reports m (λ s. gathered (f s) i) before now →
        ((s : State) → Refines m s → i ≡ n s) → Reports m (λ s. gathered (f s) (n s)) before now
    texts_all n i before now was all = record { out = λ s st. was.out s st ∙ ap (λ k. after before (gathered (f s) k)) (all s st) }
