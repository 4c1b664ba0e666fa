-- Where a run stands is what each state says that the machine stands for.
use Rattle.std.proofs.Common.{◌≡◌, ◌∙◌, ◌+◌, ℕ, min, Bool, List, ◌++◌, Option, length, take, ap}
use Rattle.aom_cells.specs.Heap.{count}
use Rattle.aom_semantics.specs.Places.{count_cells}
use Rattle.aom_semantics.specs.State.{Counters, State}
use Rattle.aom_transcript.specs.Text.{ended}
use Rattle.aom_machine_state.specs.Stands.{MachineModel, Refines}
use Rattle.aom_transcript.specs.Sinks.{after}
use Rattle.aom_debug.proofs.DebugSteppingLemmas.{after_both, cut_next, cut_short}
use Rattle.aom_debug_protocol.specs.declared.answer.Answer.{Answer}
use Rattle.aom_debug_symbols.specs.NameLists.{NameLists}
use Rattle.aom_debug_symbols.specs.Answers.{answer_by}
use Rattle.aom_debug_stepping.specs.Next.{next_of}
use Rattle.aom_debug_protocol.specs.declared.fault.DebugFault.{DebugFault}
use Rattle.aom_debug_views.specs.Reporting.{IsCut, Reports, ReportsPart}
use Rattle.aom_debug.specs.Commands.{end_by, place_text}

module _ (ns : NameLists) (m : MachineModel) (page : List ℕ) (is : page ≡ end_by m.parts.rest.ended (count m.parts.cells)) where
  page_of : (s : State) → Refines m s → page ≡ end_by s.rest.ended (count_cells s.cells)
  page_of s st = is ∙ ap (λ n. end_by m.parts.rest.ended n) st.agrees.cells.count ∙ ap (λ (r : Counters). end_by r.ended (count_cells s.cells)) st.agrees.rest

  module _ (before mid now : Option (List ℕ)) where
    pub place_cut : (fault : DebugFault) (failed : Bool) → IsCut page fault failed before now → ReportsPart m (λ s. place_text ns m.image s) fault failed before now
    place_cut fault failed cut = record {
      reported = cut.reported;
      fails = cut.fails;
      out = λ s st.
          let rest = ended (answer_by ns (next_of m.image s)) in
          (min cut.sent (length page), cut.out ∙ ap (after before) (cut_short cut.sent page rest) ∙ ap (λ t. after before (take (min cut.sent (length page)) (t ++ rest))) (page_of s st));
    }

    module _ (next : Answer) (reported : (s : State) → Refines m s → next ≡ next_of m.image s) (first : mid ≡ after before page) where
      pub place_reported : now ≡ after mid (ended (answer_by ns next)) → Reports m (λ s. place_text ns m.image s) before now
      place_reported out = record {
        out = λ s st.
            let rest = ended (answer_by ns next) in
            out ∙ ap (λ o. after o rest) first ∙ after_both before page rest ∙ ap (λ t. after before (t ++ rest)) (page_of s st)
            ∙ ap (λ (a : Answer). after before (end_by s.rest.ended (count_cells s.cells) ++ ended (answer_by ns a))) (reported s st);
      }

      pub place_cut_later : (fault : DebugFault) (failed : Bool) → IsCut (ended (answer_by ns next)) fault failed mid now →
          ReportsPart m (λ s. place_text ns m.image s) fault failed before now
      place_cut_later fault failed cut = record {
        reported = cut.reported;
        fails = cut.fails;
        out = λ s st.
            let rest = ended (answer_by ns next) in
            let sent = length page + cut.sent in (
              sent,
              cut.out ∙ ap (λ o. after o (take cut.sent rest)) first ∙ cut_next before page rest cut.sent
                  ∙ ap (λ t. after before (take sent (t ++ rest))) (page_of s st)
                  ∙ ap (λ (a : Answer). after before (take sent (end_by s.rest.ended (count_cells s.cells) ++ ended (answer_by ns a)))) (reported s st),
            );
      }
