-- Moves and then where they lead: what is out is the text of both, or a beginning of it.
use Rattle.std.proofs.Common.{◌≡◌, ◌∙◌, ◌+◌, ℕ, min, Bool, List, Option, length, take, ap}
use Rattle.aom_image.specs.Image.{Image}
use Rattle.aom_semantics.specs.State.{State}
use Rattle.aom_transcript.specs.declared.line.Line.{Line}
use Rattle.aom_transcript.specs.Text.{text_of}
use Rattle.aom_debug_stepping.specs.Calls.{RefinesWithNatives}
use Rattle.aom_debug_stepping.specs.Sends.{Breaks, Leads, HostedMachine, Sends}
use Rattle.aom_transcript.specs.Sinks.{after}
use Rattle.aom_debug.proofs.DebugSteppingLemmas.{after_both, cut_next, cut_short}
use Rattle.aom_debug_protocol.specs.declared.fault.DebugFault.{DebugFault}
use Rattle.aom_debug_symbols.specs.NameLists.{NameLists}
use Rattle.aom_debug_views.specs.Reporting.{Reports, ReportsPart}
use Rattle.aom_debug.specs.Commands.{moved_text, place_text}

module _ {X : Type 0} {B : X → Type 0} (ns : NameLists) (p : Image) (a c : HostedMachine X B) (image : c.core.image ≡ p) (before mid now : Option (List ℕ)) where
  -- all is out
  abbrev pub Out : Leads → Type 0
  Out leads = (s : State) → RefinesWithNatives a s → (lines : List Line) × (u : State) × leads s lines u × (now ≡ after before (moved_text ns p lines u)) × RefinesWithNatives c u

  -- or a beginning
  abbrev pub Part : Leads → Type 0
  Part leads = (s : State) → RefinesWithNatives a s →
      (lines : List Line) × (u : State) × leads s lines u × ((sent : ℕ) × (now ≡ after before (take sent (moved_text ns p lines u)))) × RefinesWithNatives c u

  pub all_out : (leads : Leads) → Sends leads a before mid c → Reports c.core (λ s. place_text ns c.core.image s) mid now → Out leads
  all_out leads x reports s stands =
      let f = x s stands in
      let text = reports.out f.1 f.4.stands ∙ ap (λ q. after mid (place_text ns q f.1)) image ∙ ap (λ o. after o (place_text ns p f.1)) f.3
      ∙ after_both before (text_of f.0) (place_text ns p f.1) in
      (f.0, f.1, f.2, text, f.4)

  pub part_out : (leads all : Leads) → ((s : State) (lines : List Line) (u : State) → leads s lines u → all s lines u) → (fault : DebugFault) (failed : Bool) →
      Sends leads a before mid c → ReportsPart c.core (λ s. place_text ns c.core.image s) fault failed mid now → Part all
  part_out leads all weaker fault failed x reports s stands =
      let f = x s stands in
      let g = reports.out f.1 f.4.stands in
      let text = g.1 ∙ ap (λ q. after mid (take g.0 (place_text ns q f.1))) image ∙ ap (λ o. after o (take g.0 (place_text ns p f.1))) f.3
      ∙ cut_next before (text_of f.0) (place_text ns p f.1) g.0 in
      (f.0, f.1, weaker s f.0 f.1 f.2, (length (text_of f.0) + g.0, text), f.4)

  pub cut_out : (leads : Leads) → Breaks leads a before now c → Part leads
  cut_out leads x s stands =
      let f = x s stands in
      let n = f.3.0 in
      (f.0, f.1, f.2, (min n (length (text_of f.0)), f.3.1 ∙ ap (after before) (cut_short n (text_of f.0) (place_text ns p f.1))), f.4)
