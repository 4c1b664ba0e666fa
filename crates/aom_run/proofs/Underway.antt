-- A dispatch under way: what was told before it goes out first, and then its lines.
use Rattle.std.proofs.lemmas.Bool.Decides.{nat_tests}
use Rattle.std.proofs.Common.{arith, ◌≡◌, ◌≢◌, ℕ, List, [], ◌++◌, Option, take, sym, ap, subst, ◌∙◌, append-nil, append_assoc}
use Rattle.aom_semantics.specs.State.{State}
use Rattle.aom_transcript.specs.declared.line.Line.{Line}
use Rattle.aom_transcript.specs.Naming.{text_by}
use Rattle.aom_machine_state.specs.LineBuffer.{LineBuffer}
use Rattle.aom_machine_state.specs.declared.progress.Progress.{Progress}
use Rattle.aom_machine_state.specs.declared.progress.Progress.TheVariants.{Running}
use Rattle.aom_machine_state.specs.Progress.{progress_of}
use Rattle.aom_run.specs.Calls.{Stands, RefinesWithNatives}
use Rattle.aom_run.specs.declared.machine.HostedMachine.{HostedMachine}
use Rattle.aom_run.specs.Runs.{begins, CutOff, Filled, Moving, Sent}
use Rattle.aom_transcript.specs.Sinks.{after}
use Rattle.aom_run.proofs.Reaching.{moving_both}
use Rattle.aom_run.proofs.TranscriptLemmas.{after_both, after_none, cut_next, text_by_both}

-- of the lines so far, those that were told before among them, some are out, and the others are in the buffer
abbrev pub Part : (Line → List ℕ) → LineBuffer → LineBuffer → Option (List ℕ) → Option (List ℕ) → List Line → Type 0
Part reads reported buffer before out lines = (sent : List Line) × (sent ++ buffer.lines ≡ reported.lines ++ lines) × (out ≡ after before (text_by reads sent))

module _ {X : Type 0} {B : X → Type 0} where
  abbrev pub Underway : (Line → List ℕ) → HostedMachine X B → LineBuffer → Option (List ℕ) → Option (List ℕ) → LineBuffer → HostedMachine X B → Type 0
  Underway reads old reported before out buffer m = (s : State) → RefinesWithNatives old s
      → (lines : List Line) × (u : State) × Moving old.core.image reported.refused s lines u × Part reads reported buffer before out lines × RefinesWithNatives m u

  pub underway : (reads : Line → List ℕ) (m : HostedMachine X B) (reported : LineBuffer) (out : Option (List ℕ)) → Underway reads m reported out out reported m
  underway reads m reported out s stands = ([], s, begins, ([], sym (append-nil reported.lines), after_none out), stands)

  pub still_stands : (m new : HostedMachine X B) (buffer full : LineBuffer) (progress : Progress) → Stands m → Filled m progress buffer full new → Stands new
  still_stands m new buffer full progress stands f = let y = f stands.0 stands.1 in (y.1, y.5)

  -- nothing of a buffer changes but its lines
  pub cleared_same : (m new : HostedMachine X B) (reported buffer full clear : LineBuffer) (progress : Progress) → buffer ≡ record reported { lines = buffer.lines } →
      Stands m → Filled m progress buffer full new → clear ≡ record full { lines = [] } → clear ≡ record reported { lines = clear.lines }
  cleared_same m new reported buffer full clear progress same stands f is = grind (arith, nat_tests)

  module _ (reads : Line → List ℕ) (old m new : HostedMachine X B) (reported buffer full : LineBuffer) (before out : Option (List ℕ)) (progress : Progress)
      (w : Underway reads old reported before out buffer m) (image : m.core.image ≡ old.core.image) (same : buffer ≡ record reported { lines = buffer.lines })
      (f : Filled m progress buffer full new) where
    module _ (s : State) (stands : RefinesWithNatives old s) where
      -- steps that fill the buffer
      further : (lines : List Line) × (u : State) × Moving old.core.image reported.refused s lines u ×
          Part reads reported full before out lines × (full ≡ record reported { lines = full.lines }) × (progress ≡ progress_of u) × RefinesWithNatives new u
      further =
          let x = w s stands in
          let y = f x.1 x.4 in
          let refused : buffer.refused ≡ reported.refused = ap (λ (t : LineBuffer). t.refused) same in
          let moving = subst (λ q. Moving q reported.refused x.1 y.0 y.1) image (subst (λ r. Moving m.core.image r x.1 y.0 y.1) refused y.2) in
          let lines : full.lines ≡ buffer.lines ++ y.0 = ap (λ (t : LineBuffer). t.lines) y.3 in
          let all = ap (λ ls. x.3.0 ++ ls) lines ∙ sym (append_assoc x.3.0 buffer.lines y.0) ∙ ap (λ ls. ls ++ y.0) x.3.1 ∙ append_assoc reported.lines x.0 y.0 in
          let frame : full ≡ record reported { lines = full.lines } = grind (arith, nat_tests) in
          (x.0 ++ y.0, y.1, moving_both old.core.image reported.refused s x.0 x.1 y.0 y.1 x.2 moving, (x.3.0, all, x.3.2), frame, y.4, y.5)

    -- the sink failed
    pub cut_off : (now : Option (List ℕ)) (n : ℕ) → now ≡ after out (take n (text_by reads full.lines)) → CutOff reads old reported before now new
    cut_off now n e s stands =
        let x = further s stands in
        let a = text_by reads x.3.0 in
        let b = text_by reads full.lines in
        let all = sym (text_by_both reads x.3.0 full.lines) ∙ ap (text_by reads) x.3.1 in
        (x.0, x.1, x.2, grind (arith, nat_tests, cut_next before a b n), x.6)

    -- all that the buffer has is out, and it is cleared
    module _ (now : Option (List ℕ)) (clear : LineBuffer) (is : clear ≡ record full { lines = [] }) (e : now ≡ after out (text_by reads full.lines)) where
      all_out : (sent lines : List Line) → sent ++ full.lines ≡ reported.lines ++ lines → out ≡ after before (text_by reads sent) →
          now ≡ after before (text_by reads (reported.lines ++ lines))
      all_out sent lines all so_far = grind (arith, nat_tests, after_both before, text_by_both reads sent full.lines)

      pub underway_still : Underway reads old reported before now clear new
      underway_still s stands =
          let x = further s stands in
          let none : (reported.lines ++ x.0) ++ clear.lines ≡ reported.lines ++ x.0 = ap (λ (t : LineBuffer). (reported.lines ++ x.0) ++ t.lines) is ∙ append-nil _ in
          (x.0, x.1, x.2, (reported.lines ++ x.0, none, all_out x.3.0 x.0 x.3.1 x.3.2), x.6)

      pub is_sent : progress ≢ Running → Sent reads old progress reported clear before now new
      is_sent rests s stands = grind (arith, nat_tests, further s stands, all_out)
