-- A session over reads one after another: each gives some bytes, until one tells the end, fails, or is one too many.
use Rattle.std.proofs.Common.{◌≡◌, ◌∙◌, ◌<◌, ◌≤◌, ◌+◌, ℕ, Bool, true, false, List, [], ◌++◌, Option, length, sym, ap, subst, inl, inr, arith}
use Rattle.std.proofs.lemmas.List.{length-append}
use Rattle.aom_semantics.specs.State.{State}
use Rattle.aom_run.specs.Calls.{RefinesWithNatives}
use Rattle.aom_transcript.specs.Sinks.{after}
use Rattle.aom_debug.proofs.DebugSteppingLemmas.{after_both, after_none}
use Rattle.aom_debug_protocol.specs.Lines.{Kept, pending_of}
use Rattle.aom_debug.specs.Runners.{outside_of}
use Rattle.aom_debug.specs.declared.debugger.Debugger.{Debugger}
use Rattle.aom_debug.specs.SessionLoop.{BreaksDown, BreaksOff, Ends, GoesOn, HoldsAll, StopsShort, SessionInvariant}
use Rattle.aom_debug.specs.Observing.{standing}
use Rattle.aom_debug.proofs.SessionInvariants.{session_invariant_first, session_invariant_stop}

module _ {X : Type 0} {B : X → Type 0} where
  -- after so many reads, of which each gave some bytes: a session over the whole lines of them is out
  pub record ReadInvariant (a d : Debugger X B) (kept : Kept) (reads : ℕ) (given gives before now : Option (List ℕ)) : Type 0 where
    pub goes : (s : State) → RefinesWithNatives a.runner.machine s → (text : List ℕ) × (gives ≡ after given text) × (reads ≤ length text)
        × SessionInvariant a.runner.machine.core.image (outside_of a.runner) (standing a s) text d kept before now

  pub read_invariant_first : (a : Debugger X B) (kept : Kept) (given before : Option (List ℕ)) → a.has_failed ≡ false → kept ≡ pending_of [] →
      ReadInvariant a a kept 0 given given before before
  read_invariant_first a kept given before well is = record {
    goes = λ s stands. (
      [],
      after_none given,
      omega arith,
      subst (λ k. SessionInvariant a.runner.machine.core.image (outside_of a.runner) (standing a s) [] a k before before)
          (sym is) (session_invariant_first a.runner.machine.core.image (outside_of a.runner) (standing a s) [] before a s stands well),
    );
  }

  module _ (a d : Debugger X B) (kept : Kept) (reads : ℕ) (given mid before here : Option (List ℕ)) (read_invariant : ReadInvariant a d kept reads given mid before here) where
    -- what has come with bytes more
    more : (text bytes : List ℕ) (gives : Option (List ℕ)) → mid ≡ after given text → gives ≡ after mid bytes → gives ≡ after given (text ++ bytes)
    more text bytes gives was is = is ∙ ap (λ o. after o bytes) was ∙ after_both given text bytes

    -- a read that gives some
    pub read_invariant_on : (new : Debugger X B) (then : Kept) (bytes : List ℕ) (gives now : Option (List ℕ)) →
        0 < length bytes → gives ≡ after mid bytes → GoesOn d kept here bytes new then now → ReadInvariant a new then (reads + 1) given gives before now
    read_invariant_on new then bytes gives now some is goes = record {
      goes = λ s stands.
          let t = read_invariant.goes s stands in (
            t.0 ++ bytes,
            more t.0 bytes gives t.1 is,
            omega (arith, length-append t.0 bytes, t.2, some),
            goes a.runner.machine.core.image (outside_of a.runner) (standing a s) t.0 before t.3,
          );
    }

    -- one in which the output fails
    pub read_invariant_breaks : (bytes : List ℕ) (gives now : Option (List ℕ)) (ended had has_write_failed failed : Bool) → gives ≡ after mid bytes → BreaksOff d kept here bytes now
        failed → BreaksDown a (record { before = given; now = gives; ended = ended; had_failed = had; failed = has_write_failed }) before now failed
    read_invariant_breaks bytes gives now ended had has_write_failed failed is breaks = λ s stands.
        let t = read_invariant.goes s stands in
        (t.0 ++ bytes, (more t.0 bytes gives t.1 is, breaks a.runner.machine.core.image (outside_of a.runner) (standing a s) t.0 before t.3))

    -- the one that tells the end
    pub read_invariant_ends : (gives now : Option (List ℕ)) (ended had has_write_failed : Bool) → gives ≡ after mid [] → ended ≡ true →
        has_write_failed ≡ had → Ends d kept here now → HoldsAll a (record { before = given; now = gives; ended = ended; had_failed = had; failed = has_write_failed }) before now
    read_invariant_ends gives now ended had has_write_failed is end same ends = λ s stands.
        let t = read_invariant.goes s stands in
        (t.0, ((is ∙ sym (after_none mid) ∙ t.1, end, same), ends a.runner.machine.core.image (outside_of a.runner) (standing a s) t.0 before t.3))

    -- one that fails
    pub read_invariant_fails : (most : ℕ) (gives : Option (List ℕ)) (ended had has_write_failed : Bool) →
        gives ≡ mid → has_write_failed ≡ true → StopsShort most a (record { before = given; now = gives; ended = ended; had_failed = had; failed = has_write_failed }) before here
    read_invariant_fails most gives ended had has_write_failed is fails = λ s stands.
        let t = read_invariant.goes s stands in
        (t.0, ((is ∙ t.1, inl fails), session_invariant_stop a.runner.machine.core.image (outside_of a.runner) (standing a s) t.0 before d kept here t.3))

    -- or there may be no more
    pub read_invariant_stops : (most : ℕ) (ended had has_write_failed : Bool) → most ≤ reads →
        StopsShort most a (record { before = given; now = mid; ended = ended; had_failed = had; failed = has_write_failed }) before here
    read_invariant_stops most ended had has_write_failed all = λ s stands.
        let t = read_invariant.goes s stands in
        (t.0, ((t.1, inr (omega (arith, all, t.2))), session_invariant_stop a.runner.machine.core.image (outside_of a.runner) (standing a s) t.0 before d kept here t.3))
