-- Each read goes on with the session, tells its end, fails, or is one too many.
use Rattle.std.proofs.Common.{◌≡◌, ◌∙◌, ◌<◌, ◌≤◌, ℕ, List, [], Some, ap, arith, inl, inr, length, refl, take}
use Rattle.std.proofs.lemmas.List.{length-take}
use Rattle.std.proofs.lemmas.Result.{IfErr-weaker, IfOk-weaker, err_from_is_err_and}
use Rattle.aom_transcript.specs.Sinks.{after}
use Rattle.aom_debug.proofs.Reading.{read_invariant_breaks, read_invariant_ends, read_invariant_fails, read_invariant_first, read_invariant_on, read_invariant_stops}
use Rattle.aom_debug.proofs.session_loop.run_session.Goals as goal

-- so many bytes of a buffer that has more are some
some_taken : (buffer : List ℕ) (count long : ℕ) → count ≤ long → length buffer ≡ long → (count ≡ 0 → ⊥) → 0 < length (take count buffer)
some_taken buffer count long within is some = let l = length-take count buffer in grind (arith, l, within, is, some)

pub loop-init : goal.loop-init
loop-init g c = record {
  read_invariant = read_invariant_first c.args.debugger.now c.new-pending.result (g.R.Reader.given c.args.reader.now)
      (g.W.Sink.out c.args.out.now) c.requires.well c.new-pending.ensures;
  lives = refl;
  long = refl;
  well = c.requires.well;
  ready = c.requires.ready;
  agree = c.requires.agree;
}

pub loop-preserved : goal.loop-preserved
loop-preserved g c =
    let buffer = c.get.new.buffer in
    let count = c.in-Some.count in
    record {
      read_invariant = read_invariant_on c.args.debugger.now c.loop.debugger c.loop.pending c.loop.counter (g.R.Reader.given c.args.reader.now) (g.R.Reader.given c.loop.reader)
          (g.W.Sink.out c.args.out.now) (g.W.Sink.out c.loop.out) c.loop.invariant.read_invariant c.observe.new.debugger c.observe.new.pending
          (take count buffer) (g.R.Reader.given c.get.new.self) (g.W.Sink.out c.observe.new.out) (some_taken buffer count (length c.loop.buffer)
          c.in-Some.ensures.within c.in-Some.ensures.long c.in-Some.count-test.1) c.in-Some.ensures.gives c.in_ok-observe-in-Some.ensures.ok;
      lives = c.in-Some.ensures.lives ∙ c.loop.invariant.lives;
      long = c.in-Some.ensures.long ∙ c.loop.invariant.long;
      well = c.in_ok-observe-in-Some.ensures.well;
      ready = c.observe.ensures.ready;
      agree = c.observe.ensures.agree;
    }

pub returns-in-None-clause-err : goal.returns-in-None-clause-err
returns-in-None-clause-err g c = inl (
  refl,
  read_invariant_fails c.args.debugger.now c.loop.debugger c.loop.pending c.loop.counter (g.R.Reader.given c.args.reader.now) (g.R.Reader.given c.loop.reader)
      (g.W.Sink.out c.args.out.now) (g.W.Sink.out c.loop.out) c.loop.invariant.read_invariant c.args.reads (g.R.Reader.given c.get.new.self) (g.R.Reader.ended
      c.get.new.self) (g.R.Reader.failed c.args.reader.now) (g.R.Reader.failed c.get.new.self) c.in-None.ensures.fails.0 c.in-None.ensures.fails.1,
)

pub returns-in-Some-eq0-clause-ok : goal.returns-in-Some-eq0-clause-ok
returns-in-Some-eq0-clause-ok g c =
    let zero = c.in-Some-eq0.field-0-test in
    let gives = c.in-Some-eq0.ensures.gives ∙ ap (λ n. after (g.R.Reader.given c.loop.reader) (take n c.get.new.buffer)) zero in
    let ended = c.in-Some-eq0.ensures.ends (ap (λ (n : ℕ). Some n) zero) (omega (arith, c.loop.invariant.long)) in
    IfOk-weaker c.end.result _ _ (λ done ends.
    read_invariant_ends c.args.debugger.now c.loop.debugger c.loop.pending c.loop.counter
    (g.R.Reader.given c.args.reader.now) (g.R.Reader.given c.loop.reader) (g.W.Sink.out c.args.out.now) (g.W.Sink.out c.loop.out) c.loop.invariant.read_invariant
    (g.R.Reader.given c.get.new.self) (g.W.Sink.out c.end.new.out) (g.R.Reader.ended c.get.new.self) (g.R.Reader.failed c.args.reader.now)
    (g.R.Reader.failed c.get.new.self) gives ended (c.in-Some-eq0.ensures.lives ∙ c.loop.invariant.lives) ends) c.end.ensures.ok

pub returns-in-Some-eq0-clause-err : goal.returns-in-Some-eq0-clause-err
returns-in-Some-eq0-clause-err g c =
    let gives = c.in-Some-eq0.ensures.gives ∙ ap (λ n. after (g.R.Reader.given c.loop.reader) (take n c.get.new.buffer)) c.in-Some-eq0.field-0-test in
    IfErr-weaker c.end.result _ _ (λ why breaks. inr (
      breaks.0,
      read_invariant_breaks c.args.debugger.now c.loop.debugger c.loop.pending c.loop.counter
          (g.R.Reader.given c.args.reader.now) (g.R.Reader.given c.loop.reader) (g.W.Sink.out c.args.out.now) (g.W.Sink.out c.loop.out) c.loop.invariant.read_invariant
          [] (g.R.Reader.given c.get.new.self) (g.W.Sink.out c.end.new.out) (g.R.Reader.ended c.get.new.self)
          (g.R.Reader.failed c.args.reader.now) (g.R.Reader.failed c.get.new.self) (g.W.Sink.failed c.end.new.out) gives breaks.1,
    )) c.end.ensures.err

pub returns-in_err-observe-in-Some-clause-err : goal.returns-in_err-observe-in-Some-clause-err
returns-in_err-observe-in-Some-clause-err g c =
    let e = err_from_is_err_and c.from_residual.result c.from_residual.ensures.1 in
    rw e.1 (inr (
      e.2 ∙ c.in_err-observe-in-Some.ensures.err.0,
      read_invariant_breaks c.args.debugger.now c.loop.debugger c.loop.pending c.loop.counter (g.R.Reader.given c.args.reader.now) (g.R.Reader.given c.loop.reader)
          (g.W.Sink.out c.args.out.now) (g.W.Sink.out c.loop.out) c.loop.invariant.read_invariant (take c.in-Some.count c.get.new.buffer)
          (g.R.Reader.given c.get.new.self) (g.W.Sink.out c.observe.new.out) (g.R.Reader.ended c.get.new.self) (g.R.Reader.failed c.args.reader.now)
          (g.R.Reader.failed c.get.new.self) (g.W.Sink.failed c.observe.new.out) c.in-Some.ensures.gives c.in_err-observe-in-Some.ensures.err.1,
    ))

pub returns-clause-err : goal.returns-clause-err
returns-clause-err g c = inl (
  refl,
  read_invariant_stops c.args.debugger.now c.loop.debugger c.loop.pending c.loop.counter
      (g.R.Reader.given c.args.reader.now) (g.R.Reader.given c.loop.reader) (g.W.Sink.out c.args.out.now) (g.W.Sink.out c.loop.out) c.loop.invariant.read_invariant
      c.args.reads (g.R.Reader.ended c.loop.reader) (g.R.Reader.failed c.args.reader.now) (g.R.Reader.failed c.loop.reader) c.loop-test.false,
)
