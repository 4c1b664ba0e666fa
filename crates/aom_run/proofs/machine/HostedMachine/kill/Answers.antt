use Rattle.std.proofs.Common.{◌∙◌, sym}
use Rattle.std.proofs.lemmas.Bool.{true≢false}
use Rattle.aom_transcript.specs.declared.event.Event.TheVariants.{Kill}
use Rattle.aom_run.proofs.Serving.{observed_only, unreported_but}
use Rattle.aom_run.proofs.Ending.{kills_nothing, kills_one, line_more}
use Rattle.aom_run.proofs.machine.HostedMachine.kill.Goals as goal

-- one that does not live is killed no more
pub returns-then-not-is_alive-clause-delivered : goal.returns-then-not-is_alive-clause-delivered
returns-then-not-is_alive-clause-delivered g c =
    let e = c.observe_event.ensures in
    observed_only c.args.self.now c.observe_event.new.self e.image (Kill c.args.native) c.args.lines.now
    (kills_nothing c.args.self.now _ e.image _ (sym c.is_alive.ensures ∙ c.if-not-is_alive.true) (λ now s st. e.observed now s st.stands) _) e.rest e.back e.timers

-- one that lives is
pub returns-clause-delivered : goal.returns-clause-delivered
returns-clause-delivered g c =
    let e = c.kill-2.ensures in
    record {
      image = e.image;
      natives = record { count = c.kill.ensures.others.count; at = unreported_but _ _ c.args.native c.kill.ensures.others };
      delivered = kills_one c.args.self.now (record { core = c.kill-2.new.self; natives = c.kill.new.self }) e.image c.args.native (sym c.is_alive.ensures
          ∙ c.if-not-is_alive.false) c.kill.ensures.dead c.kill.ensures.others c.args.lines.now c.kill-2.new.lines (λ s st. e.killed s st.stands);
      rest = e.rest;
      timers = e.timers;
      reported = line_more _ c.kill-2.new.self _ c.args.native c.args.lines.now c.kill-2.new.lines (e.killed c.requires.rests.0.0 c.requires.rests.0.1.stands);
      quiet = λ is. absurd (true≢false is);
      none_due = λ is. absurd (true≢false is);
    }

pub observe_event-requires-clause-few : goal.observe_event-requires-clause-few
observe_event-requires-clause-few g c = c.requires.few

pub returns-then-not-is_alive-clause-agree : goal.returns-then-not-is_alive-clause-agree
returns-then-not-is_alive-clause-agree g c = c.requires.agree

pub kill-requires-clause-agree : goal.kill-requires-clause-agree
kill-requires-clause-agree g c = c.requires.agree

pub kill-requires-2-clause-few : goal.kill-requires-2-clause-few
kill-requires-2-clause-few g c = c.requires.few

pub kill-requires-2-clause-room : goal.kill-requires-2-clause-room
kill-requires-2-clause-room g c = c.requires.room

pub returns-clause-agree : goal.returns-clause-agree
returns-clause-agree g c = c.kill.ensures.agree
