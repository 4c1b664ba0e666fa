-- Where nothing is sent the output is as it was.
use Rattle.aom_language_server.proofs.Sessions.{nothing, whole_beginning}
use Rattle.aom_language_server.proofs.serving.send_any.Goals as goal

-- src/serving.rt
pub returns-in-None-clause-beginning : goal.returns-in-None-clause-beginning
returns-in-None-clause-beginning g c =
    whole_beginning (g.W.Sink.out c.args.out.now) (g.W.Sink.out c.args.out.now) (nothing (g.W.Sink.out c.args.out.now))
