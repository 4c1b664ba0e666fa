-- What goes out is the frame of the text, or a beginning of it.
use Rattle.std.proofs.Common.{◌∙◌, ◌++◌, ap, option_map, take}
use Rattle.aom_language_server.proofs.Sessions.{beginning_of_one, one_frame}
use Rattle.aom_language_server.proofs.serving.send.Goals as goal

-- src/serving.rt
pub returns-clause-whole : goal.returns-clause-whole
returns-clause-whole g c = λ lives.
    one_frame c.as_bytes.result.now _ _ (c.write_text.ensures.whole lives ∙ ap (λ t. option_map (λ s. s ++ t) (g.W.Sink.out c.args.out.now)) (c.deref.ensures.value ∙ c.in_ok-frame.ensures))

-- src/serving.rt
pub returns-clause-beginning : goal.returns-clause-beginning
returns-clause-beginning g c =
    let sent = c.write_text.ensures.prefix in
    beginning_of_one c.as_bytes.result.now sent.0 _ _ (sent.2 ∙ ap (λ t. option_map (λ s. s ++ take sent.0 t) (g.W.Sink.out c.args.out.now)) (c.deref.ensures.value ∙ c.in_ok-frame.ensures))
