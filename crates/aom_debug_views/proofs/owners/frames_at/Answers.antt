-- One where a frame stands there.
use Rattle.std.proofs.Common.{◌∙◌, ap, cond}
use Rattle.std.specs.Prelude.{is_some}
use Rattle.aom_debug_views.proofs.Tasks.{frames_reported}
use Rattle.aom_debug_views.proofs.owners.frames_at.Goals as goal

pub returns-in-Some-clause-value : goal.returns-in-Some-clause-value
returns-in-Some-clause-value c = λ p s st. ap (λ o. cond (is_some o) 1 0) c.in-Some.ensures ∙ ap (λ b. cond b 1 0) (frames_reported p c.args.parts.now s st _)

pub returns-in-None-clause-value : goal.returns-in-None-clause-value
returns-in-None-clause-value c = λ p s st. ap (λ o. cond (is_some o) 1 0) c.in-None.ensures ∙ ap (λ b. cond b 1 0) (frames_reported p c.args.parts.now s st _)
