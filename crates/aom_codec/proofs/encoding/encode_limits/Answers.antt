-- The limits are put one behind the other.
use Rattle.std.proofs.Common.{◌∙◌, append_assoc}
use Rattle.std.proofs.lemmas.Result.{on_ok_weaker}
use Rattle.aom_codec.proofs.encoding.encode_limits.Goals as goal

pub returns : goal.returns
returns c = on_ok_weaker c.encode_u32.result (λ last. last ∙ rw (
  c.in_ok-encode_u16-4.ensures,
  c.in_ok-encode_u16-3.ensures,
  c.class_number.ensures,
  c.in_ok-push-2.ensures.items,
  c.in_ok-push.ensures.items,
  c.in_ok-encode_u16-2.ensures,
  c.in_ok-encode_u16.ensures,
) (simp append_assoc)) c.encode_u32.ensures
