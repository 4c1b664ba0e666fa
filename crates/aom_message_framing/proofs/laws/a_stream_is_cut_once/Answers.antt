-- What a frame begins with says where it ends.
use Rattle.aom_message_framing.proofs.Cutting.{cut_once}
use Rattle.aom_message_framing.proofs.laws.a_stream_is_cut_once.Goals as goal

pub returns : goal.returns
returns c = cut_once
