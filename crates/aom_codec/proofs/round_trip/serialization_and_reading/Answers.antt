use Rattle.aom_codec.proofs.Lengths.{length_serialize}
use Rattle.aom_codec.proofs.Images.{read_again, serializes_back}
use Rattle.aom_codec.proofs.round_trip.serialization_and_reading.Goals as goal

pub returns-clause-serialized : goal.returns-clause-serialized
returns-clause-serialized c = read_again

pub returns-clause-size : goal.returns-clause-size
returns-clause-size c = λ i well. length_serialize i well.classes well.methods

pub returns-clause-read : goal.returns-clause-read
returns-clause-read c = serializes_back
