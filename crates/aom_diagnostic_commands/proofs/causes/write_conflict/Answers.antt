-- The lead, the place, what does not agree, and the kinds.
use Rattle.std.proofs.Common.{◌++◌, codes}
use Rattle.std.proofs.lemmas.Result.{IfOk-weaker}
use Rattle.aom_diagnostic_commands.specs.Explained.{kinds_words, place_words}
use Rattle.aom_diagnostic_commands.proofs.Pieces.{both_out}
use Rattle.aom_diagnostic_commands.proofs.causes.write_conflict.Goals as goal

pub returns : goal.returns
returns c =
    let place = place_words c.args.told.now.text c.args.method c.args.conflict.now.from in
    let between = codes ", and does not agree with this: r" in
    let kinds = kinds_words c.args.told.now.names c.args.conflict.now.difference c.args.here in
    IfOk-weaker c.write_kinds.result _ _
    (λ done put.
    both_out c.args.out.now (codes "Another way comes here, from ") (place ++ (between ++ kinds)) c.words.new.self c.write_kinds.new.out c.in_ok-words.ensures
    (both_out c.words.new.self place (between ++ kinds) c.write_place.new.out c.write_kinds.new.out c.in_ok-write_place.ensures
    (both_out c.write_place.new.out between kinds c.words-2.new.self c.write_kinds.new.out c.in_ok-words-2.ensures put)))
    (rw (← c.told.view_is) c.write_kinds.ensures)
