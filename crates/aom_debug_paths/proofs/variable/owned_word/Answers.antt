-- Of the object that was found.
use Rattle.std.proofs.Common.{◌∙◌}
use Rattle.aom_debug_paths.specs.Paths.{owned_at}
use Rattle.aom_debug_paths.proofs.Named.{word_found}
use Rattle.aom_debug_paths.proofs.variable.owned_word.Goals as goal

pub returns-in-Some : goal.returns-in-Some
returns-in-Some c = λ s st.
    let has = rw c.linked.ensures at c.word_in.ensures in
    has c.args.accepted.now s st
    ∙ word_found c.args.accepted.now s.cells (owned_at s c.args.path.now) c.in-Some.found c.args.word (c.in-Some.ensures.found s st)
