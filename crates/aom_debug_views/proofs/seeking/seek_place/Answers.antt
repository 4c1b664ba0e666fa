-- All generations that hang from an outer place.
use Rattle.std.proofs.Common.{◌∙◌, [], ap, sym}
use Rattle.aom_debug_views.specs.Seeking.{text_if}
use Rattle.aom_debug_views.proofs.Sought.{grown_among}
use Rattle.aom_debug_views.proofs.Trees.{way_begins}
use Rattle.aom_debug_views.proofs.seeking.seek_place.Goals as goal

pub returns-then-seek_tree : goal.returns-then-seek_tree
returns-then-seek_tree c = λ p outer r is shows s st. ap (λ b. text_if b c.seek_tree.new.way) (sym c.if-seek_tree.true) ∙ grown_among c.args.sought s.cells outer r _
    (c.seek_tree.ensures.found p (record { outer = outer; branches = [] }) r (way_begins outer c.args.way is) shows s st)

pub returns-else-seek_tree : goal.returns-else-seek_tree
returns-else-seek_tree c = λ p outer r is shows s st. ap (λ b. text_if b c.seek_tree.new.way) (sym c.if-seek_tree.false) ∙ grown_among c.args.sought s.cells outer r _
    (c.seek_tree.ensures.found p (record { outer = outer; branches = [] }) r (way_begins outer c.args.way is) shows s st)
