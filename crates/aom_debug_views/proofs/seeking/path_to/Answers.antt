-- Where an object of that number lives.
use Rattle.std.proofs.Common.{◌∙◌, ap, refl, sym}
use Rattle.std.specs.Prelude.{option_map}
use Rattle.std.proofs.lemmas.Bool.{false≢true}
use Rattle.aom_cells.specs.Heap.{cell_at}
use Rattle.aom_debug_views.specs.Owners.{owners, way_text}
use Rattle.aom_debug_views.specs.Seeking.{way_among, way_if}
use Rattle.aom_debug_views.proofs.Showing.{class_named}
use Rattle.aom_debug_views.proofs.Sought.{has_class, no_class}
use Rattle.aom_debug_views.proofs.seeking.path_to.Goals as goal

pub returns-in-Some : goal.returns-in-Some
returns-in-Some c = λ s st.
    let p = c.args.accepted.now in
    let m = c.args.parts.now in
    let n = c.args.number in
    let class = has_class (cell_at m.cells n) (c.in-Some.ensures.lives.0 refl) in
    let all = rw (c.checked.ensures, c.in-Some.ensures.value) at c.seek_all.ensures in
    all s st ∙ ap (λ k. option_map way_text (way_if k (way_among n (owners s)))) (sym class.1 ∙ class_named p m s st n)

pub returns-in-None : goal.returns-in-None
returns-in-None c = λ s st.
    let p = c.args.accepted.now in
    let m = c.args.parts.now in
    let n = c.args.number in
    ap (λ k. option_map way_text (way_if k (way_among n (owners s))))
    (sym (no_class (cell_at m.cells n) (λ l. false≢true (c.in-None.ensures.lives.1 l))) ∙ class_named p m s st n)
