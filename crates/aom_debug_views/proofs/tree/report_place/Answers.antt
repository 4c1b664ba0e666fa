-- All generations hang from an outer place.
use Rattle.std.proofs.Common.{[]}
use Rattle.std.proofs.lemmas.Result.{IfErr-weaker, IfOk-weaker}
use Rattle.aom_debug_views.proofs.Trees.{grown_cut, grown_reported, way_begins}
use Rattle.aom_debug_views.proofs.tree.report_place.Goals as goal

pub returns-clause-ok : goal.returns-clause-ok
returns-clause-ok g c = IfOk-weaker c.report_tree.result _ _ (λ _ reported p outer r is shows. grown_reported p c.args.parts.now c.args.names.now outer r _ _
    (reported p (record { outer = outer; branches = [] }) r (way_begins outer c.args.way is) shows)) c.report_tree.ensures.ok

pub returns-clause-err : goal.returns-clause-err
returns-clause-err g c = IfErr-weaker c.report_tree.result _ _ (λ fault cut p outer r is shows. grown_cut p c.args.parts.now c.args.names.now outer r _ _ _ _
    (cut p (record { outer = outer; branches = [] }) r (way_begins outer c.args.way is) shows)) c.report_tree.ensures.err
