-- What closes its sessions stands over its own going.
use Rattle.std.proofs.Common.{subst, sym, ◌∙◌}
use Rattle.std.proofs.lemmas.Option.{none-some, same_Some}
use Rattle.aom_cells.specs.Heap.{Lives}
use Rattle.aom_debug_stepping.proofs.NextPlaces.{closes_at, closes_next_reported}
use Rattle.aom_debug_stepping.proofs.next.closes_next.Goals as goal

pub begins-requires-clause-lives : goal.begins-requires-clause-lives
begins-requires-clause-lives c =
    let at = closes_at c.args.linked.now c.args.parts.now c.requires.stands.0 c.requires.stands.1 c.requires.closing in
    subst (Lives c.args.parts.now.cells) (same_Some _ _ (sym at.1.under ∙ sym c.under_top.ensures ∙ c.in-Some.is)) at.1.lives

pub returns-in-Some : goal.returns-in-Some
returns-in-Some c = λ s st.
    let at = closes_at c.args.linked.now c.args.parts.now s st c.requires.closing in
    let same = same_Some _ _ (sym at.1.under ∙ sym c.under_top.ensures ∙ c.in-Some.is) in
    closes_next_reported c.args.linked.now c.args.parts.now s st at.0 at.1 _ (c.begins.ensures s st _ (sym same ∙ at.1.number))

pub returns-in-None : goal.returns-in-None
returns-in-None c = λ s st.
    let at = closes_at c.args.linked.now c.args.parts.now s st c.requires.closing in
    absurd (none-some _ (sym c.in-None.is ∙ c.under_top.ensures ∙ at.1.under))
