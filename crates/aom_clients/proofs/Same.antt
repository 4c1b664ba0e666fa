-- Lists that are the same are kept alike, and tell the same state.
use Rattle.std.proofs.Common.{◌≡◌, ◌++◌, ℕ, List, length, take, drop, sym, ap, ◌∙◌, subst}
use Rattle.std.proofs.Math.Seq.{take-append_seam}
use Rattle.aom_clients.specs.Lists.{Table}
use Rattle.aom_clients.specs.declared.client.Client.{Client}
use Rattle.aom_clients.specs.declared.place.MessagePlace.{MessagePlace}
use Rattle.aom_clients.specs.Nodes.{ClientTablesAgree, state_of}

pub kept-as : (cl cl' : List Client) (pl pl' : List MessagePlace) (q q' cn cn' ss ss' st st' : Table) → cl' ≡ cl → pl' ≡ pl → q' ≡ q → cn' ≡ cn → ss' ≡ ss →
    st' ≡ st → ClientTablesAgree cl pl q cn ss st → ClientTablesAgree cl' pl' q' cn' ss' st'
kept-as cl cl' pl pl' q q' cn cn' ss ss' st st' a b c d e f r =
    subst (λ x. ClientTablesAgree x pl' q' cn' ss' st') (sym a) (subst (λ x. ClientTablesAgree cl x q' cn' ss' st') (sym b) (subst (λ x. ClientTablesAgree cl pl x cn' ss' st') (sym c)
    (subst (λ x. ClientTablesAgree cl pl q x ss' st') (sym d) (subst (λ x. ClientTablesAgree cl pl q cn x st') (sym e) (subst (λ x. ClientTablesAgree cl pl q cn ss x) (sym f) r)))))

pub state-as : (cl cl' : List Client) (pl pl' : List MessagePlace) (q q' ss ss' st st' : Table) → cl' ≡ cl → pl' ≡ pl → q' ≡ q → ss' ≡ ss → st' ≡ st
    → state_of cl' pl' q' ss' st' ≡ state_of cl pl q ss st
state-as cl cl' pl pl' q q' ss ss' st st' a b c e f = ap (λ x. state_of x pl' q' ss' st') a ∙ ap (λ x. state_of cl x q' ss' st') b
    ∙ ap (λ x. state_of cl pl x ss' st') c ∙ ap (λ x. state_of cl pl q x st') e ∙ ap (λ x. state_of cl pl q ss x) f

-- a list that a call wrote over, which was lent to it
pub written : {X : Type 0} (n : ℕ) (old was new : List X) → n ≡ length old → length new ≡ length was → was ≡ old → take n (new ++ drop (length new) old) ≡ new
written n old was new whole long borrowed =
    ap (λ k. take k (new ++ drop (length new) old)) (whole ∙ ap length (sym borrowed) ∙ sym long) ∙ take-append_seam new (drop (length new) old)
