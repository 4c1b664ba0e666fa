use Rattle.std.proofs.Common.{◌≡◌, ◌++◌, take, drop, length, subst, ap, arith, ◌∙◌}
use Rattle.aom_clients.specs.CircularLists.{AreOwn}
use Rattle.aom_clients.proofs.RingSteps.{own-written}
use Rattle.aom_clients.proofs.lists.own_numbers.Goals as goal

pub returns : goal.returns
returns c =
    let v = c.in_ok-numbers.numbers in
    let made = c.number.new.places in
    let long : length v.items ≡ v.len = omega (arith, v.ok.0) in
    let same : length made ≡ length v.items = c.number.auto.places ∙ ap length c.deref_mut.ensures.value in
    subst (λ n. AreOwn (take v.len (made ++ drop (length made) v.items)) n) c.in_ok-numbers.ensures.len (own-written _ made v.len long same c.number.ensures)
