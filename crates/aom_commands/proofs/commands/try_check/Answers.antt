-- The figures are told, or the verdict alone.
use Rattle.aom_commands.proofs.commands.try_check.Goals as goal

pub returns-then-prices : goal.returns-then-prices
returns-then-prices g c = rw c.if-prices.true c.try_prices.ensures

pub returns : goal.returns
returns g c = rw c.if-prices.false c.try_verdict.ensures
