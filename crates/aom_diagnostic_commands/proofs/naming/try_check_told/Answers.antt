-- The figures are told, or the verdict alone.
use Rattle.aom_diagnostic_commands.proofs.naming.try_check_told.Goals as goal

pub returns-then-prices : goal.returns-then-prices
returns-then-prices g c = rw c.if-prices.true c.try_prices_told.ensures

pub returns : goal.returns
returns g c = rw c.if-prices.false (rw c.image.ensures at c.try_check.ensures)
