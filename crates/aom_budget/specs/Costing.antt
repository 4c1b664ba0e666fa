-- What is kept beside the prices of the methods: by what names it, the most over all that may run.
use Rattle.std.specs.Prelude.{ℕ, ◌≡◌, List, length}
use Rattle.aom_image.specs.Image.{Image}
use Rattle.aom_image.specs.declared.method.Thing.TheVariants.{Object}
use Rattle.aom_roles.specs.Tables.{at}
use Rattle.aom_budget.specs.Greatest.{IsCalled, IsCancelled}
use Rattle.aom_budget.specs.Pricing.{destruction_by}
use Rattle.aom_budget.specs.declared.costs.Costs as found

-- what the destruction of each class costs; a class that is not there has nothing that runs
pub record IsDestroyed (p : Image) (prices table : List ℕ) : Type 0 where
  pub size : length table ≡ length p.classes
  pub each : (c : ℕ) → at 1 table c ≡ destruction_by p prices (Object c)

pub record AreCosts (p : Image) (c : found.Costs) : Type 0 where
  pub size : length c.prices ≡ length p.methods
  pub called : IsCalled p c.prices c.called
  pub cancelled : IsCancelled p c.prices c.cancelled
  pub destroyed : IsDestroyed p c.prices c.destroyed
