-- What the walk keeps beside depths and heights: by what names it, the greatest of all that may run.
use Rattle.std.specs.Prelude.{◌≡◌, length}
use Rattle.aom_image.specs.Image.{Image}
use Rattle.aom_budget.specs.Greatest.{IsCalled, IsCancelled, IsGone}
use Rattle.aom_budget.specs.declared.finder.DepthSearch as finders

pub record AreReached (p : Image) (f : finders.DepthSearch) : Type 0 where
  pub deep : length f.depths ≡ length p.methods
  pub high : length f.heights ≡ length p.methods
  pub called : IsCalled p f.depths f.called
  pub entered : IsCalled p f.heights f.entered
  pub cancelled : IsCancelled p f.depths f.cancelled
  pub gone : IsGone p f.depths f.gone
