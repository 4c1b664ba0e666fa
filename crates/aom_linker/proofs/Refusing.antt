-- An image that fails a condition is refused by it.
use Rattle.aom_image.specs.Image.{Image}
use Rattle.aom_link_conditions.specs.Faults.{Fails, RefusesOrWants}
use Rattle.aom_link_conditions.specs.declared.fault.LinkFault.{LinkFault}
use Rattle.aom_link_conditions.specs.declared.fault.LinkFault.TheVariants.{OutOfMemory}

pub refuses : (p : Image) (fault : LinkFault) → Fails p fault → RefusesOrWants p fault
unfolding Fails RefusesOrWants
refuses p OutOfMemory f = absurd f
refuses p fault f = f
