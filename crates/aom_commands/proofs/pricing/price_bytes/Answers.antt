-- The bytes are the image that was priced, and no other.
use Rattle.aom_commands.proofs.Figuring.{written}
use Rattle.aom_commands.proofs.pricing.price_bytes.Goals as goal

pub returns-clause-ok : goal.returns-clause-ok
returns-clause-ok c =
    let checked = c.in_ok-checked.ensures.ok in
    let typing = c.in_ok-checked.ensures.typed in
    written c.args.names.now c.args.bytes.now _ typing.0 checked.0 checked.1 typing.1 c.in_ok-checked.ensures.only _ _ c.in_ok-priced.ensures
