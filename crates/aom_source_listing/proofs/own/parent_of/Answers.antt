-- The class of that name is the first.
use Rattle.std.proofs.Common.{rules}
use Rattle.aom_source_listing.proofs.Among.{parent_is}
use Rattle.aom_source_listing.proofs.own.parent_of.Goals as goal

pub returns : goal.returns
returns c = parent_is c.args.names.now c.args.class c.args.classes.now.items c.first_named.result (search rules) c.requires c.first_named.ensures
