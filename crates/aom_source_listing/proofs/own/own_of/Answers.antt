-- The members of a class are among those of all.
use Rattle.std.proofs.Common.{◌∙◌, ap}
use Rattle.std.specs.List.{filter}
use Rattle.aom_source_listing.specs.Own.{fits}
use Rattle.aom_source_listing.specs.declared.own.Member.TheVariants as m
use Rattle.aom_source_listing.specs.declared.own.Sought.TheVariants as sought
use Rattle.aom_source_listing.proofs.Among.{own_of_all}
use Rattle.aom_source_listing.proofs.own.own_of.Goals as goal

pub returns : goal.returns
returns c =
    let s = c.args.names.now in
    let class = c.args.class in
    record {
      parent = c.parent_of.ensures;
      words = c.in_ok-those.ensures ∙ ap (filter (fits s (sought.Own m.Word class))) c.requires.members ∙ own_of_all s m.Word class;
      fields = c.in_ok-those-2.ensures ∙ ap (filter (fits s (sought.Own m.Field class))) c.requires.members ∙ own_of_all s m.Field class;
    }
