-- The names in what was written are those of the source.
use Rattle.aom_source_listing.specs.Listing.{AreClassesNamed, AreMembersNamed, AreMethodsNamed}
use Rattle.aom_source_tokens.specs.Tokens.{Source}
use Rattle.aom_source.specs.Map.{tokens_of}
use Rattle.aom_source.specs.declared.writing.Written.{Written}

-- those of classes, of methods, and those of words and fields in the comments of classes
abbrev pub HasClassNames : Source → Written → Type 0
HasClassNames s w = AreClassesNamed s (tokens_of w.origins.items) w.text.items

abbrev pub HasMethodNames : Source → Written → Type 0
HasMethodNames s w = AreMethodsNamed s (tokens_of w.origins.items) w.text.items

abbrev pub HasMemberNames : Source → Written → Type 0
HasMemberNames s w = AreMembersNamed s (tokens_of w.origins.items) w.text.items
