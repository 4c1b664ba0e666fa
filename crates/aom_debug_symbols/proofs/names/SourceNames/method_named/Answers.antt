-- The place of a name among names that are lent is that among the names.
use Rattle.std.proofs.Common.{◌∙◌, ap}
use Rattle.aom_debug_symbols.specs.NameLists.{NameLists, method_named}
use Rattle.aom_debug_symbols.proofs.Named.{position_lent}
use Rattle.aom_debug_symbols.proofs.names.SourceNames.method_named.Goals as goal

pub returns : goal.returns
returns c = c.index_of.ensures ∙ position_lent c.args.name.now c.self.inside.methods.now ∙ ap (λ (ns : NameLists). method_named ns c.args.name.now) c.self.view_is
