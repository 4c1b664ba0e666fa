-- What the machine keeps of clients and servers, as one.
use Rattle.std.specs.Prelude.{List}
use Rattle.aom_clients.specs.Clients.{ClientsState}
use Rattle.aom_clients.specs.declared.client.Client.{Client}
use Rattle.aom_image.specs.Image.{Image}
use Rattle.aom_cells.specs.Store.{Store}
use Rattle.aom_clients.specs.Lists.{Table}
use Rattle.aom_semantics.specs.Places.{Cell}
use Rattle.aom_machine_state.specs.Listing.{SameListed}
use Rattle.aom_machine_state.specs.Messages.{SameMessages}
use Rattle.aom_machine_state.specs.Serving.{AreSized, SameClients}
use Rattle.aom_machine_state.specs.Tokens.{SameTokens}
use Rattle.aom_cells.specs.Tokens.{Kept}

-- what clients are at and what waits at servers, the messages and the tokens among them, and the servers of each class are those of the checked machine
pub record SameServices (p : Image) (s : ClientsState) (store : Store) (handed : Kept) (table : Table) (cs : List Cell) (at : List Client) : Type 0 where
  pub clients : SameClients s cs at
  pub sized : AreSized p.header.cells s
  pub messages : SameMessages p store cs
  pub tokens : SameTokens p handed cs
  pub listed : SameListed p table cs
