-- How a machine begins.
use Rattle.std.specs.Prelude.{ℕ, ◌≡◌, false, replicate, [], ◌∷◌, Some, None}
use Rattle.aom_image.specs.Image.{Image}
use Rattle.aom_image.specs.WellFormed.{WellFormed}
use Rattle.aom_link_conditions.specs.Roles.{main_of}
use Rattle.aom_cells.specs.Heap.{null}
use Rattle.aom_frames.specs.Tasks.{fresh}
use Rattle.aom_frames.specs.declared.task.Task.TheVariants.{Run, Trapped, Dispatched}
use Rattle.aom_frames.specs.declared.dispatch.Dispatch.TheVariants.{Main}
use Rattle.aom_frames.specs.declared.item.Item.TheVariants.{Mark}
use Rattle.aom_active_objects.specs.Agrees.{RefinesRequests}
use Rattle.aom_clients.specs.Clients.{at_first}
use Rattle.aom_clients.specs.Lists.{empty as no_list}
use Rattle.aom_cells.specs.Tokens.{none_of}
use Rattle.aom_machine_state.specs.declared.parts.Parts.{Parts}

-- time 0, main at hand under its trap, the mark of the trap, no cell, no message, and no client that asked for anything
pub record Booted (p : Image) (m : Parts) : Type 0 where
  pub formed : WellFormed p
  pub main : ℕ
  pub is_main : main_of p ≡ Some main
  pub tasks : m.stack.tasks ≡ Run (fresh main null) ∷ Trapped ∷ Dispatched Main ∷ []
  pub depth : m.stack.depth ≡ 2048
  pub cells : m.cells ≡ record { slots = []; limit = p.header.cells }
  pub entries : m.entries ≡ record { items = Mark ∷ []; depth = 1024 }
  pub requests : RefinesRequests m.active (λ n. None) (λ n. None)
  pub numbers : m.active.table.limit ≡ p.header.cells
  pub sessions : m.sessions ≡ record { flags = replicate p.header.cells false; killed = [] }
  pub root : m.root ≡ null
  pub clients : m.clients ≡ at_first p.header.cells
  pub messages : m.messages ≡ record { slots = []; limit = p.header.messages }
  pub tokens : m.tokens ≡ none_of p.header.messages p.header.cells
  pub listed : m.listed ≡ no_list p.header.cells 256
  pub served : m.served ≡ null
  pub rest : m.rest ≡ record { clock = 0; requests = 0; steps = 0; dispatches = 0; announced = false; stopped = false; delivered = 0; polled = 0; ended = None }
