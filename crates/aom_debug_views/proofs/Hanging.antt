-- What hangs from a series of places, each told by how many of the series lie below it: one after another is out, or a beginning of them.
use Rattle.std.proofs.Common.{◌≡◌, ◌<◌, ◌+◌, ℕ, Bool, List, Option, ap}
use Rattle.aom_semantics.specs.State.{State}
use Rattle.aom_machine_state.specs.Stands.{MachineModel, Refines}
use Rattle.aom_debug_protocol.specs.declared.fault.DebugFault.{DebugFault}
use Rattle.aom_debug_symbols.specs.NameLists.{NameLists}
use Rattle.aom_debug_views.specs.Owners.{Owned, owned_line, owners_text}
use Rattle.aom_debug_views.specs.CellViews.{counted}
use Rattle.aom_debug_views.specs.Reporting.{Reports, ReportsPart, gathered}
use Rattle.aom_debug_views.proofs.Reporting.{part_further, part_same, reports_further, reports_same}

-- which places are of the series, and what hangs from one of a number at a place
module _ (such : State → ℕ → Bool) (hangs_of : State → (number place : ℕ) → List Owned) where
  abbrev pub hangs : State → ℕ → List Owned
  hangs s k = hangs_of s (counted (such s) k) k

  module _ (ns : NameLists) (m : MachineModel) (n k : ℕ) (number : (s : State) → Refines m s → n ≡ counted (such s) k) (before here now : Option (List ℕ))
      (so_far : Reports m (λ s. owners_text ns (gathered (hangs s) k)) before here) where
    abbrev given : State → List ℕ
    given s = owners_text ns (hangs_of s n k)

    abbrev reported : State → List ℕ
    reported s = owners_text ns (hangs s k)

    -- the number is that of each state
    same : (s : State) → Refines m s → given s ≡ reported s
    same s st = ap (λ j. owners_text ns (hangs_of s j k)) (number s st)

    pub hangs_more : Reports m given here now → Reports m (λ s. owners_text ns (gathered (hangs s) (k + 1))) before now
    hangs_more out = reports_further (owned_line ns) m hangs k before here now so_far (reports_same m given reported same here now out)

    pub hangs_cut : (many : State → ℕ) → ((s : State) → Refines m s → k < many s) → (fault : DebugFault) (failed : Bool) →
        ReportsPart m given fault failed here now → ReportsPart m (λ s. owners_text ns (gathered (hangs s) (many s))) fault failed before now
    hangs_cut many within fault failed cut = part_further (owned_line ns) m hangs many k before here now fault failed so_far within
        (part_same m given reported same fault failed here now cut)
