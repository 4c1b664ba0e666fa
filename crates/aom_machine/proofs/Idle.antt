-- Where nothing is at hand a machine stands for a state with other cells and clients once it is well typed, kept and agrees, and no token comes.
use Rattle.std.proofs.Common.{ap, arith, List, subst, sym, ℕ, ◌≡◌, []}
use Rattle.aom_clients.specs.declared.client.Client.{Client}
use Rattle.aom_image.specs.Image.{Image}
use Rattle.aom_roles.specs.Tables.{at}
use Rattle.aom_machine.proofs.SafetyLemmas.{NoneComes, apart_still}
use Rattle.aom_safety.specs.Kept.{ClientsFit, TasksKept}
use Rattle.aom_semantics.specs.Places.{Cell}
use Rattle.aom_semantics.specs.State.{Counters, State}
use Rattle.aom_safety.specs.WellTyped.{WellTyped}
use Rattle.aom_termination.specs.Left.{closings_left, objects_left}
use Rattle.aom_machine_state.specs.Agrees.{Agrees}
use Rattle.aom_machine_state.specs.Room.{AllRunUnder}
use Rattle.aom_machine_state.specs.Stands.{Refines}
use Rattle.aom_machine_state.specs.Waits.{OthersWait}
use Rattle.aom_machine_state.specs.declared.parts.Parts.{Parts}

module _ (p : Image) (m : Parts) (s : State) (st : Refines (record { image = p; parts = m }) s) (idle : s.tasks ≡ []) where
  -- with as much outstanding on the cleanup stack
  pub stands_idle : (new : Parts) (cs : List Cell) (clients : List Client) (r : Counters) (killed : List ℕ) → WellTyped p st.typing
      (record s { cells = cs; clients = clients; rest = r; killed = killed }) → ClientsFit p clients cs → NoneComes s.cells cs → objects_left st.sound.prices cs
      ≡ objects_left st.sound.prices s.cells → r.steps ≡ s.rest.steps → Agrees p new (record s { cells = cs; clients = clients; rest = r; killed = killed }) →
      Refines (record { image = p; parts = new }) (record s { cells = cs; clients = clients; rest = r; killed = killed })
  stands_idle new cs clients r killed typed fits none as_many steps agrees = record {
    typing = st.typing;
    sound = st.sound;
    typed = typed;
    only_quiet = st.only_quiet;
    traps = st.traps;
    room = record { under = st.room.under; runs = subst (λ ts. AllRunUnder p (at 0 st.sound.depths.depths) cs s.items ts) (sym idle) tt; fit = st.room.fit; entries = st.room.entries };
    waits = subst (λ ts. OthersWait p st.typing cs ts) (sym idle) tt;
    kept = record { fit = fits; stage = subst (λ ts. TasksKept p clients cs ts) (sym idle) tt; tokens = apart_still s.cells cs none st.kept.tokens };
    within = record { within = omega (arith, st.within.within, as_many, steps, ap (λ ts. closings_left p st.sound.prices cs ts) idle, ap (λ ts. closings_left p st.sound.prices s.cells ts) idle) };
    agrees = agrees;
  }
