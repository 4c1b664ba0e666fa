-- A cell is engaged where something is outstanding, or its session is open.
use Rattle.std.proofs.Common.{Bool, ap, false, refl, sym, true, ◌∙◌, ◌≡◌}
use Rattle.std.specs.Prelude.{◌&&◌, ◌||◌}
use Rattle.aom_cells.specs.Heap.{class_at}
use Rattle.aom_cells.specs.Sessions.{is_open}
use Rattle.aom_semantics.specs.Natives.{is_owed}
use Rattle.aom_machine.specs.Serving.{serves_class}
use Rattle.aom_machine.proofs.Served.{served_class, unserved_class}
use Rattle.aom_machine.proofs.natives.is_engaged.Goals as goal
use Rattle.aom_machine.proofs.natives.is_engaged.Goals.{else-not-is_pending-via-then-not-is_pending+else-not-is_open}
use Rattle.aom_machine.proofs.natives.is_engaged.Goals.{else-not-is_pending-via-else-not-is_pending}

pub returns-then-not-is_open : goal.returns-then-not-is_open
returns-then-not-is_open c = λ asked queues stands.
    let m = c.args.parts.now in
    let id = c.args.id in
    let serves = serves_class c.args.linked.now c.args.native (class_at m.cells id) in
    let owed = sym (c.is_pending.ensures asked queues stands) ∙ c.if-not-is_pending.true in
    let open_here = sym c.is_open.ensures ∙ c.if-not-is_open.true in
    sym (ap (λ b. (b || is_open m.sessions id) && serves) owed ∙ ap (λ b. b && serves) open_here)

pub serving-requires-clause-lives : goal.serving-requires-clause-lives
serving-requires-clause-lives c =
    let asked = c.requires.lives.0 in
    let queues = c.requires.lives.1 in
    let stands = c.requires.lives.2 in
    let open_here = is_open c.args.parts.now.sessions c.args.id in
    let engaged : (is_owed (asked c.args.id) || open_here) ≡ true = elim c.else-not-is_pending.branch [
      | else-not-is_pending-via-then-not-is_pending+else-not-is_open w ↦ ap (λ b. b || open_here)
          (sym (c.is_pending.ensures asked queues stands) ∙ w.if-not-is_pending.true) ∙ sym w.is_open.ensures ∙ w.if-not-is_open.false
      | else-not-is_pending-via-else-not-is_pending w ↦ ap (λ b. b || open_here) (sym (c.is_pending.ensures asked queues stands) ∙ w.if-not-is_pending.false)
    ] in
    rw c.number.ensures.value (c.requires.lives.3 engaged)

pub returns-in-Some : goal.returns-in-Some
returns-in-Some c = λ asked queues stands.
    let class = class_at c.args.parts.now.cells c.args.id in
    let open_here = is_open c.args.parts.now.sessions c.args.id in
    let engaged : (is_owed (asked c.args.id) || open_here) ≡ true = elim c.else-not-is_pending.branch [
      | else-not-is_pending-via-then-not-is_pending+else-not-is_open w ↦ ap (λ b. b || open_here)
          (sym (c.is_pending.ensures asked queues stands) ∙ w.if-not-is_pending.true) ∙ sym w.is_open.ensures ∙ w.if-not-is_open.false
      | else-not-is_pending-via-else-not-is_pending w ↦ ap (λ b. b || open_here) (sym (c.is_pending.ensures asked queues stands) ∙ w.if-not-is_pending.false)
    ] in
    let serves = rw c.number.ensures.value at c.serving.ensures in
    served_class c.args.linked.now c.args.native c.in-Some.serving class (serves ∙ c.in-Some.is)
    ∙ sym (ap (λ b. b && serves_class c.args.linked.now c.args.native class) engaged)

pub returns-in-None : goal.returns-in-None
returns-in-None c = λ asked queues stands.
    let class = class_at c.args.parts.now.cells c.args.id in
    let either = is_owed (asked c.args.id) || is_open c.args.parts.now.sessions c.args.id in
    let serves = rw c.number.ensures.value at c.serving.ensures in
    sym (ap (λ b. either && b) (unserved_class c.args.linked.now c.args.native class (serves ∙ c.in-None.is)) ∙ none either)
  where
    -- it is served by none
    none : (b : Bool) → (b && false) ≡ false
    none true = refl
    none false = refl
