-- The laws of jumps and loops.
use Rattle.std.proofs.lemmas.Bool.Decides.{nat_tests}
use Rattle.std.proofs.Common.{Bool, List, None, Option, Some, ap, false, refl, subst, suc, sym, true, zero, ℕ, ℤ, ◌-◌, ◌∙◌, ◌∷◌, ◌≡◌, arith}
use Rattle.std.proofs.lemmas.Bool.{eqb-true}
use Rattle.std.specs.Prelude.{is_none, is_some}
use Rattle.aom_image.specs.Image.{Image}
use Rattle.aom_instructions.specs.declared.instr.Instr.TheVariants.{Jump, JumpEmpty, JumpNull, Loop, Next}
use Rattle.aom_image.specs.declared.method.Thing.{Thing}
use Rattle.aom_abstract_state.specs.Kinds.{field, filled, is_object_or_null, register, set_field, set_register}
use Rattle.aom_typing_rules.specs.Objects.{flow_jump_empty, flow_jump_null}
use Rattle.aom_abstract_state.specs.AbstractState.{AbstractState}
use Rattle.aom_roles.specs.Tables.{at}
use Rattle.aom_roles.specs.Things.{holder_of, field_thing}
use Rattle.aom_typing_rules.specs.Typing.{AllLead, Leads, Typing}
use Rattle.aom_typing_rules.specs.Words.{flow_compare}
use Rattle.aom_abstract_state.specs.declared.kind.FieldState.{FieldState}
use Rattle.aom_abstract_state.specs.declared.kind.FieldState.TheVariants.{Empty, Full, Perhaps}
use Rattle.aom_abstract_state.specs.declared.kind.Kind.{Kind}
use Rattle.aom_abstract_state.specs.declared.kind.Kind.TheVariants.{Maybe, Null, Own, Unset, Word}
use Rattle.aom_safety.proofs.Claimed.{claim-set_field, claim-set_register}
use Rattle.aom_safety.proofs.SemanticsLemmas.{at-set_extending}
use Rattle.aom_safety.proofs.Straight.{began, At, Fitted, Law, field_fits, fitted, kind_fits, no_word, reframed, relabel, settle, stepped, top, well}
use Rattle.aom_safety.proofs.ReceiverHolding.{receiver_conforms_field}
use Rattle.aom_safety.specs.Claims.{Layer, declared, forms, items_of, objects, tasks_of}
use Rattle.aom_semantics.specs.Effects.{applied, jumps_if, jumps_unless, round}
use Rattle.aom_semantics.specs.Places.{Object, Place, held, seen}
use Rattle.aom_semantics.specs.State.{Choice, Frame, Run, State, counter, field_place, receiver_holder, next, set_counter, to_place, word}
use Rattle.aom_safety.specs.WellTyped.{Fits, WellTyped, WordFits}
use Rattle.aom_instructions.specs.declared.instr.Instr.{Instr}

pub words_kept : (words : List (Option ℤ)) (sh : AbstractState) (a : ℕ) (k : Kind) → ((i : ℕ) → WordFits (at None words i) (register sh i)) →
    WordFits (at None words a) k → (i : ℕ) → WordFits (at None words i) (register (set_register sh a k) i)
words_kept words sh a k h w i = grind (arith, nat_tests, at-set_extending Unset sh.registers a i k, eqb-true a i)

module _ (p : Image) (t : Typing) (c : Choice) (s : State) (fr : Frame) (sh : AbstractState) (ls : List Layer) (has_task : At p t s fr sh ls) where
  g : Fitted p t s.cells fr sh ls
  g = fitted p t s.cells fr sh ls has_task.good

  -- the frame stands elsewhere
  placed : (fr' : Frame) → fr'.receiver ≡ fr.receiver → fr'.method ≡ fr.method → began fr' ≡ began fr → fr'.words ≡ fr.words → Fitted p t s.cells fr' sh ls
  placed fr' eh em eg ew = reframed p t s.cells fr fr' sh ls eh em eg ew g

  -- two flows: what the jump has learned of the register is claimed on each
  pub law_jump_null : (a to : ℕ) → Law p t c s fr sh ls has_task (JumpNull a to)
  law_jump_null a to n leads = ((ap is_none none, tt), go (register sh a) (held s.cells (top ls a)) refl refl leads (kind_fits p t c s fr sh ls has_task a))
    where
      none : word fr a ≡ None
      none = no_word p t c s fr sh ls has_task a n.0

      learned : (fr' : Frame) (k : Kind) → fr'.receiver ≡ fr.receiver → fr'.method ≡ fr.method → began fr' ≡ began fr →
          fr'.words ≡ fr.words → Fits p (seen s.cells) (held s.cells (top ls a)) k → WordFits None k → Fitted p t s.cells fr' (set_register sh a k) ls
      learned fr' k eh em eg ew new w = relabel p t s.cells fr fr' sh (set_register sh a k) ls (top ls a) k g eh em eg refl new
          (λ r. claim-set_register p (declared p s.cells) fr sh ls a k r) (λ i. rw ew (words_kept fr.words sh a k has_task.good.stack.1.words (rw none w) i))

      go : (k : Kind) (o : Option Object) →
          register sh a ≡ k → held s.cells (top ls a) ≡ o → AllLead t fr.method (flow_jump_null p fr.method fr.place sh k a to) →
          Fits p (seen s.cells) (held s.cells (top ls a)) (register sh a) → WellTyped p t (applied p fr (tasks_of ls) s (jumps_unless fr o to))
      go Unset o ek eo leads f = let e : is_object_or_null Unset ≡ true = ap is_object_or_null (sym ek) ∙ n.0 in cc
      go Word o ek eo leads f = let e : is_object_or_null Word ≡ true = ap is_object_or_null (sym ek) ∙ n.0 in cc
      go Null None ek eo leads f = well p t c s fr sh ls has_task _
          (to_place fr to) sh refl has_task.items has_task.undo_operations (settle p t s.cells (to_place fr to) sh ls (placed (to_place fr to) refl refl refl refl) leads.0)
      go (Own x y) (Some o) ek eo leads f = well p t c s fr sh ls has_task _
          (next fr) sh refl has_task.items has_task.undo_operations (settle p t s.cells (next fr) sh ls (placed (next fr) refl refl refl refl) leads.0)
      go (Maybe x y) None ek eo leads f = well p t c s fr sh ls has_task _
          (to_place fr to) (set_register sh a Null) refl has_task.items has_task.undo_operations (settle p t s.cells (to_place fr to) (set_register sh a Null) ls
          (learned (to_place fr to) Null refl refl refl refl (subst (λ o. Fits p (seen s.cells) o Null) (sym eo) tt) refl) leads.1.0)
      go (Maybe x y) (Some o) ek eo leads f = well p t c s fr sh ls has_task _ (next fr) (set_register sh a (Own x y)) refl has_task.items has_task.undo_operations (settle p
          t s.cells (next fr) (set_register sh a (Own x y)) ls (learned (next fr) (Own x y) refl refl refl refl (subst (λ z. Fits p (seen s.cells) z (Own x y))
          (sym eo) (subst (λ z. Fits p (seen s.cells) z (Maybe x y)) eo (subst (λ k. Fits p (seen s.cells) (held s.cells (top ls a)) k) ek f))) refl) leads.0)
      go _ _ ek eo leads f = grind (arith, nat_tests, top ls a)

  pub law_jump : (to : ℕ) → Law p t c s fr sh ls has_task (Jump to)
  law_jump to n leads = (
    tt,
    well p t c s fr sh ls has_task _ (to_place fr to) sh refl has_task.items has_task.undo_operations
        (settle p t s.cells (to_place fr to) sh ls (placed (to_place fr to) refl refl refl refl) leads.0),
  )

  -- both flows know what is known here
  pub goes_either : (to : ℕ) → AllLead t fr.method (flow_compare fr.place sh to) → (b : Bool) → WellTyped p t (applied p fr (tasks_of ls) s (jumps_if fr b to))
  goes_either to leads true = well p t c s fr sh ls has_task _
      (to_place fr to) sh refl has_task.items has_task.undo_operations (settle p t s.cells (to_place fr to) sh ls (placed (to_place fr to) refl refl refl refl) leads.1.0)
  goes_either to leads false = well p t c s fr sh ls has_task _ (next fr) sh refl has_task.items has_task.undo_operations
      (settle p t s.cells (next fr) sh ls (stepped p t s.cells fr sh ls g) leads.0)

  -- what the jump learns of a field
  holds_nothing : (x : Option Thing) → Fits p (seen s.cells) None (filled x Empty)
  holds_nothing x = grind arith

  holds_something : (x : Option Thing) (o : Object) → is_some x ≡ true → Fits p (seen s.cells) (Some o) (filled x Perhaps) →
      Fits p (seen s.cells) (Some o) (filled x Full)
  holds_something x o some f = grind arith

  pub not_empty : (x : Option Thing) (o : Object) → Fits p (seen s.cells) (Some o) (filled x Empty) → ⊥
  not_empty x o f = grind arith

  pub not_full : (x : Option Thing) → is_some x ≡ true → Fits p (seen s.cells) None (filled x Full) → ⊥
  not_full x some f = grind arith

  -- two flows: what the jump has learned of the field is claimed on each
  pub law_jump_empty : (f to : ℕ) → Law p t c s fr sh ls has_task (JumpEmpty f to)
  law_jump_empty f to n leads = ((n.0, tt), go (field sh f) (held s.cells q) refl leads (field_fits p t c s fr sh ls has_task f n.0))
    where
      q : Place
      q = field_place fr.receiver f

      x : Option Thing
      x = field_thing p (receiver_holder fr.receiver) f

      own : x ≡ field_thing p (holder_of p fr.method) f
      own = receiver_conforms_field p _ _ f has_task.good.stack.1.holder n.0

      some : is_some x ≡ true
      some = ap is_some own ∙ n.0

      stays : (fr' : Frame) → fr'.receiver ≡ fr.receiver → fr'.method ≡ fr.method → began fr' ≡ began fr → fr'.words ≡ fr.words →
          forms s.items ≡ objects sh.entries (items_of ls) → Leads t fr'.method fr'.place sh → WellTyped p t (record s { tasks = Run fr' ∷ tasks_of ls })
      stays fr' eh em eg ew items leads =
          well p t c s fr sh ls has_task _ fr' sh refl items has_task.undo_operations (settle p t s.cells fr' sh ls (placed fr' eh em eg ew) leads)

      learns : (fr' : Frame) (y : FieldState) (o : Option Object) →
          held s.cells q ≡ o → fr'.receiver ≡ fr.receiver → fr'.method ≡ fr.method → began fr' ≡ began fr → fr'.words ≡ fr.words →
          Fits p (seen s.cells) o (filled x y) → Leads t fr'.method fr'.place (set_field sh f y) → WellTyped p t (record s { tasks = Run fr' ∷ tasks_of ls })
      learns fr' y o e eh em eg ew new leads = well p t c s fr sh ls has_task _ fr' (set_field sh f y) refl has_task.items has_task.undo_operations
          (settle p t s.cells fr' (set_field sh f y) ls (relabel p t s.cells fr fr' sh (set_field sh f y) ls q (filled x y) g eh em eg refl (rw e new) (λ r.
          claim-set_field p (declared p s.cells) fr fr.receiver sh ls f y (filled x y) r refl own some refl) (λ i. rw ew (has_task.good.stack.1.words i))) leads)

      go : (y : FieldState) (o : Option Object) → held s.cells q ≡ o → AllLead t fr.method (flow_jump_empty p fr.method fr.place sh y f to) →
          Fits p (seen s.cells) (held s.cells q) (filled x y) → WellTyped p t (applied p fr (tasks_of ls) s (jumps_unless fr o to))
      go Empty None e leads fit = stays (to_place fr to) refl refl refl refl has_task.items leads.0
      go Empty (Some o) e leads fit = absurd (not_empty x o (subst (λ z. Fits p (seen s.cells) z (filled x Empty)) e fit))
      go Full None e leads fit = absurd (not_full x some (subst (λ z. Fits p (seen s.cells) z (filled x Full)) e fit))
      go Full (Some o) e leads fit = stays (next fr) refl refl refl refl has_task.items leads.0
      go Perhaps None e leads fit = learns (to_place fr to) Empty None e refl refl refl refl (holds_nothing x) leads.1.0
      go Perhaps (Some o) e leads fit = learns (next fr) Full (Some o) e refl refl refl refl (holds_something x o some (rw e at fit)) leads.0

  -- a frame's counters are no concern of the typing
  pub law_loop : (depth rounds : ℕ) → Law p t c s fr sh ls has_task (Loop depth rounds)
  law_loop depth rounds n leads =
      let fr' = next (set_counter fr depth rounds) in
      (tt, well p t c s fr sh ls has_task _ fr' sh refl has_task.items has_task.undo_operations (settle p t s.cells fr' sh ls (placed fr' refl refl refl refl) leads.0))

  pub law_next : (depth to : ℕ) → Law p t c s fr sh ls has_task (Next depth to)
  law_next depth to n leads = (tt, go (counter fr depth - 1))
    where
      go : (left : ℕ) → WellTyped p t (applied p fr (tasks_of ls) s (round left depth to))
      go zero =
          let fr' = next (set_counter fr depth 0) in
          well p t c s fr sh ls has_task _ fr' sh refl has_task.items has_task.undo_operations (settle p t s.cells fr' sh ls (placed fr' refl refl refl refl) leads.1.0)
      go (suc left) =
          let fr' = to_place (set_counter fr depth (suc left)) to in
          well p t c s fr sh ls has_task _ fr' sh refl has_task.items has_task.undo_operations (settle p t s.cells fr' sh ls (placed fr' refl refl refl refl) leads.0)

  -- each instruction of this file by its law
  abbrev pub of_jumps : (i : Instr) → Option (Law p t c s fr sh ls has_task i)
  of_jumps (Jump to) = Some (law_jump to)
  of_jumps (JumpNull a to) = Some (law_jump_null a to)
  of_jumps (JumpEmpty f to) = Some (law_jump_empty f to)
  of_jumps (Loop depth rounds) = Some (law_loop depth rounds)
  of_jumps (Next depth to) = Some (law_next depth to)
  of_jumps _ = None
