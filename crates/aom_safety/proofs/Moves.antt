-- The laws of the instructions that move a cell within their method.
use Rattle.std.proofs.lemmas.Bool.Decides.{nat_tests}
use Rattle.std.proofs.Common.{Bool, List, None, Option, Some, ap, arith, cond, false, refl, subst, sym, true, ℕ, ◌∙◌, ◌∷◌, ◌≡◌}
use Rattle.std.proofs.lemmas.Bool.{eq-eqb}
use Rattle.aom_safety.proofs.SemanticsLemmas.{at-set_extending}
use Rattle.aom_safety.proofs.Widening.{put_twice}
use Rattle.std.specs.Prelude.{is_none, is_some}
use Rattle.aom_image.specs.Image.{Image}
use Rattle.aom_instructions.specs.declared.instr.Instr.TheVariants.{Move, Put, Take}
use Rattle.aom_image.specs.declared.method.Thing.{Thing}
use Rattle.aom_abstract_state.specs.Kinds.{field, filled, field_state_of, is_ready_kind, may_be_declared, register, set_field, set_register}
use Rattle.aom_abstract_state.specs.AbstractState.{AbstractState}
use Rattle.aom_roles.specs.Things.{field_thing, holder_of}
use Rattle.aom_typing_rules.specs.Typing.{Typing}
use Rattle.aom_abstract_state.specs.declared.kind.FieldState.{FieldState}
use Rattle.aom_abstract_state.specs.declared.kind.FieldState.TheVariants.{Empty}
use Rattle.aom_abstract_state.specs.declared.kind.Kind.{Kind}
use Rattle.aom_abstract_state.specs.declared.kind.Kind.TheVariants.{Null, Unset}
use Rattle.aom_safety.proofs.Claimed.{claim-set_field, claim-set_register}
use Rattle.aom_safety.proofs.Straight.{At, Fitted, Law, claim_field, claim_register, declared_object, declared_ok, empties, field_fits, field_not_from}
use Rattle.aom_safety.proofs.Straight.{field_outside, filled_ready, filled_word, fits_unowning, fitted, free_register, kind_fits, may_be_some, no_word}
use Rattle.aom_safety.proofs.Straight.{no_word_fits, refills, relocate, settle, this_is_ready, top, well, widened, words_null, words_set}
use Rattle.aom_safety.proofs.ReceiverHolding.{receiver_conforms_field}
use Rattle.aom_safety.specs.Claims.{Layer, Method, claim, declared, tasks_of}
use Rattle.aom_semantics.specs.Moves.{does}
use Rattle.aom_semantics.specs.Places.{Field, Object, Place, changed, held, moved, same_place, seen}
use Rattle.aom_semantics.specs.State.{Choice, Frame, State, field_place, receiver_holder, next, set_word, word}
use Rattle.aom_safety.specs.WellTyped.{WordFits}
use Rattle.aom_instructions.specs.declared.instr.Instr.{Instr}

null_filled : (c : Option Thing) → filled c Empty ≡ Null
null_filled x = grind (arith, nat_tests)

module _ (p : Image) (t : Typing) (c : Choice) (s : State) (fr : Frame) (sh : AbstractState) (ls : List Layer) (has_task : At p t s fr sh ls) where
  pub law_move : (a b : ℕ) → Law p t c s fr sh ls has_task (Move a b)
  law_move a b n leads =
      let free = free_register p t c s fr sh ls has_task a n.1.0 in
      let no = no_word p t c s fr sh ls has_task b n.0 in
      let claims = λ (r : Place). claim-set_register p (declared p s.cells) fr (set_register sh b Null) ls a (register sh b) r
      ∙ ap (λ x. cond (same_place (top ls a) r) (register sh b) x) (claim-set_register p (declared p s.cells) fr sh ls b Null r) ∙ ap (λ x. changed
      (changed (claim p (declared p s.cells) (Method fr sh ∷ ls)) (top ls b) Null) (top ls a) x r) (sym (claim_register p (declared p s.cells) fr sh ls b)) in
      let h = relocate p t s.cells fr (next (set_word fr a None)) sh (set_register (set_register sh b Null) a (register sh b)) ls (top ls b) (top ls a) (fitted
      p t s.cells fr sh ls has_task.good) refl refl refl refl free (omega arith) (omega arith) (λ o from e. (tt, tt)) (λ r x e k f. refl) claims (words_set
      fr.words (set_register sh b Null) a None (register sh b) (words_null fr.words sh b has_task.good.stack.1.words no) (no_word_fits (register sh b) n.0)) in
      let g = settle p t (moved (top ls b) (top ls a) s.cells) (next (set_word fr a None))
      (set_register (set_register sh b Null) a (register sh b)) ls h leads.0 in (
        (ap is_none no, (ap is_none free, tt)),
        grind (arith, nat_tests, well),
      )

  pub law_put : (f b : ℕ) → Law p t c s fr sh ls has_task (Put f b)
  law_put f b n leads = (
    (ap is_none no, (declared_ok p t c s fr sh ls has_task _ _ k n.0 (kind_fits p t c s fr sh ls has_task b), (ap is_none free, tt))),
    well p t c s fr sh ls has_task
        (does p c fr (tasks_of ls) s (Put f b)) (next fr) (set_field (set_register sh b Null) f (field_state_of k)) refl has_task.items has_task.undo_operations
        (settle p t (moved (top ls b) (field_place fr.receiver f) s.cells) (next fr) (set_field (set_register sh b Null) f (field_state_of k)) ls goes leads.0),
  )
    where
      d : Place → Kind
      d = declared p s.cells

      k : Kind
      k = register sh b

      q : Place
      q = field_place fr.receiver f

      same : field_thing p (receiver_holder fr.receiver) f ≡ field_thing p (holder_of p fr.method) f
      same = receiver_conforms_field p _ _ f has_task.good.stack.1.holder (may_be_some p t c s fr sh ls has_task _ k n.0)

      may : may_be_declared p (field_thing p (receiver_holder fr.receiver) f) k ≡ true
      may = ap (λ x. may_be_declared p x k) same ∙ n.0

      some : is_some (field_thing p (receiver_holder fr.receiver) f) ≡ true
      some = may_be_some p t c s fr sh ls has_task _ k may

      free : held s.cells (field_place fr.receiver f) ≡ None
      free = fits_unowning p (seen s.cells) _ _ (empties p t c s fr sh ls has_task _ (field sh f) n.1.1.0)
          (field_fits p t c s fr sh ls has_task f (may_be_some p t c s fr sh ls has_task _ k n.0))

      no : word fr b ≡ None
      no = no_word p t c s fr sh ls has_task b (declared_object p t c s fr sh ls has_task _ k n.0)

      x : Option Thing
      x = field_thing p (receiver_holder fr.receiver) f

      -- the register is first taken for what the field is declared to own
      l : Kind
      l = filled x (field_state_of k)

      wide : AbstractState
      wide = set_register sh b l

      wider : Fitted p t s.cells fr wide ls
      wider = widened p t c s fr sh ls has_task b l
          (refills p t c s fr sh ls has_task (seen s.cells) x (held s.cells (top ls b)) k may n.1.0 (kind_fits p t c s fr sh ls has_task b))
          (subst (λ w. WordFits w l) (sym no) (filled_word p t c s fr sh ls has_task x k may))

      register_wide : register wide b ≡ l
      register_wide = at-set_extending Unset sh.registers b b l ∙ ap (λ same. cond same l (register sh b)) (eq-eqb b b refl)

      claims : (r : Place) → claim p d (Method fr (set_field (set_register wide b Null) f (field_state_of k)) ∷ ls) r
          ≡ changed (changed (claim p d (Method fr wide ∷ ls)) (top ls b) Null) q (claim p d (Method fr wide ∷ ls) (top ls b)) r
      claims r = claim-set_field p d fr fr.receiver (set_register wide b Null) ls f (field_state_of k) l r refl same some refl
          ∙ ap (λ y. cond (same_place q r) l y) (claim-set_register p d fr wide ls b Null r)
          ∙ ap (λ y. changed (changed (claim p d (Method fr wide ∷ ls)) (top ls b) Null) q y r) (sym (claim_register p d fr wide ls b ∙ register_wide))

      fresh_aside : (r : Place) (y : Object) →
          held s.cells r ≡ Some y → is_ready_kind (claim p d (Method fr wide ∷ ls) r) ≡ false → (g : ℕ) → same_place q (Field y.name g) ≡ false
      fresh_aside r y h is_fresh = go (same_place (top ls b) r) refl
        where
          here : (same : Bool) → same_place (top ls b) r ≡ same → is_ready_kind (cond same l (claim p d (Method fr sh ∷ ls) r)) ≡ false
          here same e = ap (λ z. is_ready_kind (cond z l (claim p d (Method fr sh ∷ ls) r))) (sym e)
              ∙ ap is_ready_kind (sym (claim-set_register p d fr sh ls b l r)) ∙ is_fresh

          go : (same : Bool) → same_place (top ls b) r ≡ same → (g : ℕ) → same_place q (Field y.name g) ≡ false
          go true e = let ready = filled_ready p t c s fr sh ls has_task x k may in let not = here true e in cc
          go false e = this_is_ready p t c s fr sh ls has_task fr.receiver f refl r y h (here false e)

      twice : set_register wide b Null ≡ set_register sh b Null
      twice = ap (λ ks. record sh { registers = ks }) (put_twice Unset sh.registers b l Null)

      goes : Fitted p t (moved (top ls b) (field_place fr.receiver f) s.cells) (next fr) (set_field (set_register sh b Null) f (field_state_of k)) ls
      goes = subst (λ z. Fitted p t (moved (top ls b) (field_place fr.receiver f) s.cells) (next fr) (set_field z f (field_state_of k)) ls) twice
          (relocate p t s.cells fr (next fr) wide (set_field (set_register wide b Null) f (field_state_of k)) ls (top ls b) q
          wider refl refl refl refl free (omega arith) (field_outside p t c s fr sh ls has_task fr.receiver f refl some)
          (λ o from e. (tt, field_not_from p t c s fr sh ls has_task fr.receiver f refl o from e))
          fresh_aside claims (words_null fr.words wide b wider.frames.words no))

  pub law_take : (a f : ℕ) → Law p t c s fr sh ls has_task (Take a f)
  law_take a f n leads = (
    (ap is_none free, (n.1.0, tt)),
    well p t c s fr sh ls has_task
        (does p c fr (tasks_of ls) s (Take a f)) (next (set_word fr a None)) (set_register (set_field sh f Empty) a k) refl has_task.items has_task.undo_operations
        (settle p t (moved (field_place fr.receiver f) (top ls a) s.cells) (next (set_word fr a None)) (set_register (set_field sh f Empty) a k) ls goes leads.0),
  )
    where
      d : Place → Kind
      d = declared p s.cells

      q : Place
      q = field_place fr.receiver f

      k : Kind
      k = filled (field_thing p (holder_of p fr.method) f) (field sh f)

      same : field_thing p (receiver_holder fr.receiver) f ≡ field_thing p (holder_of p fr.method) f
      same = receiver_conforms_field p _ _ f has_task.good.stack.1.holder n.1.0

      some : is_some (field_thing p (receiver_holder fr.receiver) f) ≡ true
      some = ap is_some same ∙ n.1.0

      free : held s.cells (top ls a) ≡ None
      free = free_register p t c s fr sh ls has_task a n.0

      no_word_in : (x : Option Thing) (y : FieldState) → WordFits None (filled x y)
      no_word_in (Some x) Empty = refl
      no_word_in _ _ = refl

      claims : (r : Place) → claim p d (Method fr (set_register (set_field sh f Empty) a k) ∷ ls) r ≡ changed
          (changed (claim p d (Method fr sh ∷ ls)) q Null) (top ls a) (claim p d (Method fr sh ∷ ls) q) r
      claims r = claim-set_register p d fr (set_field sh f Empty) ls a k r
          ∙ ap (λ x. cond (same_place (top ls a) r) k x) (grind (arith, nat_tests, claim-set_field, d, same, some, null_filled))
          ∙ ap (λ x. changed (changed (claim p d (Method fr sh ∷ ls)) q Null) (top ls a) x r) (grind (arith, nat_tests, same, claim_field, d, some))

      goes : Fitted p t (moved (field_place fr.receiver f) (top ls a) s.cells) (next (set_word fr a None)) (set_register (set_field sh f Empty) a k) ls
      goes = relocate p t s.cells fr (next (set_word fr a None)) sh (set_register (set_field sh f Empty) a k) ls q (top ls a)
          (fitted p t s.cells fr sh ls has_task.good) refl refl refl refl free (field_outside p t c s fr sh ls has_task fr.receiver f refl some) (omega arith)
          (λ o from e. (field_not_from p t c s fr sh ls has_task fr.receiver f refl o from e, tt)) (λ r x e k f. refl) claims
          (words_set fr.words (set_field sh f Empty) a None k has_task.good.stack.1.words (no_word_in _ (field sh f)))

  -- each instruction of this file by its law
  abbrev pub of_moves : (i : Instr) → Option (Law p t c s fr sh ls has_task i)
  of_moves (Move a b) = Some (law_move a b)
  of_moves (Take a f) = Some (law_take a f)
  of_moves (Put f b) = Some (law_put f b)
  of_moves _ = None
