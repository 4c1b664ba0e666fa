-- The arguments of a call go over to the method called, one after the other.
use Rattle.std.proofs.lemmas.Bool.Decides.{nat_tests}
use Rattle.std.proofs.Common.{Bool, List, None, Option, [], ap, append-nil, append_assoc, arith, cond, false}
use Rattle.std.proofs.Common.{length, refl, subst, suc, sym, true, ℕ, ℤ, ◌<◌, ◌==◌, ◌∙◌, ◌∷◌, ◌≡◌}
use Rattle.std.proofs.lemmas.Bool.{eq-eqb, eqb-true, ne_eqb}
use Rattle.std.specs.Prelude.{map, ◌++◌}
use Rattle.aom_image.specs.Image.{Image}
use Rattle.aom_image.specs.declared.method.Argument.{Argument}
use Rattle.aom_image.specs.declared.method.Argument.TheVariants.{Own as Takes_own, Word as Takes_word}
use Rattle.aom_roles.specs.Tests.{AllTrue}
use Rattle.aom_typing_rules.specs.Calls.{each_argument}
use Rattle.aom_abstract_state.specs.Arguments.{arguments_moved, argument_kind}
use Rattle.aom_abstract_state.specs.Kinds.{is_object_or_null, register, set_register}
use Rattle.aom_abstract_state.specs.Order.{Weaker, alike}
use Rattle.aom_abstract_state.specs.AbstractState.{AbstractState}
use Rattle.aom_roles.specs.Tables.{at, set_extending}
use Rattle.aom_typing_rules.specs.Typing.{Typing}
use Rattle.aom_abstract_state.specs.declared.kind.MessageState.TheVariants.{Here}
use Rattle.aom_abstract_state.specs.declared.kind.InitState.TheVariants.{Ready}
use Rattle.aom_abstract_state.specs.declared.kind.Kind.{Kind}
use Rattle.aom_abstract_state.specs.declared.kind.Kind.TheVariants.{Null, Own, Unset, Word}
use Rattle.aom_safety.proofs.Claimed.{claim-set_register, claim_register_above, declared_moved, keep_fits, stack_moved}
use Rattle.aom_safety.proofs.Finishing.{all_join, all_parts}
use Rattle.aom_safety.proofs.SemanticsLemmas.{at-set_extending, held_moved, requested_moved, same_place-true, tidy_moved}
use Rattle.aom_safety.proofs.Returning.{held_thing, word_is}
use Rattle.aom_safety.proofs.Widening.{Widens, own_widens}
use Rattle.aom_safety.proofs.Straight.{At, claim_register, fits_unowning, receiver_held_relocated, kind_fits, no_word_fits, word_of_object, words_null, words_set}
use Rattle.aom_semantics.specs.Calls.{needs_each, passed_cells, passed_words}
use Rattle.aom_safety.specs.Claims.{Layer, Method, claim, declared, tasks_of}
use Rattle.aom_semantics.specs.Places.{Cell, Place, Register, NoDuplicates, changed, held, moved, same_place, seen}
use Rattle.aom_semantics.specs.State.{Choice, Frame, State, word}
use Rattle.aom_safety.specs.WellTyped.{Fits, Good, ReceiverIsHeld, Returns, Stack, WordFits}
use Rattle.aom_safety.proofs.ConformingTo.{all_moved}
use Rattle.aom_safety.specs.Requests.{AllConformTo}
use Rattle.aom_safety.proofs.RolesLemmas.{put_at_end}

-- a list read at its end
at_end : {A : Type 0} (d : A) (xs : List A) → at d xs (length xs) ≡ d
at_end d [] = refl
at_end d (x ∷ xs) = at_end d xs

length_more : {A : Type 0} (xs : List A) (v : A) → length (xs ++ v ∷ []) ≡ suc (length xs)
length_more [] v = refl
length_more (x ∷ xs) v = ap suc (length_more xs v)

-- the registers at that depth that the method called has so far, and nothing else of it
abbrev pub filled_with : ℕ → List Kind → Place → Kind → Kind
filled_with depth regs (Register f i) below = cond (depth == f) (at Unset regs i) below
filled_with depth regs _ below = below

pub filled_weaker_below : (depth : ℕ) (regs : List Kind) (r : Place) (x y : Kind) → Weaker x y → Weaker (filled_with depth regs r x) (filled_with depth regs r y)
filled_weaker_below depth regs (Register f i) x y h = go (depth == f)
  where
    go : (b : Bool) → Weaker (cond b (at Unset regs i) x) (cond b (at Unset regs i) y)
    go true = alike
    go false = h
filled_weaker_below depth regs _ x y h = h

-- a shape of these registers alone
abbrev taken : List Kind → AbstractState
taken regs = record { registers = regs; fields = []; entries = []; states = 0; message_state = Here }

module _ (p : Image) (t : Typing) (fr : Frame) (ls : List Layer) (depth : ℕ) (deep : length (tasks_of ls) < depth) where
  -- the place of the caller's register, and of the register of the method called
  abbrev pub lower : ℕ → Place
  lower i = Register (length (tasks_of ls)) i

  abbrev pub upper : ℕ → Place
  upper i = Register depth i

  -- what is claimed with these registers filled at that depth over the caller
  abbrev pub field_state : (Place → Kind) → List Kind → AbstractState → Place → Kind
  field_state d regs sh r = filled_with depth regs r (claim p d (Method fr sh ∷ ls) r)

  -- these registers are filled, and the caller is as that state says
  pub record Passed (cs : List Cell) (sh : AbstractState) (regs : List Kind) (ws : List (Option ℤ)) : Type 0 where
    pub fits : (r : Place) → Fits p (seen cs) (held cs r) (field_state (declared p cs) regs sh r)
    pub conforms_to : AllConformTo p cs (Method fr sh ∷ ls)
    pub no_duplicates : NoDuplicates cs
    pub words : (i : ℕ) → WordFits (word fr i) (register sh i)
    pub given : (i : ℕ) → WordFits (at None ws i) (at Unset regs i)
    pub receiver_held : ReceiverIsHeld p cs ls fr.receiver
    pub stack : Stack p t cs (Returns fr.method fr.receiver) ls
    pub even : length ws ≡ length regs

  -- at first none is
  pub none_passed : (cs : List Cell) (sh : AbstractState) → Good p t cs (Method fr sh ∷ ls) → Passed cs sh [] []
  none_passed cs sh g =
      record { fits = fits; conforms_to = g.conforms_to; no_duplicates = g.no_duplicates; words = g.stack.1.words; given = λ i. tt; receiver_held = g.stack.2; stack = g.stack.4; even = refl }
    where
      fits : (r : Place) → Fits p (seen cs) (held cs r) (field_state (declared p cs) [] sh r)
      fits r = grind (arith, nat_tests, fits_unowning p, claim_register_above p cs (Method fr sh ∷ ls), eqb-true)

  -- the next register of the method called owns nothing
  next_free : (cs : List Cell) (sh : AbstractState) (regs : List Kind) (ws : List (Option ℤ)) → Passed cs sh regs ws → held cs (upper (length regs)) ≡ None
  next_free cs sh regs ws g = grind (arith, nat_tests, fits_unowning p, eq-eqb depth, at_end Unset regs)

  -- a register of the caller is claimed anew below the method called
  pub under : (d : Place → Kind) (sh : AbstractState) (regs : List Kind) (a : ℕ) (v : Kind) (r : Place) →
      field_state d regs (set_register sh a v) r ≡ changed (field_state d regs sh) (lower a) v r
  under d sh regs a v r = grind (arith, nat_tests, ne_eqb, eqb-true, claim-set_register p d fr sh ls a v, claim-set_register p d fr sh ls a v r)

  -- one more register is filled
  over : (d : Place → Kind) (sh : AbstractState) (regs : List Kind) (v : Kind) (r : Place) →
      field_state d (regs ++ v ∷ []) sh r ≡ changed (field_state d regs sh) (upper (length regs)) v r
  over d sh regs v r = grind (arith, nat_tests, put_at_end Unset regs v, at-set_extending Unset regs)

  given_more : (regs : List Kind) (ws : List (Option ℤ)) (k : Kind) (w : Option ℤ) → length ws ≡ length regs →
      ((i : ℕ) → WordFits (at None ws i) (at Unset regs i)) → WordFits w k → (i : ℕ) → WordFits (at None (ws ++ w ∷ []) i) (at Unset (regs ++ k ∷ []) i)
  given_more regs ws k w even given new i = rw (put_at_end Unset regs k) at (rw
      (ap (λ n. set_extending None ws n w) (sym even) ∙ put_at_end None ws w) at (words_set ws (taken regs) (length regs) w k given new i))

  even_more : (regs : List Kind) (ws : List (Option ℤ)) (k : Kind) (w : Option ℤ) → length ws ≡ length regs → length (ws ++ w ∷ []) ≡ length (regs ++ k ∷ [])
  even_more regs ws k w even = length_more ws w ∙ ap suc even ∙ sym (length_more regs k)

  -- a word is copied
  word_passed : (cs : List Cell) (sh : AbstractState) (regs : List Kind) (ws : List (Option ℤ)) (w : Option ℤ) → WordFits w Word → Passed cs sh regs ws →
      Passed cs sh (regs ++ Word ∷ []) (ws ++ w ∷ [])
  word_passed cs sh regs ws w new g = record {
    fits = λ r. subst (λ k. Fits p (seen cs) (held cs r) k) (sym (over (declared p cs) sh regs Word r)) (go r (same_place (upper (length regs)) r) refl);
    conforms_to = g.conforms_to;
    no_duplicates = g.no_duplicates;
    words = g.words;
    given = given_more regs ws Word w g.even g.given new;
    receiver_held = g.receiver_held;
    stack = g.stack;
    even = even_more regs ws Word w g.even;
  }
    where
      go : (r : Place) (b : Bool) → same_place (upper (length regs)) r ≡ b → Fits p (seen cs) (held cs r) (cond b Word (field_state (declared p cs) regs sh r))
      go r x e = grind (arith, nat_tests, same_place-true, next_free cs sh regs ws g)

  -- an object moves
  object_passed : (cs : List Cell) (sh : AbstractState) (regs : List Kind) (ws : List (Option ℤ)) (a : ℕ) (k : Kind) → register sh a ≡ k → is_object_or_null k ≡ true →
      Passed cs sh regs ws → Passed (moved (lower a) (upper (length regs)) cs) (set_register sh a Null) (regs ++ k ∷ []) (ws ++ None ∷ [])
  object_passed cs sh regs ws a k here object g = record {
    fits = λ r. subst (λ d. Fits p (seen cs') (held cs' r) (field_state d (regs ++ k ∷ []) (set_register sh a Null) r)) (sym (declared_moved p cs q to))
        (keep_fits p (seen cs) (seen cs') before (field_state (declared p cs) (regs ++ k ∷ []) (set_register sh a Null)) q to
        (λ r. held_moved cs q to r free) (requested_moved cs q to) claims (λ r x e f j. refl) g.fits r);
    conforms_to = all_moved p cs q to (Method fr sh ∷ ls) g.conforms_to;
    no_duplicates = tidy_moved cs q to free g.no_duplicates;
    words = words_null fr.words sh a g.words (word_of_object (word fr a) (register sh a) (ap is_object_or_null here ∙ object) (g.words a));
    given = given_more regs ws k None g.even g.given (no_word_fits k object);
    receiver_held = receiver_held_relocated p cs q to ls fr.receiver free (omega arith) (omega arith) (λ o from e. (tt, tt)) g.receiver_held;
    stack = stack_moved p t cs q to ls (Returns fr.method fr.receiver) free (omega arith) (omega arith) g.stack;
    even = even_more regs ws k None g.even;
  }
    where
      q : Place
      q = lower a

      to : Place
      to = upper (length regs)

      cs' : List Cell
      cs' = moved q to cs

      free : held cs to ≡ None
      free = next_free cs sh regs ws g

      before : Place → Kind
      before = field_state (declared p cs) regs sh

      at_source : before q ≡ k
      at_source = grind (arith, nat_tests, q, ne_eqb depth, claim_register p)

      claims : (r : Place) → field_state (declared p cs) (regs ++ k ∷ []) (set_register sh a Null) r ≡ changed (changed before q Null) to (before q) r
      claims r = over (declared p cs) (set_register sh a Null) regs k r ∙ ap (λ x. cond (same_place to r) k x) (under (declared p cs) sh regs a Null r)
          ∙ ap (λ x. changed (changed before q Null) to x r) (sym at_source)

  -- the last register is taken for another kind
  wider_passed : (cs : List Cell) (sh : AbstractState) (regs : List Kind) (ws : List (Option ℤ)) (k v : Kind) → Widens p k v → length ws ≡ length regs →
      ((i : ℕ) → WordFits (at None ws i) (at Unset regs i)) → Passed cs sh (regs ++ k ∷ []) (ws ++ None ∷ []) → Passed cs sh (regs ++ v ∷ []) (ws ++ None ∷ [])
  wider_passed cs sh regs ws k v wide even given g = record {
    fits = grind (arith, nat_tests, over);
    conforms_to = g.conforms_to;
    no_duplicates = g.no_duplicates;
    words = g.words;
    given = given_more regs ws v None even given wide.word;
    receiver_held = g.receiver_held;
    stack = g.stack;
    even = even_more regs ws v None even;
  }
    where
      go : (r : Place) (b : Bool) → same_place (upper (length regs)) r ≡ b → Fits p (seen cs) (held cs r) (cond b k (field_state (declared p cs) regs sh r)) →
          Fits p (seen cs) (held cs r) (cond b v (field_state (declared p cs) regs sh r))
      go r x e f = grind arith

  -- what the rule says of the later arguments, once one has moved
  each_kept : (xs : List Argument) (sh : AbstractState) (a j : ℕ) → a < j → AllTrue (each_argument p sh xs j) → AllTrue (each_argument p (set_register sh a Null) xs j)
  each_kept [] sh a j lt h = tt
  each_kept (x ∷ xs) sh a j lt h = grind (arith, nat_tests, all_parts, at-set_extending Unset sh.registers a j Null, ne_eqb a j, all_join, each_kept xs sh a)

  -- all of them
  pub all_passed : (ts : State) (xs : List Argument) (first to : ℕ) (cs : List Cell) (sh : AbstractState) (regs : List Kind) (ws : List (Option ℤ)) →
      to ≡ length regs → AllTrue (each_argument p sh xs first) → Passed cs sh regs ws → Passed (passed_cells p fr (tasks_of ls) ts depth xs first to cs)
      (arguments_moved xs first sh) (regs ++ map argument_kind xs) (ws ++ passed_words p fr (tasks_of ls) ts xs first)
  all_passed s [] first to cs sh regs ws e n g = rw (append-nil ws) (rw (append-nil regs) g)
  all_passed s (Takes_word ∷ xs) first to cs sh regs ws e n g =
      let new : WordFits (word fr first) Word = (word_is p s (word fr first) (register sh first) n.0 (g.words first)).1 in
      let rest = all_passed s xs (suc first) (suc to) cs sh (regs ++ Word ∷ []) (ws ++ word fr first ∷ []) (ap suc e ∙ sym (length_more regs Word)) n.1
      (word_passed cs sh regs ws (word fr first) new g) in
      rw (append_assoc ws (word fr first ∷ [])
      (passed_words p fr (tasks_of ls) s xs (suc first))) at (rw (append_assoc regs (Word ∷ []) (map argument_kind xs)) at rest)
  all_passed s (Takes_own x ∷ xs) first to cs sh regs ws e n g =
      let k = own_widens p x (register sh first) n.0 n.1.0 in
      let cs' = moved (lower first) (upper to) cs in
      let sh' = set_register sh first Null in
      let one : Passed cs' sh' (regs ++ Own x Ready ∷ []) (ws ++ None ∷ []) =
      rw e (wider_passed (moved (lower first) (upper (length regs)) cs) sh' regs ws
      (register sh first) (Own x Ready) k g.even g.given (object_passed cs sh regs ws first (register sh first) refl k.object g)) in
      let rest = all_passed s xs (suc first) (suc to) cs' sh' (regs ++ Own x Ready ∷ []) (ws ++ None ∷ []) (ap suc e ∙ sym (length_more regs (Own x Ready)))
      (each_kept xs sh first (suc first) (omega arith) n.1.1) one in
      rw (append_assoc ws (None ∷ [])
      (passed_words p fr (tasks_of ls) s xs (suc first))) at (rw (append_assoc regs (Own x Ready ∷ []) (map argument_kind xs)) at rest)

module _ (p : Image) (t : Typing) (c : Choice) (s : State) (fr : Frame) (sh : AbstractState) (ls : List Layer) (has_task : At p t s fr sh ls) where
  -- each argument is as the machine needs it
  pub each_met : (xs : List Argument) (first : ℕ) → AllTrue (each_argument p sh xs first) → AllTrue (needs_each p fr (tasks_of ls) s xs first)
  each_met [] first n = tt
  each_met (Takes_word ∷ xs) first n = ((word_is p s (word fr first) (register sh first) n.0 (has_task.good.stack.1.words first)).0, each_met xs (suc first) n.1)
  each_met (Takes_own x ∷ xs) first n =
      grind (arith, nat_tests, own_widens p x, held_thing p s x, kind_fits p t c s fr sh ls has_task first, word_of_object, each_met xs)
