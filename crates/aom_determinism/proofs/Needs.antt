-- What is asked is asked under other names too: no need looks at a name but to compare it with another.
use Rattle.std.proofs.lemmas.Bool.Decides.{nat_tests}
use Rattle.std.proofs.Common.{arith, zero, List, None, Option, [], ap, cond, length, refl, suc, ℕ, ◌∙◌, ◌∷◌, ◌≡◌}
use Rattle.std.specs.Prelude.{is_none, is_some, option_map}
use Rattle.aom_image.specs.Image.{Image}
use Rattle.aom_image.specs.Views.{arguments_of, method_class}
use Rattle.aom_instructions.specs.declared.instr.Target.{Target}
use Rattle.aom_image.specs.declared.method.Argument.{Argument}
use Rattle.aom_image.specs.declared.method.Argument.TheVariants.{Own as Takes_own, Word as Takes_word}
use Rattle.aom_image.specs.declared.method.Gives.{Gives}
use Rattle.aom_image.specs.declared.method.Gives.TheVariants.{Maybe as A_maybe, Own as An_own}
use Rattle.aom_image.specs.declared.method.Thing.{Thing}
use Rattle.aom_image.specs.declared.method.Thing.TheVariants.{Message, Object as An_object_of}
use Rattle.aom_semantics.specs.Calls.{none_filled, end_needs, is_asked, given_cells, is_worked_on, leaves_object, needs_argument}
use Rattle.aom_semantics.specs.Calls.{needs_call, needs_each, needs_ended, needs_entering, needs_reply, needs_result}
use Rattle.aom_semantics.specs.Calls.{needs_return, needs_target, needs_target_object, needs_trap, passed_cells, result_needs}
use Rattle.aom_semantics.specs.Cleanup.{above_trap_is_free, has_trap, if_refused, leave_needs, needs_push, pushed_cells, top_is_whole}
use Rattle.aom_semantics.specs.Requests.{receiver_kind, own_request}
use Rattle.aom_semantics.specs.Objects.{is_no_message, is_thing, needs_put, needs_take_message}
use Rattle.aom_semantics.specs.Places.{Cell, Elsewhere, Entry, In_service, Object, Place, Register, held}
use Rattle.aom_semantics.specs.State.{A_mark, An_object, An_operation, Choice, Dispatch, Frame, Receiver, Item}
use Rattle.aom_semantics.specs.State.{Need, Run, State, Task, Trapped, field_place, guarded, receiver_view}
use Rattle.aom_determinism.proofs.NamedCells.{held_renamed, past_kept, moved_renamed, none_owns_kept, redeemable_kept, requested_kept, tasks_counted}
use Rattle.aom_determinism.proofs.Serving.{token_named, without_queue_renamed}
use Rattle.aom_determinism.specs.Names.{IsOneToOne, renamed, renamed_cells, renamed_choice, renamed_dispatch, renamed_frame}
use Rattle.aom_determinism.specs.Names.{renamed_receiver, renamed_object, renamed_outcome, renamed_place, renamed_tasks}

-- ---- what is asked of an object, none of which is its name

module _ (names : ℕ → ℕ) where
  pub none_kept : (o : Option Object) → is_none (option_map (renamed_object names) o) ≡ is_none o
  none_kept x = grind arith

  pub some_kept : (o : Option Object) → is_some (option_map (renamed_object names) o) ≡ is_some o
  some_kept x = grind arith

  pub thing_kept : (p : Image) (t : Thing) (o : Option Object) → is_thing p t (option_map (renamed_object names) o) ≡ is_thing p t o
  thing_kept p t x = grind arith

  message_kept : (o : Option Object) → is_no_message (option_map (renamed_object names) o) ≡ is_no_message o
  message_kept x = grind arith

  worked_kept : (p : Image) (class : Option ℕ) (o : Option Object) → is_worked_on p class (option_map (renamed_object names) o) ≡ is_worked_on p class o
  worked_kept p x o = grind arith

  pub target_object_kept : (p : Image) (class : Option ℕ) (o : Option Object) →
      needs_target_object p class (option_map (renamed_object names) o) ≡ needs_target_object p class o
  target_object_kept p class o = rw (some_kept o, worked_kept p class o)

  pub view_kept : (h : Receiver) → receiver_view (renamed_receiver names h) ≡ receiver_view h
  view_kept x = grind arith

  pub kind_kept : (p : Image) (h : Receiver) → receiver_kind p (renamed_receiver names h) ≡ receiver_kind p h
  kind_kept p x = grind arith

  pub field_renamed : (h : Receiver) (f : ℕ) → field_place (renamed_receiver names h) f ≡ renamed_place names (field_place h f)
  field_renamed x f = grind arith

  -- ---- what is asked of tasks

  pub is_asked_kept : (d : Dispatch) → is_asked (renamed_dispatch names d) ≡ is_asked d
  is_asked_kept x = grind arith

  pub trap_kept : (ts : List Task) → has_trap (renamed_tasks names ts) ≡ has_trap ts
  trap_kept (Run fr ∷ ts) = trap_kept ts
  trap_kept _ = refl

  free_kept : (cs : List Cell) (ts : List Task) → above_trap_is_free (renamed_cells names cs) (renamed_tasks names ts) ≡ above_trap_is_free cs ts
  free_kept cs (Run fr ∷ ts) = rw (tasks_counted names ts, none_owns_kept names cs (length ts) None, free_kept cs ts)
  free_kept cs _ = refl

  pub leave_kept : (cs : List Cell) (ts : List Task) → leave_needs (renamed_cells names cs) (renamed_tasks names ts) ≡ leave_needs cs ts
  leave_kept cs ts = rw (trap_kept ts, free_kept cs ts)

-- ---- what is asked of places

module _ (names : ℕ → ℕ) (one_to_one : IsOneToOne names) where
  -- what a register has under other names
  pub register_renamed : (cs : List Cell) (ts : List Task) (a : ℕ) →
      held (renamed_cells names cs) (Register (length (renamed_tasks names ts)) a) ≡ option_map (renamed_object names) (held cs (Register (length ts) a))
  register_renamed cs ts a = grind (arith, nat_tests, tasks_counted names ts, held_renamed names one_to_one cs)

  pub free_at : (cs : List Cell) (ts : List Task) (a : ℕ) →
      is_none (held (renamed_cells names cs) (Register (length (renamed_tasks names ts)) a)) ≡ is_none (held cs (Register (length ts) a))
  free_at cs ts a = ap is_none (register_renamed cs ts a) ∙ none_kept names (held cs (Register (length ts) a))

  owns_at : (cs : List Cell) (ts : List Task) (a : ℕ) →
      is_some (held (renamed_cells names cs) (Register (length (renamed_tasks names ts)) a)) ≡ is_some (held cs (Register (length ts) a))
  owns_at cs ts a = ap is_some (register_renamed cs ts a) ∙ some_kept names (held cs (Register (length ts) a))

  thing_at : (p : Image) (t : Thing) (cs : List Cell) (ts : List Task) (a : ℕ) →
      is_thing p t (held (renamed_cells names cs) (Register (length (renamed_tasks names ts)) a)) ≡ is_thing p t (held cs (Register (length ts) a))
  thing_at p t cs ts a = ap (is_thing p t) (register_renamed cs ts a) ∙ thing_kept names p t (held cs (Register (length ts) a))

  pub message_at : (cs : List Cell) (ts : List Task) (a : ℕ) →
      is_no_message (held (renamed_cells names cs) (Register (length (renamed_tasks names ts)) a)) ≡ is_no_message (held cs (Register (length ts) a))
  message_at cs ts a = ap is_no_message (register_renamed cs ts a) ∙ message_kept names (held cs (Register (length ts) a))

  -- what a field has
  pub held_field : (cs : List Cell) (h : Receiver) (f : ℕ) →
      held (renamed_cells names cs) (field_place (renamed_receiver names h) f) ≡ option_map (renamed_object names) (held cs (field_place h f))
  held_field cs h f = ap (held (renamed_cells names cs)) (field_renamed names h f) ∙ held_renamed names one_to_one cs (field_place h f)

  field_at : (cs : List Cell) (h : Receiver) (f : ℕ) →
      is_none (held (renamed_cells names cs) (field_place (renamed_receiver names h) f)) ≡ is_none (held cs (field_place h f))
  field_at cs h f = ap is_none (held_field cs h f) ∙ none_kept names (held cs (field_place h f))

  pub place_owns : (cs : List Cell) (q : Place) → is_some (held (renamed_cells names cs) (renamed_place names q)) ≡ is_some (held cs q)
  place_owns cs q = ap is_some (held_renamed names one_to_one cs q) ∙ some_kept names (held cs q)

  place_free : (cs : List Cell) (q : Place) → is_none (held (renamed_cells names cs) (renamed_place names q)) ≡ is_none (held cs q)
  place_free cs q = ap is_none (held_renamed names one_to_one cs q) ∙ none_kept names (held cs q)

  -- what the return of the method of a dispatch needs
  ended_kept : (d : Dispatch) (cs : List Cell) → needs_ended (renamed_dispatch names d) (renamed_cells names cs) ≡ needs_ended d cs
  ended_kept x cs = grind (arith, nat_tests, place_free cs, place_free cs (Elsewhere In_service))

  -- the request of what a method works on
  pub own_request_kept : (cs : List Cell) (h : Receiver) → own_request (renamed_cells names cs) (renamed_receiver names h) ≡ own_request cs h
  own_request_kept cs x = grind (arith, nat_tests, requested_kept names one_to_one cs)

  entry_owns : (cs : List Cell) (k : ℕ) → is_some (held (renamed_cells names cs) (Entry k)) ≡ is_some (held cs (Entry k))
  entry_owns cs k = ap is_some (held_renamed names one_to_one cs (Entry k)) ∙ some_kept names (held cs (Entry k))

  pub whole_kept : (cs : List Cell) (items : List Item) → top_is_whole (renamed_cells names cs) items ≡ top_is_whole cs items
  whole_kept cs [] = refl
  whole_kept cs (An_object ∷ items) = entry_owns cs (length items)
  whole_kept cs (_ ∷ items) = refl

module _ (names : ℕ → ℕ) (one_to_one : IsOneToOne names) (p : Image) (c : Choice) (fr : Frame) (ts : List Task) (s : State) where
  abbrev fr' : Frame
  fr' = renamed_frame names fr

  abbrev ts' : List Task
  ts' = renamed_tasks names ts

  abbrev s' : State
  s' = renamed names s

  abbrev c' : Choice
  c' = renamed_choice names c

  -- ---- calls

  -- of the first fields of what is worked on
  filled_kept : (receiver : Receiver) (n : ℕ) → none_filled (renamed_cells names s.cells) (renamed_receiver names receiver) n ≡ none_filled s.cells receiver n
  filled_kept receiver zero = refl
  filled_kept receiver (suc n) = rw (field_at names one_to_one s.cells receiver n, filled_kept receiver n)

  pub target_kept : (target : Target) (m : ℕ) (class : Option ℕ) (first count : ℕ) →
      needs_target p fr' ts' s' target m class first count ≡ needs_target p fr ts s target m class first count
  target_kept x m class first count = grind (
    arith,
    nat_tests,
    filled_kept fr.receiver,
    register_renamed names one_to_one s.cells ts,
    some_kept names,
    worked_kept names p class,
    held_field names one_to_one s.cells fr.receiver,
    target_object_kept names p class,
    held_renamed names one_to_one s.cells,
  )

  argument_kept : (x : Argument) (a : ℕ) → needs_argument p fr' ts' s' x a ≡ needs_argument p fr ts s x a
  argument_kept x a = grind (arith, nat_tests, owns_at names one_to_one s.cells ts a, thing_at names one_to_one p)

  each_kept : (xs : List Argument) (first : ℕ) → needs_each p fr' ts' s' xs first ≡ needs_each p fr ts s xs first
  each_kept [] first = refl
  each_kept (x ∷ xs) first = rw (argument_kept x first, each_kept xs (suc first))

  pub passed_renamed : (depth : ℕ) (xs : List Argument) (first to : ℕ) (cs : List Cell) →
      passed_cells p fr' ts' s' depth xs first to (renamed_cells names cs) ≡ renamed_cells names (passed_cells p fr ts s depth xs first to cs)
  passed_renamed depth [] first to cs = refl
  passed_renamed depth (Takes_word ∷ xs) first to cs = passed_renamed depth xs (suc first) (suc to) cs
  passed_renamed depth (Takes_own t ∷ xs) first to cs =
      grind (arith, nat_tests, tasks_counted names ts, moved_renamed names one_to_one, passed_renamed depth xs)

  -- over these tasks
  pub given_renamed : (over : List Task) (m first : ℕ) →
      given_cells p fr' ts' s' (renamed_tasks names over) m first ≡ renamed_cells names (given_cells p fr ts s over m first)
  given_renamed over m first = grind (arith, nat_tests, tasks_counted names over, passed_renamed)

  result_kept : (g : Gives) (cs : List Cell) (a : ℕ) → needs_result p fr' ts' s' g (renamed_cells names cs) a ≡ needs_result p fr ts s g cs a
  result_kept x cs a = grind (arith, nat_tests, free_at names one_to_one cs ts a)

  entering_kept : (target : Target) (m first : ℕ) (more : List Need) → needs_entering p fr' ts' s' target m first more ≡ needs_entering p fr ts s target m first more
  entering_kept target m first more = rw (target_kept target m (method_class p m) first (length (arguments_of p m)), each_kept (arguments_of p m) first)

  pub call_kept : (target : Target) (m first a : ℕ) → needs_call p fr' ts' s' target m first a ≡ needs_call p fr ts s target m first a
  call_kept target m first a = grind (arith, nat_tests, entering_kept target m first, given_renamed (Run fr ∷ ts) m first, result_kept)

  pub under_trap_kept : (target : Target) (m first a : ℕ) → needs_trap p fr' ts' s' target m first a ≡ needs_trap p fr ts s target m first a
  under_trap_kept target m first a =
      grind (arith, nat_tests, entering_kept target m first, given_renamed (Trapped ∷ Run fr ∷ ts) m first, result_kept, free_at names one_to_one)

  -- ---- returns

  result_needs_kept : (g : Gives) (a : ℕ) → result_needs p fr' ts' s' g a ≡ result_needs p fr ts s g a
  result_needs_kept (An_own t) a = argument_kept (Takes_own t) a
  result_needs_kept (A_maybe t) a = rw (thing_at names one_to_one p t s.cells ts a)
  result_needs_kept _ a = refl

  end_kept : (below : List Task) → end_needs p fr' ts' s' (renamed_tasks names below) ≡ end_needs p fr ts s below
  end_kept x = grind (arith, nat_tests, without_queue_renamed, past_kept, requested_kept names one_to_one s.cells, ended_kept names one_to_one, is_asked_kept names)

  leaves_object_kept : (x : ℕ) (items : List Item) → leaves_object p fr' ts' s' x items ≡ leaves_object p fr ts s x items
  leaves_object_kept x [] = refl
  leaves_object_kept x (An_object ∷ items) =
      grind (arith, nat_tests, held_renamed names one_to_one s.cells, some_kept names, thing_kept names p (An_object_of x))
  leaves_object_kept x (An_operation m w ∷ items) = refl
  leaves_object_kept x (A_mark ∷ items) = refl

  pub return_kept : (a : ℕ) → needs_return p fr' ts' s' a ≡ needs_return p fr ts s a
  return_kept a = grind (
    arith,
    nat_tests,
    result_needs_kept,
    leaves_object_kept,
    tasks_counted names ts,
    none_owns_kept names s.cells,
    own_request_kept names one_to_one s.cells fr.receiver,
    end_kept ts,
  )

  -- ---- requests and leaves

  pub refusal_kept : (cells : List Cell) → if_refused p c' fr' ts' s' (renamed_cells names cells) ≡ if_refused p c fr ts s cells
  refusal_kept cells = ap (λ n. cond c.refused n []) (leave_kept names cells (Run fr ∷ ts))

  -- the cells once the object of a register is on the cleanup stack
  pub pushed_renamed : (a : ℕ) → pushed_cells fr' ts' s' a ≡ renamed_cells names (pushed_cells fr ts s a)
  pushed_renamed a = grind (arith, nat_tests, tasks_counted names ts, moved_renamed names one_to_one)

  pub push_kept : (a : ℕ) → needs_push p c' fr' ts' s' a ≡ needs_push p c fr ts s a
  push_kept a = grind (
    arith,
    nat_tests,
    pushed_renamed a,
    refusal_kept,
    owns_at names one_to_one s.cells ts a,
    message_at names one_to_one s.cells ts a,
    trap_kept names ts,
  )

  -- ---- messages

  pub take_message_kept : (a : ℕ) → needs_take_message p c' fr' ts' s' a ≡ needs_take_message p c fr ts s a
  take_message_kept a = rw (place_owns names one_to_one s.cells (Elsewhere In_service), free_at names one_to_one s.cells ts a)

  pub reply_kept : (a b : ℕ) → needs_reply p fr' ts' s' a b ≡ needs_reply p fr ts s a b
  reply_kept a b = grind (
    arith,
    nat_tests,
    register_renamed names one_to_one s.cells ts a,
    token_named names one_to_one s.cells,
    redeemable_kept names,
    argument_kept (Takes_own Message) a,
  )

  pub put_kept : (f b : ℕ) → needs_put p c' fr' ts' s' f b ≡ needs_put p c fr ts s f b
  put_kept f b = grind (arith, nat_tests, register_renamed names one_to_one s.cells ts b, field_at names one_to_one s.cells fr.receiver f)

-- ---- what becomes of a state once its needs are met

pub guarded_renamed : (names : ℕ → ℕ) (ns : List Need) (s : State) → guarded ns (renamed names s) ≡ renamed_outcome names (guarded ns s)
guarded_renamed names [] s = refl
guarded_renamed names (n ∷ ns) s = grind (arith, nat_tests, guarded_renamed names ns s)
