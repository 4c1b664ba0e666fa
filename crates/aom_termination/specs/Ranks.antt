-- The rank of a state.
use Rattle.std.specs.Prelude.{ℕ, suc, Bool, true, false, cond, ◌+◌, ◌*◌, ◌^◌, List, [], ◌∷◌, length, Option, Some, None}
use Rattle.aom_image.specs.Image.{Image}
use Rattle.aom_image.specs.Views.{is_quiet, method_at}
use Rattle.aom_image.specs.declared.method.Method.{Method}
use Rattle.aom_image.specs.declared.method.Role.TheVariants.{Error}
use Rattle.aom_roles.specs.Things.{is_object}
use Rattle.aom_static_bounds.specs.Most.{line_after}
use Rattle.aom_semantics.specs.Requests.{part_of}
use Rattle.aom_semantics.specs.Places.{Place, Going, Cell}
use Rattle.aom_semantics.specs.State.{Frame, Dispatch, Of_main, Main_left, Of_root, Of_object, Object_left, Asks, Answered, Of_server, OwnedObject, Task, Run, Trapped, Destroy, Closing, Unwind, Dispatched, Item, An_object, An_operation, A_mark, State}
use Rattle.aom_termination.specs.Within.{left}
use Rattle.aom_termination.specs.RankTerms.{RankTerms, tasks_rank_term, waiting_rank_term}

-- all that the methods have before them as they begin
abbrev pub all_left : List Method → ℕ
all_left [] = 0
all_left (m ∷ ms) = left m.code [] 0 + all_left ms

-- and each class may have a destructor in a line
abbrev pub spare : Image → ℕ
spare p = all_left p.methods + 2 * length p.classes

abbrev pub base : Image → ℕ
base p = spare p + 2

-- a method comes after those that it calls, and those that are not quiet come after all that are, and after a cell
abbrev pub level : Image → ℕ → ℕ
level p m = cond (is_quiet p m) m (suc (suc (length p.methods)) + m)

-- a move of a method pays for a whole run of any method of a lower level
abbrev pub price : Image → ℕ → ℕ
price p m = base p ^ level p m

abbrev pub left_in : Option Method → (counters : List ℕ) → (place : ℕ) → ℕ
left_in None counters place = 0
left_in (Some m) counters place = left m.code counters place

abbrev pub method_rank : Image → (m : ℕ) (counters : List ℕ) → (place : ℕ) → ℕ
method_rank p m counters place = left_in (method_at p m) counters place * price p m

abbrev pub frame_rank : Image → Frame → ℕ
frame_rank p fr = method_rank p fr.method fr.counters fr.place

-- a whole run of a method, if there is one
abbrev pub run_rank : Image → Option ℕ → ℕ
run_rank p None = 0
run_rank p (Some m) = method_rank p m [] 0

-- of the `error` method of an object's class
abbrev pub error_rank : Image → OwnedObject → ℕ
error_rank p x = run_rank p (part_of p Error x.object.thing)

-- the end of main's dispatch, or of an object's, may begin the root's destruction, and the end after that does not; where its method left, the object's `error` method is asked before that
abbrev pub end_rank : Image → Dispatch → ℕ
end_rank p Of_main = 2
end_rank p (Main_left code) = 1
end_rank p Of_root = 1
end_rank p (Of_object x) = 4 + error_rank p x
end_rank p (Object_left x code) = 4 + error_rank p x
end_rank p (Asks x) = 3
end_rank p (Answered x answer) = 2
-- once all is served it is the end of an object's
end_rank p (Of_server x client stage) = 5 + error_rank p x

-- a line of destructors, which are quiet, has one of each class at most; that of a server is paid as its sessions begin to go
abbrev pub closing_rank : Image → ℕ
closing_rank p = suc (length p.classes) * base p ^ length p.methods

-- a trap, the going of a cell and a leave are a move each
abbrev pub rank_worths : Image → RankTerms
rank_worths p = record { method = method_rank p; rest = line_after p (run_rank p); trap = 1; going = 1; closing = closing_rank p; leave = 1; dispatch = end_rank p }

abbrev pub waiting_rank : Image → List Task → ℕ
waiting_rank p ts = waiting_rank_term (rank_worths p) ts

abbrev pub tasks_rank : Image → List Task → ℕ
tasks_rank p ts = tasks_rank_term (rank_worths p) ts

-- a cell pays for its line of destructors, for what goes before that where it is a server, and for its going
abbrev pub cell_rank : Image → ℕ
cell_rank p = base p ^ suc (length p.methods)

abbrev pub is_going : Place → Bool
is_going (Going k) = true
is_going _ = false

-- the objects whose destruction has not begun; a message pays for nothing, so that one may be handed out at any place
abbrev pub standing : List Cell → ℕ
standing [] = 0
standing (c ∷ cs) = cond (is_object c.object.thing) (cond (is_going c.owner) (standing cs) (suc (standing cs))) (standing cs)

-- the operations on the cleanup stack; each pays for its run, which is that of a quiet method
abbrev pub operations : List Item → ℕ
operations [] = 0
operations (An_object ∷ items) = operations items
operations (An_operation m w ∷ items) = suc (operations items)
operations (A_mark ∷ items) = operations items

abbrev pub rank : Image → State → ℕ
rank p s = tasks_rank p s.tasks + (standing s.cells + operations s.items) * cell_rank p

-- how many destructions are at hand
abbrev pub destructions : List Task → ℕ
destructions [] = 0
destructions (Destroy ∷ ts) = suc (destructions ts)
destructions (Closing ∷ ts) = destructions ts
destructions (Run fr ∷ ts) = destructions ts
destructions (Trapped ∷ ts) = destructions ts
destructions (Unwind code ∷ ts) = destructions ts
destructions (Dispatched d ∷ ts) = destructions ts
