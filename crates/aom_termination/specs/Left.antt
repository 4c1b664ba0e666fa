-- What a dispatch may still cost, by a table of prices.
use Rattle.std.specs.Prelude.{ℕ, ◌+◌, ◌-◌, ◌*◌, ◌≤◌, ◌==◌, cond, length, Bool, true, false, List, [], ◌∷◌, Option, Some, None}
use Rattle.aom_image.specs.Image.{Image}
use Rattle.aom_image.specs.Views.{method_at}
use Rattle.aom_image.specs.declared.method.Method.{Method}
use Rattle.aom_image.specs.declared.method.Role.TheVariants.{Error}
use Rattle.aom_semantics.specs.Requests.{part_of}
use Rattle.aom_semantics.specs.Places.{Cell, Elsewhere, Entry, Going, Object, Place, Session, held}
use Rattle.aom_semantics.specs.State.{A_mark, An_object, An_operation, Answered, Asks, Closing, Destroy, Dispatch, Dispatched, Item, Main_left, Object_left, Of_main, Of_object, Of_root, Of_server, Run, OwnedObject, State, Task, Trapped, Unwind}
use Rattle.aom_termination.specs.Within.{loops_rank_term}
use Rattle.aom_termination.specs.RankTerms.{RankTerms, tasks_rank_term, waiting_rank_term}
use Rattle.aom_static_bounds.specs.Dispatches.{root_price}
use Rattle.aom_static_bounds.specs.Most.{line, line_after}
use Rattle.aom_static_bounds.specs.Prices.{Prices, perhaps_price, price}

-- the rounds that are left of a loop, but for the one at hand, which its place pays for
abbrev pub rounds_price : Prices → (m rounds place : ℕ) → ℕ
rounds_price c m rounds place = (rounds - 1) * c.round m place

abbrev pub rounds_left : Prices → (m : ℕ) → Option Method → (counters : List ℕ) → (place : ℕ) → ℕ
rounds_left c m None counters place = 0
rounds_left c m (Some d) counters place = loops_rank_term d.code (rounds_price c m) counters place

-- a method from where it stands
abbrev pub method_left : Image → Prices → (m : ℕ) (counters : List ℕ) → (place : ℕ) → ℕ
method_left p c m counters place = c.from m place + rounds_left c m (method_at p m) counters place

-- the `error` method of an object's class, if it has one
abbrev pub error_price : Image → Prices → OwnedObject → ℕ
error_price p c x = perhaps_price c (part_of p Error x.object.thing)

-- main's end may begin the root's destruction; where the method of an object leaves, its `error` method follows, and the dispatch of a server ends as one of an object. The root's destruction after the dispatch of an object is no part of that dispatch: steps are counted anew, and main's price pays
abbrev pub end_left : Image → Prices → Dispatch → ℕ
end_left p c Of_main = root_price c p.header.root
end_left p c (Main_left code) = 0
end_left p c Of_root = 0
end_left p c (Of_object x) = error_price p c x
end_left p c (Object_left x code) = error_price p c x
end_left p c (Asks x) = 0
end_left p c (Answered x answer) = 0
end_left p c (Of_server x client stage) = error_price p c x

-- the going of a cell is a step; a trap and a leave are none, and what goes before a server is counted by what is there of it
abbrev pub left_worths : Image → Prices → RankTerms
left_worths p c = record { method = method_left p c; rest = line_after p (perhaps_price c); trap = 0; going = 1; closing = 0; leave = 0; dispatch = end_left p c }

abbrev pub waiting_left : Image → Prices → List Task → ℕ
waiting_left p c ts = waiting_rank_term (left_worths p c) ts

abbrev pub tasks_left : Image → Prices → List Task → ℕ
tasks_left p c ts = tasks_rank_term (left_worths p c) ts

-- what the destructions of all that such places own cost
abbrev pub due : Prices → (counts : Place → Bool) → (owner : Place) → Object → ℕ
due c counts owner o = cond (counts owner) (c.destruction o.thing) 0

abbrev pub owned_left : Prices → (counts : Place → Bool) → List Cell → ℕ
owned_left c counts [] = 0
owned_left c counts (x ∷ xs) = due c counts x.owner x.object + owned_left c counts xs

abbrev pub is_entry : Place → Bool
is_entry (Entry k) = true
is_entry _ = false

-- an object on the cleanup stack was paid for as it was pushed
abbrev pub objects_left : Prices → List Cell → ℕ
objects_left c cs = owned_left c is_entry cs

-- and so was an operation
abbrev pub operations_left : Prices → List Item → ℕ
operations_left c [] = 0
operations_left c (An_object ∷ items) = operations_left c items
operations_left c (An_operation m w ∷ items) = price c m + operations_left c items
operations_left c (A_mark ∷ items) = operations_left c items

-- a place of a session with that server
abbrev pub is_session_with : ℕ → Place → Bool
is_session_with n (Elsewhere (Session s client)) = s == n
is_session_with n _ = false

abbrev pub sessions_left : Prices → ℕ → List Cell → ℕ
sessions_left c n cs = owned_left c (is_session_with n) cs

-- before a server goes: the sessions with it that are there still, and then its line of destructors
abbrev pub closing_left : Image → Prices → List Cell → Option Object → ℕ
closing_left p c cs None = 0
closing_left p c cs (Some o) = sessions_left c o.name cs + line p (perhaps_price c) o.thing

-- what goes right below
abbrev pub goes_below : List Cell → List Task → Option Object
goes_below cs (Destroy ∷ ts) = held cs (Going (length ts))
goes_below cs _ = None

-- of all servers that go
abbrev pub closings_left : Image → Prices → List Cell → List Task → ℕ
closings_left p c cs [] = 0
closings_left p c cs (Run fr ∷ ts) = closings_left p c cs ts
closings_left p c cs (Trapped ∷ ts) = closings_left p c cs ts
closings_left p c cs (Destroy ∷ ts) = closings_left p c cs ts
closings_left p c cs (Closing ∷ ts) = closing_left p c cs (goes_below cs ts) + closings_left p c cs ts
closings_left p c cs (Unwind code ∷ ts) = closings_left p c cs ts
closings_left p c cs (Dispatched d ∷ ts) = closings_left p c cs ts

-- all that may still come
abbrev pub left : Image → Prices → State → ℕ
left p c s = tasks_left p c s.tasks + closings_left p c s.cells s.tasks + (objects_left c s.cells + operations_left c s.items)

-- the steps so far, and all that may still come
pub record WithinBudget (p : Image) (c : Prices) (n : ℕ) (s : State) : Type 0 where
  pub within : s.rest.steps + left p c s ≤ n
