-- What a debugger tells of a state: its cells, its cleanup stack and its time; and of the latest instructions and the breakpoints.
use Rattle.std.specs.Prelude.{ℕ, zero, suc, ◌+◌, Bool, false, cond, ◌==◌, List, [], ◌∷◌, length, Option, Some, None, map, option_map}
use Rattle.aom_transcript.specs.Text.{ended}
use Rattle.aom_debug_protocol.specs.Answers.{answer_text}
use Rattle.std.specs.Int.{w32, cast_signed}
use Rattle.aom_image.specs.Image.{Image}
use Rattle.aom_image.specs.declared.method.Thing.{Thing}
use Rattle.aom_image.specs.declared.method.Thing.TheVariants.{Object as An_object_of, Message}
use Rattle.aom_cells.specs.Heap.{Heap, class_at}
use Rattle.aom_frames.specs.declared.item.Item.{Item as Machine_item}
use Rattle.aom_frames.specs.declared.item.Item.TheVariants.{Object as Holds_object, Operation as Holds_operation, Mark as Is_mark}
use Rattle.aom_semantics.specs.Owned.{over}
use Rattle.aom_semantics.specs.Places.{Cell, Entry, Object, count_cells, held}
use Rattle.aom_semantics.specs.State.{A_mark, An_object, An_operation, Item, State}
use Rattle.aom_debug_protocol.specs.declared.spot.CodeLocation.{CodeLocation}
use Rattle.aom_debug_protocol.specs.declared.breakpoints.Breakpoint.{Breakpoint}
use Rattle.aom_debug_protocol.specs.declared.answer.Answer.{Answer}
use Rattle.aom_debug_protocol.specs.declared.answer.Answer.TheVariants.{Break, Cells, Clock, OfClass, Object as Object_answer, Operation, Ran, Trap}
use Rattle.aom_debug_views.specs.Reporting.{gathered, listed}

-- ---- classes

-- the class of an object
abbrev pub class_in : Thing → Option ℕ
class_in (An_object_of class) = Some class
class_in Message = None

-- the class of what a place holds, or of what lives under a name
abbrev pub class_of : Option Object → Option ℕ
class_of None = None
class_of (Some o) = class_in o.thing

abbrev pub is_class : ℕ → Option ℕ → Bool
is_class class None = false
is_class class (Some c) = c == class

-- ---- the latest instructions

abbrev pub recent_answers : List CodeLocation → List Answer
recent_answers spots = map (λ spot. Ran spot) spots

-- ---- the breakpoints

abbrev pub breaks_answers : List Breakpoint → List Answer
breaks_answers bs = map (λ b. Break b) bs

-- ---- the time

abbrev pub clock_text : State → List ℕ
clock_text s = ended (answer_text (Clock s.rest.clock))

-- ---- the cleanup stack

-- an item that stands over so many others
abbrev pub item_answer : List Cell → ℕ → Option Item → Option Answer
item_answer cs height None = None
item_answer cs height (Some An_object) = option_map (λ class. Object_answer class) (class_of (held cs (Entry height)))
item_answer cs height (Some (An_operation m w)) = Some (Operation m w)
item_answer cs height (Some A_mark) = Some Trap

-- an item of the machine's stack
abbrev pub held_answer : Heap → Machine_item → Option Answer
held_answer h (Holds_object n) = option_map (λ class. Object_answer class) (class_at h n)
held_answer h (Holds_operation m n) = Some (Operation m (cast_signed w32 n))
held_answer h Is_mark = Some Trap

-- the first so many items from the bottom
abbrev pub lowest_items : State → ℕ → List Answer
lowest_items s n = gathered (λ height. listed (item_answer s.cells height (over s.items height))) n

abbrev pub cleanup_answers : State → List Answer
cleanup_answers s = lowest_items s (length s.items)

-- ---- cells

-- how many of the first so many numbers
abbrev pub counted : (ℕ → Bool) → ℕ → ℕ
counted f zero = 0
counted f (suc n) = counted f n + cond (f n) 1 0

-- how many objects of a class there are
abbrev pub count_class : ℕ → List Cell → ℕ
count_class class [] = 0
count_class class (c ∷ cs) = cond (is_class class (class_in c.object.thing)) (suc (count_class class cs)) (count_class class cs)

-- a class that has no object has no line
abbrev pub class_answer : ℕ → ℕ → Option Answer
class_answer class zero = None
class_answer class (suc n) = Some (OfClass class (suc n))

-- the first so many classes, by number
abbrev pub first_classes : List Cell → ℕ → List Answer
first_classes cs n = gathered (λ class. listed (class_answer class (count_class class cs))) n

abbrev pub cells_answers : Image → State → List Answer
cells_answers p s = Cells (count_cells s.cells) ∷ first_classes s.cells (length p.classes)
