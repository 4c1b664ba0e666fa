-- What a debugger tells of a variable: a register of the innermost method, a word of the object that it works on, or of one at a path.
use Rattle.std.specs.Prelude.{ℕ, nat_lt, if◌then◌else◌, List, Option, Some, None}
use Rattle.aom_image.specs.Image.{Image}
use Rattle.aom_roles.specs.Things.{words_of}
use Rattle.aom_typing_rules.specs.Typing.{Typing}
use Rattle.aom_semantics.specs.Owned.{over}
use Rattle.aom_semantics.specs.Places.{Cell, Object, named, word_field}
use Rattle.aom_semantics.specs.State.{State}
use Rattle.aom_debug_protocol.specs.declared.answer.Answer.{Answer}
use Rattle.aom_debug_protocol.specs.declared.answer.Answer.TheVariants.{Word as Word_answer}
use Rattle.aom_debug_protocol.specs.declared.variable.Variable.{Variable}
use Rattle.aom_debug_protocol.specs.declared.variable.Variable.TheVariants.{Register, Word, WordAt}
use Rattle.aom_debug_views.specs.CellViews.{class_in, class_of}
use Rattle.aom_debug_views.specs.Frames.{innermost, receiver_over, register_shown}
use Rattle.aom_debug_paths.specs.Paths.{owned_at}

-- a word of the object of a name, if its class has that many
abbrev pub word_by_class : Image → List Cell → (name : ℕ) → (class : Option ℕ) → ℕ → Option Answer
word_by_class p cs n None i = None
word_by_class p cs n (Some class) i = if nat_lt i (words_of p class) then Some (Word_answer i (word_field cs n i)) else None

-- if one lives
abbrev pub word_of_name : Image → List Cell → ℕ → ℕ → Option Answer
word_of_name p cs n i = word_by_class p cs n (class_of (named cs n)) i

-- of what is owned
abbrev pub word_of_owned : Image → List Cell → Option Object → ℕ → Option Answer
word_of_owned p cs None i = None
word_of_owned p cs (Some o) i = word_by_class p cs o.name (class_in o.thing) i

abbrev pub variable_answer : Typing → Image → State → Variable → Option Answer
variable_answer t p s (Register i) = register_shown t s i
variable_answer t p s (Word i) = word_of_name p s.cells (receiver_over (over s.tasks (innermost s))) i
variable_answer t p s (WordAt w i) = word_of_owned p s.cells (owned_at s w) i
