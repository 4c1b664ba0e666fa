-- What is known where a method stands: of its registers, of the fields and the request of its object, of its cleanup entries and of its message.
use Rattle.std.specs.Prelude.{ℕ, zero, suc, Bool, true, false, cond, not, ◌||◌, ◌==◌, List, [], ◌∷◌, ◌++◌, Option, Some, None, codes, decimal, is_some, length, nat_lt, slice_get}
use Rattle.aom_cost_report.specs.Names.{Names, label}
use Rattle.aom_cost_report.specs.Text.{by_number}
use Rattle.aom_image.specs.Image.{Image}
use Rattle.aom_image.specs.Views.{has}
use Rattle.aom_image.specs.declared.method.Thing.{Thing}
use Rattle.aom_image.specs.declared.method.Thing.TheVariants.{Object, Message}
use Rattle.aom_abstract_state.specs.Kinds.{field, filled, register}
use Rattle.aom_abstract_state.specs.AbstractState.{AbstractState}
use Rattle.aom_abstract_state.specs.Tests.{is_unset}
use Rattle.aom_roles.specs.Things.{field_thing, holder_of}
use Rattle.aom_abstract_state.specs.declared.kind.InitState.{InitState}
use Rattle.aom_abstract_state.specs.declared.kind.InitState.TheVariants.{Fresh, Ready}
use Rattle.aom_abstract_state.specs.declared.kind.MessageState.{MessageState}
use Rattle.aom_abstract_state.specs.declared.kind.MessageState.TheVariants.{Here, Gone}
use Rattle.aom_abstract_state.specs.declared.kind.CleanupEntry.{CleanupEntry}
use Rattle.aom_abstract_state.specs.declared.kind.CleanupEntry.TheVariants.{Object as An_object, Operation}
use Rattle.aom_abstract_state.specs.declared.kind.FieldState.{FieldState}
use Rattle.aom_abstract_state.specs.declared.kind.Kind.{Kind}
use Rattle.aom_abstract_state.specs.declared.kind.Kind.TheVariants.{Unset, Word, Null, Own, Maybe}

-- ---- what is held

abbrev pub class_words : Names → ℕ → List ℕ
class_words ns c = codes "an object of class " ++ label ns.classes [] c

abbrev pub thing_words : Names → Thing → List ℕ
thing_words ns (Object c) = class_words ns c
thing_words ns Message = codes "a message"

-- an object that waits for its construct method is fresh
abbrev pub age_words : InitState → List ℕ
age_words Fresh = codes ", fresh"
age_words Ready = []

abbrev pub owned_words : Names → List ℕ → Thing → InitState → List ℕ
owned_words ns lead t a = lead ++ (thing_words ns t ++ age_words a)

abbrev pub kind_words : Names → Kind → List ℕ
kind_words ns Unset = codes "unset"
kind_words ns Word = codes "a word"
kind_words ns Null = codes "null"
kind_words ns (Own t a) = owned_words ns (codes "owns ") t a
kind_words ns (Maybe t a) = owned_words ns (codes "null, or owns ") t a

-- a place by its number, and what it holds
abbrev pub held_words : Names → List ℕ → ℕ → Kind → List ℕ
held_words ns lead number k = lead ++ (decimal number ++ (codes " " ++ kind_words ns k))

-- the first of its line, and one behind others
abbrev pub lead_of : ℕ → (first later : List ℕ) → List ℕ
lead_of number first later = cond (number == 0) first later

-- words, where that is so
abbrev pub words_where : Bool → List ℕ → List ℕ
words_where true words = words
words_where false words = []

-- ---- registers

abbrev pub set_part : Names → ℕ → Kind → List ℕ
set_part ns i k = held_words ns (codes " r") i k ++ codes ";"

-- a register of which nothing is known has no part
abbrev pub register_part : Names → ℕ → Kind → List ℕ
register_part ns i k = words_where (not (is_unset k)) (set_part ns i k)

-- the parts of all registers, in order
unfoldable pub register_parts : Names → AbstractState → List ℕ
register_parts ns sh = by_number (λ i. register_part ns i (register sh i)) 16

-- something is known of one of the first so many
abbrev pub known_below : AbstractState → ℕ → Bool
known_below sh zero = false
known_below sh (suc n) = known_below sh n || not (is_unset (register sh n))

unfoldable pub any_known : AbstractState → Bool
any_known sh = known_below sh 16

abbrev pub rest_words : Bool → List ℕ
rest_words true = codes " all others unset"
rest_words false = codes " all unset"

unfoldable pub registers_line : Names → AbstractState → List ℕ
registers_line ns sh = codes "Known of registers:" ++ (register_parts ns sh ++ (rest_words (any_known sh) ++ 10 ∷ []))

-- ---- fields

-- a field that is not declared has no part
abbrev pub field_part : Names → ℕ → Option Thing → FieldState → List ℕ
field_part ns f None x = []
field_part ns f (Some t) x = held_words ns (lead_of f (codes " f") (codes "; f")) f (filled (Some t) x)

unfoldable pub field_parts : Names → Image → ℕ → AbstractState → List ℕ
field_parts ns p m sh = by_number (λ f. field_part ns f (field_thing p (holder_of p m) f) (field sh f)) 8

unfoldable pub field_line : Names → Image → ℕ → AbstractState → List ℕ
field_line ns p m sh = codes "Known of fields:" ++ (field_parts ns p m sh ++ 10 ∷ [])

-- fields are declared from the first on; where none is there is no line
abbrev pub fields_line : Names → Image → ℕ → AbstractState → List ℕ
fields_line ns p m sh = words_where (is_some (field_thing p (holder_of p m) 0)) (field_line ns p m sh)

-- ---- cleanup entries

abbrev pub pushed_words : Names → CleanupEntry → List ℕ
pushed_words ns (An_object c a) = class_words ns c ++ age_words a
pushed_words ns Operation = codes "an operation"

abbrev pub entry_words : Names → List ℕ → ℕ → CleanupEntry → List ℕ
entry_words ns lead k e = (lead ++ decimal k) ++ (codes " " ++ pushed_words ns e)

-- a cleanup entry, counted from the last one that was pushed, if it is there
abbrev pub entry_part : Names → ℕ → Option CleanupEntry → List ℕ
entry_part ns k None = []
entry_part ns k (Some e) = entry_words ns (lead_of k (codes " c") (codes "; c")) k e

-- as far as an instruction may name them
unfoldable pub entry_parts : Names → AbstractState → List ℕ
entry_parts ns sh = by_number (λ k. entry_part ns k (slice_get sh.entries k)) 16

abbrev pub more_words : ℕ → List ℕ
more_words height = words_where (nat_lt 16 height) (codes "; others below them")

unfoldable pub entry_line : Names → AbstractState → List ℕ
entry_line ns sh = codes "Known of cleanup entries:" ++ (entry_parts ns sh ++ (more_words (length sh.entries) ++ 10 ∷ []))

-- the method's own, if there are any
abbrev pub entries_line : Names → AbstractState → List ℕ
entries_line ns sh = words_where (not (length sh.entries == 0)) (entry_line ns sh)

-- ---- the request and the message

-- the request states in which the object may be, each with its letter
abbrev pub state_parts : ℕ → List ℕ
state_parts set =
    words_where (has set 1) (codes " not enlisted (u);")
    ++ (words_where (has set 2) (codes " idle (i);")
    ++ (words_where (has set 4) (codes " issued (s);")
    ++ (words_where (has set 8) (codes " active (a);")
    ++ (words_where (has set 16) (codes " being cancelled, open (o);")
    ++ words_where (has set 32) (codes " being cancelled, done (d);")))))

unfoldable pub state_line : ℕ → List ℕ
state_line set = codes "Known of request states:" ++ (state_parts set ++ (codes " no others" ++ 10 ∷ []))

-- an object of a class that makes no requests has no line
abbrev pub states_line : ℕ → List ℕ
states_line set = words_where (not (set == 0)) (state_line set)

abbrev pub delivery_line : MessageState → List ℕ
delivery_line Here = []
delivery_line Gone = codes "Known of the message: taken" ++ 10 ∷ []

-- ---- all

abbrev pub known_text : Names → Image → ℕ → AbstractState → List ℕ
known_text ns p m sh = registers_line ns sh ++ (fields_line ns p m sh ++ (entries_line ns sh ++ (states_line sh.states ++ delivery_line sh.message_state)))
