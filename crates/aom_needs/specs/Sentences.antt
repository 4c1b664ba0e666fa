-- The sentence that tells what an instruction needs and what is there instead.
use Rattle.std.specs.Prelude.{ℕ, Bool, true, false, cond, ◌==◌, List, [], ◌∷◌, ◌++◌, Option, Some, None, codes, decimal, length, slice_get}
use Rattle.aom_image.specs.Image.{Image}
use Rattle.aom_image.specs.Views.{arguments_of, has, instr_at, method_class}
use Rattle.aom_image.specs.declared.class.ClassKind.{ClassKind}
use Rattle.aom_image.specs.declared.class.ClassKind.TheVariants.{Plain, Active, Server, Session}
use Rattle.aom_image.specs.declared.class.Provider.{Provider}
use Rattle.aom_image.specs.declared.class.Provider.TheVariants as providers
use Rattle.aom_image.specs.declared.method.Thing.{Thing}
use Rattle.aom_image.specs.declared.method.Thing.TheVariants.{Object, Message}
use Rattle.aom_instructions.specs.declared.instr.Instr.{Instr}
use Rattle.aom_instructions.specs.declared.instr.Target.{Target}
use Rattle.aom_instructions.specs.declared.instr.Target.TheVariants.{This, Register, Field, Entry as On_entry}
use Rattle.aom_roles.specs.Things.{holder_of, is_object, is_subtype, word_count}
use Rattle.aom_abstract_state.specs.AbstractState.{AbstractState}
use Rattle.aom_abstract_state.specs.Arguments.{after_of, before_of}
use Rattle.aom_abstract_state.specs.Kinds.{register}
use Rattle.aom_abstract_state.specs.declared.kind.CleanupEntry.{CleanupEntry}
use Rattle.aom_abstract_state.specs.declared.kind.CleanupEntry.TheVariants.{Object as An_object, Operation}
use Rattle.aom_abstract_state.specs.declared.kind.Kind.{Kind}
use Rattle.aom_abstract_state.specs.declared.kind.Kind.TheVariants.{Unset, Word, Null, Own, Maybe}
use Rattle.aom_abstract_state.specs.declared.why.Reason.{Reason}
use Rattle.aom_typing_rules.specs.Beginning.{resting}
use Rattle.aom_typing_rules.specs.Requests.{own_kind}
use Rattle.aom_cost_report.specs.Names.{Names, label}
use Rattle.aom_needs.specs.Asked.{moved, moved_wanted, wanted}
use Rattle.aom_needs.specs.Wanted.{cancelling, first_unmet, held, is_told}
use Rattle.aom_needs.specs.declared.wanted.ClassNeed.{ClassNeed}
use Rattle.aom_needs.specs.declared.wanted.ClassNeed.TheVariants as classes
use Rattle.aom_needs.specs.declared.wanted.Operand.{Operand}
use Rattle.aom_needs.specs.declared.wanted.Operand.TheVariants as operands
use Rattle.aom_needs.specs.declared.wanted.Wanted.{Wanted}
use Rattle.aom_needs.specs.declared.wanted.Wanted.TheVariants as want

-- ---- what is there

abbrev pub class_named : Names → ℕ → List ℕ
class_named ns c = codes "an object of class " ++ label ns.classes [] c

abbrev pub thing_words : Names → Thing → List ℕ
thing_words ns (Object c) = class_named ns c
thing_words ns Message = codes "a message"

abbrev pub kind_clause : Names → Kind → List ℕ
kind_clause ns Unset = codes "; it is unset"
kind_clause ns Word = codes "; it is a word"
kind_clause ns Null = codes "; it is null"
kind_clause ns (Own t a) = codes "; it owns " ++ thing_words ns t
kind_clause ns (Maybe t a) = codes "; it is null, or owns " ++ thing_words ns t

abbrev pub pushed_clause : Names → CleanupEntry → List ℕ
pushed_clause ns Operation = codes "; it is an operation"
pushed_clause ns (An_object c a) = codes "; it owns " ++ thing_words ns (Object c)

abbrev pub entry_clause : Names → Option CleanupEntry → List ℕ
entry_clause ns None = codes "; it is not there"
entry_clause ns (Some e) = pushed_clause ns e

-- ---- registers

-- a need of a register, and what that holds
abbrev pub register_need : Names → (lead : List ℕ) → (number : ℕ) → Kind → List ℕ
register_need ns lead r k = lead ++ (decimal r ++ kind_clause ns k)

-- how to be rid of an owner
abbrev pub rid_of : Thing → List ℕ
rid_of (Object c) = codes ": delete, put or move it before"
rid_of Message = codes ": reply to it, put or move it before"

abbrev pub rid_words : Kind → List ℕ
rid_words (Own t a) = rid_of t
rid_words (Maybe t a) = rid_of t
rid_words _ = []

abbrev pub unowning_need : Names → (number : ℕ) → Kind → List ℕ
unowning_need ns r k = register_need ns (codes "nothing owned in r") r k ++ rid_words k

-- ---- owners

abbrev pub operand_words : Operand → List ℕ
operand_words (operands.Register r) = codes " in r" ++ decimal r
operand_words (operands.Field f) = codes " in f" ++ decimal f
operand_words (operands.Entry k) = codes " in c" ++ decimal k

-- perhaps it is there
abbrev pub sure_words : Kind → List ℕ
sure_words (Maybe t a) = codes ", surely"
sure_words _ = []

abbrev pub operand_clause : Names → Image → ℕ → AbstractState → Operand → List ℕ
operand_clause ns p m sh (operands.Register r) = kind_clause ns (held p m sh (operands.Register r))
operand_clause ns p m sh (operands.Field f) = kind_clause ns (held p m sh (operands.Field f))
operand_clause ns p m sh (operands.Entry k) = entry_clause ns (slice_get sh.entries k)

-- the instruction that tells an owner from null
abbrev pub ask_of : Operand → List ℕ
ask_of (operands.Register r) = codes ": ask by jnull before"
ask_of (operands.Field f) = codes ": ask by jempty before"
ask_of (operands.Entry k) = []

-- it helps where what is perhaps there would do
abbrev pub ask_words : Bool → Operand → List ℕ
ask_words true x = ask_of x
ask_words false x = []

-- what is perhaps there may stand for that thing
abbrev pub may_stand : Image → Thing → Kind → Bool
may_stand p t (Maybe x a) = is_subtype p x t
may_stand p t _ = false

-- what is perhaps there is an object
abbrev pub may_be_object : Kind → Bool
may_be_object (Maybe t a) = is_object t
may_be_object _ = false

-- where an owner is wanted, and what is there
abbrev pub owner_place : Names → Image → ℕ → AbstractState → Operand → (would_do : Bool) → List ℕ
owner_place ns p m sh x would_do = operand_words x ++ (sure_words (held p m sh x) ++ (operand_clause ns p m sh x ++ ask_words would_do x))

abbrev pub owner_need : Names → Image → ℕ → AbstractState → Operand → Thing → List ℕ
owner_need ns p m sh x t = thing_words ns t ++ owner_place ns p m sh x (may_stand p t (held p m sh x))

abbrev pub object_need : Names → Image → ℕ → AbstractState → (register : ℕ) → List ℕ
object_need ns p m sh r = codes "an object" ++ owner_place ns p m sh (operands.Register r) (may_be_object (register sh r))

abbrev pub owner_or_null : Names → Thing → (number : ℕ) → Kind → List ℕ
owner_or_null ns t r k = thing_words ns t ++ register_need ns (codes " or null in r") r k

-- ---- methods and classes

-- a number within words
abbrev pub numbered : (lead : List ℕ) → ℕ → (rest : List ℕ) → List ℕ
numbered lead n rest = lead ++ (decimal n ++ rest)

-- a method within words
abbrev pub method_need : Names → (lead : List ℕ) → ℕ → (rest : List ℕ) → List ℕ
method_need ns lead m' rest = lead ++ (label ns.methods (codes "m") m' ++ rest)

abbrev pub two_numbers : (lead : List ℕ) → ℕ → (between : List ℕ) → ℕ → (rest : List ℕ) → List ℕ
two_numbers lead n between k rest = lead ++ (decimal n ++ (between ++ (decimal k ++ rest)))

abbrev pub word_need : Image → (method word : ℕ) → List ℕ
word_need p m w = two_numbers (codes "a word w") w (codes " of the method's object; it has ") (word_count p (holder_of p m)) (codes " of them")

abbrev pub arguments_need : Image → (method first : ℕ) → List ℕ
arguments_need p m first = two_numbers (codes "all arguments up to r15; there are ") (length (arguments_of p m)) (codes " from r") first (codes " on")

abbrev pub class_words : ClassNeed → List ℕ
class_words classes.Active = codes "a method of an active class"
class_words classes.Issuing = codes "a method of an active class that issues its requests"
class_words classes.Listed = codes "a method of an active or a server class"
class_words classes.Native = codes "a method of an active class that a native serves"
class_words classes.Token = codes "a method of an active token class"

abbrev pub provider_clause : Provider → List ℕ
provider_clause providers.Own = codes "; it is of active self"
provider_clause providers.Timer = codes "; it is of active timer"
provider_clause (providers.Native n) = codes "; it is of active native " ++ decimal n
provider_clause providers.Token = codes "; it is of active token"

abbrev pub class_clause : Option ClassKind → List ℕ
class_clause None = codes "; it is of no class"
class_clause (Some Plain) = codes "; it is of a plain class"
class_clause (Some (Active provider)) = provider_clause provider
class_clause (Some (Server most session)) = codes "; it is of a server"
class_clause (Some Session) = codes "; it is of a session"

-- ---- request states

abbrev pub letter_where : Bool → List ℕ → List ℕ
letter_where true letter = letter
letter_where false letter = []

abbrev pub letters : ℕ → List ℕ
letters set =
    letter_where (has set 1) (codes "u")
    ++ (letter_where (has set 2) (codes "i")
    ++ (letter_where (has set 4) (codes "s")
    ++ (letter_where (has set 8) (codes "a")
    ++ (letter_where (has set 16) (codes "o")
    ++ letter_where (has set 32) (codes "d")))))

-- a set as a text has it
unfoldable pub set_words : ℕ → List ℕ
set_words set = cond (set == 0) (codes "-") (letters set)

-- the states in which the object may be that a method is called on
abbrev pub called_in : Image → ℕ → Target → (states : ℕ) → ℕ
called_in p m' This states = states
called_in p m' (Register r) states = resting p (method_class p m')
called_in p m' (Field f) states = resting p (method_class p m')
called_in p m' (On_entry k) states = resting p (method_class p m')

abbrev pub may_be_words : (states : ℕ) → List ℕ
may_be_words states = codes "; it may be in " ++ set_words states

abbrev pub states_clause : (rest : List ℕ) → (states : ℕ) → List ℕ
states_clause rest states = rest ++ may_be_words states

abbrev pub allowed_words : ℕ → List ℕ
allowed_words allowed = codes "the request in " ++ set_words allowed

abbrev pub states_need : (allowed : ℕ) → (rest : List ℕ) → (states : ℕ) → List ℕ
states_need allowed rest states = allowed_words allowed ++ states_clause rest states

abbrev pub begin_words : Names → ℕ → List ℕ
begin_words ns m' = method_need ns (codes " alone, where ") m' (codes " begins")

-- ---- all

module _ (ns : Names) (p : Image) (m : ℕ) (sh : AbstractState) where
  abbrev pub need_words : Wanted → List ℕ
  need_words (want.Word r) = register_need ns (codes "a word in r") r (register sh r)
  need_words (want.Unowning r) = unowning_need ns r (register sh r)
  need_words (want.ObjectOrNull r) = register_need ns (codes "an object, a message or null in r") r (register sh r)
  need_words (want.Deletable r) = register_need ns (codes "an object or null in r") r (register sh r)
  need_words (want.Pushable r) = object_need ns p m sh r
  need_words (want.Owner x t) = owner_need ns p m sh x t
  need_words (want.OwnerOrNull r t) = owner_or_null ns t r (register sh r)
  need_words (want.ObjectWord w) = word_need p m w
  need_words (want.Field f) = numbered (codes "a field f") f (codes " of the method's object; none of that number is declared")
  need_words (want.MethodOfObjects m') = method_need ns (codes "a method that works on an object; ") m' (codes " works on none: call it on self")
  need_words (want.OwnObject m') = method_need ns (codes "a method that works on the method's own object; ") m' (codes " works on another")
  need_words (want.NoArgument r first m') = numbered (codes "an object that is no argument; r") r (codes " is one too")
  need_words (want.Arguments m' first) = arguments_need p m' first
  need_words (want.ResultRegister m' c) = unowning_need ns c (register sh c)
  need_words (want.NoResult a) = numbered (codes "ret alone, as the method gives nothing back in a register; r") a (codes " is named")
  need_words want.LastObject = codes "an object as the last cleanup entry, c0; it is an operation: popop takes that down"
  need_words want.LastOperation = codes "an operation as the last cleanup entry, c0; it is an object: pop or popdel takes that down"
  need_words want.Service = codes "a service method; it is of another role"
  need_words want.Message = codes "the message of the service; it has been taken"
  need_words (want.OfClass need) = class_words need ++ class_clause (own_kind p m)
  need_words (want.Begin m' target) = states_need (before_of p m') (begin_words ns m') (called_in p m' target sh.states)
  need_words want.End = states_need (after_of p m) (codes " alone, where the method ends") sh.states
  need_words want.Cancelling = states_need cancelling (codes " alone, in the cancel method") sh.states
  need_words want.Inactive = states_clause (codes "the request not active") sh.states ++ codes ": cancel it before"

  unfoldable pub sentence : Wanted → List ℕ
  sentence w = codes "Needed: " ++ (need_words w ++ 10 ∷ [])

  abbrev pub sentence_of : Option Wanted → List ℕ
  sentence_of None = []
  sentence_of (Some w) = sentence w

-- in the state once the arguments have moved
abbrev pub moved_sentence : Names → Image → ℕ → AbstractState → Instr → List ℕ
moved_sentence ns p m sh i = sentence_of ns p m sh (first_unmet p m sh (moved_wanted i))

-- the sentence of what is not met there, or else once the arguments have moved
abbrev pub sentence_from : Names → Image → ℕ → AbstractState → Instr → Option Wanted → List ℕ
sentence_from ns p m sh i None = moved_sentence ns p m (moved p i sh) i
sentence_from ns p m sh i (Some w) = sentence ns p m sh w

-- the sentence of the first that is not met
unfoldable pub needed_text : Names → Image → ℕ → AbstractState → Instr → List ℕ
needed_text ns p m sh i = sentence_from ns p m sh i (first_unmet p m sh (wanted p m i))

-- what is said of an instruction that is refused for that reason
abbrev pub needed_where : Names → Bool → Image → ℕ → AbstractState → Instr → List ℕ
needed_where ns true p m sh i = needed_text ns p m sh i
needed_where ns false p m sh i = []

abbrev pub needed_in : Names → Image → ℕ → AbstractState → Reason → Option Instr → List ℕ
needed_in ns p m sh why None = []
needed_in ns p m sh why (Some i) = needed_where ns (is_told why) p m sh i

-- what is said of a place that is refused for that reason
abbrev pub needed_line : Names → Image → (method place : ℕ) → AbstractState → Reason → List ℕ
needed_line ns p m place sh why = needed_in ns p m sh why (instr_at p m place)

-- the first need that is not met there, where it is refused for such a reason
abbrev pub first_where : Bool → Image → ℕ → AbstractState → Instr → Option Wanted
first_where true p m sh i = first_unmet p m sh (wanted p m i)
first_where false p m sh i = None

abbrev pub first_in : Image → ℕ → AbstractState → Reason → Option Instr → Option Wanted
first_in p m sh why None = None
first_in p m sh why (Some i) = first_where (is_told why) p m sh i

abbrev pub first_needed : Image → (method place : ℕ) → AbstractState → Reason → Option Wanted
first_needed p m place sh why = first_in p m sh why (instr_at p m place)
