-- The statement that declares a method, and the statements of its code.
use Rattle.std.specs.Prelude.{ℕ, ◌==◌, ◌+◌, ◌-◌, Bool, true, false, ◌||◌, if◌then◌else◌, List, [], ◌∷◌, take, length, replicate, Option, Some, None, Result, Ok, Err, codes, slice_get, slice_index_or}
use Rattle.std.specs.Str.{bytes_eq}
use Rattle.aom_text.specs.declared.fault.AsmFaultKind.{AsmFaultKind}
use Rattle.aom_text.specs.declared.fault.AsmFaultKind.TheVariants.{BadShape}
use Rattle.aom_image.specs.declared.class.ClassDecl.{ClassDecl}
use Rattle.aom_image.specs.declared.class.ClassKind.{ClassKind}
use Rattle.aom_image.specs.declared.class.ClassKind.TheVariants as kinds
use Rattle.aom_image.specs.declared.method.Thing.TheVariants as owned
use Rattle.aom_image.specs.declared.method.Argument.{Argument}
use Rattle.aom_image.specs.declared.method.Argument.TheVariants as arg
use Rattle.aom_image.specs.declared.method.Gives.{Gives}
use Rattle.aom_image.specs.declared.method.Gives.TheVariants as result
use Rattle.aom_image.specs.declared.method.Role.{Role}
use Rattle.aom_image.specs.declared.method.Role.TheVariants as roles
use Rattle.aom_image.specs.declared.method.States.{States}
use Rattle.aom_image.specs.declared.method.MethodFlags.{MethodFlags}
use Rattle.aom_instructions.specs.declared.instr.Instr.{Instr}
use Rattle.aom_syntax.specs.Reading.{◌>>=◌, Reading, next, seen, giving, failing, word, as_name, took, any_keyword, nothing_more}
use Rattle.aom_syntax.specs.Keywords.{unexpected_word}
use Rattle.aom_instructions.specs.Mnemonics.{is_in, mnemonic_of}
use Rattle.aom_instructions.specs.declared.version.Version.{Version}
use Rattle.aom_instructions.specs.declared.version.Version.TheVariants as versions
use Rattle.aom_syntax.specs.Operands.{class, method}
use Rattle.aom_syntax.specs.Words.{words_operands}
use Rattle.aom_syntax.specs.Classes.{declared, declared_at, listed, thing_of, thing, flag}
use Rattle.aom_syntax.specs.declared.keyword.Keyword.{Keyword}
use Rattle.aom_syntax.specs.declared.keyword.Keyword.TheVariants as k
use Rattle.aom_instructions.specs.declared.mnemonic.Mnemonic.{Mnemonic}
use Rattle.aom_syntax.specs.declared.scope.Scope.{Scope}
use Rattle.aom_syntax.specs.declared.method.Heading.{Heading}

-- ---- roles

abbrev pub role_of : Keyword → Result Role AsmFaultKind
role_of k.Do = Ok roles.Do
role_of k.Main = Ok roles.Main
role_of k.Construct = Ok roles.Construct
role_of k.Destruct = Ok roles.Destruct
role_of k.Run = Ok roles.Run
role_of k.Cancel = Ok roles.Cancel
role_of k.Error = Ok roles.Error
role_of k.Accept = Ok roles.Accept
role_of k.Service = Ok roles.Service
role_of k.Undo = Ok roles.Undo
role_of key = Err BadShape

abbrev pub role : Reading Role
role = seen role_of any_keyword

-- ---- what a class's kind says of its methods

-- a class among those that were read before
abbrev pub kind_of : List ClassDecl → Option ℕ → ClassKind
kind_of classes None = kinds.Plain
kind_of classes (Some c) = elim (slice_get classes c) [ None ↦ kinds.Plain | Some decl ↦ decl.kind ]

-- all request states of its objects outside a cancel: unlisted 1, idle 2, active 8
abbrev pub all_states : ClassKind → ℕ
all_states kinds.Plain = 0
all_states (kinds.Active p) = 11
all_states (kinds.Server sessions session) = 3
all_states kinds.Session = 0

-- what an accept of a class that is no server gives: nothing stands for it, once the classes are known
abbrev pub not_served : Bool → Option Gives
not_served true = None
not_served false = Some result.Nothing

-- what an accept gives
abbrev pub accepted : Bool → ClassKind → Option Gives
accepted known (kinds.Server sessions session) = Some (result.Own (owned.Object session))
accepted known _ = not_served known

-- ---- what stands for what is missing

-- part of a set, where there are states at all
abbrev pub some_of : ℕ → ℕ → ℕ
some_of states all = if all == 0 then 0 else states

-- the states in which a method may begin, by its role and all states of its class
abbrev pub default_before : Role → ℕ → ℕ
default_before roles.Do all = all
default_before roles.Construct all = some_of 1 all
default_before roles.Destruct all = all
default_before roles.Run all = 2
default_before roles.Cancel all = 16
default_before roles.Error all = 10
default_before roles.Accept all = 2
default_before _ all = 0

-- the states in which it may end
abbrev pub default_after : Role → ℕ → ℕ
default_after roles.Do all = all
default_after roles.Construct all = all
default_after roles.Destruct all = some_of 3 all
default_after roles.Run all = 11
default_after roles.Cancel all = 32
default_after roles.Error all = 11
default_after roles.Accept all = 3
default_after _ all = 0

-- how many words it takes
abbrev pub default_words : Role → ℕ
default_words roles.Error = 1
default_words roles.Service = 5
default_words roles.Undo = 1
default_words _ = 0

-- what it gives, if anything stands for it
abbrev pub default_gives : (known : Bool) → Role → ClassKind → Option Gives
default_gives known roles.Error kind = Some result.Word
default_gives known roles.Accept kind = accepted known kind
default_gives known _ kind = Some result.Nothing

-- whether it is quiet, said or not
abbrev pub is_quiet_role : Role → Bool
is_quiet_role roles.Destruct = true
is_quiet_role roles.Cancel = true
is_quiet_role roles.Undo = true
is_quiet_role _ = false

-- ---- sets of states

-- a letter in front, with its bit, and what comes after it
abbrev pub cut_letter : ℕ → ℕ → List ℕ → ℕ × List ℕ
cut_letter letter bit [] = (0, [])
cut_letter letter bit (b ∷ bs) = if b == letter then (bit, bs) else (0, b ∷ bs)

-- letters of u, i, s, a, o, d in this order
abbrev pub letters_of : List ℕ → ℕ × List ℕ
letters_of w =
    let u = cut_letter 117 1 w in
    let i = cut_letter 105 2 u.1 in
    let s = cut_letter 115 4 i.1 in
    let a = cut_letter 97 8 s.1 in
    let o = cut_letter 111 16 a.1 in
    let d = cut_letter 100 32 o.1 in
    (u.0 + i.0 + s.0 + a.0 + o.0 + d.0, d.1)

abbrev pub all_read : ℕ × List ℕ → Result States AsmFaultKind
all_read p = if length p.1 == 0 then Ok (record { 0 = p.0 }) else Err BadShape

abbrev pub states_of : List ℕ → Result States AsmFaultKind
states_of w = if bytes_eq w (codes "-") then Ok (record { 0 = 0 }) else all_read (letters_of w)

-- a set behind its keyword, and else the usual one
abbrev pub optional_states : Keyword → ℕ → Reading States
optional_states key default ws = if (took key ws).0 then seen states_of word (took key ws).1 else Ok (record { 0 = default }, (took key ws).1)

-- ---- the statement

-- what is overridden, in a text of the second version
abbrev pub said_over : Scope → Version → Reading (Option ℕ)
said_over scope versions.One = failing BadShape
said_over scope versions.Two = next (method scope) (λ m. giving (Some m))

abbrev pub optional_over : Scope → Version → Reading (Option ℕ)
optional_over scope version ws = if (took k.Over ws).0 then said_over scope version (took k.Over ws).1 else Ok (None, (took k.Over ws).1)

abbrev pub optional_class : Scope → Reading (Option ℕ)
optional_class scope ws = if (took k.Of ws).0 then (class scope (took k.Of ws).1 >>= λ x. Ok (Some x.0, x.1)) else Ok (None, (took k.Of ws).1)

-- an argument in a list
abbrev pub argument_of : Scope → List ℕ → Result Argument AsmFaultKind
argument_of scope w = if bytes_eq w (codes "word") then Ok arg.Word else (thing_of scope w >>= λ t. Ok (arg.Own t))

abbrev pub optional_arguments : Scope → ℕ → Reading (List Argument)
optional_arguments scope default ws = if (took k.Args ws).0 then seen (listed 6 (argument_of scope)) word (took k.Args ws).1 else Ok (replicate default arg.Word, (took k.Args ws).1)

-- a result, by the keyword before it
abbrev pub gives : Scope → Keyword → Reading Gives
gives scope k.Nothing = giving result.Nothing
gives scope k.Word = giving result.Word
gives scope k.Own = next (thing scope) (λ t. giving (result.Own t))
gives scope k.Maybe = next (thing scope) (λ t. giving (result.Maybe t))
gives scope k.Left = next (class scope) (λ c. giving (result.Left c))
gives scope key = failing BadShape

-- what stands for a result that is missing
abbrev pub omitted_gives : Option Gives → Result Gives AsmFaultKind
omitted_gives None = Err BadShape
omitted_gives (Some g) = Ok g

-- the end of the statement
abbrev pub optional_gives : Scope → Option Gives → Reading Gives
optional_gives scope default ws =
    if (took k.Gives ws).0 then next any_keyword (λ key. next (gives scope key) (λ g. next (nothing_more false) (λ u. giving g))) (took k.Gives ws).1
    else seen (λ u. omitted_gives default) (nothing_more true) (took k.Gives ws).1

-- the flags of a method
abbrev pub flags_of : Bool → Bool → MethodFlags
flags_of leaves quiet = record { 0 = (if leaves then 1 else 0) + (if quiet then 2 else 0) }

-- what a method promises: its states, its arguments and its result
abbrev pub promised : Scope → Role → Option ℕ → Option ℕ → Bool → Bool → Reading Heading
promised scope role class over leaves quiet =
    next (optional_states k.In (default_before role (all_states (kind_of scope.kinds class)))) (λ before.
    next (optional_states k.Out (default_after role (all_states (kind_of scope.kinds class)))) (λ after.
    next (optional_arguments scope (default_words role)) (λ arguments.
    next (optional_gives scope (default_gives scope.is_strict role (kind_of scope.kinds class))) (λ gives.
    giving (record { class = class; over = over; role = role; flags = flags_of leaves (quiet || is_quiet_role role); before = before; after = after; arguments = arguments; gives = gives })))))

-- what stands behind its class and what it overrides
abbrev pub behind_class : Scope → Role → Option ℕ → Option ℕ → Reading Heading
behind_class scope role class over = next (flag k.Leaves) (λ leaves. next (flag k.Quiet) (λ quiet. promised scope role class over leaves quiet))

-- a method but its code, at its place among the methods
abbrev pub heading : Scope → Version → ℕ → Reading Heading
heading scope version place =
    next (declared place scope.methods) (λ u. next role (λ role. next (optional_class scope) (λ class. next (optional_over scope version) (λ over. behind_class scope role class over))))

-- ---- instructions

-- a word that ends with a colon is a label
abbrev pub label_of : List ℕ → Option (List ℕ)
label_of w = if slice_index_or w (length w - 1) 0 == 58 then Some (take (length w - 1) w) else None

-- the mnemonic that a word is, of which the version has the instruction
abbrev pub known_mnemonic : Version → List ℕ → Option Mnemonic → Result Mnemonic AsmFaultKind
known_mnemonic version w None = Err (unexpected_word w)
known_mnemonic version w (Some m) = if is_in version m then Ok m else Err BadShape

abbrev pub named_mnemonic : Version → List ℕ → Result Mnemonic AsmFaultKind
named_mnemonic version w = known_mnemonic version w (mnemonic_of w)

-- a label is a name, and is declared first at this place
abbrev pub check_label : ℕ → List (List ℕ) → List ℕ → Result (Unit {0}) AsmFaultKind
check_label place labels l = as_name l >>= λ n. declared_at place labels n

-- a label is not left without an instruction
abbrev pub skip_label : ℕ → List (List ℕ) → List ℕ → Option (List ℕ) → Reading (List ℕ)
skip_label place labels w None ws = Ok (w, ws)
skip_label place labels w (Some l) ws = check_label place labels l >>= λ u. word ws

-- the first word that is no label
abbrev pub after_label : ℕ → List (List ℕ) → Reading (List ℕ)
after_label place labels = next word (λ w. skip_label place labels w (label_of w))

-- an instruction with its label, at its place in a method
abbrev pub instruction : Scope → Version → List (List ℕ) → ℕ → Reading Instr
instruction scope version labels place =
    next (seen (named_mnemonic version) (after_label place labels)) (λ m.
    next (words_operands scope labels m) (λ i.
    next (nothing_more false) (λ u. giving i)))
