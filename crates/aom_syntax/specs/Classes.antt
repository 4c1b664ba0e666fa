-- The statement that declares a class.
use Rattle.std.specs.Prelude.{ℕ, ◌==◌, Bool, true, false, not, nat_lt, if◌then◌else◌, List, [], ◌∷◌, ◌++◌, length, Option, Some, None, Result, Ok, Err, codes}
use Rattle.std.specs.List.{slice_split}
use Rattle.std.specs.Str.{bytes_eq}
use Rattle.aom_text.specs.declared.fault.AsmFaultKind.{AsmFaultKind}
use Rattle.aom_text.specs.declared.fault.AsmFaultKind.TheVariants.{DoubleName, BadShape, LimitPassed}
use Rattle.aom_image.specs.WellFormed.{is_dispatched, may_descend}
use Rattle.aom_instructions.specs.Versions.{includes}
use Rattle.aom_instructions.specs.declared.version.Version.{Version}
use Rattle.aom_instructions.specs.declared.version.Version.TheVariants as versions
use Rattle.aom_image.specs.declared.class.ClassDecl.{ClassDecl}
use Rattle.aom_image.specs.declared.class.ClassKind.{ClassKind}
use Rattle.aom_image.specs.declared.class.ClassKind.TheVariants as kinds
use Rattle.aom_image.specs.declared.class.Provider.{Provider}
use Rattle.aom_image.specs.declared.class.Provider.TheVariants as providers
use Rattle.aom_image.specs.declared.method.Thing.{Thing}
use Rattle.aom_image.specs.declared.method.Thing.TheVariants as owned
use Rattle.aom_syntax.specs.Reading.{◌>>=◌, Reading, next, seen, giving, failing, word, name, as_name, took, keyword, any_keyword, nothing_more, number, optional_number}
use Rattle.aom_syntax.specs.Names.{place_of, referred}
use Rattle.aom_syntax.specs.Operands.{class}
use Rattle.aom_syntax.specs.declared.keyword.Keyword.{Keyword}
use Rattle.aom_syntax.specs.declared.keyword.Keyword.TheVariants as k
use Rattle.aom_syntax.specs.declared.scope.Scope.{Scope}

-- ---- names that are declared

-- a name belongs to the place at which it is declared first
abbrev pub is_at : ℕ → Option ℕ → Bool
is_at place None = false
is_at place (Some n) = n == place

abbrev pub declared_at : ℕ → List (List ℕ) → List ℕ → Result (Unit {0}) AsmFaultKind
declared_at place names n = if is_at place (place_of n names) then Ok tt else Err DoubleName

-- a name that is declared here, at its place among all of its kind
abbrev pub declared : ℕ → List (List ℕ) → Reading (Unit {0})
declared place names = seen (declared_at place names) name

-- ---- lists

-- a list of at most so many, between commas
abbrev pub elements : {X : Type 0} → ℕ → (List ℕ → Result X AsmFaultKind) → List X → List (List ℕ) → Result (List X) AsmFaultKind
elements most one front [] = Ok front
elements most one front (p ∷ ps) = if nat_lt (length front) most then (one p >>= λ x. elements most one (front ++ x ∷ []) ps) else Err LimitPassed

-- the same in one word, where a minus is the empty list
abbrev pub listed : {X : Type 0} → ℕ → (List ℕ → Result X AsmFaultKind) → List ℕ → Result (List X) AsmFaultKind
listed most one w = if bytes_eq w (codes "-") then Ok [] else elements most one [] (slice_split (λ b. b == 44) w)

-- the parts of what is left of a list
abbrev pub parts_left : Option (List ℕ) → List (List ℕ)
parts_left None = []
parts_left (Some rest) = slice_split (λ b. b == 44) rest

-- a class that is named in a list
abbrev pub class_of : Scope → List ℕ → Result ℕ AsmFaultKind
class_of scope w = as_name w >>= λ n. referred scope.is_strict 256 (place_of n scope.classes)

-- what may be owned: a message, or an object of a class
abbrev pub thing_of : Scope → List ℕ → Result Thing AsmFaultKind
thing_of scope w = if bytes_eq w (codes "msg") then Ok owned.Message else (class_of scope w >>= λ c. Ok (owned.Object c))

abbrev pub thing : Scope → Reading Thing
thing scope = seen (thing_of scope) word

abbrev pub things : Scope → Reading (List Thing)
things scope = seen (listed 8 (thing_of scope)) word

-- ---- kinds

-- what completes an active object's requests: tokens in a text of the second version alone
abbrev pub provider : Version → ℕ → Keyword → Reading Provider
provider version natives k.This = giving providers.Own
provider version natives k.Timer = giving providers.Timer
provider version natives k.Token = if includes version versions.Two then giving providers.Token else failing BadShape
provider version natives k.Native = next (number 0 15) (λ n. if nat_lt n natives then giving (providers.Native n) else failing LimitPassed)
provider version natives key = failing BadShape

-- a server: the class of its sessions and how many there may be
abbrev pub server : Scope → Reading ClassKind
server scope = next (class scope) (λ c. next (keyword k.Max) (λ u. next (number 1 64) (λ n. giving (kinds.Server n c))))

-- what a class is for, after so many servers
abbrev pub kind : Scope → Version → ℕ → ℕ → Keyword → Reading ClassKind
kind scope version natives servers k.Plain = giving kinds.Plain
kind scope version natives servers k.Session = giving kinds.Session
kind scope version natives servers k.Active = next any_keyword (λ key. next (provider version natives key) (λ p. giving (kinds.Active p)))
kind scope version natives servers k.Server = if nat_lt servers 8 then server scope else failing LimitPassed
kind scope version natives servers key = failing BadShape

-- a parent, in a text of the second version and of a class that may have one
abbrev pub said_parent : Scope → Version → ClassKind → Reading (Option ℕ)
said_parent scope versions.One kind = failing BadShape
said_parent scope versions.Two kind = if may_descend kind then next (class scope) (λ c. giving (Some c)) else failing BadShape

abbrev pub optional_parent : Scope → Version → ClassKind → Reading (Option ℕ)
optional_parent scope version kind ws = if (took k.From ws).0 then said_parent scope version kind (took k.From ws).1 else Ok (None, (took k.From ws).1)

-- a budget at the end
abbrev pub said_budget : Reading ℕ
said_budget = next (keyword k.Budget) (λ u. next (number 0 4294967295) (λ n. next (nothing_more false) (λ u. giving n)))

-- a budget has to stand where there are dispatches, and may not stand elsewhere; owned fields were listed or not
abbrev pub budget : Bool → Bool → Reading ℕ
budget has_fields true = said_budget
budget has_fields false = next (nothing_more (not has_fields)) (λ u. giving 0)

-- ---- the statement

-- owned fields, where they are listed
abbrev pub fields : Scope → Bool → Reading (List Thing)
fields scope false = giving []
fields scope true = things scope

-- whether the next word is this one
abbrev pub flag : Keyword → Reading Bool
flag key ws = Ok (took key ws)

-- what stands behind a class's name, where so many servers stand before it
abbrev pub class_parts : Scope → Version → ℕ → ℕ → Reading ClassDecl
class_parts scope version natives servers =
    next any_keyword (λ key.
    next (kind scope version natives servers key) (λ kind.
    next (optional_parent scope version kind) (λ parent.
    next (optional_number k.Words 8) (λ words.
    next (flag k.Own) (λ owns.
    next (fields scope owns) (λ list.
    next (budget owns (is_dispatched kind)) (λ n.
    giving (record { kind = kind; parent = parent; words = words; fields = list; budget = n }))))))))

-- a class, at its place among the classes, after so many servers
abbrev pub class_statement : Scope → Version → ℕ → ℕ → ℕ → Reading ClassDecl
class_statement scope version natives place servers = next (declared place scope.classes) (λ u. class_parts scope version natives servers)
