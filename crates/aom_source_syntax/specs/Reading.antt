-- Where the reader stands: what is still to come completes what has been read to a program, if anything does.
use Rattle.std.specs.Prelude.{◌≡◌, ◌<◌, ◌≤◌, ℕ, ◌+◌, ◌++◌, ◌⊎◌, List, [], ◌∷◌, length, map, Option, Some, None, slice_get}
use Rattle.aom_source_syntax.specs.declared.fault.SyntaxFault.{SyntaxFault}
use Rattle.aom_source_syntax.specs.declared.fault.SyntaxFaultKind.{SyntaxFaultKind}
use Rattle.aom_source_syntax.specs.declared.fault.SyntaxFaultKind.TheVariants as f
use Rattle.aom_source_syntax.specs.declared.item.Item.{Item}
use Rattle.aom_source_syntax.specs.declared.stack.Waiting.{Waiting}
use Rattle.aom_source_syntax.specs.declared.symbol.Class.{Class}
use Rattle.aom_source_syntax.specs.declared.symbol.Class.TheVariants as c
use Rattle.aom_source_syntax.specs.declared.symbol.Part.{Part}
use Rattle.aom_source_syntax.specs.declared.symbol.Symbol.{Symbol}
use Rattle.aom_source_syntax.specs.declared.symbol.Symbol.TheVariants as s
use Rattle.aom_source_syntax.specs.declared.declarations.DeclarationPart.TheVariants as d
use Rattle.aom_source_syntax.specs.Grammar.{declaration, rule}
use Rattle.aom_source_syntax.specs.Programs.{Trees, symbols_of, tokens_of, items_of, class_at, Fits, IsProgram, depth_at, depth_behind, Agree}

-- a symbol waits, of a production that began at the token `from`
abbrev pub waiting : ℕ → Symbol → Waiting
waiting from symbol = record { symbol = symbol; token = from }

-- from the token `at` on a symbol completes to these items, where what comes behind it does to the rest
abbrev pub After : Symbol → ℕ → List Class → ℕ → (ℕ → List Item → Type 0) → List Item → Type 0
After (s.Token class) from text at others items = (slice_get text at ≡ Some class) × others (at + 1) items
After (s.Action action) from text at others items = (more : List Item) × (items ≡ record { action = action; token = from } ∷ more) × others at more
After (s.Part part) from text at others items =
    (inner : Trees) × (more : List Item) × (rule part (class_at text at) (class_at text (at + 1)) ≡ Some (symbols_of inner)) × Fits inner text at
    × (items ≡ items_of inner at at ++ more) × others (at + length (tokens_of inner)) more

-- what waits completes to these items, at the end of the text
abbrev pub Completes : List Waiting → List Class → ℕ → List Item → Type 0
Completes [] text at items = (at ≡ length text) × (items ≡ [])
Completes (w ∷ ws) text at items = After w.symbol w.token text at (Completes ws text) items

-- all items: those that were left, and those to which what waits completes
pub record Splits (text : List Class) (all items : List Item) (stack : List Waiting) (at : ℕ) : Type 0 where
  pub more : List Item
  pub joins : all ≡ items ++ more
  pub completes : Completes stack text at more

-- a text's programs are those to which what waits completes
pub record Leads (text : List Class) (items : List Item) (stack : List Waiting) (at : ℕ) : Type 0 where
  pub on : (all : List Item) → IsProgram text all → Splits text all items stack at
  pub back : (more : List Item) → Completes stack text at more → IsProgram text (items ++ more)

-- so it is for each text that begins as this one, up to the token behind the next
pub record Stands (text : List Class) (items : List Item) (stack : List Waiting) (at : ℕ) : Type 0 where
  pub leads : (other : List Class) → Agree (at + 2) text other → Leads other items stack at

-- a token that is expected before what waits; or nothing is
abbrev pub expecting : Option Class → List Waiting → List Waiting
expecting (Some class) stack = waiting 0 (s.Token class) ∷ stack
expecting None stack = []

-- no text that begins as this one, up to the token behind the one of this number, is a program
pub record NoProgram (text : List Class) (at : ℕ) : Type 0 where
  pub none : (other : List Class) → Agree (at + 2) text other → (items : List Item) → IsProgram other items → ⊥

-- what a fault says of a text
abbrev pub RefusesAs : List Class → ℕ → SyntaxFaultKind → Type 0
RefusesAs text at (f.Token class) = NoProgram text at × ((class ≡ c.End) ⊎ (slice_get text at ≡ Some class → ⊥))
RefusesAs text at (f.Part part) = NoProgram text at × (rule part (class_at text at) (class_at text (at + 1)) ≡ None)
RefusesAs text at f.TooDeep = (at < length text) × (64 < depth_at text (at + 1)) × ((k : ℕ) → k < at + 1 → depth_at text k ≤ 64)
RefusesAs text at f.OutOfMemory = Unit {0}

abbrev pub Refuses : List Class → SyntaxFault → Type 0
Refuses text fault = RefusesAs text fault.token fault.kind

-- never more than 64 brackets are open
pub record IsShallow (text : List Class) : Type 0 where
  pub at : (k : ℕ) → k ≤ length text → depth_at text k ≤ 64

-- what is wrong where a token of a class is expected
abbrev pub Mismatch : List Class → ℕ → ℕ → Class → SyntaxFaultKind → Type 0
Mismatch text at depth class (f.Token expected) = (expected ≡ class) × (slice_get text at ≡ Some class → ⊥)
Mismatch text at depth class (f.Part part) = ⊥
Mismatch text at depth class f.TooDeep = (slice_get text at ≡ Some class) × (64 < depth_behind depth class)
Mismatch text at depth class f.OutOfMemory = ⊥

-- a part that waited is what the production has that its first tokens choose
abbrev pub IsChosen : List Class → ℕ → Part → List Waiting → List Waiting → Type 0
IsChosen text at part old new =
    (symbols : List Symbol) × (rule part (class_at text at) (class_at text (at + 1)) ≡ Some symbols) × (new ≡ map (waiting at) symbols ++ old)

-- no such part begins here, or memory is out
abbrev pub IsRefused : List Class → ℕ → Part → SyntaxFault → Type 0
IsRefused text at part fault =
    ((fault ≡ record { token = at; kind = f.Part part }) × (rule part (class_at text at) (class_at text (at + 1)) ≡ None))
    ⊎ (fault ≡ record { token = at; kind = f.OutOfMemory })

-- a text that is a program, and in which never more than 64 brackets are open, is refused for want of memory alone
abbrev pub RefusesNoProgram : List Class → SyntaxFault → Type 0
RefusesNoProgram text fault = (items : List Item) → IsProgram text items → IsShallow text → fault.kind ≡ f.OutOfMemory

-- no other items are those of the text
abbrev pub IsOnlyProgram : List Class → List Item → Type 0
IsOnlyProgram text items = (others : List Item) → IsProgram text others → others ≡ items

-- a text has one tree of a program at most
abbrev pub OneTree : Type 0
OneTree =
    (text : List Class) (one two : Trees) → symbols_of one ≡ declaration d.Program ∷ [] → symbols_of two ≡ declaration d.Program ∷ []
    → Fits one text 0 → Fits two text 0 → one ≡ two

-- and one list of items
abbrev pub OneProgram : Type 0
OneProgram = (text : List Class) (one two : List Item) → IsProgram text one → IsProgram text two → one ≡ two
