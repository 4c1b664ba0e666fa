-- What a program is: a tree that fits the grammar, with its tokens and its items.
use Rattle.std.specs.Prelude.{◌≡◌, ◌<◌, ℕ, ◌+◌, ◌-◌, ◌++◌, List, [], ◌∷◌, length, take, Option, Some, None, slice_get, map}
use Rattle.std.specs.List.{fold}
use Rattle.aom_source_tokens.specs.declared.mark.Mark.TheVariants as m
use Rattle.aom_source_tokens.specs.Tokens.{Word, A_number, A_name, A_keyword, A_mark, The_end, Placed}
use Rattle.aom_source_syntax.specs.declared.declarations.DeclarationPart.TheVariants as d
use Rattle.aom_source_syntax.specs.declared.item.Action.{Action}
use Rattle.aom_source_syntax.specs.declared.item.Item.{Item}
use Rattle.aom_source_syntax.specs.declared.symbol.Class.{Class}
use Rattle.aom_source_syntax.specs.declared.symbol.Class.TheVariants as c
use Rattle.aom_source_syntax.specs.declared.symbol.Part.{Part}
use Rattle.aom_source_syntax.specs.declared.symbol.Symbol.{Symbol}
use Rattle.aom_source_syntax.specs.declared.symbol.Symbol.TheVariants as s
use Rattle.aom_source_syntax.specs.Grammar.{declaration, rule}

-- trees side by side: none, or a token, what leaves an item, or a part with the trees of which it consists, before the others
pub data Trees : Type 0 where
  None_more : Trees
  Token_of : (class : Class) → (others : Trees) → Trees
  Item_of : (action : Action) → (others : Trees) → Trees
  Part_of : (part : Part) → (inner : Trees) → (others : Trees) → Trees

-- the symbols of which they are trees
abbrev pub symbols_of : Trees → List Symbol
symbols_of None_more = []
symbols_of (Token_of class others) = s.Token class ∷ symbols_of others
symbols_of (Item_of action others) = s.Action action ∷ symbols_of others
symbols_of (Part_of part inner others) = s.Part part ∷ symbols_of others

-- their tokens, in order
abbrev pub tokens_of : Trees → List Class
tokens_of None_more = []
tokens_of (Token_of class others) = class ∷ tokens_of others
tokens_of (Item_of action others) = tokens_of others
tokens_of (Part_of part inner others) = tokens_of inner ++ tokens_of others

-- their items, in order: they stand at the token `at`, in a production that begins at the token `from`
abbrev pub items_of : Trees → ℕ → ℕ → List Item
items_of None_more from at = []
items_of (Token_of class others) from at = items_of others from (at + 1)
items_of (Item_of action others) from at = record { action = action; token = from } ∷ items_of others from at
items_of (Part_of part inner others) from at = items_of inner at at ++ items_of others from (at + length (tokens_of inner))

-- what the grammar sees of a token of a text, and of none
abbrev pub or_end : Option Class → Class
or_end (Some class) = class
or_end None = c.End

abbrev pub class_at : List Class → ℕ → Class
class_at text at = or_end (slice_get text at)

-- they fit the grammar where they stand in a text: each token is the text's there,
-- and each part consists of the symbols that its first token and the one behind choose
abbrev pub Fits : Trees → List Class → ℕ → Type 0
Fits None_more text at = Unit {0}
Fits (Token_of class others) text at = (slice_get text at ≡ Some class) × Fits others text (at + 1)
Fits (Item_of action others) text at = Fits others text at
Fits (Part_of part inner others) text at =
    (rule part (class_at text at) (class_at text (at + 1)) ≡ Some (symbols_of inner)) × Fits inner text at × Fits others text (at + length (tokens_of inner))

-- the text is a program, and these are its items: some tree of a program has the whole text and these items
pub record IsProgram (text : List Class) (items : List Item) : Type 0 where
  pub tree : Trees
  pub root : symbols_of tree ≡ declaration d.Program ∷ []
  pub fits : Fits tree text 0
  pub whole : length (tokens_of tree) ≡ length text
  pub has : items ≡ items_of tree 0 0

-- how many brackets are open behind a token
abbrev pub depth_behind : ℕ → Class → ℕ
depth_behind depth (c.Mark m.OpenParenthesis) = depth + 1
depth_behind depth (c.Mark m.OpenBrace) = depth + 1
depth_behind depth (c.Mark m.CloseParenthesis) = depth - 1
depth_behind depth (c.Mark m.CloseBrace) = depth - 1
depth_behind depth class = depth

-- how many brackets are open before the token of a number
abbrev pub depth_at : List Class → ℕ → ℕ
depth_at text at = fold depth_behind 0 (take at text)

-- texts that begin with the same tokens, or end there alike
pub record Agree (many : ℕ) (text other : List Class) : Type 0 where
  pub at : (k : ℕ) → k < many → slice_get text k ≡ slice_get other k

-- what the grammar sees of a token
abbrev pub class_of : Word → Class
class_of (A_number value) = c.Number
class_of (A_name bytes) = c.Name
class_of (A_keyword keyword) = c.Keyword keyword
class_of (A_mark mark) = c.Mark mark
class_of The_end = c.End

-- the classes of tokens, and of the end
abbrev pub classes_of : List Placed → List Class
classes_of tokens = map (λ t. class_of t.word) tokens ++ c.End ∷ []
