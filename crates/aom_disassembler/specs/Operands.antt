-- How names and the operands of instructions are written.
use Rattle.std.specs.Prelude.{ℕ, List, [], ◌∷◌, Option, Some, None, decimal}
use Rattle.aom_instructions.specs.declared.instr.Target.{Target}
use Rattle.aom_instructions.specs.declared.instr.Target.TheVariants as targets
use Rattle.aom_syntax.specs.Keywords.{keyword_text}
use Rattle.aom_syntax.specs.declared.keyword.Keyword.{Keyword}
use Rattle.aom_syntax.specs.declared.keyword.Keyword.TheVariants as k

-- ---- names: a letter and a number

abbrev pub class_name : ℕ → List ℕ
class_name n = 99 ∷ decimal n

abbrev pub method_name : ℕ → List ℕ
method_name n = 109 ∷ decimal n

-- a word of the language and the name of a class behind it, where there is one
abbrev pub class_after : Keyword → Option ℕ → List (List ℕ)
class_after key None = []
class_after key (Some c) = keyword_text key ∷ class_name c ∷ []

-- the same of a method
abbrev pub method_after : Keyword → Option ℕ → List (List ℕ)
method_after key None = []
method_after key (Some m) = keyword_text key ∷ method_name m ∷ []

-- the label of a place
abbrev pub label_name : ℕ → List ℕ
label_name place = 76 ∷ decimal place

-- ---- registers, fields and what a call is made on: a letter and a number

abbrev pub register_word : ℕ → List ℕ
register_word n = 114 ∷ decimal n

abbrev pub field_word : ℕ → List ℕ
field_word n = 102 ∷ decimal n

-- what a call is made on
abbrev pub target_word : Target → List ℕ
target_word targets.This = keyword_text k.This
target_word (targets.Register r) = register_word r
target_word (targets.Field f) = field_word f
target_word (targets.Entry e) = 99 ∷ decimal e
