-- The statement that declares a method.
use Rattle.std.specs.Prelude.{ℕ, ◌==◌, Bool, true, false, if◌then◌else◌, List, [], ◌∷◌, ◌++◌, map, codes}
use Rattle.aom_image.specs.Views.{has}
use Rattle.aom_image.specs.declared.method.Argument.{Argument}
use Rattle.aom_image.specs.declared.method.Argument.TheVariants as arg
use Rattle.aom_image.specs.declared.method.Gives.{Gives}
use Rattle.aom_image.specs.declared.method.Gives.TheVariants as result
use Rattle.aom_image.specs.declared.method.Method.{Method}
use Rattle.aom_image.specs.declared.method.Role.{Role}
use Rattle.aom_image.specs.declared.method.Role.TheVariants as roles
use Rattle.aom_syntax.specs.Keywords.{keyword_text}
use Rattle.aom_syntax.specs.declared.keyword.Keyword.{Keyword}
use Rattle.aom_syntax.specs.declared.keyword.Keyword.TheVariants as k
use Rattle.aom_disassembler.specs.Classes.{thing_word}
use Rattle.aom_disassembler.specs.Operands.{class_after, class_name, method_after, method_name}
use Rattle.aom_disassembler.specs.Text.{list_word}

-- what each role is called
abbrev pub role_keyword : Role → Keyword
role_keyword roles.Do = k.Do
role_keyword roles.Main = k.Main
role_keyword roles.Construct = k.Construct
role_keyword roles.Destruct = k.Destruct
role_keyword roles.Run = k.Run
role_keyword roles.Cancel = k.Cancel
role_keyword roles.Error = k.Error
role_keyword roles.Accept = k.Accept
role_keyword roles.Service = k.Service
role_keyword roles.Undo = k.Undo

-- a word, where it is wanted
abbrev pub word_where : Bool → Keyword → List (List ℕ)
word_where true key = keyword_text key ∷ []
word_where false key = []

-- the flags that are set
abbrev pub flag_words : ℕ → List (List ℕ)
flag_words flags = word_where (has flags 1) k.Leaves ++ word_where (has flags 2) k.Quiet

-- ---- sets of states

-- a letter, where its state is in the set
abbrev pub letter_where : Bool → ℕ → List ℕ
letter_where true letter = letter ∷ []
letter_where false letter = []

-- letters of u, i, s, a, o, d in this order
abbrev pub state_letters : ℕ → List ℕ
state_letters set = letter_where (has set 1) 117 ++ letter_where (has set 2) 105 ++ letter_where (has set 4) 115 ++ letter_where (has set 8) 97 ++ letter_where (has set 16) 111 ++ letter_where (has set 32) 100

-- a set in one word, where a minus is the empty one
abbrev pub states_word : ℕ → List ℕ
states_word set = if set == 0 then codes "-" else state_letters set

-- ---- arguments and results

abbrev pub argument_word : Argument → List ℕ
argument_word arg.Word = keyword_text k.Word
argument_word (arg.Own t) = thing_word t

abbrev pub gives_words : Gives → List (List ℕ)
gives_words result.Nothing = keyword_text k.Nothing ∷ []
gives_words result.Word = keyword_text k.Word ∷ []
gives_words (result.Own t) = keyword_text k.Own ∷ thing_word t ∷ []
gives_words (result.Maybe t) = keyword_text k.Maybe ∷ thing_word t ∷ []
gives_words (result.Left c) = keyword_text k.Left ∷ class_name c ∷ []

-- ---- the statement

-- what has to hold before and after, what it takes and what it gives
abbrev pub promise_words : Method → List (List ℕ)
promise_words m =
    keyword_text k.In
    ∷ states_word m.before.0
    ∷ keyword_text k.Out
    ∷ states_word m.after.0
    ∷ keyword_text k.Args
    ∷ list_word (map argument_word m.arguments)
    ∷ keyword_text k.Gives
    ∷ gives_words m.gives

-- a method, at its place among the methods
abbrev pub heading_words : ℕ → Method → List (List ℕ)
heading_words place m = keyword_text k.Method ∷ method_name place ∷ keyword_text (role_keyword m.role) ∷ (class_after k.Of m.class ++ (method_after k.Over m.over ++ (flag_words m.flags.0 ++ promise_words m)))
