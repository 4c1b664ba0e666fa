-- The form of a command line as `clap` reads it, and what is asked by one.
use Rattle.std.specs.Prelude.{ℕ, ◌≡◌, ◌≢◌, ◌≤◌, ◌<◌, ◌⊎◌, String, Bool, true, false, ◌||◌, List, [], ◌∷◌, Contains, length, map, Option, Some, None, codes, option_map, unwrap_or, pos}
use Rattle.std.specs.Borrow.{Bor}
use Rattle.std.specs.String.{string_bytes}
use Rattle.std.specs.Fmt.{decimal}
use Rattle.std.specs.Str.Parse.{IsNumeral, digits_value, without_leading_plus}
use Rattle.clap.specs.Lexer.{usize_max}
use Rattle.clap.specs.Words.{App, Row, Rule, Text, app_of, first_of, one_of, all_of, new_app, new_rule, with_rule, with_subcommand}
use Rattle.clap.specs.declared.builder.action.ArgAction.TheVariants.{Append, SetTrue}
use Rattle.clap.specs.declared.builder.command.Command.{Command}
use Rattle.clap.specs.declared.builder.command.Command.TheViews.{out-Command as fields_of}
use Rattle.clap.specs.declared.builder.value_parser.ValueParser.{ValueParser}
use Rattle.clap.specs.declared.builder.value_parser.ValueParser.TheVariants.{Signed}
use Rattle.clap.specs.declared.error.kind.ErrorKind.{ErrorKind}
use Rattle.clap.specs.declared.error.kind.ErrorKind.TheVariants.{OutOfMemory}
use Rattle.aom_natives.specs.Kinds.{word_of as word_of_kind}
use Rattle.aom_natives.specs.declared.kind.NativeKind.{NativeKind}
use Rattle.aom_fault_injection.specs.Expected.{expected_said}
use Rattle.aom_fault_injection.specs.declared.expected.ExpectedEnding.{ExpectedEnding}
use Rattle.aom_command_line.specs.declared.words.FileKind.{FileKind}
use Rattle.aom_command_line.specs.declared.words.FileKind.TheVariants.{Image, Assembly, Source}
use Rattle.aom_command_line.specs.declared.words.RunWords.{RunWords}
use Rattle.aom_command_line.specs.declared.words.TriesWords.{TriesWords}
use Rattle.aom_command_line.specs.declared.words.Words.{Words}
use Rattle.aom_command_line.specs.declared.words.Words.TheVariants.{Check, Run, Explore, Debug, Asm, Dis, Compile, Show, Dot, Lsp}
use Rattle.aom_command_line.specs.declared.words.WordsFault.{WordsFault}
use Rattle.aom_command_line.specs.declared.words.WordsFault.TheVariants as faults

-- a command of that form, none of whose arguments is for all commands
pub record HasForm (form : App) (command : Command) : Type 0 where
  pub shape : app_of command ≡ form
  pub own : (fields_of command).has_globals ≡ false

-- the name of a file, which must be there
abbrev pub file_rule : Text → Rule
file_rule id = record (new_rule id) { required = true }

-- an option with a number in that range, which is the default where it is left out
abbrev pub number_rule : Text → ValueParser → Text → Rule
number_rule id range default =
    record (new_rule id) {
      long = Some id;
      value_names = 1;
      parser = Some range;
      defaults = default ∷ [];
    }

-- `--limit N`, a number from 1 to 10^9; where it is left out, 1000000
abbrev pub limit_rule : Rule
limit_rule = number_rule (codes "limit") (Signed (pos 1) (pos 1000000000)) (codes "1000000")

-- `--from N`, the number of a request, from 1 to 2^32 - 1; where it is left out, 1
abbrev pub from_rule : Rule
from_rule = number_rule (codes "from") (Signed (pos 1) (pos 4294967295)) (codes "1")

-- `--to N`, a number of that kind; where it is left out, the greatest
abbrev pub to_rule : Rule
to_rule = number_rule (codes "to") (Signed (pos 1) (pos 4294967295)) (codes "4294967295")

-- `--tries N`, a number of pairs; where it is left out, 10000
abbrev pub tries_rule : Rule
tries_rule = number_rule (codes "tries") (Signed (pos 1) (pos 4294967295)) (codes "10000")

-- an option that stands alone
abbrev pub flag_rule : Text → Rule
flag_rule id =
    record (new_rule id) {
      long = Some id;
      action = Some SetTrue;
    }

-- `--prices`
abbrev pub prices_rule : Rule
prices_rule = flag_rule (codes "prices")

-- `--explain`
abbrev pub explain_rule : Rule
explain_rule = flag_rule (codes "explain")

-- `--lines`
abbrev pub lines_rule : Rule
lines_rule = flag_rule (codes "lines")

-- `--all`
abbrev pub all_rule : Rule
all_rule = flag_rule (codes "all")

-- `--warn`
abbrev pub warn_rule : Rule
warn_rule = flag_rule (codes "warn")

-- `--kills`
abbrev pub kills_rule : Rule
kills_rule = flag_rule (codes "kills")

-- `--deaths`
abbrev pub deaths_rule : Rule
deaths_rule = flag_rule (codes "deaths")

-- `--pairs`
abbrev pub pairs_rule : Rule
pairs_rule = flag_rule (codes "pairs")

-- `--base`
abbrev pub base_rule : Rule
base_rule = flag_rule (codes "base")

-- `--expect ENDING`, which may stand more than once
abbrev pub expect_rule : Rule
expect_rule =
    record (new_rule (codes "expect")) {
      long = Some (codes "expect");
      value_names = 1;
      action = Some Append;
    }

-- `--map`
abbrev pub map_rule : Rule
map_rule = flag_rule (codes "map")

-- `--prompt`
abbrev pub prompt_rule : Rule
prompt_rule = flag_rule (codes "prompt")

-- `--names`
abbrev pub names_rule : Rule
names_rule = flag_rule (codes "names")

-- `--asm`
abbrev pub asm_rule : Rule
asm_rule = flag_rule (codes "asm")

-- `--source`
abbrev pub source_rule : Rule
source_rule = flag_rule (codes "source")

-- `--text TEXT`, the name of a file
abbrev pub text_rule : Rule
text_rule =
    record (new_rule (codes "text")) {
      long = Some (codes "text");
      value_names = 1;
    }

-- any number of words at the end
abbrev pub native_rule : Rule
native_rule =
    record (new_rule (codes "NATIVE")) {
      action = Some Append;
      range = Some (record { start_inclusive = 0; end_inclusive = usize_max });
    }

-- [--asm] [--source] IMAGE, the words of each command about a program
abbrev pub with_program : App → App
with_program command = with_rule (with_rule (with_rule command asm_rule) source_rule) (file_rule (codes "IMAGE"))

-- check [--prices] [--explain] [--lines] [--all] [--warn] [--text TEXT] [--asm] [--source] IMAGE
abbrev pub check_form : App
check_form = with_program (with_rule (with_rule (with_rule (with_rule (with_rule (with_rule (new_app (codes "check")) prices_rule) explain_rule) lines_rule) all_rule) warn_rule) text_rule)

-- asm [--explain] TEXT
abbrev pub asm_form : App
asm_form = with_rule (with_rule (new_app (codes "asm")) explain_rule) (file_rule (codes "TEXT"))

-- dis [--source] IMAGE
abbrev pub dis_form : App
dis_form = with_rule (with_rule (new_app (codes "dis")) source_rule) (file_rule (codes "IMAGE"))

-- compile [--map] SOURCE
abbrev pub compile_form : App
compile_form = with_rule (with_rule (new_app (codes "compile")) map_rule) (file_rule (codes "SOURCE"))

-- show SOURCE
abbrev pub show_form : App
show_form = with_rule (new_app (codes "show")) (file_rule (codes "SOURCE"))

-- dot [--text TEXT] [--asm] [--source] IMAGE
abbrev pub dot_form : App
dot_form = with_program (with_rule (new_app (codes "dot")) text_rule)

-- [--asm] [--source] IMAGE SCRIPT [NATIVE].., the last words of each command that runs an image
abbrev pub with_files : App → App
with_files command = with_rule (with_rule (with_program command) (file_rule (codes "SCRIPT"))) native_rule

-- run [--limit N] [--explain] [--names] [--warn] [--text TEXT] [--asm] [--source] IMAGE SCRIPT [NATIVE]..
abbrev pub run_form : App
run_form = with_files (with_rule (with_rule (with_rule (with_rule (with_rule (new_app (codes "run")) limit_rule) explain_rule) names_rule) warn_rule) text_rule)

-- explore [--limit N] [--from N] [--to N] [--kills] [--deaths] [--pairs] [--tries N] [--base] [--expect ENDING].. [--text TEXT] [--asm] [--source] IMAGE SCRIPT [NATIVE]..
abbrev pub explore_form : App
explore_form =
    with_files (with_rule (with_rule (with_rule (with_rule (with_rule (with_rule (with_rule (with_rule (with_rule (with_rule (new_app (codes "explore")) limit_rule) from_rule) to_rule) kills_rule) deaths_rule) pairs_rule) tries_rule) base_rule) expect_rule) text_rule)

-- debug [--limit N] [--prompt] [--text TEXT] [--asm] [--source] IMAGE SCRIPT [NATIVE]..
abbrev pub debug_form : App
debug_form = with_files (with_rule (with_rule (with_rule (new_app (codes "debug")) limit_rule) prompt_rule) text_rule)

-- lsp
abbrev pub lsp_form : App
lsp_form = new_app (codes "lsp")

-- the program's name, its version, and one of these
abbrev pub bare_form : App
bare_form = record { top = record (new_app (codes "aom")).top { has_version = true; subcommand_required = true }; subs = [] }

abbrev pub form : App
form =
    with_subcommand (with_subcommand (with_subcommand (with_subcommand (with_subcommand (with_subcommand (with_subcommand (with_subcommand (with_subcommand (with_subcommand bare_form check_form.top) run_form.top) explore_form.top) debug_form.top)
    asm_form.top) dis_form.top) dot_form.top) compile_form.top) show_form.top) lsp_form.top

-- the texts of words
abbrev pub texts_of : {A : Type 0} → List (String A) → List Text
texts_of words = map (λ w. string_bytes w) words

-- the first word that was found for that name, or none
abbrev pub word_of : Text → List Row → Text
word_of id rows = unwrap_or (first_of id rows) []

-- the number is from 1 to the greatest, and it is the one that its text is, also where zeros or a plus lead the text
pub record IsNumberUpTo (greatest : ℕ) (text : Option Text) (number : ℕ) : Type 0 where
  pub least : 1 ≤ number
  pub most : number ≤ greatest
  pub is : (n : ℕ) → 1 ≤ n → n ≤ greatest → text ≡ Some (decimal n) → number ≡ n
  pub digits : (n : ℕ) (word : Text) → 1 ≤ n → n ≤ greatest → text ≡ Some word → IsNumeral 10 (without_leading_plus word) → n ≡ digits_value 10 (without_leading_plus word) → number ≡ n

-- a flag is set just where the text found for it is `true`; where it is left out, that text is `false`
pub record IsFlag (text : Option Text) (flag : Bool) : Type 0 where
  pub none : text ≡ None → flag ≡ false
  pub used : text ≡ Some (codes "true") → flag ≡ true
  pub unused : text ≡ Some (codes "false") → flag ≡ false

-- the texts of words that are lent
abbrev pub texts_in : List (Bor Text) → List Text
texts_in words = map (λ (w : Bor Text). w.now) words

-- the words, if there are any, are those of these natives in their order, which are at most 16
pub record NamesKinds (words : Option (List Text)) (kinds : List NativeKind) : Type 0 where
  pub same : unwrap_or words [] ≡ map word_of_kind kinds
  pub few : length kinds ≤ 16

-- the word is of no native
abbrev pub IsNoKind : Text → Type 0
IsNoKind word = (kind : NativeKind) → word ≢ word_of_kind kind

-- there are more than 16 words, or one is of no native
abbrev pub NamesNoKinds : Option (List Text) → Type 0
NamesNoKinds None = ⊥
NamesNoKinds (Some words) = (16 < length words) ⊎ ((word : Text) × Contains words word × IsNoKind word)

-- why words for natives are refused
abbrev pub DeclinesNatives : Option (List Text) → WordsFault → Type 0
DeclinesNatives words (faults.Text text) = ⊥
DeclinesNatives words faults.Native = NamesNoKinds words
DeclinesNatives words faults.Memory = Unit {0}

-- the words, if there are any, say these endings, in their order
abbrev pub SaysEndings : Option (List Text) → List ExpectedEnding → Type 0
SaysEndings words expected = map expected_said (unwrap_or words []) ≡ map (λ one. Some one) expected

-- one of the words says no ending
abbrev pub SaysNoEnding : Option (List Text) → Type 0
SaysNoEnding None = ⊥
SaysNoEnding (Some words) = (word : Text) × Contains words word × (expected_said word ≡ None)

-- why words for endings are refused
abbrev pub DeclinesEndings : Option (List Text) → WordsFault → Type 0
DeclinesEndings words (faults.Text text) = SaysNoEnding words
DeclinesEndings words faults.Native = ⊥
DeclinesEndings words faults.Memory = Unit {0}

-- the file is an assembly text
abbrev pub is_assembly : FileKind → Bool
is_assembly Assembly = true
is_assembly _ = false

-- the file is an image
abbrev pub is_image : FileKind → Bool
is_image Image = true
is_image _ = false

-- the file is a source
abbrev pub is_source : FileKind → Bool
is_source Source = true
is_source _ = false

-- the words found for a command say so of its file, which is an image where they say nothing
pub record AsksKind (rows : List Row) (kind : FileKind) : Type 0 where
  pub assembly : IsFlag (one_of (codes "asm") rows) (is_assembly kind)
  pub source : IsFlag (one_of (codes "source") rows) (is_source kind)

-- the words found for a command that runs an image ask this
pub record AsksRun (rows : List Row) (run : RunWords) : Type 0 where
  pub image : string_bytes run.image ≡ word_of (codes "IMAGE") rows
  pub script : string_bytes run.script ≡ word_of (codes "SCRIPT") rows
  pub kind : AsksKind rows run.kind
  pub limit : IsNumberUpTo 1000000000 (one_of (codes "limit") rows) run.limit
  pub natives : NamesKinds (all_of (codes "NATIVE") rows) run.natives.items

-- the words found for a command name this text beside its image, and none where it is of no use or the file is no image
pub record AsksText {A : Type 0} (rows : List Row) (used : Bool) (kind : FileKind) (text : Option (String A)) : Type 0 where
  pub named : option_map (λ t. string_bytes t) text ≡ first_of (codes "text") rows
  pub useful : first_of (codes "text") rows ≢ None → used ≡ true
  pub alone : first_of (codes "text") rows ≢ None → is_image kind ≡ true

-- where the words found for a command ask for lines, there is an assembly text, and nothing is to be explained
pub record AsksLines (rows : List Row) (explain : Bool) (kind : FileKind) (lines : Bool) : Type 0 where
  pub set : IsFlag (one_of (codes "lines") rows) lines
  pub textual : lines ≡ true → (is_assembly kind ≡ true) ⊎ (first_of (codes "text") rows ≢ None)
  pub alone : lines ≡ true → explain ≡ false

-- where the words found for a command ask for names, there is a text or a source
pub record AsksNames (rows : List Row) (kind : FileKind) (names : Bool) : Type 0 where
  pub set : IsFlag (one_of (codes "names") rows) names
  pub textual : names ≡ true → (is_image kind ≡ false) ⊎ (first_of (codes "text") rows ≢ None)

-- where the words found for a command ask for warnings, its file is no source
pub record AsksWarnings (rows : List Row) (kind : FileKind) (warn : Bool) : Type 0 where
  pub set : IsFlag (one_of (codes "warn") rows) warn
  pub alone : warn ≡ true → is_source kind ≡ false

-- none of these flags is set
abbrev pub AllUnset : List Text → List Row → Type 0
AllUnset [] rows = Unit {0}
AllUnset (id ∷ ids) rows = (one_of id rows ≢ Some (codes "true")) × AllUnset ids rows

-- the words found for a command name a text, and ask for none of what it is of use for
pub record LacksUse (uses : List Text) (rows : List Row) : Type 0 where
  pub named : first_of (codes "text") rows ≢ None
  pub unasked : AllUnset uses rows

-- the words found for a command name a text beside one that is to be assembled, or beside a source
pub record NamesTwoTexts (rows : List Row) : Type 0 where
  pub named : first_of (codes "text") rows ≢ None
  pub other : (one_of (codes "asm") rows ≢ Some (codes "false")) ⊎ (one_of (codes "source") rows ≢ Some (codes "false"))

-- the words found for a command say of its file that it is an assembly text and that it is a source
pub record SaysTwoKinds (rows : List Row) : Type 0 where
  pub assembly : one_of (codes "asm") rows ≢ Some (codes "false")
  pub source : one_of (codes "source") rows ≢ Some (codes "false")

-- the words found for a command ask for what only a text can give, and name none
pub record LacksText (id : Text) (rows : List Row) : Type 0 where
  pub asked : one_of id rows ≢ Some (codes "false")
  pub unnamed : first_of (codes "text") rows ≡ None
  pub unassembled : one_of (codes "asm") rows ≢ Some (codes "true")

-- the words found for a command ask for lines and for an explanation
pub record AsksTwoReportings (rows : List Row) : Type 0 where
  pub lined : one_of (codes "lines") rows ≢ Some (codes "false")
  pub explained : one_of (codes "explain") rows ≢ Some (codes "false")

-- the words found for a command ask for warnings of a source
pub record WarnsOfSource (rows : List Row) : Type 0 where
  pub warned : one_of (codes "warn") rows ≢ Some (codes "false")
  pub source : one_of (codes "source") rows ≢ Some (codes "false")

-- why a text beside an image is refused
abbrev pub DeclinesText : List Row → (used : Bool) → WordsFault → Type 0
DeclinesText rows used (faults.Text text) = ((first_of (codes "text") rows ≢ None) × (used ≡ false)) ⊎ NamesTwoTexts rows
DeclinesText rows used faults.Native = ⊥
DeclinesText rows used faults.Memory = Unit {0}

-- why the kind of a file is refused
abbrev pub DeclinesKind : List Row → WordsFault → Type 0
DeclinesKind rows (faults.Text text) = SaysTwoKinds rows
DeclinesKind rows faults.Native = ⊥
DeclinesKind rows faults.Memory = Unit {0}

-- why lines are refused
abbrev pub DeclinesLines : List Row → WordsFault → Type 0
DeclinesLines rows (faults.Text text) = AsksTwoReportings rows ⊎ LacksText (codes "lines") rows
DeclinesLines rows faults.Native = ⊥
DeclinesLines rows faults.Memory = Unit {0}

-- why warnings are refused
abbrev pub DeclinesWarnings : List Row → WordsFault → Type 0
DeclinesWarnings rows (faults.Text text) = WarnsOfSource rows
DeclinesWarnings rows faults.Native = ⊥
DeclinesWarnings rows faults.Memory = Unit {0}

-- the words found ask for these tries
pub record AsksTries (rows : List Row) (tries : TriesWords) : Type 0 where
  pub first : IsNumberUpTo 4294967295 (one_of (codes "from") rows) tries.first
  pub last : IsNumberUpTo 4294967295 (one_of (codes "to") rows) tries.last
  pub kills : IsFlag (one_of (codes "kills") rows) tries.kills
  pub deaths : IsFlag (one_of (codes "deaths") rows) tries.deaths
  pub pairs : IsFlag (one_of (codes "pairs") rows) tries.pairs
  pub most : IsNumberUpTo 4294967295 (one_of (codes "tries") rows) tries.most

-- why what only a text can give is refused
abbrev pub DeclinesTextless : Text → List Row → WordsFault → Type 0
DeclinesTextless id rows (faults.Text text) = LacksText id rows
DeclinesTextless id rows faults.Native = ⊥
DeclinesTextless id rows faults.Memory = Unit {0}

-- a command and the words found for it ask this
abbrev pub Asks : Option (Text × List Row) → Words → Type 0
Asks None words = ⊥
Asks (Some met) (Check image kind prices explain lines all warn text) =
    (met.0 ≡ codes "check") × (string_bytes image ≡ word_of (codes "IMAGE") met.1) × AsksKind met.1 kind
    × IsFlag (one_of (codes "prices") met.1) prices × IsFlag (one_of (codes "explain") met.1) explain
    × AsksLines met.1 explain kind lines × IsFlag (one_of (codes "all") met.1) all × AsksWarnings met.1 kind warn × AsksText met.1 ((explain || lines) || prices) kind text
Asks (Some met) (Run run explain names warn text) =
    (met.0 ≡ codes "run") × AsksRun met.1 run × IsFlag (one_of (codes "explain") met.1) explain
    × AsksNames met.1 run.kind names × AsksWarnings met.1 run.kind warn × AsksText met.1 ((explain || names) || warn) run.kind text
Asks (Some met) (Explore run tries base expected text) =
    (met.0 ≡ codes "explore") × AsksRun met.1 run × AsksTries met.1 tries
    × IsFlag (one_of (codes "base") met.1) base × SaysEndings (all_of (codes "expect") met.1) expected.items × AsksText met.1 true run.kind text
Asks (Some met) (Debug run prompt text) = (met.0 ≡ codes "debug") × AsksRun met.1 run × IsFlag (one_of (codes "prompt") met.1) prompt × AsksText met.1 true run.kind text
Asks (Some met) (Asm text explain) = (met.0 ≡ codes "asm") × (string_bytes text ≡ word_of (codes "TEXT") met.1) × IsFlag (one_of (codes "explain") met.1) explain
Asks (Some met) (Dis image source) = (met.0 ≡ codes "dis") × (string_bytes image ≡ word_of (codes "IMAGE") met.1) × IsFlag (one_of (codes "source") met.1) source
Asks (Some met) (Compile source map) = (met.0 ≡ codes "compile") × (string_bytes source ≡ word_of (codes "SOURCE") met.1) × IsFlag (one_of (codes "map") met.1) map
Asks (Some met) (Show source) = (met.0 ≡ codes "show") × (string_bytes source ≡ word_of (codes "SOURCE") met.1)
Asks (Some met) (Dot image kind text) = (met.0 ≡ codes "dot") × (string_bytes image ≡ word_of (codes "IMAGE") met.1) × AsksKind met.1 kind × AsksText met.1 true kind text
Asks (Some met) Lsp = met.0 ≡ codes "lsp"

-- it is one of the program's commands
abbrev pub IsCommand : Option (Text × List Row) → Type 0
IsCommand None = ⊥
IsCommand (Some met) =
    (met.0 ≡ codes "check") ⊎ (met.0 ≡ codes "run") ⊎ (met.0 ≡ codes "explore") ⊎ (met.0 ≡ codes "debug") ⊎ (met.0 ≡ codes "asm") ⊎ (met.0 ≡ codes "dis") ⊎ (met.0 ≡ codes "dot")
    ⊎ (met.0 ≡ codes "compile") ⊎ (met.0 ≡ codes "show") ⊎ (met.0 ≡ codes "lsp")

-- it is a command that runs an image, with a word of no native or one word too many
abbrev pub NamesNoNatives : Option (Text × List Row) → Type 0
NamesNoNatives None = ⊥
NamesNoNatives (Some met) = ((met.0 ≡ codes "run") ⊎ (met.0 ≡ codes "explore") ⊎ (met.0 ≡ codes "debug")) × NamesNoKinds (all_of (codes "NATIVE") met.1)

-- it is a command about a program, with words that do not fit together: two kinds of its file, a text that is of no use, two texts, lines or names of no text,
-- lines beside an explanation, or warnings of a source
abbrev pub HasNoUseForText : Option (Text × List Row) → Type 0
HasNoUseForText None = ⊥
HasNoUseForText (Some met) =
    ((met.0 ≡ codes "check") × (SaysTwoKinds met.1 ⊎ LacksUse (codes "explain" ∷ codes "lines" ∷ codes "prices" ∷ []) met.1 ⊎ NamesTwoTexts met.1 ⊎ LacksText (codes "lines") met.1 ⊎ AsksTwoReportings met.1 ⊎ WarnsOfSource met.1))
    ⊎ ((met.0 ≡ codes "run") × (SaysTwoKinds met.1 ⊎ LacksUse (codes "explain" ∷ codes "names" ∷ codes "warn" ∷ []) met.1 ⊎ NamesTwoTexts met.1 ⊎ LacksText (codes "names") met.1 ⊎ WarnsOfSource met.1))
    ⊎ (((met.0 ≡ codes "explore") ⊎ (met.0 ≡ codes "debug") ⊎ (met.0 ≡ codes "dot")) × (SaysTwoKinds met.1 ⊎ NamesTwoTexts met.1))

-- it is `explore`, with a word that says no ending
abbrev pub ExpectsNoEnding : Option (Text × List Row) → Type 0
ExpectsNoEnding None = ⊥
ExpectsNoEnding (Some met) = (met.0 ≡ codes "explore") × SaysNoEnding (all_of (codes "expect") met.1)

-- why words ask nothing: `clap` does not take them, or they do not fit together, or one says no ending, or they do not name natives where they should, or memory is wanting
abbrev pub Declines : Bool → Option (Text × List Row) → WordsFault → Type 0
Declines taken met (faults.Text text) = taken ≡ true → IsCommand met → HasNoUseForText met ⊎ ExpectsNoEnding met
Declines taken met faults.Native = NamesNoNatives met
Declines taken met faults.Memory = Unit {0}

-- why the words found for a command that runs an image ask nothing
abbrev pub DeclinesRun : List Row → WordsFault → Type 0
DeclinesRun rows fault = DeclinesNatives (all_of (codes "NATIVE") rows) fault

-- what is made of an error of `clap`
abbrev pub Says : ErrorKind → WordsFault → Type 0
Says kind (faults.Text text) = kind ≢ OutOfMemory
Says kind faults.Native = ⊥
Says kind faults.Memory = Unit {0}

-- what is known of the limit of runs
abbrev pub KeepsLimit : Words → Type 0
KeepsLimit (Check image kind prices explain lines all warn text) = Unit {0}
KeepsLimit (Run run explain names warn text) = (1 ≤ run.limit) × (run.limit ≤ 1000000000)
KeepsLimit (Explore run tries base expected text) = (1 ≤ run.limit) × (run.limit ≤ 1000000000)
KeepsLimit (Debug run prompt text) = (1 ≤ run.limit) × (run.limit ≤ 1000000000)
KeepsLimit (Asm text explain) = Unit {0}
KeepsLimit (Dis image source) = Unit {0}
KeepsLimit (Compile source map) = Unit {0}
KeepsLimit (Show source) = Unit {0}
KeepsLimit (Dot image kind text) = Unit {0}
KeepsLimit Lsp = Unit {0}
