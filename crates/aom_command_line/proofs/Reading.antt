-- What `clap` answers of the words of a command line.
use Rattle.std.proofs.Common.{◌≡◌, ◌≢◌, ◌∙◌, ℕ, ◌+◌, Bool, ◌||◌, not, true, false, ◌<◌, ◌^◌, ◌⊎◌, List, [], ◌∷◌, ◌++◌, Contains}
use Rattle.std.proofs.Common.{IfErr, IfOk, IsOkAnd, length, map, take, slice_index_or, Option, Some, None, Result, Ok}
use Rattle.std.proofs.Common.{Err, option_map, unwrap_or, codes, refl, sym, ap, ap₂, inl, inr, subst, arith}
use Rattle.std.proofs.lemmas.Bool.{both_ways}
use Rattle.std.proofs.lemmas.List.{get_or-map, length-map, map-append, map_more, take-map}
use Rattle.std.proofs.lemmas.List.Elements.{Contains-get_or}
use Rattle.std.specs.Borrow.{Bor}
use Rattle.std.specs.Fmt.{decimal}
use Rattle.std.specs.Str.Parse.{IsNumeral, ParsesUnsigned, digits_value, without_leading_plus}
use Rattle.std.proofs.lemmas.Fmt.{parse-decimal}
use Rattle.std.proofs.lemmas.Result.{IfOk-weaker}
use Rattle.clap.specs.Words.{AddsSubcommand, App, ReadsOne, Row, Text, all_of, app_of, first_of, first_value}
use Rattle.clap.specs.Words.{one_of, is_simple, matched_of, raw_values, rows_of, with_subcommand}
use Rattle.clap.specs.declared.builder.command.Command.{Command}
use Rattle.clap.specs.declared.parser.matches.Found.{Found}
use Rattle.clap.proofs.OnLiterals.{clap_on_literals}
use Rattle.clap.proofs.WalkLemmas.{first_value-rows, raw_values-rows}
use Rattle.clap.specs.declared.error.kind.ErrorKind.{ErrorKind}
use Rattle.clap.specs.declared.error.kind.ErrorKind.TheVariants.{OutOfMemory}
use Rattle.aom_command_line.specs.declared.words.WordsFault.{WordsFault}
use Rattle.aom_command_line.specs.declared.words.WordsFault.TheVariants as faults
use Rattle.aom_natives.specs.Kinds.{word_of as word_of_kind}
use Rattle.aom_natives.specs.declared.kind.NativeKind.{NativeKind}
use Rattle.aom_fault_injection.specs.Expected.{expected_said}
use Rattle.aom_fault_injection.specs.declared.expected.ExpectedEnding.{ExpectedEnding}
use Rattle.aom_command_line.specs.declared.words.FileKind.{FileKind}
use Rattle.aom_command_line.specs.declared.words.FileKind.TheVariants.{Image, Assembly, Source}
use Rattle.aom_command_line.specs.CommandLine.{is_assembly, is_image, IsCommand, HasNoUseForText, ExpectsNoEnding, Declines, AsksKind, AsksLines, AsksNames, AsksText, DeclinesLines, DeclinesTextless}
use Rattle.aom_command_line.specs.CommandLine.{HasForm, IsFlag, NamesTwoTexts, NamesKinds, NamesNoKinds, Says, SaysEndings, SaysNoEnding, form, texts_in, word_of}

same : {E : Type 0} (v n : ℕ) (r : Result ℕ E) → r ≡ Ok v → r ≡ Ok n → Some v ≡ Some n
same v n r a b = cc

no_error : {E : Type 0} (e : E) (n : ℕ) (r : Result ℕ E) → r ≡ Err e → r ≡ Ok n → ⊥
no_error e n r a b = cc

-- digits are read as the number that they write, whatever zeros or plus lead them
pub reads_digits : {E : Type 0} (gives : List ℕ → Result ℕ E → Type 0) → ((bs : List ℕ) (r : Result ℕ E) → gives bs r → ParsesUnsigned 32 10 bs r)
    → (word : List ℕ) → IsNumeral 10 (without_leading_plus word) → digits_value 10 (without_leading_plus word) < 2 ^ 32 → (o : Option ℕ) → ReadsOne gives word o
    → o ≡ Some (digits_value 10 (without_leading_plus word))
reads_digits gives parses word numeral most (Some v) read = ap (λ x. Some x) (parses word (Ok v) read).1
reads_digits gives parses word numeral most None read = absurd (parses word (Err read.0) read.1 (numeral, omega (arith, most)))

-- a number in decimal is read as itself
pub reads : {E : Type 0} (gives : List ℕ → Result ℕ E → Type 0) → ((bs : List ℕ) (r : Result ℕ E) → gives bs r → ParsesUnsigned 32 10 bs r)
    → (n : ℕ) → n < 2 ^ 32 → (o : Option ℕ) → ReadsOne gives (decimal n) o → o ≡ Some n
reads {E} gives parses n most (Some v) read =
    same {E = E} v n (Ok v) refl (parse-decimal 32 n (decimal n) (Ok v) (omega arith) (omega (arith, most)) refl (parses (decimal n) (Ok v) read))
reads {E} gives parses n most None read = absurd (no_error {E = E} read.0 n
    (Err read.0) refl (parse-decimal 32 n (decimal n) (Err read.0) (omega arith) (omega (arith, most)) refl (parses (decimal n) (Err read.0) read.1)))

-- the first word of a name, or none
pub chosen : (f : Found) (id : Text) (o : Option (Bor Text)) (d r : Bor Text) → r ≡ unwrap_or o d → d.now ≡ [] → option_map (λ s. s.now) o ≡ first_value f id
    → r.now ≡ word_of id (rows_of f)
chosen f id o d r is empty found = ap (λ (s : Bor Text). s.now) is ∙ read o d empty ∙ ap (λ t. unwrap_or t []) (found ∙ first_value-rows f id)
  where
    read : (o : Option (Bor Text)) (d : Bor Text) → d.now ≡ [] → (unwrap_or o d).now ≡ unwrap_or (option_map (λ s. s.now) o) []
    read None d e = e
    read (Some s) d e = refl

-- without a command there is none
pub nothing_met : (met : Option (Text × List Row)) → None ≡ option_map (λ p. p.1) met → true ≡ true → IsCommand met → HasNoUseForText met ⊎ ExpectsNoEnding met
nothing_met x e taken is = grind arith

-- an argument for its own command alone leaves a command as it was in this
pub as_before : (old new added : Bool) → new ≡ (old || added) → added ≡ false → new ≡ old
as_before true new added is none = is
as_before false new added is none = is ∙ none

-- the exact matches of `clap` are there for this form
pub simple : is_simple form ≡ true
unfolding clap_on_literals
simple = refl

-- ---- flags

-- a flag that is not set is not asked for
pub unset : (rows : List Row) (id : Text) (flag : Bool) → IsFlag (one_of id rows) flag → flag ≡ false → one_of id rows ≢ Some (codes "true")
unset rows id flag is none asked = both_ways flag none (is.used asked)

pub set : (rows : List Row) (id : Text) (flag : Bool) → IsFlag (one_of id rows) flag → flag ≡ true → one_of id rows ≢ Some (codes "false")
set rows id flag is some asked = both_ways flag (is.unused asked) some

unset_by : (flag : Bool) → not flag ≡ true → flag ≡ false
unset_by true e = sym e
unset_by false e = refl

pub set_by : (flag : Bool) → not flag ≡ false → flag ≡ true
set_by true e = refl
set_by false e = sym e

-- a file that is an image is no assembly text
pub image_unassembled : (kind : FileKind) → is_image kind ≡ true → is_assembly kind ≡ false
image_unassembled Image is = refl
image_unassembled Assembly is = sym is
image_unassembled Source is = refl

-- ---- a text beside an image

-- a text that is there
pub is_named : (rows : List Row) (name : Text) → Some name ≡ first_of (codes "text") rows → first_of (codes "text") rows ≢ None
is_named rows name there = grind arith

-- a text that is there, beside a flag that is set
pub names_two : (rows : List Row) (name : Text) (kind : FileKind) →
    Some name ≡ first_of (codes "text") rows → AsksKind rows kind → is_image kind ≡ false → NamesTwoTexts rows
names_two rows name Image there is other = absurd (both_ways true other refl)
names_two rows name Assembly there is other = record { named = is_named rows name there; other = inl (set rows (codes "asm") true is.assembly refl) }
names_two rows name Source there is other = record { named = is_named rows name there; other = inr (set rows (codes "source") true is.source refl) }

pub no_text : {A : Type 0} (rows : List Row) (explain : Bool) (kind : FileKind) → None ≡ first_of (codes "text") rows → AsksText {A = A} rows explain kind None
no_text rows explain kind none = record { named = none; useful = λ some. absurd (some (sym none)); alone = λ some. absurd (some (sym none)) }

-- lines that nobody asks for, and those of a text
pub unlined : (rows : List Row) (explain : Bool) (kind : FileKind) (lines : Bool) → IsFlag (one_of (codes "lines") rows) lines → lines ≡ false → AsksLines rows explain kind lines
unlined rows explain kind lines is none =
    record { set = is; textual = λ some. absurd (both_ways lines none some); alone = λ some. absurd (both_ways lines none some) }

-- lines that are asked for where there is an assembly text, and nothing is explained
pub lines_textual : {A E : Type 0} (rows : List Row) (explain : Bool) (kind : FileKind) (lines flag : Bool) (fits : Result A E) → flag ≡ is_assembly kind →
    IsFlag (one_of (codes "lines") rows) lines → explain ≡ false → IfOk fits (λ _. (flag ≡ true) ⊎ (first_of (codes "text") rows ≢ None)) →
    IfOk fits (λ _. AsksLines rows explain kind lines)
lines_textual rows explain kind lines flag (Ok unit) same is alone (inl set) = record { set = is; textual = λ some. inl (sym same ∙ set); alone = λ some. alone }
lines_textual rows explain kind lines flag (Ok unit) same is alone (inr named) = record { set = is; textual = λ some. inr named; alone = λ some. alone }
lines_textual rows explain kind lines flag (Err e) same is alone textual = tt

pub lines_lack : {A : Type 0} (rows : List Row) (fits : Result A WordsFault) → IfErr fits (λ fault. DeclinesTextless (codes "lines") rows fault) →
    IfErr fits (λ fault. DeclinesLines rows fault)
lines_lack rows (Ok unit) lacks = tt
lines_lack rows (Err (faults.Text text)) lacks = inr lacks
lines_lack rows (Err faults.Native) lacks = lacks
lines_lack rows (Err faults.Memory) lacks = lacks

-- names that are asked for where the file is no image, or there is a text
pub names_textual : {A E : Type 0} (rows : List Row) (kind : FileKind) (names flag : Bool) (fits : Result A E) → flag ≡ is_image kind
    → IsFlag (one_of (codes "names") rows) names → IfOk fits (λ _. (not flag ≡ true) ⊎ (first_of (codes "text") rows ≢ None)) → IfOk fits (λ _. AsksNames rows kind names)
names_textual rows kind names flag (Ok unit) same is (inl set) = record { set = is; textual = λ some. inl (sym same ∙ unset_by flag set) }
names_textual rows kind names flag (Ok unit) same is (inr named) = record { set = is; textual = λ some. inr named }
names_textual rows kind names flag (Err e) same is textual = tt

-- names that nobody asks for
pub unnamed : (rows : List Row) (kind : FileKind) (names : Bool) → IsFlag (one_of (codes "names") rows) names → names ≡ false → AsksNames rows kind names
unnamed rows kind names is none = record { set = is; textual = λ some. absurd (both_ways names none some) }

-- what `clap` takes, and what it does not
pub declines : (taken : Bool) (met : Option (Text × List Row)) (fault : WordsFault) → Declines true met fault → Declines taken met fault
declines taken met (faults.Text text) d = λ is command. d refl command
declines taken met faults.Native d = d
declines taken met faults.Memory d = d

pub says : (taken : Bool) (met : Option (Text × List Row)) (kind : ErrorKind) (fault : WordsFault) → Says kind fault → (taken ≡ true → kind ≡ OutOfMemory) →
    Declines taken met fault
says taken met kind x s passes = grind arith

-- ---- the words of natives

-- one word more names one kind more
pub one_more_kind : (words : List (Bor Text)) (i : ℕ) (d : Bor Text) (kinds more : List NativeKind) (kind : NativeKind) →
    i < length words → take i (texts_in words) ≡ map word_of_kind kinds → (slice_index_or words i d).now ≡ word_of_kind kind → more ≡ kinds ++ kind ∷ [] →
    take (i + 1) (texts_in words) ≡ map word_of_kind more
one_more_kind words i d kinds more kind within same is grown =
    let now : Bor Text → Text = λ w. w.now in
    take-map now (i + 1) words ∙ map_more now words i d within ∙ ap₂ (λ xs t. xs ++ t ∷ []) (sym (take-map now i words) ∙ same) is
    ∙ sym (map-append word_of_kind kinds (kind ∷ [])) ∙ ap (map word_of_kind) (sym grown)

-- one of the words is of no native
pub no_kind : (words : List (Bor Text)) (i : ℕ) (d : Bor Text) → i < length words → ((kind : NativeKind) → (slice_index_or words i d).now ≢ word_of_kind kind) →
    NamesNoKinds (Some (texts_in words))
no_kind words i d within none =
    let now : Bor Text → Text = λ w. w.now in
    inr ((slice_index_or words i d).now, subst (Contains (texts_in words)) (get_or-map now words i d d.now within) (Contains-get_or (texts_in words) i d.now (rw (length-map words now) within)), none)

-- ---- the words of endings

-- one word more says one ending more
pub one_more_ending : (words : List (Bor Text)) (i : ℕ) (d : Bor Text) (expected more : List ExpectedEnding) (ending : ExpectedEnding) →
    i < length words → map expected_said (take i (texts_in words)) ≡ map (λ one. Some one) expected → Some ending ≡ expected_said (slice_index_or words i d).now →
    more ≡ expected ++ ending ∷ [] → map expected_said (take (i + 1) (texts_in words)) ≡ map (λ one. Some one) more
one_more_ending words i d expected more ending within same is grown =
    let now : Bor Text → Text = λ w. w.now in
    let some : ExpectedEnding → Option ExpectedEnding = λ one. Some one in
    let next : take (i + 1) (texts_in words) ≡ take i (texts_in words) ++ (slice_index_or words i d).now ∷ [] =
    take-map now (i + 1) words ∙ map_more now words i d within ∙ ap (λ xs. xs ++ (slice_index_or words i d).now ∷ []) (sym (take-map now i words)) in
    ap (map expected_said) next ∙ map-append expected_said (take i (texts_in words)) ((slice_index_or words i d).now ∷ [])
    ∙ ap₂ (λ xs o. xs ++ o ∷ []) same (sym is) ∙ sym (map-append some expected (ending ∷ [])) ∙ ap (map some) (sym grown)

-- one of the words says none
pub no_ending : (words : List (Bor Text)) (i : ℕ) (d : Bor Text) → i < length words → None ≡ expected_said (slice_index_or words i d).now →
    SaysNoEnding (Some (texts_in words))
no_ending words i d within none =
    let now : Bor Text → Text = λ w. w.now in
    ((slice_index_or words i d).now, subst (Contains (texts_in words)) (get_or-map now words i d d.now within) (Contains-get_or (texts_in words) i d.now (rw (length-map words now) within)), sym none)

pub none_expected : (words : Option (List Text)) (expected : List ExpectedEnding) → None ≡ words → expected ≡ [] → SaysEndings words expected
none_expected words expected none empty = rw (← none, empty) refl

-- the words that are found for natives
pub found_words : (f : Found) (id : Text) (words : List (Bor Text)) → Some (texts_in words) ≡ option_map raw_values (matched_of f id) →
    Some (texts_in words) ≡ all_of id (rows_of f)
found_words f id words found = found ∙ raw_values-rows f id

pub no_words : (f : Found) (id : Text) → None ≡ option_map raw_values (matched_of f id) → None ≡ all_of id (rows_of f)
no_words f id found = found ∙ raw_values-rows f id

pub none_named : (words : Option (List Text)) (kinds : List NativeKind) → None ≡ words → kinds ≡ [] → NamesKinds words kinds
none_named words kinds none empty = record { same = rw (← none, empty) refl; few = rw empty (omega arith) }

pub too_many : (words : List (Bor Text)) → 16 < length words → NamesNoKinds (Some (texts_in words))
too_many words many = inl (rw (length-map words (λ (w : Bor Text). w.now)) many)

-- a command that was made is added with its form
pub has_form : {E : Type 0} (to : Command) (own : App) (made : Result Command E) (c : Command) → IsOkAnd made (λ m. AddsSubcommand to m c)
    → IfOk made (λ m. HasForm own m) → app_of c ≡ with_subcommand (app_of to) own.top
has_form to own (Ok m) c adds made = adds.shape made.own ∙ ap (λ (a : App). with_subcommand (app_of to) a.top) made.shape
has_form to own (Err _) c adds made = elim adds [ ]

-- one command more, where both were made
pub next_form : {E : Type 0} (own to : App) (before made more : Result Command E) → IfOk more (λ c. IsOkAnd before (λ b. IsOkAnd made (λ m. AddsSubcommand b m c)))
    → IfOk made (λ m. HasForm own m) → IfOk before (λ b. app_of b ≡ to) → IfOk more (λ c. app_of c ≡ with_subcommand to own.top)
next_form own to (Ok b) made more adds formed is = IfOk-weaker more _ _ (λ c added. has_form b own made c added formed ∙ ap (λ a. with_subcommand a own.top) is) adds
next_form own to (Err e) made more adds formed is = IfOk-weaker more _ _ (λ c added. elim added [ ]) adds
