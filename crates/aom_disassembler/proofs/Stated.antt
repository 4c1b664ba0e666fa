-- The statements of a listing are words.
use Rattle.std.proofs.Common.{◌≡◌, ◌∙◌, refl, ℕ, ◌+◌, ◌<◌, Bool, true, false, List, [], ◌∷◌, ◌++◌, Option, Some, None, flat_map, length, map}
use Rattle.std.specs.Prelude.{decimal}
use Rattle.std.specs.List.{All, list_all}
use Rattle.std.proofs.lemmas.Bool.{agree_below_at, and_from}
use Rattle.std.proofs.lemmas.List.Folds.{list_all-append}
use Rattle.std.proofs.lemmas.List.Elements.{All-head, All-tail}
use Rattle.aom_image.specs.Image.{Image}
use Rattle.aom_image.specs.Views.{has}
use Rattle.aom_image.specs.WellFormed.{WellFormed, MethodFits, is_dispatched}
use Rattle.aom_image.specs.declared.class.ClassDecl.{ClassDecl}
use Rattle.aom_image.specs.declared.class.ClassKind.{ClassKind}
use Rattle.aom_image.specs.declared.class.ClassKind.TheVariants as kinds
use Rattle.aom_image.specs.declared.class.Provider.{Provider}
use Rattle.aom_image.specs.declared.class.Provider.TheVariants as providers
use Rattle.aom_image.specs.declared.image.Header.{Header}
use Rattle.aom_instructions.specs.declared.version.Version.{Version}
use Rattle.aom_instructions.specs.declared.version.Version.TheVariants as versions
use Rattle.aom_instructions.specs.declared.instr.Instr.{Instr}
use Rattle.aom_instructions.specs.declared.instr.Target.{Target}
use Rattle.aom_instructions.specs.declared.instr.Target.TheVariants as targets
use Rattle.aom_image.specs.declared.method.Argument.{Argument}
use Rattle.aom_image.specs.declared.method.Argument.TheVariants as arg
use Rattle.aom_image.specs.declared.method.Gives.{Gives}
use Rattle.aom_image.specs.declared.method.Gives.TheVariants as result
use Rattle.aom_image.specs.declared.method.Method.{Method}
use Rattle.aom_image.specs.declared.method.Thing.{Thing}
use Rattle.aom_image.specs.declared.method.Thing.TheVariants as owned
use Rattle.aom_text.specs.Text.{has_words}
use Rattle.aom_text.specs.Words.{has_bytes}
use Rattle.aom_syntax.specs.Keywords.{keyword_text}
use Rattle.aom_syntax.specs.declared.keyword.Keyword.{Keyword}
use Rattle.aom_syntax.specs.declared.keyword.Keyword.TheVariants as k
use Rattle.aom_instructions.specs.Table.{mnemonic, operands, row}
use Rattle.aom_instructions.specs.declared.kinds.OperandOrder.{OperandOrder}
use Rattle.aom_instructions.specs.declared.kinds.OperandOrder.TheVariants.{LargeLast, LargeSecond}
use Rattle.aom_instructions.specs.declared.operand.Large.{Large}
use Rattle.aom_instructions.specs.declared.operand.Large.TheVariants as large
use Rattle.aom_instructions.specs.declared.operand.Operands.{Operands}
use Rattle.aom_instructions.specs.declared.operand.Small.{Small}
use Rattle.aom_instructions.specs.declared.operand.Small.TheVariants as small
use Rattle.aom_disassembler.specs.Classes.{budget_words, class_words, field_words, kind_words, provider_words, thing_word}
use Rattle.aom_disassembler.specs.Headers.{header_words, limit_words, version_words}
use Rattle.aom_disassembler.specs.Jumps.{is_target}
use Rattle.aom_disassembler.specs.Listing.{end_words, instr_words, label_words, listing, method_statements, placed}
use Rattle.aom_disassembler.specs.Methods.{argument_word, flag_words, gives_words, heading_words, promise_words, role_keyword, states_word, word_where}
use Rattle.aom_disassembler.specs.Operands.{class_after, label_name, method_after, target_word}
use Rattle.aom_disassembler.specs.Text.{list_word}
use Rattle.aom_disassembler.specs.Words.{in_text, large_words, small_words, words_statement}
use Rattle.aom_disassembler.proofs.PlainWords.{AreWords, IsWord, decimal_is_word, is_word_byte, keyword_is_word, list_is_word}
use Rattle.aom_disassembler.proofs.PlainWords.{map_words, mnemonic_is_word, name_is_word, signed_is_word, words_append}

-- words, of which there are some
pub record IsStated (ws : List (List ℕ)) : Type 0 where
  pub some : has_words ws ≡ true
  pub words : AreWords ws

abbrev pub AreStated : List (List (List ℕ)) → Type 0
AreStated [] = Unit {0}
AreStated (ws ∷ wss) = IsStated ws × AreStated wss

stated_append : (a b : List (List (List ℕ))) → AreStated a → AreStated b → AreStated (a ++ b)
stated_append [] b first later = later
stated_append (ws ∷ wss) b first later = (first.0, stated_append wss b first.1 later)

-- ---- instructions

target_is_word : (t : Target) → IsWord (target_word t)
target_is_word targets.This = keyword_is_word k.This
target_is_word (targets.Register r) = name_is_word 114 r refl
target_is_word (targets.Field f) = name_is_word 102 f refl
target_is_word (targets.Entry e) = name_is_word 99 e refl

small_are_words : (o : Small) → AreWords (small_words o)
small_are_words small.Unused = tt
small_are_words (small.Register r) = (name_is_word 114 r refl, tt)
small_are_words (small.Word w) = (name_is_word 119 w refl, tt)
small_are_words (small.Field f) = (name_is_word 102 f refl, tt)
small_are_words (small.Depth d) = (decimal_is_word d, tt)
small_are_words (small.CallTarget t) = (target_is_word t, tt)

large_are_words : (o : Large) → AreWords (large_words o)
large_are_words large.Nothing = tt
large_are_words (large.Number z) = (signed_is_word z, tt)
large_are_words (large.Rounds n) = (decimal_is_word n, tt)
large_are_words (large.Place n) = (name_is_word 76 n refl, tt)
large_are_words (large.Class n) = (name_is_word 99 n refl, tt)
large_are_words (large.Method n) = (name_is_word 109 n refl, tt)

operands_are_words : (order : OperandOrder) (o : Operands) → AreWords (in_text order o)
operands_are_words LargeLast o = words_append (small_words o.a) _ (small_are_words o.a)
    (words_append (small_words o.b) _ (small_are_words o.b) (words_append (small_words o.c) _ (small_are_words o.c) (large_are_words o.d)))
operands_are_words LargeSecond o = words_append (small_words o.a) _ (small_are_words o.a)
    (words_append (large_words o.d) _ (large_are_words o.d) (words_append (small_words o.b) _ (small_are_words o.b) (small_are_words o.c)))

instr_is_stated : (i : Instr) → IsStated (words_statement i)
instr_is_stated i = record { some = refl; words = (mnemonic_is_word (mnemonic i), operands_are_words (row (mnemonic i)).kinds.order (operands i)) }

label_is_word : (place : ℕ) → IsWord (label_name place ++ 58 ∷ [])
label_is_word place = record { some = refl; bytes = list_all-append is_word_byte (decimal place) (58 ∷ []) ∙ and_from _ _ (decimal_is_word place).bytes refl }

labelled : (b : Bool) (place : ℕ) (ws : List (List ℕ)) → IsStated ws → IsStated (label_words b place ++ ws)
labelled true place ws is = record { some = refl; words = (label_is_word place, is.words) }
labelled false place ws is = is

code_is_stated : (code : List Instr) (place : ℕ) (is : List Instr) → AreStated (placed (instr_words code) place is)
code_is_stated code place [] = tt
code_is_stated code place (i ∷ is) = (labelled (is_target code place) place (words_statement i) (instr_is_stated i), code_is_stated code (place + 1) is)

-- ---- headers and classes

class_after_are_words : (key : Keyword) (class : Option ℕ) → AreWords (class_after key class)
class_after_are_words key None = tt
class_after_are_words key (Some c) = (keyword_is_word key, (name_is_word 99 c refl, tt))

method_after_are_words : (key : Keyword) (over : Option ℕ) → AreWords (method_after key over)
method_after_are_words key None = tt
method_after_are_words key (Some m) = (keyword_is_word key, (name_is_word 109 m refl, tt))

version_are_words : (version : Version) → AreWords (version_words version)
version_are_words versions.One = tt
version_are_words versions.Two = (keyword_is_word k.Version, (decimal_is_word 2, tt))

limits_are_words : (h : Header) → AreWords (limit_words h)
limits_are_words h =
    (keyword_is_word k.Cells, (decimal_is_word h.cells, (keyword_is_word k.Messages, (decimal_is_word h.messages, (keyword_is_word k.Natives, (decimal_is_word h.natives, tt))))))

header_is_stated : (h : Header) → IsStated (header_words h)
header_is_stated h =
    let end : List (List ℕ) = keyword_text k.Budget ∷ decimal h.budget ∷ class_after k.Root h.root in
    let budget : AreWords end = (keyword_is_word k.Budget, (decimal_is_word h.budget, class_after_are_words k.Root h.root)) in
    let limits : AreWords (limit_words h ++ end) = words_append (limit_words h) end (limits_are_words h) budget in
    let rest = words_append (version_words h.version) (limit_words h ++ end) (version_are_words h.version) limits in
    record { some = refl; words = (keyword_is_word k.Image, rest) }

thing_is_word : (t : Thing) → IsWord (thing_word t)
thing_is_word (owned.Object c) = name_is_word 99 c refl
thing_is_word owned.Message = keyword_is_word k.Message

provider_are_words : (p : Provider) → AreWords (provider_words p)
provider_are_words providers.Own = (keyword_is_word k.This, tt)
provider_are_words providers.Timer = (keyword_is_word k.Timer, tt)
provider_are_words (providers.Native n) = (keyword_is_word k.Native, (decimal_is_word n, tt))
provider_are_words providers.Token = (keyword_is_word k.Token, tt)

kind_are_words : (kind : ClassKind) → AreWords (kind_words kind)
kind_are_words kinds.Plain = (keyword_is_word k.Plain, tt)
kind_are_words (kinds.Active provider) = (keyword_is_word k.Active, provider_are_words provider)
kind_are_words (kinds.Server sessions session) = (keyword_is_word k.Server, (name_is_word 99 session refl, (keyword_is_word k.Max, (decimal_is_word sessions, tt))))
kind_are_words kinds.Session = (keyword_is_word k.Session, tt)

budget_are_words : (dispatched : Bool) (budget : ℕ) → AreWords (budget_words dispatched budget)
budget_are_words true budget = (keyword_is_word k.Budget, (decimal_is_word budget, tt))
budget_are_words false budget = tt

fields_are_words : (c : ClassDecl) → AreWords (field_words c)
fields_are_words c = (keyword_is_word k.Words, (decimal_is_word c.words, (keyword_is_word k.Own, (list_is_word (map thing_word c.fields) (map_words thing_word thing_is_word c.fields), tt))))

class_is_stated : (place : ℕ) (c : ClassDecl) → IsStated (class_words place c)
class_is_stated place c =
    let fields = words_append (field_words c) _ (fields_are_words c) (budget_are_words (is_dispatched c.kind) c.budget) in
    let rest = words_append (kind_words c.kind) _ (kind_are_words c.kind)
    (words_append (class_after k.From c.parent) _ (class_after_are_words k.From c.parent) fields) in
    record { some = refl; words = (keyword_is_word k.Class, (name_is_word 99 place refl, rest)) }

classes_are_stated : (place : ℕ) (cs : List ClassDecl) → AreStated (placed class_words place cs)
classes_are_stated place [] = tt
classes_are_stated place (c ∷ cs) = (class_is_stated place c, classes_are_stated (place + 1) cs)

-- ---- methods

where_are_words : (b : Bool) (key : Keyword) → AreWords (word_where b key)
where_are_words true key = (keyword_is_word key, tt)
where_are_words false key = tt

flags_are_words : (flags : ℕ) → AreWords (flag_words flags)
flags_are_words flags = words_append (word_where (has flags 1) k.Leaves) (word_where (has flags 2) k.Quiet) (where_are_words (has flags 1) k.Leaves)
    (where_are_words (has flags 2) k.Quiet)

states_is_word : (set : ℕ) → set < 64 → IsWord (states_word set)
states_is_word set small = record {
  some = agree_below_at (λ n. has_bytes (states_word n)) (λ n. true) 64 set refl small;
  bytes = agree_below_at (λ n. list_all is_word_byte (states_word n)) (λ n. true) 64 set refl small;
}

argument_is_word : (a : Argument) → IsWord (argument_word a)
argument_is_word arg.Word = keyword_is_word k.Word
argument_is_word (arg.Own t) = thing_is_word t

gives_are_words : (g : Gives) → AreWords (gives_words g)
gives_are_words result.Nothing = (keyword_is_word k.Nothing, tt)
gives_are_words result.Word = (keyword_is_word k.Word, tt)
gives_are_words (result.Own t) = (keyword_is_word k.Own, (thing_is_word t, tt))
gives_are_words (result.Maybe t) = (keyword_is_word k.Maybe, (thing_is_word t, tt))
gives_are_words (result.Left c) = (keyword_is_word k.Left, (name_is_word 99 c refl, tt))

promise_are_words : (method : Method) → method.before.0 < 64 → method.after.0 < 64 → AreWords (promise_words method)
promise_are_words method before after =
    let arguments : IsWord (list_word (map argument_word method.arguments)) =
    list_is_word (map argument_word method.arguments) (map_words argument_word argument_is_word method.arguments) in (
      keyword_is_word k.In,
      (
        states_is_word method.before.0 before,
        (keyword_is_word k.Out, (states_is_word method.after.0 after, (keyword_is_word k.Args, (arguments, (keyword_is_word k.Gives, gives_are_words method.gives))))),
      ),
    )

heading_is_stated : (place : ℕ) (method : Method) → method.before.0 < 64 → method.after.0 < 64 → IsStated (heading_words place method)
heading_is_stated place method before after =
    let promise = words_append (flag_words method.flags.0) _ (flags_are_words method.flags.0) (promise_are_words method before after) in
    let over = words_append (method_after k.Over method.over) _ (method_after_are_words k.Over method.over) promise in
    let rest = words_append (class_after k.Of method.class) _ (class_after_are_words k.Of method.class) over in
    record { some = refl; words = (keyword_is_word k.Method, (name_is_word 109 place refl, (keyword_is_word (role_keyword method.role), rest))) }

method_is_stated : (place : ℕ) (method : Method) → method.before.0 < 64 → method.after.0 < 64 → AreStated (method_statements place method)
method_is_stated place method before after =
    let words = placed (instr_words method.code) 0 method.code in
    let code : AreStated words = code_is_stated method.code 0 method.code in
    (heading_is_stated place method before after, stated_append words (end_words ∷ []) code (record { some = refl; words = (keyword_is_word k.End, tt) }, tt))

methods_are_stated : (version : Version) (classes methods place : ℕ) (ms : List Method) →
    All (MethodFits version classes methods) ms → AreStated (flat_map (λ statements. statements) (placed method_statements place ms))
methods_are_stated version classes methods place [] fit = tt
methods_are_stated version classes methods place (method ∷ ms) fit =
    let first : MethodFits version classes methods method = All-head (MethodFits version classes methods) method ms fit in
    stated_append (method_statements place method)
    (flat_map (λ statements. statements) (placed method_statements (place + 1) ms)) (method_is_stated place method first.before first.after)
    (methods_are_stated version classes methods (place + 1) ms (All-tail (MethodFits version classes methods) method ms fit))

-- ---- the whole

pub listing_is_stated : (i : Image) → WellFormed i → AreStated (listing i)
listing_is_stated i fits = (
  header_is_stated i.header,
  stated_append (placed class_words 0 i.classes) (flat_map (λ statements. statements) (placed method_statements 0 i.methods)) (classes_are_stated 0 i.classes)
      (methods_are_stated i.header.version (length i.classes) (length i.methods) 0 i.methods fits.methods.each),
)
