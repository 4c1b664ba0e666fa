-- The laws: what a listing writes reads back.
use Rattle.std.specs.Prelude.{ℕ, ◌≡◌, ◌<◌, ◌≤◌, ◌^◌, true, false, List, [], length, Some, Ok, decimal, slice_get}
use Rattle.aom_text.specs.Words.{others_of}
use Rattle.aom_image.specs.Image.{Image}
use Rattle.aom_image.specs.declared.class.ClassDecl.{ClassDecl}
use Rattle.aom_image.specs.declared.image.Header.{Header}
use Rattle.aom_image.specs.declared.method.Method.{Method}
use Rattle.aom_syntax.specs.Classes.{class_statement}
use Rattle.aom_syntax.specs.Headers.{image_statement}
use Rattle.aom_disassembler.specs.Classes.{class_words}
use Rattle.aom_disassembler.specs.Headers.{header_words}
use Rattle.aom_disassembler.specs.Methods.{heading_words}
use Rattle.aom_text.specs.declared.text.Statement.{Statement}
use Rattle.aom_text.specs.Numbers.{number_of}
use Rattle.aom_image.specs.WellFormed.{ClassFits, HeaderFits, MethodFits, OverFits, ParentFits, WellFormed, is_server}
use Rattle.aom_instructions.specs.declared.version.Version.{Version}
use Rattle.aom_instructions.specs.Fits.{InstrFits, limits}
use Rattle.aom_instructions.specs.declared.instr.Instr.{Instr}
use Rattle.aom_syntax.specs.Keywords.{keyword_text, keyword_of}
use Rattle.aom_instructions.specs.Mnemonics.{mnemonic_text, mnemonic_of}
use Rattle.aom_syntax.specs.Methods.{heading, instruction}
use Rattle.aom_syntax.specs.declared.keyword.Keyword.{Keyword}
use Rattle.aom_instructions.specs.declared.mnemonic.Mnemonic.{Mnemonic}
use Rattle.aom_syntax.specs.declared.scope.Scope.{Scope}
use Rattle.aom_disassembler.specs.Listing.{instr_words, listing, listing_text}
use Rattle.aom_roles.specs.Shapes.{AllShaped}
use Rattle.aom_asm.specs.Denoted.{denoted, read_statements}
use Rattle.aom_asm_semantics.specs.Texts.{AllSayQuiet, SaysQuiet, all_words}
use Rattle.aom_asm_semantics.specs.Naming.{HasNames, code_labels, heading_of}

-- a number in decimal digits reads as that number
abbrev pub NumbersReadBack : Type 0
NumbersReadBack = (n : ℕ) → n < 2 ^ 50 → number_of (decimal n) ≡ Some (record { is_negative = false; size = n })

-- each word of the language and each mnemonic reads as what it is written for
pub record TablesReadBack : Type 0 where
  pub keywords : (key : Keyword) → keyword_of (keyword_text key) ≡ Some key
  pub mnemonics : (m : Mnemonic) → mnemonic_of (mnemonic_text m) ≡ Some m

-- an instruction that fits reads as itself at its place in its method, whether names are told apart or not
abbrev pub InstructionsReadBack : Type 0
InstructionsReadBack = (classes methods : ℕ) (scope : Scope) → HasNames classes methods scope → (version : Version) (code : List Instr) (place : ℕ) (i : Instr) → length code ≤ 1024 → place < length code
    → slice_get code place ≡ Some i → InstrFits (limits version classes methods (length code)) i → instruction scope version (code_labels code) place (instr_words code place i) ≡ Ok (i, [])

-- a header that fits reads as itself
abbrev pub HeadersReadBack : Type 0
HeadersReadBack = (classes methods : ℕ) (scope : Scope) → HasNames classes methods scope → (h : Header) → HeaderFits classes h → image_statement scope (header_words h) ≡ Ok (h, [])

-- a class that fits reads as itself at its place, after so few servers that it may be one
abbrev pub ClassesReadBack : Type 0
ClassesReadBack = (classes methods : ℕ) (scope : Scope) → HasNames classes methods scope → (version : Version) (natives servers place : ℕ) (c : ClassDecl) → natives ≤ 16 → place < classes
    → ClassFits version classes natives c → ParentFits version classes c.kind c.parent → (is_server c ≡ true → servers < 8)
    → class_statement scope version natives place servers (others_of (class_words place c)) ≡ Ok (c, [])

-- the heading of a method that fits reads as itself at its place, where a method that is quiet by its role says so
abbrev pub HeadingsReadBack : Type 0
HeadingsReadBack = (classes methods : ℕ) (scope : Scope) → HasNames classes methods scope → (version : Version) (place : ℕ) (m : Method) → place < methods
    → MethodFits version classes methods m → OverFits version methods m.over → SaysQuiet m → heading scope version place (others_of (heading_words place m)) ≡ Ok (heading_of m, [])

-- where each method has the shape that its role asks, each that is quiet by its role says so
abbrev pub ShapedSayQuiet : Type 0
ShapedSayQuiet = (i : Image) → AllShaped i → AllSayQuiet i

-- statements that are a listing's denote its image, in whatever lines they stand, where each method that is quiet by its role says so
abbrev pub StatementsDenote : Type 0
StatementsDenote = (i : Image) → WellFormed i → AllSayQuiet i → (last : ℕ) (ss : List Statement) → all_words ss ≡ listing i → read_statements last ss ≡ Ok i

-- the text of a listing denotes the image that it is of, where the text is not too long
abbrev pub ListingsAssemble : Type 0
ListingsAssemble = (i : Image) → WellFormed i → AllSayQuiet i → length (listing_text i) ≤ 2 ^ 20 → denoted (listing_text i) ≡ Ok i
