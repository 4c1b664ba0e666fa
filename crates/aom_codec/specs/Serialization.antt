-- The spelling of an image, byte for byte. Numbers stand high byte first.
use Rattle.std.specs.Prelude.{ℕ, zero, suc, ◌+◌, ◌-◌, List, [], ◌∷◌, ◌++◌, length, flat_map, Option, Some, None}
use Rattle.std.specs.Int.{w16, w32, cast_unsigned, to_be_bytes}
use Rattle.aom_image.specs.Image.{Image}
unfoldable pub use Rattle.aom_image.specs.Roles.{role_number}
use Rattle.aom_image.specs.declared.image.Header.{Header}
use Rattle.aom_instructions.specs.declared.version.Version.{Version}
use Rattle.aom_instructions.specs.declared.version.Version.TheVariants as versions
use Rattle.aom_image.specs.declared.class.ClassDecl.{ClassDecl}
use Rattle.aom_image.specs.declared.class.ClassKind.{ClassKind}
use Rattle.aom_image.specs.declared.class.ClassKind.TheVariants as kinds
use Rattle.aom_image.specs.declared.class.Provider.{Provider}
use Rattle.aom_image.specs.declared.class.Provider.TheVariants as providers
use Rattle.aom_image.specs.declared.method.Thing.{Thing}
use Rattle.aom_image.specs.declared.method.Thing.TheVariants.{Object, Message}
use Rattle.aom_image.specs.declared.method.Argument.{Argument}
use Rattle.aom_image.specs.declared.method.Argument.TheVariants as arguments
use Rattle.aom_image.specs.declared.method.Gives.{Gives}
use Rattle.aom_image.specs.declared.method.Gives.TheVariants as gives
use Rattle.aom_image.specs.declared.method.Method.{Method}
use Rattle.aom_instructions.specs.declared.instr.Instr.{Instr}
use Rattle.aom_instructions.specs.Table.{mnemonic, operands, row}
use Rattle.aom_instructions.specs.declared.instr.Target.{Target}
use Rattle.aom_instructions.specs.declared.instr.Target.TheVariants as targets
use Rattle.aom_instructions.specs.declared.mnemonic.Mnemonic.{Mnemonic}
use Rattle.aom_instructions.specs.declared.operand.Large.{Large}
use Rattle.aom_instructions.specs.declared.operand.Large.TheVariants as large
use Rattle.aom_instructions.specs.declared.operand.Operands.{Operands}
use Rattle.aom_instructions.specs.declared.operand.Small.{Small}
use Rattle.aom_instructions.specs.declared.operand.Small.TheVariants as small

-- a number in two bytes
abbrev pub next_u16 : ℕ → List ℕ
next_u16 n = to_be_bytes w16 n

-- a number in four bytes
abbrev pub next_u32 : ℕ → List ℕ
next_u32 n = to_be_bytes w32 n

-- so many unused pairs of bytes
abbrev pub unused_pairs : ℕ → List ℕ
unused_pairs zero = []
unused_pairs (suc n) = next_u16 0 ++ unused_pairs n

-- ---- numbers that name things

-- stands for no class, a static method or a word
abbrev pub no_class : ℕ
no_class = 0xffff

-- stands for a message
abbrev pub message_number : ℕ
message_number = 0xfffe

-- a class or none
abbrev pub class_number : Option ℕ → ℕ
class_number None = no_class
class_number (Some c) = c

-- what may be owned
abbrev pub thing_number : Thing → ℕ
thing_number (Object c) = c
thing_number Message = message_number

-- an argument is a word, or owned
abbrev pub argument_number : Argument → ℕ
argument_number arguments.Word = no_class
argument_number (arguments.Own t) = thing_number t

-- ---- header

-- the number of a version
abbrev pub version_number : Version → ℕ
version_number versions.One = 1
version_number versions.Two = 2

-- the header of an image with so many classes and methods
abbrev pub header : ℕ → ℕ → Header → List ℕ
header classes methods h =
    next_u32 0x414f494d ++ (next_u16 (version_number h.version) ++ (next_u16 classes ++ (next_u16 methods ++ (next_u16 h.cells ++ (next_u16 h.messages
    ++ (h.natives ∷ 0 ∷ (next_u16 (class_number h.root) ++ (next_u16 0 ++ next_u32 h.budget))))))))

-- ---- classes

-- a parent or what is overridden, of which the first version tells nothing
abbrev pub family_bytes : Version → Option ℕ → List ℕ
family_bytes versions.One number = []
family_bytes versions.Two number = next_u16 (class_number number) ++ next_u16 0

-- the kind of a class
abbrev pub kind_byte : ClassKind → ℕ
kind_byte kinds.Plain = 0
kind_byte (kinds.Active provider) = 1
kind_byte (kinds.Server sessions session) = 2
kind_byte kinds.Session = 3

-- the sort of a provider
abbrev pub provider_sort : Provider → ℕ
provider_sort providers.Own = 0
provider_sort providers.Timer = 1
provider_sort (providers.Native n) = 2
provider_sort providers.Token = 3

-- the provider, of active classes alone
abbrev pub provider_byte : ClassKind → ℕ
provider_byte (kinds.Active provider) = provider_sort provider
provider_byte _ = 0

-- the number of a native, and 0 for other providers
abbrev pub native_number : Provider → ℕ
native_number (providers.Native n) = n
native_number _ = 0

-- a native's number, or a server's most sessions
abbrev pub number_byte : ClassKind → ℕ
number_byte (kinds.Active provider) = native_number provider
number_byte (kinds.Server sessions session) = sessions
number_byte _ = 0

-- the class of a server's sessions
abbrev pub session_number : ClassKind → ℕ
session_number (kinds.Server sessions session) = session
session_number _ = no_class

-- a class, in 28 bytes, and in the second version 4 for its parent
abbrev pub class : Version → ClassDecl → List ℕ
class version c =
    kind_byte c.kind ∷ c.words ∷ length c.fields ∷ provider_byte c.kind ∷ number_byte c.kind ∷ 0 ∷ (next_u16 (session_number c.kind)
    ++ (flat_map (λ t. next_u16 (thing_number t)) c.fields ++ (unused_pairs (8 - length c.fields) ++ (next_u32 c.budget ++ family_bytes version c.parent))))

-- ---- instructions

-- what a call is made on: the high half says what it is, the low half which one
abbrev pub target_byte : Target → ℕ
target_byte targets.This = 0x00
target_byte (targets.Register r) = 0x10 + r
target_byte (targets.Field f) = 0x20 + f
target_byte (targets.Entry e) = 0x30 + e

-- a small operand, in one byte
abbrev pub small_byte : Small → ℕ
small_byte small.Unused = 0
small_byte (small.Register r) = r
small_byte (small.Word w) = w
small_byte (small.Field f) = f
small_byte (small.Depth depth) = depth
small_byte (small.CallTarget t) = target_byte t

-- the large operand, in four bytes
abbrev pub large_number : Large → ℕ
large_number large.Nothing = 0
large_number (large.Number z) = cast_unsigned w32 z
large_number (large.Rounds n) = n
large_number (large.Place n) = n
large_number (large.Class n) = n
large_number (large.Method n) = n

-- an opcode, three small operands and a large one
abbrev pub parts_bytes : Mnemonic → Operands → List ℕ
parts_bytes m o = (row m).opcode ∷ small_byte o.a ∷ small_byte o.b ∷ small_byte o.c ∷ next_u32 (large_number o.d)

-- an instruction, in 8 bytes
abbrev pub instruction : Instr → List ℕ
instruction i = parts_bytes (mnemonic i) (operands i)

-- ---- methods

-- the kind of a result
abbrev pub gives_byte : Gives → ℕ
gives_byte gives.Nothing = 0
gives_byte gives.Word = 1
gives_byte (gives.Own t) = 2
gives_byte (gives.Maybe t) = 3
gives_byte (gives.Left c) = 4

-- the class of the result
abbrev pub result_number : Gives → ℕ
result_number gives.Nothing = no_class
result_number gives.Word = no_class
result_number (gives.Own t) = thing_number t
result_number (gives.Maybe t) = thing_number t
result_number (gives.Left c) = c

-- a method in 24 bytes, in the second version 4 for what it overrides, and its code
abbrev pub method : Version → Method → List ℕ
method version m =
    next_u16 (class_number m.class) ++ (role_number m.role ∷ m.flags.0 ∷ m.before.0 ∷ m.after.0 ∷ length m.arguments ∷ gives_byte m.gives
    ∷ (flat_map (λ a. next_u16 (argument_number a)) m.arguments ++ (unused_pairs (6 - length m.arguments)
    ++ (next_u16 (result_number m.gives) ++ (next_u16 (length m.code) ++ (family_bytes version m.over ++ flat_map instruction m.code))))))

-- ---- the whole

-- the header, the classes and the methods
abbrev pub serialize : Image → List ℕ
serialize i =
    header (length i.classes) (length i.methods) i.header ++ (flat_map (class i.header.version) i.classes ++ flat_map (method i.header.version) i.methods)
