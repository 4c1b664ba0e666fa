-- The format of an image, as it is read: the header, the classes, the methods with their code.
use Rattle.std.specs.Prelude.{ℕ, ◌+◌, ◌-◌, true, List, length, Option, Some, None, Result, Ok, Err, nat_lt, nat_le, ◌==◌, if◌then◌else◌}
use Rattle.aom_codec.specs.Codec.{Codec, ◌>>=◌, byte, next_u16, next_u32, is_between_dispatches, limited, checked, fixed, next, after, seen, many_from, many, nothing, unused, choose}
use Rattle.aom_codec.specs.Instructions.{instruction}
use Rattle.aom_image.specs.Image.{Image}
use Rattle.aom_codec.specs.Serialization.{class_number, thing_number, argument_number, role_number, gives_byte, result_number, kind_byte, version_number, provider_sort, native_number}
use Rattle.aom_image.specs.WellFormed.{is_server, may_declare, may_descend}
use Rattle.aom_instructions.specs.Fits.{limits}
use Rattle.aom_codec.specs.declared.fault.LoadFault.{LoadFault}
use Rattle.aom_codec.specs.declared.fault.LoadFault.TheVariants.{BadMagic, BadVersion, Trailing, LimitPassed, BadOperand, BadIndex, NotZero}
use Rattle.aom_codec.specs.declared.header.Opening.{Opening}
use Rattle.aom_image.specs.declared.class.ClassDecl.{ClassDecl}
use Rattle.aom_instructions.specs.declared.version.Version.{Version}
use Rattle.aom_instructions.specs.declared.version.Version.TheVariants as versions
use Rattle.aom_image.specs.declared.class.ClassKind.{ClassKind}
use Rattle.aom_image.specs.declared.class.ClassKind.TheVariants as kinds
use Rattle.aom_image.specs.declared.class.Provider.{Provider}
use Rattle.aom_image.specs.declared.class.Provider.TheVariants as providers
use Rattle.aom_image.specs.declared.method.Thing.{Thing}
use Rattle.aom_image.specs.declared.method.Thing.TheVariants.{Object, Message}
use Rattle.aom_image.specs.declared.method.Role.{Role}
use Rattle.aom_image.specs.declared.method.Role.TheVariants as roles
use Rattle.aom_image.specs.declared.method.MethodFlags.{MethodFlags}
use Rattle.aom_image.specs.declared.method.States.{States}
use Rattle.aom_image.specs.declared.method.Argument.{Argument}
use Rattle.aom_image.specs.declared.method.Argument.TheVariants as arguments
use Rattle.aom_image.specs.declared.method.Gives.{Gives}
use Rattle.aom_image.specs.declared.method.Gives.TheVariants as gives
use Rattle.aom_image.specs.declared.method.Method.{Method}
use Rattle.aom_instructions.specs.declared.instr.Instr.{Instr}

-- ---- numbers that name things

-- a class that has to be there
abbrev pub index_from : ℕ → ℕ → Result ℕ LoadFault
index_from classes n = if nat_lt n classes then Ok n else Err BadIndex

-- a class or none
abbrev pub class_from : ℕ → ℕ → Result (Option ℕ) LoadFault
class_from classes n = if n == 0xffff then Ok None else index_from classes n >>= λ c. Ok (Some c)

-- a class or none, in two bytes
abbrev pub class_or_none : ℕ → Codec (Option ℕ)
class_or_none classes = seen (class_from classes) class_number next_u16

-- what may be owned
abbrev pub thing_from : ℕ → ℕ → Result Thing LoadFault
thing_from classes n = if n == 0xfffe then Ok Message else index_from classes n >>= λ c. Ok (Object c)

-- what may be owned, in two bytes
abbrev pub thing : ℕ → Codec Thing
thing classes = seen (thing_from classes) thing_number next_u16

-- what an argument is
abbrev pub argument_from : ℕ → ℕ → Result Argument LoadFault
argument_from classes n = if n == 0xffff then Ok arguments.Word else thing_from classes n >>= λ t. Ok (arguments.Own t)

-- an argument, in two bytes
abbrev pub argument : ℕ → Codec Argument
argument classes = seen (argument_from classes) argument_number next_u16

-- ---- header

-- the version of a format by its number
abbrev pub version_from : ℕ → Result Version LoadFault
version_from n = if n == 1 then Ok versions.One else if n == 2 then Ok versions.Two else Err BadVersion

-- the version
abbrev pub version : Codec Version
version = seen version_from version_number next_u16

-- what stands behind the counts
abbrev pub header_fields : ℕ → Codec (ℕ × (ℕ × (ℕ × (Option ℕ × ℕ))))
header_fields classes =
    next (limited next_u16 0 4096) (λ _.
    next (limited next_u16 0 1024) (λ _.
    next (limited byte 0 16) (λ _.
    after (fixed byte 0 NotZero) (
    next (class_or_none classes) (λ _.
    after (fixed next_u16 0 NotZero)
    next_u32)))))

-- the fields of the header
abbrev pub opening_fields : Codec (Version × (ℕ × (ℕ × (ℕ × (ℕ × (ℕ × (Option ℕ × ℕ)))))))
opening_fields =
    after (fixed next_u32 0x414f494d BadMagic) (
    next version (λ _.
    next (limited next_u16 0 256) (λ classes.
    next (limited next_u16 1 1024) (λ _.
    header_fields classes))))

-- the header with the counts of classes and methods, which an image shows by its lists
abbrev pub opening : Codec Opening
opening = seen
    (λ p. Ok (record {
      classes = p.1.0;
      methods = p.1.1.0;
      header = record { version = p.0; cells = p.1.1.1.0; messages = p.1.1.1.1.0; natives = p.1.1.1.1.1.0; root = p.1.1.1.1.1.1.0; budget = p.1.1.1.1.1.1.1 };
    }))
    (λ o. (o.header.version, (o.classes, (o.methods, (o.header.cells, (o.header.messages, (o.header.natives, (o.header.root, o.header.budget))))))))
    opening_fields

-- ---- classes

-- the last sort of provider that a version has
abbrev pub last_provider : Version → ℕ
last_provider versions.One = 2
last_provider versions.Two = 3

-- the sort of a provider
abbrev pub sort_of_provider : Version → Codec ℕ
sort_of_provider version = checked byte (is_between_dispatches 0 (last_provider version)) BadOperand

-- the provider of a sort from 0 to 3
abbrev pub provider_from : ℕ → ℕ → Provider
provider_from sort n = if sort == 0 then providers.Own else if sort == 1 then providers.Timer else if sort == 2 then providers.Native n else providers.Token

-- the number of a native, or nothing
abbrev pub native : ℕ → ℕ → Codec ℕ
native natives sort = checked byte (λ n. if sort == 2 then nat_lt n natives else n == 0) (if sort == 2 then BadIndex else NotZero)

-- the provider of an active class
abbrev pub provider : Version → ℕ → Codec Provider
provider version natives = seen (λ p. Ok (provider_from p.0 p.1)) (λ p. (provider_sort p, native_number p)) (next (sort_of_provider version) (native natives))

-- no class of sessions
abbrev pub no_session : Codec (Unit {0})
no_session = fixed next_u16 0xffff BadOperand

-- what stands between the counts and the fields of a class that is neither active nor a server
abbrev pub bare : Codec (Unit {0})
bare = after (unused 3 byte NotZero) no_session

-- the class of a server's sessions
abbrev pub session_class : ℕ → Codec ℕ
session_class classes = seen (index_from classes) (λ c. c) next_u16

-- what stands between the counts and the fields of an active class
abbrev pub active_part : Version → ℕ → Codec (Provider × Unit {0})
active_part version natives = next (provider version natives) (λ _. after (fixed byte 0 NotZero) no_session)

-- the same of a server
abbrev pub server_part : ℕ → Codec (ℕ × ℕ)
server_part classes = after (fixed byte 0 NotZero) (next (limited byte 1 64) (λ _. after (fixed byte 0 NotZero) (session_class classes)))

-- the provider of an active class, and any where there is none
abbrev pub active_provider : ClassKind → Provider
active_provider (kinds.Active p) = p
active_provider _ = providers.Own

-- a server's most sessions and their class
abbrev pub server_numbers : ClassKind → ℕ × ℕ
server_numbers (kinds.Server sessions session) = (sessions, session)
server_numbers _ = (0, 0)

-- what stands between the counts and the fields, by the kind's byte
abbrev pub kind : Version → ℕ → ℕ → ℕ → Codec ClassKind
kind version classes natives sort =
    choose (sort == 0) (seen (λ _. Ok kinds.Plain) (λ _. tt) bare) (
    choose (sort == 1) (seen (λ p. Ok (kinds.Active p.0)) (λ k. (active_provider k, tt)) (active_part version natives)) (
    choose (sort == 2) (seen (λ p. Ok (kinds.Server p.0 p.1)) server_numbers (server_part classes))
    (seen (λ _. Ok kinds.Session) (λ _. tt) bare)))

-- what stands after the fields: zeros where objects of the class are not dispatched
abbrev pub budget : ClassKind → Codec ℕ
budget k = checked next_u32 (may_declare k) NotZero

-- a parent, which plain and active classes alone may have
abbrev pub parent_from : ClassKind → ℕ → ℕ → Result (Option ℕ) LoadFault
parent_from k classes n = if n == 0xffff then Ok None else if may_descend k then (index_from classes n >>= λ c. Ok (Some c)) else Err BadOperand

-- a class or a method, or none, and two unused bytes
abbrev pub of_family : (ℕ → Result (Option ℕ) LoadFault) → Codec (Option ℕ)
of_family from = seen (λ p. Ok p.0) (λ o. (o, tt)) (next (seen from class_number next_u16) (λ _. fixed next_u16 0 NotZero))

-- what the first version does not tell
abbrev pub unreported : Codec (Option ℕ)
unreported = seen (λ _. Ok None) (λ _. tt) nothing

-- what tells of the parent
abbrev pub parent : Version → ClassKind → ℕ → Codec (Option ℕ)
parent versions.One k classes = unreported
parent versions.Two k classes = of_family (parent_from k classes)

-- what tells of the method that is overridden
abbrev pub over : Version → ℕ → Codec (Option ℕ)
over versions.One methods = unreported
over versions.Two methods = of_family (class_from methods)

-- the byte of a class's kind, after so many servers: the ninth passes the limit
abbrev pub kind_sort : ℕ → Codec ℕ
kind_sort servers = checked (checked byte (is_between_dispatches 0 3) BadOperand) (λ n. if n == 2 then nat_lt servers 8 else true) LimitPassed

-- the fields of a class
abbrev pub class_parts : Version → ℕ → ℕ → ℕ → Codec (ℕ × (ℕ × (ℕ × (ClassKind × (List Thing × (ℕ × Option ℕ))))))
class_parts version classes natives servers =
    next (kind_sort servers) (λ sort.
    next (limited byte 0 8) (λ _.
    next (limited byte 0 8) (λ count.
    next (kind version classes natives sort) (λ k.
    next (many count (thing classes)) (λ _.
    after (unused (8 - count) next_u16 NotZero) (
    next (budget k) (λ _.
    parent version k classes)))))))

-- a class, after so many servers
abbrev pub class : Version → ℕ → ℕ → ℕ → Codec ClassDecl
class version classes natives servers = seen
    (λ p. Ok (record { kind = p.1.1.1.0; parent = p.1.1.1.1.1.1; words = p.1.0; fields = p.1.1.1.1.0; budget = p.1.1.1.1.1.0 }))
    (λ c. (kind_byte c.kind, (c.words, (length c.fields, (c.kind, (c.fields, (c.budget, c.parent)))))))
    (class_parts version classes natives servers)

-- the servers so far
abbrev pub count_server : ℕ → ClassDecl → ℕ
count_server servers c = if is_server c then servers + 1 else servers

-- ---- methods

-- a role by its number
abbrev pub role_from : ℕ → Result Role LoadFault
role_from n =
    if n == 0 then Ok roles.Do else if n == 1 then Ok roles.Main else if n == 2 then Ok roles.Construct else if n == 3 then Ok roles.Destruct
    else if n == 4 then Ok roles.Run else if n == 5 then Ok roles.Cancel else if n == 6 then Ok roles.Error else if n == 7 then Ok roles.Accept
    else if n == 8 then Ok roles.Service else if n == 9 then Ok roles.Undo else Err BadOperand

-- a role
abbrev pub role : Codec Role
role = seen role_from role_number byte

-- flags with no bits but the two
abbrev pub flags_from : ℕ → Result MethodFlags LoadFault
flags_from n = if nat_lt n 4 then Ok (record { 0 = n }) else Err BadOperand

-- the flags of a method
abbrev pub flags : Codec MethodFlags
flags = seen flags_from (λ f. f.0) byte

-- request states with no bits but the six
abbrev pub states_from : ℕ → Result States LoadFault
states_from n = if nat_lt n 64 then Ok (record { 0 = n }) else Err BadOperand

-- a set of request states
abbrev pub states : Codec States
states = seen states_from (λ s. s.0) byte

-- a result of a kind from 0 to 4, and the number of its class
abbrev pub gives_from : ℕ → ℕ → ℕ → Result Gives LoadFault
gives_from classes sort n =
    if sort == 0 then (if n == 0xffff then Ok gives.Nothing else Err BadOperand)
    else if sort == 1 then (if n == 0xffff then Ok gives.Word else Err BadOperand)
    else if sort == 4 then (if nat_le 0xfffe n then Err BadOperand else index_from classes n >>= λ c. Ok (gives.Left c))
    else if n == 0xffff then Err BadOperand
    else thing_from classes n >>= λ t. if sort == 2 then Ok (gives.Own t) else Ok (gives.Maybe t)

-- the kind of a result
abbrev pub result_sort : Codec ℕ
result_sort = checked byte (is_between_dispatches 0 4) BadOperand

-- the class of a result
abbrev pub result : ℕ → ℕ → Codec Gives
result classes sort = seen (gives_from classes sort) result_number next_u16

-- the fields of a method, and its code
abbrev pub method_parts : Version → ℕ → ℕ → Codec (Option ℕ × (Role × (MethodFlags × (States × (States × (ℕ × (ℕ × (List Argument × (Gives × (ℕ × (Option ℕ × List Instr)))))))))))
method_parts version classes methods =
    next (class_or_none classes) (λ _.
    next role (λ _.
    next flags (λ _.
    next states (λ _.
    next states (λ _.
    next (limited byte 0 6) (λ count.
    next result_sort (λ sort.
    next (many count (argument classes)) (λ _.
    after (unused (6 - count) next_u16 NotZero) (
    next (result classes sort) (λ _.
    next (limited next_u16 1 1024) (λ places.
    next (over version methods) (λ _.
    many places (instruction (limits version classes methods places))))))))))))))

-- a method and its code
abbrev pub method : Version → ℕ → ℕ → Codec Method
method version classes methods = seen
    (λ p. Ok (record {
      class = p.0;
      over = p.1.1.1.1.1.1.1.1.1.1.0;
      role = p.1.0;
      flags = p.1.1.0;
      before = p.1.1.1.0;
      after = p.1.1.1.1.0;
      arguments = p.1.1.1.1.1.1.1.0;
      gives = p.1.1.1.1.1.1.1.1.0;
      code = p.1.1.1.1.1.1.1.1.1.1.1;
    }))
    (λ m. (m.class, (m.role, (m.flags, (m.before, (m.after, (length m.arguments, (gives_byte m.gives, (m.arguments, (m.gives, (length m.code, (m.over, m.code))))))))))))
    (method_parts version classes methods)

-- ---- the whole

-- the parts of an image
abbrev pub image_parts : Codec (Opening × (List ClassDecl × List Method))
image_parts =
    next opening (λ o.
    next (many_from (class o.header.version o.classes o.header.natives) count_server 0 o.classes) (λ _.
    many o.methods (method o.header.version o.classes o.methods)))

-- the header with the counts
abbrev pub opening_of : Image → Opening
opening_of i = record { classes = length i.classes; methods = length i.methods; header = i.header }

-- an image
abbrev pub image : Codec Image
image = seen (λ p. Ok (record { header = p.0.header; classes = p.1.0; methods = p.1.1 })) (λ i. (opening_of i, (i.classes, i.methods))) image_parts

-- what was read, where nothing stands behind it
abbrev pub whole : {X : Type 0} → Result (X × List ℕ) LoadFault → Result X LoadFault
whole (Err e) = Err e
whole (Ok x) = if length x.1 == 0 then Ok x.0 else Err Trailing

-- all of the bytes: at most 1 MiB, and nothing after the last method
abbrev pub read_image : List ℕ → Result Image LoadFault
read_image bytes = if nat_lt 1048576 (length bytes) then Err LimitPassed else whole (image.read bytes)

-- the fault of what was read
abbrev pub fault_in : {X : Type 0} → Result X LoadFault → Option LoadFault
fault_in (Ok x) = None
fault_in (Err e) = Some e

-- the first fault in file order
abbrev pub first_fault : List ℕ → Option LoadFault
first_fault bytes = fault_in (read_image bytes)
