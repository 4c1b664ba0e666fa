-- The laws: what a statement says is in its range, whatever its words are.
use Rattle.std.specs.Prelude.{◌≡◌, ◌<◌, ◌≤◌, ℕ, true, List, length, All, IfSome, Ok}
use Rattle.aom_image.specs.WellFormed.{ArgumentFits, ClassFits, GivesFits, HeaderFits, OverFits, ParentFits, is_server}
use Rattle.aom_instructions.specs.declared.version.Version.{Version}
use Rattle.aom_instructions.specs.Fits.{InstrFits, limits}
use Rattle.aom_image.specs.declared.class.ClassDecl.{ClassDecl}
use Rattle.aom_image.specs.declared.image.Header.{Header}
use Rattle.aom_instructions.specs.declared.instr.Instr.{Instr}
use Rattle.aom_syntax.specs.Classes.{class_statement}
use Rattle.aom_syntax.specs.Headers.{image_statement}
use Rattle.aom_syntax.specs.Methods.{heading, instruction}
use Rattle.aom_syntax.specs.declared.method.Heading.{Heading}
use Rattle.aom_syntax.specs.declared.scope.Scope.{Scope}

-- ---- ranges

-- a method but its code, beside so many classes and methods
pub record HeadingFits (version : Version) (classes methods : ℕ) (h : Heading) : Type 0 where
  pub class : IfSome h.class (λ c. c < classes)
  pub over : OverFits version methods h.over
  pub flags : h.flags.0 < 4
  pub before : h.before.0 < 64
  pub after : h.after.0 < 64
  pub argument_count : length h.arguments ≤ 6
  pub arguments : All (ArgumentFits classes) h.arguments
  pub gives : GivesFits classes h.gives

-- names are told apart, and the classes that were read before are in their ranges
pub record IsSettled (version : Version) (natives : ℕ) (scope : Scope) : Type 0 where
  pub is_strict : scope.is_strict ≡ true
  pub kinds : All (ClassFits version (length scope.classes) natives) scope.kinds

-- a class at its place among the names of classes, after so many servers
pub record ClassIsRead (scope : Scope) (version : Version) (natives place servers : ℕ) (c : ClassDecl) : Type 0 where
  pub declared : place < length scope.classes
  pub class : ClassFits version (length scope.classes) natives c
  pub parent : ParentFits version (length scope.classes) c.kind c.parent
  pub server : is_server c ≡ true → servers < 8

-- the beginning of a method at its place among the names of methods
pub record HeadingIsRead (scope : Scope) (version : Version) (place : ℕ) (h : Heading) : Type 0 where
  pub declared : place < length scope.methods
  pub heading : HeadingFits version (length scope.classes) (length scope.methods) h

-- ---- laws

-- what opens a text, where names are told apart
abbrev pub HeadersInRange : Type 0
HeadersInRange = (scope : Scope) → scope.is_strict ≡ true → (ws : List (List ℕ)) (h : Header) (rest : List (List ℕ)) → image_statement scope ws ≡ Ok (h, rest) → HeaderFits (length scope.classes) h

-- a class, whether names are told apart or not
abbrev pub ClassesInRange : Type 0
ClassesInRange = (scope : Scope) (version : Version) (natives place servers : ℕ) (ws : List (List ℕ)) (c : ClassDecl) (rest : List (List ℕ)) → class_statement scope version natives place servers ws ≡ Ok (c, rest) → ClassIsRead scope version natives place servers c

-- the beginning of a method, beside classes that were read before
abbrev pub HeadingsInRange : Type 0
HeadingsInRange =
    (before : Version) (natives : ℕ) (scope : Scope) (version : Version) → IsSettled before natives scope → (place : ℕ) (ws : List (List ℕ)) (h : Heading) (rest : List (List ℕ))
    → heading scope version place ws ≡ Ok (h, rest) → HeadingIsRead scope version place h

-- an instruction, where names are told apart: it jumps to labels, and names classes and methods, that are declared
abbrev pub InstructionsInRange : Type 0
InstructionsInRange =
    (scope : Scope) (version : Version) → scope.is_strict ≡ true → (labels : List (List ℕ)) (place : ℕ) (ws : List (List ℕ)) (i : Instr) (rest : List (List ℕ))
    → instruction scope version labels place ws ≡ Ok (i, rest) → InstrFits (limits version (length scope.classes) (length scope.methods) (length labels)) i
