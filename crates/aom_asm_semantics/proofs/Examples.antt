-- Closed texts of the second version: what one denotes, and what is told of its words in a text of the first.
use Rattle.std.proofs.Common.{◌≡◌, [], ◌∷◌, None, Some, Ok, Err, refl}
use Rattle.std.specs.Prelude.{codes}
use Rattle.aom_text.specs.declared.fault.AsmFaultKind.TheVariants.{BadShape}
use Rattle.aom_image.specs.Image.{Image}
use Rattle.aom_image.specs.Small.{a_class, a_header, a_method}
use Rattle.aom_image.specs.declared.class.ClassKind.TheVariants.{Plain}
use Rattle.aom_instructions.specs.declared.version.Version.TheVariants.{Two}
use Rattle.aom_image.specs.declared.method.Gives.TheVariants.{Nothing}
use Rattle.aom_image.specs.declared.method.Role.TheVariants.{Do}
use Rattle.aom_instructions.specs.declared.instr.Instr.TheVariants.{Return}
use Rattle.aom_asm.specs.Denoted.{denoted}

-- a class with a parent, and a method that overrides its parent's
abbrev family : Image
family = record {
  header = record (a_header 0 0 0 None 1) { version = Two };
  classes = a_class Plain 0 0 [] ∷ record (a_class Plain 0 0 []) { parent = Some 0 } ∷ [];
  methods = a_method (Some 0) Do 0 0 0 [] Nothing (Return 0 ∷ []) ∷ record (a_method (Some 1) Do 0 0 0 [] Nothing (Return 0 ∷ [])) { over = Some 0 } ∷ [];
}

family_read : denoted (codes "image version 2 budget 1;class B plain;class D plain from B;method m do of B;ret;end;method k do of D over m;ret;end") ≡ Ok family
family_read = refl

-- the same words in a text that says no version
from_refused : denoted (codes "image budget 1;class B plain;class D plain from B;method m do;ret;end") ≡ Err (record { line = 1; kind = BadShape })
from_refused = refl

over_refused : denoted (codes "image budget 1;method m do;ret;end;method k do over m;ret;end") ≡ Err (record { line = 1; kind = BadShape })
over_refused = refl

-- a session has no parent in any text
session_refused : denoted (codes "image version 2 budget 1;class S session;class T session from S;method m do;ret;end") ≡ Err (record { line = 1; kind = BadShape })
session_refused = refl
