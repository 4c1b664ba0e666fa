-- Statements that are a listing's, in whatever lines they stand.
use Rattle.std.specs.Prelude.{◌≡◌, ℕ, true, List, All, map}
use Rattle.aom_text.specs.declared.text.Statement.{Statement}
use Rattle.aom_image.specs.Image.{Image}
use Rattle.aom_image.specs.Views.{has}
use Rattle.aom_image.specs.declared.method.Method.{Method}
use Rattle.aom_syntax.specs.Methods.{is_quiet_role}
use Rattle.aom_disassembler.specs.Listing.{placed}

-- the words of statements, without their lines
abbrev pub all_words : List Statement → List (List (List ℕ))
all_words statements = map (λ s. s.words) statements

-- a method that is quiet by its role says so
abbrev pub SaysQuiet : Method → Type 0
SaysQuiet m = is_quiet_role m.role ≡ true → has m.flags.0 2 ≡ true

abbrev pub AllSayQuiet : Image → Type 0
AllSayQuiet i = All SaysQuiet i.methods

-- names by number, one for each element, from a number on
abbrev pub names_from : {X : Type 0} → (ℕ → List ℕ) → ℕ → List X → List (List ℕ)
names_from name n xs = placed (λ m x. name m) n xs
