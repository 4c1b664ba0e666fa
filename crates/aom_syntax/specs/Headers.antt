-- The statement that opens a text.
use Rattle.std.specs.Prelude.{ℕ, true, false, if◌then◌else◌, Option, Some, None, Ok}
use Rattle.aom_image.specs.declared.image.Header.{Header}
use Rattle.aom_instructions.specs.declared.version.Version.{Version}
use Rattle.aom_instructions.specs.declared.version.Version.TheVariants as versions
use Rattle.aom_syntax.specs.Reading.{Reading, next, giving, took, keyword, nothing_more, number, optional_number}
use Rattle.aom_syntax.specs.Operands.{class}
use Rattle.aom_syntax.specs.declared.keyword.Keyword.TheVariants as k
use Rattle.aom_syntax.specs.declared.scope.Scope.{Scope}

-- the class of the root, where it is said, and then nothing more
abbrev pub optional_root : Scope → Reading (Option ℕ)
optional_root scope ws =
    if (took k.Root ws).0 then next (class scope) (λ c. next (nothing_more false) (λ u. giving (Some c))) (took k.Root ws).1
    else next (nothing_more true) (λ u. giving None) (took k.Root ws).1

-- the version, where it is said: it can only be 2
abbrev pub optional_version : Reading Version
optional_version ws = if (took k.Version ws).0 then next (number 2 2) (λ n. giving versions.Two) (took k.Version ws).1 else Ok (versions.One, (took k.Version ws).1)

-- limits, main's budget and the root's class
abbrev pub limits_and_root : Scope → Version → Reading Header
limits_and_root scope version =
    next (optional_number k.Cells 4096) (λ cells.
    next (optional_number k.Messages 1024) (λ messages.
    next (optional_number k.Natives 16) (λ natives.
    next (keyword k.Budget) (λ u.
    next (number 0 4294967295) (λ budget.
    next (optional_root scope) (λ root.
    giving (record { version = version; cells = cells; messages = messages; natives = natives; root = root; budget = budget })))))))

-- the statement that opens a text
abbrev pub image_statement : Scope → Reading Header
image_statement scope = next (keyword k.Image) (λ u. next optional_version (λ version. limits_and_root scope version))
