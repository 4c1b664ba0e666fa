-- The exit statuses, and the line and the status of each fault.
use Rattle.std.specs.Prelude.{ℕ, List, ◌++◌, codes}
use Rattle.std.specs.Fmt.{decimal}
use Rattle.aom_codec.specs.Faults.{fault_number}
use Rattle.aom_codec.specs.declared.fault.LoadFault.{LoadFault}
use Rattle.aom_codec.specs.declared.fault.LoadFault.TheVariants as loads
use Rattle.aom_link_conditions.specs.Faults.{number_of}
use Rattle.aom_link_conditions.specs.declared.fault.LinkFault.{LinkFault}
use Rattle.aom_link_conditions.specs.declared.fault.LinkFault.TheVariants as links
use Rattle.aom_verify.specs.Refusals.{line_of}
use Rattle.aom_verify.specs.declared.refusal.Refusal.{Refusal}
use Rattle.aom_verify.specs.declared.refusal.Refusal.TheVariants as refusals
use Rattle.aom_budget.specs.Faults.{line_of as budget_line}
use Rattle.aom_budget.specs.declared.fault.BudgetFault.{BudgetFault}
use Rattle.aom_budget.specs.declared.fault.BudgetFault.TheVariants as budgets
use Rattle.aom_script.specs.Faults.{number_of as script_number}
use Rattle.aom_script.specs.declared.fault.ScriptFault.{ScriptFault}
use Rattle.aom_script.specs.declared.fault.ScriptFaultKind.{ScriptFaultKind}
use Rattle.aom_script.specs.declared.fault.ScriptFaultKind.TheVariants as kinds
use Rattle.aom_natives.specs.Booting.{fault_number as boot_number}
use Rattle.aom_natives.specs.declared.fault.BootFault.{BootFault}
use Rattle.aom_natives.specs.declared.fault.BootFault.TheVariants as boots
use Rattle.aom_text.specs.Faults.{number_of as asm_number}
use Rattle.aom_text.specs.declared.fault.AsmFault.{AsmFault}
use Rattle.aom_text.specs.declared.fault.AsmFaultKind.{AsmFaultKind}
use Rattle.aom_text.specs.declared.fault.AsmFaultKind.TheVariants as texts
use Rattle.aom_commands.specs.declared.status.ExitStatus.{ExitStatus}
use Rattle.aom_commands.specs.declared.status.ExitStatus.TheVariants as statuses
use Rattle.aom_commands.specs.declared.faults.Fault.{Fault}
use Rattle.aom_commands.specs.declared.faults.Fault.TheVariants.{Load, Asm, Link, Verify, Budget, Script, Boot, Native, File, Write, Memory}

-- the number that the system gets
abbrev pub status_number : ExitStatus → ℕ
status_number status = elim status [ statuses.Done ↦ 0 | statuses.ImageRefused ↦ 1 | statuses.CallRefused ↦ 2 | statuses.Unfinished ↦ 3 | statuses.Broken ↦ 4 | statuses.Fault ↦ 5 ]

-- of a text, the line in which it is and its number
abbrev pub text_line : (kind : List ℕ) → (line number : ℕ) → List ℕ
text_line kind line number = kind ++ decimal line ++ codes " " ++ decimal number

-- the line by which a fault is told, without its line feed
abbrev pub fault_line : Fault → List ℕ
fault_line (Load fault) = codes "load " ++ decimal (fault_number fault)
fault_line (Asm fault) = text_line (codes "asm ") fault.line (asm_number fault.kind)
fault_line (Link fault) = codes "link " ++ decimal (number_of fault)
fault_line (Verify refusal) = line_of refusal
fault_line (Budget fault) = budget_line fault
fault_line (Script fault) = text_line (codes "script ") fault.line (script_number fault.kind)
fault_line (Boot fault) = codes "boot " ++ decimal (boot_number fault)
fault_line Native = codes "native"
fault_line File = codes "file"
fault_line Write = codes "write"
fault_line Memory = codes "memory"

-- the status that goes with it
abbrev pub status_of : Fault → ExitStatus
status_of (Script fault) = statuses.CallRefused
status_of (Boot fault) = statuses.CallRefused
status_of Native = statuses.CallRefused
status_of File = statuses.Fault
status_of Write = statuses.Fault
status_of Memory = statuses.Fault
status_of _ = statuses.ImageRefused

-- want of memory is one fault, wherever it comes
abbrev pub of_load : LoadFault → Fault
of_load fault = elim fault [ loads.OutOfMemory ↦ Memory | other ↦ Load other ]

abbrev pub of_link : LinkFault → Fault
of_link fault = elim fault [ links.OutOfMemory ↦ Memory | other ↦ Link other ]

abbrev pub of_refusal : Refusal → Fault
of_refusal refusal = elim refusal [ refusals.OutOfMemory ↦ Memory | other ↦ Verify other ]

abbrev pub of_budget : BudgetFault → Fault
of_budget fault = elim fault [ budgets.OutOfMemory ↦ Memory | other ↦ Budget other ]

abbrev pub of_boot : BootFault → Fault
of_boot fault = elim fault [ boots.OutOfMemory ↦ Memory | other ↦ Boot other ]

-- that of a text or a script comes with its line
abbrev pub of_asm_kind : AsmFault → AsmFaultKind → Fault
of_asm_kind fault kind = elim kind [ texts.OutOfMemory ↦ Memory | _ ↦ Asm fault ]

abbrev pub of_asm : AsmFault → Fault
of_asm fault = of_asm_kind fault fault.kind

abbrev pub of_script_kind : ScriptFault → ScriptFaultKind → Fault
of_script_kind fault kind = elim kind [ kinds.OutOfMemory ↦ Memory | _ ↦ Script fault ]

abbrev pub of_script : ScriptFault → Fault
of_script fault = of_script_kind fault fault.kind
