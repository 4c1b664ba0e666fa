-- How an instruction leads from its method to another, and the lines of that.
use Rattle.std.specs.Prelude.{ℕ, List, [], ◌++◌, Option, Some, None, codes, flat_map}
use Rattle.std.specs.Fmt.{decimal}
use Rattle.aom_instructions.specs.Table.{action_of}
use Rattle.aom_instructions.specs.declared.action.Action.{Action}
use Rattle.aom_instructions.specs.declared.action.Action.TheVariants as actions
use Rattle.aom_instructions.specs.declared.action.CallMode.TheVariants.{Plain, Trapped}
use Rattle.aom_instructions.specs.declared.instr.Instr.{Instr}
use Rattle.aom_cost_report.specs.Each.{line_end}
use Rattle.aom_cost_report.specs.declared.edge.Edge.{Edge}
use Rattle.aom_cost_report.specs.declared.edge.EdgeKind.{EdgeKind}
use Rattle.aom_cost_report.specs.declared.edge.EdgeKind.TheVariants as kinds

-- what is called, called under a trap or pushed as an operation
abbrev pub edge_by : Action → Option Edge
edge_by (actions.Call Plain target k first x) = Some (record { kind = kinds.Call; to = k })
edge_by (actions.Call Trapped target k first x) = Some (record { kind = kinds.Trap; to = k })
edge_by (actions.PushOperation a k) = Some (record { kind = kinds.Operation; to = k })
edge_by _ = None

abbrev pub edge_of : Instr → Option Edge
edge_of i = edge_by (action_of i)

-- edges of one key between the same two methods are one edge to Graphviz
abbrev pub kind_text : EdgeKind → List ℕ
kind_text kinds.Call = codes " [key=call"
kind_text kinds.Trap = codes " [key=trap style=dashed"
kind_text kinds.Operation = codes " [key=operation style=dotted"

-- an edge without its end
abbrev pub arrow : ℕ → Edge → List ℕ
arrow m e = codes "m" ++ decimal m ++ codes " -> m" ++ decimal e.to ++ kind_text e.kind

abbrev pub edge_line : ℕ → Edge → List ℕ
edge_line m e = arrow m e ++ line_end

-- nothing, where an instruction leads to no method
abbrev pub edge_text : ℕ → Option Edge → List ℕ
edge_text m None = []
edge_text m (Some e) = edge_line m e

-- what the instructions of a method lead to, in their order
abbrev pub code_text : ℕ → List Instr → List ℕ
code_text m code = flat_map (λ i. edge_text m (edge_of i)) code
