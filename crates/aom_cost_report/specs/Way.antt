-- The way to the greatest price.
use Rattle.std.specs.Prelude.{ℕ, zero, suc, ◌==◌, Bool, ◌&&◌, ◌||◌, nat_lt, if◌then◌else◌, List, [], ◌∷◌, ◌++◌, Option, Some, None, codes, length}
use Rattle.aom_image.specs.Image.{Image}
use Rattle.aom_image.specs.Views.{method_at}
use Rattle.aom_image.specs.declared.method.Method.{Method}
use Rattle.aom_instructions.specs.declared.instr.Instr.{Instr}
use Rattle.aom_roles.specs.Tables.{at}
use Rattle.aom_cost_report.specs.Edges.{arrow, edge_of}
use Rattle.aom_cost_report.specs.declared.edge.Edge.{Edge}

-- ---- the dearest edge of a method

-- an edge leads to a greater price than another, or to an equal one of a lower method
abbrev pub is_costlier : List ℕ → Edge → Edge → Bool
is_costlier prices e other = nat_lt (at 0 prices other.to) (at 0 prices e.to) || ((at 0 prices other.to == at 0 prices e.to) && nat_lt e.to other.to)

-- the first of two edges, unless the second is dearer
abbrev pub costlier_one : List ℕ → Edge → Edge → Edge
costlier_one prices first second = if is_costlier prices second first then second else first

-- where they are there
abbrev pub costlier : List ℕ → Option Edge → Option Edge → Option Edge
costlier prices best None = best
costlier prices None (Some e) = Some e
costlier prices (Some best) (Some e) = Some (costlier_one prices best e)

-- the dearest one of an edge and those of a code
abbrev pub costliest : List ℕ → Option Edge → List Instr → Option Edge
costliest prices best [] = best
costliest prices best (i ∷ is) = costliest prices (costlier prices best (edge_of i)) is

abbrev pub costliest_in : List ℕ → Option Method → Option Edge
costliest_in prices None = None
costliest_in prices (Some m) = costliest prices None m.code

abbrev pub costliest_of : Image → List ℕ → ℕ → Option Edge
costliest_of p prices m = costliest_in prices (method_at p m)

-- ---- the way

abbrev pub bold_line : ℕ → Edge → List ℕ
bold_line m e = arrow m e ++ codes " penwidth=3]" ++ 10 ∷ []

-- an edge, where there is one, and what follows from the method that it leads to
abbrev pub step_text : (ℕ → List ℕ) → ℕ → Option Edge → List ℕ
step_text after m None = []
step_text after m (Some e) = bold_line m e ++ after e.to

-- so many edges of the way from a method on, or fewer, where it ends before
abbrev pub way_text : Image → List ℕ → ℕ → ℕ → List ℕ
way_text p prices zero m = []
way_text p prices (suc n) m = step_text (way_text p prices n) m (costliest_of p prices m)

-- the way from main, which has at most as many edges as there are methods, since each leads to a lower one
abbrev pub way_of : Image → List ℕ → Option ℕ → List ℕ
way_of p prices None = []
way_of p prices (Some m) = way_text p prices (length p.methods) m
