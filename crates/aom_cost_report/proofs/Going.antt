-- The dearest edge of a code and of one more instruction, and the way from a method and from the next one.
use Rattle.std.proofs.Common.{◌≡◌, ◌∙◌, ap, refl, sym, ℕ, suc, ◌+◌, ◌-◌, ◌<◌, List, [], ◌∷◌, ◌++◌, Option}
use Rattle.std.proofs.Common.{Some, None, append_assoc, length, take, slice_index_or, arith}
use Rattle.std.proofs.lemmas.List.{append-nil, take_more}
use Rattle.aom_image.specs.Image.{Image}
use Rattle.aom_link_conditions.specs.Roles.{main_of}
use Rattle.aom_instructions.specs.declared.instr.Instr.{Instr}
use Rattle.aom_cost_report.specs.declared.edge.Edge.{Edge}
use Rattle.aom_cost_report.specs.Edges.{edge_of}
use Rattle.aom_cost_report.specs.Way.{bold_line, costlier, costliest, costliest_of, step_text, way_of, way_text}

-- ---- the dearest edge

costliest_append : (prices : List ℕ) (best : Option Edge) (xs ys : List Instr) → costliest prices best (xs ++ ys) ≡ costliest prices (costliest prices best xs) ys
costliest_append prices best [] ys = refl
costliest_append prices best (x ∷ xs) ys = costliest_append prices (costlier prices best (edge_of x)) xs ys

pub costliest_more : (prices : List ℕ) (code : List Instr) (place : ℕ) (i : Instr) (best new : Option Edge) → place < length code → i ≡ slice_index_or code place
    i → best ≡ costliest prices None (take place code) → new ≡ costlier prices best (edge_of i) → new ≡ costliest prices None (take (place + 1) code)
costliest_more prices code place i best new within is so_far found =
    let more : take (place + 1) code ≡ take place code ++ i ∷ [] = take_more code place i within ∙ ap (λ y. take place code ++ y ∷ []) (sym is) in
    found ∙ ap (λ b. costlier prices b (edge_of i)) so_far ∙ sym (ap (λ t. costliest prices None t) more ∙ costliest_append prices None (take place code) (i ∷ []))

-- ---- the way

one_fewer : (count counter : ℕ) → counter < count → count - counter ≡ suc (count - (counter + 1))
one_fewer count counter within = omega (arith, within)

step : (p : Image) (prices : List ℕ) (rest n m : ℕ) (o : Option Edge) → rest ≡ suc n → costliest_of p prices m ≡ o →
    way_text p prices rest m ≡ step_text (way_text p prices n) m o
step p prices rest n m o is found = ap (λ k. way_text p prices k m) is ∙ ap (λ d. step_text (way_text p prices n) m d) found

-- it begins at main
pub begins : (p : Image) (prices : List ℕ) (count main : ℕ) (text : List ℕ) →
    main_of p ≡ Some main → count ≡ length p.methods → text ++ way_text p prices (count - 0) main ≡ text ++ way_of p prices (main_of p)
begins p prices count main text first is =
    let all : count - 0 ≡ length p.methods = omega (arith, is) in
    ap (λ t. text ++ t) (ap (λ n. way_text p prices n main) all ∙ sym (ap (λ o. way_of p prices o) first))

-- and is all there is when no more is counted
pub over : (p : Image) (prices : List ℕ) (count counter m : ℕ) (text whole : List ℕ) → (counter < count → ⊥) →
    text ++ way_text p prices (count - counter) m ≡ whole → text ≡ whole
over p prices count counter m text whole past so_far =
    let none : count - counter ≡ 0 = omega (arith, past) in
    sym (append-nil text) ∙ ap (λ t. text ++ t) (sym (ap (λ n. way_text p prices n m) none)) ∙ so_far

-- an edge further
pub goes_on : (p : Image) (prices : List ℕ) (count counter m : ℕ) (e : Edge) (text new whole : List ℕ) → counter < count → Some e ≡ costliest_of p prices m
    → new ≡ text ++ bold_line m e → text ++ way_text p prices (count - counter) m ≡ whole → new ++ way_text p prices (count - (counter + 1)) e.to ≡ whole
goes_on p prices count counter m e text new whole within found written so_far =
    let n = count - (counter + 1) in
    ap (λ t. t ++ way_text p prices n e.to) written ∙ append_assoc text (bold_line m e) (way_text p prices n e.to)
    ∙ ap (λ t. text ++ t) (sym (step p prices (count - counter) n m (Some e) (one_fewer count counter within) (sym found))) ∙ so_far

-- the way ends
pub ends : (p : Image) (prices : List ℕ) (count counter m : ℕ) (text whole : List ℕ) → counter < count → None ≡ costliest_of p prices m
    → text ++ way_text p prices (count - counter) m ≡ whole → text ≡ whole
ends p prices count counter m text whole within found so_far = sym (append-nil text)
    ∙ ap (λ t. text ++ t) (sym (step p prices (count - counter) (count - (counter + 1)) m None (one_fewer count counter within) (sym found))) ∙ so_far
