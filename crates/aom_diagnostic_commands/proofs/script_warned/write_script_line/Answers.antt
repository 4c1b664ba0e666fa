-- The number of the line, the class, and what is said.
use Rattle.std.proofs.Common.{◌≡◌, ◌∙◌, ◌++◌, [], ◌∷◌, ap, append_assoc, codes, decimal, map}
use Rattle.std.proofs.lemmas.Result.{IfOk-weaker}
use Rattle.aom_cost_report.specs.Names.{label}
use Rattle.aom_diagnostic_commands.proofs.Pieces.{both_out}
use Rattle.aom_diagnostic_commands.proofs.script_warned.write_script_line.Goals as goal

pub returns : goal.returns
returns c =
    let out = c.args.out.now in
    let lead = codes "warning line " in
    let number = decimal c.args.warning.now.line in
    let between = codes " of the script: " in
    let class = label (map (λ w. w.now) c.args.classes.now) (codes "class ") c.args.warning.now.class in
    let end = codes " is no server" ++ 10 ∷ [] in
    let begun : c.count.new.self ≡ (out ++ lead) ++ number = c.in_ok-count.ensures ∙ ap (λ n. (out ++ lead) ++ decimal n) c.from.ensures in
    let named : c.write_label.new.out ≡ c.words.new.self ++ class =
    c.in_ok-write_label.ensures ∙ ap (λ n. c.words.new.self ++ label (map (λ w. w.now) c.args.classes.now) (codes "class ") n) c.from-class.ensures in
    IfOk-weaker c.words-2.result _ _
    (λ done put.
    both_out (out ++ lead) number (between ++ (class ++ end)) c.count.new.self c.words-2.new.self begun
    (both_out c.count.new.self between (class ++ end) c.words.new.self c.words-2.new.self c.in_ok-words.ensures
    (both_out c.words.new.self class end c.write_label.new.out c.words-2.new.self named put))
    ∙ append_assoc out lead (number ++ (between ++ (class ++ end))))
    c.words-2.ensures
