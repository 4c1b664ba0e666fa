-- The lines of a method follow each other.
use Rattle.std.proofs.Common.{◌≡◌, ◌∙◌, ◌<◌, [], ◌∷◌, ◌++◌, None, Some, ap, get_or, length, map, rules, subst, sym}
use Rattle.std.proofs.lemmas.List.{get_or-map}
use Rattle.aom_source.specs.Map.{Adds, line_tokens}
use Rattle.aom_source.proofs.Lines.{method_is, then}
use Rattle.aom_source.proofs.Names.{lines_so_far, method_named, then_none}
use Rattle.aom_source.proofs.writing.write_method.Goals as goal

pub returns : goal.returns
returns c =
    let w = c.in-Some-Some-Some-Some-Some in
    let methods = c.args.parts.program.now.methods.items in
    let id = c.args.id.0 in
    let here = w.ensures.lookup.3 in
    let within : id < length methods = subst (λ ms. id < length ms) c.deref.ensures.value here.0 in
    let is : w.method.now ≡ get_or methods id w.method.now = here.1 w.method.now ∙ ap (λ ms. get_or ms id w.method.now) c.deref.ensures.value in
    let token : get_or (map (λ m. m.token) methods) id 0 ≡ w.method.now.token = get_or-map (λ m. m.token) methods id w.method.now 0 within ∙ ap (λ m. m.token) (sym is) in
    let end : get_or (map (λ m. m.end_token) methods) id 0 ≡ w.method.now.end_token = get_or-map (λ m. m.end_token) methods id w.method.now 0 within ∙ ap (λ m. m.end_token) (sym is) in
    let code : get_or c.args.parts.codes.now.items id None ≡ Some w.code = search rules in
    let front = w.method.now.token ∷ [] in
    let body = line_tokens w.code in
    let first = c.end_line.ensures in
    let named = c.add_names.ensures in
    let begun = then_none c.args.written.now c.end_line.new.self c.add_names.new.self front first.origins named.origins named.lacks in
    let headed = then c.args.written.now c.add_names.new.self c.write_code.new.written front body begun c.in_ok-write_code.ensures.origins in
    let ended = then c.args.written.now c.write_code.new.written c.end_line-2.new.self (front ++ body) (w.method.now.end_token ∷ []) headed c.end_line-2.ensures.origins in
    record {
      origins = subst (Adds c.args.written.now c.end_line-2.new.self) (method_is w.method.now.token w.method.now.end_token _ _ w.code _ token code end) ended;
      names = λ lacks.
          let coded = (c.in_ok-write_code.ensures.origins (c.end_line-2.ensures.origins lacks).0).0 in
          let line = lines_so_far c.args.written.now c.end_line.new.self front first.origins (named.lacks coded) in
          method_named c.args.written.now c.end_line.new.self c.add_names.new.self c.write_code.new.written c.end_line-2.new.self _ c.args.id w.code _ line first.names
          (c.in_ok-add_names.ensures.names coded) (search rules) c.write_code.ensures.names c.end_line-2.ensures.names code;
    }
