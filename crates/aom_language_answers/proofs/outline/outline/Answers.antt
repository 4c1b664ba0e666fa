-- One symbol more, with what is in it; and at the end all.
use Rattle.std.proofs.Common.{◌≡◌, ◌∙◌, ◌+◌, ◌-◌, ◌++◌, ◌∷◌, List, [], ap, arith, drop, length, map, slice_index, subst, sym, take, ℕ}
use Rattle.std.proofs.Math.ListN.{drop_of_length-le}
use Rattle.std.proofs.lemmas.List.{append-nil, length-drop, length-take, map-append, take_all}
use Rattle.std.specs.List.{prefix_len}
use Rattle.serde_json.specs.Data.{Data, array}
use Rattle.serde_json.specs.View.{items_of, view}
use Rattle.serde_json.proofs.Views.{view-Array}
use Rattle.aom_language_answers.specs.Outline.{inner_data, is_declared_in, symbol_data, symbols_of}
use Rattle.aom_language_answers.proofs.Nesting.{grown}
use Rattle.aom_language_answers.proofs.outline.outline.Goals as goal

-- src/outline.rt
pub loop-begin-preserved : goal.loop-begin-preserved
loop-begin-preserved c =
    let names = c.args.names.now in
    let found = c.args.found.now in
    let begin = c.loop-begin.begin in
    let n = c.inner_count.result in
    let first = slice_index found begin in
    let behind = drop (begin + 1) found in
    let seen = c.loop-begin.ruler in
    let left : length (take (length found - (begin + 1)) behind) ≡ length found - (begin + 1) =
    omega (arith, length-take (length found - (begin + 1)) behind, length-drop (begin + 1) found) in
    let all : take (length found - (begin + 1)) behind ≡ behind = take_all (length found - (begin + 1)) behind (omega (arith, length-drop (begin + 1) found)) in
    let count : n ≡ prefix_len (is_declared_in names first) behind = c.inner_count.ensures.is ∙ ap (λ (xs : List ℕ). prefix_len (is_declared_in names first) xs) all in
    let size : begin + 1 + n - (begin + 1) ≡ n = omega arith in
    let one : view c.in_ok-symbol.field-0 ≡ symbol_data names seen first (map (inner_data names seen) (take n behind)) =
    c.in_ok-symbol.ensures.is ∙ ap (λ (k : ℕ). symbol_data names seen first (map (inner_data names seen) (take k behind))) size in
    let so_far = grown names seen found begin n (map view c.loop-begin.symbols.items) _ (view c.in_ok-symbol.field-0) c.loop-begin-test.true count one c.loop-begin.invariant.so_far in
    let pushed = ap (λ vs. map view vs) c.in_ok-push.ensures.items ∙ map-append view c.loop-begin.symbols.items (c.in_ok-symbol.field-0 ∷ []) in
    let grown_so = ap (λ (ds : List Data). ds ++ symbols_of names seen (drop (begin + 1 + n) found)) pushed ∙ so_far in
    record {
      same = c.symbol.ensures.same ∙ c.loop-begin.invariant.same;
      within = omega (arith, c.inner_count.ensures.within, left, c.loop-begin-test.true);
      so_far = subst (λ r. map view c.push.new.self.items ++ symbols_of names r (drop (begin + 1 + n) found) ≡ symbols_of names r found) (sym c.symbol.ensures.same) grown_so;
    }

-- src/outline.rt
pub returns : goal.returns
returns c =
    let names = c.args.names.now in
    let found = c.args.found.now in
    let seen = c.loop-begin.ruler in
    let values = map view c.loop-begin.symbols.items in
    let none : drop c.loop-begin.begin found ≡ [] = drop_of_length-le found c.loop-begin-test.false in
    let all : values ≡ symbols_of names seen found =
    sym (append-nil values) ∙ ap (λ (rest : List ℕ). values ++ symbols_of names seen rest) (sym none) ∙ c.loop-begin.invariant.so_far in
    view-Array c.loop-begin.symbols ∙ ap (λ (ds : List Data). array (items_of ds)) (all ∙ ap (λ (r : List ℕ). symbols_of names r found) c.loop-begin.invariant.same)
