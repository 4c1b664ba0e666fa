use Rattle.std.proofs.lemmas.Bool.Decides.{nat_tests}
use Rattle.std.proofs.Common.{arith, ◌<◌, ◌≡◌, ◌∙◌, sym, ap, length, length-append, ◌++◌, ◌∷◌, [], map, Ok, Err, rules}
use Rattle.aom_source_tokens.specs.declared.place.Place.{Place}
use Rattle.aom_source_tokens.specs.Tokens.{placed_of, tokens_of}
use Rattle.aom_source_tokens.proofs.Reading.{begins, first_rest, first_few, none_placed, step, ends, refuses, shorter, next_rest, some_size, more_placed}
use Rattle.aom_source_tokens.proofs.tokens.Tokens.of.Goals as goal

pub loop-cursor-init : goal.loop-cursor-init
loop-cursor-init c = record {
  rest = first_rest c.args.source.now c.of-cursor.result c.of-cursor.ensures;
  so_far = begins c.args.source.now c.new-tokens.result.items c.of-cursor.result (omega arith) c.new-tokens.ensures.items c.of-cursor.ensures;
  few = omega (arith, first_few c.args.source.now c.of-cursor.result c.of-cursor.ensures, ap length c.new-tokens.ensures.items);
  small = omega arith;
  placed = none_placed c.args.source.now c.new-tokens.result.items c.new-tokens.ensures.items;
}

pub loop-cursor-preserved : goal.loop-cursor-preserved
loop-cursor-preserved c =
    let some : 0 < length c.loop-cursor.cursor.bytes = grind (arith, nat_tests) in
    let had = c.in_ok-token.ensures in
    let kept : c.keep.new.tokens.items ≡ c.loop-cursor.tokens.items ++ c.in_ok-token.token ∷ [] = search rules in
    record {
      rest = next_rest c.args.source.now c.loop-cursor.cursor c.next.new.self _ had.rest had.within c.loop-cursor.invariant.rest;
      so_far = step c.args.source.now c.loop-cursor.tokens.items c.keep.new.tokens.items c.in_ok-token.token c.loop-cursor.cursor c.next.new.self
          kept c.loop-cursor.invariant.few some had.token had.place had.rest c.loop-cursor.invariant.so_far;
      few = omega (
        arith,
        ap length kept,
        length-append c.loop-cursor.tokens.items (c.in_ok-token.token ∷ []),
        c.loop-cursor.invariant.few,
        shorter c.loop-cursor.cursor c.next.new.self _ had.rest (some_size _ _ some had.token) had.within,
      );
      small = omega arith;
      placed = more_placed c.args.source.now c.loop-cursor.tokens.items c.keep.new.tokens.items c.in_ok-token.token c.loop-cursor.cursor
          kept c.loop-cursor.invariant.rest had.place c.loop-cursor.invariant.placed;
    }

pub loop-cursor-smaller : goal.loop-cursor-smaller
loop-cursor-smaller c =
    let some : 0 < length c.loop-cursor.cursor.bytes = grind (arith, nat_tests) in
    let had = c.in_ok-token.ensures in
    shorter c.loop-cursor.cursor c.next.new.self _ had.rest (some_size _ _ some had.token) had.within

pub returns-in_err-token-clause-refused : goal.returns-in_err-token-clause-refused
returns-in_err-token-clause-refused c =
    let some : 0 < length c.loop-cursor.cursor.bytes = grind (arith, nat_tests) in
    let had = c.in_err-token.ensures in
    let fact : tokens_of c.args.source.now ≡ Err c.in_err-token.field-0.0 =
    refuses c.args.source.now c.loop-cursor.tokens.items c.loop-cursor.cursor c.in_err-token.field-0.0 c.loop-cursor.invariant.few some had.token had.place
    c.loop-cursor.invariant.so_far in
    search rules

pub returns-clause-tokens : goal.returns-clause-tokens
returns-clause-tokens c =
    let none : length c.loop-cursor.cursor.bytes ≡ 0 = grind (arith, nat_tests) in
    ends c.args.source.now c.loop-cursor.tokens.items c.loop-cursor.cursor none c.loop-cursor.invariant.so_far
    ∙ ap (λ (p : Place). Ok (map placed_of c.loop-cursor.tokens.items, p)) (sym c.place-end.ensures)
