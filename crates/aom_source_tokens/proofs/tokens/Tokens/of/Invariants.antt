use Rattle.std.proofs.Common.{◌≡◌, ◌≤◌, ◌+◌, ◌-◌, length, map}
use Rattle.std.specs.Prelude.{All}
use Rattle.aom_source_tokens.specs.Places.{IsPlaceIn}
use Rattle.aom_source_tokens.specs.Tokens.{before, tokens_from, tokens_of, placed_of}
use Rattle.aom_source_tokens.proofs.Reading.{IsRestOf}
use Rattle.aom_source_tokens.proofs.tokens.Tokens.of.Given as goal

abbrev pub invariant-loop-cursor : goal.invariant-loop-cursor
invariant-loop-cursor l = record {
  rest : IsRestOf l.fn.source l.cursor;
  so_far : tokens_of l.fn.source ≡ before (map placed_of l.tokens.items) (tokens_from (length l.fn.source - length l.tokens.items) l.cursor);
  few : length l.tokens.items + length l.cursor.bytes ≤ length l.fn.source;
  small : length l.fn.source ≤ 1048576;
  placed : All (λ x. IsPlaceIn l.fn.source x.place) l.tokens.items;
}

abbrev pub decreases-loop-cursor : goal.decreases-loop-cursor
decreases-loop-cursor l = length l.cursor.bytes
