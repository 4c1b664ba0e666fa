-- The note begins as a comment, and has no line feed.
use Rattle.std.proofs.Common.{◌≡◌, ◌≢◌, ◌++◌, All, List, ℕ, codes}
use Rattle.aom_source_commands.proofs.notes.comment.Given as goal

abbrev pub invariant-loop-byte : goal.invariant-loop-byte
invariant-loop-byte l = record {
  begins : (words : List ℕ) × (l.note.items ≡ codes "  // " ++ words);
  one_line : All (λ b. b ≢ 10) l.note.items;
}
