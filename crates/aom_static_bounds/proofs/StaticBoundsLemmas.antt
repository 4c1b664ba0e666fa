-- The lemmas that other crates cite; what else stands in these proofs is the crate's own.
pub use Rattle.aom_static_bounds.proofs.Among.{by_flow}
pub use Rattle.aom_static_bounds.proofs.Lines.{line_first, line_next, line_step}
pub use Rattle.aom_static_bounds.proofs.Maxima.{below_related, most_has, most_least, run_has, run_related}
pub use Rattle.aom_static_bounds.proofs.Alone.{line_alone}
pub use Rattle.aom_static_bounds.proofs.Listed.{among_either, among_right, below_from, below_lists, cancel_among, gone_with, kept_in_line, run_among, runs_among}
pub use Rattle.aom_static_bounds.proofs.Listed.{stands_among}
pub use Rattle.aom_static_bounds.proofs.Paid.{call_paid, cancel_paid}
pub use Rattle.aom_static_bounds.proofs.Regions.{BeginsLoop, EndsRound, LoopIn, NextIn, by_kind, ends_before, goes_so, innermost_of_body, nested, next_is_no_loop}
pub use Rattle.aom_static_bounds.proofs.Regions.{no_loop_here, no_next_here, not_both_in, instr_as, one_end, one_innermost, same_back, same_rounds, stands_as, stands_so}
pub use Rattle.aom_static_bounds.proofs.At.{IsSweptAt, at_each, from_each}
pub use Rattle.aom_static_bounds.proofs.Adding.{goes_forward, jumps_forward}
pub use Rattle.aom_static_bounds.proofs.Going.{all_related, found_of, going_alike, going_same, max_same}
pub use Rattle.aom_static_bounds.proofs.Places.{nothing_there}
pub use Rattle.aom_static_bounds.proofs.Methods.{destructs_within}
pub use Rattle.aom_static_bounds.proofs.Capped.{alike_times}
pub use Rattle.aom_static_bounds.proofs.Capping.{law_up_to}
pub use Rattle.aom_static_bounds.proofs.Unique.{law_one}
pub use Rattle.aom_static_bounds.proofs.Alike.{IsCovered, kind_is, prices_alike}
pub use Rattle.aom_static_bounds.proofs.Typings.{AreFirst, first_more, has_states, has_typing, image_strongest, method_typed, method_within, none_first}
pub use Rattle.aom_static_bounds.proofs.Typings.{within_method}
pub use Rattle.aom_static_bounds.proofs.Within.{all_high, all_within, caller, standing}
