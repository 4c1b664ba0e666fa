-- The lemmas that other crates cite; what else stands in these proofs is the crate's own.
pub use Rattle.aom_machine_instructions.proofs.OnTop.{closes_on_top, code_on_top, ending_of, ends_on_top, goes_on_top, leaves_on_top, number_on_top, runs_on}
pub use Rattle.aom_machine_instructions.proofs.OnTop.{trap_on}
pub use Rattle.aom_machine_instructions.proofs.Running.{Aside, an_open, begun_frame, begun_registers, lives_below, no_thing, no_word, not_null, nothing_held}
pub use Rattle.aom_machine_instructions.proofs.Running.{null_unnamed, object_class, object_lives_at, object_small, object_there}
pub use Rattle.aom_machine_instructions.proofs.WordActs.{binary_does, compare_jumps, compare_passes, const_does, copy_does, jump_does, word_read}
pub use Rattle.aom_machine_instructions.proofs.LoopActs.{loop_does, next_again, next_ends}
pub use Rattle.aom_machine_instructions.proofs.FieldActs.{receiver_held, inside_number, inside_object, inside_there, this_is}
pub use Rattle.aom_machine_instructions.proofs.RequestActs.{kind_found, kind_same}
pub use Rattle.aom_machine_instructions.proofs.CallActs.{shows_null}
pub use Rattle.aom_machine_instructions.proofs.GoneActs.{can_reclaim}
pub use Rattle.aom_machine_instructions.proofs.GoingActs.{begins, by_going, destructor_same, dying_shows, fresh_value, fresh_word, going_object, number_of}
pub use Rattle.aom_machine_instructions.proofs.GoingActs.{server_same, thing_is}
pub use Rattle.aom_machine_instructions.proofs.Stepping.{advances, agrees_rest, announced, announced_stands, at_step, cell_found, cell_moves, frame_of}
pub use Rattle.aom_machine_instructions.proofs.Stepping.{going_of, instr_moves, met, room_rest, step_of_instr, stepping, typed_rest, within_rest}
pub use Rattle.aom_machine_instructions.proofs.ReceiverHolding.{finds_receiver}
pub use Rattle.aom_machine_instructions.proofs.RoomMoves.{dispatches_with_room, none_formed}
pub use Rattle.aom_machine_instructions.proofs.Rooms.{boot_room, has_room, room_kept}
pub use Rattle.aom_machine_instructions.proofs.Ends.{at_end, which}
pub use Rattle.aom_machine_instructions.proofs.Finding.{cell_lives, class_fits, finds_instr, going_within, length_in, not_trapped, object_lives, root_lives}
pub use Rattle.aom_machine_instructions.proofs.Finding.{runs_within, within_code}
pub use Rattle.aom_machine_instructions.proofs.Firsts.{ClosesOver, closing_found, found_session, its_session, no_session, session_lives}
