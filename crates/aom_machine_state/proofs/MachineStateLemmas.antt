-- The lemmas that other crates cite; what else stands in these proofs is the crate's own.
pub use Rattle.aom_machine_state.proofs.Values.{at_depth, cases, destroys_value, destroys_word, going_past, kept, moves, none_alike, register_past, same_length}
pub use Rattle.aom_machine_state.proofs.Values.{slot_set, value_counted, value_here, value_kept, value_written, word_counted, word_next, word_past}
pub use Rattle.aom_machine_state.proofs.Values.{word_written, writes}
pub use Rattle.aom_machine_state.proofs.Entries.{and_true, below_same, entry_number, entry_past, mark_shows_none, owns_none, same_items_length, top_value}
pub use Rattle.aom_machine_state.proofs.Entries.{unmarked, value_alike, value_popped, value_pushed}
pub use Rattle.aom_machine_state.proofs.Overs.{held_over, higher, over_deep, over_register, over_value, over_word, over_words, tasks_over}
pub use Rattle.aom_machine_state.proofs.CellWords.{all_same, zeros_at}
pub use Rattle.aom_machine_state.proofs.Asking.{cells_asked, requests_alike, requests_gone, requests_kept, requests_made, requests_moved, requests_passed}
pub use Rattle.aom_machine_state.proofs.Asking.{requests_stored, requests_slot_released}
pub use Rattle.aom_machine_state.proofs.Sessions.{cells_session_updated, natives_asked, natives_gone, natives_made, natives_moved, natives_passed}
pub use Rattle.aom_machine_state.proofs.Sessions.{natives_request_updated, natives_set, natives_stored}
pub use Rattle.aom_machine_state.proofs.Cells.{cell_small, cells_moved, cells_without, class_reported, is_an_object, unowned}
pub use Rattle.aom_machine_state.proofs.CellFields.{cell_of, cells_put, cells_stored, field_written, root_written, served_written, word_put_elsewhere}
pub use Rattle.aom_machine_state.proofs.Depths.{AllLow, Roomy, SameBelow, begins, closing_begins, dropped, going_begins, going_ends, held_apart, item_pushed}
pub use Rattle.aom_machine_state.proofs.Depths.{lower, off_to_trap, on_again, popped, popped_top, recelled, top_under}
pub use Rattle.aom_machine_state.proofs.Heights.{LowUnder, Stands_here, low_unwinding, own_entries, stands_here}
pub use Rattle.aom_machine_state.proofs.Alike.{A_catcher, A_caught_leave, A_going, A_last_leave, A_last_trap, A_leave, A_method, A_trap, Alike, Alike_items}
pub use Rattle.aom_machine_state.proofs.Alike.{An_end, Entries_alike, TopMatches, alike, both_close, both_end, both_go, both_marks, both_objects, both_run}
pub use Rattle.aom_machine_state.proofs.Alike.{both_trapped, both_unwind, by_item, by_items, by_task, by_tasks, catcher_on_top, caught_leave_on_top, end_on_top}
pub use Rattle.aom_machine_state.proofs.Alike.{entries_alike, entries_own, entries_run, going_on_top, items_alike, last_leave_on_top, last_trap_on_top}
pub use Rattle.aom_machine_state.proofs.Alike.{leave_on_top, method_on_top, same_below, some_members, top_matches, trap_on_top}
pub use Rattle.aom_machine_state.proofs.SlotReleased.{cells_slot_released, natives_slot_released}
pub use Rattle.aom_machine_state.proofs.Messages.{many_without, message_made, messages_as, messages_asked, messages_in, messages_moved, messages_served}
pub use Rattle.aom_machine_state.proofs.Messages.{messages_slot_released, messages_without}
pub use Rattle.aom_machine_state.proofs.Serving.{at_set, front_false, same_opened, taken_sent}
pub use Rattle.aom_machine_state.proofs.Withdrawing.{AllWait}
pub use Rattle.aom_machine_state.proofs.Listing.{first_asked, listed_alike, listed_gone, listed_last}
pub use Rattle.aom_machine_state.proofs.Departing.{at_set_or, is_at}
pub use Rattle.aom_machine_state.proofs.Reclaiming.{names_same}
pub use Rattle.aom_machine_state.proofs.Elsewhere.{SessionsSame, connect_left, entry_taken, message_taken, session_closed, session_opened, session_released}
pub use Rattle.aom_machine_state.proofs.Elsewhere.{shows_again}
pub use Rattle.aom_machine_state.proofs.Still.{same_still, still_detached, still_moved, still_opened, still_requested}
pub use Rattle.aom_machine_state.proofs.Premises.{connecting_below, connects_nowhere, leaving_below, messages_wait, open_below, queue_empty, waiting_there}
pub use Rattle.aom_machine_state.proofs.Tokens.{tokens_forgotten, tokens_still}
pub use Rattle.aom_machine_state.proofs.Services.{services_asked, services_ended, services_made, services_moved, services_passed, services_request_updated}
pub use Rattle.aom_machine_state.proofs.Services.{services_request_updated_with, services_session_updated, services_still, services_stored}
pub use Rattle.aom_machine_state.proofs.Servicing.{connecting_here, reserved_moved, same_attended, same_closed, same_gone, same_next, same_released}
pub use Rattle.aom_machine_state.proofs.Servicing.{same_unaccepted}
pub use Rattle.aom_machine_state.proofs.Sizing.{sized_close, sized_closed, sized_connect, sized_connected, sized_die, sized_gone, sized_next, sized_released}
pub use Rattle.aom_machine_state.proofs.Sizing.{sized_send}
pub use Rattle.aom_machine_state.proofs.Commanding.{connect_refused, found_server, row_close, row_die, same_close, same_connect, same_die, same_send}
pub use Rattle.aom_machine_state.proofs.Commanding.{send_refused}
pub use Rattle.aom_machine_state.proofs.Leaving.{among_places, beside_unqueued, beside_withdrawn, freed_kept, freed_once, holds_unqueued, holds_withdrawn}
pub use Rattle.aom_machine_state.proofs.Leaving.{messages_unqueued, messages_withdrawn, places_in, reported_unqueued, reported_withdrawn, waiting_kept, waiting_once}
pub use Rattle.aom_machine_state.proofs.Reporting.{completed_lines, gone_lines, message_reported, queue_reported}
pub use Rattle.aom_machine_state.proofs.Beside.{Beside, NamedBeside, beside_itself, beside_message, beside_served, beside_then, cells_beside, listed_beside}
pub use Rattle.aom_machine_state.proofs.Beside.{natives_beside, requests_beside}
pub use Rattle.aom_machine_state.proofs.Reported.{Reported_alike, tokens_beside, tokens_slot_released, tokens_without, reported_served}
pub use Rattle.aom_machine_state.proofs.Replying.{cells_completed, completion_reported, message_kept, message_sent, natives_completed, place_below, place_of}
pub use Rattle.aom_machine_state.proofs.Replying.{requests_completed, services_completed, reported_no_sender, was_taken}
pub use Rattle.aom_machine_state.proofs.Redeeming.{cells_answered, its_order, its_token, natives_answered, redeemed_left, requests_answered, services_answered}
pub use Rattle.aom_machine_state.proofs.Redeeming.{waits_here}
pub use Rattle.aom_machine_state.proofs.Handing.{cells_handed, natives_handed, requests_handed, services_handed, with_its_token}
pub use Rattle.aom_machine_state.proofs.Beginning.{first_client, first_queue, services_begin}
pub use Rattle.aom_machine_state.proofs.Owed.{held_owed, pending_reported, reported_alike}
