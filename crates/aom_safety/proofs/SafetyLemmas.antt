-- The lemmas that other crates cite; what else stands in these proofs is the crate's own.
pub use Rattle.aom_safety.proofs.Owned.{entry_object, object_for, root_cell, root_object, session_object}
pub use Rattle.aom_safety.proofs.Counts.{count_asked, count_detached, count_moved, count_opened, count_stored, count_without, counted_by, counted_in}
pub use Rattle.aom_safety.proofs.Counts.{counted_without}
pub use Rattle.aom_safety.proofs.Services.{held_served, named_served, requested_served, service_asked, service_here, service_moved, service_stored}
pub use Rattle.aom_safety.proofs.Services.{service_there, service_unnamed, service_without, sits_lives}
pub use Rattle.aom_safety.proofs.FilteredCells.{a_cell_of, cell_in, cell_in_filtered_cells, cell_lives, cell_name, cell_of, cell_of_filtered_cells, cell_owner, cell_placed, held_cell}
pub use Rattle.aom_safety.proofs.FilteredCells.{kept, named_cell, named_filtered_cells, object_in, request_in, requested_cell, service_cell, service_in, filtered_cells, tidy_filtered_cells}
pub use Rattle.aom_safety.proofs.FilteredCells.{unqueued_so, slot_released_so, withdrawn_so}
pub use Rattle.aom_safety.proofs.Queues.{client_here, client_there, none_passes}
pub use Rattle.aom_safety.proofs.OwnedPlaced.{owned_objects_first}
pub use Rattle.aom_safety.proofs.Sources.{from_some, has_sender}
pub use Rattle.aom_safety.proofs.ClientsFit.{IsFit, by_server, leaving_only}
pub use Rattle.aom_safety.proofs.ClientsAsk.{asked_there, listed_there}
pub use Rattle.aom_safety.proofs.ClientsLeave.{service_left}
pub use Rattle.aom_safety.proofs.ClientsGone.{goes_with, gone_so, open_server, queue_ended_at, sessions_ended_at}
pub use Rattle.aom_safety.proofs.ClientsCommand.{fit_commanded, nobody, none_named, server_there}
pub use Rattle.aom_safety.proofs.Dropping.{SameAtName, Went, dropped, each_name, held_dropped, place_dropped, queue_dropped, queued_claim, requested_unnamed}
pub use Rattle.aom_safety.proofs.Dropping.{tidy_dropped, waits_message}
pub use Rattle.aom_safety.proofs.SlotRelease.{each_slot_released_alike, each_slot_released_requests, service_slot_released}
pub use Rattle.aom_safety.proofs.Parting.{among_others, among_parted}
pub use Rattle.aom_safety.proofs.Emptied.{owns_nothing_by}
pub use Rattle.aom_safety.proofs.Emptying.{found_first}
pub use Rattle.aom_safety.proofs.Things.{message_plain, stands_message, stands_object}
pub use Rattle.aom_safety.proofs.Items.{length_forms}
pub use Rattle.aom_safety.proofs.Claimed.{claim_entry_above, claim_going_above, claim_register_above, claim_unnamed, length_objects}
pub use Rattle.aom_safety.proofs.Guarded.{goes_same, guarded_goes, guarded_met}
pub use Rattle.aom_safety.proofs.Exchanging.{HasWords, by_exchange, has_words, none_wanted}
pub use Rattle.aom_safety.proofs.Fitting.{straight_by}
pub use Rattle.aom_safety.proofs.Moving.{acted, steps_are_moves}
pub use Rattle.aom_safety.proofs.Turned.{Picked, Polled, accepts, answers, attends, commanded_kept, dispatched_so, handles, nothing, parts, picked, picked_rest}
pub use Rattle.aom_safety.proofs.Turned.{picked_so, polled_rest, polled_so, recorded_so}
pub use Rattle.aom_safety.proofs.Resting.{IsEnd, Takes, course_announced, course_ended, move_rest}
pub use Rattle.aom_safety.proofs.Counting.{dispatches_are_counted, move_steps, steps_are_counted}
pub use Rattle.aom_safety.proofs.ReceiverHolding.{receiver_conforms_field, stands_session_of}
pub use Rattle.aom_safety.proofs.Families.{family_kinds, linked_is_family}
pub use Rattle.aom_safety.proofs.Straight.{At, claim_field, claim_register, field_fits, fits_unowning, kind_fits, register_fits}
pub use Rattle.aom_safety.proofs.Jumps.{not_empty, not_full}
pub use Rattle.aom_safety.proofs.Storing.{Alike, detached_alike, ended_alike, held_set_word, named_set_word, requested_here, requested_set_word}
pub use Rattle.aom_safety.proofs.Storing.{requested_there, request_updated_alike, session_updated_alike, session_updated_requests, reset}
pub use Rattle.aom_safety.proofs.Sessions.{session_asked, session_moved, session_new, session_set_word, session_unnamed, session_without}
pub use Rattle.aom_safety.proofs.Requests.{active_listed, busy_in, free_in, issuing_active, listed_in, main_of_none, of_object, some_left, unlisted_in}
pub use Rattle.aom_safety.proofs.Destroying.{Untouched, destroys, destroys_by, eqb_comm, untouched}
pub use Rattle.aom_safety.proofs.Finishing.{all_parts, none_left, returnable}
pub use Rattle.aom_safety.proofs.Callees.{cancel_family, cancel_quiet, only_then}
pub use Rattle.aom_safety.proofs.Overriders.{body_leaves, body_quiet}
pub use Rattle.aom_safety.proofs.Dealing.{dealing}
pub use Rattle.aom_safety.proofs.Redeeming.{awaits_owed, redeemed_alike, redeemed_by_alike, redeemed_good, redeeming, requested_redeemed}
pub use Rattle.aom_safety.proofs.Apart.{awaited_redeemed, living_waits, redeems_none, redeems_one, reported_as_before, void_waits_none, waits_for}
pub use Rattle.aom_safety.proofs.Handing.{token_active}
pub use Rattle.aom_safety.proofs.Steps.{step_keeps}
pub use Rattle.aom_safety.proofs.Booting.{boot_keeps}
pub use Rattle.aom_safety.proofs.Owners.{at_session, declaring, field_thing_of, in_queue, kind_at, lower_rank, rank, session_lower}
pub use Rattle.aom_safety.proofs.Soundness.{over_idle, typed_is_sound}
pub use Rattle.aom_safety.proofs.Wiring.{linked_is_wired, linked_main_of_none}
pub use Rattle.aom_safety.proofs.Looping.{loops_keep}
pub use Rattle.aom_safety.proofs.Quiet.{quiet_preserved}
pub use Rattle.aom_safety.proofs.Clearing.{works_kept}
pub use Rattle.aom_safety.proofs.Caught.{arrives, deals}
pub use Rattle.aom_safety.proofs.Course.{WellKept, leaves_arrive, leaves_move, well_on}
pub use Rattle.aom_safety.proofs.View.{under_dispatch}
pub use Rattle.aom_safety.proofs.Standing.{boot, stays}
pub use Rattle.aom_safety.proofs.Trapping.{all_matched, traps_keep}
pub use Rattle.aom_safety.proofs.Layers.{closing_layer, dispatch_layer, going_layer, leave_layer, mark_layer, method_layer}
pub use Rattle.aom_safety.proofs.Signals.{at_rest, signals_are_ready}
pub use Rattle.aom_safety.proofs.Picking.{own_held}
pub use Rattle.aom_safety.proofs.Turning.{detached_well, completed, found, picked_well, turn_goes_on}
pub use Rattle.aom_safety.proofs.ClientsTurn.{IsFound, Same, first_sent, fit_moved, fit_same, fit_taken, on_none, same_detached, same_requested, tasks_begun}
pub use Rattle.aom_safety.proofs.ClientsTurn.{turning_found}
pub use Rattle.aom_safety.proofs.ClientsMoves.{IsSteady, Steady, fit_steady, held_elsewhere, steady_asked, steady_ended, steady_passed, steady_redeemed}
pub use Rattle.aom_safety.proofs.ClientsMoves.{steady_result, steady_update, tasks_steady}
pub use Rattle.aom_safety.proofs.ClientsEffects.{Fine, IsAnswer, IsCompleting, fine_effect}
pub use Rattle.aom_safety.proofs.ClientsFacts.{IsAt, ServerLives, dying_layers, queued_well, server_lives, serving_plain, waiting_message, waiting_well}
pub use Rattle.aom_safety.proofs.ClientsReturn.{without_so}
pub use Rattle.aom_safety.proofs.Orders.{NoneComes, apart_still, comes_asked, comes_detached, comes_moved, comes_served}
pub use Rattle.aom_safety.proofs.ClientsKeep.{clients_keep}
pub use Rattle.aom_safety.proofs.Executing.{commanded_well}
