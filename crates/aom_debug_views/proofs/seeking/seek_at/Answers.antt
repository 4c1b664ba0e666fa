-- Of each series by its places.
use Rattle.aom_semantics.specs.Places.{Entry, Going}
use Rattle.aom_debug_views.specs.Owners.{In_entry, In_going}
use Rattle.aom_debug_views.proofs.Tasks.{entry_shows, going_shows}
use Rattle.aom_debug_views.proofs.seeking.seek_at.Goals as goal

pub returns-in-Frames : goal.returns-in-Frames
returns-in-Frames c = λ s st. rw c.in-Frames.is (c.seek_task.ensures s st)

pub returns-in-Entries : goal.returns-in-Entries
returns-in-Entries c = λ s st. rw c.in-Entries.is (c.seek_place.ensures c.args.checked.now (In_entry c.args.others) (Entry c.args.place) c.entry.ensures.text
    (entry_shows c.args.checked.now c.args.parts.now c.args.place _ c.item_number-number.ensures) s st)

pub returns-in-Goings : goal.returns-in-Goings
returns-in-Goings c = λ s st. rw c.in-Goings.is (c.seek_place-in-Goings.ensures c.args.checked.now (In_going c.args.others) (Going c.args.place) c.going.ensures.text
    (going_shows c.args.checked.now c.args.parts.now c.args.place _ c.going_number-number.ensures) s st)
