-- Each series by what counts it.
use Rattle.aom_debug_views.proofs.series.Series.count_at.Goals as goal

pub returns-in-Frames-clause-value : goal.returns-in-Frames-clause-value
returns-in-Frames-clause-value c = λ p s st. rw c.in-Frames.is (c.frames_at.ensures.value p s st)

pub returns-in-Entries-clause-value : goal.returns-in-Entries-clause-value
returns-in-Entries-clause-value c = λ p s st. rw c.in-Entries.is (c.entries_at.ensures.value p s st)

pub returns-in-Goings-clause-value : goal.returns-in-Goings-clause-value
returns-in-Goings-clause-value c = λ p s st. rw c.in-Goings.is (c.goings_at.ensures.value p s st)
