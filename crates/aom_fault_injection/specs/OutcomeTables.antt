-- How many runs ended in each way, and what is told of it.
use Rattle.std.specs.Prelude.{ℕ, ◌+◌, List, [], ◌++◌, Option, Some, None, codes, decimal}
use Rattle.std.specs.List.{fold}
use Rattle.aom_transcript.specs.Text.{ended}
use Rattle.aom_transcript.specs.declared.line.Ending.{Ending}
use Rattle.aom_transcript.specs.declared.line.Ending.TheVariants.{Stopped, Waiting, MainLeft, Limit, Error}
use Rattle.aom_fault_injection.specs.Injections.{injection_text}
use Rattle.aom_fault_injection.specs.declared.injection.Injection.{Injection}

-- how many runs there were, and how many of them ended in each way
pub record OutcomeCounts : Type 0 where
  pub tries : ℕ
  pub stopped : ℕ
  pub waiting : ℕ
  pub left : ℕ
  pub limit : ℕ
  pub error : ℕ

abbrev pub nothing_counted : OutcomeCounts
nothing_counted = record { tries = 0; stopped = 0; waiting = 0; left = 0; limit = 0; error = 0 }

-- one run more, by how it ended
abbrev pub counted : OutcomeCounts → Ending → OutcomeCounts
counted t Stopped = record t { tries = t.tries + 1; stopped = t.stopped + 1 }
counted t Waiting = record t { tries = t.tries + 1; waiting = t.waiting + 1 }
counted t (MainLeft code) = record t { tries = t.tries + 1; left = t.left + 1 }
counted t Limit = record t { tries = t.tries + 1; limit = t.limit + 1 }
counted t (Error answer) = record t { tries = t.tries + 1; error = t.error + 1 }

-- runs that ended so
abbrev pub outcome_counts_of : List Ending → OutcomeCounts
outcome_counts_of endings = fold counted nothing_counted endings

-- the words for it
abbrev pub summary_text : OutcomeCounts → List ℕ
summary_text t =
    ended (codes "tries " ++ decimal t.tries ++ codes " stopped " ++ decimal t.stopped ++ codes " waiting " ++ decimal t.waiting
    ++ codes " left " ++ decimal t.left ++ codes " limit " ++ decimal t.limit ++ codes " error " ++ decimal t.error)

-- the first pair that was left out, if there is one
abbrev pub left_text : Option Injection → List ℕ
left_text None = []
left_text (Some injection) = ended (codes "untried from " ++ injection_text injection)

-- how many runs did not end as expected, where that was asked
abbrev pub unexpected_text : Option ℕ → List ℕ
unexpected_text None = []
unexpected_text (Some count) = ended (codes "unexpected " ++ decimal count)

-- the closing lines
abbrev pub closing_text : Option Injection → OutcomeCounts → (unexpected : Option ℕ) → List ℕ
closing_text left outcome_counts unexpected = left_text left ++ summary_text outcome_counts ++ unexpected_text unexpected
