-- The line is that of the run as it is, which is the first that is counted.
use Rattle.std.proofs.Common.{◌<◌, ◌^◌, ◌-◌, ◌+◌, ◌∙◌, ℕ, ap, arith, cond, subst, sym}
use Rattle.aom_fault_injection.specs.Expected.{is_unexpected}
use Rattle.aom_fault_injection.specs.OutcomeTables.{OutcomeCounts, counted}
use Rattle.aom_commands.proofs.Untelling.{says_same}
use Rattle.aom_commands.proofs.exploring.tell_base.Goals as goal

pub count-requires-clause-many : goal.count-requires-clause-many
count-requires-clause-many g c =
    let room : 0 < 2 ^ 64 - 1 = omega arith in
    subst (λ (t : OutcomeCounts). t.tries < 2 ^ 64 - 1) (sym c.new-told.ensures.counts) room

pub count-requires-clause-few : goal.count-requires-clause-few
count-requires-clause-few g c = omega (arith, c.new-told.ensures.unexpected)

pub returns-clause-says : goal.returns-clause-says
returns-clause-says g c = says_same c.as_slice.result.now _ _ (c.as_slice.ensures.value ∙ c.in_ok-line.ensures)
    (record { count = c.write_text.ensures.prefix.0; part = c.write_text.ensures.prefix.2; whole = c.write_text.ensures.whole })

pub returns-clause-counts : goal.returns-clause-counts
returns-clause-counts g c = c.count.ensures.counts ∙ ap (λ (t : OutcomeCounts). counted t c.args.plain.ending) c.new-told.ensures.counts

pub returns-clause-unexpected : goal.returns-clause-unexpected
returns-clause-unexpected g c = c.count.ensures.unexpected
    ∙ ap (λ (n : ℕ). n + cond (is_unexpected c.args.expected.now c.args.plain.ending c.args.plain.cells) 1 0) c.new-told.ensures.unexpected
