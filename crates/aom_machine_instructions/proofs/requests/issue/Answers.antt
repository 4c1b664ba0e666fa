use Rattle.std.proofs.Common.{rules, FitsSigned}
use Rattle.std.specs.Int.{w32}
use Rattle.std.proofs.lemmas.Int.{to_z-of_z}
use Rattle.aom_machine_instructions.proofs.RequestActs.{issue_does, issue_idle, issue_lives, issue_provided}
use Rattle.aom_machine_instructions.proofs.requests.issue.Goals as goal

pub cell-id-requires-clause-lives : goal.cell-id-requires-clause-lives
cell-id-requires-clause-lives c = issue_lives c.args.linked.now c.args.parts.now c.args.from c.requires.0 c.requires.1

pub provider-provider-requires-clause-active : goal.provider-provider-requires-clause-active
provider-provider-requires-clause-active c = issue_provided c.args.linked.now c.args.parts.now c.args.from c.requires.0 c.requires.1

pub make_request-requires : goal.make_request-requires
make_request-requires c = record { idle = rw c.cell-id.ensures (issue_idle c.args.linked.now c.args.parts.now c.args.from c.requires.0 c.requires.1) }

pub returns : goal.returns
returns c = λ refused other.
    let fits : FitsSigned w32 c.word-word.result = search rules in
    let made = rw (c.cell-id.ensures, to_z-of_z w32 c.word-word.result fits, c.word-word.ensures) at c.make_request.ensures.made in
    rw (c.next.ensures, c.make_request.ensures.rest) (issue_does c.args.linked.now
    c.args.parts.now refused c.make_request.new.parts.active c.provider-provider.result c.args.from other c.provider-provider.ensures made)

pub next-requires-clause-runs : goal.next-requires-clause-runs
next-requires-clause-runs c = rw c.make_request.ensures.rest c.requires.1.runs

pub next-requires-clause-within : goal.next-requires-clause-within
next-requires-clause-within c = rw c.make_request.ensures.rest c.requires.1.within
