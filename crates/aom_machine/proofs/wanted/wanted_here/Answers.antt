use Rattle.std.proofs.Common.{ap, sym, ◌∙◌}
use Rattle.std.specs.Prelude.{option_map}
use Rattle.aom_active_objects.specs.Agrees.{queued}
use Rattle.aom_semantics.specs.Places.{requested}
use Rattle.aom_machine.specs.NativeCall.{as_wanted}
use Rattle.aom_machine.proofs.MachineInstructionsLemmas.{class_fits, finds_receiver, finds_instr}
use Rattle.aom_machine.proofs.Wanting.{null_wants, served_wants, unserved_wants}
use Rattle.aom_machine.proofs.wanted.wanted_here.Goals as goal

pub returns-then-number : goal.returns-then-number
returns-then-number c = λ s st. null_wants c.args.linked.now c.args.parts.now s st c.requires.runs (sym c.this-number.ensures ∙ c.if-number.true)

pub living-id-requires : goal.living-id-requires
living-id-requires c = rw c.this-number.ensures
    (finds_receiver c.args.linked.now c.args.parts.now c.requires.stands c.requires.runs (λ e. c.if-number.false (c.this-number.ensures ∙ e)))

pub serving-requires-clause-lives : goal.serving-requires-clause-lives
serving-requires-clause-lives c = rw c.this-number.ensures
    (finds_receiver c.args.linked.now c.args.parts.now c.requires.stands c.requires.runs (λ e. c.if-number.false (c.this-number.ensures ∙ e)))

pub serving-requires-clause-small : goal.serving-requires-clause-small
serving-requires-clause-small c = class_fits c.args.linked.now c.args.parts.now c.requires.stands.0 c.requires.stands.1.agrees _

pub fetch-requires-clause-there : goal.fetch-requires-clause-there
fetch-requires-clause-there c = finds_instr c.args.linked.now c.args.parts.now c.requires.stands c.requires.runs

pub returns-in-Some : goal.returns-in-Some
returns-in-Some c = λ s st.
    let serves = rw c.this-number.ensures at c.serving.ensures in
    let owed = rw (c.living-id.ensures.value, c.this-number.ensures) at c.is_pending-is_owed.ensures in
    let result = rw (c.living-id.ensures.value, c.this-number.ensures) at c.wanted_of.ensures in
    served_wants c.args.linked.now c.args.parts.now s st c.requires.runs c.in-Some.native c.is_pending-is_owed.result
    (owed (requested s.cells) (queued c.args.linked.now s.cells) st.agrees.requests.stands)
    (λ e. c.if-number.false (c.this-number.ensures ∙ e)) (serves ∙ c.in-Some.is) c.fetch.result.now c.fetch.ensures ∙ ap (option_map as_wanted) (sym result)

pub returns-in-None : goal.returns-in-None
returns-in-None c = λ s st.
    let serves = rw c.this-number.ensures at c.serving.ensures in
    unserved_wants c.args.linked.now c.args.parts.now s st c.requires.runs (serves ∙ c.in-None.is)
