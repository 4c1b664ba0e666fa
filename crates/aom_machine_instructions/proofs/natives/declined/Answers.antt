-- What was heard is a word, as it is read.
use Rattle.std.proofs.Common.{rules, ◌≡◌, ◌∙◌, FitsSigned, None, Some, ap, sym, to_z, of_z}
use Rattle.std.specs.Int.{w32}
use Rattle.std.proofs.lemmas.Int.{int_wrap_fits}
use Rattle.aom_machine_instructions.specs.Natives.{begins_with}
use Rattle.aom_cells.specs.Sessions.{is_killed, is_open}
use Rattle.aom_semantics.specs.Natives.{started}
use Rattle.aom_machine_instructions.proofs.natives.declined.Goals as goal

pub returns-else-parts-lt0 : goal.returns-else-parts-lt0
returns-else-parts-lt0 c =
    let observed = c.args.parts.now.observed in
    let fits : FitsSigned w32 observed = search rules in
    let reported : begins_with None ≡ started (is_killed c.args.parts.now.sessions c.args.native) (is_open c.args.parts.now.sessions c.args.id) observed = search rules in
    reported ∙ ap (started (is_killed c.args.parts.now.sessions c.args.native) (is_open c.args.parts.now.sessions c.args.id)) (sym (int_wrap_fits w32 observed fits))

pub returns-then-not-is_open : goal.returns-then-not-is_open
returns-then-not-is_open c = search rules

pub returns-then-parts-lt0 : goal.returns-then-parts-lt0
returns-then-parts-lt0 c =
    let observed = c.args.parts.now.observed in
    let fits : FitsSigned w32 observed = search rules in
    let reported : begins_with (Some (to_z w32 (of_z w32 observed))) ≡ started (is_killed c.args.parts.now.sessions c.args.native)
    (is_open c.args.parts.now.sessions c.args.id) observed = search rules in
    reported ∙ ap (started (is_killed c.args.parts.now.sessions c.args.native) (is_open c.args.parts.now.sessions c.args.id)) (sym (int_wrap_fits w32 observed fits))
