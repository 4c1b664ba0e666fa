use Rattle.std.proofs.Common.{ap, refl, subst, ◌∙◌, ◌≡◌}
use Rattle.aom_image.specs.WellFormed.{WellFormed}
use Rattle.aom_machine_state.proofs.parts.Parts.boot.Goals as goal

pub returns : goal.returns
returns c =
    let head : c.header-header.result.now ≡ c.args.linked.now.header = c.header-header.ensures.value ∙ ap (λ i. i.header) c.image.ensures in
    record {
      formed = subst WellFormed c.image.ensures c.header-header.ensures.well_formed;
      main = c.main.result;
      is_main = c.main.ensures;
      tasks = c.in_ok-course.ensures.tasks;
      depth = c.in_ok-course.ensures.depth;
      cells = rw (c.in_ok-objects.ensures.cells, head) refl;
      entries = c.in_ok-course.ensures.entries;
      requests = c.in_ok-objects.ensures.requests;
      numbers = rw (c.in_ok-objects.ensures.numbers, head) refl;
      sessions = rw (c.in_ok-objects.ensures.sessions, head) refl;
      root = refl;
      clients = rw (c.in_ok-services.ensures.clients, head) refl;
      messages = rw (c.in_ok-services.ensures.messages, head) refl;
      tokens = rw (c.in_ok-services.ensures.tokens, head) refl;
      served = refl;
      listed = rw (c.in_ok-services.ensures.listed, head) refl;
      rest = c.new.ensures;
    }
