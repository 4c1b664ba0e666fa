use Rattle.std.specs.Prelude.{is_some}
use Rattle.std.proofs.Common.{ap, arith, rules, Bool, None, Option, [], refl, replicate, subst, sym, ℕ, ◌≡◌}
use Rattle.std.proofs.lemmas.Grind.{common_steps}
use Rattle.aom_scheduler.specs.Requests.{request_at}
use Rattle.aom_active_objects.specs.Agrees.{IsWhole, RefinesRequests, RequestAgrees, may_stand}
use Rattle.aom_active_objects.proofs.active.ActiveObjects.with_limit.Goals as goal

-- where nobody is enlisted, no number has a request
none_at : (limit n : ℕ) → request_at (record { slots = replicate limit None; limit = limit }) n ≡ None
none_at limit n = grind (arith, common_steps)

none_enlisted_yet : (limit : ℕ) (queues : ℕ → Option Bool) → RefinesRequests (record {
  table = record { slots = replicate limit None; limit = limit };
  priority_list = record { entries = []; limit = limit };
  pending = record { timers = []; limit = limit };
}) (λ n. None) queues
none_enlisted_yet limit queues = record { reports = λ n. subst (λ h. RequestAgrees h None (queues n)) (sym (none_at limit n)) tt; priorities = search rules; order = search rules; due_times = λ n. refl; sooner = search rules }

nothing_kept : (limit : ℕ) → IsWhole (record {
  table = record { slots = replicate limit None; limit = limit };
  priority_list = record { entries = []; limit = limit };
  pending = record { timers = []; limit = limit };
})
nothing_kept limit = record {
  places = refl;
  due_times = refl;
  requests = λ n. ap may_stand (none_at limit n);
  enlisted = λ n. sym (ap is_some (none_at limit n));
  marks = search rules;
  waits = search rules;
}

pub returns-clause-stands : goal.returns-clause-stands
returns-clause-stands c = λ queues. rw (c.in_ok-with_limit.ensures, c.in_ok-with_limit-2.ensures, c.in_ok-with_limit-3.ensures) (none_enlisted_yet c.args.limit queues)

pub invariant_of-result : goal.invariant_of-result
invariant_of-result c = rw (c.in_ok-with_limit.ensures, c.in_ok-with_limit-2.ensures, c.in_ok-with_limit-3.ensures) (nothing_kept c.args.limit)
