-- What the machine's table tells of requests that are outstanding: by the request that each stands for.
use Rattle.std.proofs.Common.{Bool, Option, Some, arith, false, not, sym, true, ◌&&◌, ◌∙◌, ◌≡◌}
use Rattle.std.specs.Ordering.{int_eq}
use Rattle.aom_active_objects.specs.Agrees.{RequestAgrees, phase_of}
use Rattle.aom_scheduler.specs.Requests.{is_pending}
use Rattle.aom_scheduler.specs.declared.request.Request.{Request as Machine_request}
use Rattle.aom_scheduler.specs.declared.request.Request.TheVariants.{Object as Machine_object}
use Rattle.aom_semantics.specs.Requests.{is_aborted, is_idle, is_unanswered, pending}
use Rattle.aom_semantics.specs.Natives.{is_owed}
use Rattle.aom_semantics.specs.Places.{Request}

-- what is outstanding, and what is aborted and has no code
pub held_owed : Option Machine_request → Bool
held_owed (Some (Machine_object x status)) = not (is_idle (phase_of x)) && int_eq status pending
held_owed _ = false

pub held_unanswered : Option Machine_request → Bool
held_unanswered (Some (Machine_object x status)) = is_aborted (phase_of x) && int_eq status pending
held_unanswered _ = false

-- the same is in each state that the machine stands for
pub reported_alike : (h : Option Machine_request) (q : Option Request) (waits : Option Bool) → RequestAgrees h q waits →
    (is_owed q ≡ held_owed h) × (is_unanswered q ≡ held_unanswered h)
unfolding held_owed held_unanswered
reported_alike x y waits reports = grind arith

-- a request that is outstanding is pending
pending_held : (h : Option Machine_request) → held_unanswered h ≡ false → held_owed h ≡ true → is_pending h ≡ true
unfolding held_owed held_unanswered
pending_held h coded owed = grind arith

pub pending_reported : (h : Option Machine_request) (q : Option Request) (waits : Option Bool) → RequestAgrees h q waits → is_unanswered q ≡ false →
    is_owed q ≡ true → is_pending h ≡ true
pending_reported h q waits reports coded owed = let same = reported_alike h q waits reports in pending_held h (sym same.1 ∙ coded) (sym same.0 ∙ owed)
