-- What an abort makes of a request of the table.
use Rattle.std.specs.Prelude.{negsuc, cond, Option, Some, None}
use Rattle.std.specs.Ordering.{int_eq}
use Rattle.aom_scheduler.specs.Requests.{pending}
use Rattle.aom_scheduler.specs.declared.request.RequestState.TheVariants.{Aborted as Machine_aborted}
use Rattle.aom_scheduler.specs.declared.request.Request.{Request as Machine_request}
use Rattle.aom_scheduler.specs.declared.request.Request.TheVariants.{Object as Machine_object, Server as Machine_server}

-- an aborted request, completed as cancelled if it was pending
abbrev pub aborted_request : Option Machine_request → Option Machine_request
aborted_request None = None
aborted_request (Some (Machine_object state status)) = Some (Machine_object Machine_aborted (cond (int_eq status pending) (negsuc 2) status))
aborted_request (Some (Machine_server has_signal)) = Some (Machine_server has_signal)
