-- The kind of a class by the states in which its objects may be while nothing works on them.
use Rattle.std.proofs.Common.{◌≡◌, Option, arith}
use Rattle.aom_image.specs.Views.{has}
use Rattle.aom_image.specs.declared.class.ClassKind.{ClassKind}
use Rattle.aom_roles.specs.Kinds.{is_active_kind, is_listed_kind}
use Rattle.aom_roles.specs.States.{active, idle, states_of}

-- an object that may rest while its request is active is an active object
pub active_kind_rests : (k : Option ClassKind) → has (states_of k) active ≡ is_active_kind k
unfolding states_of
active_kind_rests k = grind arith

-- one that may rest idle is enlisted
pub listed_kind_rests : (k : Option ClassKind) → has (states_of k) idle ≡ is_listed_kind k
unfolding states_of
listed_kind_rests k = grind arith
