-- Each case comes out as its table says: by computation.
use Rattle.std.proofs.Common.{refl, ℤ, pos, negsuc, arith}
use Rattle.std.proofs.lemmas.Int.{ints}
use Rattle.std.proofs.Math.Facts.{sfits_lit}
use Rattle.aom_image.specs.Views.{arguments_in, class_at, class_in, fields_in, gives_in, instr_in, method_at, role_in}
use Rattle.aom_roles.specs.Families.{descends_in, parent_in}
use Rattle.aom_roles.specs.Classes.{sessions_in, sessions_of, kind_in}
use Rattle.aom_roles.specs.Shapes.{is_role, kind_of}
use Rattle.aom_roles.specs.Things.{words_in}
use Rattle.aom_semantics.specs.Cases.Calls.{CallNeedsFail}
use Rattle.aom_semantics.specs.Cases.Cleanup.{CleanupNeedsFail}
use Rattle.aom_semantics.specs.Cases.Moves.{MoveNeedsFail}
use Rattle.aom_semantics.specs.Cases.Natives.{IsNoAnswer, NativeNeedsFail}
use Rattle.aom_semantics.specs.State.{FitsWord}
use Rattle.aom_semantics.specs.Cases.Objects.{ObjectNeedsFail}
use Rattle.aom_semantics.specs.Cases.Requests.{RequestNeedsFail}
use Rattle.aom_semantics.specs.Cases.Returns.{ReturnNeedsFail}
use Rattle.aom_semantics.specs.Cases.Servers.{ServerNeedsFail}
use Rattle.aom_semantics.specs.Cases.Tokens.{TokenNeedsFail}
use Rattle.aom_semantics.specs.Cases.Turns.{TurnNeedsFail}
use Rattle.aom_semantics.specs.Cases.Events.{EventNeedsFail}
use Rattle.aom_semantics.specs.Cases.Words.{WordNeedsFail}
use Rattle.aom_semantics.specs.Cases.Left.{MovesLeave}
use Rattle.aom_link_conditions.specs.Roles.{keeper_in, own_role, fills_role, role_number, role_of}

pub word_needs_fail : WordNeedsFail
unfolding class_at class_in gives_in instr_in method_at role_in words_in descends_in parent_in
word_needs_fail = record { words = refl; of_cells = refl; binary = refl; compared = refl }

pub object_needs_fail : ObjectNeedsFail
unfolding class_at fields_in gives_in instr_in method_at words_in role_in class_in descends_in parent_in
object_needs_fail = record { moves = refl; fields = refl; cells = refl }

pub call_needs_fail : CallNeedsFail
unfolding arguments_in class_at class_in fields_in gives_in instr_in method_at role_in descends_in parent_in
call_needs_fail = record {
  calls = record { this = refl; registers = refl; fields = refl; entries = refl; arguments = refl; results = refl };
  traps = record { this = refl; registers = refl; fields = refl; entries = refl; arguments = refl; results = refl };
  codes = refl;
}

pub return_needs_fail : ReturnNeedsFail
unfolding class_at class_in fields_in gives_in instr_in method_at role_in descends_in parent_in
return_needs_fail = record { given = refl; level = refl; left = refl; owners = refl; waiting = refl; hanging = refl; resting = refl }

pub cleanup_needs_fail : CleanupNeedsFail
unfolding class_at class_in fields_in gives_in instr_in method_at role_in words_in descends_in parent_in
cleanup_needs_fail = record { leaves = refl; leave = refl; leave_if = refl; news = refl; refused_new = refl; pushes = refl; operations = refl; pops = refl }

pub request_needs_fail : RequestNeedsFail
unfolding class_at gives_in instr_in kind_in kind_of method_at descends_in parent_in
request_needs_fail = record { reading = refl; enlisting = refl; issuing = refl; waiting = refl; cancelling = refl; aborting = refl }

pub token_needs_fail : TokenNeedsFail
unfolding class_at class_in gives_in instr_in kind_in kind_of method_at role_in descends_in parent_in
token_needs_fail = record { handing = refl; issuing = refl; replying = refl }

no_answer : (w : ℤ) → (FitsWord w → ⊥) → IsNoAnswer w
no_answer w none = (λ p refused name refuses s opened. none opened.answer, λ p s n cell well. none well.3)

pub native_needs_fail : NativeNeedsFail
unfolding class_at gives_in instr_in kind_in kind_of method_at descends_in parent_in
native_needs_fail = record {
  connects = refl;
  asks = refl;
  closes = refl;
  connected = (refl, (refl, (refl, (refl, (refl, (refl, tt))))));
  asked = (refl, (refl, (refl, (refl, (refl, tt)))));
  issued = (refl, (refl, (refl, (refl, (refl, (refl, tt))))));
  closed = (refl, (refl, (refl, tt)));
  words = (sfits_lit tt, sfits_lit tt);
  more = no_answer (pos 2147483648) (λ fits. grind (arith, ints, fits));
  less = no_answer (negsuc 2147483648) (λ fits. grind (arith, ints, fits));
}

pub move_needs_fail : MoveNeedsFail
unfolding is_role role_number kind_of sessions_in sessions_of class_at class_in fields_in gives_in instr_in method_at role_in descends_in parent_in
move_needs_fail = record { going = refl; unwinding = refl; arrival = refl; traps = refl; standing = refl }

pub server_needs_fail : ServerNeedsFail
unfolding is_role role_number role_of own_role keeper_in fills_role kind_of kind_in sessions_in sessions_of class_at class_in fields_in gives_in instr_in method_at
    role_in descends_in parent_in
server_needs_fail = record {
  taking = refl;
  replying = refl;
  returning = refl;
  ending = refl;
  closing = refl;
  signals = (refl, (refl, (refl, (refl, (refl, tt)))));
  counts = (refl, refl, (refl, refl, (refl, refl, tt)));
  picking = refl;
}

pub turn_needs_fail : TurnNeedsFail
turn_needs_fail = record {
  signals = (refl, (refl, (refl, (refl, (refl, (refl, (refl, (refl, tt))))))));
  counts = (refl, refl, (refl, refl, (refl, refl, (refl, refl, (refl, refl, (refl, refl, tt))))));
  picks = (refl, (refl, (refl, (refl, (refl, tt)))));
  timers = (refl, (refl, (refl, (refl, (refl, (refl, tt))))));
  stray = refl;
}

pub event_needs_fail : EventNeedsFail
unfolding class_at kind_in kind_of descends_in parent_in
event_needs_fail = record {
  events = (refl, (refl, (refl, (refl, (refl, (refl, (refl, (refl, tt))))))));
  polls = (refl, (refl, (refl, (refl, (refl, tt)))));
  times = (refl, (refl, (refl, (refl, tt))));
  kills = (refl, refl, (refl, refl, (refl, refl, (refl, refl, (refl, refl, (refl, refl, tt))))));
  completions = (refl, refl, (refl, refl, (refl, refl, (refl, refl, (refl, refl, (refl, refl, (refl, refl, (refl, refl, tt))))))));
}

pub moves_leave : MovesLeave
unfolding is_role role_number role_of own_role keeper_in fills_role kind_of kind_in sessions_in sessions_of class_at class_in fields_in gives_in instr_in method_at
    role_in words_in descends_in parent_in
moves_leave = record {
  boot = refl;
  popdel = (refl, refl);
  leave = (refl, refl);
  last_first = (refl, refl);
  queue = (refl, refl);
  service = (refl, refl);
  abort = refl;
  reply = refl;
  hand = refl;
}
