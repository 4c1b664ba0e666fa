-- Each run with servers and clients comes out as its lines say: by computation.
use Rattle.std.proofs.Common.{refl}
use Rattle.aom_image.specs.Views.{arguments_in, class_at, class_in, fields_in, gives_in, instr_in, method_at, role_in}
use Rattle.aom_roles.specs.Families.{descends_in, parent_in}
use Rattle.aom_link_conditions.specs.Overriding.{body_of, found_in, leads_in, over_in, overrider_of, replaces}
use Rattle.aom_link_conditions.specs.Roles.{keeper_in, main_of, own_role, fills_role, role_number, role_of}
use Rattle.aom_roles.specs.Classes.{kind_in, sessions_in, sessions_of}
use Rattle.aom_roles.specs.Shapes.{is_role, kind_of}
use Rattle.aom_roles.specs.Things.{words_in}
use Rattle.aom_semantics.specs.Cases.Constructs.{ConstructsRun}
use Rattle.aom_semantics.specs.Cases.Families.{LinesRun, OverridersRun}
use Rattle.aom_semantics.specs.Cases.Further.{ServersRun}
use Rattle.aom_semantics.specs.Cases.Tokens.{TokensRun}

-- what a run computes with
shown : Unit {0}
unfolding arguments_in class_at class_in fields_in gives_in instr_in is_role kind_in kind_of main_of method_at fills_role role_in role_number role_of own_role
    keeper_in sessions_in sessions_of words_in descends_in parent_in body_of found_in overrider_of replaces over_in leads_in
shown = tt

pub servers_run : ServersRun
unfolding shown
servers_run = record {
  leaves = refl;
  slots = refl;
  refused = refl;
  closes = refl;
  stops = refl;
  dies = refl;
  lives = refl;
  completed = refl;
  untaken = refl;
  lost = refl;
  goes = refl;
  declined = refl;
  accepted = refl;
  places = refl;
  withdrawn = refl;
  deleted = refl;
  first = refl;
}

pub overriders_run : OverridersRun
unfolding shown
overriders_run = record { child = refl; near = refl; slots = refl; self = refl }

pub lines_run : LinesRun
unfolding shown
lines_run = record { past_a_gap = refl; emptied = refl; left = refl; parent = refl; above = refl; below = refl; active = refl; issued = refl }

pub constructs_run : ConstructsRun
unfolding shown
constructs_run = record { parent = refl; own = refl; filled = refl; again = refl }

pub tokens_run : TokensRun
unfolding shown
tokens_run = record { living = refl; full = refl; own = refl; elsewhere = refl; ancestor = refl; class = refl; class_still = refl }
