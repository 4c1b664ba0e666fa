-- Who is a living owner in closed states: by computation, and two cells that own each other by following owners.
use Rattle.std.proofs.lemmas.Bool.Decides.{nat_tests}
use Rattle.std.proofs.Common.{List, Some, [], arith, false, inl, inr, refl, true, ◌∷◌, ◌≡◌}
use Rattle.std.specs.Prelude.{◌⊎◌}
use Rattle.aom_image.specs.Views.{class_at, fields_in}
use Rattle.aom_roles.specs.Families.{descends_in, parent_in}
use Rattle.aom_semantics.proofs.Maps.{same_place-true}
use Rattle.aom_semantics.specs.Cases.Building.{a_cell, keeper, pair, state_of}
use Rattle.aom_semantics.specs.Cases.Owners.{OwnerNeedsFail, caught_tasks}
use Rattle.aom_semantics.specs.Owned.{Ends, at_entry, at_register, at_root, at_service, by_cell, by_server}
use Rattle.aom_semantics.specs.Places.{Cell, Elsewhere, Field, Object, Place, Root, held, named}
use Rattle.aom_semantics.specs.State.{A_mark, State}

abbrev first : Object
first = record { name = 1; thing = pair }

abbrev second : Object
second = record { name = 2; thing = pair }

abbrev two_cells : List Cell
two_cells = a_cell 1 pair (Field 2 0) ∷ a_cell 2 pair (Field 1 0) ∷ []

abbrev two_round : State
two_round = state_of caught_tasks two_cells (A_mark ∷ [])

-- the two places that hold them
abbrev IsOfThem : Place → Type 0
IsOfThem q = (q ≡ Field 1 0) ⊎ (q ≡ Field 2 0)

held_by_them : (q : Place) (o : Object) → held two_cells q ≡ Some o → IsOfThem q
held_by_them q o e = grind (arith, nat_tests, same_place-true (Field 2 0) q, same_place-true (Field 1 0) q)

no_end : (q : Place) → Ends two_round q → IsOfThem q → ⊥
no_end _ (at_register {f = f} {i = i}) h = elim h [ inl e ↦ cc | inr e ↦ cc ]
no_end _ (at_entry {k = k}) h = elim h [ inl e ↦ cc | inr e ↦ cc ]
no_end _ at_root h = elim h [ inl e ↦ cc | inr e ↦ cc ]
no_end _ at_service h = elim h [ inl e ↦ cc | inr e ↦ cc ]
no_end _ (by_cell o q named there ends) h = no_end q ends (held_by_them q o there)
no_end _ (by_server o q other named there ends) h = no_end q ends (held_by_them q o there)

-- the server, and its session at each stage
abbrev server : Object
server = record { name = 5; thing = keeper }

-- the pair that the root owns
abbrev of_pair : Object
of_pair = record { name = 5; thing = pair }

pub owner_needs_fail : OwnerNeedsFail
unfolding class_at fields_in descends_in parent_in
owner_needs_fail = record {
  register = record { each = (((tt, omega arith), at_register), ((refl, at_root), tt)); alone = (refl, refl, (refl, refl, tt)); settled = tt };
  item = record { each = ((tt, at_entry), ((refl, at_root), tt)); alone = (refl, refl, (refl, refl, tt)); settled = tt };
  field = record { each = (((of_pair, refl, refl), by_cell of_pair (Elsewhere Root) refl refl at_root), ((refl, at_root), tt)); alone = (refl, refl, (refl, refl, tt)); settled = tt };
  root = record { each = ((refl, at_root), tt); alone = (refl, refl, tt); settled = tt };
  dead_frame = λ h. h.each.0.0.0;
  trap = λ h. h.each.0.0.0;
  dispatch = λ h. h.each.0.0.0;
  no_frame = λ h. h.each.0.0.0;
  ended = λ h. h.each.0.0.0;
  past_registers = λ h. let fits = h.each.0.0.1 in omega arith;
  mark = λ h. h.each.0.0;
  operation = λ h. h.each.0.0;
  no_item = λ h. h.each.0.0;
  past_fields = grind (arith, nat_tests);
  gone = λ h. let there = h.each.0.0.1 in cc;
  no_root = λ h. let has = h.each.0.0 in cc;
  of_session = record { each = ((((server, refl, refl), by_server server (Elsewhere Root) refl refl refl at_root)), ((refl, at_root), tt)); alone = (refl, refl, (refl, refl, tt)); settled = tt };
  in_queue = record { each = ((((server, refl, refl), by_server server (Elsewhere Root) refl refl refl at_root)), ((refl, at_root), tt)); alone = (refl, refl, (refl, refl, tt)); settled = tt };
  served = record {
    each = ((refl, at_service), (((server, refl, refl), by_server server (Elsewhere Root) refl refl refl at_root), ((refl, at_root), tt)));
    alone = (refl, refl, (refl, refl, (refl, refl, tt)));
    settled = tt;
  };
  left = record {
    each = ((refl, at_service), (((server, refl, refl), by_server server (Elsewhere Root) refl refl refl at_root), ((refl, at_root), tt)));
    alone = (refl, refl, (refl, refl, (refl, refl, tt)));
    settled = tt;
  };
  unlisted = λ h. let has : false ≡ true = h.each.0.0.2 in cc;
  not_queued = λ h. let has : false ≡ true = h.each.0.0.2 in cc;
  of_none = λ h. let there = h.each.0.0.1 in cc;
  queue_of_none = λ h. let there = h.each.0.0.1 in cc;
  accepting = λ h. let has : false ≡ true = h.each.0.0 in cc;
  parting = λ h. let has : false ≡ true = h.each.0.0 in cc;
  all_served = λ h. h.each.0.0;
  session = λ h. let has = h.each.0.0.2 in cc;
  service = λ h. h.each.0.0;
  queue = λ h. let has = h.each.0.0.2 in cc;
  going = λ h. h.settled;
  destruction = λ h. h.settled;
  closing = λ h. h.settled;
  side_by_side = record {
    each = (((of_pair, refl, refl), by_cell of_pair (Elsewhere Root) refl refl at_root), (((of_pair, refl, refl), by_cell of_pair (Elsewhere Root) refl refl at_root), ((refl, at_root), tt)));
    alone = (refl, refl, (refl, refl, (refl, refl, tt)));
    settled = tt;
  };
  together = λ h. let apart = h.alone.0 in cc;
  at_the_root = λ h. let apart = h.alone.0 in cc;
  namesakes = λ h. let other = h.alone.1 in cc;
  round = λ h. no_end (Field 2 0) h.each.0.1 (inr refl);
}
