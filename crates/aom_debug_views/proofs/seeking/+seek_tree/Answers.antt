-- It is what is held there, or hangs from one of its fields, or from one of its sessions.
use Rattle.std.proofs.Common.{◌≡◌, ◌≢◌, ◌∙◌, ◌<◌, ◌-◌, ◌++◌, ◌∷◌, [], ℕ, Bool, true, false, IfSome, List, Option, None, Some, ap, append_assoc, arith, length, refl, subst, suc}
use Rattle.std.proofs.Common.{sym, take}
use Rattle.std.specs.List.{flat_map}
use Rattle.std.specs.Prelude.{is_some, option_map}
use Rattle.std.proofs.Math.Seq.{take-append_seam}
use Rattle.std.proofs.lemmas.Bool.{false≢true}
use Rattle.std.proofs.lemmas.Grind.{flat_map-append}
use Rattle.std.proofs.lemmas.List.{append-nil}
use Rattle.aom_debug_views.proofs.ClientsLemmas.{after-in, first-in, from, from-first, from-next}
use Rattle.aom_clients.specs.Clients.{client_after, sessions_at}
use Rattle.aom_clients.specs.Lists.{IsIn, IsOnce}
use Rattle.aom_cells.specs.Heap.{Lives, cell_at}
use Rattle.aom_image.specs.Image.{Image}
use Rattle.aom_link_conditions.specs.Roles.{or_else}
use Rattle.aom_machine_state.specs.declared.parts.Parts.{Parts}
use Rattle.aom_machine_state.specs.Stands.{Refines}
use Rattle.aom_semantics.specs.Places.{Elsewhere, Field, Place, Session, held}
use Rattle.aom_semantics.specs.State.{State}
use Rattle.aom_debug_views.specs.Owners.{By_field, By_session, Owned, Shows, Way, branch_text, further, tree, way_text}
use Rattle.aom_debug_views.specs.Reporting.{gathered}
use Rattle.aom_debug_views.specs.Seeking.{text_if, way_among}
use Rattle.aom_debug_views.proofs.Sought.{among_both, among_next, among_part, hangs_beneath, has_class, in_first, in_second, is_held, is_no_cell, no_class, not_there}
use Rattle.aom_debug_views.proofs.Sought.{text_among}
use Rattle.aom_debug_views.proofs.Trees.{below, beyond, field_shows, owned_objects_of, session_shows, way_further}
use Rattle.aom_debug_views.proofs.seeking.+seek_tree.Goals as goal

-- a way that was entered and cut again is as it was
back_again : (first way entered after now b : List ℕ) (n : ℕ) → now ≡ take n after → n ≡ length first → after ≡ entered → entered ≡ way ++ b →
    way ≡ first → now ≡ first
back_again first way entered after now b n cut long same text begun =
    cut ∙ ap (λ k. take k after) long ∙ ap (λ (t : List ℕ). take (length first) t) (same ∙ text ∙ ap (λ (t : List ℕ). t ++ b) begun) ∙ take-append_seam first b

one_behind : (done xs : List ℕ) (next : Option ℕ) (c : ℕ) → IsOnce xs → IsIn c xs → next ≡ Some c → done ++ from next xs ≡ xs →
    (done ++ c ∷ []) ++ from (client_after c xs) xs ≡ xs
one_behind done xs next c once inside is all = append_assoc done (c ∷ []) (from (client_after c xs) xs)
    ∙ ap (λ ys. done ++ ys) (sym (from-next c xs once inside)) ∙ ap (λ o. done ++ from o xs) (sym is) ∙ all

deeper : (n : ℕ) → n ≢ 0 → n ≡ suc (n - 1)
deeper n some = omega (arith, some)

-- what is found is some text, and what is not is none
found_some : (b : Bool) (t : List ℕ) → b ≡ true → is_some (text_if b t) ≡ true
found_some b t is = ap (λ x. is_some (text_if x t)) is

found_none : (b : Bool) (t : List ℕ) → b ≡ false → is_some (text_if b t) ≡ false
found_none b t is = ap (λ x. is_some (text_if x t)) is

-- of one client more, and of those behind it
module _ (n : ℕ) (f : ℕ → List Owned) (done : List ℕ) (c : ℕ) (none : way_among n (flat_map f done) ≡ None) where
  clients_next : way_among n (f c) ≡ None → way_among n (flat_map f (done ++ c ∷ [])) ≡ None
  clients_next here = ap (way_among n) (flat_map-append f done (c ∷ []) ∙ ap (λ (xs : List Owned). flat_map f done ++ xs) (append-nil (f c)))
      ∙ among_both n (flat_map f done) (f c) ∙ ap (λ w. or_else w (way_among n (f c))) none ∙ here

  clients_part : (others xs : List ℕ) (o : Option (List ℕ)) → (done ++ c ∷ []) ++ others ≡ xs → o ≡ text_among n (f c) → is_some o ≡ true →
      o ≡ text_among n (flat_map f xs)
  clients_part others xs o all is some =
      in_second n o (flat_map f done) (f c ++ flat_map f others) none (in_first n o (f c) (flat_map f others) is some)
      ∙ ap (text_among n) (sym (flat_map-append f done (c ∷ others)) ∙ ap (flat_map f) (sym (append_assoc done (c ∷ []) others) ∙ all))

-- what hangs from the fields and the sessions of a cell that is another is all that hangs there
beneath_so : (p : Image) (m : Parts) (number id sought depth : ℕ) (w : Way) (r : Place) (s : State) → Refines (record { image = p; parts = m }) s →
    Shows (record { image = p; parts = m }) number r → id ≡ number → number ≢ sought → Lives m.cells id → depth ≢ 0 → text_among sought
    (gathered (below p m id (depth - 1) w s) 8 ++ flat_map (beyond p m id (depth - 1) w s) (owned_objects_of p m id s)) ≡ text_among sought (tree s.cells depth w (held s.cells r))
beneath_so p m number id sought depth w r s st shows is apart lives some =
    let class = has_class (cell_at m.cells id) lives in
    let shown = subst (λ k. Shows (record { image = p; parts = m }) k r) (sym is) shows in
    ap (option_map way_text) (sym (hangs_beneath p m id class.0 sought (depth - 1) w r s st shown (λ e. apart (sym is ∙ e)) class.1))
    ∙ ap (λ k. text_among sought (tree s.cells k w (held s.cells r))) (sym (deeper depth some))

pub returns-then-depth-eq0-clause-found : goal.returns-then-depth-eq0-clause-found
returns-then-depth-eq0-clause-found t c = rw c.if-depth-eq0.true (λ p w r is shows s st. refl)

pub returns-then-number-clause-found : goal.returns-then-number-clause-found
returns-then-number-clause-found t c = λ p w r is shows s st.
    let m = c.args.parts.now in
    let sought = c.args.sought in
    let same : c.args.number ≡ sought = c.if-number.true ∙ c.number.ensures.value in
    let class = has_class (cell_at m.cells c.args.number) (subst (λ k. Lives m.cells k) (sym same) c.requires.lives) in
    ap (λ x. Some x) is
    ∙ sym (ap (λ k. text_among sought (tree s.cells k w (held s.cells r))) (deeper c.args.depth c.if-depth-eq0.false)
    ∙ ap (option_map way_text) (is_held p m c.args.number sought class.0 (c.args.depth - 1) w r s st shows same class.1))

pub returns-in_default-clause-found : goal.returns-in_default-clause-found
returns-in_default-clause-found t c = λ p w r is shows s st.
    let m = c.args.parts.now in
    let sought = c.args.sought in
    sym (ap (λ k. text_among sought (tree s.cells k w (held s.cells r))) (deeper c.args.depth c.if-depth-eq0.false)
    ∙ ap (option_map way_text) (is_no_cell p m c.args.number sought (c.args.depth - 1) w r s st shows (λ e. c.if-number.false (e ∙ sym c.number.ensures.value))
    (no_class (cell_at m.cells c.args.number) (λ l. false≢true (c.in_default.ensures.lives.1 l)))))

pub returns-then-seek_tree-clause-found : goal.returns-then-seek_tree-clause-found
returns-then-seek_tree-clause-found t c = λ p w r is shows s st.
    let m = c.args.parts.now in
    let sought = c.args.sought in
    let id = c.in-Some.id in
    let at = c.loop-field.field in
    let d = c.args.depth - 1 in
    let here = way_further w (By_field at) c.loop-field.way c.enter.new.way (c.loop-field.invariant.same ∙ is) c.enter.ensures.text in
    let o = text_if c.seek_tree.result c.seek_tree.new.way in
    let some = found_some c.seek_tree.result c.seek_tree.new.way c.if-seek_tree.true in
    let reported : o ≡ text_among sought (below p m id d w s at) =
    c.seek_tree.ensures.found p (further w (By_field at)) (Field id at) here (field_shows p m id at c.field.result c.field.ensures) s st in
    let fields = among_part sought (below p m id d w s) at 8 o c.loop-field-test.true (c.loop-field.invariant.none p w is s st) reported some in
    ap (λ b. text_if b c.seek_tree.new.way) (sym c.if-seek_tree.true)
    ∙ in_first sought o (gathered (below p m id d w s) 8) (flat_map (beyond p m id d w s) (owned_objects_of p m id s)) fields some
    ∙ beneath_so p m c.args.number id sought c.args.depth w r s st shows c.in-Some.ensures.value (λ e. c.if-number.false (e ∙ sym c.number.ensures.value))
    (rw c.in-Some.ensures.value (c.in-Some.ensures.lives.0 refl)) c.if-depth-eq0.false

pub loop-field-preserved : goal.loop-field-preserved
loop-field-preserved t c =
    let m = c.args.parts.now in
    let sought = c.args.sought in
    let id = c.in-Some.id in
    let at = c.loop-field.field in
    let d = c.args.depth - 1 in
    let first = c.args.way.now in
    let o = text_if c.seek_tree.result c.seek_tree.new.way in
    record {
      same = back_again first c.loop-field.way c.enter.new.way c.seek_tree.new.way c.cut.new.self (branch_text (By_field at)) c.len-length.result c.cut.ensures
          c.len-length.ensures (c.seek_tree.ensures.same c.if-seek_tree.false) c.enter.ensures.text c.loop-field.invariant.same;
      none = λ p w is s st.
          let here = way_further w (By_field at) c.loop-field.way c.enter.new.way (c.loop-field.invariant.same ∙ is) c.enter.ensures.text in
          among_next sought (below p m id d w s) at (c.loop-field.invariant.none p w is s st) (not_there sought o (below p m id d w s at)
          (c.seek_tree.ensures.found p (further w (By_field at)) (Field id at) here (field_shows p m id at c.field.result c.field.ensures) s st)
          (found_none c.seek_tree.result c.seek_tree.new.way c.if-seek_tree.false));
    }

-- ---- the sessions

pub loop-next-init : goal.loop-next-init
loop-next-init t c =
    let m = c.args.parts.now in
    let xs = sessions_at m.clients c.in-Some.id in
    let first = c.first_session-next.ensures.value in
    record {
      same = refl;
      inside = λ d e. first-in d xs (sym first ∙ e);
      small = λ d e. subst (λ o. IfSome o (λ k. k < 64)) e c.first_session-next.ensures.below;
      so_far = ([], ap (λ o. from o xs) first ∙ from-first xs, (λ p w is s st. refl));
    }

pub returns-then-seek_tree-2-clause-found : goal.returns-then-seek_tree-2-clause-found
returns-then-seek_tree-2-clause-found t c = λ p w r is shows s st.
    let m = c.args.parts.now in
    let sought = c.args.sought in
    let id = c.in-Some.id in
    let client = c.in-Some-next.client in
    let d = c.args.depth - 1 in
    let xs = sessions_at m.clients id in
    let i = c.loop-next.invariant in
    let most = c.loop-field.auto.field-end in
    let least = c.loop-field-test.false in
    let eight : c.loop-field.field ≡ 8 = omega (arith, most, least) in
    let fields : way_among sought (gathered (below p m id d w s) 8) ≡ None =
    ap (λ k. way_among sought (gathered (below p m id d w s) k)) (sym eight) ∙ c.loop-field.invariant.none p w is s st in
    let begun = c.loop-field.invariant.same ∙ is in
    let here = way_further w (By_session client) c.loop-next.way c.enter_session.new.way (i.same ∙ begun) c.enter_session.ensures.text in
    let o = text_if c.seek_tree-in-Some-next.result c.seek_tree-in-Some-next.new.way in
    let some = found_some c.seek_tree-in-Some-next.result c.seek_tree-in-Some-next.new.way c.if-seek_tree-2.true in
    let all = one_behind i.so_far.0 xs c.loop-next.next client (c.are_apart.ensures.once id) (i.inside client c.in-Some-next.is) c.in-Some-next.is i.so_far.1 in
    let reported : o ≡ text_among sought (beyond p m id d w s client) = c.seek_tree-in-Some-next.ensures.found p (further w (By_session client))
    (Elsewhere (Session id client)) here (session_shows p m id client c.session_number.result c.session_number.ensures) s st in
    let sessions = clients_part sought (beyond p m id d w s) i.so_far.0 client (i.so_far.2 p w begun s st) (from (client_after client xs) xs)
    (owned_objects_of p m id s) o (all ∙ st.agrees.services.clients.sessions id) reported some in
    ap (λ b. text_if b c.seek_tree-in-Some-next.new.way) (sym c.if-seek_tree-2.true)
    ∙ in_second sought o (gathered (below p m id d w s) 8) (flat_map (beyond p m id d w s) (owned_objects_of p m id s)) fields sessions
    ∙ beneath_so p m c.args.number id sought c.args.depth w r s st shows c.in-Some.ensures.value (λ e. c.if-number.false (e ∙ sym c.number.ensures.value))
    (rw c.in-Some.ensures.value (c.in-Some.ensures.lives.0 refl)) c.if-depth-eq0.false

pub loop-next-smaller : goal.loop-next-smaller
loop-next-smaller t c =
    let xs = sessions_at c.args.parts.now.clients c.in-Some.id in
    let client = c.in-Some-next.client in
    let next = from-next client xs (c.are_apart.ensures.once c.in-Some.id) (c.loop-next.invariant.inside client c.in-Some-next.is) in
    omega (arith, ap (λ o. length (from o xs)) c.next_session-next.ensures.value, ap (λ o. length (from o xs)) c.in-Some-next.is, ap length next)

pub loop-next-preserved : goal.loop-next-preserved
loop-next-preserved t c =
    let m = c.args.parts.now in
    let sought = c.args.sought in
    let id = c.in-Some.id in
    let client = c.in-Some-next.client in
    let d = c.args.depth - 1 in
    let xs = sessions_at m.clients id in
    let i = c.loop-next.invariant in
    let next = c.next_session-next.ensures.value in
    let first = c.loop-field.way in
    let o = text_if c.seek_tree-in-Some-next.result c.seek_tree-in-Some-next.new.way in
    let all = one_behind i.so_far.0 xs c.loop-next.next client (c.are_apart.ensures.once id) (i.inside client c.in-Some-next.is) c.in-Some-next.is i.so_far.1 in
    record {
      same = back_again first c.loop-next.way c.enter_session.new.way c.seek_tree-in-Some-next.new.way c.cut-in-Some-next.new.self
          (branch_text (By_session client)) c.len-length.result c.cut-in-Some-next.ensures (c.len-length.ensures ∙ ap length (sym c.loop-field.invariant.same))
          (c.seek_tree-in-Some-next.ensures.same c.if-seek_tree-2.false) c.enter_session.ensures.text i.same;
      inside = λ d e. after-in client d xs (sym next ∙ e);
      small = λ d e. subst (λ o. IfSome o (λ k. k < 64)) e c.next_session-next.ensures.below;
      so_far = (
        i.so_far.0 ++ client ∷ [],
        ap (λ o. (i.so_far.0 ++ client ∷ []) ++ from o xs) next ∙ all,
        (λ p w is s st.
            let here = way_further w (By_session client) c.loop-next.way c.enter_session.new.way (i.same ∙ is) c.enter_session.ensures.text in
            clients_next sought (beyond p m id d w s) i.so_far.0 client (i.so_far.2 p w is s st) (not_there sought o (beyond p m id d w s client)
            (c.seek_tree-in-Some-next.ensures.found p (further w (By_session client)) (Elsewhere (Session id client)) here
            (session_shows p m id client c.session_number.result c.session_number.ensures) s st)
            (found_none c.seek_tree-in-Some-next.result c.seek_tree-in-Some-next.new.way c.if-seek_tree-2.false))),
      );
    }

pub returns-clause-found : goal.returns-clause-found
returns-clause-found t c = λ p w r is shows s st.
    let m = c.args.parts.now in
    let sought = c.args.sought in
    let id = c.in-Some.id in
    let d = c.args.depth - 1 in
    let xs = sessions_at m.clients id in
    let i = c.loop-next.invariant in
    let most = c.loop-field.auto.field-end in
    let least = c.loop-field-test.false in
    let eight : c.loop-field.field ≡ 8 = omega (arith, most, least) in
    let fields : way_among sought (gathered (below p m id d w s) 8) ≡ None =
    ap (λ k. way_among sought (gathered (below p m id d w s) k)) (sym eight) ∙ c.loop-field.invariant.none p w is s st in
    let all : i.so_far.0 ≡ xs = sym (append-nil i.so_far.0) ∙ ap (λ o. i.so_far.0 ++ from o xs) (sym c.in_default-next.is) ∙ i.so_far.1 in
    let sessions : way_among sought (flat_map (beyond p m id d w s) (owned_objects_of p m id s)) ≡ None =
    ap (λ cs. way_among sought (flat_map (beyond p m id d w s) cs)) (sym (all ∙ st.agrees.services.clients.sessions id))
    ∙ i.so_far.2 p w (c.loop-field.invariant.same ∙ is) s st in
    in_second sought None (gathered (below p m id d w s) 8) (flat_map (beyond p m id d w s) (owned_objects_of p m id s)) fields (sym (ap (option_map way_text) sessions))
    ∙ beneath_so p m c.args.number id sought c.args.depth w r s st shows c.in-Some.ensures.value (λ e. c.if-number.false (e ∙ sym c.number.ensures.value))
    (rw c.in-Some.ensures.value (c.in-Some.ensures.lives.0 refl)) c.if-depth-eq0.false
