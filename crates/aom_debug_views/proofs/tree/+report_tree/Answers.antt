-- The line of what is held, and then what hangs from its fields, one field after another, and from its sessions, one after another.
use Rattle.std.proofs.Common.{◌≡◌, ◌≢◌, ◌∙◌, ◌<◌, ◌-◌, ◌++◌, ◌∷◌, [], ℕ, IfSome, List, Option, Some, ap, append_assoc, arith, length, refl, rules, subst, suc}
use Rattle.std.proofs.Common.{sym, take}
use Rattle.std.proofs.Math.Seq.{take-append_seam}
use Rattle.std.proofs.lemmas.Bool.{false≢true}
use Rattle.std.proofs.lemmas.List.{append-nil}
use Rattle.std.proofs.lemmas.Result.{IfErr-weaker, IfOk-weaker, err_from_is_err_and}
use Rattle.aom_debug_views.proofs.ClientsLemmas.{after-in, first-in, from, from-first, from-next}
use Rattle.aom_clients.specs.Clients.{client_after, sessions_at}
use Rattle.aom_clients.specs.Lists.{IsIn, IsOnce}
use Rattle.aom_semantics.specs.Places.{Elsewhere, Field, Session}
use Rattle.aom_debug_views.specs.Owners.{By_field, By_session, Shows, branch_text, further, owned_line}
use Rattle.aom_debug_views.proofs.Reporting.{none_sent, part_further, reports_all, reports_further}
use Rattle.aom_debug_views.proofs.Trees.{below, field_shows, fields_unsent, line_unsent, owned_object_cut, owned_object_reported, owned_objects_reported, session_shows, sessions_unsent}
use Rattle.aom_debug_views.proofs.Trees.{tree_reported, uncelled_cut, uncelled_reported, way_further}
use Rattle.aom_debug_views.proofs.tree.+report_tree.Goals as goal

-- a way that was entered and cut again is as it was
back_again : (first way entered after now b : List ℕ) (n : ℕ) → now ≡ take n after → n ≡ length first → after ≡ entered → entered ≡ way ++ b →
    way ≡ first → now ≡ first
back_again first way entered after now b n cut long same text begun =
    cut ∙ ap (λ k. take k after) long ∙ ap (λ (t : List ℕ). take (length first) t) (same ∙ text ∙ ap (λ (t : List ℕ). t ++ b) begun) ∙ take-append_seam first b

-- the clients that were told, one more, and those behind it
one_behind : (done xs : List ℕ) (next : Option ℕ) (c : ℕ) → IsOnce xs → IsIn c xs → next ≡ Some c → done ++ from next xs ≡ xs →
    (done ++ c ∷ []) ++ from (client_after c xs) xs ≡ xs
one_behind done xs next c once inside is all = append_assoc done (c ∷ []) (from (client_after c xs) xs)
    ∙ ap (λ ys. done ++ ys) (sym (from-next c xs once inside)) ∙ ap (λ o. done ++ from o xs) (sym is) ∙ all

-- a depth that is not 0 is one more than another
deeper : (n : ℕ) → n ≢ 0 → n ≡ suc (n - 1)
deeper n some = omega (arith, some)

pub returns-in_default-clause-ok : goal.returns-in_default-clause-ok
returns-in_default-clause-ok g t c = IfOk-weaker c.report_message.result _ _
    (λ done put p w r is shows. uncelled_reported p c.args.parts.now c.args.names.now c.args.number (c.args.depth - 1) c.args.depth w r c.args.way.now shows
    (λ l. false≢true (c.in_default.ensures.lives.1 l)) is (deeper c.args.depth c.if-depth-eq0.false) _ _ put) c.report_message.ensures.ok

pub returns-in_default-clause-err : goal.returns-in_default-clause-err
returns-in_default-clause-err g t c = IfErr-weaker c.report_message.result _ _
    (λ fault cut p w r is shows. uncelled_cut p c.args.parts.now c.args.names.now c.args.number (c.args.depth - 1) c.args.depth w r c.args.way.now shows
    (λ l. false≢true (c.in_default.ensures.lives.1 l)) is (deeper c.args.depth c.if-depth-eq0.false) _ _ fault _ cut) c.report_message.ensures.err

pub returns-in_err-report_owned-clause-err : goal.returns-in_err-report_owned-clause-err
returns-in_err-report_owned-clause-err g t c =
    let error = err_from_is_err_and c.from_residual.result c.from_residual.ensures.1 in
    let m = c.args.parts.now in
    let deep = deeper c.args.depth c.if-depth-eq0.false in
    rw (error.1, error.2) (λ p w r is shows.
    line_unsent p m c.args.names.now c.in-Some.id c.class.result (c.args.depth - 1) c.args.depth w r c.args.way.now (subst (λ k. Shows
    (record { image = p; parts = m }) k r) (sym c.in-Some.ensures.value) shows) c.class.ensures is deep _ _ _ _ c.in_err-report_owned.ensures.err)

pub returns-in_err-report_tree-clause-err : goal.returns-in_err-report_tree-clause-err
returns-in_err-report_tree-clause-err g t c =
    let error = err_from_is_err_and c.from_residual-in_err-report_tree.result c.from_residual-in_err-report_tree.ensures.1 in
    let m = c.args.parts.now in
    let id = c.in-Some.id in
    let at = c.loop-field.field in
    let deep = deeper c.args.depth c.if-depth-eq0.false in
    rw (error.1, error.2) (λ p w r is shows.
    let begun = c.report_owned.ensures.same ∙ is in
    let here = way_further w (By_field at) c.loop-field.way c.enter.new.way (c.loop-field.invariant.same ∙ begun) c.enter.ensures.text in
    let cut = c.in_err-report_tree.ensures.err p (further w (By_field at)) (Field id at) here (field_shows p m id at c.field.result c.field.ensures) in
    fields_unsent p m c.args.names.now id c.class.result (c.args.depth - 1) c.args.depth w r c.args.way.now (subst (λ k. Shows
    (record { image = p; parts = m }) k r) (sym c.in-Some.ensures.value) shows) c.class.ensures is deep _ _ _ _ _ c.in_ok-report_owned.ensures.ok
    (part_further (owned_line c.args.names.now) (record { image = p; parts = m })
    (below p m id (c.args.depth - 1) w) (λ s. 8) at _ _ _ _ _ (c.loop-field.invariant.out p w begun) (λ s st. c.loop-field-test.true) cut))

pub loop-field-preserved : goal.loop-field-preserved
loop-field-preserved g t c =
    let m = c.args.parts.now in
    let id = c.in-Some.id in
    let at = c.loop-field.field in
    let first = c.report_owned.new.way in
    record {
      same = back_again first c.loop-field.way c.enter.new.way c.report_tree.new.way c.cut.new.self (branch_text
          (By_field at)) c.len-length.result c.cut.ensures c.len-length.ensures c.in_ok-report_tree.ensures.same c.enter.ensures.text c.loop-field.invariant.same;
      out = λ p w is.
          let here = way_further w (By_field at) c.loop-field.way c.enter.new.way (c.loop-field.invariant.same ∙ is) c.enter.ensures.text in
          reports_further (owned_line c.args.names.now) (record { image = p; parts = m }) (below p m id (c.args.depth - 1) w) at _ _ _ (c.loop-field.invariant.out
          p w is) (c.in_ok-report_tree.ensures.ok p (further w (By_field at)) (Field id at) here (field_shows p m id at c.field.result c.field.ensures));
    }

-- ---- the sessions

pub loop-next-init : goal.loop-next-init
loop-next-init g t c =
    let m = c.args.parts.now in
    let xs = sessions_at m.clients c.in-Some.id in
    let first = c.first_session-next.ensures.value in
    record {
      same = refl;
      inside = λ d e. first-in d xs (sym first ∙ e);
      small = λ d e. subst (λ o. IfSome o (λ k. k < 64)) e c.first_session-next.ensures.below;
      so_far = ([], ap (λ o. from o xs) first ∙ from-first xs, (λ p w is. record { out = λ s st. none_sent _ }));
    }

pub session_number-requires : goal.session_number-requires
session_number-requires g t c = c.loop-next.invariant.small c.in-Some-next.client c.in-Some-next.is

pub returns-in_err-report_tree-2-clause-err : goal.returns-in_err-report_tree-2-clause-err
returns-in_err-report_tree-2-clause-err g t c =
    let error = err_from_is_err_and c.from_residual-in_err-report_tree-2.result c.from_residual-in_err-report_tree-2.ensures.1 in
    let m = c.args.parts.now in
    let id = c.in-Some.id in
    let client = c.in-Some-next.client in
    let xs = sessions_at m.clients id in
    let i = c.loop-next.invariant in
    let deep = deeper c.args.depth c.if-depth-eq0.false in
    let most = c.loop-field.auto.field-end in
    let least = c.loop-field-test.false in
    let all = one_behind i.so_far.0 xs c.loop-next.next client (c.are_apart.ensures.once id) (i.inside client c.in-Some-next.is) c.in-Some-next.is i.so_far.1 in
    rw (error.1, error.2) (λ p w r is shows.
    let begun = c.report_owned.ensures.same ∙ is in
    let at_owned_objects = c.loop-field.invariant.same ∙ begun in
    let here = way_further w (By_session client) c.loop-next.way c.enter_session.new.way (i.same ∙ at_owned_objects) c.enter_session.ensures.text in
    let cut = c.in_err-report_tree-2.ensures.err p (further w (By_session client)) (Elsewhere (Session id client)) here
    (session_shows p m id client c.session_number.result c.session_number.ensures) in
    sessions_unsent p m c.args.names.now id c.class.result (c.args.depth - 1) c.args.depth w r c.args.way.now (subst
    (λ k. Shows (record { image = p; parts = m }) k r) (sym c.in-Some.ensures.value) shows) c.class.ensures is deep _ _ _ c.in_ok-report_owned.ensures.ok
    (reports_all (owned_line c.args.names.now) (record { image = p; parts = m })
    (below p m id (c.args.depth - 1) w) (λ s. 8) c.loop-field.field _ _ (c.loop-field.invariant.out p w begun) (λ s st. omega (arith, most, least))) _ _ _
    (owned_object_cut p m c.args.names.now id _ w i.so_far.0 client _ (λ s st. all ∙ st.agrees.services.clients.sessions id) _ _ _ _ _ (i.so_far.2 p w at_owned_objects) cut))

pub loop-next-smaller : goal.loop-next-smaller
loop-next-smaller g t c =
    let xs = sessions_at c.args.parts.now.clients c.in-Some.id in
    let client = c.in-Some-next.client in
    let next = from-next client xs (c.are_apart.ensures.once c.in-Some.id) (c.loop-next.invariant.inside client c.in-Some-next.is) in
    omega (arith, ap (λ o. length (from o xs)) c.next_session-next.ensures.value, ap (λ o. length (from o xs)) c.in-Some-next.is, ap length next)

pub loop-next-preserved : goal.loop-next-preserved
loop-next-preserved g t c =
    let m = c.args.parts.now in
    let id = c.in-Some.id in
    let client = c.in-Some-next.client in
    let xs = sessions_at m.clients id in
    let i = c.loop-next.invariant in
    let next = c.next_session-next.ensures.value in
    let first = c.loop-field.way in
    let all = one_behind i.so_far.0 xs c.loop-next.next client (c.are_apart.ensures.once id) (i.inside client c.in-Some-next.is) c.in-Some-next.is i.so_far.1 in
    record {
      same = back_again first c.loop-next.way c.enter_session.new.way c.report_tree-in-Some-next.new.way c.cut-in-Some-next.new.self
          (branch_text (By_session client)) c.len-length.result c.cut-in-Some-next.ensures
          (c.len-length.ensures ∙ ap length (sym c.loop-field.invariant.same)) c.in_ok-report_tree-2.ensures.same c.enter_session.ensures.text i.same;
      inside = λ d e. after-in client d xs (sym next ∙ e);
      small = λ d e. subst (λ o. IfSome o (λ k. k < 64)) e c.next_session-next.ensures.below;
      so_far = (
        i.so_far.0 ++ client ∷ [],
        ap (λ o. (i.so_far.0 ++ client ∷ []) ++ from o xs) next ∙ all,
        (λ p w is.
            let here = way_further w (By_session client) c.loop-next.way c.enter_session.new.way (i.same ∙ is) c.enter_session.ensures.text in
            owned_object_reported p m c.args.names.now id (c.args.depth - 1) w i.so_far.0 client _ _ _ (i.so_far.2 p w is) (c.in_ok-report_tree-2.ensures.ok p (further w
            (By_session client)) (Elsewhere (Session id client)) here (session_shows p m id client c.session_number.result c.session_number.ensures))),
      );
    }

pub returns-clause-same : goal.returns-clause-same
returns-clause-same g t c = c.loop-next.invariant.same ∙ c.loop-field.invariant.same ∙ c.report_owned.ensures.same

pub returns-clause-ok : goal.returns-clause-ok
returns-clause-ok g t c =
    let m = c.args.parts.now in
    let id = c.in-Some.id in
    let xs = sessions_at m.clients id in
    let i = c.loop-next.invariant in
    let deep = deeper c.args.depth c.if-depth-eq0.false in
    let most = c.loop-field.auto.field-end in
    let least = c.loop-field-test.false in
    let all : i.so_far.0 ≡ xs = sym (append-nil i.so_far.0) ∙ ap (λ o. i.so_far.0 ++ from o xs) (sym c.in_default-next.is) ∙ i.so_far.1 in
    λ p w r is shows.
    let begun = c.report_owned.ensures.same ∙ is in
    tree_reported p m c.args.names.now id c.class.result (c.args.depth - 1) c.args.depth w r c.args.way.now (subst
    (λ k. Shows (record { image = p; parts = m }) k r) (sym c.in-Some.ensures.value) shows) c.class.ensures is deep _ _ _ c.in_ok-report_owned.ensures.ok
    (reports_all (owned_line c.args.names.now) (record { image = p; parts = m })
    (below p m id (c.args.depth - 1) w) (λ s. 8) c.loop-field.field _ _ (c.loop-field.invariant.out p w begun) (λ s st. omega (arith, most, least))) _
    (owned_objects_reported p m c.args.names.now id (c.args.depth - 1) w i.so_far.0 all _ _ (i.so_far.2 p w (c.loop-field.invariant.same ∙ begun)))

pub returns-then-depth-eq0-clause-ok : goal.returns-then-depth-eq0-clause-ok
returns-then-depth-eq0-clause-ok g t c = rw c.if-depth-eq0.true (λ p w r _ _. record { out = λ s st. none_sent _ })

pub report_message-requires-clause-room : goal.report_message-requires-clause-room
report_message-requires-clause-room g t c = omega (arith, c.requires.room)

pub report_message-requires-clause-stands : goal.report_message-requires-clause-stands
report_message-requires-clause-stands g t c = c.requires.stands

pub class-requires : goal.class-requires
class-requires g t c = rw c.in-Some.ensures.value (c.in-Some.ensures.lives.0 refl)

pub report_owned-requires : goal.report_owned-requires
report_owned-requires g t c = omega (arith, c.requires.room)

pub loop-field-init : goal.loop-field-init
loop-field-init g t c = record { same = refl; out = λ p w is. record { out = λ s st. none_sent _ } }

pub enter-requires : goal.enter-requires
enter-requires g t c = let same = ap length (c.loop-field.invariant.same ∙ c.report_owned.ensures.same) in omega (arith, c.requires.room, same)

pub field-requires-clause-lives : goal.field-requires-clause-lives
field-requires-clause-lives g t c = rw c.in-Some.ensures.value (c.in-Some.ensures.lives.0 refl)

pub enter_session-requires : goal.enter_session-requires
enter_session-requires g t c = let same = ap length (c.loop-next.invariant.same ∙ c.loop-field.invariant.same ∙ c.report_owned.ensures.same) in
    omega (arith, c.requires.room, same)

pub next_session-next-requires : goal.next_session-next-requires
next_session-next-requires g t c = c.loop-next.invariant.inside c.in-Some-next.client c.in-Some-next.is

pub first_session-next-requires-clause-lives : goal.first_session-next-requires-clause-lives
first_session-next-requires-clause-lives g t c = rw c.in-Some.ensures.value (c.in-Some.ensures.lives.0 refl)

pub first_session-next-requires-clause-stands : goal.first_session-next-requires-clause-stands
first_session-next-requires-clause-stands g t c = c.requires.stands

pub report_tree-requires : goal.report_tree-requires
report_tree-requires g t c =
    let same = ap length (c.loop-field.invariant.same ∙ c.report_owned.ensures.same) in
    λ κs lives. (omega (arith, c.decreases, c.if-depth-eq0.false), (search rules, (omega (arith, c.requires.room, c.enter.ensures.short, same, c.if-depth-eq0.false), c.requires.stands)))

pub report_tree-requires-in-Some-next : goal.report_tree-requires-in-Some-next
report_tree-requires-in-Some-next g t c =
    let same = ap length (c.loop-next.invariant.same ∙ c.loop-field.invariant.same ∙ c.report_owned.ensures.same) in
    λ κs lives. (omega (arith, c.decreases, c.if-depth-eq0.false), (search rules, (omega (arith, c.requires.room, c.enter_session.ensures.short, same, c.if-depth-eq0.false), c.requires.stands)))
