-- What hangs from a place: the line of what it holds, and then what hangs from its fields, is what goes out.
use Rattle.std.proofs.lemmas.Bool.Decides.{nat_tests}
use Rattle.std.proofs.Common.{◌≡◌, ◌∙◌, ◌<◌, ◌≤◌, ◌+◌, ◌-◌, ℕ, zero, suc, Bool, true, false, cond, nat_lt, List, [], ◌∷◌, ◌++◌, Option, Some, None, codes}
use Rattle.std.proofs.Common.{length, take, refl, sym, ap, append_assoc, arith}
use Rattle.std.specs.Prelude.{is_some, not}
use Rattle.std.proofs.lemmas.Bool.{ltb-false, ltb-true}
use Rattle.std.specs.List.{flat_map}
use Rattle.std.proofs.lemmas.Grind.{flat_map-append}
use Rattle.std.proofs.lemmas.List.{append-nil}
use Rattle.std.proofs.lemmas.Option.{same_Some}
use Rattle.aom_image.specs.Image.{Image}
use Rattle.aom_image.specs.declared.method.Thing.{Thing}
use Rattle.aom_image.specs.declared.method.Thing.TheVariants.{Object as An_object_of, Message}
use Rattle.aom_roles.specs.Things.{is_object}
use Rattle.aom_cells.specs.Heap.{Lives, class_at, field_at}
use Rattle.aom_clients.specs.Clients.{client_at, place_at, sessions_at}
use Rattle.aom_clients.specs.declared.place.MessagePlace.{MessagePlace}
use Rattle.aom_transcript.specs.Text.{ended}
use Rattle.aom_debug_views.proofs.SemanticsLemmas.{held_lives}
use Rattle.aom_semantics.specs.Places.{Cell, Elsewhere, Field, Object, Place, Register, Sender, Session, Token, held, named, service_of}
use Rattle.aom_semantics.specs.State.{State}
use Rattle.aom_safety.specs.Kept.{one_if_some, sources_of}
use Rattle.aom_debug_views.proofs.SafetyLemmas.{has_sender}
use Rattle.aom_machine_state.specs.declared.parts.Parts.{Parts}
use Rattle.aom_machine_state.specs.Agrees.{number}
use Rattle.aom_machine_state.specs.Messages.{is_a_message}
use Rattle.aom_machine_state.specs.Places.{session_with}
use Rattle.aom_machine_state.specs.Serving.{holds, is_taken, message_name, sent_by}
use Rattle.aom_machine_state.specs.Stands.{MachineModel, Refines}
use Rattle.aom_machine_state.specs.Tokens.{class_in as class_of_token}
use Rattle.aom_cells.specs.Tokens.{class_at as token_class}
use Rattle.aom_debug_symbols.specs.NameLists.{NameLists, class_by}
use Rattle.aom_debug_symbols.specs.Answers.{observer_by}
use Rattle.aom_debug_protocol.specs.declared.answer.Source.{Source}
use Rattle.aom_debug_views.proofs.MachineStateLemmas.{taken_sent}
use Rattle.aom_transcript.specs.Sinks.{after}
use Rattle.aom_debug_protocol.specs.declared.fault.DebugFault.{DebugFault}
use Rattle.aom_debug_views.specs.CellViews.{class_in, class_of}
use Rattle.aom_debug_views.specs.Owners.{Branch, By_field, By_session, In_register, Outer, Owned, Shows, ShowsNone, Way, branch_text}
use Rattle.aom_debug_views.specs.Owners.{frame_registers, further, generations, grown, message_text, outer_text, owned_line, owners_text, tree}
use Rattle.aom_debug_views.specs.Owners.{way_text, source_at, source_by, source_in, source_of}
use Rattle.aom_debug_views.specs.Reporting.{IsCut, Reports, ReportsPart, gathered}
use Rattle.aom_debug_views.proofs.Reporting.{cut_on, none_sent, sent_on}
use Rattle.aom_debug_views.proofs.Showing.{class_held}

gathered_none : (n : ℕ) (f : ℕ → List Owned) → ((i : ℕ) → f i ≡ []) → gathered f n ≡ []
gathered_none zero f none = refl
gathered_none (suc n) f none = ap (λ (xs : List Owned). xs ++ f n) (gathered_none n f none) ∙ none n

-- ---- ways

-- one branch further
pub way_further : (w : Way) (b : Branch) (old new : List ℕ) → old ≡ way_text w → new ≡ old ++ branch_text b → new ≡ way_text (further w b)
way_further w b old new is put = put ∙ ap (λ (t : List ℕ). t ++ branch_text b) is
    ∙ append_assoc (outer_text w.outer) (flat_map branch_text w.branches) (branch_text b) ∙ ap (λ (t : List ℕ). outer_text w.outer ++ t)
    (ap (λ (t : List ℕ). flat_map branch_text w.branches ++ t) (sym (append-nil (branch_text b))) ∙ sym (flat_map-append branch_text w.branches (b ∷ [])))

pub way_begins : (outer : Outer) (t : List ℕ) → t ≡ outer_text outer → t ≡ way_text (record { outer = outer; branches = [] })
way_begins outer t is = is ∙ sym (append-nil (outer_text outer))

-- ---- what a place holds

pub thing_is : (t : Thing) (class : ℕ) → class_in t ≡ Some class → t ≡ An_object_of class
thing_is x class is = grind (arith, nat_tests, same_Some)

pub tree_none : (cs : List Cell) (n : ℕ) (w : Way) (o : Option Object) → o ≡ None → tree cs n w o ≡ []
tree_none cs x w o none = grind arith

-- ---- who hears when a message is completed

-- where a place is told to have nothing, it has no token and no client's message
unsourced : (c : Option ℕ) (x : MessagePlace) → source_of c x ≡ None → (c ≡ None) × (is_taken x ≡ false)
unsourced x y none = grind arith

-- no message is without either
uncounted : (sd : Option Sender) (t : Option Token) → is_some sd ≡ false → class_of_token t ≡ None → one_if_some sd + one_if_some t ≡ 1 → ⊥
uncounted x t unsent unreported one = grind arith

-- what is told of a place is who hears of the message there
reported_source : (c : Option ℕ) (slot : Bool) (x : MessagePlace) (sd : Option Sender) (t : Option Token) (source : Source) →
    class_of_token t ≡ c → sent_by slot x ≡ sd → one_if_some sd + one_if_some t ≡ 1 → source_of c x ≡ Some source → source_by sd t ≡ Some source
reported_source x slot y sd z source class sent one is = grind (arith, nat_tests, same_Some)

-- and where there is neither, nothing is told
unreported_source : (c : Option ℕ) (slot : Bool) (x : MessagePlace) (source : Source) → c ≡ None → sent_by slot x ≡ None → source_of c x ≡ Some source → ⊥
unreported_source x slot y source none unsent is = grind arith

-- of each message it is told
message_sourced : (p : Image) (m : Parts) (s : State) → Refines (record { image = p; parts = m }) s → (o : Object) → named s.cells o.name ≡ Some o →
    o.thing ≡ Message → source_at m o.name ≡ None → ⊥
message_sourced p m s st o lives message unreported = low (nat_lt o.name 4096) refl unreported
  where
    said : is_a_message (named s.cells o.name) ≡ true
    said = ap is_a_message lives ∙ ap (λ th. not (is_object th)) message

    one : sources_of (service_of s.cells o.name) ≡ 1
    one = st.kept.fit.sources o lives ∙ ap (λ th. cond (is_object th) 0 1) message

    named_so : (j : ℕ) → o.name ≡ message_name j → source_of (token_class m.tokens j) (place_at m.clients j) ≡ None → ⊥
    named_so j name none = grind (arith, nat_tests, unsourced, has_sender, taken_sent, uncounted, one)

    -- a message place is below 1,024
    within : (j : ℕ) → o.name ≡ message_name j → 1024 ≤ j → ⊥
    within j name past = grind (arith, nat_tests, said)

    high : (b : Bool) → nat_lt o.name 5120 ≡ b → nat_lt o.name 4096 ≡ false →
        cond b (source_of (token_class m.tokens (o.name - 4096)) (place_at m.clients (o.name - 4096))) None ≡ None → ⊥
    high x less past none = grind (arith, nat_tests, ltb-false, named_so, within)

    low : (b : Bool) → nat_lt o.name 4096 ≡ b →
        cond b None (cond (nat_lt o.name 5120) (source_of (token_class m.tokens (o.name - 4096)) (place_at m.clients (o.name - 4096))) None) ≡ None → ⊥
    low x less none = grind (arith, nat_tests, ltb-true, said, high)

module _ (p : Image) (m : Parts) where
  abbrev M : MachineModel
  M = record { image = p; parts = m }

  -- a cell's number is that of a place that holds an object of that name and class
  pub found : (n class : ℕ) (r : Place) (s : State) → Refines M s →
      Shows M n r → class_at m.cells n ≡ Some class → (o : Object) × (held s.cells r ≡ Some o) × (o.thing ≡ An_object_of class) × (o.name ≡ n)
  found n class r s st shows reported = grind (arith, class_held p m s st r n (shows.each s st))

  -- a field of a cell
  pub field_shows : (n f k : ℕ) → k ≡ field_at m.cells n f → Shows M k (Field n f)
  field_shows n f k is = record { each = λ s st. is ∙ st.agrees.values (Field n f) }

  -- and the session of a client with it
  pub session_shows : (n c k : ℕ) → k ≡ session_with n (client_at m.clients c) → Shows M k (Elsewhere (Session n c))
  session_shows n c k is = record { each = λ s st. is ∙ st.agrees.values (Elsewhere (Session n c)) }

  -- what hangs from the fields of the cell of that number, and from its sessions
  abbrev pub below : ℕ → ℕ → Way → State → ℕ → List Owned
  below n depth w s f = tree s.cells depth (further w (By_field f)) (held s.cells (Field n f))

  abbrev pub beyond : ℕ → ℕ → Way → State → ℕ → List Owned
  beyond n depth w s c = tree s.cells depth (further w (By_session c)) (held s.cells (Elsewhere (Session n c)))

  abbrev pub owned_objects_of : ℕ → State → List ℕ
  owned_objects_of n s = (service_of s.cells n).sessions

  abbrev under : ℕ → ℕ → Way → State → List Owned
  under n depth w s = gathered (below n depth w s) 8 ++ flat_map (beyond n depth w s) (owned_objects_of n s)

  -- what hangs from a place is the line of what it holds, and then that
  tree_found : (ns : NameLists) (n class depth : ℕ) (w : Way) (r : Place) (t : List ℕ) (s : State) → Refines M s → Shows M n r → class_at m.cells n
      ≡ Some class → t ≡ way_text w → owners_text ns (tree s.cells (suc depth) w (held s.cells r)) ≡ ended (t ++ codes " " ++ class_by ns class)
      ++ (flat_map (owned_line ns) (gathered (below n depth w s) 8) ++ flat_map (owned_line ns) (flat_map (beyond n depth w s) (owned_objects_of n s)))
  tree_found ns n class depth w r t s st shows reported is = grind (arith, found n class r s st shows reported, flat_map-append)

  -- ---- messages

  -- the number of a message is that of its place
  at_place : (n : ℕ) (source : Source) → source_at m n ≡ Some source →
      (j : ℕ) × (n ≡ message_name j) × (source_of (token_class m.tokens j) (place_at m.clients j) ≡ Some source)
  at_place n source is = grind (arith, nat_tests, ltb-false n 4096)

  -- so a number that no cell has, and of which it is told who hears, is that of a place that holds a message of that name
  pub message_found : (n : ℕ) (source : Source) (r : Place) (s : State) → Refines M s → Shows M n r → class_at m.cells n ≡ None →
      source_at m n ≡ Some source → (o : Object) × (held s.cells r ≡ Some o) × (o.thing ≡ Message) × (source_in (service_of s.cells o.name) ≡ Some source)
  message_found n source r s st shows none is = go (held s.cells r) refl (shows.each s st) (sym (class_held p m s st r n (shows.each s st)) ∙ none)
    where
      at : (j : ℕ) × (n ≡ message_name j) × (source_of (token_class m.tokens j) (place_at m.clients j) ≡ Some source)
      at = at_place n source is

      plain : (th : Thing) → class_in th ≡ None → th ≡ Message
      plain x reported = grind (arith, nat_tests)

      sent : sent_by (holds m.clients at.0) (place_at m.clients at.0) ≡ (service_of s.cells n).sender
      sent = st.agrees.services.clients.senders at.0 ∙ ap (λ k. (service_of s.cells k).sender) (sym at.1)

      reported : class_of_token (service_of s.cells n).token ≡ token_class m.tokens at.0
      reported = ap (λ k. class_of_token (service_of s.cells k).token) at.1 ∙ sym (st.agrees.services.tokens.classes at.0)

      go : (o : Option Object) → held s.cells r ≡ o → n ≡ number o → class_of o ≡ None →
          (x : Object) × (held s.cells r ≡ Some x) × (x.thing ≡ Message) × (source_in (service_of s.cells x.name) ≡ Some source)
      go None is_held same class = grind arith
      go (Some o) is_held same class =
          let message = plain o.thing class in
          let lives = held_lives s.cells r o st.typed.good.no_duplicates is_held in
          let one = ap (λ k. sources_of (service_of s.cells k)) same ∙ st.kept.fit.sources o lives ∙ ap (λ th. cond (is_object th) 0 1) message in
          let v = service_of s.cells n in (
            o,
            is_held,
            message,
            ap (λ k. source_in (service_of s.cells k)) (sym same)
                ∙ reported_source (token_class m.tokens at.0) (holds m.clients at.0) (place_at m.clients at.0) v.sender v.token source reported sent one at.2,
          )

  tree_message : (ns : NameLists) (n : ℕ) (source : Source) (depth : ℕ) (w : Way) (r : Place) (t : List ℕ) (s : State) →
      Refines M s → Shows M n r → class_at m.cells n ≡ None → source_at m n ≡ Some source → t ≡ way_text w →
      owners_text ns (tree s.cells (suc depth) w (held s.cells r)) ≡ ended (t ++ codes " " ++ observer_by ns source)
  tree_message ns n source depth w r t s st shows none reported is = grind (arith, message_found n source r s st shows none reported, append-nil)

  -- a number that neither has is that of a place that holds nothing
  pub none_sends : (n : ℕ) (r : Place) → (Lives m.cells n → ⊥) → source_at m n ≡ None → Shows M n r → ShowsNone M r
  none_sends n r none unsent shows = record { each = λ s st. go s st (held s.cells r) refl (shows.each s st) }
    where
      placed : (s : State) → Refines M s → (o : Object) → named s.cells o.name ≡ Some o → o.thing ≡ Message → n ≡ o.name → ⊥
      placed s st o lives message same = message_sourced p m s st o lives message (ap (source_at m) (sym same) ∙ unsent)

      go : (s : State) → Refines M s → (o : Option Object) → held s.cells r ≡ o → n ≡ number o → o ≡ None
      go s st x holds is = grind (arith, held_lives s.cells r, placed s st)

  -- ---- what is out

  -- the line of a message is all that hangs there
  pub message_reported : (ns : NameLists) (n : ℕ) (source : Source) (depth d : ℕ) (w : Way) (r : Place) (t : List ℕ) →
      Shows M n r → class_at m.cells n ≡ None → source_at m n ≡ Some source → t ≡ way_text w → d ≡ suc depth → (before now : Option (List ℕ)) →
      now ≡ after before (ended (t ++ codes " " ++ observer_by ns source)) → Reports M (λ s. owners_text ns (tree s.cells d w (held s.cells r))) before now
  message_reported ns n source depth d w r t shows none sent is deep before now put = search (arith, nat_tests, tree_message ns n source depth w r t)

  pub message_unsent : (ns : NameLists) (n : ℕ) (source : Source) (depth d : ℕ) (w : Way) (r : Place) (t : List ℕ) → Shows M n r → class_at m.cells n ≡ None →
      source_at m n ≡ Some source → t ≡ way_text w → d ≡ suc depth → (before now : Option (List ℕ)) (fault : DebugFault) (failed : Bool) →
      IsCut (ended (t ++ codes " " ++ observer_by ns source)) fault failed before now →
      ReportsPart M (λ s. owners_text ns (tree s.cells d w (held s.cells r))) fault failed before now
  message_unsent ns n source depth d w r t shows none sent is deep before now fault failed cut = search (arith, nat_tests, tree_message ns n source depth w r t)

  -- where no cell has the number, a message's line is all that hangs there, if there is one
  module _ (ns : NameLists) (n depth d : ℕ) (w : Way) (r : Place)
      (t : List ℕ) (shows : Shows M n r) (none : Lives m.cells n → ⊥) (is : t ≡ way_text w) (deep : d ≡ suc depth) (before now : Option (List ℕ)) where
    classless : class_at m.cells n ≡ None
    classless = grind (arith, nat_tests)

    pub uncelled_reported : now ≡ after before (message_text ns t (source_at m n)) → Reports M (λ s. owners_text ns (tree s.cells d w (held s.cells r))) before now
    uncelled_reported put = go (source_at m n) refl put
      where
        go : (o : Option Source) → source_at m n ≡ o → now ≡ after before (message_text ns t o) →
            Reports M (λ s. owners_text ns (tree s.cells d w (held s.cells r))) before now
        go None unsent put = search (arith, nat_tests, tree_none, none_sends n r none unsent shows)
        go (Some source) sent put = message_reported ns n source depth d w r t shows classless sent is deep before now put

    pub uncelled_cut : (fault : DebugFault) (failed : Bool) → IsCut (message_text ns t (source_at m n)) fault failed before now →
        ReportsPart M (λ s. owners_text ns (tree s.cells d w (held s.cells r))) fault failed before now
    uncelled_cut fault failed cut = go (source_at m n) refl cut
      where
        go : (o : Option Source) → source_at m n ≡ o →
            IsCut (message_text ns t o) fault failed before now → ReportsPart M (λ s. owners_text ns (tree s.cells d w (held s.cells r))) fault failed before now
        go None unsent cut = search (arith, nat_tests, tree_none, none_sends n r none unsent shows)
        go (Some source) sent cut = message_unsent ns n source depth d w r t shows classless sent is deep before now fault failed cut

  -- all that hangs from an object is out, or a beginning of it, by the line, by what hangs from the fields, and by what hangs from the sessions
  module _ (ns : NameLists) (n class depth d : ℕ) (w : Way) (r : Place) (t : List ℕ) (shows : Shows M n r) (reported : class_at m.cells n ≡ Some class)
      (is : t ≡ way_text w) (deep : d ≡ suc depth) where
    abbrev line_text : List ℕ
    line_text = ended (t ++ codes " " ++ class_by ns class)

    abbrev fields_text : State → List ℕ
    fields_text s = flat_map (owned_line ns) (gathered (below n depth w s) 8)

    abbrev sessions_text : State → List ℕ
    sessions_text s = flat_map (owned_line ns) (flat_map (beyond n depth w s) (owned_objects_of n s))

    abbrev Tree : State → List ℕ
    Tree s = owners_text ns (tree s.cells d w (held s.cells r))

    parts_of : (s : State) → Refines M s → line_text ++ (fields_text s ++ sessions_text s) ≡ Tree s
    parts_of s st = grind (arith, nat_tests, tree_found ns n class depth w r t s st shows reported is)

    module _ (before now mid : Option (List ℕ)) (first : now ≡ after before line_text) (fields : Reports M fields_text now mid) where
      so_far : (s : State) → Refines M s → mid ≡ after before (line_text ++ fields_text s)
      so_far s st = sent_on before now mid line_text (fields_text s) first (fields.out s st)

      pub tree_reported : (new : Option (List ℕ)) → Reports M sessions_text mid new → Reports M Tree before new
      tree_reported new later = record {
        out = λ s st. sent_on before mid new (line_text ++ fields_text s) (sessions_text s) (so_far s st) (later.out s st)
            ∙ ap (λ u. after before u) (append_assoc line_text (fields_text s) (sessions_text s) ∙ parts_of s st);
      }

      pub sessions_unsent : (new : Option (List ℕ)) (fault : DebugFault) (failed : Bool) → ReportsPart M sessions_text fault failed mid new →
          ReportsPart M Tree fault failed before new
      sessions_unsent new fault failed later = record {
        reported = later.reported;
        fails = later.fails;
        out = λ s st.
            let sent = later.out s st in
            let all = cut_on before mid new (line_text ++ fields_text s) (sessions_text s) [] sent.0 (so_far s st) sent.1 in (
              all.0,
              all.1 ∙ ap (λ u. after before (take all.0 u)) (ap (λ (u : List ℕ). (line_text ++ fields_text s) ++ u) (append-nil (sessions_text s))
                  ∙ append_assoc line_text (fields_text s) (sessions_text s) ∙ parts_of s st),
            );
      }

    pub line_unsent : (before new : Option (List ℕ)) (fault : DebugFault) (failed : Bool) → IsCut line_text fault failed before new →
        ReportsPart M Tree fault failed before new
    line_unsent before new fault failed cut = record {
      reported = cut.reported;
      fails = cut.fails;
      out = λ s st.
          let all = cut_on before before new [] line_text (fields_text s ++ sessions_text s) cut.sent (none_sent before) cut.out in
          (all.0, all.1 ∙ ap (λ u. after before (take all.0 u)) (parts_of s st));
    }

    pub fields_unsent : (before now new : Option (List ℕ)) (fault : DebugFault) (failed : Bool) →
        now ≡ after before line_text → ReportsPart M fields_text fault failed now new → ReportsPart M Tree fault failed before new
    fields_unsent before now new fault failed first later = record {
      reported = later.reported;
      fails = later.fails;
      out = λ s st.
          let sent = later.out s st in
          let all = cut_on before now new line_text (fields_text s) (sessions_text s) sent.0 first sent.1 in
          (all.0, all.1 ∙ ap (λ u. after before (take all.0 u)) (parts_of s st));
    }

  -- ---- the sessions one after another

  -- a cell's number is below that of the lists of servers
  pub listed_there : (n : ℕ) → Lives m.cells n → (s : State) → Refines M s → n < length m.clients.sessions
  listed_there n lives s st = grind (arith, nat_tests)

  module _ (ns : NameLists) (n depth : ℕ) (w : Way) where
    abbrev pub done_text : List ℕ → State → List ℕ
    done_text clients s = flat_map (owned_line ns) (flat_map (beyond n depth w s) clients)

    one_more : (clients : List ℕ) (c : ℕ) (s : State) → done_text (clients ++ c ∷ []) s ≡ done_text clients s ++ flat_map (owned_line ns) (beyond n depth w s c)
    one_more clients c s = grind (arith, nat_tests, flat_map-append, append-nil)

    pub owned_object_reported : (clients : List ℕ) (c : ℕ) (before now new : Option (List ℕ)) → Reports M (done_text clients) before now →
        Reports M (λ s. flat_map (owned_line ns) (beyond n depth w s c)) now new → Reports M (done_text (clients ++ c ∷ [])) before new
    owned_object_reported clients c before now new was later = search (arith, nat_tests, sent_on before now new, one_more clients c)

    -- those that come behind them
    pub owned_object_cut : (clients : List ℕ) (c : ℕ) (others : List ℕ) →
        ((s : State) → Refines M s → (clients ++ c ∷ []) ++ others ≡ owned_objects_of n s) → (before now new : Option (List ℕ)) (fault : DebugFault) (failed : Bool) →
        Reports M (done_text clients) before now → ReportsPart M (λ s. flat_map (owned_line ns) (beyond n depth w s c)) fault failed now new →
        ReportsPart M (λ s. flat_map (owned_line ns) (flat_map (beyond n depth w s) (owned_objects_of n s))) fault failed before new
    owned_object_cut clients c others all before now new fault failed was cut = record {
      reported = cut.reported;
      fails = cut.fails;
      out = λ s st.
          let sent = cut.out s st in
          let here = flat_map (owned_line ns) (beyond n depth w s c) in
          let rest = flat_map (owned_line ns) (flat_map (beyond n depth w s) others) in
          let part = cut_on before now new (done_text clients s) here rest sent.0 (was.out s st) sent.1 in
          let whole : done_text clients s ++ (here ++ rest) ≡ flat_map (owned_line ns) (flat_map (beyond n depth w s) (owned_objects_of n s)) =
          sym (append_assoc (done_text clients s) here rest) ∙ ap (λ (u : List ℕ). u ++ rest) (sym (one_more clients c s))
          ∙ sym (flat_map-append (owned_line ns) (flat_map (beyond n depth w s) (clients ++ c ∷ [])) (flat_map (beyond n depth w s) others))
          ∙ ap (flat_map (owned_line ns)) (sym (flat_map-append (beyond n depth w s) (clients ++ c ∷ []) others))
          ∙ ap (λ cs. flat_map (owned_line ns) (flat_map (beyond n depth w s) cs)) (all s st) in
          (part.0, part.1 ∙ ap (λ u. after before (take part.0 u)) whole);
    }

    pub owned_objects_reported : (clients : List ℕ) → clients ≡ sessions_at m.clients n → (before now : Option (List ℕ)) →
        Reports M (done_text clients) before now → Reports M (λ s. flat_map (owned_line ns) (flat_map (beyond n depth w s) (owned_objects_of n s))) before now
    owned_objects_reported clients all before now was =
        record { out = λ s st. was.out s st ∙ ap (λ cs. after before (done_text cs s)) (all ∙ st.agrees.services.clients.sessions n) }

  -- where nothing is held, nothing hangs
  pub tree_unreported : (ns : NameLists) (d : ℕ) (w : Way) (r : Place) (out : Option (List ℕ)) → ShowsNone M r →
      Reports M (λ s. owners_text ns (tree s.cells d w (held s.cells r))) out out
  tree_unreported ns d w r out none = record { out = grind (arith, nat_tests, none_sent out, tree_none) }

  -- as many generations as there are hang from an outer place
  pub grown_reported : (ns : NameLists) (outer : Outer) (r : Place) (before now : Option (List ℕ)) → Reports M (λ s. owners_text ns (tree s.cells 257
      (record { outer = outer; branches = [] }) (held s.cells r))) before now → Reports M (λ s. owners_text ns (grown s.cells outer r)) before now
  unfolding generations
  grown_reported ns outer r before now reported = reported

  pub grown_cut : (ns : NameLists) (outer : Outer) (r : Place) (fault : DebugFault) (failed : Bool) (before now : Option (List ℕ)) →
      ReportsPart M (λ s. owners_text ns (tree s.cells 257 (record { outer = outer; branches = [] }) (held s.cells r))) fault failed before now →
      ReportsPart M (λ s. owners_text ns (grown s.cells outer r)) fault failed before now
  unfolding generations
  grown_cut ns outer r fault failed before now cut = cut

  -- nothing hangs from a place that holds nothing
  pub grown_unreported : (ns : NameLists) (outer : Outer) (r : Place) (out : Option (List ℕ)) → ShowsNone M r → Reports M (λ s. owners_text ns (grown s.cells outer r)) out out
  grown_unreported ns outer r out none = tree_unreported ns generations (record { outer = outer; branches = [] }) r out none

  -- nothing hangs from registers that own nothing
  pub none_hang : (ns : NameLists) (depth frames : ℕ) (out : Option (List ℕ)) → ((i : ℕ) → ShowsNone M (Register depth i)) →
      Reports M (λ s. owners_text ns (frame_registers s.cells depth frames 16)) out out
  none_hang ns depth frames out none = record {
    out = λ s st. none_sent out
        ∙ ap (λ xs. after out (owners_text ns xs)) (sym (gathered_none 16 (λ i. grown s.cells (In_register frames i) (Register depth i))
        (λ i. tree_none s.cells generations (record { outer = In_register frames i; branches = [] }) (held s.cells (Register depth i)) ((none i).each s st))));
  }
