-- The server of a class that was enlisted first: it lives, is of that class, and clients find its queue.
use Rattle.std.proofs.lemmas.Bool.Decides.{nat_tests}
use Rattle.std.proofs.Common.{List, None, Option, Some, [], ap, arith, length, refl, sym, true, ℕ, ◌<◌, ◌∙◌, ◌∷◌, ◌≡◌}
use Rattle.std.specs.Prelude.{IsSome, is_some, option_map, ◌||◌}
use Rattle.std.proofs.lemmas.Bool.{and_parts, eq-eqb, eqb-true, false≢true}
use Rattle.std.proofs.lemmas.Option.{none-some, same_Some}
use Rattle.aom_cells.specs.Heap.{Lives, cell_at, class_at}
use Rattle.aom_clients.specs.declared.server.Server.{Server as Asked_server}
use Rattle.aom_image.specs.Image.{Image}
use Rattle.aom_image.specs.Views.{class_at as declared_at}
use Rattle.aom_image.specs.declared.class.ClassDecl.{ClassDecl}
use Rattle.aom_image.specs.declared.class.ClassKind.{ClassKind}
use Rattle.aom_image.specs.declared.class.ClassKind.TheVariants.{Server}
use Rattle.aom_image.specs.declared.method.Thing.{Thing}
use Rattle.aom_image.specs.declared.method.Thing.TheVariants.{Message, Object as An_object_of}
use Rattle.aom_roles.specs.Things.{is_object}
use Rattle.aom_clients.specs.Lists.{first_of, list_at}
use Rattle.aom_machine.proofs.MachineInstructionsLemmas.{kind_found}
use Rattle.aom_roles.specs.Classes.{kind_in, sessions_in, sessions_of}
use Rattle.aom_roles.specs.Shapes.{kind_of}
use Rattle.aom_semantics.specs.Clients.{is_of_class, most_of}
use Rattle.aom_semantics.specs.Places.{Object, Request, named, requested}
use Rattle.aom_semantics.specs.Servers.{is_among, is_server}
use Rattle.aom_machine_state.specs.Listing.{lists}
use Rattle.aom_machine_state.specs.Stands.{Stands}
use Rattle.aom_machine_state.specs.declared.parts.Parts.{Parts}
use Rattle.aom_machine.specs.Clients.{first_server}
use Rattle.aom_machine.proofs.Turning.{class_in}
use Rattle.aom_machine.proofs.MachineStateLemmas.{cell_of, class_reported}

-- what is known of it
pub record IsFirst (p : Image) (m : Parts) (class n : ℕ) : Type 0 where
  pub lives : Lives m.cells n
  pub is : class_at m.cells n ≡ Some class
  pub below : n < length m.clients.queues
  pub most : ℕ
  pub session : ℕ
  pub kind : kind_of p (Some class) ≡ Some (Server most session)

-- it is in its list
among_first : (ns : List ℕ) (n : ℕ) → first_of ns ≡ Some n → is_among n ns ≡ true
among_first [] n e = absurd (none-some _ e)
among_first (k ∷ ns) n e = ap (λ b. b || is_among n ns) (eq-eqb k n (same_Some _ _ e))

-- what is of a class of servers
of_servers : (k : Option ClassKind) → is_some (sessions_in k) ≡ true → (most session : ℕ) × (k ≡ Some (Server most session))
unfolding sessions_in sessions_of
of_servers (Some (Server most session)) e = (most, session, refl)
of_servers _ e = absurd (false≢true e)

of_class : (class : ℕ) (t : Thing) → is_of_class class t ≡ true → t ≡ An_object_of class
of_class class (An_object_of c) e = ap An_object_of (eqb-true c class e)
of_class class Message e = absurd (false≢true e)

pub first_known : (p : Image) (m : Parts) → Stands (record { image = p; parts = m }) → (class n : ℕ) →
    first_of (list_at m.listed class) ≡ Some n → IsFirst p m class n
first_known p m (s, st) class n first =
    go (named s.cells n) refl (requested s.cells n) (sym (st.agrees.services.listed.there n class) ∙ among_first (list_at m.listed class) n first)
  where
    at : (o : Object) → named s.cells n ≡ Some o → is_server p o.thing ≡ true → o.thing ≡ An_object_of class → IsFirst p m class n
    at o lives serves thing =
        let object = ap is_object thing in
        let c = cell_of p m.cells s.cells n o st.agrees.cells lives object in
        let kind = of_servers (kind_of p (Some class)) (sym (ap (is_server p) thing) ∙ serves) in
        record {
          lives = ap is_some c.1;
          is = class_in (cell_at m.cells n) class (class_reported p m.cells s.cells n o st.agrees.cells lives object ∙ ap Some thing);
          below = (let small = st.agrees.cells.below n c.0 c.1 in let limit = st.agrees.cells.limit in let many = st.agrees.services.sized.queues in
              omega (arith, small, limit, many));
          most = kind.0;
          session = kind.1;
          kind = kind.2;
        }

    go : (x : Option Object) → named s.cells n ≡ x → (q : Option Request) → lists p class x q ≡ true → IsFirst p m class n
    go None e q listed = absurd (false≢true listed)
    go (Some o) e None listed = absurd (false≢true listed)
    go (Some o) e (Some r) listed = let both = and_parts (is_server p o.thing) (is_of_class class o.thing) listed in at o e both.0 (of_class class o.thing both.1)

-- ---- as the machine finds its class

module _ (p : Image) (m : Parts) (class n : ℕ) (known : IsFirst p m class n) where
  -- its class is one of the image
  pub declared_first : (k : ℕ) → class_at m.cells n ≡ Some k → IsSome (declared_at p k)
  unfolding kind_in kind_of
  declared_first k found = go (declared_at p k) refl
    where
      same : class ≡ k
      same = same_Some class k (sym known.is ∙ found)

      kind : kind_in (declared_at p k) ≡ Some (Server known.most known.session)
      kind = ap (λ i. kind_in (declared_at p i)) (sym same) ∙ known.kind

      go : (o : Option ClassDecl) → declared_at p k ≡ o → IsSome (declared_at p k)
      go None e = absurd (none-some _ (sym (ap kind_in e) ∙ kind))
      go (Some d) e = ap is_some e

  -- and a class of servers
  pub of_kind : (k : ℕ) (d : ClassDecl) → class_at m.cells n ≡ Some k → declared_at p k ≡ Some d → d.kind ≡ Server known.most known.session
  of_kind k d found declared = grind (arith, nat_tests, same_Some class k, same_Some d.kind, kind_found p (Some class) k d)

  -- it is found with the most sessions that its class takes
  pub first_served : first_of (list_at m.listed class) ≡ Some n → (most session : ℕ) → Server known.most known.session ≡ Server most session →
      Some (record { cell = n; most = most }) ≡ first_server p m.listed class
  first_served first most session same = ap (λ k. Some (found (most_of (Some k)))) (sym same) ∙ ap (λ k. Some (found (most_of k))) (sym known.kind)
      ∙ ap (option_map (λ i. record { cell = i; most = most_of (kind_of p (Some class)) })) (sym first)
    where
      found : ℕ → Asked_server
      found most = record { cell = n; most = most }
