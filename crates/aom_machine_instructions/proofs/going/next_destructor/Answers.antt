-- That of the parent of the method's class.
use Rattle.std.proofs.Common.{◌∙◌, ap, sym, ◌≡◌, Some, None}
use Rattle.aom_image.specs.Views.{class_in, method_class}
use Rattle.aom_roles.specs.Families.{parent_of, parent_above, parent_by}
use Rattle.aom_semantics.specs.Destruction.{class_destructor}
use Rattle.aom_machine_instructions.proofs.going.next_destructor.Goals as goal

pub returns-in-Some-parent_of : goal.returns-in-Some-parent_of
unfolding class_in
returns-in-Some-parent_of c =
    let class : method_class c.args.linked.now c.args.destructor ≡ Some c.in-Some.class = ap class_in c.method.ensures ∙ c.in-Some.is in
    let above : parent_above c.args.linked.now c.args.destructor ≡ Some c.in-Some-parent_of.parent =
    ap (parent_by c.args.linked.now) class ∙ ap (λ q. parent_of q c.in-Some.class) (sym c.image.ensures) ∙ sym c.parent_of.ensures ∙ c.in-Some-parent_of.is in
    c.role.ensures ∙ ap (class_destructor c.args.linked.now) (sym above)

pub returns-in-None-parent_of : goal.returns-in-None-parent_of
unfolding class_in
returns-in-None-parent_of c =
    let class : method_class c.args.linked.now c.args.destructor ≡ Some c.in-Some.class = ap class_in c.method.ensures ∙ c.in-Some.is in
    let above : parent_above c.args.linked.now c.args.destructor ≡ None =
    ap (parent_by c.args.linked.now) class ∙ ap (λ q. parent_of q c.in-Some.class) (sym c.image.ensures) ∙ sym c.parent_of.ensures ∙ c.in-None-parent_of.is in
    ap (class_destructor c.args.linked.now) (sym above)

pub returns-in-None : goal.returns-in-None
unfolding class_in
returns-in-None c =
    let class : method_class c.args.linked.now c.args.destructor ≡ None = ap class_in c.method.ensures ∙ c.in-None.is in
    ap (λ x. class_destructor c.args.linked.now (parent_by c.args.linked.now x)) (sym class)
