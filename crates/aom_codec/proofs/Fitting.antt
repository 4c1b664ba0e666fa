-- An image fits its format exactly where it is well formed, its length aside.
use Rattle.std.proofs.Common.{◌≡◌, ℕ, zero, suc, ◌+◌, ◌<◌, ◌≤◌, Bool, true, false, cond, eqb, ltb, leb, List, [], ◌∷◌, length, All, count_by, Option, Some}
use Rattle.std.proofs.Common.{None, IfSome, Ok, Err, refl, ap, subst, arith, lit<, slice_index_or, sym, ◌∙◌}
use Rattle.std.proofs.lemmas.Bool.{ltb-true, lt-ltb, cases_Bool, cond-true, cond-false}
use Rattle.std.proofs.lemmas.Bool.Decides.{nat_tests}
use Rattle.std.proofs.lemmas.List.Elements.{All-nil, All-cons}
use Rattle.std.proofs.lemmas.List.Sums.{sum_by-cons}
use Rattle.aom_image.specs.Image.{Image}
use Rattle.aom_codec.specs.Serialization.{provider_sort, class_number, thing_number, argument_number, role_number, gives_byte, result_number, kind_byte}
use Rattle.aom_image.specs.WellFormed.{ThingFits, ProviderFits, KindFits, ClassFits, ParentFits, OverFits, FamiliesFit, is_server_kind, is_server}
use Rattle.aom_image.specs.WellFormed.{ArgumentFits, GivesFits, MethodFits, HeaderFits, ClassesFit, MethodsFit}
use Rattle.aom_instructions.specs.Fits.{InstrFits, limits}
use Rattle.aom_instructions.specs.Versions.{includes}
use Rattle.aom_codec.specs.Codec.{Codec, ◌>>=◌, byte, is_between_dispatches, next_u16, always, keep, FitMany, limited}
use Rattle.aom_codec.specs.Instructions.{Bounded, instruction}
use Rattle.aom_codec.specs.Format.{version as version_format, parent_from, parent, over, index_from, class_from, class_or_none, thing_from, thing}
use Rattle.aom_codec.specs.Format.{argument_from, argument, last_provider, sort_of_provider, provider, kind, kind_sort, class, count_server, role, flags}
use Rattle.aom_codec.specs.Format.{states, result, gives_from, method, image}
use Rattle.aom_codec.specs.declared.fault.LoadFault.TheVariants.{BadOperand}
use Rattle.aom_instructions.specs.declared.version.Version.{Version}
use Rattle.aom_instructions.specs.declared.version.Version.TheVariants as versions
use Rattle.aom_image.specs.declared.class.ClassDecl.{ClassDecl}
use Rattle.aom_image.specs.declared.class.ClassKind.{ClassKind}
use Rattle.aom_image.specs.declared.class.ClassKind.TheVariants as kinds
use Rattle.aom_image.specs.declared.class.Provider.{Provider}
use Rattle.aom_image.specs.declared.method.Thing.{Thing}
use Rattle.aom_image.specs.declared.method.Thing.TheVariants.{Object, Message}
use Rattle.aom_image.specs.declared.method.Argument.{Argument}
use Rattle.aom_image.specs.declared.method.Gives.{Gives}
use Rattle.aom_image.specs.declared.method.Gives.TheVariants as gives
use Rattle.aom_image.specs.declared.method.Role.{Role}
use Rattle.aom_image.specs.declared.method.MethodFlags.{MethodFlags}
use Rattle.aom_image.specs.declared.method.States.{States}
use Rattle.aom_image.specs.declared.method.Method.{Method}
use Rattle.aom_codec.proofs.Lengths.{head_of, rest_of}
use Rattle.aom_codec.proofs.Laws.{guard_ok, ok_is, passed, FitEach, fit_each, implied, one_more, marked_or, made_of, kept}
use Rattle.aom_codec.proofs.Returning.{index_returns, took}
use Rattle.aom_codec.proofs.Formats.{between_true, between_is}
use Rattle.aom_codec.proofs.InstructionFits.{in_range, fits}

-- ---- lists

all_fit : {X : Type 0} (c : Codec X) (n : ℕ) (xs : List X) → FitMany (always c) keep tt n xs → All c.Fits xs
all_fit {X} c n xs fits = by_each n xs (fit_each (always c) keep tt n xs fits)
  where
    by_each : (n : ℕ) (xs : List X) → FitEach (always c) keep tt n xs → All c.Fits xs
    by_each _ _ implied = All-nil c.Fits
    by_each _ _ (one_more {n = n} x xs here more) = All-cons c.Fits x xs here (by_each n xs more)

fit_all : {X : Type 0} (c : Codec X) (xs : List X) → All c.Fits xs → FitMany (always c) keep tt (length xs) xs
fit_all c [] h = tt
fit_all c (x ∷ xs) h = (head_of c.Fits x xs h, fit_all c xs (rest_of c.Fits x xs h))

each : {X : Type 0} (P Q : X → Type 0) (xs : List X) → ((x : X) → P x → Q x) → All P xs → All Q xs
each P Q xs f h = λ k d lt. f (slice_index_or xs k d) (h k d lt)

limited_byte_fits : (low high n : ℕ) → high < 256 → low ≤ n → n ≤ high → (limited byte low high).Fits n
limited_byte_fits low high n small p q = (omega arith, between_is low high n p q)

limited_pair_fits : (low high n : ℕ) → high < 65536 → low ≤ n → n ≤ high → (limited next_u16 low high).Fits n
limited_pair_fits low high n small p q = (omega arith, between_is low high n p q)

-- ---- numbers that name things

index_is : (classes n : ℕ) → n < classes → index_from classes n ≡ Ok n
index_is classes n lt = grind (arith, nat_tests, lt-ltb n classes lt)

eqb_below : (n m : ℕ) → n < m → eqb n m ≡ false
eqb_below n m lt = grind (arith, nat_tests, lt)

leb_below : (n m : ℕ) → n < m → leb m n ≡ false
leb_below n m lt = grind (arith, nat_tests, lt)

-- what stands for a class is below their number
in_classes : (classes n c : ℕ) → index_from classes n ≡ Ok c → c < classes
in_classes classes n c e = let i = index_returns classes n c e in omega (arith, i.0, i.1)

class_in : (classes n : ℕ) (y : Option ℕ) → class_from classes n ≡ Ok y → IfSome y (λ c. c < classes)
class_in classes n y e =
    marked_or (λ (o : Option ℕ). IfSome o (λ c. c < classes)) (eqb n 0xffff) None (index_from classes n) (λ c. Some c) y (λ is. tt) (in_classes classes n) e

class_number_fits : (classes : ℕ) (y : Option ℕ) → classes ≤ 256 → IfSome y (λ c. c < classes) → (class_or_none classes).Fits y
class_number_fits classes x few h = grind (arith, nat_tests, eqb_below, index_is classes)

thing_in : (classes n : ℕ) (y : Thing) → thing_from classes n ≡ Ok y → ThingFits classes y
thing_in classes n y e = marked_or (ThingFits classes) (eqb n 0xfffe) Message (index_from classes n) (λ c. Object c) y (λ is. tt) (in_classes classes n) e

thing_is : (classes : ℕ) (t : Thing) → classes ≤ 256 → ThingFits classes t → thing_from classes (thing_number t) ≡ Ok t
thing_is classes x few h = grind (arith, nat_tests, eqb_below, index_is classes)

thing_small : (classes : ℕ) (t : Thing) → classes ≤ 256 → ThingFits classes t → thing_number t ≤ 0xfffe
thing_small classes x few h = grind arith

thing_number_fits : (classes : ℕ) (t : Thing) → classes ≤ 256 → ThingFits classes t → (thing classes).Fits t
thing_number_fits classes t few h = (omega (arith, thing_small classes t few h), thing_is classes t few h)

argument_in : (classes n : ℕ) (y : Argument) → argument_from classes n ≡ Ok y → ArgumentFits classes y
argument_in classes n y e = grind (arith, nat_tests, marked_or, thing_in)

argument_number_fits : (classes : ℕ) (a : Argument) → classes ≤ 256 → ArgumentFits classes a → (argument classes).Fits a
argument_number_fits classes x few h = grind (arith, thing_small classes, eqb_below, thing_is classes)

own_in : (classes n : ℕ) (make : Thing → Gives) (y : Gives) → ((t : Thing) → ThingFits classes t → GivesFits classes (make t))
    → cond (eqb n 0xffff) (Err BadOperand) (thing_from classes n >>= λ t. Ok (make t)) ≡ Ok y → GivesFits classes y
own_in classes n make y fit e = grind (arith, nat_tests, made_of, thing_in, kept)

gives_in : (classes sort n : ℕ) (y : Gives) → sort ≤ 4 → gives_from classes sort n ≡ Ok y → GivesFits classes y
gives_in classes zero n y low e = subst (GivesFits classes) (guard_ok (eqb n 0xffff) BadOperand gives.Nothing y e).1 tt
gives_in classes (suc zero) n y low e = subst (GivesFits classes) (guard_ok (eqb n 0xffff) BadOperand gives.Word y e).1 tt
gives_in classes (suc (suc zero)) n y low e = own_in classes n (λ t. gives.Own t) y (λ t h. h) e
gives_in classes (suc (suc (suc zero))) n y low e = own_in classes n (λ t. gives.Maybe t) y (λ t h. h) e
gives_in classes (suc (suc (suc (suc zero)))) n y low e =
    made_of (GivesFits classes) (index_from classes n) (λ c. gives.Left c) y (in_classes classes n) (kept (leb 0xfffe n) _ BadOperand y e).1
gives_in classes (suc (suc (suc (suc (suc k))))) n y low e = absurd (omega arith)

gives_number_fits : (classes : ℕ) (y : Gives) → classes ≤ 256 → GivesFits classes y → (result classes (gives_byte y)).Fits y
gives_number_fits classes gives.Nothing few h = (lit< tt, refl)
gives_number_fits classes gives.Word few h = (lit< tt, refl)
gives_number_fits classes (gives.Own t) few h = grind (arith, thing_small classes t few h, eqb_below, thing_is classes t few h)
gives_number_fits classes (gives.Maybe t) few h = grind (arith, thing_small classes t few h, eqb_below, thing_is classes t few h)
gives_number_fits classes (gives.Left c) few h = grind (arith, leb_below c 0xfffe, index_is classes c h)

-- ---- classes

-- a version that reads the last sort has tokens
has_tokens : (version : Version) → is_between_dispatches 0 (last_provider version) 3 ≡ true → includes version versions.Two ≡ true
has_tokens x h = grind arith

provider_in : (version : Version) (natives : ℕ) (p : Provider) → (provider version natives).Fits p → ProviderFits version natives p
provider_in version natives x f = grind (arith, nat_tests, ltb-true, has_tokens)

-- each version reads the sorts of its providers
sort_fits : (version : Version) (natives : ℕ) (p : Provider) → ProviderFits version natives p → (sort_of_provider version).Fits (provider_sort p)
sort_fits x natives y h = grind arith

provider_fits : (version : Version) (natives : ℕ) (p : Provider) → natives ≤ 16 → ProviderFits version natives p → (provider version natives).Fits p
provider_fits version natives x few h = grind (arith, nat_tests, sort_fits version natives, lt-ltb)

kind_in : (version : Version) (classes natives : ℕ) (k : ClassKind) → (kind version classes natives (kind_byte k)).Fits k → KindFits version classes natives k
kind_in version classes natives kinds.Plain f = tt
kind_in version classes natives (kinds.Active p) f = provider_in version natives p f.0.0
kind_in version classes natives (kinds.Server sessions session) f =
    let low = between_true 1 64 sessions f.0.0.1 in
    (low.0, low.1, (index_returns classes session session f.0.1.1).1)
kind_in version classes natives kinds.Session f = tt

kind_fits : (version : Version) (classes natives : ℕ) (k : ClassKind) → classes ≤ 256 → natives ≤ 16 → KindFits version classes natives k
    → (kind version classes natives (kind_byte k)).Fits k
kind_fits version classes natives (kinds.Server sessions session) few some_natives h =
    let lt : session < classes = h.2 in
    ((limited_byte_fits 1 64 sessions (lit< tt) h.0 h.1, (omega arith, index_is classes session lt)), refl)
kind_fits version classes natives x few some_natives h = grind (arith, nat_tests, provider_fits version natives)

class_in_range : (version : Version) (classes natives servers : ℕ) (c : ClassDecl) → (class version classes natives servers).Fits c →
    ClassFits version classes natives c
class_in_range version classes natives servers c f = record {
  kind = kind_in version classes natives c.kind f.0.1.1.1.0;
  words = (between_true 0 8 c.words f.0.1.0.1).1;
  field_count = (between_true 0 8 (length c.fields) f.0.1.1.0.1).1;
  fields = each (thing classes).Fits (ThingFits classes) c.fields (λ t h. thing_in classes (thing_number t) t h.1)
      (all_fit (thing classes) (length c.fields) c.fields f.0.1.1.1.1.0);
  budget = f.0.1.1.1.1.1.0.0;
  budgeted = f.0.1.1.1.1.1.0.1;
}

-- ---- families

parent_from_in : (k : ClassKind) (classes n : ℕ) (o : Option ℕ) → parent_from k classes n ≡ Ok o → ParentFits versions.Two classes k o
parent_from_in k classes n o e = grind (arith, nat_tests, took, ok_is, passed, made_of, in_classes classes n)

parent_in : (version : Version) (k : ClassKind) (classes : ℕ) (o : Option ℕ) → (parent version k classes).Fits o → ParentFits version classes k o
parent_in versions.One k classes o f = subst (ParentFits versions.One classes k) (ok_is _ o f.1) tt
parent_in versions.Two k classes o f = parent_from_in k classes (class_number o) o f.0.0.1

parent_fits : (version : Version) (k : ClassKind) (classes : ℕ) (o : Option ℕ) → classes ≤ 256 → ParentFits version classes k o → (parent version k classes).Fits o
parent_fits x k classes y few h = grind (arith, nat_tests, eqb_below, index_is classes)

over_in : (version : Version) (methods : ℕ) (o : Option ℕ) → (over version methods).Fits o → OverFits version methods o
over_in versions.One methods o f = subst (OverFits versions.One methods) (ok_is _ o f.1) tt
over_in versions.Two methods o f = marked_or (OverFits versions.Two methods) (eqb (class_number o) 0xffff) None (index_from methods (class_number o))
    (λ m. Some m) o (λ is. tt) (λ m h. (refl, in_classes methods (class_number o) m h)) f.0.0.1

over_fits : (version : Version) (methods : ℕ) (o : Option ℕ) → methods ≤ 1024 → OverFits version methods o → (over version methods).Fits o
over_fits x methods y few h = grind (arith, nat_tests, eqb_below, index_is methods)

-- ---- classes and servers

-- a server stands after seven at most
abbrev first_ok : ℕ → ClassKind → Bool
first_ok servers k = cond (eqb (kind_byte k) 2) (ltb servers 8) true

server_sort : (k : ClassKind) → eqb (kind_byte k) 2 ≡ is_server_kind k
server_sort x = grind arith

first_fits : (servers : ℕ) (k : ClassKind) → (is_server_kind k ≡ true → servers < 8) → first_ok servers k ≡ true
first_fits servers k h = grind (arith, cases_Bool, cond-true, lt-ltb servers 8, server_sort k, cond-false)

first_in : (servers : ℕ) (k : ClassKind) → first_ok servers k ≡ true → is_server_kind k ≡ true → servers < 8
first_in servers k h is = ltb-true servers 8 (sym (cond-true _ _ _ (server_sort k ∙ is)) ∙ h)

kind_sort_fits : (servers : ℕ) (k : ClassKind) → first_ok servers k ≡ true → (kind_sort servers).Fits (kind_byte k)
kind_sort_fits servers x h = grind arith

class_fits : (version : Version) (classes natives servers : ℕ) (c : ClassDecl) → classes ≤ 256 → natives ≤ 16 → first_ok servers c.kind ≡ true →
    ClassFits version classes natives c → ParentFits version classes c.kind c.parent → (class version classes natives servers).Fits c
class_fits version classes natives servers c few some_natives first h above = (
  grind (
    arith,
    kind_sort_fits servers c.kind first,
    limited_byte_fits 0 8 c.words,
    limited_byte_fits 0 8,
    kind_fits version classes natives c.kind few some_natives h.kind,
    fit_all,
    each (ThingFits classes),
    thing_number_fits classes,
    parent_fits version c.kind classes c.parent few above,
  ),
  refl,
)

-- one more server, or none
next_low : (b : Bool) (servers : ℕ) → servers ≤ 8 → (b ≡ true → servers < 8) → cond b (servers + 1) servers ≤ 8
next_low x servers low h = grind arith

next_is : (b : Bool) (servers : ℕ) → cond b (servers + 1) servers ≡ servers + cond b 1 0
next_is x servers = grind arith

count-cons : (c : ClassDecl) (cs : List ClassDecl) → count_by is_server (c ∷ cs) ≡ cond (is_server c) 1 0 + count_by is_server cs
count-cons c cs = sum_by-cons (λ x. cond (is_server x) 1 0) c cs

-- what is known of the classes that were read
record ClassesIn (version : Version) (classes natives servers : ℕ) (cs : List ClassDecl) : Type 0 where
  each : All (ClassFits version classes natives) cs
  parents : All (λ c. ParentFits version classes c.kind c.parent) cs
  few : servers + count_by is_server cs ≤ 8

classes_in : (version : Version) (classes natives n servers : ℕ) (cs : List ClassDecl) →
    servers ≤ 8 → FitEach (class version classes natives) count_server servers n cs → ClassesIn version classes natives servers cs
classes_in version classes natives _ servers _ low implied = record {
  each = All-nil (ClassFits version classes natives);
  parents = All-nil (λ c. ParentFits version classes c.kind c.parent);
  few = omega arith;
}
classes_in version classes natives _ servers _ low (one_more {n = n} c cs fit more) =
    let first = first_in servers c.kind fit.0.0.1 in
    let rest = classes_in version classes natives n (count_server servers c) cs (next_low (is_server c) servers low first) more in record {
      each = All-cons (ClassFits version classes natives) c cs (class_in_range version classes natives servers c fit) rest.each;
      parents = All-cons (λ c. ParentFits version classes c.kind c.parent) c cs (parent_in version c.kind classes c.parent fit.0.1.1.1.1.1.1) rest.parents;
      few = omega (arith, rest.few, next_is (is_server c) servers, count-cons c cs);
    }

some_server : (b : Bool) (servers n : ℕ) → servers + (cond b 1 0 + n) ≤ 8 → b ≡ true → servers < 8
some_server b servers n h is = omega (arith, ap {B = ℕ} (λ c. cond c 1 0) is)

classes_fit : (version : Version) (classes natives servers : ℕ) (cs : List ClassDecl) → classes ≤ 256 →
    natives ≤ 16 → All (ClassFits version classes natives) cs → All (λ c. ParentFits version classes c.kind c.parent) cs → servers + count_by is_server cs ≤ 8 →
    FitMany (class version classes natives) count_server servers (length cs) cs
classes_fit version classes natives servers [] few some_natives h parents low = tt
classes_fit version classes natives servers (c ∷ cs) few some_natives h parents low =
    let count = count-cons c cs in
    let next = next_is (is_server c) servers in (
      class_fits version classes natives servers c few some_natives (first_fits servers c.kind (some_server (is_server c) servers (count_by is_server cs)
          (omega arith))) (head_of (ClassFits version classes natives) c cs h) (head_of (λ c. ParentFits version classes c.kind c.parent) c cs parents),
      classes_fit version classes natives (count_server servers c) cs few some_natives (rest_of (ClassFits version classes natives) c cs h)
          (rest_of (λ c. ParentFits version classes c.kind c.parent) c cs parents) (omega arith),
    )

-- ---- methods

role_fits : (r : Role) → role.Fits r
unfolding role_number
role_fits x = grind arith

flags_fits : (f : MethodFlags) → f.0 < 4 → flags.Fits f
flags_fits f h = search (arith, nat_tests, lt-ltb f.0 4 h)

states_fits : (s : States) → s.0 < 64 → states.Fits s
states_fits s h = search (arith, nat_tests, lt-ltb s.0 64 h)

flags_in : (f : MethodFlags) → flags.Fits f → f.0 < 4
flags_in f h = ltb-true f.0 4 (guard_ok (ltb f.0 4) BadOperand (record { 0 = f.0 }) f h.1).0

states_in : (s : States) → states.Fits s → s.0 < 64
states_in s h = ltb-true s.0 64 (guard_ok (ltb s.0 64) BadOperand (record { 0 = s.0 }) s h.1).0

gives_small : (g : Gives) → gives_byte g ≤ 4
gives_small x = grind arith

method_in_range : (version : Version) (classes methods : ℕ) (m : Method) → (method version classes methods).Fits m → MethodFits version classes methods m
method_in_range version classes methods m f =
    let l = limits version classes methods (length m.code) in
    let places = between_true 1 1024 (length m.code) f.0.1.1.1.1.1.1.1.1.1.0.1 in
    record {
      class = class_in classes (class_number m.class) m.class f.0.0.1;
      flags = flags_in m.flags f.0.1.1.0;
      before = states_in m.before f.0.1.1.1.0;
      after = states_in m.after f.0.1.1.1.1.0;
      argument_count = (between_true 0 6 (length m.arguments) f.0.1.1.1.1.1.0.1).1;
      arguments = each (argument classes).Fits (ArgumentFits classes) m.arguments (λ a h. argument_in classes (argument_number a) a h.1)
          (all_fit (argument classes) (length m.arguments) m.arguments f.0.1.1.1.1.1.1.1.0);
      gives = gives_in classes (gives_byte m.gives) (result_number m.gives) m.gives (gives_small m.gives) f.0.1.1.1.1.1.1.1.1.0.1;
      some_code = places.0;
      code_length = places.1;
      code = each (instruction l).Fits (InstrFits l) m.code (λ i h. in_range l i h) (all_fit (instruction l) (length m.code) m.code f.0.1.1.1.1.1.1.1.1.1.1.1);
    }

method_fits : (version : Version) (classes methods : ℕ) (m : Method) →
    classes ≤ 256 → methods ≤ 1024 → MethodFits version classes methods m → OverFits version methods m.over → (method version classes methods).Fits m
method_fits version classes methods m few some_methods h overridden_methods =
    let l = limits version classes methods (length m.code) in
    let bounded : Bounded l = record { classes = few; methods = some_methods; places = h.code_length } in
    let small = gives_small m.gives in (
      (
        class_number_fits classes m.class few h.class,
        (
          role_fits m.role,
          (
            flags_fits m.flags h.flags,
            (
              states_fits m.before h.before,
              (
                states_fits m.after h.after,
                (
                  limited_byte_fits 0 6 (length m.arguments) (lit< tt) (omega arith) h.argument_count,
                  (
                    (omega arith, between_is 0 4 (gives_byte m.gives) (omega arith) small),
                    (
                      grind (arith, fit_all, each (ArgumentFits classes), argument_number_fits classes, few),
                      (
                        gives_number_fits classes m.gives few h.gives,
                        (
                          limited_pair_fits 1 1024 (length m.code) (lit< tt) h.some_code h.code_length,
                          grind (arith, over_fits version methods m.over some_methods overridden_methods, fit_all, each (InstrFits l), fits l),
                        ),
                      ),
                    ),
                  ),
                ),
              ),
            ),
          ),
        ),
      ),
      refl,
    )

-- ---- the whole

version_fits : (v : Version) → version_format.Fits v
version_fits x = grind arith

-- the parts of an image that was read are in their ranges
pub record InRange (i : Image) : Type 0 where
  pub header : HeaderFits (length i.classes) i.header
  pub classes : ClassesFit i.header.version i.header.natives i.classes
  pub methods : MethodsFit i.header.version (length i.classes) i.methods
  pub families : FamiliesFit i.header.version i.classes i.methods

pub image_in_range : (i : Image) → image.Fits i → InRange i
image_in_range i f =
    let v = i.header.version in
    let o = f.0.0.0.1 in
    let classes = length i.classes in
    let methods = length i.methods in
    let cs = classes_in v classes i.header.natives classes 0 i.classes (omega arith)
    (fit_each (class v classes i.header.natives) count_server 0 classes i.classes f.0.1.0) in
    let ms = all_fit (method v classes methods) methods i.methods f.0.1.1 in record {
      header = record {
        cells = (between_true 0 4096 i.header.cells o.1.1.0.1).1;
        messages = (between_true 0 1024 i.header.messages o.1.1.1.0.1).1;
        natives = (between_true 0 16 i.header.natives o.1.1.1.1.0.1).1;
        root = class_in classes (class_number i.header.root) i.header.root o.1.1.1.1.1.0.1;
        budget = o.1.1.1.1.1.1;
      };
      classes = record { count = (between_true 0 256 classes o.0.1).1; each = cs.each; servers = omega (arith, cs.few) };
      methods = record {
        some = (between_true 1 1024 methods o.1.0.1).0;
        count = (between_true 1 1024 methods o.1.0.1).1;
        each = each (method v classes methods).Fits (MethodFits v classes methods) i.methods (λ m h. method_in_range v classes methods m h) ms;
      };
      families = record {
        parents = cs.parents;
        overridden_methods = each (method v classes methods).Fits (λ m. OverFits v methods m.over) i.methods (λ m h. over_in v methods m.over h.0.1.1.1.1.1.1.1.1.1.1.0) ms;
      };
    }

pub image_fits : (i : Image) → HeaderFits (length i.classes) i.header → ClassesFit i.header.version i.header.natives i.classes →
    MethodsFit i.header.version (length i.classes) i.methods → FamiliesFit i.header.version i.classes i.methods → image.Fits i
image_fits i header cs ms families =
    let v = i.header.version in
    let classes = length i.classes in
    let methods = length i.methods in (
      (
        grind (arith, version_fits, limited_pair_fits, classes, methods, limited_byte_fits, class_number_fits),
        (
          classes_fit v classes i.header.natives 0 i.classes cs.count header.natives cs.each families.parents (omega (arith, cs.servers)),
          fit_all (method v classes methods) i.methods
              (λ k d lt. let m = slice_index_or i.methods k d in method_fits v classes methods m cs.count ms.count (ms.each k d lt) (families.overridden_methods k d lt)),
        ),
      ),
      refl,
    )
