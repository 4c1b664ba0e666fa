-- What instructions cost by a table, one by one; and a worked method: a loop in a loop, and a jump out of both.
use Rattle.std.specs.Prelude.{ℕ, ◌≡◌, ◌+◌, ◌*◌, List, [], ◌∷◌, Some, None, map, replicate}
use Rattle.aom_image.specs.Image.{Image}
use Rattle.aom_image.specs.Small.{a_class, a_header, a_method}
use Rattle.aom_instructions.specs.declared.instr.Instr.{Instr}
use Rattle.aom_instructions.specs.declared.instr.Instr.TheVariants.{Call, Cancel, Trap, Push, Delete, PushOperation, Pop, PopOperation, PopDelete, New, Print, Jump, JumpEqual, Loop, Next, Return, Leave, LeaveIf}
use Rattle.aom_instructions.specs.declared.instr.Target.TheVariants.{This}
use Rattle.aom_image.specs.declared.class.ClassKind.TheVariants.{Active, Plain, Server, Session}
use Rattle.aom_image.specs.declared.class.Provider.TheVariants as providers
use Rattle.aom_instructions.specs.declared.version.Version.TheVariants.{Two}
use Rattle.aom_image.specs.declared.method.Argument.TheVariants as arguments
use Rattle.aom_image.specs.declared.method.Gives.TheVariants as gives
use Rattle.aom_image.specs.declared.method.Method.{Method}
use Rattle.aom_image.specs.declared.method.Role.{Role}
use Rattle.aom_image.specs.declared.method.Role.TheVariants as roles
use Rattle.aom_image.specs.declared.method.Thing.{Thing}
use Rattle.aom_image.specs.declared.method.Thing.TheVariants.{Object, Message}
use Rattle.aom_abstract_state.specs.AbstractState.{AbstractState}
use Rattle.aom_typing_rules.specs.Typing.{Typing}
use Rattle.aom_abstract_state.specs.declared.kind.FieldState.TheVariants.{Perhaps}
use Rattle.aom_abstract_state.specs.declared.kind.InitState.TheVariants.{Fresh, Ready}
use Rattle.aom_abstract_state.specs.declared.kind.MessageState.TheVariants.{Here}
use Rattle.aom_abstract_state.specs.declared.kind.Kind.TheVariants.{Word, Null, Own, Maybe}
use Rattle.aom_static_bounds.specs.Prices.{Prices, own, price}
use Rattle.aom_static_bounds.specs.Costs.{ArePrices, IsPrice, destructor_price}
use Rattle.aom_static_bounds.specs.Most.{line, most_standing}

-- ---- instructions

abbrev pub thing_price : Thing → ℕ
thing_price (Object c) = 100 + c
thing_price Message = 1

-- each method costs ten times its number
abbrev pub tens : Prices
tens = record { from = λ m place. 10 * m; round = λ m place. 0; destruction = thing_price }

-- an object in r0, perhaps one in r1, null in r2, a word in r3
abbrev pub four_registers : AbstractState
four_registers = record { registers = Own (Object 3) Ready ∷ Maybe (Object 4) Fresh ∷ Null ∷ Word ∷ []; fields = []; entries = []; states = 0; message_state = Here }

-- ---- a worked method

abbrev pub worked_code : List Instr
worked_code =
    Loop 0 3
    ∷ Loop 1 5
    ∷ JumpEqual 0 0 7
    ∷ Print 0
    ∷ Next 1 2
    ∷ Next 0 1
    ∷ Jump 9
    ∷ Print 0
    ∷ Print 0
    ∷ Return 0
    ∷ []

-- its only argument is a word
abbrev pub worked : Image
worked = record {
  header = a_header 4 0 0 None 100;
  classes = [];
  methods = a_method None roles.Do 0 0 0 (arguments.Word ∷ []) gives.Nothing worked_code ∷ [];
}

abbrev pub a_word : AbstractState
a_word = record { registers = Word ∷ []; fields = replicate 8 Perhaps; entries = []; states = 0; message_state = Here }

-- each of its ten places is reached with the word
abbrev pub worked_typing : Typing
worked_typing = replicate 10 (Some a_word) ∷ []

-- ---- the cases

abbrev pub plain_method : Role → ℕ → Method
plain_method role class = a_method (Some class) role 0 0 0 [] gives.Nothing []

-- class 0 is plain, and method 1 cancels the requests of class 1
abbrev pub cancelling : Image
cancelling = record {
  header = a_header 4 0 0 None 100;
  classes = a_class Plain 0 0 [] ∷ a_class (Active providers.Own) 10 0 [] ∷ [];
  methods = plain_method roles.Do 0 ∷ plain_method roles.Cancel 1 ∷ plain_method roles.Do 1 ∷ [];
}

-- class 1 is of servers, with up to 3 sessions of class 0; their destructors are the methods 1 and 0
abbrev pub serving : Image
serving = record {
  header = a_header 4 0 0 None 100;
  classes = a_class Session 0 0 [] ∷ a_class (Server 3 0) 10 0 [] ∷ [];
  methods = plain_method roles.Destruct 0 ∷ plain_method roles.Destruct 1 ∷ [];
}

-- class 1 descends from class 0; their destructors are the methods 2 and 1, method 4 overrides method 3, and methods 5 and 6 cancel
abbrev pub descending : Image
descending = record {
  header = record (a_header 4 0 0 None 100) { version = Two };
  classes = a_class (Active providers.Own) 10 0 [] ∷ record (a_class (Active providers.Own) 10 0 []) { parent = Some 0 } ∷ [];
  methods =
      plain_method roles.Do 0
      ∷ plain_method roles.Destruct 0
      ∷ plain_method roles.Destruct 1
      ∷ plain_method roles.Do 0
      ∷ record (plain_method roles.Do 1) { over = Some 3 }
      ∷ plain_method roles.Cancel 0
      ∷ plain_method roles.Cancel 1
      ∷ [];
}

-- the image says nothing of these instructions
abbrev pub own_prices : List Instr → List ℕ
own_prices is = map (own worked 0 tens four_registers) is

pub record PriceNeedsFail : Type 0 where
  -- what is called, pushed and destroyed is paid for where that begins, and nothing is where it leaves the cleanup stack
  pub called : own_prices (Call This 4 0 0 ∷ Trap This 5 0 0 ∷ PushOperation 3 6 ∷ []) ≡ 41 ∷ 51 ∷ 61 ∷ []
  pub destroyed : own_prices (Push 0 ∷ Delete 0 ∷ Delete 1 ∷ Delete 2 ∷ []) ≡ 104 ∷ 104 ∷ 105 ∷ 1 ∷ []
  pub others : own_prices (Pop 2 ∷ PopOperation ∷ PopDelete ∷ New 2 3 ∷ Print 3 ∷ Jump 7 ∷ Next 0 1 ∷ Return 0 ∷ Leave 3 ∷ LeaveIf 3 ∷ []) ≡ replicate 10 1
  -- a cancel pays for the cancel method of the running method's class, if there is one
  pub cancelled : own cancelling 2 tens four_registers Cancel ≡ 11
  pub none_cancelled : own cancelling 0 tens four_registers Cancel ≡ 1
  pub destructors : map (destructor_price tens) (None ∷ Some 3 ∷ []) ≡ 0 ∷ 30 ∷ []
  -- a session costs 1 and its destructor, and a server 1, its destructor, and three sessions
  pub served : (t : Typing) (c : Prices) → ArePrices serving t c → price c 0 ≡ 4 → price c 1 ≡ 20 → (c.destruction (Object 0) ≡ 5) × (c.destruction (Object 1) ≡ 36)
  -- a call pays for what overrides its method too, and a cancel for the cancel methods of descendants
  pub overridden : own descending 0 tens four_registers (Call This 3 0 0) ≡ 41
  pub cancelled_below : own descending 0 tens four_registers Cancel ≡ 61
  -- a line has the destructor of the class and that of its parent, and what stands for the parent may be of the child
  pub childs_line : line descending (destructor_price tens) (Object 1) ≡ 30
  pub parents_line : line descending (destructor_price tens) (Object 0) ≡ 10
  pub declared : most_standing descending (λ y. line descending (destructor_price tens) y) (Object 0) ≡ 30
  -- a round of the inner loop costs 3, one of the outer 1 + 5 * 3 + 1, and after both comes the dearer exit, which costs 3
  pub worked : (c : Prices) → IsPrice worked worked_typing c 0 55
