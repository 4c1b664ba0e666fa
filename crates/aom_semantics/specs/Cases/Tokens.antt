-- Runs and needs with tokens: one that is void and one that is not, no place for another, and the object's own.
use Rattle.std.specs.Prelude.{ℕ, pos, negsuc, ◌≡◌, List, [], ◌∷◌, Option, Some, None}
use Rattle.aom_image.specs.Image.{Image}
use Rattle.aom_image.specs.Small.{a_class}
use Rattle.aom_image.specs.declared.class.ClassDecl.{ClassDecl}
use Rattle.aom_image.specs.declared.class.ClassKind.TheVariants.{Active, Plain}
use Rattle.aom_image.specs.declared.class.Provider.TheVariants.{Token as By_token}
use Rattle.aom_image.specs.declared.method.Argument.TheVariants.{Own as Takes_own}
use Rattle.aom_image.specs.declared.method.Gives.TheVariants.{Nothing}
use Rattle.aom_image.specs.declared.method.Method.{Method}
use Rattle.aom_image.specs.declared.method.Role.TheVariants.{Cancel as Cancels, Construct, Destruct, Do, Main as Is_main, Run as Runs_role}
use Rattle.aom_image.specs.declared.method.Thing.TheVariants.{Object as An_object_of, Message}
use Rattle.aom_instructions.specs.declared.instr.Instr.{Instr}
use Rattle.aom_instructions.specs.declared.instr.Instr.TheVariants.{Abort, Call, Cancel, Const, Delete, Enlist, Hand, Issue, Jump, JumpAdded, JumpEmpty, JumpEqual, JumpNull, NewOrLeave, Pop, Print, Push, Put, Reply, Return, SetActive, Status, Stop, Take}
use Rattle.aom_instructions.specs.declared.instr.Target.TheVariants.{Entry, Field}
use Rattle.aom_transcript.specs.declared.line.Ending.TheVariants.{Stopped, Waiting}
use Rattle.aom_transcript.specs.declared.line.Line.TheVariants.{Gone, Out, Run as Run_line}
use Rattle.aom_semantics.specs.Cases.Building.{AllComeOut, Case, a_cell, fails, handing, inside, keeper, leaf, mine, seven, waiter}
use Rattle.aom_semantics.specs.Cases.Families.{a_family}
use Rattle.aom_semantics.specs.Cases.Programs.{a_method, main_of}
use Rattle.aom_semantics.specs.Cases.Requests.{elsewhere_cases}
use Rattle.aom_semantics.specs.Cases.Running.{Ends, RunsTo, Sticks, Reported, Unended, run_of}
use Rattle.aom_semantics.specs.Requests.{pending}
use Rattle.aom_semantics.specs.Places.{Aborted, Active as Waits, Cancelling, Cell, Elsewhere, Idle, Issued, Phase, Root, Token, unserved}
use Rattle.aom_semantics.specs.State.{AddedWrong, CompletedTwice, Orphan, RequestOverlap, Stuck, WrongKind}

-- ---- runs

-- an image of the second version with so many messages, whose root is of that class
abbrev pub rooted : (messages root : ℕ) → List ClassDecl → List Method → Image
rooted messages root classes methods = let p = a_family classes methods in record p { header = record p.header { messages = messages; root = Some root } }

abbrev pub aborts : List Instr
aborts = Abort ∷ Return 0 ∷ []

abbrev pub prints_status : List Instr
prints_status = Status 0 ∷ Print 0 ∷ Return 0 ∷ []

-- it hands out a token, cancels, and hands out another; then it replies to the first with 7 and to the second with 8
abbrev pub twice_handed : List Instr
twice_handed =
    Enlist (pos 0) ∷ Hand 0 ∷ Put 0 0 ∷ SetActive ∷ Cancel ∷ JumpEmpty 1 7 ∷ Return 0
    ∷ Hand 0 ∷ Put 1 0 ∷ SetActive
    ∷ Take 0 0 ∷ JumpNull 0 14 ∷ Const 1 (pos 7) ∷ Reply 0 1
    ∷ Take 0 1 ∷ JumpNull 0 18 ∷ Const 1 (pos 8) ∷ Reply 0 1
    ∷ Return 0 ∷ []

abbrev pub keeps_two : List Instr → ℕ → Image
keeps_two construct messages =
    rooted messages 0 (a_class (Active By_token) 40 0 (Message ∷ Message ∷ []) ∷ []) (
    a_method (Some 0) Cancels [] Nothing aborts
    ∷ a_method (Some 0) Destruct [] Nothing (Cancel ∷ Return 0 ∷ [])
    ∷ a_method (Some 0) Runs_role [] Nothing prints_status
    ∷ a_method (Some 0) Construct [] Nothing construct
    ∷ main_of 0 3
    ∷ [])

-- the first is void by then, and the second is not
abbrev pub void_and_living : Type 0
void_and_living = RunsTo 60 (keeps_two twice_handed 2) [] Waiting 1 (Run_line 1 0 (pos 8) ∷ Out (pos 8) ∷ [])

-- the void one holds the only place: the second request is completed at once
abbrev pub full_store_case : Type 0
full_store_case = RunsTo 60 (keeps_two twice_handed 1) [] Waiting 1 (Run_line 1 0 (negsuc 15) ∷ Out (negsuc 15) ∷ [])

-- a token of its own, in its construct and as it runs; what a pending status would be is recorded as a general error
abbrev pub own_construct : List Instr
own_construct =
    Status 0 ∷ Print 0 ∷ Enlist (pos 0) ∷ Hand 0 ∷ Status 1 ∷ Print 1 ∷ JumpNull 0 9 ∷ Const 1 pending ∷ Reply 0 1
    ∷ Status 1 ∷ Print 1 ∷ SetActive ∷ Return 0 ∷ []

abbrev pub own_run : List Instr
own_run = Status 0 ∷ Print 0 ∷ Const 1 (pos 7) ∷ JumpEqual 0 1 9 ∷ Hand 2 ∷ JumpNull 2 8 ∷ Const 1 (pos 7) ∷ Reply 2 1 ∷ SetActive ∷ Return 0 ∷ []

abbrev pub of_its_own : Type 0
of_its_own =
    RunsTo 60
    (rooted 1 0 (a_class (Active By_token) 40 0 [] ∷ []) (
    a_method (Some 0) Cancels [] Nothing aborts
    ∷ a_method (Some 0) Destruct [] Nothing (Cancel ∷ Return 0 ∷ [])
    ∷ a_method (Some 0) Runs_role [] Nothing own_run
    ∷ a_method (Some 0) Construct [] Nothing own_construct
    ∷ main_of 0 3
    ∷ []))
    [] Waiting 1 (
    Out (pos 0) ∷ Out pending ∷ Out (negsuc 1)
    ∷ Run_line 1 0 (negsuc 1) ∷ Out (negsuc 1)
    ∷ Run_line 2 0 (pos 7) ∷ Out (pos 7)
    ∷ [])

-- another object holds the token, and goes in the cancel method before it aborts: its destructor replies, and the code stays
abbrev pub held_elsewhere : Type 0
held_elsewhere =
    RunsTo 60
    (rooted 1 1 (a_class Plain 20 0 (Message ∷ []) ∷ a_class (Active By_token) 40 0 (An_object_of 0 ∷ []) ∷ []) (
    a_method (Some 0) Destruct [] Nothing (Take 0 0 ∷ JumpNull 0 4 ∷ Const 1 (negsuc 14) ∷ Reply 0 1 ∷ Return 0 ∷ [])
    ∷ a_method (Some 0) Do (Takes_own Message ∷ []) Nothing (Put 0 0 ∷ Return 0 ∷ [])
    ∷ a_method (Some 1) Cancels [] Nothing (Take 0 0 ∷ Delete 0 ∷ Abort ∷ Status 1 ∷ Print 1 ∷ Return 0 ∷ [])
    ∷ a_method (Some 1) Destruct [] Nothing (Cancel ∷ Return 0 ∷ [])
    ∷ a_method (Some 1) Construct [] Nothing (
    NewOrLeave 0 0 ∷ Put 0 0 ∷ Enlist (pos 0) ∷ Hand 0 ∷ JumpNull 0 6 ∷ Call (Field 0) 1 0 0
    ∷ SetActive ∷ Cancel ∷ Status 1 ∷ Print 1 ∷ Return 0 ∷ [])
    ∷ main_of 1 4
    ∷ []))
    [] Waiting 1 (Gone 0 ∷ Out (negsuc 14) ∷ Out (negsuc 14) ∷ [])

-- ---- over classes with parents

-- the parent constructs: it hands out a token. Its destructor hands out another, which is void by the reply
abbrev pub hands_and_ends : List Instr
hands_and_ends =
    Cancel ∷ JumpAdded 3 ∷ Jump 9
    ∷ Hand 0 ∷ SetActive ∷ Cancel ∷ JumpNull 0 9 ∷ Const 1 (pos 1) ∷ Reply 0 1
    ∷ Take 0 0 ∷ JumpNull 0 13 ∷ Const 1 (negsuc 14) ∷ Reply 0 1
    ∷ Return 0 ∷ []

abbrev pub of_a_child : List Instr → Image
of_a_child code =
    rooted 2 1 (a_class (Active By_token) 20 0 (Message ∷ []) ∷ record (a_class (Active By_token) 30 0 (Message ∷ [])) { parent = Some 0 } ∷ []) (
    a_method (Some 0) Cancels [] Nothing aborts
    ∷ a_method (Some 0) Destruct [] Nothing hands_and_ends
    ∷ a_method (Some 0) Runs_role [] Nothing prints_status
    ∷ a_method (Some 0) Construct [] Nothing (Enlist (pos 0) ∷ Hand 0 ∷ Put 0 0 ∷ SetActive ∷ Return 0 ∷ [])
    ∷ a_method None Is_main [] Nothing (NewOrLeave 0 1 ∷ Push 0 ∷ Call (Entry 0) 3 0 0 ∷ Pop 0 ∷ Put 0 0 ∷ code)
    ∷ [])

-- it is the root, and the run is stopped
abbrev pub by_an_ancestor : Type 0
by_an_ancestor = RunsTo 60 (of_a_child (Stop ∷ Return 0 ∷ [])) [] Stopped 0 (Gone 1 ∷ [])

-- the tokens that there are after so many moves
abbrev pub or_none : Option Token → List Token → List Token
or_none None others = others
or_none (Some t) others = t ∷ others

abbrev pub tokens_of : List Cell → List Token
tokens_of [] = []
tokens_of (c ∷ cs) = or_none c.service.token (tokens_of cs)

abbrev pub tokens_after : Reported → List Token
tokens_after (Unended lines s) = tokens_of s.cells
tokens_after (Ends lines ending cells) = []
tokens_after (Sticks lines kind) = []

-- they are of the child: as its parent's construct hands one out, and as its parent's destructor hands out one more
abbrev pub of_the_child : Type 0
of_the_child = tokens_after (run_of 6 (of_a_child (Return 0 ∷ [])) []) ≡ record { class = 1; order = 0 } ∷ []

abbrev pub of_the_child_still : Type 0
of_the_child_still = tokens_after (run_of 20 (of_a_child (Stop ∷ Return 0 ∷ [])) []) ≡ record { class = 1; order = 1 } ∷ record { class = 1; order = 0 } ∷ []

-- each of these runs comes out so
pub record TokensRun : Type 0 where
  pub living : void_and_living
  pub full : full_store_case
  pub own : of_its_own
  pub elsewhere : held_elsewhere
  pub ancestor : by_an_ancestor
  pub class : of_the_child
  pub class_still : of_the_child_still

-- ---- needs

-- an object whose class hands out tokens, with its request so far, waiting for that one
abbrev pub handing_cell : Phase → Option ℕ → Cell
handing_cell phase token = record (a_cell 9 handing (Elsewhere Root)) { request = Some (record { order = 0; priority = pos 0; phase = phase; status = pos 0; timer = None; token = token }) }

abbrev pub hand_case : List Cell → List Stuck → Case
hand_case cells kinds = record (fails (Hand 0) kinds) { receiver = inside handing; cells = cells }

-- a free register, an object of such a class, enlisted, and no request that is made
abbrev pub hand_cases : List Case
hand_cases =
    hand_case (handing_cell Idle None ∷ []) []
    ∷ hand_case (handing_cell Idle None ∷ a_cell 1 leaf (mine 0) ∷ []) (Orphan ∷ [])
    ∷ hand_case (handing_cell Idle None ∷ a_cell 1 Message (mine 0) ∷ []) (Orphan ∷ [])
    ∷ hand_case (a_cell 9 handing (Elsewhere Root) ∷ []) (AddedWrong ∷ RequestOverlap ∷ [])
    ∷ hand_case (handing_cell Issued None ∷ []) (RequestOverlap ∷ [])
    ∷ hand_case (handing_cell Waits None ∷ []) (RequestOverlap ∷ [])
    ∷ hand_case (handing_cell Cancelling None ∷ []) (RequestOverlap ∷ [])
    ∷ hand_case (handing_cell Aborted None ∷ []) (RequestOverlap ∷ [])
    ∷ record (hand_case (handing_cell Idle None ∷ []) (WrongKind ∷ [])) { receiver = inside waiter }
    ∷ record (hand_case (handing_cell Idle None ∷ []) (WrongKind ∷ [])) { receiver = inside keeper }
    ∷ elsewhere_cases (Hand 0) (WrongKind ∷ AddedWrong ∷ RequestOverlap ∷ [])

-- what hands out tokens issues nothing
abbrev pub issue_cases : List Case
issue_cases = record (hand_case (handing_cell Idle None ∷ []) (WrongKind ∷ [])) { instr = Issue 0 1; words = seven ∷ seven ∷ [] } ∷ []

-- a register owns a token of that order
abbrev pub a_token : ℕ → Cell
a_token order = record (a_cell 1 Message (mine 0)) { service = record unserved { token = Some (record { class = 6; order = order }) } }

abbrev pub waiting_cell : Phase → Cell
waiting_cell phase = record (handing_cell phase None) { request = Some (record { order = 0; priority = pos 0; phase = phase; status = pending; timer = None; token = Some 3 }) }

abbrev pub reply_case : List Cell → List Stuck → Case
reply_case cells kinds = record (hand_case cells kinds) { instr = Reply 0 1; words = None ∷ seven ∷ [] }

-- what waits for it is pending; where nothing does, it is void
abbrev pub reply_cases : List Case
reply_cases =
    reply_case (a_token 3 ∷ waiting_cell Issued ∷ []) []
    ∷ reply_case (a_token 3 ∷ waiting_cell Waits ∷ []) []
    ∷ reply_case (a_token 3 ∷ waiting_cell Cancelling ∷ []) []
    ∷ reply_case (a_token 4 ∷ waiting_cell Waits ∷ []) []
    ∷ reply_case (a_token 4 ∷ handing_cell Waits (Some 3) ∷ []) []
    ∷ reply_case (a_token 3 ∷ handing_cell Waits (Some 3) ∷ []) (CompletedTwice ∷ [])
    ∷ reply_case (a_token 3 ∷ waiting_cell Idle ∷ []) (CompletedTwice ∷ [])
    ∷ []

pub record TokenNeedsFail : Type 0 where
  pub handing : AllComeOut hand_cases
  pub issuing : AllComeOut issue_cases
  pub replying : AllComeOut reply_cases
