-- The programs of the runs with servers and clients.
use Rattle.std.specs.Prelude.{ℕ, pos, negsuc, List, [], ◌∷◌, Option, Some, None}
use Rattle.aom_image.specs.Image.{Image}
use Rattle.aom_image.specs.Small.{a_class, a_header, a_method as a_method_with}
use Rattle.aom_image.specs.declared.class.ClassDecl.{ClassDecl}
use Rattle.aom_image.specs.declared.class.ClassKind.TheVariants.{Active, Plain, Server, Session}
use Rattle.aom_image.specs.declared.class.Provider.TheVariants.{Timer}
use Rattle.aom_instructions.specs.declared.instr.Instr.{Instr}
use Rattle.aom_instructions.specs.declared.instr.Instr.TheVariants.{Abort, Call, Cancel, Const, Delete, Enlist, Issue, JumpActive, JumpAdded, JumpEmpty, JumpNull, Leave, LeaveIf, Load, NewOrLeave, Pop, Print, Push, Put, Reply, Return, SetActive, Status, Stop, Store, Take, TakeMessage}
use Rattle.aom_instructions.specs.declared.instr.Target.TheVariants.{Entry, Field}
use Rattle.aom_image.specs.declared.method.Argument.{Argument}
use Rattle.aom_image.specs.declared.method.Argument.TheVariants.{Word as Takes_word, Own as Takes_own}
use Rattle.aom_image.specs.declared.method.Gives.{Gives}
use Rattle.aom_image.specs.declared.method.Gives.TheVariants.{Nothing, Own as An_own}
use Rattle.aom_image.specs.declared.method.Method.{Method}
use Rattle.aom_image.specs.declared.method.Role.{Role}
use Rattle.aom_image.specs.declared.method.Role.TheVariants.{Accept, Cancel as Cancels, Construct, Destruct, Do, Main as Is_main, Run as Runs, Service}
use Rattle.aom_image.specs.declared.method.Thing.TheVariants.{Object as An_object_of, Message}

abbrev pub a_method : Option ℕ → Role → List Argument → Gives → List Instr → Method
a_method class role arguments gives code =
    a_method_with class role 0 0 0 arguments gives code

abbrev pub five_words : List Argument
five_words = Takes_word ∷ Takes_word ∷ Takes_word ∷ Takes_word ∷ Takes_word ∷ []

-- main makes an object of that class, calls that method to construct it, and has it as the root
abbrev pub main_of : ℕ → ℕ → Method
main_of class construct = a_method None Is_main [] Nothing (NewOrLeave 0 class ∷ Push 0 ∷ Call (Entry 0) construct 0 0 ∷ Pop 0 ∷ Put 0 0 ∷ Return 0 ∷ [])

-- an image with so many cells, whose root is of that class
abbrev pub an_image : (cells messages budget root : ℕ) → List ClassDecl → List Method → Image
an_image cells messages budget root classes methods = record { header = a_header cells messages 0 (Some root) budget; classes = classes; methods = methods }

abbrev pub session_class : ClassDecl
session_class = a_class Session 0 0 []

-- what a session does with each message, the `accept` of a server and what constructs it, before the others
abbrev pub serving_methods : (serve accept : List Instr) → List Argument → (construct : List Instr) → List Method → List Method
serving_methods serve accept arguments construct methods =
    a_method (Some 0) Service five_words Nothing serve
    ∷ a_method (Some 1) Accept [] (An_own (An_object_of 0)) accept
    ∷ a_method (Some 1) Construct arguments Nothing (Enlist (pos 0) ∷ construct)
    ∷ methods

-- ---- one server

-- one server of class 1, whose sessions are of class 0, with so many cells and messages and so many sessions at most
abbrev pub one_server : (cells messages most : ℕ) → (accept serve : List Instr) → Image
one_server cells messages most accept serve =
    an_image cells messages 90 1 (session_class ∷ a_class (Server most 0) 40 0 [] ∷ []) (serving_methods serve accept [] (Return 0 ∷ []) (main_of 1 2 ∷ []))

abbrev pub accepts : List Instr
accepts = NewOrLeave 0 0 ∷ Return 0 ∷ []

-- what takes its message and answers it
abbrev pub replies : List Instr
replies = TakeMessage 5 ∷ Reply 5 0 ∷ Return 0 ∷ []

-- its sessions do that at each message
abbrev pub echo : List Instr → Image
echo = one_server 4 4 4 accepts

-- leaves with what is no error, and else answers
abbrev pub leaving_echo : Image
leaving_echo = echo (LeaveIf 0 ∷ replies)

-- answers, and stops the run
abbrev pub stopping_echo : Image
stopping_echo = echo (TakeMessage 5 ∷ Reply 5 0 ∷ Stop ∷ Return 0 ∷ [])

-- leaves once its message is answered
abbrev pub late_echo : Image
late_echo = echo (TakeMessage 5 ∷ Reply 5 0 ∷ LeaveIf 0 ∷ Return 0 ∷ [])

-- takes no message
abbrev pub idle_echo : Image
idle_echo = echo (Return 0 ∷ [])

-- takes its message, and loses it
abbrev pub losing_echo : Image
losing_echo = echo (TakeMessage 5 ∷ Return 0 ∷ [])

-- stops the run at its first message, with a cell more
abbrev pub stopping : Image
stopping = one_server 5 4 4 accepts (TakeMessage 5 ∷ Reply 5 0 ∷ Stop ∷ Return 0 ∷ [])

-- leaves each connect with 0
abbrev pub declining : Image
declining = one_server 4 4 4 (Const 0 (pos 0) ∷ Leave 0 ∷ []) replies

-- stops the run at a connect
abbrev pub stops_accepting : Image
stops_accepting = one_server 4 4 4 (NewOrLeave 0 0 ∷ Stop ∷ Return 0 ∷ []) replies

-- one message, and few cells
abbrev pub small : Image
small = one_server 2 1 4 accepts replies

-- one message, and one session
abbrev pub narrow : Image
narrow = one_server 3 1 1 accepts replies

-- ---- a server whose sessions hold a message for a time

abbrev pub holding_classes : List ClassDecl
holding_classes =
    a_class (Active Timer) 10 0 (Message ∷ [])
    ∷ a_class Session 0 0 (An_object_of 0 ∷ [])
    ∷ a_class (Server 4 1) 40 0 []
    ∷ []

abbrev pub holding_methods : List Method
holding_methods =
    a_method (Some 0) Cancels [] Nothing (Abort ∷ Return 0 ∷ [])
    ∷ a_method (Some 0) Destruct [] Nothing (Cancel ∷ Take 0 0 ∷ JumpNull 0 5 ∷ Const 1 (negsuc 14) ∷ Reply 0 1 ∷ Return 0 ∷ [])
    ∷ a_method (Some 0) Runs [] Nothing (Take 0 0 ∷ JumpNull 0 4 ∷ Status 1 ∷ Reply 0 1 ∷ Return 0 ∷ [])
    ∷ a_method (Some 0) Construct [] Nothing (Enlist (pos 0) ∷ Return 0 ∷ [])
    ∷ a_method (Some 0) Do (Takes_own Message ∷ []) Nothing
    (JumpActive 2 ∷ JumpEmpty 0 5 ∷ Const 1 (negsuc 15) ∷ Reply 0 1 ∷ Return 0 ∷ Put 0 0 ∷ JumpAdded 8 ∷ Return 0 ∷ Const 1 (pos 100) ∷ Issue 1 1 ∷ SetActive ∷ Return 0 ∷ [])
    ∷ a_method (Some 1) Destruct [] Nothing (Take 0 0 ∷ Delete 0 ∷ Return 0 ∷ [])
    ∷ a_method (Some 1) Construct [] Nothing (NewOrLeave 0 0 ∷ Push 0 ∷ Call (Entry 0) 3 0 0 ∷ Pop 0 ∷ Put 0 0 ∷ Return 0 ∷ [])
    ∷ a_method (Some 1) Service five_words Nothing
    (JumpEmpty 0 4 ∷ TakeMessage 5 ∷ Call (Field 0) 4 5 0 ∷ Return 0 ∷ TakeMessage 5 ∷ Const 6 (negsuc 1) ∷ Reply 5 6 ∷ Return 0 ∷ [])
    ∷ a_method (Some 2) Accept [] (An_own (An_object_of 1)) (NewOrLeave 0 1 ∷ Push 0 ∷ Call (Entry 0) 6 0 0 ∷ Pop 0 ∷ Return 0 ∷ [])
    ∷ a_method (Some 2) Construct [] Nothing (Enlist (pos 0) ∷ Return 0 ∷ [])
    ∷ main_of 2 9
    ∷ []

abbrev pub holding : Image
holding = an_image 3 4 120 2 holding_classes holding_methods

-- ---- an object that owns a server and deletes it

abbrev pub owning : Image
owning =
    an_image 4 4 200 2 (session_class ∷ a_class (Server 4 0) 40 0 [] ∷ a_class (Active Timer) 100 0 (An_object_of 1 ∷ []) ∷ [])
    (serving_methods replies accepts [] (Return 0 ∷ [])
    (a_method (Some 2) Cancels [] Nothing (Abort ∷ Return 0 ∷ [])
    ∷ a_method (Some 2) Destruct [] Nothing (Cancel ∷ Take 0 0 ∷ Delete 0 ∷ Return 0 ∷ [])
    ∷ a_method (Some 2) Runs [] Nothing (Take 0 0 ∷ Delete 0 ∷ Return 0 ∷ [])
    ∷ a_method (Some 2) Construct [] Nothing
    (NewOrLeave 0 1 ∷ Push 0 ∷ Call (Entry 0) 2 0 0 ∷ Pop 0 ∷ Put 0 0 ∷ Enlist (pos 5) ∷ Const 1 (pos 10) ∷ Issue 1 1 ∷ SetActive ∷ Return 0 ∷ [])
    ∷ main_of 2 6
    ∷ []))

-- ---- two servers of a class, each with a word of its own that its `accept` prints

abbrev pub two_servers : Image
two_servers =
    an_image 6 4 200 2 (session_class ∷ a_class (Server 1 0) 40 1 [] ∷ a_class Plain 0 0 (An_object_of 1 ∷ An_object_of 1 ∷ []) ∷ [])
    (serving_methods replies (Load 1 0 ∷ Print 1 ∷ accepts) (Takes_word ∷ []) (Store 0 0 ∷ Return 0 ∷ [])
    (a_method (Some 2) Destruct [] Nothing (Take 0 0 ∷ Delete 0 ∷ Take 0 1 ∷ Delete 0 ∷ Return 0 ∷ [])
    ∷ a_method (Some 2) Construct [] Nothing
    (NewOrLeave 0 1 ∷ Push 0 ∷ Const 1 (pos 5) ∷ Call (Entry 0) 2 1 0 ∷ Pop 0 ∷ Put 1 0 ∷ NewOrLeave 0 1 ∷ Push 0 ∷ Const 1 (pos 6) ∷ Call (Entry 0) 2 1 0 ∷ Pop 0 ∷ Put 0 0 ∷ Return 0 ∷ [])
    ∷ main_of 2 4
    ∷ []))
