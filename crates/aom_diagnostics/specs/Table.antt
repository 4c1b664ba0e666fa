-- What is told of each fault, by its kind and in the order of the numbers.
use Rattle.aom_codec.specs.declared.fault.LoadFault.{LoadFault}
use Rattle.aom_codec.specs.declared.fault.LoadFault.TheVariants as loads
use Rattle.aom_text.specs.declared.fault.AsmFaultKind.{AsmFaultKind}
use Rattle.aom_text.specs.declared.fault.AsmFaultKind.TheVariants as asms
use Rattle.aom_link_conditions.specs.declared.fault.LinkFault.{LinkFault}
use Rattle.aom_link_conditions.specs.declared.fault.LinkFault.TheVariants as links
use Rattle.aom_abstract_state.specs.declared.why.Reason.{Reason}
use Rattle.aom_abstract_state.specs.declared.why.Reason.TheVariants as whys
use Rattle.aom_budget.specs.declared.fault.BudgetFault.{BudgetFault}
use Rattle.aom_budget.specs.declared.fault.BudgetFault.TheVariants as budgets
use Rattle.aom_script.specs.declared.fault.ScriptFaultKind.{ScriptFaultKind}
use Rattle.aom_script.specs.declared.fault.ScriptFaultKind.TheVariants as scripts
use Rattle.aom_natives.specs.declared.fault.BootFault.{BootFault}
use Rattle.aom_natives.specs.declared.fault.BootFault.TheVariants as boots
use Rattle.aom_diagnostics.specs.Entries.{Texts, texts}
use Rattle.aom_diagnostics.specs.declared.word.Unnumbered.{Unnumbered}
use Rattle.aom_diagnostics.specs.declared.word.Unnumbered.TheVariants as words

-- ---- faults that have no number

abbrev pub word_texts : Unnumbered → Texts
word_texts fault = elim fault [
  | words.Native ↦ texts "native"
      "A word behind the script names no native that there is, or there are more than sixteen words."
      "Write counter, line or delay; a native of one's own is for a program of one's own, as natives.md says."
  | words.File ↦ texts "file"
      "A file that the words name cannot be read."
      "Look at the name, and whether it is a file that may be read."
  | words.Text ↦ texts "text"
      "The text that --text names denotes an image, and another one than is named beside it."
      "Name the text that the image is of, or assemble the text again and name that image."
  | words.Write ↦ texts "write"
      "The standard output took nothing more. What is out is a beginning."
      "Look for a full disk, or a reader that has ended."
  | words.Memory ↦ texts "memory"
      "A request for memory was refused, whatever it was for. It says nothing about the image, the text or the script."
      "Give the program more memory."
]

-- want of memory is told alike, wherever it comes
abbrev pub memory_texts : Texts
memory_texts = word_texts words.Memory

-- ---- bytes that are no image

abbrev pub load_texts : LoadFault → Texts
load_texts fault = elim fault [
  | loads.BadMagic ↦ texts "wrong magic"
      "The first four bytes are not AOIM. An assembly text is refused so."
      "Put --asm before a text, or assemble it first and name the image."
  | loads.BadVersion ↦ texts "wrong version"
      "The version is neither 1 nor 2."
      "Make the image in one of these versions."
  | loads.Truncated ↦ texts "cut off"
      "The bytes end within a field. An empty file is refused so."
      "Copy the whole file; look at the counts of classes, methods and instructions."
  | loads.Trailing ↦ texts "bytes left over"
      "Bytes stand behind the last method."
      "Take them away; look at the count of methods."
  | loads.LimitPassed ↦ texts "past a limit"
      "A count or a limit is out of its range, there is a ninth server class, or the file has more than 1 MiB."
      "Declare less."
  | loads.BadOpcode ↦ texts "no instruction"
      "An opcode is none of the table."
      "Take an opcode from 01 to 30, in version 2 to 31; look whether an instruction has its 8 bytes."
  | loads.BadOperand ↦ texts "no operand"
      "An operand, a kind, a role, a flag or a set of states is none that there is, or none that may stand here."
      "Look up the range of the field."
  | loads.BadIndex ↦ texts "no such number"
      "A class, method, place or native of that number is not there."
      "Count from 0; write ffff where there is no class."
  | loads.NotZero ↦ texts "unused byte"
      "A byte that is not used here is not zero."
      "Write zero."
  | loads.OutOfMemory ↦ memory_texts
]

-- ---- texts that denote no image

abbrev pub asm_texts : AsmFaultKind → Texts
asm_texts kind = elim kind [
  | asms.NotAscii ↦ texts "no ASCII"
      "A byte outside 32 to 126 that is no tab, carriage return or line feed, in comments too. An image is refused so."
      "Write plain letters; save the text without accents, curly quotes or a byte order mark."
  | asms.UnknownWord ↦ texts "unknown word"
      "A word of the language is expected, and this one is none."
      "Look for a slip in the mnemonic, the role or the part's name."
  | asms.BadNumber ↦ texts "no number"
      "A number is expected, and the word is none: decimal digits, with a minus before them or not."
      "Write it in decimal."
  | asms.UnknownName ↦ texts "unknown name"
      "A class, a method or a label is used and declared nowhere. Labels are known in their own method alone."
      "Declare it, or look for a slip; names differ by capitals."
  | asms.DoubleName ↦ texts "name twice"
      "A class, a method, or a label of one method is declared a second time."
      "Rename one of the two."
  | asms.BadShape ↦ texts "wrong shape"
      "Words are missing, left over, or in the wrong order; an operand has the wrong form; a name is none that may be declared; an end is missing; a word belongs to a later version; the text is empty."
      "Compare the statement with its form in assembly.md. Of the last line, or of a method or class statement: look whether the method before it has its end."
  | asms.LimitPassed ↦ texts "past a limit"
      "A number, register or field is out of its range, there is one too many of something, a method has no instructions, the text has no methods, or it has more than 1 MiB."
      "Look up the range; split what is too large."
  | asms.OutOfMemory ↦ memory_texts
]

-- ---- images whose parts do not go together

abbrev pub link_texts : LinkFault → Texts
link_texts fault = elim fault [
  | links.ClassOrder ↦ texts "order of classes"
      "A class owns objects of a class that does not come before it (its own is none that does), or owns sessions; a server's sessions are of one that does not, or is none of sessions; a class comes before its parent; or the root is a session."
      "Declare what is owned first, and the class of its sessions before a server. A class cannot own its like, so chains are made of several classes."
  | links.CallOrder ↦ texts "order of calls"
      "A method calls, traps or pushes one that does not come before it, or that such a one overrides; has to do with a class whose destructor, or that of one below it, of one above these, or of its sessions, does not come before it; or cancels before the cancel method of its class or of one below."
      "Put destructors first, then each method before those that call it, and main last. A method cannot call itself: use a loop."
  | links.MissingRole ↦ texts "missing method"
      "A class with owning fields has no destruct method, or owns more than its parent and has none of its own; one of active objects lacks run, cancel or destruct; a server has no accept method, or a session no service."
      "Write it. A destructor takes what each field owns and deletes it, accept gives a new session, and service takes its message."
  | links.DoubleRole ↦ texts "one method too many"
      "A class has two methods of one role, do aside, or there are two mains."
      "Keep one; make the other a do."
  | links.RoleShape ↦ texts "wrong shape of a role"
      "A method takes, gives or declares what its role may not, or a call, trap or pushop names a method of a role that it may not name."
      "Compare the method with the row of its role in linking.md. trap takes no construct method, and pushop an undo method alone."
  | links.BadJump ↦ texts "bad jump"
      "A jump goes back or into a loop's body from outside, or a run may go on past the method's last instruction."
      "Go back by loop and next. End each method with ret or leave, also behind stop."
  | links.BadLoop ↦ texts "bad loop"
      "A loop has no next that goes back to the place behind it, a next closes none, loops overlap, or a depth is not the count of loops around."
      "Put the label on the instruction behind loop, and close inner loops first: depth 0 outside, 1 within it."
  | links.NoMain ↦ texts "no main"
      "No method is main."
      "Declare one as main."
  | links.OutOfMemory ↦ memory_texts
  | links.BadParent ↦ texts "wrong parent"
      "A class is of another kind than its parent, has fewer words, or its owning fields do not begin with its parent's."
      "Give the class the parent's kind, and list the parent's words and fields first."
  | links.BadOverride ↦ texts "wrong overrider"
      "A method overrides one in whose place it may not run. Both are do methods, its class descends from the other's, and they take and give the same; it leaves only where the other may, is quiet where that is, and begins and ends in no other states; and no two of a class override the same."
      "Compare the two statements, or take over away and call the method that is meant."
]

-- ---- methods without a typing

abbrev pub verify_texts : Reason → Texts
verify_texts why = elim why [
  | whys.RegisterKind ↦ texts "wrong kind"
      "A register, a field, a cleanup entry or an operand is not of the kind that the instruction needs, or ways come together here that know different kinds of a register."
      "Compare what the instruction needs with what each way to it leaves there; reasons.md has the cases, one by one."
  | whys.OwnedAtLeave ↦ texts "owner lost by a leave"
      "The instruction may leave, and a register may own something that would be lost."
      "Push the object before, put it in a field, or delete it; or trap what leaves."
  | whys.OwnedAtReturn ↦ texts "owner lost by a return"
      "The method ends, and a register may still own something. An argument that is an object counts too."
      "Delete it, put it in a field, or give it as the result. Null may be deleted, so no test is needed."
  | whys.CleanupAtReturn ↦ texts "cleanup stack at the end"
      "The method ends and has cleanup entries of its own, or ways come together here that have different entries. A method that gives left has to end with one, of an object of that class that is constructed."
      "Take each entry down again on each way, by pop, popop or popdel."
  | whys.PopEmpty ↦ texts "no cleanup entry"
      "There is no entry, or none so deep, that the method has pushed itself."
      "Push before, or count c0, c1 from the last one pushed."
  | whys.LeaveNotAllowed ↦ texts "may not leave"
      "The instruction may leave, and the method is not declared leaves."
      "Declare the method leaves, or call the other under trap, or take new for newl."
  | whys.FieldNotNull ↦ texts "field still owns"
      "put into a field that may own something, which would be lost. Or a construct method calls that of its class's parent on self, and a field of the parent's may own something."
      "take from the field and delete that first, or ask by jempty. After a call on the same object all its fields may own."
  | whys.FieldsLeft ↦ texts "fields left"
      "A destructor ends, and a field may still own something."
      "take from each field and delete."
  | whys.NotFresh ↦ texts "not fresh"
      "A construct method is called on an object that is constructed already, as self and what a field owns always are, or on one whose class has another construct method; on self a construct method may call that of its class's parent."
      "Construct each object once, right after new or newl, by the construct method that its class has."
  | whys.StillFresh ↦ texts "still fresh"
      "An object is used, given or put in a field before its construct method has run."
      "Call its construct method first."
  | whys.NotIdle ↦ texts "not idle"
      "issue or hand, and the request may not be idle; cancel, and it may be issued or in a cancel already; or close, and it may be anything but idle or not enlisted."
      "Ask by jactive and issue or hand on the way where it is not active, or cancel before, also before close; each issue or hand wants its setactive before the next."
  | whys.NotIssued ↦ texts "not issued"
      "setactive, and the request may not be issued."
      "issue or hand right before it, on each way."
  | whys.IssuedAtLeave ↦ texts "issued at a leave"
      "The instruction may leave, and the request of the method's object may be issued and not set active."
      "setactive right after issue or hand, and leave before or after both."
  | whys.IssuedAtReturn ↦ texts "issued at a return"
      "The method ends, and the request of its object may be issued and not set active."
      "setactive on each way after issue or hand, also where there was no room for the token."
  | whys.StillActive ↦ texts "still active"
      "A destructor ends, and the request of its object may be active."
      "cancel first of all in the destructor; it does nothing where nothing is active."
  | whys.NotCancelled ↦ texts "not cancelled"
      "A cancel method ends, and it is not sure that its request is done: cancel waits for that, and would wait for ever."
      "abort in the cancel method, on each way."
  | whys.MessageAtLeave ↦ texts "message at a leave"
      "The instruction may leave, and the service has taken its message, so that no code of the leave could reach the client."
      "Do what may leave before takemsg, or under a trap; behind it reply with the code."
  | whys.MessageAtReturn ↦ texts "message at a return"
      "A service method ends and has not taken its message, or ways come together here on which it is taken and is not."
      "takemsg on each way, and reply to it or keep it in a field; leave where it is to be completed with a code and nothing else."
  | whys.NotAdded ↦ texts "not enlisted"
      "issue or hand, and the object may not be enlisted; or enlist, and it may be."
      "enlist once, in the construct method, before the first issue or hand; or ask by jadded."
  | whys.EntryState ↦ texts "wrong state"
      "A method is called, or ends, while its object may be in a request state in which it may not begin or end; or abort, and the request may be in no cancel."
      "Declare the states in which the method begins and ends, or bring the request into them before: setactive, cancel. abort belongs into the cancel method."
  | whys.QuietBroken ↦ texts "quiet broken"
      "A quiet method makes an object, sets a trap, or calls a method that is not quiet. Destruct and undo methods are always quiet."
      "Do it in another method, before; or take quiet away where the role leaves it free."
]

-- ---- images that may come to too much

abbrev pub budget_texts : BudgetFault → Texts
budget_texts fault = elim fault [
  | budgets.OverBudget budget_owner price declared ↦ texts "over budget"
      "budget 1 main price P declared D: main, with the root's destruction, may take P steps, and the image declares D. A P of 4294967296 stands for all that is more. budget 1 class K price P declared D says the same of a dispatch of an object of the class K: of an active object its run method, and its error method, which follows where the run has left; of a server the dearest of its accept method, its sessions' service method and a session's destruction."
      "Declare at least P, or make loops shorter, those in called methods first."
  | budgets.TooDeep ↦ texts "too deep"
      "A method may come to more than 256 frames."
      "Do in one method what a chain of calls does, or call from a loop."
  | budgets.CleanupTooDeep ↦ texts "too many cleanup entries"
      "A method may come to more than 1,024 cleanup entries, with those of the methods that it calls."
      "Take entries down before the call; let one object own many."
  | budgets.OutOfMemory ↦ memory_texts
]

-- ---- texts that are no script

abbrev pub script_texts : ScriptFaultKind → Texts
script_texts kind = elim kind [
  | scripts.NotAscii ↦ texts "no ASCII"
      "A byte outside 32 to 126 that is no tab, carriage return or line feed."
      "Write plain digits and letters."
  | scripts.BadLine ↦ texts "no line"
      "The words make no line. A script has no comments."
      "Write refuse N, T event N W, T kill N, T connect C CLASS SLOTS, T send C F I0 I1 I2 I3, T close C, T die C, or nothing."
  | scripts.BadNumber ↦ texts "no number"
      "A word that should be a number is none."
      "Write it in decimal digits."
  | scripts.TimeBack ↦ texts "time goes back"
      "A time is below that of the timed line before, or below 0."
      "Put the lines in the order of their times."
  | scripts.LimitPassed ↦ texts "past a limit"
      "A number is out of its range and no time goes back, the script has more than 65,536 lines, or, told of line 1, more than 1 MiB."
      "Requests are counted from 1, to 4,294,967,295; a time is at most 10^15, a native from 0 to 15, a word from -2^31 to 2^31 - 1, a client from 0 to 63, its slots from 0 to 64, a class from 0 to 255."
  | scripts.OutOfMemory ↦ memory_texts
]

-- ---- machines that are not made

abbrev pub boot_texts : BootFault → Texts
boot_texts fault = elim fault [
  | boots.TooFewNatives ↦ texts "too few natives"
      "The image counts more natives (natives N in its text) than words for natives stand behind the script."
      "Name one for each, numbered from 0 in their order: counter, line or delay. More than the image counts do no harm."
  | boots.OutOfMemory ↦ memory_texts
]
