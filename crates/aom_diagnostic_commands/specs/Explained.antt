-- The text that explains a fault.
use Rattle.std.specs.Prelude.{ℕ, ◌≡◌, Bool, true, false, not, ◌&&◌, ◌==◌, List, [], ◌∷◌, ◌++◌, Option, Some, None, IsSome, Result, Ok, Err, codes, decimal, length, nat_lt}
use Rattle.aom_image.specs.Image.{Image}
use Rattle.aom_image.specs.Views.{instr_at, method_at}
use Rattle.aom_instructions.specs.declared.instr.Instr.{Instr}
use Rattle.aom_link_conditions.specs.Linked.{IsLinked}
use Rattle.aom_typing_rules.specs.Rules.{rule}
use Rattle.aom_abstract_state.specs.Needs.{Flow}
use Rattle.aom_abstract_state.specs.AbstractState.{AbstractState}
use Rattle.aom_abstract_state.specs.Kinds.{register}
use Rattle.aom_abstract_state.specs.declared.kind.Kind.{Kind}
use Rattle.aom_abstract_state.specs.Whys.{why_number}
use Rattle.aom_abstract_state.specs.declared.why.Reason.{Reason}
use Rattle.aom_static_bounds.specs.Shapes.{HasTyping, Shapes}
use Rattle.aom_verify.specs.Arrivals.{StopsAt}
use Rattle.aom_verify.specs.declared.refusal.Refusal.{Refusal}
use Rattle.aom_verify.specs.declared.refusal.Refusal.TheVariants as refusals
use Rattle.aom_diagnostics.specs.Compared.{compared_text}
use Rattle.aom_diagnostics.specs.Entries.{Texts, entry_text}
use Rattle.aom_cost_report.specs.Names.{Names, unnamed}
use Rattle.aom_diagnostics.specs.Known.{kind_words, known_text}
use Rattle.aom_diagnostics.specs.Lines.{refusal_line}
use Rattle.aom_diagnostics.specs.Places.{line_text, method_text}
use Rattle.aom_diagnostics.specs.Sources.{declared_text, source_text}
use Rattle.aom_diagnostics.specs.Table.{asm_texts, boot_texts, budget_texts, link_texts, load_texts, memory_texts, script_texts, verify_texts, word_texts}
use Rattle.aom_diagnostics.specs.declared.word.Unnumbered.TheVariants as words
use Rattle.aom_needs.specs.Sentences.{needed_line}
use Rattle.aom_origins.specs.Origins.{HasOrigin}
use Rattle.aom_path_conflicts.specs.Conflicts.{Conflicts, NoConflict}
use Rattle.aom_path_conflicts.specs.declared.conflict.Conflict.{Conflict}
use Rattle.aom_path_conflicts.specs.declared.conflict.Difference.{Difference}
use Rattle.aom_commands.specs.Acceptable.{IsSerialized}
use Rattle.aom_commands.specs.declared.faults.Fault.{Fault}
use Rattle.aom_commands.specs.declared.faults.Fault.TheVariants.{Load, Asm, Link, Verify, Budget, Script, Boot, Native, File, Write, Memory}
use Rattle.aom_diagnostic_commands.specs.Linking.{AddsLink, AddsLinkSource}
use Rattle.aom_diagnostic_commands.specs.Naming.{text_names}
use Rattle.aom_diagnostic_commands.specs.Wrong.{AddsWord, has_word}

-- what is told of a refusal by its number
abbrev pub refusal_texts : Refusal → Texts
refusal_texts refusals.OutOfMemory = memory_texts
refusal_texts (refusals.Refused method place why) = verify_texts why

-- what is told of a fault by its kind and number
abbrev pub texts_of : Fault → Texts
texts_of (Load fault) = load_texts fault
texts_of (Asm fault) = asm_texts fault.kind
texts_of (Link fault) = link_texts fault
texts_of (Verify refusal) = refusal_texts refusal
texts_of (Budget fault) = budget_texts fault
texts_of (Script fault) = script_texts fault.kind
texts_of (Boot fault) = boot_texts fault
texts_of Native = word_texts words.Native
texts_of File = word_texts words.File
texts_of Write = word_texts words.Write
texts_of Memory = memory_texts

-- what the listing of an image says of the place of a refusal
abbrev pub refusal_text : Image → Refusal → List ℕ
refusal_text p refusals.OutOfMemory = []
refusal_text p (refusals.Refused method place why) = method_text p method place

-- what is said of the place of another fault, of which a line of the text is told, or what has been compared
abbrev pub place_text : List ℕ → Fault → List ℕ
place_text text (Asm fault) = line_text text fault.line
place_text text (Script fault) = line_text text fault.line
place_text text (Budget fault) = compared_text fault
place_text text _ = []

-- a rule refuses for that reason
abbrev pub reports_why : Result (List Flow) Reason → Reason → Bool
reports_why (Ok ways) why = false
reports_why (Err reported) why = why_number reported == why_number why

abbrev pub is_need : Image → ℕ → ℕ → AbstractState → Reason → Option Instr → Bool
is_need p m place sh why None = false
is_need p m place sh why (Some i) = reports_why (rule p m place sh i) why

-- a state is refused for a reason that is no need of its instruction, so another arrives with which it has no meet; a state in a sheet has fewer cleanup entries
unfoldable pub ways_differ : Image → ℕ → ℕ → AbstractState → Reason → Bool
ways_differ p m place sh why = nat_lt (length sh.entries) 1024 && not (is_need p m place sh why (instr_at p m place))

-- what tells: the names and the text that the image is of, or numbers
pub record ToldBy : Type 0 where
  pub names : Names
  pub text : Option (List ℕ)

abbrev pub by_numbers : ToldBy
by_numbers = record { names = unnamed; text = None }

abbrev pub by_text : List ℕ → ToldBy
by_text text = record { names = text_names text; text = Some text }

-- ---- another way

-- the line of a text that has a place of a method, or else its number
abbrev pub at_line : Option ℕ → ℕ → List ℕ
at_line None place = decimal place
at_line (Some line) place = codes "line " ++ decimal line

abbrev pub place_words : Option (List ℕ) → (m place : ℕ) → List ℕ
place_words None m place = decimal place
place_words (Some text) m place = at_line (refusal_line text m place) place

-- a register with its kind on another way, and here
abbrev pub kinds_words : Names → Difference → Kind → List ℕ
kinds_words ns d here = decimal d.register ++ (codes " there: " ++ (kind_words ns d.kind ++ (codes "; here: " ++ (kind_words ns here ++ 10 ∷ []))))

abbrev pub conflict_line : ToldBy → (m : ℕ) → Conflict → Kind → List ℕ
conflict_line by m c here =
    codes "Another way comes here, from " ++ (place_words by.text m c.from ++ (codes ", and does not agree with this: r" ++ kinds_words by.names c.difference here))

-- another way is told behind a text: from the first place whose state differs in a register, or without one where none does
pub data TellsWay (by : ToldBy) (p : Image) (m : ℕ) (s : Shapes) (place : ℕ) (sh : AbstractState) (before after : List ℕ) : Type 0 where
  by_register : (c : Conflict) → Conflicts p m s place sh.registers c → after ≡ before ++ conflict_line by m c (register sh c.difference.register) →
      TellsWay by p m s place sh before after
  alone : NoConflict p m s place sh.registers → after ≡ before ++ (codes "Another way comes here, and does not agree with this" ++ 10 ∷ []) →
      TellsWay by p m s place sh before after

-- ---- what the instruction needs

abbrev pub origin_line : ToldBy → (m origin : ℕ) → List ℕ
origin_line by m origin = codes "It is so since " ++ (place_words by.text m origin ++ 10 ∷ [])

-- the need is told behind a text, and the origin of what is there, where it has one
pub data TellsNeed (by : ToldBy) (p : Image) (m : ℕ) (s : Shapes) (place : ℕ) (sh : AbstractState) (why : Reason) (before after : List ℕ) : Type 0 where
  since : (origin : ℕ) → HasOrigin p m s place sh why origin → after ≡ (before ++ needed_line by.names p m place sh why) ++ origin_line by m origin →
      TellsNeed by p m s place sh why before after
  as_it_is : ((origin : ℕ) → ¬ HasOrigin p m s place sh why origin) → after ≡ before ++ needed_line by.names p m place sh why →
      TellsNeed by p m s place sh why before after

-- ways differ, or the instruction needs what is not there
abbrev pub TellsOf : (differ : Bool) → ToldBy → Image → ℕ → Shapes → ℕ → AbstractState → Reason → List ℕ → List ℕ → Type 0
TellsOf true by p m s place sh why before after = TellsWay by p m s place sh before after
TellsOf false by p m s place sh why before after = TellsNeed by p m s place sh why before after

abbrev pub TellsCause : ToldBy → Image → ℕ → Shapes → ℕ → AbstractState → Reason → List ℕ → List ℕ → Type 0
TellsCause by p m s place sh why before after = TellsOf (ways_differ p m place sh why) by p m s place sh why before after

-- ---- what is known there

-- what a state among others says that is refused at a place for that reason, and why
abbrev pub TellsState : ToldBy → Image → ℕ → Shapes → ℕ → AbstractState → Reason → List ℕ → List ℕ → Type 0
TellsState by p m s place sh why before after =
    TellsCause by p m s place sh why (before ++ known_text by.names p m sh) after

-- what is known at the place of a refusal, behind a text
pub data KnownThere (by : ToldBy) (p : Image) (m place : ℕ) (why : Reason) (before after : List ℕ) : Type 0 where
  -- all that a state says which arrives there and is refused for that reason
  known : (s : Shapes) → (stop : StopsAt p m s place why) → TellsState by p m s place stop.shape why before after → KnownThere by p m place why before after
  -- nothing, where the method is refused at another place too, or for another reason, and work on it ends there
  elsewhere : (s : Shapes) (other : ℕ) (reason : Reason) → StopsAt p m s other reason → (other ≡ place → reason ≡ why → ⊥) → after ≡ before →
      KnownThere by p m place why before after
  -- and where no method of a linked image is refused
  unrefused : (IsLinked p → IsSome (method_at p m) → ¬ HasTyping p m → ⊥) → after ≡ before → KnownThere by p m place why before after

abbrev pub KnownOf : ToldBy → Image → Refusal → List ℕ → List ℕ → Type 0
KnownOf by p refusals.OutOfMemory before after = after ≡ before
KnownOf by p (refusals.Refused method place why) before after = KnownThere by p method place why before after

-- so in the image that the bytes spell, by the names and the lines of the text that it is of
abbrev pub AddsKnown : (image text : List ℕ) → Refusal → List ℕ → List ℕ → Type 0
AddsKnown image text refusal before after = (p : Image) → IsSerialized image p → KnownOf (by_text text) p refusal before after

-- the place of a refusal is written behind a text, in the image that the bytes spell, and then what is known there
abbrev pub AddsRefusal : List ℕ → Refusal → List ℕ → List ℕ → Type 0
AddsRefusal image refusal before after = (p : Image) → IsSerialized image p → KnownOf by_numbers p refusal (before ++ refusal_text p refusal) after

-- the place of a fault is written behind a text
abbrev pub Adds : (image text : List ℕ) → Fault → List ℕ → List ℕ → Type 0
Adds image text (Verify refusal) before after = AddsRefusal image refusal before after
Adds image text (Link fault) before after = AddsLink image fault before after
Adds image text (Asm fault) before after = AddsWord (has_word fault.kind) text fault (before ++ line_text text fault.line) after
Adds image text fault before after = after ≡ before ++ place_text text fault

-- a text explains a fault: what is told of it by its kind and number, and its place
abbrev pub Explains : (image text : List ℕ) → Fault → List ℕ → Type 0
Explains image text fault said = Adds image text fault (entry_text (texts_of fault)) said

-- ---- by a text that the image is of

-- where the text has the place of a refusal
abbrev pub refusal_source : List ℕ → Refusal → List ℕ
refusal_source text refusals.OutOfMemory = []
refusal_source text (refusals.Refused method place why) = source_text text method place

-- where another fault is in the text that the image is of, or in the script
abbrev pub beside_text : (text script : List ℕ) → Fault → List ℕ
beside_text text script (Budget fault) = compared_text fault ++ declared_text text fault
beside_text text script fault = place_text script fault

-- the place of a fault is written behind a text, by the text that the image is of, and of a refusal what is known there
abbrev pub AddsBeside : (image text script : List ℕ) → Fault → List ℕ → List ℕ → Type 0
AddsBeside image text script (Verify refusal) before after = AddsKnown image text refusal (before ++ refusal_source text refusal) after
AddsBeside image text script (Link fault) before after = AddsLinkSource image text fault before after
AddsBeside image text script fault before after = after ≡ before ++ beside_text text script fault

-- a text explains a fault by the text that the image is of
abbrev pub ExplainsByText : (image text script : List ℕ) → Fault → List ℕ → Type 0
ExplainsByText image text script fault said = AddsBeside image text script fault (entry_text (texts_of fault)) said
