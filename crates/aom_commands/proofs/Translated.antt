-- What is known of the translation that was sent, or of the fault that was told, is what the status answers.
use Rattle.std.proofs.lemmas.Bool.Decides.{nat_tests}
use Rattle.std.proofs.Common.{ℕ, List, arith, inl}
use Rattle.aom_image.specs.Image.{Image}
use Rattle.aom_link_conditions.specs.Linked.{IsLinked}
use Rattle.aom_typing_rules.specs.Typing.{Typing, IsTyped}
use Rattle.aom_commands.specs.declared.status.ExitStatus.{ExitStatus}
use Rattle.aom_commands.specs.declared.faults.Fault.{Fault}
use Rattle.aom_commands.specs.declared.commands.Translation.{Translation}
use Rattle.aom_commands.specs.declared.commands.Translation.TheVariants.{Asm, Dis, Dot}
use Rattle.aom_commands.specs.Acceptable.{IsSerialized}
use Rattle.aom_commands.specs.Assembly.{RefusesBytes, RefusesText}
use Rattle.aom_cost_report.specs.Names.{Names}
use Rattle.aom_commands.specs.Drawn.{IsDrawnBy, IsGraph}
use Rattle.aom_commands.specs.Headline.{Sent, Sends, IsSilent, Reported}
use Rattle.aom_commands.specs.Translations.{DrawsBy, IsTranslation, RefusesFile, Translates}
use Rattle.aom_commands.specs.Prices.{StopsEarly}
use Rattle.aom_commands.proofs.Figuring.{no_figures}
use Rattle.aom_commands.proofs.Sending.{due_sent}
use Rattle.aom_commands.proofs.Reporting.{turned}

pub translated : (to : Translation) (file text : List ℕ) (out errors : Sent) (status : ExitStatus) → IsTranslation to file text → Sends text status out errors →
    Translates to file out errors status
translated to file text out errors status is sends = grind (arith, nat_tests, due_sent)

-- a text that denotes no image, or want of memory
unassembled : (text : List ℕ) (fault : Fault) (out errors : Sent) (status : ExitStatus) → RefusesText text fault → IsSilent out → Reported fault status errors →
    Translates Asm text out errors status
unassembled text fault out errors status refuses silent reported = grind arith

-- bytes that are no image, or want of memory
unlisted : (bytes : List ℕ) (fault : Fault) (out errors : Sent) (status : ExitStatus) → RefusesBytes bytes fault → IsSilent out → Reported fault status errors →
    Translates Dis bytes out errors status
unlisted bytes fault out errors status refuses silent reported = grind arith

-- so the first fault is told
pub untranslated : (to : Translation) (file : List ℕ) (fault : Fault) (out errors : Sent) (status : ExitStatus) →
    RefusesFile to file fault → IsSilent out → Reported fault status errors → Translates to file out errors status
untranslated Asm text fault out errors status refuses silent reported = unassembled text fault out errors status refuses silent reported
untranslated Dis bytes fault out errors status refuses silent reported = unlisted bytes fault out errors status refuses silent reported
untranslated Dot bytes fault out errors status stops silent reported = turned
    (Translates Dot bytes out errors) bytes fault out errors status stops.refuses stops.complete silent reported (no_figures bytes fault out errors stops.early) inl

-- the graph of the image that the bytes are
pub drawn_of : (names : Names) (bytes text : List ℕ) (p : Image) (t : Typing) → IsSerialized bytes p → IsLinked p → IsTyped p t → IsGraph names p text →
    IsDrawnBy names bytes text
drawn_of names bytes text p t serialized linked typed graph = record { image = p; serialized = serialized; linked = linked; typing = t; typed = typed; graph = graph }

-- ---- a graph by names

pub drawn_by : (names : Names) (bytes text : List ℕ) (out errors : Sent) (status : ExitStatus) → IsDrawnBy names bytes text → Sends text status out errors →
    DrawsBy names bytes out errors status
drawn_by names bytes text out errors status is sends = grind (arith, nat_tests, due_sent)

pub undrawn : (names : Names) (bytes : List ℕ) (fault : Fault) (out errors : Sent) (status : ExitStatus) →
    StopsEarly bytes fault → IsSilent out → Reported fault status errors → DrawsBy names bytes out errors status
undrawn names bytes fault out errors status stops silent reported = turned
    (DrawsBy names bytes out errors) bytes fault out errors status stops.refuses stops.complete silent reported (no_figures bytes fault out errors stops.early) inl
