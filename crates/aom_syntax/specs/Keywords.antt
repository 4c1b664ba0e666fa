-- The words of the language that are no mnemonics.
use Rattle.std.specs.Prelude.{ℕ, List, [], ◌∷◌, Option, codes, is_some, ◌||◌, if◌then◌else◌}
use Rattle.std.specs.List.{find}
use Rattle.std.specs.Str.{bytes_eq}
use Rattle.aom_text.specs.declared.fault.AsmFaultKind.{AsmFaultKind}
use Rattle.aom_text.specs.declared.fault.AsmFaultKind.TheVariants.{BadShape, UnknownWord}
use Rattle.aom_instructions.specs.Mnemonics.{mnemonic_of}
use Rattle.aom_syntax.specs.declared.keyword.Keyword.{Keyword}
use Rattle.aom_syntax.specs.declared.keyword.Keyword.TheVariants as k

-- how each is written
abbrev pub keyword_text : Keyword → List ℕ
keyword_text k.Image = codes "image"
keyword_text k.Version = codes "version"
keyword_text k.Cells = codes "cells"
keyword_text k.Messages = codes "messages"
keyword_text k.Natives = codes "natives"
keyword_text k.Budget = codes "budget"
keyword_text k.Root = codes "root"
keyword_text k.Class = codes "class"
keyword_text k.Plain = codes "plain"
keyword_text k.Session = codes "session"
keyword_text k.Active = codes "active"
keyword_text k.Timer = codes "timer"
keyword_text k.Native = codes "native"
keyword_text k.Server = codes "server"
keyword_text k.Max = codes "max"
keyword_text k.Words = codes "words"
keyword_text k.Own = codes "own"
keyword_text k.From = codes "from"
keyword_text k.Method = codes "method"
keyword_text k.End = codes "end"
keyword_text k.Do = codes "do"
keyword_text k.Main = codes "main"
keyword_text k.Construct = codes "construct"
keyword_text k.Destruct = codes "destruct"
keyword_text k.Run = codes "run"
keyword_text k.Cancel = codes "cancel"
keyword_text k.Error = codes "error"
keyword_text k.Accept = codes "accept"
keyword_text k.Service = codes "service"
keyword_text k.Undo = codes "undo"
keyword_text k.Of = codes "of"
keyword_text k.Over = codes "over"
keyword_text k.Leaves = codes "leaves"
keyword_text k.Quiet = codes "quiet"
keyword_text k.In = codes "in"
keyword_text k.Out = codes "out"
keyword_text k.Args = codes "args"
keyword_text k.Gives = codes "gives"
keyword_text k.Nothing = codes "none"
keyword_text k.Word = codes "word"
keyword_text k.Maybe = codes "maybe"
keyword_text k.Left = codes "left"
keyword_text k.This = codes "self"
keyword_text k.Message = codes "msg"
keyword_text k.Token = codes "token"

-- all of them
abbrev pub keywords : List Keyword
keywords =
    k.Image
    ∷ k.Version
    ∷ k.Cells
    ∷ k.Messages
    ∷ k.Natives
    ∷ k.Budget
    ∷ k.Root
    ∷ k.Class
    ∷ k.Plain
    ∷ k.Session
    ∷ k.Active
    ∷ k.Timer
    ∷ k.Native
    ∷ k.Server
    ∷ k.Max
    ∷ k.Words
    ∷ k.Own
    ∷ k.From
    ∷ k.Method
    ∷ k.End
    ∷ k.Do
    ∷ k.Main
    ∷ k.Construct
    ∷ k.Destruct
    ∷ k.Run
    ∷ k.Cancel
    ∷ k.Error
    ∷ k.Accept
    ∷ k.Service
    ∷ k.Undo
    ∷ k.Of
    ∷ k.Over
    ∷ k.Leaves
    ∷ k.Quiet
    ∷ k.In
    ∷ k.Out
    ∷ k.Args
    ∷ k.Gives
    ∷ k.Nothing
    ∷ k.Word
    ∷ k.Maybe
    ∷ k.Left
    ∷ k.This
    ∷ k.Message
    ∷ k.Token
    ∷ []

-- the keyword that a word is
abbrev pub keyword_of : List ℕ → Option Keyword
keyword_of word = find (λ k. bytes_eq (keyword_text k) word) keywords

-- where a word of the language is expected, another one has the wrong shape, and any other word is unknown
unfoldable pub unexpected_word : List ℕ → AsmFaultKind
unexpected_word word = if is_some (keyword_of word) || is_some (mnemonic_of word) then BadShape else UnknownWord
