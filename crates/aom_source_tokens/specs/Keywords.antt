-- Which words are keywords.
use Rattle.std.specs.Prelude.{ℕ, List, length, codes, Option, Some, None, if◌then◌else◌, ◌==◌}
use Rattle.std.specs.Str.{bytes_eq}
use Rattle.aom_source_tokens.specs.declared.keyword.Keyword.{Keyword}
use Rattle.aom_source_tokens.specs.declared.keyword.Keyword.TheVariants as k

-- those of two letters
abbrev pub keyword_of_two : List ℕ → Option Keyword
keyword_of_two word =
    if bytes_eq word (codes "of") then Some k.Of
    else if bytes_eq word (codes "fn") then Some k.Fn
    else if bytes_eq word (codes "if") then Some k.If
    else if bytes_eq word (codes "in") then Some k.In
    else None

-- those of three letters
abbrev pub keyword_of_three : List ℕ → Option Keyword
keyword_of_three word =
    if bytes_eq word (codes "max") then Some k.Max
    else if bytes_eq word (codes "own") then Some k.Own
    else if bytes_eq word (codes "msg") then Some k.Msg
    else if bytes_eq word (codes "run") then Some k.Run
    else if bytes_eq word (codes "let") then Some k.Let
    else if bytes_eq word (codes "for") then Some k.For
    else if bytes_eq word (codes "new") then Some k.New
    else if bytes_eq word (codes "ask") then Some k.Ask
    else None

abbrev pub keyword_of_four_later : List ℕ → Option Keyword
keyword_of_four_later word =
    if bytes_eq word (codes "hand") then Some k.Hand
    else if bytes_eq word (codes "none") then Some k.NoObject
    else if bytes_eq word (codes "self") then Some k.This
    else None

-- those of four letters
abbrev pub keyword_of_four : List ℕ → Option Keyword
keyword_of_four word =
    if bytes_eq word (codes "enum") then Some k.Enum
    else if bytes_eq word (codes "word") then Some k.Word
    else if bytes_eq word (codes "else") then Some k.Else
    else if bytes_eq word (codes "undo") then Some k.Undo
    else if bytes_eq word (codes "main") then Some k.Main
    else if bytes_eq word (codes "loop") then Some k.Loop
    else if bytes_eq word (codes "stop") then Some k.Stop
    else if bytes_eq word (codes "trap") then Some k.Trap
    else if bytes_eq word (codes "take") then Some k.Take
    else keyword_of_four_later word

abbrev pub keyword_of_five_later : List ℕ → Option Keyword
keyword_of_five_later word =
    if bytes_eq word (codes "print") then Some k.Print
    else if bytes_eq word (codes "after") then Some k.After
    else if bytes_eq word (codes "close") then Some k.Close
    else if bytes_eq word (codes "reply") then Some k.Reply
    else if bytes_eq word (codes "defer") then Some k.Defer
    else if bytes_eq word (codes "catch") then Some k.Catch
    else if bytes_eq word (codes "maybe") then Some k.Maybe
    else if bytes_eq word (codes "super") then Some k.Super
    else None

-- those of five letters
abbrev pub keyword_of_five : List ℕ → Option Keyword
keyword_of_five word =
    if bytes_eq word (codes "cells") then Some k.Cells
    else if bytes_eq word (codes "const") then Some k.Const
    else if bytes_eq word (codes "class") then Some k.Class
    else if bytes_eq word (codes "timer") then Some k.Timer
    else if bytes_eq word (codes "token") then Some k.Token
    else if bytes_eq word (codes "error") then Some k.Error
    else if bytes_eq word (codes "while") then Some k.While
    else if bytes_eq word (codes "break") then Some k.Break
    else if bytes_eq word (codes "leave") then Some k.Leave
    else keyword_of_five_later word

abbrev pub keyword_of_six_later : List ℕ → Option Keyword
keyword_of_six_later word =
    if bytes_eq word (codes "resume") then Some k.Resume
    else if bytes_eq word (codes "assert") then Some k.Assert
    else if bytes_eq word (codes "status") then Some k.Status
    else None

-- those of six letters
abbrev pub keyword_of_six : List ℕ → Option Keyword
keyword_of_six word =
    if bytes_eq word (codes "budget") then Some k.Budget
    else if bytes_eq word (codes "active") then Some k.Active
    else if bytes_eq word (codes "native") then Some k.Native
    else if bytes_eq word (codes "server") then Some k.Server
    else if bytes_eq word (codes "cancel") then Some k.Cancel
    else if bytes_eq word (codes "accept") then Some k.Accept
    else if bytes_eq word (codes "return") then Some k.Return
    else if bytes_eq word (codes "delete") then Some k.Delete
    else if bytes_eq word (codes "enlist") then Some k.Enlist
    else keyword_of_six_later word

-- those of seven letters
abbrev pub keyword_of_seven : List ℕ → Option Keyword
keyword_of_seven word =
    if bytes_eq word (codes "natives") then Some k.Natives
    else if bytes_eq word (codes "session") then Some k.Session
    else if bytes_eq word (codes "service") then Some k.Service
    else if bytes_eq word (codes "leaveif") then Some k.LeaveIf
    else if bytes_eq word (codes "request") then Some k.Request
    else if bytes_eq word (codes "message") then Some k.Message
    else if bytes_eq word (codes "connect") then Some k.Connect
    else if bytes_eq word (codes "noleave") then Some k.NoLeave
    else None

-- those of eight letters
abbrev pub keyword_of_eight : List ℕ → Option Keyword
keyword_of_eight word =
    if bytes_eq word (codes "messages") then Some k.Messages
    else if bytes_eq word (codes "destruct") then Some k.Destruct
    else if bytes_eq word (codes "override") then Some k.Override
    else if bytes_eq word (codes "continue") then Some k.Continue
    else if bytes_eq word (codes "enlisted") then Some k.Enlisted
    else None

-- those of nine letters
abbrev pub keyword_of_nine : List ℕ → Option Keyword
keyword_of_nine word =
    if bytes_eq word (codes "construct") then Some k.Construct
    else None

abbrev pub keyword_of : List ℕ → Option Keyword
keyword_of word =
    if length word == 2 then keyword_of_two word
    else if length word == 3 then keyword_of_three word
    else if length word == 4 then keyword_of_four word
    else if length word == 5 then keyword_of_five word
    else if length word == 6 then keyword_of_six word
    else if length word == 7 then keyword_of_seven word
    else if length word == 8 then keyword_of_eight word
    else if length word == 9 then keyword_of_nine word
    else None
