-- The grammar of a source: of which symbols a part consists, by the class of the token with which it begins and that of the one behind.
use Rattle.std.specs.Prelude.{Option, Some, None, List, [], ◌∷◌}
use Rattle.aom_source_tokens.specs.declared.keyword.Keyword.{Keyword}
use Rattle.aom_source_tokens.specs.declared.keyword.Keyword.TheVariants as k
use Rattle.aom_source_tokens.specs.declared.mark.Mark.{Mark}
use Rattle.aom_source_tokens.specs.declared.mark.Mark.TheVariants as m
use Rattle.aom_source_syntax.specs.declared.item.Action.{Action}
use Rattle.aom_source_syntax.specs.declared.item.Action.TheVariants as a
use Rattle.aom_source_syntax.specs.declared.symbol.Class.{Class}
use Rattle.aom_source_syntax.specs.declared.symbol.Class.TheVariants as c
use Rattle.aom_source_syntax.specs.declared.symbol.Part.{Part}
use Rattle.aom_source_syntax.specs.declared.symbol.Part.TheVariants as p
use Rattle.aom_source_syntax.specs.declared.declarations.DeclarationPart.{DeclarationPart}
use Rattle.aom_source_syntax.specs.declared.declarations.DeclarationPart.TheVariants as dp
use Rattle.aom_source_syntax.specs.declared.members.MemberPart.{MemberPart}
use Rattle.aom_source_syntax.specs.declared.members.MemberPart.TheVariants as mp
use Rattle.aom_source_syntax.specs.declared.statements.StatementPart.{StatementPart}
use Rattle.aom_source_syntax.specs.declared.statements.StatementPart.TheVariants as sp
use Rattle.aom_source_syntax.specs.declared.expressions.ExpressionPart.{ExpressionPart}
use Rattle.aom_source_syntax.specs.declared.expressions.ExpressionPart.TheVariants as ep
use Rattle.aom_source_syntax.specs.declared.names.NamePart.{NamePart}
use Rattle.aom_source_syntax.specs.declared.names.NamePart.TheVariants as np
use Rattle.aom_source_syntax.specs.declared.symbol.Symbol.{Symbol}
use Rattle.aom_source_syntax.specs.declared.symbol.Symbol.TheVariants as s

-- what a token is to the grammar
-- symbols: a keyword, a mark, a name, a number, the end of the text, what leaves an item, parts
abbrev pub keyword : Keyword → Symbol
keyword word = s.Token (c.Keyword word)

abbrev pub mark : Mark → Symbol
mark sign = s.Token (c.Mark sign)

abbrev pub a_name : Symbol
a_name = s.Token c.Name

abbrev pub a_number : Symbol
a_number = s.Token c.Number

abbrev pub the_end : Symbol
the_end = s.Token c.End

abbrev pub item : Action → Symbol
item x = s.Action x

abbrev pub declaration : DeclarationPart → Symbol
declaration x = s.Part (p.Declaration x)

abbrev pub member : MemberPart → Symbol
member x = s.Part (p.Member x)

abbrev pub statement : StatementPart → Symbol
statement x = s.Part (p.Statement x)

abbrev pub expression : ExpressionPart → Symbol
expression x = s.Part (p.Expression x)

abbrev pub name : NamePart → Symbol
name x = s.Part (p.Name x)

-- programs, declarations and heads of classes

abbrev pub declarations_symbols : Class → Option (List Symbol)
declarations_symbols c.End = Some ([])
declarations_symbols here = Some (declaration dp.Declaration ∷ declaration dp.Declarations ∷ [])

abbrev pub declaration_symbols : Class → Option (List Symbol)
declaration_symbols (c.Keyword k.Cells) = Some (keyword k.Cells ∷ expression ep.Constant ∷ mark m.Semicolon ∷ item a.Cells ∷ [])
declaration_symbols (c.Keyword k.Messages) = Some (keyword k.Messages ∷ expression ep.Constant ∷ mark m.Semicolon ∷ item a.Messages ∷ [])
declaration_symbols (c.Keyword k.Natives) = Some (keyword k.Natives ∷ expression ep.Constant ∷ mark m.Semicolon ∷ item a.Natives ∷ [])
declaration_symbols (c.Keyword k.Budget) = Some (keyword k.Budget ∷ expression ep.Constant ∷ mark m.Semicolon ∷ item a.MainBudget ∷ [])
declaration_symbols c.Name = Some (name np.RootWord ∷ name np.RootClass ∷ mark m.Semicolon ∷ [])
declaration_symbols (c.Keyword k.Const) =
    Some (item a.ConstBegin ∷ keyword k.Const ∷ name np.ConstName ∷ mark m.Assign ∷ expression ep.Constant ∷ mark m.Semicolon ∷ item a.Const ∷ [])
declaration_symbols (c.Keyword k.Enum) =
    Some (item a.EnumBegin ∷ keyword k.Enum ∷ name np.EnumName ∷ mark m.OpenBrace ∷ declaration dp.EnumMembers ∷ mark m.CloseBrace ∷ item a.EnumEnd ∷
    [])
declaration_symbols (c.Keyword k.Class) = Some (item a.PlainClass ∷ keyword k.Class ∷ declaration dp.ClassRest ∷ [])
declaration_symbols (c.Keyword k.Timer) = Some (item a.TimerClass ∷ keyword k.Timer ∷ keyword k.Class ∷ declaration dp.ClassRest ∷ [])
declaration_symbols (c.Keyword k.Active) = Some (item a.ActiveClass ∷ keyword k.Active ∷ keyword k.Class ∷ declaration dp.ClassRest ∷ [])
declaration_symbols (c.Keyword k.Token) = Some (item a.TokenClass ∷ keyword k.Token ∷ keyword k.Class ∷ declaration dp.ClassRest ∷ [])
declaration_symbols (c.Keyword k.Session) = Some (item a.SessionClass ∷ keyword k.Session ∷ keyword k.Class ∷ declaration dp.ClassRest ∷ [])
declaration_symbols (c.Keyword k.Server) = Some (item a.ServerClass ∷ keyword k.Server ∷ keyword k.Class ∷ declaration dp.ClassRest ∷ [])
declaration_symbols (c.Keyword k.Native) =
    Some (item a.NativeClass ∷ keyword k.Native ∷ expression ep.Constant ∷ item a.NativeNumber ∷ keyword k.Class ∷ declaration dp.ClassRest ∷ [])
declaration_symbols (c.Keyword k.Fn) = Some (member mp.Function ∷ [])
declaration_symbols (c.Keyword k.Undo) =
    Some (item a.Undo ∷ keyword k.Undo ∷ name np.MethodName ∷ mark m.OpenParenthesis ∷ declaration dp.UndoName ∷ mark m.CloseParenthesis ∷
    statement sp.Block ∷ item a.MethodEnd ∷ [])
declaration_symbols (c.Keyword k.Main) = Some (item a.Main ∷ keyword k.Main ∷ statement sp.Block ∷ item a.MethodEnd ∷ [])
declaration_symbols here = None

abbrev pub enum_members_symbols : Class → Option (List Symbol)
enum_members_symbols (c.Mark m.CloseBrace) = Some ([])
enum_members_symbols here = Some (declaration dp.EnumMember ∷ declaration dp.EnumMoreMembers ∷ [])

abbrev pub enum_more_members_symbols : Class → Option (List Symbol)
enum_more_members_symbols (c.Mark m.Comma) = Some (mark m.Comma ∷ declaration dp.EnumMembers ∷ [])
enum_more_members_symbols here = Some ([])

abbrev pub enum_value_symbols : Class → Option (List Symbol)
enum_value_symbols (c.Mark m.Assign) = Some (mark m.Assign ∷ expression ep.Constant ∷ item a.EnumValue ∷ [])
enum_value_symbols here = Some ([])

abbrev pub parent_symbols : Class → Option (List Symbol)
parent_symbols (c.Mark m.Colon) = Some (mark m.Colon ∷ name np.ParentName ∷ [])
parent_symbols here = Some ([])

abbrev pub sessions_symbols : Class → Option (List Symbol)
sessions_symbols (c.Keyword k.Of) = Some (keyword k.Of ∷ name np.SessionName ∷ keyword k.Max ∷ expression ep.Constant ∷ item a.MostSessions ∷ [])
sessions_symbols here = Some ([])

abbrev pub class_budget_symbols : Class → Option (List Symbol)
class_budget_symbols (c.Keyword k.Budget) = Some (keyword k.Budget ∷ expression ep.Constant ∷ item a.ClassBudget ∷ [])
class_budget_symbols here = Some ([])

abbrev pub class_body_symbols : Class → Option (List Symbol)
class_body_symbols (c.Mark m.Semicolon) = Some (mark m.Semicolon ∷ item a.ClassEnd ∷ [])
class_body_symbols (c.Mark m.OpenBrace) = Some (mark m.OpenBrace ∷ member mp.Members ∷ declaration dp.ClassClose ∷ [])
class_body_symbols here = None

abbrev pub declaration_rule : DeclarationPart → Class → Option (List Symbol)
declaration_rule dp.Program here = Some (declaration dp.Declarations ∷ the_end ∷ item a.ProgramEnd ∷ [])
declaration_rule dp.Declarations here = declarations_symbols here
declaration_rule dp.Declaration here = declaration_symbols here
declaration_rule dp.EnumMembers here = enum_members_symbols here
declaration_rule dp.EnumMoreMembers here = enum_more_members_symbols here
declaration_rule dp.EnumMember here = Some (name np.MemberName ∷ declaration dp.EnumValue ∷ [])
declaration_rule dp.EnumValue here = enum_value_symbols here
declaration_rule dp.UndoName here = Some (a_name ∷ item a.Parameter ∷ item a.WordType ∷ [])
declaration_rule dp.ClassRest here =
    Some (name np.ClassName ∷ declaration dp.Parent ∷ declaration dp.Sessions ∷ declaration dp.ClassBudget ∷ declaration dp.ClassBody ∷ [])
declaration_rule dp.Parent here = parent_symbols here
declaration_rule dp.Sessions here = sessions_symbols here
declaration_rule dp.ClassBudget here = class_budget_symbols here
declaration_rule dp.ClassBody here = class_body_symbols here
declaration_rule dp.ClassClose here = Some (mark m.CloseBrace ∷ item a.ClassEnd ∷ [])

-- members of classes, methods and types

abbrev pub members_symbols : Class → Option (List Symbol)
members_symbols (c.Mark m.CloseBrace) = Some ([])
members_symbols here = Some (member mp.Member ∷ member mp.Members ∷ [])

abbrev pub member_symbols : Class → Option (List Symbol)
member_symbols (c.Keyword k.Word) = Some (keyword k.Word ∷ name np.WordName ∷ member mp.MoreWords ∷ mark m.Semicolon ∷ [])
member_symbols (c.Keyword k.Own) = Some (keyword k.Own ∷ name np.OwnName ∷ mark m.Colon ∷ member mp.OwnType ∷ mark m.Semicolon ∷ [])
member_symbols (c.Keyword k.Construct) =
    Some (item a.Construct ∷ keyword k.Construct ∷ member mp.Parameters ∷ statement sp.Block ∷ item a.MethodEnd ∷ [])
member_symbols (c.Keyword k.Destruct) = Some (item a.Destruct ∷ keyword k.Destruct ∷ statement sp.Block ∷ item a.MethodEnd ∷ [])
member_symbols (c.Keyword k.Run) = Some (item a.Run ∷ keyword k.Run ∷ statement sp.Block ∷ item a.MethodEnd ∷ [])
member_symbols (c.Keyword k.Cancel) = Some (item a.CancelMethod ∷ keyword k.Cancel ∷ statement sp.Block ∷ item a.MethodEnd ∷ [])
member_symbols (c.Keyword k.Accept) = Some (item a.Accept ∷ keyword k.Accept ∷ statement sp.Block ∷ item a.MethodEnd ∷ [])
member_symbols (c.Keyword k.Error) =
    Some (item a.Error ∷ keyword k.Error ∷ mark m.OpenParenthesis ∷ member mp.RoleParameters ∷ mark m.CloseParenthesis ∷ statement sp.Block ∷
    item a.MethodEnd ∷ [])
member_symbols (c.Keyword k.Service) =
    Some (item a.Service ∷ keyword k.Service ∷ mark m.OpenParenthesis ∷ member mp.RoleParameters ∷ mark m.CloseParenthesis ∷ statement sp.Block ∷
    item a.MethodEnd ∷ [])
member_symbols (c.Keyword k.Fn) = Some (member mp.Function ∷ [])
member_symbols (c.Keyword k.Override) = Some (item a.Override ∷ keyword k.Override ∷ member mp.Function ∷ [])
member_symbols here = None

abbrev pub more_words_symbols : Class → Option (List Symbol)
more_words_symbols (c.Mark m.Comma) = Some (mark m.Comma ∷ name np.WordName ∷ member mp.MoreWords ∷ [])
more_words_symbols here = Some ([])

abbrev pub own_type_symbols : Class → Option (List Symbol)
own_type_symbols (c.Keyword k.Msg) = Some (item a.MessageElse ∷ keyword k.Msg ∷ keyword k.Else ∷ expression ep.Expression ∷ item a.OwnMessage ∷ [])
own_type_symbols here = Some (name np.OwnClass ∷ [])

abbrev pub parameter_list_symbols : Class → Option (List Symbol)
parameter_list_symbols (c.Mark m.CloseParenthesis) = Some ([])
parameter_list_symbols here = Some (member mp.Parameter ∷ member mp.MoreParameters ∷ [])

abbrev pub more_parameters_symbols : Class → Option (List Symbol)
more_parameters_symbols (c.Mark m.Comma) = Some (mark m.Comma ∷ member mp.ParameterList ∷ [])
more_parameters_symbols here = Some ([])

abbrev pub role_parameters_symbols : Class → Option (List Symbol)
role_parameters_symbols (c.Mark m.CloseParenthesis) = Some ([])
role_parameters_symbols here = Some (member mp.RoleParameter ∷ member mp.MoreRoleParameters ∷ [])

abbrev pub more_role_parameters_symbols : Class → Option (List Symbol)
more_role_parameters_symbols (c.Mark m.Comma) = Some (mark m.Comma ∷ member mp.RoleParameters ∷ [])
more_role_parameters_symbols here = Some ([])

abbrev pub result_symbols : Class → Option (List Symbol)
result_symbols (c.Mark m.Arrow) = Some (mark m.Arrow ∷ item a.Result ∷ member mp.Type ∷ [])
result_symbols here = Some ([])

abbrev pub no_leave_symbols : Class → Option (List Symbol)
no_leave_symbols (c.Keyword k.NoLeave) = Some (keyword k.NoLeave ∷ item a.NoLeave ∷ [])
no_leave_symbols here = Some ([])

abbrev pub type_symbols : Class → Option (List Symbol)
type_symbols (c.Keyword k.Word) = Some (keyword k.Word ∷ item a.WordType ∷ [])
type_symbols (c.Keyword k.Msg) = Some (keyword k.Msg ∷ item a.MessageType ∷ member mp.Question ∷ [])
type_symbols here = Some (name np.TypeName ∷ member mp.Question ∷ [])

abbrev pub question_symbols : Class → Option (List Symbol)
question_symbols (c.Mark m.Question) = Some (mark m.Question ∷ item a.MaybeType ∷ [])
question_symbols here = Some ([])

abbrev pub member_rule : MemberPart → Class → Option (List Symbol)
member_rule mp.Members here = members_symbols here
member_rule mp.Member here = member_symbols here
member_rule mp.MoreWords here = more_words_symbols here
member_rule mp.OwnType here = own_type_symbols here
member_rule mp.Function here =
    Some (item a.Function ∷ keyword k.Fn ∷ name np.MethodName ∷ member mp.Parameters ∷ member mp.Result ∷ member mp.NoLeave ∷ statement sp.Block ∷
    item a.MethodEnd ∷ [])
member_rule mp.Parameters here = Some (mark m.OpenParenthesis ∷ member mp.ParameterList ∷ mark m.CloseParenthesis ∷ [])
member_rule mp.ParameterList here = parameter_list_symbols here
member_rule mp.MoreParameters here = more_parameters_symbols here
member_rule mp.Parameter here = Some (name np.ParameterName ∷ mark m.Colon ∷ member mp.Type ∷ [])
member_rule mp.RoleParameters here = role_parameters_symbols here
member_rule mp.MoreRoleParameters here = more_role_parameters_symbols here
member_rule mp.RoleParameter here = Some (a_name ∷ item a.Parameter ∷ item a.WordType ∷ [])
member_rule mp.Result here = result_symbols here
member_rule mp.NoLeave here = no_leave_symbols here
member_rule mp.Type here = type_symbols here
member_rule mp.Question here = question_symbols here

-- blocks and statements

abbrev pub statements_symbols : Class → Option (List Symbol)
statements_symbols (c.Mark m.CloseBrace) = Some ([])
statements_symbols here = Some (statement sp.Statement ∷ statement sp.Statements ∷ [])

abbrev pub statement_at_return : Class → Option (List Symbol)
statement_at_return (c.Mark m.Semicolon) = Some (keyword k.Return ∷ mark m.Semicolon ∷ item a.Return ∷ [])
statement_at_return next = Some (item a.ReturnBegin ∷ keyword k.Return ∷ expression ep.Expression ∷ mark m.Semicolon ∷ item a.ReturnValue ∷ [])

abbrev pub statement_at_name : Class → Option (List Symbol)
statement_at_name (c.Mark m.Assign) =
    Some (item a.Assign ∷ name np.AssignedName ∷ mark m.Assign ∷ expression ep.Expression ∷ mark m.Semicolon ∷ item a.AssignEnd ∷ [])
statement_at_name (c.Mark m.PlusAssign) =
    Some (item a.Assign ∷ statement sp.ChangedName ∷ mark m.PlusAssign ∷ expression ep.Expression ∷ item a.Add ∷ mark m.Semicolon ∷
    item a.AssignEnd ∷ [])
statement_at_name (c.Mark m.MinusAssign) =
    Some (item a.Assign ∷ statement sp.ChangedName ∷ mark m.MinusAssign ∷ expression ep.Expression ∷ item a.Subtract ∷ mark m.Semicolon ∷
    item a.AssignEnd ∷ [])
statement_at_name (c.Mark m.TimesAssign) =
    Some (item a.Assign ∷ statement sp.ChangedName ∷ mark m.TimesAssign ∷ expression ep.Expression ∷ item a.Multiply ∷ mark m.Semicolon ∷
    item a.AssignEnd ∷ [])
statement_at_name (c.Mark m.AndAssign) =
    Some (item a.Assign ∷ statement sp.ChangedName ∷ mark m.AndAssign ∷ expression ep.Expression ∷ item a.BitAnd ∷ mark m.Semicolon ∷
    item a.AssignEnd ∷ [])
statement_at_name (c.Mark m.OrAssign) =
    Some (item a.Assign ∷ statement sp.ChangedName ∷ mark m.OrAssign ∷ expression ep.Expression ∷ item a.BitOr ∷ mark m.Semicolon ∷
    item a.AssignEnd ∷ [])
statement_at_name (c.Mark m.XorAssign) =
    Some (item a.Assign ∷ statement sp.ChangedName ∷ mark m.XorAssign ∷ expression ep.Expression ∷ item a.BitXor ∷ mark m.Semicolon ∷
    item a.AssignEnd ∷ [])
statement_at_name next = Some (item a.Do ∷ expression ep.Expression ∷ mark m.Semicolon ∷ item a.DoEnd ∷ [])

abbrev pub worded_statement_symbols : Class → Option (List Symbol)
worded_statement_symbols (c.Keyword k.Leave) =
    Some (item a.LeaveBegin ∷ keyword k.Leave ∷ expression ep.Expression ∷ mark m.Semicolon ∷ item a.Leave ∷ [])
worded_statement_symbols (c.Keyword k.LeaveIf) =
    Some (item a.LeaveIfBegin ∷ keyword k.LeaveIf ∷ expression ep.Expression ∷ mark m.Semicolon ∷ item a.LeaveIf ∷ [])
worded_statement_symbols (c.Keyword k.Print) =
    Some (item a.PrintBegin ∷ keyword k.Print ∷ expression ep.Expression ∷ mark m.Semicolon ∷ item a.Print ∷ [])
worded_statement_symbols (c.Keyword k.Enlist) =
    Some (item a.EnlistBegin ∷ keyword k.Enlist ∷ expression ep.Expression ∷ mark m.Semicolon ∷ item a.Enlist ∷ [])
worded_statement_symbols (c.Keyword k.After) =
    Some (item a.AfterBegin ∷ keyword k.After ∷ expression ep.Expression ∷ mark m.Semicolon ∷ item a.After ∷ [])
worded_statement_symbols (c.Keyword k.Resume) =
    Some (item a.ResumeBegin ∷ keyword k.Resume ∷ expression ep.Expression ∷ mark m.Semicolon ∷ item a.Resume ∷ [])
worded_statement_symbols (c.Keyword k.Assert) =
    Some (item a.AssertBegin ∷ keyword k.Assert ∷ item a.Test ∷ expression ep.Expression ∷ item a.TestEnd ∷ mark m.Semicolon ∷ item a.Assert ∷ [])
worded_statement_symbols (c.Keyword k.Request) =
    Some (item a.RequestBegin ∷ keyword k.Request ∷ expression ep.Expression ∷ item a.RequestFunction ∷ mark m.Comma ∷ expression ep.Expression ∷
    mark m.Semicolon ∷ item a.Request ∷ [])
worded_statement_symbols (c.Keyword k.Reply) =
    Some (item a.ReplyBegin ∷ keyword k.Reply ∷ expression ep.Expression ∷ item a.ReplyTo ∷ mark m.Comma ∷ expression ep.Expression ∷
    mark m.Semicolon ∷ item a.Reply ∷ [])
worded_statement_symbols (c.Keyword k.Delete) = Some (keyword k.Delete ∷ name np.DeletedName ∷ mark m.Semicolon ∷ [])
worded_statement_symbols (c.Keyword k.Defer) =
    Some (item a.DeferBegin ∷ keyword k.Defer ∷ name np.DeferredName ∷ mark m.OpenParenthesis ∷ expression ep.Expression ∷ mark m.CloseParenthesis ∷
    mark m.Semicolon ∷ item a.Defer ∷ [])
worded_statement_symbols here = Some (item a.Do ∷ expression ep.Expression ∷ mark m.Semicolon ∷ item a.DoEnd ∷ [])

abbrev pub statement_symbols : Class → Class → Option (List Symbol)
statement_symbols (c.Keyword k.Let) next = Some (item a.Let ∷ keyword k.Let ∷ name np.LetName ∷ statement sp.LetRest ∷ [])
statement_symbols (c.Keyword k.Trap) next = Some (statement sp.TrapRest ∷ [])
statement_symbols (c.Keyword k.If) next = Some (statement sp.IfStatement ∷ [])
statement_symbols (c.Keyword k.Loop) next =
    Some (item a.Loop ∷ keyword k.Loop ∷ expression ep.Constant ∷ item a.Rounds ∷ statement sp.Block ∷ item a.LoopEnd ∷ [])
statement_symbols (c.Keyword k.While) next =
    Some (item a.While ∷ keyword k.While ∷ item a.Test ∷ expression ep.Expression ∷ item a.TestEnd ∷ keyword k.Max ∷ expression ep.Constant ∷
    item a.Rounds ∷ statement sp.Block ∷ item a.LoopEnd ∷ [])
statement_symbols (c.Keyword k.For) next =
    Some (item a.For ∷ keyword k.For ∷ name np.ForName ∷ keyword k.In ∷ expression ep.Constant ∷ item a.ForFrom ∷ mark m.DotDot ∷
    expression ep.Constant ∷ item a.ForTo ∷ statement sp.Block ∷ item a.LoopEnd ∷ [])
statement_symbols (c.Keyword k.Break) next = Some (keyword k.Break ∷ mark m.Semicolon ∷ item a.Break ∷ [])
statement_symbols (c.Keyword k.Continue) next = Some (keyword k.Continue ∷ mark m.Semicolon ∷ item a.Continue ∷ [])
statement_symbols (c.Keyword k.Stop) next = Some (keyword k.Stop ∷ mark m.Semicolon ∷ item a.Stop ∷ [])
statement_symbols (c.Keyword k.Cancel) next = Some (keyword k.Cancel ∷ mark m.Semicolon ∷ item a.Cancel ∷ [])
statement_symbols (c.Keyword k.Close) next = Some (keyword k.Close ∷ mark m.Semicolon ∷ item a.Close ∷ [])
statement_symbols (c.Keyword k.Return) next = statement_at_return next
statement_symbols c.Name next = statement_at_name next
statement_symbols here next = worded_statement_symbols here

abbrev pub let_rest_symbols : Class → Option (List Symbol)
let_rest_symbols (c.Mark m.Comma) =
    Some (mark m.Comma ∷ name np.CodeName ∷ mark m.Assign ∷ item a.Trap ∷ keyword k.Trap ∷ expression ep.Expression ∷ mark m.Semicolon ∷
    item a.TrapEnd ∷ [])
let_rest_symbols (c.Mark m.Colon) = Some (mark m.Colon ∷ member mp.Type ∷ mark m.Assign ∷ statement sp.LetValue ∷ [])
let_rest_symbols (c.Mark m.Assign) = Some (mark m.Assign ∷ statement sp.LetValue ∷ [])
let_rest_symbols here = None

abbrev pub let_value_symbols : Class → Option (List Symbol)
let_value_symbols (c.Keyword k.Trap) = Some (statement sp.TrapRest ∷ [])
let_value_symbols here = Some (expression ep.Expression ∷ mark m.Semicolon ∷ item a.LetEnd ∷ [])

abbrev pub condition_symbols : Class → Option (List Symbol)
condition_symbols (c.Keyword k.Let) =
    Some (item a.IfLet ∷ keyword k.Let ∷ name np.IfName ∷ mark m.Assign ∷ expression ep.Expression ∷ item a.IfLetEnd ∷ [])
condition_symbols here = Some (item a.Test ∷ expression ep.Expression ∷ item a.TestEnd ∷ [])

abbrev pub else_symbols : Class → Option (List Symbol)
else_symbols (c.Keyword k.Else) = Some (item a.Else ∷ keyword k.Else ∷ statement sp.ElseRest ∷ [])
else_symbols here = Some ([])

abbrev pub else_rest_symbols : Class → Option (List Symbol)
else_rest_symbols (c.Keyword k.If) = Some (statement sp.IfStatement ∷ [])
else_rest_symbols here = Some (statement sp.Block ∷ [])

abbrev pub statement_rule : StatementPart → Class → Class → Option (List Symbol)
statement_rule sp.Block here next = Some (mark m.OpenBrace ∷ item a.BlockBegin ∷ statement sp.Statements ∷ statement sp.BlockClose ∷ [])
statement_rule sp.BlockClose here next = Some (mark m.CloseBrace ∷ item a.BlockEnd ∷ [])
statement_rule sp.Statements here next = statements_symbols here
statement_rule sp.Statement here next = statement_symbols here next
statement_rule sp.LetRest here next = let_rest_symbols here
statement_rule sp.LetValue here next = let_value_symbols here
statement_rule sp.TrapRest here next =
    Some (item a.Trap ∷ keyword k.Trap ∷ expression ep.Expression ∷ keyword k.Catch ∷ name np.CatchName ∷ statement sp.Block ∷ item a.TrapEnd ∷ [])
statement_rule sp.IfStatement here next =
    Some (item a.If ∷ keyword k.If ∷ statement sp.Condition ∷ statement sp.Block ∷ statement sp.Else ∷ item a.IfEnd ∷ [])
statement_rule sp.Condition here next = condition_symbols here
statement_rule sp.Else here next = else_symbols here
statement_rule sp.ElseRest here next = else_rest_symbols here
statement_rule sp.ChangedName here next = Some (a_name ∷ item a.AssignedName ∷ item a.Name ∷ [])

-- expressions

abbrev pub more_or_symbols : Class → Option (List Symbol)
more_or_symbols (c.Mark m.Or) = Some (mark m.Or ∷ item a.Or ∷ expression ep.AndTerm ∷ item a.OrEnd ∷ expression ep.MoreOr ∷ [])
more_or_symbols here = Some ([])

abbrev pub more_and_symbols : Class → Option (List Symbol)
more_and_symbols (c.Mark m.And) = Some (mark m.And ∷ item a.And ∷ expression ep.Comparison ∷ item a.AndEnd ∷ expression ep.MoreAnd ∷ [])
more_and_symbols here = Some ([])

abbrev pub more_comparison_symbols : Class → Option (List Symbol)
more_comparison_symbols (c.Mark m.Equal) = Some (mark m.Equal ∷ expression ep.BitOrTerm ∷ item a.Equal ∷ expression ep.MoreComparison ∷ [])
more_comparison_symbols (c.Mark m.NotEqual) = Some (mark m.NotEqual ∷ expression ep.BitOrTerm ∷ item a.NotEqual ∷ expression ep.MoreComparison ∷ [])
more_comparison_symbols (c.Mark m.Less) = Some (mark m.Less ∷ expression ep.BitOrTerm ∷ item a.Less ∷ expression ep.MoreComparison ∷ [])
more_comparison_symbols (c.Mark m.AtMost) = Some (mark m.AtMost ∷ expression ep.BitOrTerm ∷ item a.AtMost ∷ expression ep.MoreComparison ∷ [])
more_comparison_symbols (c.Mark m.Greater) = Some (mark m.Greater ∷ expression ep.BitOrTerm ∷ item a.Greater ∷ expression ep.MoreComparison ∷ [])
more_comparison_symbols (c.Mark m.AtLeast) = Some (mark m.AtLeast ∷ expression ep.BitOrTerm ∷ item a.AtLeast ∷ expression ep.MoreComparison ∷ [])
more_comparison_symbols here = Some ([])

abbrev pub more_bit_or_symbols : Class → Option (List Symbol)
more_bit_or_symbols (c.Mark m.BitOr) = Some (mark m.BitOr ∷ expression ep.BitXorTerm ∷ item a.BitOr ∷ expression ep.MoreBitOr ∷ [])
more_bit_or_symbols here = Some ([])

abbrev pub unary_at_minus : Class → Option (List Symbol)
unary_at_minus c.Number = Some (mark m.Minus ∷ expression ep.NegativeNumber ∷ [])
unary_at_minus next = Some (item a.Zero ∷ mark m.Minus ∷ expression ep.Unary ∷ item a.Subtract ∷ [])

abbrev pub unary_symbols : Class → Class → Option (List Symbol)
unary_symbols (c.Mark m.Not) next = Some (mark m.Not ∷ expression ep.Unary ∷ item a.Not ∷ [])
unary_symbols (c.Mark m.Minus) next = unary_at_minus next
unary_symbols here next = Some (expression ep.Primary ∷ [])

abbrev pub primary_at_super : Class → Option (List Symbol)
primary_at_super (c.Mark m.OpenParenthesis) = Some (item a.SuperConstruct ∷ keyword k.Super ∷ expression ep.Arguments ∷ item a.CallEnd ∷ [])
primary_at_super next = Some (item a.SuperCall ∷ keyword k.Super ∷ mark m.Dot ∷ name np.CalledName ∷ expression ep.Arguments ∷ item a.CallEnd ∷ [])

abbrev pub primary_at_name : Class → Option (List Symbol)
primary_at_name (c.Mark m.OpenParenthesis) = Some (item a.PlainCall ∷ name np.CalledName ∷ expression ep.Arguments ∷ item a.CallEnd ∷ [])
primary_at_name (c.Mark m.Dot) = Some (item a.Dotted ∷ name np.ObjectName ∷ mark m.Dot ∷ name np.CalledName ∷ expression ep.DottedRest ∷ [])
primary_at_name (c.Mark m.MaybeDot) =
    Some (item a.MaybeCall ∷ name np.ObjectName ∷ mark m.MaybeDot ∷ name np.CalledName ∷ expression ep.Arguments ∷ item a.CallEnd ∷ [])
primary_at_name next = Some (a_name ∷ item a.Name ∷ [])

abbrev pub primary_symbols : Class → Class → Option (List Symbol)
primary_symbols c.Number next = Some (a_number ∷ item a.Number ∷ [])
primary_symbols (c.Mark m.OpenParenthesis) next = Some (mark m.OpenParenthesis ∷ expression ep.Expression ∷ mark m.CloseParenthesis ∷ [])
primary_symbols (c.Keyword k.Maybe) next =
    Some (item a.MaybeNew ∷ keyword k.Maybe ∷ keyword k.New ∷ name np.NewClass ∷ expression ep.NewArguments ∷ item a.NewEnd ∷ [])
primary_symbols (c.Keyword k.New) next = Some (item a.New ∷ keyword k.New ∷ name np.NewClass ∷ expression ep.NewArguments ∷ item a.NewEnd ∷ [])
primary_symbols (c.Keyword k.Take) next = Some (keyword k.Take ∷ name np.TakenName ∷ [])
primary_symbols (c.Keyword k.Hand) next = Some (keyword k.Hand ∷ item a.Hand ∷ [])
primary_symbols (c.Keyword k.Message) next = Some (keyword k.Message ∷ item a.Message ∷ [])
primary_symbols (c.Keyword k.Status) next = Some (keyword k.Status ∷ item a.Status ∷ [])
primary_symbols (c.Keyword k.Connect) next = Some (keyword k.Connect ∷ item a.Connect ∷ [])
primary_symbols (c.Keyword k.Active) next = Some (keyword k.Active ∷ item a.IsActive ∷ [])
primary_symbols (c.Keyword k.Enlisted) next = Some (keyword k.Enlisted ∷ item a.IsEnlisted ∷ [])
primary_symbols (c.Keyword k.NoObject) next = Some (keyword k.NoObject ∷ item a.None ∷ [])
primary_symbols (c.Keyword k.Ask) next = Some (item a.Ask ∷ keyword k.Ask ∷ expression ep.Arguments ∷ item a.AskEnd ∷ [])
primary_symbols (c.Keyword k.Super) next = primary_at_super next
primary_symbols (c.Keyword k.This) next =
    Some (item a.SelfCall ∷ keyword k.This ∷ mark m.Dot ∷ name np.CalledName ∷ expression ep.Arguments ∷ item a.CallEnd ∷ [])
primary_symbols c.Name next = primary_at_name next
primary_symbols here next = None

abbrev pub new_arguments_symbols : Class → Option (List Symbol)
new_arguments_symbols (c.Mark m.OpenParenthesis) = Some (expression ep.Arguments ∷ [])
new_arguments_symbols here = Some ([])

abbrev pub dotted_rest_symbols : Class → Option (List Symbol)
dotted_rest_symbols (c.Mark m.OpenParenthesis) = Some (expression ep.Arguments ∷ item a.CallEnd ∷ [])
dotted_rest_symbols here = Some (item a.DottedEnd ∷ [])

abbrev pub argument_list_symbols : Class → Option (List Symbol)
argument_list_symbols (c.Mark m.CloseParenthesis) = Some ([])
argument_list_symbols here = Some (item a.Argument ∷ expression ep.Expression ∷ item a.ArgumentEnd ∷ expression ep.MoreArguments ∷ [])

abbrev pub more_arguments_symbols : Class → Option (List Symbol)
more_arguments_symbols (c.Mark m.Comma) = Some (mark m.Comma ∷ expression ep.ArgumentList ∷ [])
more_arguments_symbols here = Some ([])

abbrev pub more_bit_xor_symbols : Class → Option (List Symbol)
more_bit_xor_symbols (c.Mark m.BitXor) = Some (mark m.BitXor ∷ expression ep.BitAndTerm ∷ item a.BitXor ∷ expression ep.MoreBitXor ∷ [])
more_bit_xor_symbols here = Some ([])

abbrev pub more_bit_and_symbols : Class → Option (List Symbol)
more_bit_and_symbols (c.Mark m.BitAnd) = Some (mark m.BitAnd ∷ expression ep.Sum ∷ item a.BitAnd ∷ expression ep.MoreBitAnd ∷ [])
more_bit_and_symbols here = Some ([])

abbrev pub more_sum_symbols : Class → Option (List Symbol)
more_sum_symbols (c.Mark m.Plus) = Some (mark m.Plus ∷ expression ep.Product ∷ item a.Add ∷ expression ep.MoreSum ∷ [])
more_sum_symbols (c.Mark m.Minus) = Some (mark m.Minus ∷ expression ep.Product ∷ item a.Subtract ∷ expression ep.MoreSum ∷ [])
more_sum_symbols here = Some ([])

abbrev pub more_product_symbols : Class → Option (List Symbol)
more_product_symbols (c.Mark m.Times) = Some (mark m.Times ∷ expression ep.Unary ∷ item a.Multiply ∷ expression ep.MoreProduct ∷ [])
more_product_symbols here = Some ([])

abbrev pub expression_rule : ExpressionPart → Class → Class → Option (List Symbol)
expression_rule ep.Constant here next = Some (item a.ConstantBegin ∷ expression ep.Expression ∷ item a.ConstantEnd ∷ [])
expression_rule ep.Expression here next = Some (expression ep.AndTerm ∷ expression ep.MoreOr ∷ [])
expression_rule ep.MoreOr here next = more_or_symbols here
expression_rule ep.AndTerm here next = Some (expression ep.Comparison ∷ expression ep.MoreAnd ∷ [])
expression_rule ep.MoreAnd here next = more_and_symbols here
expression_rule ep.Comparison here next = Some (expression ep.BitOrTerm ∷ expression ep.MoreComparison ∷ [])
expression_rule ep.MoreComparison here next = more_comparison_symbols here
expression_rule ep.BitOrTerm here next = Some (expression ep.BitXorTerm ∷ expression ep.MoreBitOr ∷ [])
expression_rule ep.MoreBitOr here next = more_bit_or_symbols here
expression_rule ep.BitXorTerm here next = Some (expression ep.BitAndTerm ∷ expression ep.MoreBitXor ∷ [])
expression_rule ep.BitAndTerm here next = Some (expression ep.Sum ∷ expression ep.MoreBitAnd ∷ [])
expression_rule ep.Sum here next = Some (expression ep.Product ∷ expression ep.MoreSum ∷ [])
expression_rule ep.Product here next = Some (expression ep.Unary ∷ expression ep.MoreProduct ∷ [])
expression_rule ep.Unary here next = unary_symbols here next
expression_rule ep.NegativeNumber here next = Some (a_number ∷ item a.NegativeNumber ∷ [])
expression_rule ep.Primary here next = primary_symbols here next
expression_rule ep.NewArguments here next = new_arguments_symbols here
expression_rule ep.DottedRest here next = dotted_rest_symbols here
expression_rule ep.Arguments here next = Some (mark m.OpenParenthesis ∷ expression ep.ArgumentList ∷ mark m.CloseParenthesis ∷ [])
expression_rule ep.ArgumentList here next = argument_list_symbols here
expression_rule ep.MoreArguments here next = more_arguments_symbols here
expression_rule ep.MoreBitXor here next = more_bit_xor_symbols here
expression_rule ep.MoreBitAnd here next = more_bit_and_symbols here
expression_rule ep.MoreSum here next = more_sum_symbols here
expression_rule ep.MoreProduct here next = more_product_symbols here

-- names

abbrev pub name_rule : NamePart → Option (List Symbol)
name_rule np.RootWord = Some (a_name ∷ item a.RootWord ∷ [])
name_rule np.RootClass = Some (a_name ∷ item a.Root ∷ [])
name_rule np.ConstName = Some (a_name ∷ item a.ConstName ∷ [])
name_rule np.EnumName = Some (a_name ∷ item a.EnumName ∷ [])
name_rule np.MemberName = Some (a_name ∷ item a.EnumMember ∷ [])
name_rule np.ClassName = Some (a_name ∷ item a.ClassName ∷ [])
name_rule np.ParentName = Some (a_name ∷ item a.Parent ∷ [])
name_rule np.SessionName = Some (a_name ∷ item a.Sessions ∷ [])
name_rule np.WordName = Some (a_name ∷ item a.Word ∷ [])
name_rule np.OwnName = Some (a_name ∷ item a.Own ∷ [])
name_rule np.OwnClass = Some (a_name ∷ item a.OwnClass ∷ [])
name_rule np.MethodName = Some (a_name ∷ item a.MethodName ∷ [])
name_rule np.ParameterName = Some (a_name ∷ item a.Parameter ∷ [])
name_rule np.TypeName = Some (a_name ∷ item a.ClassType ∷ [])
name_rule np.LetName = Some (a_name ∷ item a.LetName ∷ [])
name_rule np.CodeName = Some (a_name ∷ item a.CodeName ∷ [])
name_rule np.CatchName = Some (a_name ∷ item a.CatchName ∷ [])
name_rule np.IfName = Some (a_name ∷ item a.IfName ∷ [])
name_rule np.ForName = Some (a_name ∷ item a.ForName ∷ [])
name_rule np.DeletedName = Some (a_name ∷ item a.Delete ∷ [])
name_rule np.DeferredName = Some (a_name ∷ item a.DeferredName ∷ [])
name_rule np.AssignedName = Some (a_name ∷ item a.AssignedName ∷ [])
name_rule np.NewClass = Some (a_name ∷ item a.NewClass ∷ [])
name_rule np.TakenName = Some (a_name ∷ item a.Take ∷ [])
name_rule np.ObjectName = Some (a_name ∷ item a.ObjectName ∷ [])
name_rule np.CalledName = Some (a_name ∷ item a.CalledName ∷ [])

-- The symbols of a part that begins with a token of class `here` before one of class `next`: none where no such part begins so.
abbrev pub rule : Part → Class → Class → Option (List Symbol)
rule (p.Declaration part) here next = declaration_rule part here
rule (p.Member part) here next = member_rule part here
rule (p.Statement part) here next = statement_rule part here next
rule (p.Expression part) here next = expression_rule part here next
rule (p.Name part) here next = name_rule part
