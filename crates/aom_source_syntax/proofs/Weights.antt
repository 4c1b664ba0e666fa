-- Each production's symbols weigh less than its part, up to the first that takes a token for sure: so the reader comes to a token.
use Rattle.std.proofs.Common.{ℕ, Bool, true, false, not, ◌&&◌, ◌||◌, List, [], ◌∷◌, ◌++◌, ◌≡◌, ◌+◌, ◌<◌, ◌≤◌, refl, sym, ap, subst, map, arith, Option, Some, None, nat_lt, cond}
use Rattle.std.proofs.lemmas.Bool.Decides.{nat_tests}
use Rattle.aom_source_tokens.specs.declared.keyword.Keyword.TheVariants as k
use Rattle.aom_source_tokens.specs.declared.mark.Mark.TheVariants as m
use Rattle.aom_source_syntax.specs.declared.symbol.Class.{Class}
use Rattle.aom_source_syntax.specs.declared.symbol.Class.TheVariants as c
use Rattle.aom_source_syntax.specs.declared.symbol.Part.{Part}
use Rattle.aom_source_syntax.specs.declared.symbol.Part.TheVariants as p
use Rattle.aom_source_syntax.specs.declared.symbol.Symbol.{Symbol}
use Rattle.aom_source_syntax.specs.declared.symbol.Symbol.TheVariants as s
use Rattle.aom_source_syntax.specs.declared.declarations.DeclarationPart.{DeclarationPart}
use Rattle.aom_source_syntax.specs.declared.declarations.DeclarationPart.TheVariants as dp
use Rattle.aom_source_syntax.specs.declared.members.MemberPart.{MemberPart}
use Rattle.aom_source_syntax.specs.declared.members.MemberPart.TheVariants as mp
use Rattle.aom_source_syntax.specs.declared.statements.StatementPart.{StatementPart}
use Rattle.aom_source_syntax.specs.declared.statements.StatementPart.TheVariants as sp
use Rattle.aom_source_syntax.specs.declared.expressions.ExpressionPart.{ExpressionPart}
use Rattle.aom_source_syntax.specs.declared.expressions.ExpressionPart.TheVariants as ep
use Rattle.aom_source_syntax.specs.declared.names.NamePart.{NamePart}
use Rattle.aom_source_syntax.specs.declared.names.NamePart.TheVariants as np
use Rattle.aom_source_syntax.specs.Grammar.{rule, declaration_rule, member_rule, statement_rule, expression_rule, name_rule}
use Rattle.aom_source_syntax.specs.Grammar.{declarations_symbols, declaration_symbols, enum_members_symbols, enum_more_members_symbols, enum_value_symbols, parent_symbols}
use Rattle.aom_source_syntax.specs.Grammar.{sessions_symbols, class_budget_symbols, class_body_symbols, members_symbols, member_symbols, more_words_symbols}
use Rattle.aom_source_syntax.specs.Grammar.{own_type_symbols, parameter_list_symbols, more_parameters_symbols, role_parameters_symbols, more_role_parameters_symbols, result_symbols}
use Rattle.aom_source_syntax.specs.Grammar.{no_leave_symbols, type_symbols, question_symbols, statements_symbols, statement_symbols, worded_statement_symbols}
use Rattle.aom_source_syntax.specs.Grammar.{statement_at_return, statement_at_name, let_rest_symbols, let_value_symbols, condition_symbols, else_symbols}
use Rattle.aom_source_syntax.specs.Grammar.{else_rest_symbols, more_or_symbols, more_and_symbols, more_comparison_symbols, more_bit_or_symbols, unary_symbols}
use Rattle.aom_source_syntax.specs.Grammar.{unary_at_minus, primary_symbols, primary_at_super, primary_at_name, new_arguments_symbols, dotted_rest_symbols}
use Rattle.aom_source_syntax.specs.Grammar.{argument_list_symbols, more_arguments_symbols, more_bit_xor_symbols, more_bit_and_symbols, more_sum_symbols, more_product_symbols}
use Rattle.aom_source_syntax.specs.declared.stack.Waiting.{Waiting}
use Rattle.aom_source_syntax.specs.Reading.{waiting}

abbrev pub declaration_weight : DeclarationPart → ℕ
declaration_weight dp.Program = 7
declaration_weight dp.Declarations = 5
declaration_weight dp.Declaration = 4
declaration_weight dp.EnumMembers = 4
declaration_weight dp.EnumMember = 3
declaration_weight dp.ClassRest = 3
declaration_weight part = 2

-- whether such a part may have no token
abbrev pub declaration_may_be_empty : DeclarationPart → Bool
declaration_may_be_empty dp.Declarations = true
declaration_may_be_empty dp.EnumMembers = true
declaration_may_be_empty dp.EnumMoreMembers = true
declaration_may_be_empty dp.EnumValue = true
declaration_may_be_empty dp.Parent = true
declaration_may_be_empty dp.Sessions = true
declaration_may_be_empty dp.ClassBudget = true
declaration_may_be_empty part = false

abbrev pub member_weight : MemberPart → ℕ
member_weight mp.Members = 5
member_weight mp.Member = 4
member_weight mp.OwnType = 3
member_weight mp.Function = 3
member_weight mp.ParameterList = 4
member_weight mp.Parameter = 3
member_weight mp.RoleParameters = 3
member_weight mp.Type = 3
member_weight part = 2

-- whether such a part may have no token
abbrev pub member_may_be_empty : MemberPart → Bool
member_may_be_empty mp.Members = true
member_may_be_empty mp.MoreWords = true
member_may_be_empty mp.ParameterList = true
member_may_be_empty mp.MoreParameters = true
member_may_be_empty mp.RoleParameters = true
member_may_be_empty mp.MoreRoleParameters = true
member_may_be_empty mp.Result = true
member_may_be_empty mp.NoLeave = true
member_may_be_empty mp.Question = true
member_may_be_empty part = false

abbrev pub statement_weight : StatementPart → ℕ
statement_weight sp.Statements = 16
statement_weight sp.Statement = 15
statement_weight sp.LetValue = 14
statement_weight sp.TrapRest = 3
statement_weight sp.IfStatement = 3
statement_weight sp.Condition = 15
statement_weight sp.Else = 3
statement_weight sp.ElseRest = 4
statement_weight part = 2

-- whether such a part may have no token
abbrev pub statement_may_be_empty : StatementPart → Bool
statement_may_be_empty sp.Statements = true
statement_may_be_empty sp.Else = true
statement_may_be_empty part = false

abbrev pub expression_weight : ExpressionPart → ℕ
expression_weight ep.Constant = 15
expression_weight ep.Expression = 13
expression_weight ep.AndTerm = 12
expression_weight ep.Comparison = 11
expression_weight ep.BitOrTerm = 10
expression_weight ep.BitXorTerm = 9
expression_weight ep.BitAndTerm = 8
expression_weight ep.Sum = 7
expression_weight ep.Product = 6
expression_weight ep.Unary = 5
expression_weight ep.Primary = 4
expression_weight ep.NewArguments = 3
expression_weight ep.DottedRest = 3
expression_weight ep.ArgumentList = 15
expression_weight part = 2

-- whether such a part may have no token
abbrev pub expression_may_be_empty : ExpressionPart → Bool
expression_may_be_empty ep.MoreOr = true
expression_may_be_empty ep.MoreAnd = true
expression_may_be_empty ep.MoreComparison = true
expression_may_be_empty ep.MoreBitOr = true
expression_may_be_empty ep.NewArguments = true
expression_may_be_empty ep.DottedRest = true
expression_may_be_empty ep.ArgumentList = true
expression_may_be_empty ep.MoreArguments = true
expression_may_be_empty ep.MoreBitXor = true
expression_may_be_empty ep.MoreBitAnd = true
expression_may_be_empty ep.MoreSum = true
expression_may_be_empty ep.MoreProduct = true
expression_may_be_empty part = false

abbrev pub name_weight : NamePart → ℕ
name_weight part = 2

-- whether such a part may have no token
abbrev pub name_may_be_empty : NamePart → Bool
name_may_be_empty part = false

abbrev pub weight : Part → ℕ
weight (p.Declaration part) = declaration_weight part
weight (p.Member part) = member_weight part
weight (p.Statement part) = statement_weight part
weight (p.Expression part) = expression_weight part
weight (p.Name part) = name_weight part

abbrev pub may_be_empty : Part → Bool
may_be_empty (p.Declaration part) = declaration_may_be_empty part
may_be_empty (p.Member part) = member_may_be_empty part
may_be_empty (p.Statement part) = statement_may_be_empty part
may_be_empty (p.Expression part) = expression_may_be_empty part
may_be_empty (p.Name part) = name_may_be_empty part

abbrev pub symbol_weight : Symbol → ℕ
symbol_weight (s.Token class) = 1
symbol_weight (s.Part part) = weight part
symbol_weight (s.Action action) = 1

-- whether a symbol takes a token for sure
abbrev pub takes : Symbol → Bool
takes (s.Token class) = true
takes (s.Part part) = not (may_be_empty part)
takes (s.Action action) = false

-- the weight of symbols up to the first that takes a token for sure
abbrev pub lead : List Symbol → ℕ
lead [] = 0
lead (x ∷ xs) = symbol_weight x + cond (takes x) 0 (lead xs)

abbrev pub has_token : List Symbol → Bool
has_token [] = false
has_token (x ∷ xs) = takes x || has_token xs

-- the symbols of a production are lighter than their part, and take a token where it does
abbrev pub falls : ℕ → Bool → Option (List Symbol) → Bool
falls heavy may None = true
falls heavy may (Some symbols) = nat_lt (lead symbols) heavy && (may || has_token symbols)

pub declarations_symbols_fall : (here : Class) → falls 5 true (declarations_symbols here) ≡ true
declarations_symbols_fall c.End = refl
declarations_symbols_fall here = refl

pub declaration_symbols_fall : (here : Class) → falls 4 false (declaration_symbols here) ≡ true
declaration_symbols_fall (c.Keyword k.Cells) = refl
declaration_symbols_fall (c.Keyword k.Messages) = refl
declaration_symbols_fall (c.Keyword k.Natives) = refl
declaration_symbols_fall (c.Keyword k.Budget) = refl
declaration_symbols_fall c.Name = refl
declaration_symbols_fall (c.Keyword k.Const) = refl
declaration_symbols_fall (c.Keyword k.Enum) = refl
declaration_symbols_fall (c.Keyword k.Class) = refl
declaration_symbols_fall (c.Keyword k.Timer) = refl
declaration_symbols_fall (c.Keyword k.Active) = refl
declaration_symbols_fall (c.Keyword k.Token) = refl
declaration_symbols_fall (c.Keyword k.Session) = refl
declaration_symbols_fall (c.Keyword k.Server) = refl
declaration_symbols_fall (c.Keyword k.Native) = refl
declaration_symbols_fall (c.Keyword k.Fn) = refl
declaration_symbols_fall (c.Keyword k.Undo) = refl
declaration_symbols_fall (c.Keyword k.Main) = refl
declaration_symbols_fall here = refl

pub enum_members_symbols_fall : (here : Class) → falls 4 true (enum_members_symbols here) ≡ true
enum_members_symbols_fall (c.Mark m.CloseBrace) = refl
enum_members_symbols_fall here = refl

pub enum_more_members_symbols_fall : (here : Class) → falls 2 true (enum_more_members_symbols here) ≡ true
enum_more_members_symbols_fall (c.Mark m.Comma) = refl
enum_more_members_symbols_fall here = refl

pub enum_value_symbols_fall : (here : Class) → falls 2 true (enum_value_symbols here) ≡ true
enum_value_symbols_fall (c.Mark m.Assign) = refl
enum_value_symbols_fall here = refl

pub parent_symbols_fall : (here : Class) → falls 2 true (parent_symbols here) ≡ true
parent_symbols_fall (c.Mark m.Colon) = refl
parent_symbols_fall here = refl

pub sessions_symbols_fall : (here : Class) → falls 2 true (sessions_symbols here) ≡ true
sessions_symbols_fall (c.Keyword k.Of) = refl
sessions_symbols_fall here = refl

pub class_budget_symbols_fall : (here : Class) → falls 2 true (class_budget_symbols here) ≡ true
class_budget_symbols_fall (c.Keyword k.Budget) = refl
class_budget_symbols_fall here = refl

pub class_body_symbols_fall : (here : Class) → falls 2 false (class_body_symbols here) ≡ true
class_body_symbols_fall (c.Mark m.Semicolon) = refl
class_body_symbols_fall (c.Mark m.OpenBrace) = refl
class_body_symbols_fall here = refl

pub declaration_falls : (part : DeclarationPart) (here : Class) → falls (declaration_weight part) (declaration_may_be_empty part) (declaration_rule part here) ≡ true
declaration_falls dp.Program here = refl
declaration_falls dp.Declarations here = declarations_symbols_fall here
declaration_falls dp.Declaration here = declaration_symbols_fall here
declaration_falls dp.EnumMembers here = enum_members_symbols_fall here
declaration_falls dp.EnumMoreMembers here = enum_more_members_symbols_fall here
declaration_falls dp.EnumMember here = refl
declaration_falls dp.EnumValue here = enum_value_symbols_fall here
declaration_falls dp.UndoName here = refl
declaration_falls dp.ClassRest here = refl
declaration_falls dp.Parent here = parent_symbols_fall here
declaration_falls dp.Sessions here = sessions_symbols_fall here
declaration_falls dp.ClassBudget here = class_budget_symbols_fall here
declaration_falls dp.ClassBody here = class_body_symbols_fall here
declaration_falls dp.ClassClose here = refl

pub members_symbols_fall : (here : Class) → falls 5 true (members_symbols here) ≡ true
members_symbols_fall (c.Mark m.CloseBrace) = refl
members_symbols_fall here = refl

pub member_symbols_fall : (here : Class) → falls 4 false (member_symbols here) ≡ true
member_symbols_fall (c.Keyword k.Word) = refl
member_symbols_fall (c.Keyword k.Own) = refl
member_symbols_fall (c.Keyword k.Construct) = refl
member_symbols_fall (c.Keyword k.Destruct) = refl
member_symbols_fall (c.Keyword k.Run) = refl
member_symbols_fall (c.Keyword k.Cancel) = refl
member_symbols_fall (c.Keyword k.Accept) = refl
member_symbols_fall (c.Keyword k.Error) = refl
member_symbols_fall (c.Keyword k.Service) = refl
member_symbols_fall (c.Keyword k.Fn) = refl
member_symbols_fall (c.Keyword k.Override) = refl
member_symbols_fall here = refl

pub more_words_symbols_fall : (here : Class) → falls 2 true (more_words_symbols here) ≡ true
more_words_symbols_fall (c.Mark m.Comma) = refl
more_words_symbols_fall here = refl

pub own_type_symbols_fall : (here : Class) → falls 3 false (own_type_symbols here) ≡ true
own_type_symbols_fall (c.Keyword k.Msg) = refl
own_type_symbols_fall here = refl

pub parameter_list_symbols_fall : (here : Class) → falls 4 true (parameter_list_symbols here) ≡ true
parameter_list_symbols_fall (c.Mark m.CloseParenthesis) = refl
parameter_list_symbols_fall here = refl

pub more_parameters_symbols_fall : (here : Class) → falls 2 true (more_parameters_symbols here) ≡ true
more_parameters_symbols_fall (c.Mark m.Comma) = refl
more_parameters_symbols_fall here = refl

pub role_parameters_symbols_fall : (here : Class) → falls 3 true (role_parameters_symbols here) ≡ true
role_parameters_symbols_fall (c.Mark m.CloseParenthesis) = refl
role_parameters_symbols_fall here = refl

pub more_role_parameters_symbols_fall : (here : Class) → falls 2 true (more_role_parameters_symbols here) ≡ true
more_role_parameters_symbols_fall (c.Mark m.Comma) = refl
more_role_parameters_symbols_fall here = refl

pub result_symbols_fall : (here : Class) → falls 2 true (result_symbols here) ≡ true
result_symbols_fall (c.Mark m.Arrow) = refl
result_symbols_fall here = refl

pub no_leave_symbols_fall : (here : Class) → falls 2 true (no_leave_symbols here) ≡ true
no_leave_symbols_fall (c.Keyword k.NoLeave) = refl
no_leave_symbols_fall here = refl

pub type_symbols_fall : (here : Class) → falls 3 false (type_symbols here) ≡ true
type_symbols_fall (c.Keyword k.Word) = refl
type_symbols_fall (c.Keyword k.Msg) = refl
type_symbols_fall here = refl

pub question_symbols_fall : (here : Class) → falls 2 true (question_symbols here) ≡ true
question_symbols_fall (c.Mark m.Question) = refl
question_symbols_fall here = refl

pub member_falls : (part : MemberPart) (here : Class) → falls (member_weight part) (member_may_be_empty part) (member_rule part here) ≡ true
member_falls mp.Members here = members_symbols_fall here
member_falls mp.Member here = member_symbols_fall here
member_falls mp.MoreWords here = more_words_symbols_fall here
member_falls mp.OwnType here = own_type_symbols_fall here
member_falls mp.Function here = refl
member_falls mp.Parameters here = refl
member_falls mp.ParameterList here = parameter_list_symbols_fall here
member_falls mp.MoreParameters here = more_parameters_symbols_fall here
member_falls mp.Parameter here = refl
member_falls mp.RoleParameters here = role_parameters_symbols_fall here
member_falls mp.MoreRoleParameters here = more_role_parameters_symbols_fall here
member_falls mp.RoleParameter here = refl
member_falls mp.Result here = result_symbols_fall here
member_falls mp.NoLeave here = no_leave_symbols_fall here
member_falls mp.Type here = type_symbols_fall here
member_falls mp.Question here = question_symbols_fall here

pub statements_symbols_fall : (here : Class) → falls 16 true (statements_symbols here) ≡ true
statements_symbols_fall (c.Mark m.CloseBrace) = refl
statements_symbols_fall here = refl

pub statement_at_return_fall : (next : Class) → falls 15 false (statement_at_return next) ≡ true
statement_at_return_fall (c.Mark m.Semicolon) = refl
statement_at_return_fall next = refl

pub statement_at_name_fall : (next : Class) → falls 15 false (statement_at_name next) ≡ true
statement_at_name_fall (c.Mark m.Assign) = refl
statement_at_name_fall (c.Mark m.PlusAssign) = refl
statement_at_name_fall (c.Mark m.MinusAssign) = refl
statement_at_name_fall (c.Mark m.TimesAssign) = refl
statement_at_name_fall (c.Mark m.AndAssign) = refl
statement_at_name_fall (c.Mark m.OrAssign) = refl
statement_at_name_fall (c.Mark m.XorAssign) = refl
statement_at_name_fall next = refl

pub worded_statement_symbols_fall : (here : Class) → falls 15 false (worded_statement_symbols here) ≡ true
worded_statement_symbols_fall (c.Keyword k.Leave) = refl
worded_statement_symbols_fall (c.Keyword k.LeaveIf) = refl
worded_statement_symbols_fall (c.Keyword k.Print) = refl
worded_statement_symbols_fall (c.Keyword k.Enlist) = refl
worded_statement_symbols_fall (c.Keyword k.After) = refl
worded_statement_symbols_fall (c.Keyword k.Resume) = refl
worded_statement_symbols_fall (c.Keyword k.Assert) = refl
worded_statement_symbols_fall (c.Keyword k.Request) = refl
worded_statement_symbols_fall (c.Keyword k.Reply) = refl
worded_statement_symbols_fall (c.Keyword k.Delete) = refl
worded_statement_symbols_fall (c.Keyword k.Defer) = refl
worded_statement_symbols_fall here = refl

pub statement_symbols_fall : (here next : Class) → falls 15 false (statement_symbols here next) ≡ true
statement_symbols_fall (c.Keyword k.Let) next = refl
statement_symbols_fall (c.Keyword k.Trap) next = refl
statement_symbols_fall (c.Keyword k.If) next = refl
statement_symbols_fall (c.Keyword k.Loop) next = refl
statement_symbols_fall (c.Keyword k.While) next = refl
statement_symbols_fall (c.Keyword k.For) next = refl
statement_symbols_fall (c.Keyword k.Break) next = refl
statement_symbols_fall (c.Keyword k.Continue) next = refl
statement_symbols_fall (c.Keyword k.Stop) next = refl
statement_symbols_fall (c.Keyword k.Cancel) next = refl
statement_symbols_fall (c.Keyword k.Close) next = refl
statement_symbols_fall (c.Keyword k.Return) next = statement_at_return_fall next
statement_symbols_fall c.Name next = statement_at_name_fall next
statement_symbols_fall here next = worded_statement_symbols_fall here

pub let_rest_symbols_fall : (here : Class) → falls 2 false (let_rest_symbols here) ≡ true
let_rest_symbols_fall (c.Mark m.Comma) = refl
let_rest_symbols_fall (c.Mark m.Colon) = refl
let_rest_symbols_fall (c.Mark m.Assign) = refl
let_rest_symbols_fall here = refl

pub let_value_symbols_fall : (here : Class) → falls 14 false (let_value_symbols here) ≡ true
let_value_symbols_fall (c.Keyword k.Trap) = refl
let_value_symbols_fall here = refl

pub condition_symbols_fall : (here : Class) → falls 15 false (condition_symbols here) ≡ true
condition_symbols_fall (c.Keyword k.Let) = refl
condition_symbols_fall here = refl

pub else_symbols_fall : (here : Class) → falls 3 true (else_symbols here) ≡ true
else_symbols_fall (c.Keyword k.Else) = refl
else_symbols_fall here = refl

pub else_rest_symbols_fall : (here : Class) → falls 4 false (else_rest_symbols here) ≡ true
else_rest_symbols_fall (c.Keyword k.If) = refl
else_rest_symbols_fall here = refl

pub statement_falls : (part : StatementPart) (here : Class) (next : Class) → falls (statement_weight part) (statement_may_be_empty part) (statement_rule part here next) ≡ true
statement_falls sp.Block here next = refl
statement_falls sp.BlockClose here next = refl
statement_falls sp.Statements here next = statements_symbols_fall here
statement_falls sp.Statement here next = statement_symbols_fall here next
statement_falls sp.LetRest here next = let_rest_symbols_fall here
statement_falls sp.LetValue here next = let_value_symbols_fall here
statement_falls sp.TrapRest here next = refl
statement_falls sp.IfStatement here next = refl
statement_falls sp.Condition here next = condition_symbols_fall here
statement_falls sp.Else here next = else_symbols_fall here
statement_falls sp.ElseRest here next = else_rest_symbols_fall here
statement_falls sp.ChangedName here next = refl

pub more_or_symbols_fall : (here : Class) → falls 2 true (more_or_symbols here) ≡ true
more_or_symbols_fall (c.Mark m.Or) = refl
more_or_symbols_fall here = refl

pub more_and_symbols_fall : (here : Class) → falls 2 true (more_and_symbols here) ≡ true
more_and_symbols_fall (c.Mark m.And) = refl
more_and_symbols_fall here = refl

pub more_comparison_symbols_fall : (here : Class) → falls 2 true (more_comparison_symbols here) ≡ true
more_comparison_symbols_fall (c.Mark m.Equal) = refl
more_comparison_symbols_fall (c.Mark m.NotEqual) = refl
more_comparison_symbols_fall (c.Mark m.Less) = refl
more_comparison_symbols_fall (c.Mark m.AtMost) = refl
more_comparison_symbols_fall (c.Mark m.Greater) = refl
more_comparison_symbols_fall (c.Mark m.AtLeast) = refl
more_comparison_symbols_fall here = refl

pub more_bit_or_symbols_fall : (here : Class) → falls 2 true (more_bit_or_symbols here) ≡ true
more_bit_or_symbols_fall (c.Mark m.BitOr) = refl
more_bit_or_symbols_fall here = refl

pub unary_at_minus_fall : (next : Class) → falls 5 false (unary_at_minus next) ≡ true
unary_at_minus_fall c.Number = refl
unary_at_minus_fall next = refl

pub unary_symbols_fall : (here next : Class) → falls 5 false (unary_symbols here next) ≡ true
unary_symbols_fall (c.Mark m.Not) next = refl
unary_symbols_fall (c.Mark m.Minus) next = unary_at_minus_fall next
unary_symbols_fall here next = refl

pub primary_at_super_fall : (next : Class) → falls 4 false (primary_at_super next) ≡ true
primary_at_super_fall (c.Mark m.OpenParenthesis) = refl
primary_at_super_fall next = refl

pub primary_at_name_fall : (next : Class) → falls 4 false (primary_at_name next) ≡ true
primary_at_name_fall (c.Mark m.OpenParenthesis) = refl
primary_at_name_fall (c.Mark m.Dot) = refl
primary_at_name_fall (c.Mark m.MaybeDot) = refl
primary_at_name_fall next = refl

pub primary_symbols_fall : (here next : Class) → falls 4 false (primary_symbols here next) ≡ true
primary_symbols_fall c.Number next = refl
primary_symbols_fall (c.Mark m.OpenParenthesis) next = refl
primary_symbols_fall (c.Keyword k.Maybe) next = refl
primary_symbols_fall (c.Keyword k.New) next = refl
primary_symbols_fall (c.Keyword k.Take) next = refl
primary_symbols_fall (c.Keyword k.Hand) next = refl
primary_symbols_fall (c.Keyword k.Message) next = refl
primary_symbols_fall (c.Keyword k.Status) next = refl
primary_symbols_fall (c.Keyword k.Connect) next = refl
primary_symbols_fall (c.Keyword k.Active) next = refl
primary_symbols_fall (c.Keyword k.Enlisted) next = refl
primary_symbols_fall (c.Keyword k.NoObject) next = refl
primary_symbols_fall (c.Keyword k.Ask) next = refl
primary_symbols_fall (c.Keyword k.Super) next = primary_at_super_fall next
primary_symbols_fall (c.Keyword k.This) next = refl
primary_symbols_fall c.Name next = primary_at_name_fall next
primary_symbols_fall here next = refl

pub new_arguments_symbols_fall : (here : Class) → falls 3 true (new_arguments_symbols here) ≡ true
new_arguments_symbols_fall (c.Mark m.OpenParenthesis) = refl
new_arguments_symbols_fall here = refl

pub dotted_rest_symbols_fall : (here : Class) → falls 3 true (dotted_rest_symbols here) ≡ true
dotted_rest_symbols_fall (c.Mark m.OpenParenthesis) = refl
dotted_rest_symbols_fall here = refl

pub argument_list_symbols_fall : (here : Class) → falls 15 true (argument_list_symbols here) ≡ true
argument_list_symbols_fall (c.Mark m.CloseParenthesis) = refl
argument_list_symbols_fall here = refl

pub more_arguments_symbols_fall : (here : Class) → falls 2 true (more_arguments_symbols here) ≡ true
more_arguments_symbols_fall (c.Mark m.Comma) = refl
more_arguments_symbols_fall here = refl

pub more_bit_xor_symbols_fall : (here : Class) → falls 2 true (more_bit_xor_symbols here) ≡ true
more_bit_xor_symbols_fall (c.Mark m.BitXor) = refl
more_bit_xor_symbols_fall here = refl

pub more_bit_and_symbols_fall : (here : Class) → falls 2 true (more_bit_and_symbols here) ≡ true
more_bit_and_symbols_fall (c.Mark m.BitAnd) = refl
more_bit_and_symbols_fall here = refl

pub more_sum_symbols_fall : (here : Class) → falls 2 true (more_sum_symbols here) ≡ true
more_sum_symbols_fall (c.Mark m.Plus) = refl
more_sum_symbols_fall (c.Mark m.Minus) = refl
more_sum_symbols_fall here = refl

pub more_product_symbols_fall : (here : Class) → falls 2 true (more_product_symbols here) ≡ true
more_product_symbols_fall (c.Mark m.Times) = refl
more_product_symbols_fall here = refl

pub expression_falls : (part : ExpressionPart) (here : Class) (next : Class) → falls (expression_weight part) (expression_may_be_empty part) (expression_rule part here next) ≡ true
expression_falls ep.Constant here next = refl
expression_falls ep.Expression here next = refl
expression_falls ep.MoreOr here next = more_or_symbols_fall here
expression_falls ep.AndTerm here next = refl
expression_falls ep.MoreAnd here next = more_and_symbols_fall here
expression_falls ep.Comparison here next = refl
expression_falls ep.MoreComparison here next = more_comparison_symbols_fall here
expression_falls ep.BitOrTerm here next = refl
expression_falls ep.MoreBitOr here next = more_bit_or_symbols_fall here
expression_falls ep.BitXorTerm here next = refl
expression_falls ep.BitAndTerm here next = refl
expression_falls ep.Sum here next = refl
expression_falls ep.Product here next = refl
expression_falls ep.Unary here next = unary_symbols_fall here next
expression_falls ep.NegativeNumber here next = refl
expression_falls ep.Primary here next = primary_symbols_fall here next
expression_falls ep.NewArguments here next = new_arguments_symbols_fall here
expression_falls ep.DottedRest here next = dotted_rest_symbols_fall here
expression_falls ep.Arguments here next = refl
expression_falls ep.ArgumentList here next = argument_list_symbols_fall here
expression_falls ep.MoreArguments here next = more_arguments_symbols_fall here
expression_falls ep.MoreBitXor here next = more_bit_xor_symbols_fall here
expression_falls ep.MoreBitAnd here next = more_bit_and_symbols_fall here
expression_falls ep.MoreSum here next = more_sum_symbols_fall here
expression_falls ep.MoreProduct here next = more_product_symbols_fall here

pub name_falls : (part : NamePart) → falls (name_weight part) (name_may_be_empty part) (name_rule part) ≡ true
name_falls np.RootWord = refl
name_falls np.RootClass = refl
name_falls np.ConstName = refl
name_falls np.EnumName = refl
name_falls np.MemberName = refl
name_falls np.ClassName = refl
name_falls np.ParentName = refl
name_falls np.SessionName = refl
name_falls np.WordName = refl
name_falls np.OwnName = refl
name_falls np.OwnClass = refl
name_falls np.MethodName = refl
name_falls np.ParameterName = refl
name_falls np.TypeName = refl
name_falls np.LetName = refl
name_falls np.CodeName = refl
name_falls np.CatchName = refl
name_falls np.IfName = refl
name_falls np.ForName = refl
name_falls np.DeletedName = refl
name_falls np.DeferredName = refl
name_falls np.AssignedName = refl
name_falls np.NewClass = refl
name_falls np.TakenName = refl
name_falls np.ObjectName = refl
name_falls np.CalledName = refl

pub rule_falls : (part : Part) (here next : Class) → falls (weight part) (may_be_empty part) (rule part here next) ≡ true
rule_falls (p.Declaration part) here next = declaration_falls part here
rule_falls (p.Member part) here next = member_falls part here
rule_falls (p.Statement part) here next = statement_falls part here next
rule_falls (p.Expression part) here next = expression_falls part here next
rule_falls (p.Name part) here next = name_falls part

pub lead_stop_by : (v : Bool) (heavy : ℕ) (xs ys : List Symbol) → (has_token xs ≡ true → lead (xs ++ ys) ≡ lead xs) → (v || has_token xs) ≡ true
    → heavy + cond v 0 (lead (xs ++ ys)) ≡ heavy + cond v 0 (lead xs)
lead_stop_by true heavy xs ys rest h = refl
lead_stop_by false heavy xs ys rest h = ap (λ (k : ℕ). heavy + k) (rest h)

pub lead_stop : (xs ys : List Symbol) → has_token xs ≡ true → lead (xs ++ ys) ≡ lead xs
lead_stop [] ys h = cc h
lead_stop (x ∷ xs) ys h = lead_stop_by (takes x) (symbol_weight x) xs ys (lead_stop xs ys) h

pub lead_more_by : (v : Bool) (heavy more one two : ℕ) → more ≤ one + two → heavy + cond v 0 more ≤ (heavy + cond v 0 one) + two
lead_more_by true heavy more one two h = omega arith
lead_more_by false heavy more one two h = omega arith

pub lead_more : (xs ys : List Symbol) → lead (xs ++ ys) ≤ lead xs + lead ys
lead_more [] ys = omega arith
lead_more (x ∷ xs) ys = lead_more_by (takes x) (symbol_weight x) (lead (xs ++ ys)) (lead xs) (lead ys) (lead_more xs ys)

pub both_0 : (a b : Bool) → (a && b) ≡ true → a ≡ true
both_0 true b h = refl
both_0 false b h = h

pub both_1 : (a b : Bool) → (a && b) ≡ true → b ≡ true
both_1 true b h = h
both_1 false b h = cc h

pub lighter_by : (may : Bool) (heavy : ℕ) (symbols ws : List Symbol) → nat_lt (lead symbols) heavy ≡ true → (may || has_token symbols) ≡ true
    → lead (symbols ++ ws) < heavy + cond (not may) 0 (lead ws)
lighter_by true heavy symbols ws light h = let less : lead symbols < heavy = grind (arith, nat_tests) in omega (arith, lead_more symbols ws)
lighter_by false heavy symbols ws light h = let less : lead symbols < heavy = grind (arith, nat_tests) in omega (arith, lead_stop symbols ws h)

-- what a part that waits is replaced by is lighter
pub chosen_lighter : (part : Part) (symbols ws : List Symbol) (here next : Class) → rule part here next ≡ Some symbols → lead (symbols ++ ws) < lead (s.Part part ∷ ws)
chosen_lighter part symbols ws here next chosen =
    let P : Option (List Symbol) → Type 0 = λ o. falls (weight part) (may_be_empty part) o ≡ true in
    let h : falls (weight part) (may_be_empty part) (Some symbols) ≡ true = subst P chosen (rule_falls part here next) in
    lighter_by (may_be_empty part) (weight part) symbols ws
    (both_0 (nat_lt (lead symbols) (weight part)) (may_be_empty part || has_token symbols) h)
    (both_1 (nat_lt (lead symbols) (weight part)) (may_be_empty part || has_token symbols) h)

-- the weight of what waits
abbrev pub lead_of : List Waiting → ℕ
lead_of ws = lead (map (λ w. w.symbol) ws)

pub symbols_waiting : (symbols : List Symbol) (at : ℕ) (ws : List Waiting) → map (λ w. w.symbol) (map (waiting at) symbols ++ ws) ≡ symbols ++ map (λ w. w.symbol) ws
symbols_waiting [] at ws = refl
symbols_waiting (x ∷ xs) at ws = ap (λ (ys : List Symbol). x ∷ ys) (symbols_waiting xs at ws)

pub waiting_lighter : (w : Waiting) (part : Part) (symbols : List Symbol) (at : ℕ) (ws : List Waiting) (here next : Class) → w.symbol ≡ s.Part part
    → rule part here next ≡ Some symbols → lead_of (map (waiting at) symbols ++ ws) < lead_of (w ∷ ws)
waiting_lighter w part symbols at ws here next is chosen =
    let e : lead_of (map (waiting at) symbols ++ ws) ≡ lead (symbols ++ map (λ w. w.symbol) ws) = ap lead (symbols_waiting symbols at ws) in
    let P : Symbol → Type 0 = λ y. lead (symbols ++ map (λ w. w.symbol) ws) < lead (y ∷ map (λ w. w.symbol) ws) in
    let h : lead (symbols ++ map (λ w. w.symbol) ws) < lead_of (w ∷ ws) = subst P (sym is) (chosen_lighter part symbols (map (λ w. w.symbol) ws) here next chosen) in
    omega (arith, e, h)

pub item_lighter : (w : Waiting) (ws : List Waiting) (symbol : Symbol) → w.symbol ≡ symbol → takes symbol ≡ false → 0 < symbol_weight symbol → lead_of ws < lead_of (w ∷ ws)
item_lighter w ws symbol is not_taken some =
    let P : Symbol → Type 0 = λ y. lead_of ws < lead (y ∷ map (λ w. w.symbol) ws) in
    let Q : Bool → Type 0 = λ v. lead_of ws < symbol_weight symbol + cond v 0 (lead_of ws) in
    subst P (sym is) (subst Q (sym not_taken) (omega arith))
