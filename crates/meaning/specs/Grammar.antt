-- What may stand where, and which numbers are right (01, "The tree file"; the checks 2 to 5).
-- Assumes nothing.
use Rattle.std.specs.Prelude.{if◌then◌else◌, List, [], ◌∷◌, ◌++◌, Bool, true, false, not, ◌||◌, ◌&&◌, ℕ, ◌+◌, ◌*◌, ◌-◌, length, get_or, set, eqb, leb, ltb, Result, Ok, Err}
use Rattle.meaning.specs.Numbers.Tag
use Rattle.meaning.specs.Numbers.Kind
use Rattle.meaning.specs.Numbers.Form
use Rattle.meaning.specs.Numbers.LineForm
use Rattle.meaning.specs.Numbers.Parts
use Rattle.meaning.specs.Numbers.Mode
use Rattle.meaning.specs.Numbers.Letter
use Rattle.meaning.specs.Numbers.StepForm
use Rattle.meaning.specs.Tree.{one_of, Head, hd}
use Rattle.meaning.specs.File.{numbers_of, has_children, own_numbers, head_bytes, field_bytes, scope_bytes}
use Rattle.meaning.specs.declared.Place.{Place}
use Rattle.meaning.specs.declared.Place.TheVariants.{
  Settings,
  ScopeRow,
  SymbolRow,
  Program,
  ProgramItem,
  ListItem,
  Statement,
  PlainItem,
  Declarator,
  ForOfDeclarator,
  Name,
  ForLeft,
  ForOfLeft,
  Expression,
  SwitchExpression,
  Case,
  TryPart,
  Catch,
  Body,
  ClassItem,
  DefaultExport,
  ExportedDeclaration,
  Specifier,
}
use Rattle.meaning.specs.declared.Field.{Field}
use Rattle.meaning.specs.declared.Reason.TheVariants as Reason
use Rattle.meaning.specs.declared.Refusal.{Refusal}
use Rattle.meaning.specs.Refusals.{Outcome, refused}

-- ---- tags and places

abbrev pub statements : List ℕ
statements =
    Tag.Block ∷ Tag.Plain ∷ Tag.Label ∷ Tag.For ∷ Tag.ForOf ∷ Tag.Switch ∷ Tag.Try ∷ Tag.Function ∷ Tag.Class ∷ Tag.Step ∷ []

abbrev pub expressions : List ℕ
expressions = Tag.Function ∷ Tag.Class ∷ Tag.Expression ∷ Tag.Read ∷ Tag.Call ∷ Tag.Load ∷ []

-- the tags that a place takes
unfoldable pub tags_of : Place → List ℕ
tags_of Settings = Tag.Settings ∷ []
tags_of ScopeRow = Tag.Scope ∷ []
tags_of SymbolRow = Tag.Symbol ∷ []
tags_of Program = Tag.Program ∷ []
tags_of ProgramItem = Tag.Declaration ∷ Tag.ModuleLine ∷ Tag.DefaultExport ∷ Tag.ExportedDeclaration ∷ statements
tags_of ListItem = Tag.Declaration ∷ statements
tags_of Statement = statements
tags_of PlainItem = statements ++ expressions
tags_of Declarator = Tag.Declarator ∷ []
tags_of ForOfDeclarator = Tag.Declarator ∷ []
tags_of Name = Tag.Name ∷ []
tags_of ForLeft = Tag.Declaration ∷ expressions
tags_of ForOfLeft = Tag.Declaration ∷ expressions
tags_of Expression = expressions
tags_of SwitchExpression = expressions
tags_of Case = Tag.Case ∷ []
tags_of TryPart = Tag.Block ∷ []
tags_of Catch = Tag.Catch ∷ []
tags_of Body = Tag.Body ∷ []
tags_of ClassItem = Tag.StaticBlock ∷ expressions
tags_of DefaultExport = expressions
tags_of ExportedDeclaration = Tag.Declaration ∷ Tag.Function ∷ Tag.Class ∷ []
tags_of Specifier = Tag.Specifier ∷ []

-- The forms of Function and Class that a place takes. Both name a scope, so a Switch's expression takes none.
unfoldable pub forms_of : Place → List ℕ
forms_of Settings = []
forms_of ScopeRow = []
forms_of SymbolRow = []
forms_of Program = []
forms_of ProgramItem = Form.Declaration ∷ []
forms_of ListItem = Form.Declaration ∷ []
forms_of Statement = Form.Declaration ∷ []
forms_of PlainItem = Form.Declaration ∷ Form.Expression ∷ []
forms_of Declarator = []
forms_of ForOfDeclarator = []
forms_of Name = []
forms_of ForLeft = Form.Expression ∷ []
forms_of ForOfLeft = Form.Expression ∷ []
forms_of Expression = Form.Expression ∷ []
forms_of SwitchExpression = []
forms_of Case = []
forms_of TryPart = []
forms_of Catch = []
forms_of Body = []
forms_of ClassItem = Form.Expression ∷ []
forms_of DefaultExport = Form.Declaration ∷ Form.Expression ∷ []
forms_of ExportedDeclaration = Form.Declaration ∷ []
forms_of Specifier = []

-- places are told apart by their order
unfoldable pub index : Place → ℕ
index Settings = 0
index ScopeRow = 1
index SymbolRow = 2
index Program = 3
index ProgramItem = 4
index ListItem = 5
index Statement = 6
index PlainItem = 7
index Declarator = 8
index ForOfDeclarator = 9
index Name = 10
index ForLeft = 11
index ForOfLeft = 12
index Expression = 13
index SwitchExpression = 14
index Case = 15
index TryPart = 16
index Catch = 17
index Body = 18
index ClassItem = 19
index DefaultExport = 20
index ExportedDeclaration = 21
index Specifier = 22

abbrev pub is : Place → Place → Bool
is p q = eqb (index p) (index q)

unfoldable pub allowed : Place → ℕ → Bool
allowed p t = one_of (tags_of p) t

unfoldable pub form_fits : Place → ℕ → Bool
form_fits p a = one_of (forms_of p) a

-- ---- the field at an offset

-- two bytes, high byte first
unfoldable pub two : List ℕ → ℕ → ℕ
two f at = get_or f at 0 * 256 + get_or f (at + 1) 0

-- number i of the field at an offset, which has `len` of them
unfoldable pub number : List ℕ → ℕ → ℕ → ℕ → ℕ
number f at len i = if ltb i len then two f (at + head_bytes + 2 * i) else 0

unfoldable pub field_of : List ℕ → ℕ → Field
field_of f at =
    let t = get_or f at 0 in
    let len = numbers_of t in
    record {
      tag = t;
      a = number f at len 0;
      b = number f at len 1;
      c = number f at len 2;
      d = number f at len 3;
      next = at + field_bytes t;
    }

-- head cut, tag, length, payload cut
unfoldable pub field_at : List ℕ → Place → ℕ → Outcome Field
field_at f p at =
    let t = get_or f at 0 in
    if ltb (length f) (at + head_bytes) then refused Reason.Cut at
    else if not (allowed p t) then refused Reason.WrongTag at
    else if not (eqb (two f (at + 1)) (2 * numbers_of t)) then refused Reason.WrongLength at
    else if ltb (length f) (at + field_bytes t) then refused Reason.Cut at
    else Ok (field_of f at)

-- ---- the numbers

-- one of so many rows
abbrev pub is_row : ℕ → ℕ → Bool
is_row rows i = leb 1 i && leb i rows

-- row k counted from 0: parent 0 in the first and nowhere else
unfoldable pub scope_right : ℕ → Field → Bool
scope_right k x = (if eqb k 0 then eqb x.a 0 else leb 1 x.a) && leb x.b 31

unfoldable pub symbol_right : ℕ → Field → Bool
symbol_right scopes x = leb 1 x.a && leb x.b 127 && is_row scopes x.c && leb x.d 1

-- 5: a kind, and at least one Declarator; below a ForOf exactly one
unfoldable pub declaration_right : Place → Field → Bool
declaration_right p x = leb x.a Kind.AwaitUsing && (if is p ForOfLeft then eqb x.b 1 else leb 1 x.b)

-- 6: pattern 0 has one Name; an initializer may follow the Names, except below a ForOf
unfoldable pub declarator_right : Place → Field → Bool
declarator_right p x =
    (not (eqb x.a 0) || eqb x.b 1)
    && (eqb x.c x.b || (not (is p ForOfDeclarator) && eqb x.c (x.b + 1)))

-- 11: two parts or three
unfoldable pub try_right : Field → Bool
try_right x = if eqb x.a Parts.Both then eqb x.b 3 else is_row Parts.Finalizer x.a && eqb x.b 2

-- 13 and 15: a form that fits the place, a scope, a symbol or 0
unfoldable pub function_right : Place → ℕ → Field → Bool
function_right p syms x = form_fits p x.a && leb 1 x.b && leb x.c syms && eqb x.d 2

-- a form 0 Class has a symbol, except under 18
unfoldable pub class_right : Place → ℕ → Field → Bool
class_right p syms x =
    form_fits p x.a && leb 1 x.b && leb x.c syms
    && (eqb x.a Form.Expression || leb 1 x.c || is p DefaultExport)

-- 17: a form, with any number of Specifiers; the helper's import has one (02, request 1)
unfoldable pub module_line_right : Field → Bool
module_line_right x = leb x.a LineForm.ExportFrom || (eqb x.a LineForm.ImportHelper && eqb x.c 1)

-- The numbers of a record are right at its place, with so many symbol rows; whether it may name its scope row is `may_name`'s.
unfoldable pub right : Place → ℕ → Field → Bool
right p syms x =
    let t = x.tag in
    if eqb t Tag.Program then eqb x.a 1
    else if eqb t Tag.Block then leb 1 x.a
    else if eqb t Tag.Plain then true
    else if eqb t Tag.Label then eqb x.b 1
    else if eqb t Tag.Declaration then declaration_right p x
    else if eqb t Tag.Declarator then declarator_right p x
    else if eqb t Tag.For then leb 1 x.a && eqb x.b 3
    else if eqb t Tag.ForOf then leb 1 x.a && leb x.b 1 && eqb x.c 3
    else if eqb t Tag.Switch then leb 1 x.a && leb 1 x.b
    else if eqb t Tag.Case then leb x.a 1 && leb x.a x.b
    else if eqb t Tag.Try then try_right x
    else if eqb t Tag.Catch then leb 1 x.a && eqb x.d (x.b + 1)
    else if eqb t Tag.Function then function_right p syms x
    else if eqb t Tag.Body then true
    else if eqb t Tag.Class then class_right p syms x
    else if eqb t Tag.StaticBlock then leb 1 x.a
    else if eqb t Tag.ModuleLine then module_line_right x
    else if eqb t Tag.DefaultExport then eqb x.a 1
    else if eqb t Tag.ExportedDeclaration then eqb x.a 1
    else if eqb t Tag.Specifier then is_row syms x.a && leb 1 x.b
    else if eqb t Tag.Expression then true
    else if eqb t Tag.Read then is_row syms x.a
    else if eqb t Tag.Name then is_row syms x.a
    else if eqb t Tag.Call then leb x.a Letter.A && is_row syms x.b && eqb x.c 1
    else if eqb t Tag.Load then leb x.a Mode.External && leb x.b syms
    else if eqb t Tag.Step then leb x.a StepForm.AwaitDispose && is_row syms x.b && leb x.c syms
    else false

-- ---- children

-- n
unfoldable pub children_of : Field → ℕ
children_of x =
    let own = own_numbers x.tag in
    if not (has_children x.tag) then 0
    else if eqb own 0 then x.a
    else if eqb own 1 then x.b
    else if eqb own 2 then x.c
    else x.d

-- the place of child k of a record that stands at p
unfoldable pub place_of : Place → Field → ℕ → Place
place_of p x k =
    let t = x.tag in
    if eqb t Tag.Program then ProgramItem
    else if one_of (Tag.Block ∷ Tag.Body ∷ Tag.StaticBlock ∷ []) t then ListItem
    else if eqb t Tag.Plain then PlainItem
    else if eqb t Tag.Label then Statement
    else if eqb t Tag.Declaration then (if is p ForOfLeft then ForOfDeclarator else Declarator)
    else if eqb t Tag.Declarator then (if ltb k x.b then Name else Expression)
    else if eqb t Tag.For then (if eqb k 0 then ForLeft else if eqb k 1 then Expression else Statement)
    else if eqb t Tag.ForOf then (if eqb k 0 then ForOfLeft else if eqb k 1 then Expression else Statement)
    else if eqb t Tag.Switch then (if eqb k 0 then SwitchExpression else Case)
    else if eqb t Tag.Case then (if ltb k x.a then Expression else ListItem)
    else if eqb t Tag.Try then (if eqb k 1 && not (eqb x.a Parts.Finalizer) then Catch else TryPart)
    else if eqb t Tag.Catch then (if ltb k x.b then Name else TryPart)
    else if eqb t Tag.Function then (if eqb k 0 then Expression else Body)
    else if eqb t Tag.Class then ClassItem
    else if eqb t Tag.ModuleLine then Specifier
    else if eqb t Tag.DefaultExport then DefaultExport
    else if eqb t Tag.ExportedDeclaration then ExportedDeclaration
    else if is p SwitchExpression then SwitchExpression
    else Expression

-- the tree keeps a record's numbers but n
unfoldable pub head_of : Field → Head
head_of x =
    let own = own_numbers x.tag in
    hd x.tag (if ltb 0 own then x.a else 0) (if ltb 1 own then x.b else 0) (if ltb 2 own then x.c else 0)

-- ---- scopes

-- the tags of records whose first number is a scope, and of those whose second is
abbrev pub scope_first : List ℕ
scope_first = Tag.Program ∷ Tag.Block ∷ Tag.Plain ∷ Tag.For ∷ Tag.ForOf ∷ Tag.Switch ∷ Tag.Catch ∷ Tag.StaticBlock ∷ []

abbrev pub scope_second : List ℕ
scope_second = Tag.Function ∷ Tag.Class ∷ []

-- the scope row that a record has, or 0
unfoldable pub scope_of : Head → ℕ
scope_of h =
    if one_of scope_first h.tag then h.a
    else if one_of scope_second h.tag then h.b
    else 0

-- the current scope below a record with scope s
abbrev pub below : ℕ → ℕ → ℕ
below cur s = if eqb s 0 then cur else s

-- The offset of scope row s: the settings before row 1 have as many bytes as a row.
abbrev pub scope_offset : ℕ → ℕ
scope_offset s = scope_bytes * s

unfoldable pub parent_in : List ℕ → ℕ → ℕ
parent_in f s = two f (scope_offset s + head_bytes)

-- Marks: a number for each scope row, 1 once a record has named it. A record below the scope `cur` may name row s
-- if there is such a row, its parent is `cur`, and no record has named it; s is 0 for a record without a scope.
unfoldable pub may_name : List ℕ → ℕ → List ℕ → ℕ → Bool
may_name f cur marks s = eqb s 0 || (leb s (length marks) && eqb (parent_in f s) cur && eqb (get_or marks (s - 1) 0) 0)

unfoldable pub naming : List ℕ → ℕ → List ℕ
naming marks s = if eqb s 0 then marks else set marks (s - 1) 1

-- the lowest row without a mark, counted from 0, or the number of rows
unfoldable pub unnamed : List ℕ → ℕ
unnamed [] = 0
unnamed (m ∷ ms) = if eqb m 0 then 0 else 1 + unnamed ms
