-- The tags of 01's fields.
-- Assumes nothing.
use Rattle.std.specs.Prelude.{ℕ}

abbrev pub Program : ℕ
Program = 1

abbrev pub Block : ℕ
Block = 2

abbrev pub Plain : ℕ
Plain = 3

abbrev pub Label : ℕ
Label = 4

abbrev pub Declaration : ℕ
Declaration = 5

abbrev pub Declarator : ℕ
Declarator = 6

abbrev pub For : ℕ
For = 7

abbrev pub ForOf : ℕ
ForOf = 8

abbrev pub Switch : ℕ
Switch = 9

abbrev pub Case : ℕ
Case = 10

abbrev pub Try : ℕ
Try = 11

abbrev pub Catch : ℕ
Catch = 12

abbrev pub Function : ℕ
Function = 13

abbrev pub Body : ℕ
Body = 14

abbrev pub Class : ℕ
Class = 15

abbrev pub StaticBlock : ℕ
StaticBlock = 16

abbrev pub ModuleLine : ℕ
ModuleLine = 17

abbrev pub DefaultExport : ℕ
DefaultExport = 18

abbrev pub ExportedDeclaration : ℕ
ExportedDeclaration = 19

abbrev pub Specifier : ℕ
Specifier = 20

abbrev pub Expression : ℕ
Expression = 24

abbrev pub Read : ℕ
Read = 25

abbrev pub Name : ℕ
Name = 26

abbrev pub Call : ℕ
Call = 27

abbrev pub Load : ℕ
Load = 28

abbrev pub Step : ℕ
Step = 29

abbrev pub Settings : ℕ
Settings = 40

abbrev pub Scope : ℕ
Scope = 41

abbrev pub Symbol : ℕ
Symbol = 42
