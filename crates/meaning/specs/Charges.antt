-- The charges, found in the source (01, "Charges"), and the final figures.
-- Assumes nothing.
use Rattle.std.specs.Prelude.{if◌then◌else◌, ◌≡◌, refl, List, [], ◌∷◌, ◌++◌, not, ◌&&◌, ℕ, ◌+◌, ◌*◌, length, eqb, ltb}
use Rattle.meaning.specs.Numbers.Tag
use Rattle.meaning.specs.Numbers.Mode
use Rattle.meaning.specs.Tree.{one_of, Head, Forest, none, more, count, size}
use Rattle.meaning.specs.File.{Symbol, File, numbers_of, field_bytes, settings_bytes, scope_bytes, symbol_bytes}
use Rattle.meaning.specs.Statements.{is_using, any_using}
use Rattle.meaning.specs.Contexts.{any_case_using}
use Rattle.meaning.specs.Program.{bound_names, ItemAct, stay, move, lower_class, lower_declaration, export_declaration, export_class, export_default_class, export_default_value, item_act}
use Rattle.meaning.specs.ForOf.{ForOfAct, as_is, insert, wrap, for_of_act}
use Rattle.meaning.specs.Walk.{Spot, file_at, store_at}

-- ---- 01's lines

-- what a context is made for
pub data ContextKind : Type 0 where
  of_block of_body of_static_block of_try_part of_for of_switch : ContextKind

-- A charge is a list of these. The numbers count wrapped initializers, and the names of an exported Declaration.
pub data Line : Type 0 where
  context : ContextKind → Line
  wrapped : ℕ → Line
  for_of for_of_block program_block top_level_class exported_class default_export : Line
  exported_names : ℕ → Line
  helper import_line : Line

-- records, scopes, symbols, contexts, and the bytes of the written file
pub record Figures : Type 0 where
  pub records : ℕ
  pub scopes : ℕ
  pub symbols : ℕ
  pub contexts : ℕ
  pub bytes : ℕ

abbrev pub figures : ℕ → ℕ → ℕ → ℕ → ℕ → Figures
figures r s y c b = record { records = r; scopes = s; symbols = y; contexts = c; bytes = b }

infixl 20 ◌⊕◌
abbrev pub ◌⊕◌ : Figures → Figures → Figures
x ⊕ y =
    figures
    (x.records + y.records)
    (x.scopes + y.scopes)
    (x.symbols + y.symbols)
    (x.contexts + y.contexts)
    (x.bytes + y.bytes)

-- so many rows, and contexts; the last number is the bytes of the records alone
abbrev pub charge : ℕ → ℕ → ℕ → ℕ → ℕ → Figures
charge r s y c b = figures r s y c (b + (scope_bytes * s + symbol_bytes * y))

-- The bytes of the records that are made. A context makes a Try, the context's declaration, a Catch and the last Block; in all but a Block
-- statement also the Block around the list.
abbrev pub context_bytes : ℕ
context_bytes = 83

abbrev pub inner_context_bytes : ℕ
inner_context_bytes = 90

abbrev pub block_bytes : ℕ
block_bytes = 7

abbrev pub call_bytes : ℕ
call_bytes = 9

-- a ForOf's using in its body, and with a Block around it; a class's var
abbrev pub for_of_bytes : ℕ
for_of_bytes = 26

abbrev pub for_of_block_bytes : ℕ
for_of_block_bytes = 33

abbrev pub class_bytes : ℕ
class_bytes = 21

-- a Module line instead of 18 or 19: with one Specifier and a var, and as more Specifiers come
abbrev pub export_bytes : ℕ
export_bytes = 32

abbrev pub line_bytes : ℕ
line_bytes = 4

abbrev pub specifier_bytes : ℕ
specifier_bytes = 7

-- the import line: a Module line with one Specifier
abbrev pub import_bytes : ℕ
import_bytes = 16

-- the bytes of records with these tags
unfoldable pub bytes_of : List ℕ → ℕ
bytes_of [] = 0
bytes_of (t ∷ ts) = field_bytes t + bytes_of ts

abbrev context_tags : List ℕ
context_tags =
    Tag.Try
    ∷ Tag.Declaration ∷ Tag.Declarator ∷ Tag.Name ∷ Tag.Load
    ∷ Tag.Catch ∷ Tag.Name ∷ Tag.Block ∷ Tag.Step
    ∷ Tag.Block ∷ Tag.Step
    ∷ []

abbrev var_tags : List ℕ
var_tags = Tag.Declaration ∷ Tag.Declarator ∷ Tag.Name ∷ []

-- THEY ARE the bytes of those records.
pub bytes_made
    : (context_bytes ≡ bytes_of context_tags) × (inner_context_bytes ≡ bytes_of (Tag.Block ∷ context_tags)) × (block_bytes ≡ bytes_of (Tag.Block ∷ []))
    × (call_bytes ≡ bytes_of (Tag.Call ∷ [])) × (for_of_bytes ≡ bytes_of (var_tags ++ Tag.Read ∷ []))
    × (for_of_block_bytes ≡ bytes_of (Tag.Block ∷ (var_tags ++ Tag.Read ∷ []))) × (class_bytes ≡ bytes_of var_tags)
    × (bytes_of (Tag.DefaultExport ∷ []) + export_bytes ≡ bytes_of (Tag.ModuleLine ∷ Tag.Specifier ∷ var_tags))
    × (bytes_of (Tag.ExportedDeclaration ∷ []) + export_bytes ≡ bytes_of (Tag.ModuleLine ∷ Tag.Specifier ∷ var_tags))
    × (bytes_of (Tag.ExportedDeclaration ∷ []) + line_bytes ≡ bytes_of (Tag.ModuleLine ∷ []))
    × (specifier_bytes ≡ bytes_of (Tag.Specifier ∷ [])) × (import_bytes ≡ bytes_of (Tag.ModuleLine ∷ Tag.Specifier ∷ []))
unfolding bytes_of field_bytes numbers_of
bytes_made = (refl, refl, refl, refl, refl, refl, refl, refl, refl, refl, refl, refl)

unfoldable pub context_charge : ContextKind → Figures
context_charge of_block = charge 11 3 2 1 context_bytes
context_charge of_body = charge 12 4 2 1 inner_context_bytes
context_charge of_static_block = charge 12 4 2 1 inner_context_bytes
context_charge of_try_part = charge 12 4 2 1 inner_context_bytes
context_charge of_for = charge 12 4 2 1 inner_context_bytes
context_charge of_switch = charge 12 4 2 1 inner_context_bytes

unfoldable pub line_charge : Line → Figures
line_charge (context k) = context_charge k
line_charge (wrapped n) = charge n 0 0 0 (call_bytes * n)
line_charge for_of = charge 4 0 1 0 for_of_bytes
line_charge for_of_block = charge 5 1 1 0 for_of_block_bytes
line_charge program_block = charge 1 1 0 0 block_bytes
line_charge top_level_class = charge 3 0 1 0 class_bytes
line_charge exported_class = charge 4 0 1 0 export_bytes
line_charge default_export = charge 4 0 1 0 export_bytes
line_charge (exported_names n) = charge n 0 0 0 (line_bytes + specifier_bytes * n)
line_charge helper = charge 0 0 1 0 0
line_charge import_line = charge 2 0 0 0 import_bytes

unfoldable pub total : List Line → Figures
total [] = charge 0 0 0 0 0
total (l ∷ ls) = line_charge l ⊕ total ls

-- ---- what is counted in a list

-- the Declarators with an initializer
unfoldable pub initializers : Forest → ℕ
initializers none = 0
initializers (more h k r) = (if eqb h.tag Tag.Declarator && ltb h.b (count k) then 1 else 0) + initializers r

-- those of its usings
unfoldable pub wraps : Forest → ℕ
wraps none = 0
wraps (more h k r) = (if is_using h then initializers k else 0) + wraps r

unfoldable pub case_wraps : Forest → ℕ
case_wraps none = 0
case_wraps (more h k r) = (if eqb h.tag Tag.Case then wraps k else 0) + case_wraps r

-- a list that gets a context, if it has a using
unfoldable pub context_lines : ContextKind → Forest → List Line
context_lines kind list = if any_using list then context kind ∷ wrapped (wraps list) ∷ [] else []

-- ---- Program's items

-- by what becomes of each
unfoldable pub act_lines : ItemAct → List Line
act_lines stay = []
act_lines move = []
act_lines lower_class = top_level_class ∷ []
act_lines lower_declaration = []
act_lines (export_declaration k) = exported_names (length (bound_names k)) ∷ []
act_lines (export_class h k) = exported_class ∷ []
act_lines (export_default_class h k) = default_export ∷ []
act_lines (export_default_value h k) = default_export ∷ []

unfoldable pub item_lines : Forest → List Line
item_lines none = []
item_lines (more h k r) = act_lines (item_act h k) ++ item_lines r

-- ---- each record's own lines

-- a ForOf's body that gets the using at index 0 gets a context, if its list has none
unfoldable pub body_lines : Forest → List Line
body_lines none = []
body_lines (more h₁ k₁ none) = []
body_lines (more h₁ k₁ (more h₂ k₂ none)) = []
body_lines (more h₁ k₁ (more h₂ k₂ (more h₃ k₃ r))) = if any_using k₃ then [] else (context of_block ∷ [])

unfoldable pub for_of_lines : ForOfAct → Forest → List Line
for_of_lines as_is k = []
for_of_lines insert k = for_of ∷ wrapped 1 ∷ body_lines k
for_of_lines wrap k = for_of_block ∷ wrapped 1 ∷ context of_block ∷ []

-- `up` is the tag of the record around it: a Block below a Try or a Catch is a try part
unfoldable pub own_lines : List Symbol → ℕ → Head → Forest → List Line
own_lines as_read up h k =
    let t = h.tag in
    if eqb t Tag.Program then (if any_using k then program_block ∷ (context_lines of_block k ++ item_lines k) else [])
    else if eqb t Tag.Block then context_lines (if one_of (Tag.Try ∷ Tag.Catch ∷ []) up then of_try_part else of_block) k
    else if eqb t Tag.For then context_lines of_for k
    else if eqb t Tag.ForOf then for_of_lines (for_of_act as_read k) k
    else if eqb t Tag.Switch then (if any_case_using k then context of_switch ∷ wrapped (case_wraps k) ∷ [] else [])
    else if eqb t Tag.Body then context_lines of_body k
    else if eqb t Tag.StaticBlock then context_lines of_static_block k
    else []

unfoldable pub tree_lines : List Symbol → ℕ → Forest → List Line
tree_lines as_read up none = []
tree_lines as_read up (more h k r) =
    own_lines as_read up h k ++ (tree_lines as_read h.tag k ++ tree_lines as_read up r)

-- ---- the figures

-- the bytes of a tree's records
unfoldable pub record_bytes : Forest → ℕ
record_bytes none = 0
record_bytes (more h k r) = field_bytes h.tag + (record_bytes k + record_bytes r)

-- those of a file as it stands
unfoldable pub figures_in : File → Figures
figures_in f =
    figures
    (size f.tree)
    (length f.scopes)
    (length f.symbols)
    0
    (settings_bytes + (scope_bytes * length f.scopes + (symbol_bytes * length f.symbols + record_bytes f.tree)))

-- those of the walk as it stands
unfoldable pub figures_at : Spot → Figures
figures_at s = figures_in (file_at s) ⊕ figures 0 0 0 (store_at s).contexts 0

-- the runtime helper, once, if there is a context
unfoldable pub helper_lines : ℕ → Figures → List Line
helper_lines mode due = if eqb mode Mode.Runtime && not (eqb due.contexts 0) then helper ∷ [] else []

-- the figures at the end of the walk: those read and the charges of its visits
unfoldable pub walk_figures : File → Figures
walk_figures f =
    let due = total (tree_lines f.symbols 0 f.tree) in
    figures_in f ⊕ (due ⊕ total (helper_lines f.mode due))

-- the import line, once, in a runtime module with a context (02, request 1)
unfoldable pub import_lines : ℕ → ℕ → Figures → List Line
import_lines mode is_module g =
    if eqb mode Mode.Runtime && eqb is_module 1 && not (eqb g.contexts 0) then import_line ∷ [] else []

-- the final figures: those read and all charges
unfoldable pub final_figures : File → Figures
final_figures f = walk_figures f ⊕ total (import_lines f.mode f.is_module (walk_figures f))
