-- What 01 charges, counted over the records of the source, one record at a time.
-- Assumes nothing.
use Rattle.std.specs.Prelude.{if◌then◌else◌, ◌≡◌, refl, List, [], ◌∷◌, Bool, false, not, ◌||◌, ◌&&◌, ℕ, suc, ◌+◌, ◌*◌, min, get_or, eqb, leb, ltb}
use Rattle.meaning.specs.Numbers.Tag
use Rattle.meaning.specs.Numbers.Kind
use Rattle.meaning.specs.Tree.{one_of, Head, Forest, none, more, count}
use Rattle.meaning.specs.File.{Symbol, symbol_row, numbers_of, settings_bytes, scope_bytes, head_bytes, field_bytes, symbol_bytes}
use Rattle.meaning.specs.Grammar.{two}
use Rattle.meaning.specs.Statements.{is_using}
use Rattle.meaning.specs.ForOf.{binds_identifier, bound_symbol, binds_name}
use Rattle.meaning.specs.Program.{keeps_default}
use Rattle.meaning.specs.Charges.{
  Figures,
  figures,
  of_block,
  of_body,
  context,
  for_of,
  for_of_block,
  program_block,
  top_level_class,
  exported_class,
  import_line,
  context_charge,
  line_charge,
  call_bytes,
  line_bytes,
  specifier_bytes,
}
use Rattle.figures.specs.declared.tally.Tally.{Tally}
use Rattle.figures.specs.declared.tally.Role.{Role}
use Rattle.figures.specs.declared.tally.Role.TheVariants.{
  Plain,
  Part,
  Item,
  Default,
  Exported,
  ExportedDeclarator,
  ExportedName,
  Held,
  Body,
}

-- ---- what a record is to the one around it

unfoldable pub role_index : Role → ℕ
role_index Plain = 0
role_index Part = 1
role_index Item = 2
role_index Default = 3
role_index Exported = 4
role_index ExportedDeclarator = 5
role_index ExportedName = 6
role_index Held = 7
role_index (Body y) = 8

abbrev pub is_role : Role → Role → Bool
is_role u v = eqb (role_index u) (role_index v)

-- of child k of a record that is `u` to the one around it, by its tag; `held`: it is a using; `body`: what a ForOf's body is
unfoldable pub role_of : Role → ℕ → Bool → Role → ℕ → Role
role_of u t held body k =
    if eqb t Tag.Program then Item
    else if eqb t Tag.Declaration then (if is_role u Exported then ExportedDeclarator else if held then Held else Plain)
    else if eqb t Tag.Declarator then (if is_role u ExportedDeclarator then ExportedName else Plain)
    else if eqb t Tag.ForOf then (if eqb k 2 then body else Plain)
    else if one_of (Tag.Try ∷ Tag.Catch ∷ []) t then Part
    else if eqb t Tag.DefaultExport then (if is_role u Item then Default else Plain)
    else if eqb t Tag.ExportedDeclaration then (if is_role u Item then Exported else Plain)
    else Plain

-- what the body is to a ForOf with these children: it gets a using that binds an identifier
unfoldable pub body_of : Forest → Role
body_of none = Plain
body_of (more h k r) = if is_using h && binds_identifier k then Body (bound_symbol k) else Plain

-- where the numbers of a using stand, from its Declaration on: its kind, its Declarator's pattern, and its Name's symbol
abbrev kind_at : ℕ
kind_at = 3

abbrev pattern_at : ℕ
pattern_at = 10

abbrev symbol_at : ℕ
symbol_at = 19

-- THEY STAND behind the fields before them.
pub using_numbers
    : (kind_at ≡ head_bytes) × (pattern_at ≡ field_bytes Tag.Declaration + head_bytes)
    × (symbol_at ≡ field_bytes Tag.Declaration + field_bytes Tag.Declarator + head_bytes)
unfolding field_bytes numbers_of
using_numbers = (refl, refl, refl)

-- what the body is, in the bytes, from where the children begin: a Declaration, its Declarator and its Name
unfoldable pub body_role : List ℕ → ℕ → Role
body_role f at =
    if eqb (get_or f at 0) Tag.Declaration && one_of (Kind.Using ∷ Kind.AwaitUsing ∷ []) (two f (at + kind_at)) && eqb (two f (at + pattern_at)) 0
    then Body (two f (at + symbol_at))
    else Plain

-- the using goes in at index 0 of such a body
unfoldable pub inserts_in : List Symbol → Role → Head → Bool
inserts_in as_read Plain h = false
inserts_in as_read Part h = false
inserts_in as_read Item h = false
inserts_in as_read Default h = false
inserts_in as_read Exported h = false
inserts_in as_read ExportedDeclarator h = false
inserts_in as_read ExportedName h = false
inserts_in as_read Held h = false
inserts_in as_read (Body y) h = eqb h.tag Tag.Block && not (binds_name as_read h.a y)

-- where the symbol rows begin, behind so many scope rows
abbrev pub rows_from : ℕ → ℕ
rows_from scopes = settings_bytes + scope_bytes * scopes

-- symbol row i counted from 0, of rows that begin at an offset
abbrev pub symbol_in_row : List ℕ → ℕ → ℕ → Symbol
symbol_in_row f at i =
    let row = at + symbol_bytes * i in
    symbol_row (two f (row + 3)) (two f (row + 5)) (two f (row + 7)) (two f (row + 9))

-- ---- what a record adds

abbrev pub one_if : Bool → ℕ
one_if b = if b then 1 else 0

-- its list has a using, and it is a record that gets a context for it
unfoldable pub takes_up : ℕ → ℕ → Bool
takes_up t usings = one_of (Tag.Program ∷ Tag.Block ∷ Tag.For ∷ Tag.Body ∷ Tag.StaticBlock ∷ []) t && not (eqb usings 0)

unfoldable pub takes_up_cases : ℕ → ℕ → Bool
takes_up_cases t usings = eqb t Tag.Switch && not (eqb usings 0)

-- the context is a Block statement's; Program's is that of its new block
unfoldable pub is_block : Role → ℕ → Bool
is_block u t = eqb t Tag.Program || (eqb t Tag.Block && not (is_role u Part))

-- the body of a ForOf with a using; it gets a context, unless its list has one
abbrev pub is_body : Role → Bool
is_body u = is_role u (Body 0)

unfoldable pub gets_context : Role → Bool → ℕ → Bool
gets_context u inserts usings = is_body u && (not inserts || eqb usings 0)

-- an item of Program that is charged as an exported class is, or the default export
unfoldable pub is_export : Role → Head → Bool
is_export u h = (is_role u Default && not (keeps_default h)) || (is_role u Exported && eqb h.tag Tag.Class)

-- ---- tallies

abbrev pub no_tally : Tally
no_tally =
    record {
      records = 0;
      bytes = 0;
      blocks = 0;
      parts = 0;
      wrapped = 0;
      for_ofs = 0;
      for_of_blocks = 0;
      programs = 0;
      classes = 0;
      exports = 0;
      declarations = 0;
      names = 0;
      usings = 0;
      wraps = 0;
      case_usings = 0;
      case_wraps = 0;
    }

-- a record without children, of so many bytes, that counts nowhere else
abbrev pub leaf_tally : ℕ → Tally
leaf_tally size =
    record {
      records = 1;
      bytes = size;
      blocks = 0;
      parts = 0;
      wrapped = 0;
      for_ofs = 0;
      for_of_blocks = 0;
      programs = 0;
      classes = 0;
      exports = 0;
      declarations = 0;
      names = 0;
      usings = 0;
      wraps = 0;
      case_usings = 0;
      case_wraps = 0;
    }

infixl 20 ◌⊞◌
abbrev pub ◌⊞◌ : Tally → Tally → Tally
s ⊞ t =
    record {
      records = s.records + t.records;
      bytes = s.bytes + t.bytes;
      blocks = s.blocks + t.blocks;
      parts = s.parts + t.parts;
      wrapped = s.wrapped + t.wrapped;
      for_ofs = s.for_ofs + t.for_ofs;
      for_of_blocks = s.for_of_blocks + t.for_of_blocks;
      programs = s.programs + t.programs;
      classes = s.classes + t.classes;
      exports = s.exports + t.exports;
      declarations = s.declarations + t.declarations;
      names = s.names + t.names;
      usings = s.usings + t.usings;
      wraps = s.wraps + t.wraps;
      case_usings = s.case_usings + t.case_usings;
      case_wraps = s.case_wraps + t.case_wraps;
    }

-- counters stop at the largest number of 32 bits
abbrev pub capped : ℕ → ℕ
capped n = min n 4294967295

abbrev pub cap : Tally → Tally
cap t =
    record {
      records = capped t.records;
      bytes = capped t.bytes;
      blocks = capped t.blocks;
      parts = capped t.parts;
      wrapped = capped t.wrapped;
      for_ofs = capped t.for_ofs;
      for_of_blocks = capped t.for_of_blocks;
      programs = capped t.programs;
      classes = capped t.classes;
      exports = capped t.exports;
      declarations = capped t.declarations;
      names = capped t.names;
      usings = capped t.usings;
      wraps = capped t.wraps;
      case_usings = capped t.case_usings;
      case_wraps = capped t.case_wraps;
    }

-- what Program's items were charged is dropped at a Program without a using
unfoldable pub items_kept : ℕ → ℕ → ℕ → ℕ
items_kept t usings n = if eqb t Tag.Program && eqb usings 0 then 0 else n

-- a record with n children of this tally
unfoldable pub own : Role → Bool → Head → ℕ → Tally → Tally
own u inserts h n kids =
    let t = h.tag in
    let takes = takes_up t kids.usings in
    let takes_cases = takes_up_cases t kids.case_usings in
    record {
      records = kids.records + 1;
      bytes = kids.bytes + field_bytes t;
      blocks = kids.blocks + one_if (takes && is_block u t) + one_if (gets_context u inserts kids.usings);
      parts = kids.parts + one_if (takes && not (is_block u t)) + one_if takes_cases;
      wrapped = kids.wrapped + (if takes then kids.wraps else 0) + (if takes_cases then kids.case_wraps else 0) + one_if (is_body u);
      for_ofs = kids.for_ofs + one_if (is_body u && inserts);
      for_of_blocks = kids.for_of_blocks + one_if (is_body u && not inserts);
      programs = kids.programs + one_if (takes && eqb t Tag.Program);
      classes = items_kept t kids.usings kids.classes + one_if (is_role u Item && eqb t Tag.Class);
      exports = items_kept t kids.usings kids.exports + one_if (is_export u h);
      declarations = items_kept t kids.usings kids.declarations + one_if (is_role u Exported && eqb t Tag.Declaration);
      names = items_kept t kids.usings kids.names + one_if (is_role u ExportedName && eqb t Tag.Name);
      usings = one_if (is_using h);
      wraps = (if eqb t Tag.Declaration then kids.wraps else 0) + one_if (is_role u Held && eqb t Tag.Declarator && ltb h.b n);
      case_usings = if eqb t Tag.Case then kids.usings else 0;
      case_wraps = if eqb t Tag.Case then kids.wraps else 0;
    }

-- a record for which nothing is charged, whatever its children are
unfoldable pub is_silent : Role → ℕ → Bool
is_silent u t =
    not (one_of (Tag.Program ∷ Tag.Block ∷ Tag.Declaration ∷ Tag.For ∷ Tag.Switch ∷ Tag.Case ∷ Tag.Body ∷ Tag.Class ∷ Tag.StaticBlock ∷ []) t)
    && leb (role_index u) (role_index Item)

-- what it adds: itself, of so many bytes
abbrev pub silent : ℕ → Tally → Tally
silent size kids =
    record {
      records = kids.records + 1;
      bytes = kids.bytes + size;
      blocks = kids.blocks;
      parts = kids.parts;
      wrapped = kids.wrapped;
      for_ofs = kids.for_ofs;
      for_of_blocks = kids.for_of_blocks;
      programs = kids.programs;
      classes = kids.classes;
      exports = kids.exports;
      declarations = kids.declarations;
      names = kids.names;
      usings = 0;
      wraps = 0;
      case_usings = 0;
      case_wraps = 0;
    }

-- the tally of a forest whose record k is `ups k` to the one around it
unfoldable pub tally_of : List Symbol → (ℕ → Role) → ℕ → Forest → Tally
tally_of as_read ups k none = no_tally
tally_of as_read ups k (more h kids r) =
    own (ups k) (inserts_in as_read (ups k) h) h (count kids)
    (tally_of as_read (role_of (ups k) h.tag (is_using h) (body_of kids)) 0 kids)
    ⊞ tally_of as_read ups (suc k) r

-- ---- 01's figures of a tally

-- the rows that each line adds
abbrev pub block_records : ℕ
block_records = 11

abbrev pub part_records : ℕ
part_records = 12

abbrev pub for_of_records : ℕ
for_of_records = 4

abbrev pub for_of_block_records : ℕ
for_of_block_records = 5

abbrev pub class_records : ℕ
class_records = 3

abbrev pub export_records : ℕ
export_records = 4

abbrev pub import_records : ℕ
import_records = 2

abbrev pub block_scopes : ℕ
block_scopes = 3

abbrev pub part_scopes : ℕ
part_scopes = 4

abbrev pub context_symbols : ℕ
context_symbols = 2

-- the bytes that each line adds, with those of its scopes and symbols
abbrev pub block_cost : ℕ
block_cost = 130

abbrev pub part_cost : ℕ
part_cost = 144

abbrev pub for_of_cost : ℕ
for_of_cost = 39

abbrev pub for_of_block_cost : ℕ
for_of_block_cost = 53

abbrev pub program_cost : ℕ
program_cost = 14

abbrev pub class_cost : ℕ
class_cost = 34

abbrev pub export_cost : ℕ
export_cost = 45

-- THEY ARE what 01 charges.
pub rows_charged
    : (block_records ≡ (line_charge (context of_block)).records) × (part_records ≡ (line_charge (context of_body)).records)
    × (for_of_records ≡ (line_charge for_of).records) × (for_of_block_records ≡ (line_charge for_of_block).records)
    × (class_records ≡ (line_charge top_level_class).records) × (export_records ≡ (line_charge exported_class).records)
    × (import_records ≡ (line_charge import_line).records)
    × (block_scopes ≡ (line_charge (context of_block)).scopes) × (part_scopes ≡ (line_charge (context of_body)).scopes)
    × (context_symbols ≡ (line_charge (context of_block)).symbols) × (context_symbols ≡ (line_charge (context of_body)).symbols)
unfolding line_charge context_charge
rows_charged = (refl, refl, refl, refl, refl, refl, refl, refl, refl, refl, refl)

pub costs_charged
    : (block_cost ≡ (line_charge (context of_block)).bytes) × (part_cost ≡ (line_charge (context of_body)).bytes)
    × (for_of_cost ≡ (line_charge for_of).bytes) × (for_of_block_cost ≡ (line_charge for_of_block).bytes)
    × (program_cost ≡ (line_charge program_block).bytes) × (class_cost ≡ (line_charge top_level_class).bytes)
    × (export_cost ≡ (line_charge exported_class).bytes)
unfolding line_charge context_charge
costs_charged = (refl, refl, refl, refl, refl, refl, refl)

unfoldable pub tally_figures : Tally → Figures
tally_figures t =
    figures
    (t.records + block_records * t.blocks + part_records * t.parts + t.wrapped + for_of_records * t.for_ofs
    + for_of_block_records * t.for_of_blocks + t.programs + class_records * t.classes + export_records * t.exports + t.names)
    (block_scopes * t.blocks + part_scopes * t.parts + t.for_of_blocks + t.programs)
    (context_symbols * t.blocks + context_symbols * t.parts + t.for_ofs + t.for_of_blocks + t.classes + t.exports)
    (t.blocks + t.parts)
    (t.bytes + block_cost * t.blocks + part_cost * t.parts + call_bytes * t.wrapped + for_of_cost * t.for_ofs
    + for_of_block_cost * t.for_of_blocks + program_cost * t.programs + class_cost * t.classes + export_cost * t.exports
    + line_bytes * t.declarations + specifier_bytes * t.names)
