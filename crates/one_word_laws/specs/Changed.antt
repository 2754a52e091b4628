-- ONE WORD CHANGED (02, request 13): two files that differ in one Declaration, const in the first, `using` or `await using` in the second; and how
-- little their figures differ.
-- Assumes nothing.
use Rattle.std.specs.Prelude.{if◌then◌else◌, ◌≡◌, true, ◌&&◌, List, [], ◌∷◌, ℕ, ◌+◌, ◌*◌, ◌≤◌, eqb}
use Rattle.meaning.specs.Numbers.Tag
use Rattle.meaning.specs.Numbers.Kind
use Rattle.meaning.specs.Numbers.Mode
use Rattle.meaning.specs.Tree.{one_of, Head, hd, Forest, more}
use Rattle.meaning.specs.File.{File}
use Rattle.meaning.specs.Charges.{Figures, call_bytes, import_bytes, initializers}

-- ---- the change

-- In a list the Declaration with the children d, const in the first, is a using in the second. All else is the same.
pub data WordChanged (d : Forest) : Forest → Forest → Type 0 where
  here : {kind : ℕ} {r : Forest} → one_of (Kind.Using ∷ Kind.AwaitUsing ∷ []) kind ≡ true
      → WordChanged d (more (hd Tag.Declaration Kind.Const 0 0) d r) (more (hd Tag.Declaration kind 0 0) d r)
  behind : {h : Head} {k r r' : Forest} → WordChanged d r r' → WordChanged d (more h k r) (more h k r')

-- the records whose children are such a list: not Program
abbrev pub list_tags : List ℕ
list_tags = Tag.Block ∷ Tag.Body ∷ Tag.StaticBlock ∷ Tag.Case ∷ []

-- somewhere in a tree one such list is changed
pub data TreeChanged (d : Forest) : Forest → Forest → Type 0 where
  in_list_lem : {h : Head} {k k' r : Forest} → one_of list_tags h.tag ≡ true → WordChanged d k k' → TreeChanged d (more h k r) (more h k' r)
  inside : {h : Head} {k k' r : Forest} → TreeChanged d k k' → TreeChanged d (more h k r) (more h k' r)
  beside : {h : Head} {k r r' : Forest} → TreeChanged d r r' → TreeChanged d (more h k r) (more h k r')

-- two files with the same settings and rows, and such trees
pub record OneWord (d : Forest) (f f' : File) : Type 0 where
  pub mode : f.mode ≡ f'.mode
  pub is_module : f.is_module ≡ f'.is_module
  pub scopes : f.scopes ≡ f'.scopes
  pub symbols : f.symbols ≡ f'.symbols
  pub tree : TreeChanged d f.tree f'.tree

-- ---- the bounds

-- what may come on top of the initializers, each of which becomes a call
abbrev pub most_records : ℕ
most_records = 12

abbrev pub most_scopes : ℕ
most_scopes = 4

abbrev pub most_symbols : ℕ
most_symbols = 3

abbrev pub most_bytes : ℕ
most_bytes = 157

-- and in a runtime module for the import line
abbrev pub most_import : ℕ
most_import = 2

abbrev pub in_runtime_module : File → ℕ → ℕ
in_runtime_module f n = if eqb f.mode Mode.Runtime && eqb f.is_module 1 then n else 0

-- From the figures g of the file f to the figures g' of the file with the word changed: each grows at least by the first number, and at most by
-- the second.
pub record Growth (f : File) (d : Forest) (g g' : Figures) : Type 0 where
  pub records_least : g.records + initializers d ≤ g'.records
  pub records_most : g'.records ≤ g.records + (initializers d + most_records + in_runtime_module f most_import)
  pub scopes_least : g.scopes ≤ g'.scopes
  pub scopes_most : g'.scopes ≤ g.scopes + most_scopes
  pub symbols_least : g.symbols ≤ g'.symbols
  pub symbols_most : g'.symbols ≤ g.symbols + most_symbols
  pub contexts_least : g.contexts ≤ g'.contexts
  pub contexts_most : g'.contexts ≤ g.contexts + 1
  pub bytes_least : g.bytes + call_bytes * initializers d ≤ g'.bytes
  pub bytes_most : g'.bytes ≤ g.bytes + (call_bytes * initializers d + most_bytes + in_runtime_module f import_bytes)
