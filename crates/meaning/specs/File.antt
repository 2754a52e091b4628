-- The bytes of a file (01, "The tree file").
-- Assumes nothing.
use Rattle.std.specs.Prelude.{if◌then◌else◌, ◌≡◌, refl, List, [], ◌∷◌, ◌++◌, Bool, ◌||◌, ◌&&◌, ℕ, suc, ◌+◌, ◌*◌, ◌-◌, ◌/◌, ◌%◌, eqb, leb, length, take}
use Rattle.meaning.specs.Numbers.Tag
use Rattle.meaning.specs.Tree.{one_of, Forest, Row, flatten}
use Rattle.meaning.specs.Mentions.{mentions}

-- 41: a scope row
pub record Scope : Type 0 where
  pub parent : ℕ
  pub flags : ℕ

abbrev pub scope_row : ℕ → ℕ → Scope
scope_row p f = record { parent = p; flags = f }

-- 42: a symbol row; its fifth number, how often records name it, is the tree's (02, request 7)
pub record Symbol : Type 0 where
  pub name : ℕ
  pub flags : ℕ
  pub scope : ℕ
  pub made : ℕ

abbrev pub symbol_row : ℕ → ℕ → ℕ → ℕ → Symbol
symbol_row n f s m = record { name = n; flags = f; scope = s; made = m }

-- A file: the settings, the rows, and the Program.
pub record File : Type 0 where
  pub mode : ℕ
  pub is_module : ℕ
  pub scopes : List Scope
  pub symbols : List Symbol
  pub tree : Forest

-- how many numbers a tag has; 0 for a tag that does not exist
unfoldable pub numbers_of : ℕ → ℕ
numbers_of t =
    if one_of (Tag.Body ∷ Tag.DefaultExport ∷ Tag.ExportedDeclaration ∷ Tag.Read ∷ Tag.Name ∷ []) t then 1
    else if
    one_of
    (Tag.Program ∷ Tag.Block ∷ Tag.Label ∷ Tag.Declaration ∷ Tag.For ∷ Tag.Switch ∷ Tag.Case ∷ Tag.Try ∷ Tag.StaticBlock ∷ Tag.Specifier
    ∷ Tag.Expression ∷ Tag.Load ∷ Tag.Settings ∷ Tag.Scope ∷ [])
    t
    then 2
    else if one_of (Tag.Plain ∷ Tag.Declarator ∷ Tag.ForOf ∷ Tag.ModuleLine ∷ Tag.Call ∷ Tag.Step ∷ []) t then 3
    else if one_of (Tag.Catch ∷ Tag.Function ∷ Tag.Class ∷ []) t then 4
    else if eqb t Tag.Symbol then 5
    else 0

-- the records whose last number is n, and how many numbers stand before it
unfoldable pub has_children : ℕ → Bool
has_children t = leb Tag.Program t && leb t Tag.ExportedDeclaration || one_of (Tag.Expression ∷ Tag.Call ∷ []) t

unfoldable pub own_numbers : ℕ → ℕ
own_numbers t = if has_children t then numbers_of t - 1 else numbers_of t

-- the bytes of a field: its head, and two for each number
abbrev pub head_bytes : ℕ
head_bytes = 3

unfoldable pub field_bytes : ℕ → ℕ
field_bytes t = head_bytes + 2 * numbers_of t

-- those of the settings, of a scope row and of a symbol row
abbrev pub settings_bytes : ℕ
settings_bytes = 7

abbrev pub scope_bytes : ℕ
scope_bytes = 7

abbrev pub symbol_bytes : ℕ
symbol_bytes = 13

pub row_bytes
    : (field_bytes Tag.Settings ≡ settings_bytes) × (field_bytes Tag.Scope ≡ scope_bytes) × (field_bytes Tag.Symbol ≡ symbol_bytes)
unfolding field_bytes numbers_of
row_bytes = (refl, refl, refl)

unfoldable pub two_bytes : List ℕ → List ℕ
two_bytes [] = []
two_bytes (n ∷ ns) = n / 256 ∷ n % 256 ∷ two_bytes ns

unfoldable pub field : ℕ → List ℕ → List ℕ
field t ns = t ∷ two_bytes (2 * length ns ∷ ns)

unfoldable pub record_numbers : Row → List ℕ
record_numbers r =
    let h = r.head in
    take (own_numbers h.tag) (h.a ∷ h.b ∷ h.c ∷ []) ++ (if has_children h.tag then r.n ∷ [] else [])

unfoldable pub scope_fields : List Scope → List ℕ
scope_fields [] = []
scope_fields (s ∷ ss) = field Tag.Scope (s.parent ∷ s.flags ∷ []) ++ scope_fields ss

-- from row k on, each with its count
unfoldable pub symbol_fields : (ℕ → ℕ) → ℕ → List Symbol → List ℕ
symbol_fields count k [] = []
symbol_fields count k (y ∷ ys) =
    field Tag.Symbol (y.name ∷ y.flags ∷ y.scope ∷ y.made ∷ count k ∷ []) ++ symbol_fields count (suc k) ys

unfoldable pub record_fields : List Row → List ℕ
record_fields [] = []
record_fields (r ∷ rs) = field r.head.tag (record_numbers r) ++ record_fields rs

-- the file as written
unfoldable pub written : File → List ℕ
written f =
    field Tag.Settings (f.mode ∷ f.is_module ∷ [])
    ++ (scope_fields f.scopes ++ (symbol_fields (λ y. mentions y f.tree) 1 f.symbols ++ record_fields (flatten f.tree)))
