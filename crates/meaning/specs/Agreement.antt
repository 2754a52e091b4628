-- Scope rows and tree (01, "The tree file"): each row belongs to one record, which names it; Program's is the first; and the parent of a row is
-- the scope around its record. Reading refuses a file in which this does not hold, and lowering keeps to it (02, request 14).
-- Assumes nothing.
use Rattle.std.specs.Prelude.{if◌then◌else◌, ◌≡◌, Bool, true, false, not, ◌||◌, ◌&&◌, List, [], ◌∷◌, ◌++◌, ℕ, length, eqb}
use Rattle.meaning.specs.Numbers.Tag
use Rattle.meaning.specs.Tree.{one_of, Head, hd, Forest, none, more, one}
use Rattle.meaning.specs.File.{Scope}
use Rattle.meaning.specs.Grammar.{is_row, scope_of, below}
use Rattle.meaning.specs.Scoping.{row_at, no_scope}

-- the tags of records that always name a scope row
abbrev pub namers : List ℕ
namers = Tag.Program ∷ Tag.Block ∷ Tag.For ∷ Tag.ForOf ∷ Tag.Switch ∷ Tag.Catch ∷ Tag.Function ∷ Tag.Class ∷ Tag.StaticBlock ∷ []

-- the record names a scope row: by its tag, and a Plain if its number is not 0
unfoldable pub names_scope : Head → Bool
names_scope h = one_of namers h.tag || (eqb h.tag Tag.Plain && not (eqb h.a 0))

-- For each record that names row s, in file order, the scope around it: that of the innermost record with one, `cur` around the forest, and 0 for
-- none.
unfoldable pub enclosing_scopes : ℕ → ℕ → Forest → List ℕ
enclosing_scopes s cur none = []
enclosing_scopes s cur (more h k r) =
    (if names_scope h && eqb (scope_of h) s then cur ∷ [] else [])
    ++ (enclosing_scopes s (below cur (scope_of h)) k ++ enclosing_scopes s cur r)

-- THE SCOPE ROWS AGREE WITH THE TREE.
pub record ScopesAgree (scopes : List Scope) (tree : Forest) : Type 0 where
  -- each row is named once, and its parent is the scope around the record that names it
  pub rows : (s : ℕ) → is_row (length scopes) s ≡ true → enclosing_scopes s 0 tree ≡ (row_at no_scope scopes s).parent ∷ []
  -- what is no row is named by none
  pub others : (s : ℕ) → is_row (length scopes) s ≡ false → enclosing_scopes s 0 tree ≡ []
  -- the tree is one Program, which names row 1
  pub program : (items : Forest) × (tree ≡ one (hd Tag.Program 1 0 0) items)
