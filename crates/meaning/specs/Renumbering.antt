-- A written file numbers its scopes in the order in which its tree names them (02, request 9). Records, parents and the scopes of symbols follow;
-- symbol rows keep their order.
-- Assumes nothing.
use Rattle.std.specs.Prelude.{if◌then◌else◌, List, [], ◌∷◌, ◌++◌, map, ℕ, suc, eqb}
use Rattle.meaning.specs.Tree.{one_of, Head, hd, Forest, none, more}
use Rattle.meaning.specs.File.{Scope, scope_row, Symbol, symbol_row, File}
use Rattle.meaning.specs.Grammar.{scope_first, scope_second, scope_of}
use Rattle.meaning.specs.Scoping.{row_at, no_scope}

-- the scope that a record names, if it names one
unfoldable pub scope_named : Head → List ℕ
scope_named h = if eqb (scope_of h) 0 then [] else (scope_of h ∷ [])

-- those that a tree names, in file order
unfoldable pub named_scopes : Forest → List ℕ
named_scopes none = []
named_scopes (more h k r) = scope_named h ++ (named_scopes k ++ named_scopes r)

-- where a number stands first in a list whose places are counted from k on; 0 if it does not
unfoldable pub place_from : ℕ → List ℕ → ℕ → ℕ
place_from k [] s = 0
place_from k (x ∷ xs) s = if eqb x s then k else place_from (suc k) xs s

-- the new number of a scope, by the order of names
abbrev pub new_number : List ℕ → ℕ → ℕ
new_number order s = place_from 1 order s

-- a record with another number for its scope, if its tag has one
unfoldable pub with_scope : Head → ℕ → Head
with_scope h s =
    if one_of scope_first h.tag then hd h.tag s h.b h.c
    else if one_of scope_second h.tag then hd h.tag h.a s h.c
    else h

unfoldable pub renumbered_tree : (ℕ → ℕ) → Forest → Forest
renumbered_tree new none = none
renumbered_tree new (more h k r) = more (with_scope h (new (scope_of h))) (renumbered_tree new k) (renumbered_tree new r)

-- row s, with the new number of its parent
unfoldable pub renumbered_scope : (ℕ → ℕ) → List Scope → ℕ → Scope
renumbered_scope new scopes s = let row = row_at no_scope scopes s in scope_row (new row.parent) row.flags

unfoldable pub renumbered_symbol : (ℕ → ℕ) → Symbol → Symbol
renumbered_symbol new y = symbol_row y.name y.flags (new y.scope) y.made

-- THE FILE, its scopes numbered in tree order.
unfoldable pub renumbered : File → File
renumbered f =
    let order = named_scopes f.tree in
    let new = new_number order in
    record {
      mode = f.mode;
      is_module = f.is_module;
      scopes = map (renumbered_scope new f.scopes) order;
      symbols = map (renumbered_symbol new) f.symbols;
      tree = renumbered_tree new f.tree;
    }
