-- What the code computes: new numbers for the scopes that the rows of a record table name. The number of the scope in row s is behind s - 1
-- others.
-- Assumes nothing.
use Rattle.std.specs.Prelude.{if◌then◌else◌, List, [], ◌∷◌, ◌++◌, ℕ, zero, suc, ◌+◌, ◌-◌, eqb, take, drop, get_or, set}
use Rattle.meaning.specs.Tree.{Head}
use Rattle.meaning.specs.Grammar.{scope_of}
use Rattle.meaning.specs.Renumbering.{scope_named, with_scope}
use Rattle.tables.specs.Table.{row_f, head_f, new_numbers_at}
use Rattle.tables.specs.declared.Row.{Row}

-- the number of a scope, or 0
unfoldable pub number_in : List ℕ → ℕ → ℕ
number_in t s = if eqb s 0 then 0 else get_or t (s - 1) 0

-- a number for a scope that has none
unfoldable pub number_f : List ℕ → ℕ → ℕ → List ℕ
number_f t s v = if eqb s 0 then t else if eqb (get_or t (s - 1) 0) 0 then set t (s - 1) v else t

-- the scopes that so many rows of a record table name, from the row behind k others on
unfoldable pub named_in : List ℕ → ℕ → ℕ → List ℕ
named_in r k zero = []
named_in r k (suc n) = scope_named (head_f (row_f r k)) ++ named_in r (k + 1) n

-- numbers from v on for some scopes
unfoldable pub numbers_f : ℕ → List ℕ → List ℕ → List ℕ
numbers_f v [] t = t
numbers_f v (s ∷ ss) t = numbers_f (suc v) ss (number_f t s v)

-- in the column of a scope table, for the scopes that the first rows of a record table name
unfoldable pub numbered_f : List ℕ → ℕ → List ℕ → List ℕ
numbered_f r count s = take (new_numbers_at s) s ++ numbers_f 1 (named_in r 0 count) (drop (new_numbers_at s) s)

-- a row of the record table with another head
abbrev pub with_head : Row → Head → Row
with_head r h = record { tag = h.tag; a = h.a; b = h.b; c = h.c; n = r.n; up = r.up; left = r.left }

unfoldable pub with_scope_f : Row → ℕ → Row
with_scope_f r s = with_head r (with_scope (head_f r) s)

-- with the new number of its scope
unfoldable pub renumbered_row : (ℕ → ℕ) → Row → Row
renumbered_row new r = with_scope_f r (new (scope_of (head_f r)))
