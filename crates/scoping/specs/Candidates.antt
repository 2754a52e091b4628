-- The rows that can bind a name, and the way from a scope outwards.
-- Assumes nothing.
use Rattle.std.specs.Prelude.{if◌then◌else◌, List, [], ◌∷◌, Bool, true, false, ◌&&◌, ℕ, zero, suc, eqb}
use Rattle.meaning.specs.File.{Symbol}
use Rattle.tables.specs.Columns.ScopeTable
use Rattle.scoping.specs.Rows.{scope_number}
use Rattle.scoping.specs.declared.Candidates.{Candidates}
use Rattle.scoping.specs.declared.Candidates.TheVariants.{NoRow, OneRow, MoreRows}

-- one row more, in a scope; i is the row's number
unfoldable pub one_more : ℕ → ℕ → Candidates → Candidates
one_more i scope NoRow = OneRow (record { 0 = i }) (record { 0 = scope })
one_more i scope (OneRow r s) = MoreRows
one_more i scope MoreRows = MoreRows

-- a row binds a name in its scope if it has the name and made 0
unfoldable pub add_candidate_f : Symbol → ℕ → ℕ → Candidates → Candidates
add_candidate_f y name i seen = if eqb y.name name && eqb y.made 0 then one_more i y.scope seen else seen

-- rows are numbered from i on
unfoldable pub candidates_f : List Symbol → ℕ → ℕ → Candidates → Candidates
candidates_f [] name i seen = seen
candidates_f (y ∷ ys) name i seen = candidates_f ys name (suc i) (add_candidate_f y name i seen)

-- a scope is met among k scopes from another one outwards; n scope rows
unfoldable pub climbs_f : ℕ → List ℕ → ℕ → ℕ → ℕ → Bool
climbs_f zero t n scope to = false
climbs_f (suc k) t n scope to =
    if eqb to scope then true
    else if eqb scope 0 then false
    else climbs_f k t n (scope_number t n scope ScopeTable.Parent) to
