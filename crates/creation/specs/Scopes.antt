-- A new scope above records in the table.
-- Assumes nothing.
use Rattle.std.specs.Prelude.{if◌then◌else◌, List, Bool, ◌&&◌, ℕ, ◌-◌, eqb}
use Rattle.meaning.specs.Grammar.{scope_of}
use Rattle.tables.specs.Loops.{until}
use Rattle.tables.specs.Table.{largest, capped, row_f, head_f}
use Rattle.scoping.specs.Changes.{ScopeRows, in_scopes, create_child_scope_f, change_scope_parent_f}
use Rattle.scoping.specs.declared.Ctx.{Ctx}
use Rattle.creation.specs.declared.ScopeMove.{ScopeMove}

-- the scope rows, and the records on the way
pub record ScopeMoveF : Type 0 where
  pub t : List ℕ
  pub at : ℕ
  pub pending : ℕ
  pub skip : ℕ

abbrev pub scope_move_f : List ℕ → ℕ → ℕ → ℕ → ScopeMoveF
scope_move_f t at pending skip = record { t = t; at = at; pending = pending; skip = skip }

abbrev pub scope_move : List ℕ → ScopeMove → ScopeMoveF
scope_move t s = scope_move_f t s.at.0 s.pending s.skip

unfoldable pub move_scope_f : List ℕ → Ctx → ℕ → ScopeMoveF → ScopeMoveF
move_scope_f records x parent s =
    let r = row_f records s.at in
    let next = capped s.at 1 in
    let scope = scope_of (head_f r) in
    let t = change_scope_parent_f (in_scopes s.t x) scope parent in
    if eqb s.skip 0 then (
    if eqb scope 0 then scope_move_f s.t next (capped (s.pending - 1) r.n) 0 else scope_move_f t next (s.pending - 1) r.n)
    else scope_move_f s.t next s.pending (capped (s.skip - 1) r.n)

unfoldable pub is_passed_f : ScopeMove → Bool
is_passed_f s = eqb s.pending 0 && eqb s.skip 0

abbrev pub passed : ScopeMoveF → Bool
passed s = eqb s.pending 0 && eqb s.skip 0

unfoldable pub move_scopes_f : List ℕ → ScopeRows → ℕ → ℕ → ℕ → List ℕ
move_scopes_f records q after n parent = (until largest passed (move_scope_f records q.ctx parent) (scope_move_f q.t after n 0)).t

unfoldable pub insert_scope_below_f : List ℕ → ScopeRows → ℕ → ℕ → ℕ → ScopeRows
insert_scope_below_f records q scope after n =
    let q₁ = create_child_scope_f q scope 0 in
    in_scopes (move_scopes_f records q₁ after n q₁.ctx.scopes) q₁.ctx
