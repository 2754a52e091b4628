-- `enter_for_of_statement`.
-- Assumes nothing.
use Rattle.std.specs.Prelude.{if◌then◌else◌, Bool, false, not, ◌&&◌, List, ℕ, ◌+◌, eqb}
use Rattle.meaning.specs.Numbers.Tag
use Rattle.meaning.specs.Numbers.Kind
use Rattle.meaning.specs.Numbers.SymbolFlag
use Rattle.meaning.specs.Tree.{Head, hd, Forest, none, more, one, Node, node, ◌&◌}
use Rattle.meaning.specs.File.{Symbol}
use Rattle.meaning.specs.Statements.{is_using}
use Rattle.meaning.specs.Shapes.{block, declaration, read}
use Rattle.meaning.specs.Scoping.{
  Change,
  ◌>>=◌,
  ◌>>◌,
  return,
  get,
  row_at,
  no_symbol,
  symbol_in,
  generate_uid,
  insert_scope_below,
  move_binding,
  get_binding,
}

-- the one Declarator has pattern 0: it binds an identifier
unfoldable pub binds_identifier : Forest → Bool
binds_identifier none = false
binds_identifier (more h k r) = eqb h.tag Tag.Declarator && eqb h.a 0

-- its symbol
unfoldable pub bound_symbol : Forest → ℕ
bound_symbol none = 0
bound_symbol (more h none r) = 0
bound_symbol (more h (more h₁ k₁ r₁) r) = h₁.a

unfoldable pub rebind : ℕ → Forest → Forest
rebind y none = none
rebind y (more h none r) = more h none r
rebind y (more h (more h₁ k₁ r₁) r) = more h (more (hd Tag.Name y 0 0) k₁ r₁) r

-- The scope binds the symbol's name, by the symbol rows as read.
unfoldable pub binds_name : List Symbol → ℕ → ℕ → Bool
binds_name as_read scope y =
    let s = row_at no_symbol as_read y in
    eqb s.made 0 && not (eqb (get_binding as_read scope s.name) 0)

-- What becomes of a ForOf: nothing without a using of an identifier; the using goes in at index 0 of a body Block that does not bind its name;
-- any other body is wrapped.
pub data ForOfAct : Type 0 where
  as_is insert wrap : ForOfAct

unfoldable pub for_of_act : List Symbol → Forest → ForOfAct
for_of_act as_read none = as_is
for_of_act as_read (more h₁ k₁ none) = as_is
for_of_act as_read (more h₁ k₁ (more h₂ k₂ none)) = as_is
for_of_act as_read (more h₁ k₁ (more h₂ k₂ (more h₃ k₃ r))) =
    if is_using h₁ && binds_identifier k₁ then
    (if eqb h₃.tag Tag.Block && not (binds_name as_read h₃.a (bound_symbol k₁)) then insert else wrap)
    else as_is

-- the body with the using at index 0, which moves to the body's scope
unfoldable pub insert_using : ℕ → Forest → Head → Forest → Change Forest
insert_using y inserted h body = do
  move_binding y h.a
  return (one h (inserted & body))

-- The body in a new Block below the ForOf's scope, with the using before it, which moves to the Block's scope. The Rust has a branch for a Block
-- and one for other statements; they agree, since the body's parent is the ForOf's scope.
unfoldable pub wrap_body : ℕ → Forest → ℕ → Forest → Change Forest
wrap_body y inserted scope body = do
  new ← insert_scope_below scope body
  move_binding y new
  return (block new (inserted & body))

-- `for (using x of e)` becomes `for (const _x of e)`, and `using x = _x` goes into the body
unfoldable pub enter_for_of_statement : Bool → Head → Forest → Change Node
enter_for_of_statement wraps_body h none = return (node h none)
enter_for_of_statement wraps_body h (more h₁ k₁ none) = return (node h (one h₁ k₁))
enter_for_of_statement wraps_body h (more h₁ k₁ (more h₂ k₂ none)) = return (node h (more h₁ k₁ (one h₂ k₂)))
enter_for_of_statement wraps_body h (more h₁ k₁ (more h₂ k₂ (more h₃ k₃ r))) = do
  st ← get
  temp ← generate_uid (symbol_in st (bound_symbol k₁)).name h.a (SymbolFlag.BlockScoped + SymbolFlag.Const)
  body ←
      if wraps_body then wrap_body (bound_symbol k₁) (declaration h₁.a (bound_symbol k₁) (read temp)) h.a (one h₃ k₃)
      else insert_using (bound_symbol k₁) (declaration h₁.a (bound_symbol k₁) (read temp)) h₃ k₃
  return (node h (more (hd Tag.Declaration Kind.Const 0 0) (rebind temp k₁) (more h₂ k₂ (body & r))))
