-- A ForOf with a using: the rows offer what comes of it demands.
-- Assumes nothing.
use Rattle.std.specs.Prelude.{◌≡◌, true, false, ℕ, ◌+◌}
use Rattle.std.proofs.Math.Path.{refl}
use Rattle.std.proofs.Common.{◌∙◌}
use native.Mathlib.Omega.{arith}
use Rattle.meaning.specs.Numbers.Tag
use Rattle.meaning.specs.Numbers.Kind
use Rattle.meaning.specs.Numbers.SymbolFlag
use Rattle.meaning.specs.Tree.{Head, hd, Forest, none, more, one, ◌&◌}
use Rattle.meaning.specs.Grammar.{scope_of, below}
use Rattle.meaning.specs.Scoping.{Store, symbol_in, create_symbol, insert_scope_below, move_binding}
use Rattle.meaning.specs.Shapes.{block, declaration, read}
use Rattle.meaning.specs.Statements.{is_using}
use Rattle.meaning.specs.ForOf.{bound_symbol, rebind, insert_using, wrap_body, enter_for_of_statement}
use Rattle.charge_laws.proofs.Growth.Trees.{using_tag}
use Rattle.charge_laws.proofs.Growth.ForOf.{Named}
use Rattle.meaning.specs.Agreement.{names_scope}
use Rattle.agreement_laws.specs.Weights.{Weight, demanded, Offers}
use Rattle.agreement_laws.specs.Rows.{never_0}
use Rattle.agreement_laws.specs.Demands.{demanded_none, demanded_&}
use Rattle.agreement_laws.specs.Lists.{Alike, alike_more, of_declaration, declared}
use Rattle.agreement_laws.specs.Tries.{below_row, Keeps}
use Rattle.agreement_laws.specs.Contexts.{below_block}

rebound : (y : ℕ) (k : Forest) → Named k → Alike (rebind y k) k
unfolding rebind demanded names_scope scope_of
rebound y none n w cur = refl
rebound y (more h none r) n w cur = refl
rebound y (more h (more h₁ k₁ r₁) r) n w cur = rw n (omega arith)

-- the using before a list
held : (kind y temp : ℕ) (list : Forest) → Alike (declaration kind y (read temp) & list) list
unfolding demanded names_scope scope_of
held kind y temp list w cur = omega (arith, declared kind y (read temp) list w cur)

of_for_of_lem : (cur a b c : ℕ) (w : Weight) (k : Forest) → demanded w cur (one (hd Tag.ForOf a b c) k) ≡ w a cur + demanded w (below cur a) k
unfolding demanded names_scope scope_of
of_for_of_lem cur a b c w k = omega arith

module _ (cur a b c : ℕ) (h₁ : Head) (k₁ : Forest) (h₂ : Head) (k₂ : Forest) (h₃ : Head) (k₃ r : Forest) (st : Store)
    (u : is_using h₁ ≡ true) (n : Named k₁) where
  abbrev pub sides : Forest
  sides = more h₁ k₁ (more h₂ k₂ (more h₃ k₃ r))

  -- another body below the same scope
  other_body : (w : Weight) (s temp : ℕ) (body : Forest)
      → demanded w s (more (hd Tag.Declaration Kind.Const 0 0) (rebind temp k₁) (more h₂ k₂ (body & r))) + demanded w s (one h₃ k₃)
      ≡ demanded w s sides + demanded w s body
  unfolding demanded
  other_body w s temp body =
      omega (
        arith,
        of_declaration w s h₁ k₁ (more h₂ k₂ (more h₃ k₃ r)) (using_tag h₁ u),
        of_declaration w s (hd Tag.Declaration Kind.Const 0 0) (rebind temp k₁) (more h₂ k₂ (body & r)) refl,
        rebound temp k₁ n w s,
        demanded_& w s body r,
      )

  pub insert_keeps : Keeps cur (hd Tag.ForOf a b c) sides st (enter_for_of_statement false (hd Tag.ForOf a b c) sides st)
  unfolding enter_for_of_statement insert_using create_symbol move_binding
  insert_keeps R o =
      let temp = create_symbol (symbol_in st (bound_symbol k₁)).name (SymbolFlag.BlockScoped + SymbolFlag.Const) a 1 st in
      let using' = declaration h₁.a (bound_symbol k₁) (read temp.0) in
      let alike = alike_more h₃ k₃ (using' & k₃) none none (held h₁.a (bound_symbol k₁) temp.0 k₃) (λ w s. refl) in
      λ w.
      let s = below cur a in
      let body = one h₃ (using' & k₃) in
      let before : demanded w cur (one (hd Tag.ForOf a b c) sides) ≡ w a cur + demanded w s sides = of_for_of_lem cur a b c w sides in
      let after = of_for_of_lem cur a b c w (more (hd Tag.Declaration Kind.Const 0 0) (rebind temp.0 k₁) (more h₂ k₂ (body & r))) in
      omega (arith, o w, other_body w s temp.0 body, alike w s)

  pub wrap_keeps : Keeps cur (hd Tag.ForOf a b c) sides st (enter_for_of_statement true (hd Tag.ForOf a b c) sides st)
  unfolding enter_for_of_statement wrap_body create_symbol move_binding
  wrap_keeps R o =
      let temp = create_symbol (symbol_in st (bound_symbol k₁)).name (SymbolFlag.BlockScoped + SymbolFlag.Const) a 1 st in
      let using' = declaration h₁.a (bound_symbol k₁) (read temp.0) in
      let list = using' & one h₃ k₃ in
      let new = insert_scope_below a (one h₃ k₃) temp.1 in
      let body = block new.0 list in
      let made = more (hd Tag.Declaration Kind.Const 0 0) (rebind temp.0 k₁) (more h₂ k₂ (body & r)) in
      let o₀ : Offers st.scopes (λ w. w a cur + (demanded w (below cur a) sides + R w)) = λ w. omega (arith, o w, of_for_of_lem cur a b c w sides) in
      let e = below_row cur a (never_0 st.scopes a cur (λ w. demanded w (below cur a) sides + R w) o₀) in
      let o₁ =
      below_block a (one h₃ k₃) list temp.1
      (λ w. w a cur + (demanded w a (more (hd Tag.Declaration Kind.Const 0 0) (rebind temp.0 k₁) (more h₂ k₂ (none & r))) + R w))
      (held h₁.a (bound_symbol k₁) temp.0 (one h₃ k₃))
      (λ w. omega (arith, rw e at (o₀ w), other_body w a temp.0 none, demanded_none w a))
      in
      λ w.
      let after : demanded w cur (one (hd Tag.ForOf a b c) made) ≡ w a cur + demanded w a made = of_for_of_lem cur a b c w made ∙ rw e in
      omega (arith, o₁ w, other_body w a temp.0 body, other_body w a temp.0 none, demanded_none w a)
