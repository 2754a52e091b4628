-- Heads changed, one by one: a tree without usings to take up has none after it, if the changes make none. So it is with a tree as it is written,
-- and with its scopes numbered anew.
-- Assumes nothing.
use Rattle.std.specs.Prelude.{◌≡◌, Bool, true, false, ◌||◌, ◌&&◌, [], ◌∷◌, ℕ, eqb}
use Rattle.std.proofs.Math.Path.{refl}
use Rattle.std.proofs.Common.{sym, ap, subst, ◌∙◌}
use Rattle.meaning.specs.Numbers.Tag
use Rattle.meaning.specs.Numbers.Kind
use Rattle.meaning.specs.Tree.{one_of, Head, hd, Forest, none, more}
use Rattle.meaning.specs.File.{numbers_of, has_children, own_numbers}
use Rattle.meaning.specs.Grammar.{scope_of}
use Rattle.meaning.specs.Renumbering.{with_scope, renumbered_tree}
use Rattle.meaning.specs.Statements.{is_using, any_using}
use Rattle.meaning.specs.ForOf.{binds_identifier}
use Rattle.spec_laws.specs.Tags.{Seen, other, here, there, seen, clash, or_none}
use Rattle.charge_laws.specs.Growth.Chosen.{held_using}
use Rattle.hint_laws.proofs.Lowered.Quiet.{Quiet, AllQuiet}
use Rattle.readback_laws.proofs.Mapped.{mapped}
use Rattle.readback_laws.proofs.Back.{plain_head, plain}
use Rattle.renumbering_laws.specs.Heads.{with_tag, with_other}
use Rattle.renumbering_laws.specs.Trees.{tree_mapped}

-- the tag; what is no using; whether a Declarator binds an identifier
record MakesNone (φ : Head → Head) : Type 0 where
  pub tag : (h : Head) → (φ h).tag ≡ h.tag
  pub no_using : (h : Head) → is_using h ≡ false → is_using (φ h) ≡ false
  pub identifier : (h : Head) → (eqb h.tag Tag.Declarator && eqb (φ h).a 0) ≡ (eqb h.tag Tag.Declarator && eqb h.a 0)

held_by_lem : (u v u' : Bool) → (u && v) ≡ false → (u ≡ false → u' ≡ false) → (u' && v) ≡ false
held_by_lem true true u' e p = absurd (clash e refl)
held_by_lem true false true e p = refl
held_by_lem true false false e p = refl
held_by_lem false v u' e p = rw (p refl)

module _ (φ : Head → Head) (q : MakesNone φ) where
  mapped_list : (k : Forest) → any_using k ≡ false → any_using (mapped φ k) ≡ false
  unfolding any_using mapped
  mapped_list none e = refl
  mapped_list (more h k r) e =
      let o = or_none (is_using h) (any_using r) e in
      rw (q.no_using h o.0, mapped_list r o.1)

  mapped_identifier : (k : Forest) → binds_identifier (mapped φ k) ≡ binds_identifier k
  unfolding binds_identifier mapped
  mapped_identifier none = refl
  mapped_identifier (more h k r) = rw (q.tag h) (q.identifier h)

  mapped_held : (k : Forest) → held_using k ≡ false → held_using (mapped φ k) ≡ false
  unfolding held_using mapped
  mapped_held none e = refl
  mapped_held (more h₁ k₁ none) e = refl
  mapped_held (more h₁ k₁ (more h₂ k₂ none)) e = refl
  mapped_held (more h₁ k₁ (more h₂ k₂ (more h₃ k₃ r))) e =
      rw (mapped_identifier k₁) (held_by_lem (is_using h₁) (binds_identifier k₁) (is_using (φ h₁)) e (q.no_using h₁))

  -- A TREE WITH SUCH HEADS IS AS QUIET.
  mapped_quiet : (f : Forest) → AllQuiet f → AllQuiet (mapped φ f)
  unfolding AllQuiet Quiet mapped
  mapped_quiet none p = tt
  mapped_quiet (more h k r) p = (
    rw (q.tag h) ((λ e. mapped_list k (p.0.0 e)), (λ e. mapped_held k (p.0.1 e))),
    mapped_quiet k p.1,
    mapped_quiet r p.2,
  )

-- ---- as it is written

or-false : (b : Bool) → b ≡ false → (b || false) ≡ false
or-false b e = rw e

using_by : {t : ℕ} (a b c : ℕ) → Seen (Tag.Declaration ∷ []) t → is_using (hd t a b c) ≡ false → is_using (plain_head (hd t a b c)) ≡ false
unfolding is_using plain_head own_numbers has_children numbers_of
using_by a b c here e = or-false (one_of (Kind.Using ∷ Kind.AwaitUsing ∷ []) a) (or_none (one_of (Kind.Using ∷ Kind.AwaitUsing ∷ []) a) (one_of (Kind.Using ∷ Kind.AwaitUsing ∷ []) b) e).0
using_by a b c (there n other) e = rw n

identifier_by : {t : ℕ} (a b c : ℕ) → Seen (Tag.Declarator ∷ []) t → (eqb t Tag.Declarator && eqb (plain_head (hd t a b c)).a 0) ≡ (eqb t Tag.Declarator && eqb a 0)
unfolding plain_head own_numbers has_children numbers_of
identifier_by a b c here = refl
identifier_by a b c (there n other) = rw n

plain_makes_none : MakesNone plain_head
unfolding plain_head
plain_makes_none =
    record {
      tag = λ h. refl;
      no_using = λ h e. using_by h.a h.b h.c (seen (Tag.Declaration ∷ []) h.tag) e;
      identifier = λ h. identifier_by h.a h.b h.c (seen (Tag.Declarator ∷ []) h.tag);
    }

pub plain_quiet : (f : Forest) → AllQuiet f → AllQuiet (plain f)
plain_quiet f p = mapped_quiet plain_head plain_makes_none f p

-- ---- with its scopes numbered anew

no_declaration : (h : Head) → eqb h.tag Tag.Declaration ≡ false → is_using h ≡ false
unfolding is_using
no_declaration h e = rw e

numbered_using : (h : Head) (s : ℕ) → is_using h ≡ false → is_using (with_scope h s) ≡ false
numbered_using h s e = go (eqb h.tag Tag.Declaration) refl
  where
    go : (b : Bool) → eqb h.tag Tag.Declaration ≡ b → is_using (with_scope h s) ≡ false
    go true d = ap is_using (with_other h s Tag.Declaration refl refl d) ∙ e
    go false d = no_declaration (with_scope h s) (ap (λ (t : ℕ). eqb t Tag.Declaration) (with_tag h s) ∙ d)

numbered_identifier : (h : Head) (s : ℕ) → (eqb h.tag Tag.Declarator && eqb (with_scope h s).a 0) ≡ (eqb h.tag Tag.Declarator && eqb h.a 0)
numbered_identifier h s = go (eqb h.tag Tag.Declarator) refl
  where
    go : (b : Bool) → eqb h.tag Tag.Declarator ≡ b → (b && eqb (with_scope h s).a 0) ≡ (b && eqb h.a 0)
    go true d = ap (λ (x : Head). eqb x.a 0) (with_other h s Tag.Declarator refl refl d)
    go false d = refl

pub numbered_quiet : (new : ℕ → ℕ) (f : Forest) → AllQuiet f → AllQuiet (renumbered_tree new f)
numbered_quiet new f p =
    let φ : Head → Head = λ h. with_scope h (new (scope_of h)) in
    let makes_none : MakesNone φ =
    record {
      tag = λ h. with_tag h (new (scope_of h));
      no_using = λ h e. numbered_using h (new (scope_of h)) e;
      identifier = λ h. numbered_identifier h (new (scope_of h));
    } in
    subst AllQuiet (sym (tree_mapped new f)) (mapped_quiet φ makes_none f p)
