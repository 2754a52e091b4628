-- THE LINES OF A RECORD: of one with the word in its list, and of those around it that are told by their own lists.
-- Assumes nothing.
use Rattle.std.specs.Prelude.{if◌then◌else◌, ◌≡◌, refl, Bool, true, false, ◌||◌, ◌&&◌, List, ℕ, ◌+◌, eqb}
use Rattle.std.proofs.Common.{arith}
use Rattle.meaning.specs.Numbers.Tag
use Rattle.meaning.specs.Tree.{Head, Forest, none, more}
use Rattle.meaning.specs.File.{Symbol}
use Rattle.meaning.specs.Statements.{any_using}
use Rattle.meaning.specs.Contexts.{any_case_using}
use Rattle.meaning.specs.Charges.{ContextKind, total, initializers, wraps, case_wraps, context_lines, own_lines}
use Rattle.spec_laws.specs.Tags.{or_none}
use Rattle.charge_laws.proofs.Fit.ForOf.{no_wraps}
use Rattle.one_word_laws.specs.Changed.{WordChanged, TreeChanged}
use Rattle.one_word_laws.proofs.Alike.{word_using, word_wraps, alike}
use Rattle.one_word_laws.proofs.Items.{items_same}
use Rattle.one_word_laws.proofs.Grown.{Grown, context_grown}

-- Cases without a using wrap nothing
pub no_case_wraps : (f : Forest) → any_case_using f ≡ false → case_wraps f ≡ 0
unfolding any_case_using case_wraps
no_case_wraps none e = refl
no_case_wraps (more h k r) e = go (eqb h.tag Tag.Case) e (no_case_wraps r)
  where
    go : (b : Bool) → (b && any_using k || any_case_using r) ≡ false → (any_case_using r ≡ false → case_wraps r ≡ 0)
        → (if b then wraps k else 0) + case_wraps r ≡ 0
    go true e i = let n = or_none (any_using k) (any_case_using r) e in omega (arith, no_wraps k n.0, i n.1)
    go false e i = omega (arith, i e)

module _ {d : Forest} where
  -- the list with the word
  pub list_grown : (kind : ContextKind) {f f' : Forest} → WordChanged d f f'
      → Grown (initializers d) (total (context_lines kind f)) (total (context_lines kind f'))
  unfolding context_lines
  list_grown kind {f} w =
      rw (word_using w, word_wraps w) (context_grown kind (any_using f) (wraps f) (initializers d) (no_wraps f))

  -- a record around it, but for a Switch and a ForOf
  pub own_same : (ys : List Symbol) (up : ℕ) (h : Head) {k k' : Forest} → TreeChanged d k k'
      → eqb h.tag Tag.ForOf ≡ false → eqb h.tag Tag.Switch ≡ false → own_lines ys up h k ≡ own_lines ys up h k'
  unfolding own_lines context_lines
  own_same ys up h t loop switch =
      let same = alike t in
      rw (loop, switch, same.1, same.2, items_same t)
