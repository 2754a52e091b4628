-- The hints that the usings of a source ask for, and those with which a lowered tree calls their initializers.
-- Both are sums over a tree. The summands are weights of the names that a Declarator binds, of its initializer and of a letter, and the
-- weights may be chosen freely: two sums that agree for all weights go over the same names, initializers and letters, each as often.
-- Assumes nothing.
use Rattle.std.specs.Prelude.{if◌then◌else◌, List, [], ◌∷◌, ◌++◌, Bool, ◌&&◌, ℕ, zero, suc, ◌+◌, eqb, ltb}
use Rattle.meaning.specs.Numbers.Tag
use Rattle.meaning.specs.Tree.{one_of, Head, Forest, none, more, one, count, row}
use Rattle.meaning.specs.File.{record_numbers}
use Rattle.meaning.specs.Grammar.{expressions}
use Rattle.meaning.specs.Renumbering.{with_scope}
use Rattle.meaning.specs.Hint.{hint_of, letter_of}
use Rattle.meaning.specs.Statements.{is_using}
use Rattle.meaning.specs.ForOf.{binds_identifier}

-- ---- sums

-- over the records of a tree
unfoldable pub sum_over : (Head → Forest → ℕ) → Forest → ℕ
sum_over v none = 0
sum_over v (more h k r) = v h k + (sum_over v k + sum_over v r)

-- the symbols of m Names
unfoldable pub names_of : ℕ → Forest → List ℕ
names_of zero k = []
names_of (suc m) none = []
names_of (suc m) (more h k r) = (if eqb h.tag Tag.Name then h.a else 0) ∷ names_of m r

-- of the initializer that follows m Names, if there is one
unfoldable pub of_initializer : (Head → Forest → ℕ) → ℕ → Forest → ℕ
of_initializer v m none = 0
of_initializer v zero (more h k r) = v h k
of_initializer v (suc m) (more h k r) = of_initializer v m r

-- over the Declarators with an initializer
unfoldable pub over_declarators : (List ℕ → Head → Forest → ℕ) → Forest → ℕ
over_declarators v none = 0
over_declarators v (more h k r) = (if eqb h.tag Tag.Declarator then of_initializer (v (names_of h.b k)) h.b k else 0) + over_declarators v r

-- ---- initializers

abbrev pub is_expression : ℕ → Bool
is_expression t = one_of expressions t

-- The expressions as they are written, record by record: an initializer is told by all that stands in it down to the bodies of functions
-- and to static blocks, which lowering may rewrite, but for the numbers of scopes, which writing gives anew (02, request 9).
unfoldable pub shown : Forest → List ℕ
shown none = []
shown (more h k r) =
    (if is_expression h.tag then h.tag ∷ (record_numbers (row (with_scope h 0) (count k)) ++ shown k) else []) ++ shown r

-- A ForOf's using has no initializer in the source; lowering gives it a Read of a symbol that it makes, so its row is behind the rows read.
unfoldable pub as_in_source : ℕ → List ℕ → List ℕ
as_in_source read [] = []
as_in_source read (t ∷ []) = t ∷ []
as_in_source read (t ∷ y ∷ ns) = if eqb t Tag.Read && ltb read y then [] else (t ∷ y ∷ ns)

-- a weight that takes such a Read for no initializer
abbrev pub of_source : ℕ → (List ℕ → List ℕ → ℕ → ℕ) → List ℕ → List ℕ → ℕ → ℕ
of_source read w = λ names e letter. w names (as_in_source read e) letter

-- ---- in the source

-- the letter of the hint that TC39 gives a declaration
abbrev pub letter_for : Head → ℕ
letter_for h = letter_of (hint_of h.a)

-- the records that stand around usings which are taken up: lists, a Case's among them, and a For around its first child. An exported using is
-- not taken up.
abbrev pub takes_up : ℕ → Bool
takes_up t = one_of (Tag.Program ∷ Tag.Block ∷ Tag.For ∷ Tag.Case ∷ Tag.Body ∷ Tag.StaticBlock ∷ []) t

module _ (w : List ℕ → List ℕ → ℕ → ℕ) where
  -- an initializer that asks for a letter
  abbrev pub wanted : ℕ → List ℕ → Head → Forest → ℕ
  wanted letter = λ names h k. w names (shown (one h k)) letter

  -- the usings that stand directly in a list
  unfoldable pub usings_in : (Head → ℕ) → Forest → ℕ
  usings_in letter none = 0
  usings_in letter (more h k r) =
      (if is_using h then over_declarators (wanted (letter h)) k else 0) + usings_in letter r

  -- the name of a ForOf's using, if it binds an identifier
  unfoldable pub for_of_using : Forest → ℕ
  for_of_using none = 0
  for_of_using (more h₁ k₁ none) = 0
  for_of_using (more h₁ none (more h₂ k₂ r)) = 0
  for_of_using (more h₁ (more d kids s) (more h₂ k₂ none)) = 0
  for_of_using (more h₁ (more d kids s) (more h₂ k₂ (more h₃ k₃ r))) =
      if is_using h₁ && binds_identifier (more d kids s) then w (names_of 1 kids) [] (letter_for h₁) else 0

  -- by a record
  unfoldable pub asks_for : (Head → ℕ) → Head → Forest → ℕ
  asks_for letter h k =
      if takes_up h.tag then usings_in letter k
      else if eqb h.tag Tag.ForOf then for_of_using k
      else 0

  -- WHAT THE SOURCE ASKS FOR: the names and the initializer of each using that is taken up, with the letter of its TC39 hint.
  unfoldable pub asked : Forest → ℕ
  asked tree = sum_over (asks_for letter_for) tree

  -- ---- in the lowered tree

  -- a Call through a context that lowering made: its symbol's row is behind the rows read
  unfoldable pub called : ℕ → List ℕ → Head → Forest → ℕ
  called read names h k = if eqb h.tag Tag.Call && ltb read h.b then w names (shown k) h.a else 0

  -- the Declarations that stand directly in a list
  unfoldable pub calls_in : ℕ → Forest → ℕ
  calls_in read none = 0
  calls_in read (more h k r) = (if eqb h.tag Tag.Declaration then over_declarators (called read) k else 0) + calls_in read r

-- WHAT A TREE CALLS: the names of each Declarator whose initializer lowering has wrapped, with what is wrapped, and the letter of the Call.
unfoldable pub given : (List ℕ → List ℕ → ℕ → ℕ) → ℕ → Forest → ℕ
given w read tree = sum_over (λ h k. calls_in (of_source read w) read k) tree
