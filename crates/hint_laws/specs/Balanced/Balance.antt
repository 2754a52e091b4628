-- What a tree gives and still asks for.
-- Assumes nothing.
use Rattle.std.specs.Prelude.{if◌then◌else◌, List, not, ◌&&◌, ℕ, ◌+◌, eqb}
use Rattle.meaning.specs.Numbers.Tag
use Rattle.meaning.specs.Tree.{Head, Forest, none, more}
use Rattle.meaning.specs.Statements.{is_using, is_await_using, letter_if}
use Rattle.hint_laws.specs.Hints.{sum_over, over_declarators, letter_for, takes_up, of_source, asks_for, called, calls_in}

-- The letter with which a using in a list will be called, by the tag of the list's record: Program's are recorded with their kinds.
unfoldable pub letter_in : ℕ → Head → ℕ
letter_in t h = if eqb t Tag.Program then letter_for h else letter_if (is_await_using h)

module _ (w : List ℕ → List ℕ → ℕ → ℕ) where
  -- what a record still asks for
  unfoldable pub waits : Head → Forest → ℕ
  waits h k = asks_for w (letter_in h.tag) h k

  -- the Declarations in a list that are no usings
  unfoldable pub done_in : ℕ → Forest → ℕ
  done_in read none = 0
  done_in read (more h k r) =
      (if eqb h.tag Tag.Declaration && not (is_using h) then over_declarators (called w read) k else 0) + done_in read r

  -- what a record gives; a using that will be taken up gives nothing yet
  unfoldable pub gives : ℕ → Head → Forest → ℕ
  gives read h k = if takes_up h.tag then done_in read k else calls_in w read k

  unfoldable pub balance_of : ℕ → Forest → ℕ
  balance_of read tree = sum_over (λ h k. waits h k + gives read h k) tree

-- WHAT A TREE GIVES AND STILL ASKS FOR.
unfoldable pub balance : (w : List ℕ → List ℕ → ℕ → ℕ) → ℕ → Forest → ℕ
balance w read tree = balance_of (of_source read w) read tree
