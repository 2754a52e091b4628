-- The row of a Declaration that becomes var.
-- Assumes nothing.
use Rattle.std.specs.Prelude.{if◌then◌else◌, ◌≡◌, refl, Bool, true, false, ℕ}
use Rattle.meaning.specs.Numbers.Tag
use Rattle.meaning.specs.Numbers.Kind
use Rattle.meaning.specs.Tree.{Head, hd}
use Rattle.meaning.specs.Statements.{is_using}
use Rattle.tables.specs.Table.{closed_row_f}
use Rattle.representation.specs.Gap.Cells.{line}
use Rattle.rewrite_items.specs.Items.{recorded_f}

pub recorded_row : (h : Head) (n : ℕ) → recorded_f (line h n) ≡ line (hd Tag.Declaration Kind.Var (if is_using h then h.a else 0) 0) n
unfolding recorded_f
recorded_row h n = by (is_using h)
  where
    by : (c : Bool) → (if c then closed_row_f 5 0 h.a 0 n else closed_row_f 5 0 0 0 n) ≡ line (hd Tag.Declaration Kind.Var (if c then h.a else 0) 0) n
    by true = refl
    by false = refl
