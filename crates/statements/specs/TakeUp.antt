-- Usings taken up by a context, as their rows pass.
-- Assumes nothing.
use Rattle.std.specs.Prelude.{if◌then◌else◌, Bool, ◌&&◌, ℕ, ◌-◌, eqb, ltb}
use Rattle.meaning.specs.Numbers.Tag
use Rattle.meaning.specs.Numbers.Kind
use Rattle.meaning.specs.Statements.{is_using, is_await_using, letter_if}
use Rattle.tables.specs.Loops.{turns}
use Rattle.tables.specs.Table.{row_f, closed_row_f, head_f}
use Rattle.tables.specs.Stream.{Buf, emit_f, replace_row_f, copy_row_f, copy_f}
use Rattle.tables.specs.declared.Row.{Row}

-- a Declarator with more children than Names
unfoldable pub has_initializer_f : Row → Bool
has_initializer_f r = eqb r.tag Tag.Declarator && ltb r.b r.n

unfoldable pub take_up_declarator_f : ℕ → ℕ → Buf → Buf
take_up_declarator_f letter context b =
    let r = row_f b.t b.read in
    let b₁ = copy_row_f b in
    if has_initializer_f r then copy_f (emit_f (copy_f b₁ r.b) (closed_row_f Tag.Call letter context 0 1)) (r.n - r.b) else copy_f b₁ r.n

unfoldable pub take_up_declarators_f : ℕ → ℕ → ℕ → Buf → Buf
take_up_declarators_f n letter context b = turns n (take_up_declarator_f letter context) b

-- a using becomes const; a recorded one is var already, and loses its mark
unfoldable pub as_const_f : Row → Row
as_const_f r = if eqb r.b 0 then closed_row_f Tag.Declaration Kind.Const 0 0 r.n else closed_row_f Tag.Declaration Kind.Var 0 0 r.n

-- an item of a list: a using is taken up with the letter of its own kind
unfoldable pub take_up_item_f : ℕ → Buf → Buf
take_up_item_f context b =
    let r = row_f b.t b.read in
    let letter = letter_if (is_await_using (head_f r)) in
    if is_using (head_f r) then take_up_declarators_f r.n letter context (replace_row_f b (as_const_f r)) else copy_f b 1

unfoldable pub take_up_f : ℕ → ℕ → Buf → Buf
take_up_f n context b = turns n (take_up_item_f context) b
