-- The hint that the TC39 Explicit Resource Management proposal gives a declaration, and the letter that it asks for.
-- Assumes nothing.
use Rattle.std.specs.Prelude.{if◌then◌else◌, ℕ, eqb}
use Rattle.meaning.specs.Numbers.Kind
use Rattle.meaning.specs.Numbers.Letter

pub data Hint : Type 0 where
  sync_dispose async_dispose : Hint

-- `using` disposes synchronously, `await using` asynchronously
unfoldable pub hint_of : ℕ → Hint
hint_of kind = if eqb kind Kind.AwaitUsing then async_dispose else sync_dispose

-- `u` adds a resource with the sync hint to a context, `a` one with the async hint
unfoldable pub letter_of : Hint → ℕ
letter_of sync_dispose = Letter.U
letter_of async_dispose = Letter.A
