-- What a text tells: parts round a character, and numbers with a character behind each. Assumes nothing.
use Rattle.std.specs.Prelude.{◌≡◌, ◌<◌, ◌==◌, Bool, List, [], ◌∷◌, ◌++◌, ℕ, ◌+◌, ◌-◌, ◌*◌, min, length, replicate, encode_utf8}
use Rattle.std.specs.List.{position_or_len, before_first, after_first, list_all}
use Rattle.std.specs.Str.Parse.{IsNumeral, digits_value, without_leading_plus}
use Rattle.tables.specs.Columns.RecordTable
use Rattle.tables.specs.Columns.ScopeTable
use Rattle.tables.specs.Columns.SymbolTable
use Rattle.path.specs.declared.Walk.{Walk}
use Rattle.start.specs.Start.{Begun, start_f}
use Rattle.test_lines.specs.declared.memory.Rows.{Rows}

-- the characters that stand between the parts of a line
abbrev pub space : ℕ
space = 32

abbrev pub comma : ℕ
comma = 44

abbrev pub bar : ℕ
bar = 124

-- what an answer with figures begins with: `ok` and a space
abbrev pub fine_prefix : List ℕ
fine_prefix = 111 ∷ 107 ∷ space ∷ []

-- what a refusal begins with: `refused` and a space
abbrev pub refused_prefix : List ℕ
refused_prefix = 114 ∷ 101 ∷ 102 ∷ 117 ∷ 115 ∷ 101 ∷ 100 ∷ space ∷ []

-- what lent memory is filled with before a call
abbrev pub filled_number : ℕ
filled_number = 43981

abbrev pub filled_byte : ℕ
filled_byte = 170

-- so many bytes are allocated for a file, and for its text
abbrev pub large : ℕ
large = 65536

abbrev pub is_byte : ℕ → ℕ → Bool
is_byte c b = b == c

-- such a byte stands in the text
abbrev pub HasByte : ℕ → List ℕ → Type 0
HasByte c text = position_or_len (is_byte c) text < length text

-- the text before the first such byte, and behind it
abbrev pub before : ℕ → List ℕ → List ℕ
before c text = before_first (is_byte c) text

abbrev pub behind : ℕ → List ℕ → List ℕ
behind c text = after_first (is_byte c) text

-- each number of a list is n
abbrev pub all_are : ℕ → List ℕ → Bool
all_are n xs = list_all (λ x. x == n) xs

-- the text is the number n, in decimal digits, leading zeros too, perhaps with a plus before them
abbrev pub IsNumberText : List ℕ → ℕ → Type 0
IsNumberText text n = IsNumeral 10 (without_leading_plus text) × (n ≡ digits_value 10 (without_leading_plus text))

-- the text has these numbers, each with the character c behind it, and then the rest
abbrev pub Tells : ℕ → List ℕ → List ℕ → List ℕ → Type 0
Tells c text [] rest = text ≡ rest
Tells c text (n ∷ ns) rest = (front : List ℕ) × (more : List ℕ) × (text ≡ front ++ encode_utf8 c ++ more) × IsNumberText front n × Tells c more ns rest

-- the text is a refusal with this number and this place
abbrev pub TellsRefusal : List ℕ → ℕ → ℕ → Type 0
TellsRefusal answer number place = (text : List ℕ) × (last : List ℕ) × (answer ≡ refused_prefix ++ text) × Tells space text (number ∷ []) last × IsNumberText last place

-- how many rows a walk has: records before and behind the free rows, scopes and symbols
abbrev pub rows_of_f : Walk → Rows
rows_of_f w =
    record {
      records = min (w.visited.0 + (w.end.0 - w.gap.0)) 65535;
      scopes = w.ctx.scopes;
      symbols = w.ctx.symbols;
    }

-- a file's walk before its first visit, on tables of 512 records, 256 scopes and 256 symbols
unfoldable pub started : List ℕ → Begun
started file = start_f file (replicate (512 * RecordTable.Numbers) 0) (replicate (256 * ScopeTable.Lent) 0) (replicate (256 * SymbolTable.Lent) 0)
