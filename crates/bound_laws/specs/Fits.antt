-- The tree, the scope rows and the symbol rows fit 16 bits all along the walk, and so does what records mention: the bytes of an accepted file
-- pay for what they weigh.
-- Assumes nothing.
use Rattle.std.specs.Prelude.{Ok, if◌then◌else◌, ◌≡◌, refl, Bool, true, false, ◌||◌, ◌&&◌, List, [], ◌∷◌, ◌++◌, ℕ, ◌+◌, ◌*◌, ◌≤◌, length, eqb}
use Rattle.std.proofs.Common.{arith}
use Rattle.meaning.specs.Numbers.Tag
use Rattle.meaning.specs.Numbers.Kind
use Rattle.meaning.specs.Tree.{one_of, Head, Forest, none, more, size, Row, flatten}
use Rattle.meaning.specs.File.{settings_bytes, File, field_bytes, numbers_of}
use Rattle.meaning.specs.Reading.{read_file}
use Rattle.meaning.specs.Statements.{is_using}
use Rattle.meaning.specs.Walk.{store_of, start, visits, tree_at, store_at}
use Rattle.meaning.specs.Charges.{record_bytes}
use Rattle.spec_laws.specs.Tags.{Seen, other, here, there, seen}
use Rattle.charge_laws.proofs.Totals.Fits.{declarators, Sound, accepted_room}
use Rattle.bound_laws.specs.Rows.{given, RowKind, records, scopes, symbols, mentioned, per_record, per_scope, per_symbol, per_mention, rows}
use Rattle.bound_laws.specs.Weights.{
  Role,
  plain,
  item,
  first,
  exported,
  declarator,
  name,
  held,
  next,
  in_declaration,
  in_declarator,
  below,
  mentions_one,
  context,
  extra,
  own,
  weigh,
}
use Rattle.bound_laws.specs.Visits.{walk_within}
use Rattle.spec_laws.specs.Trees.{count_size as count_most}

-- ---- what the record around it pays: at a ForOf's first child

debt : Role → ℕ
debt plain = 0
debt item = 0
debt first = 4
debt exported = 0
debt declarator = 0
debt name = 0
debt held = 0

next_debt : (r : Role) → debt (next r) ≡ 0
unfolding next debt
next_debt plain = refl
next_debt item = refl
next_debt first = refl
next_debt exported = refl
next_debt declarator = refl
next_debt name = refl
next_debt held = refl

if_debt : (u : Bool) → debt (if u then held else plain) ≡ 0
unfolding debt
if_debt true = refl
if_debt false = refl

declaration_debt : (r : Role) (u : Bool) → debt (in_declaration r u) ≡ 0
unfolding in_declaration debt
declaration_debt plain u = if_debt u
declaration_debt item u = if_debt u
declaration_debt first u = if_debt u
declaration_debt exported u = refl
declaration_debt declarator u = if_debt u
declaration_debt name u = if_debt u
declaration_debt held u = if_debt u

declarator_debt : (r : Role) → debt (in_declarator r) ≡ 0
unfolding in_declarator debt
declarator_debt plain = refl
declarator_debt item = refl
declarator_debt first = refl
declarator_debt exported = refl
declarator_debt declarator = refl
declarator_debt name = refl
declarator_debt held = refl

below_debt : {t : ℕ} (r : Role) (u : Bool) → Seen (Tag.Program ∷ Tag.Declaration ∷ Tag.Declarator ∷ Tag.ForOf ∷ Tag.ExportedDeclaration ∷ []) t → debt (below r t u) ≤ 4 * given (eqb t Tag.ForOf) 1
unfolding below debt
below_debt r u here = omega arith
below_debt r u (there e₁ here) = omega (arith, declaration_debt r u)
below_debt r u (there e₁ (there e₅ here)) = omega (arith, declarator_debt r)
below_debt r u (there e₁ (there e₅ (there e₆ here))) = omega arith
below_debt r u (there e₁ (there e₅ (there e₆ (there e₈ here)))) = omega arith
below_debt r u (there e₁ (there e₅ (there e₆ (there e₈ (there e₁₉ other))))) = rw (e₁, e₅, e₆, e₈, e₁₉) (omega arith)

-- ---- what a record weighs, at most

one_kind : (K : RowKind) → per_record K + per_scope K + per_symbol K + per_mention K ≡ 1
unfolding per_record per_scope per_symbol per_mention
one_kind records = refl
one_kind scopes = refl
one_kind symbols = refl
one_kind mentioned = refl

times : (b : Bool) (m n : ℕ) → m ≤ n → given b m ≤ n * given b 1
times true m n l = omega arith
times false m n l = omega arith

given_most : (b : Bool) (n : ℕ) → given b n ≤ n
given_most true n = omega arith
given_most false n = omega arith

one_most : (b : Bool) → given b 1 ≤ 1
one_most b = given_most b 1

abbrev extra_most : ℕ → Bool → ℕ
extra_most t u = given u 1 + 4 * given (eqb t Tag.Class) 1 + 4 * given (eqb t Tag.DefaultExport) 1 + given (eqb t Tag.Name) 1 + given (eqb t Tag.Declarator) 1

extra_most_lem : (K : RowKind) (r : Role) (t : ℕ) (u : Bool) → extra K r t u ≤ extra_most t u + debt r
unfolding extra debt
extra_most_lem K plain t u = omega arith
extra_most_lem K item t u =
    let o = one_kind K in
    omega (
      arith,
      times u (per_record K + per_scope K) 1 (omega arith),
      times (eqb t Tag.Class) (3 * per_record K + per_symbol K + per_mention K) 4 (omega arith),
      times (eqb t Tag.DefaultExport) (4 * per_record K + per_symbol K + 2 * per_mention K) 4 (omega arith),
    )
extra_most_lem K first t u =
    let o = one_kind K in
    omega (arith, times u (5 * per_record K + per_scope K + per_symbol K + 3 * per_mention K) 5 (omega arith), one_most u)
extra_most_lem K exported t u =
    let o = one_kind K in
    omega (arith, times (eqb t Tag.Class) (4 * per_record K + per_symbol K + 2 * per_mention K) 4 (omega arith))
extra_most_lem K declarator t u = let o = one_kind K in omega (arith, times (eqb t Tag.Declarator) (per_record K + per_mention K) 1 (omega arith))
extra_most_lem K name t u = let o = one_kind K in omega (arith, times (eqb t Tag.Name) (per_record K + per_mention K) 1 (omega arith))
extra_most_lem K held t u = let o = one_kind K in omega (arith, times (eqb t Tag.Declarator) (per_record K + per_mention K) 1 (omega arith))

one_first : (b c : Bool) → given (b && c) 1 ≤ given b 1
one_first true c = one_most c
one_first false c = omega arith

using_tag : (h : Head) → given (is_using h) 1 ≤ given (eqb h.tag Tag.Declaration) 1
unfolding is_using
using_tag h = one_first (eqb h.tag Tag.Declaration) (one_of (Kind.Using ∷ Kind.AwaitUsing ∷ []) h.a || one_of (3 ∷ 4 ∷ []) h.b)

-- ---- what its bytes pay, and a Declaration's Declarator

tag_paid : {t : ℕ} → Seen (Tag.Declaration ∷ Tag.Declarator ∷ Tag.ForOf ∷ Tag.Class ∷ Tag.DefaultExport ∷ Tag.Name ∷ Tag.Step ∷ []) t
    → 1 + 13 * given (eqb t Tag.Declaration) 1 + 8 * given (eqb t Tag.Declarator) 1 + 4 * given (eqb t Tag.ForOf) 1 + 4 * given (eqb t Tag.Class) 1 + 4 * given (eqb t Tag.DefaultExport) 1
    + given (eqb t Tag.Name) 1 + 2 * given (eqb t Tag.Step) 1
    ≤ field_bytes t + 7 * given (eqb t Tag.Declaration) 1
unfolding field_bytes numbers_of
tag_paid here = omega arith
tag_paid (there e₅ here) = omega arith
tag_paid (there e₅ (there e₆ here)) = omega arith
tag_paid (there e₅ (there e₆ (there e₈ here))) = omega arith
tag_paid (there e₅ (there e₆ (there e₈ (there e₁₅ here)))) = omega arith
tag_paid (there e₅ (there e₆ (there e₈ (there e₁₅ (there e₁₈ here))))) = omega arith
tag_paid (there e₅ (there e₆ (there e₈ (there e₁₅ (there e₁₈ (there e₂₆ here)))))) = omega arith
tag_paid (there e₅ (there e₆ (there e₈ (there e₁₅ (there e₁₈ (there e₂₆ (there e₂₉ other))))))) = rw (e₅, e₆, e₈, e₁₅, e₁₈, e₂₆, e₂₉) (omega arith)

own_paid : (K : RowKind) (r : Role) (h : Head) (d : ℕ) → given (eqb h.tag Tag.Declaration) 1 ≤ d
    → own K r h.tag (is_using h) + 7 * given (eqb h.tag Tag.Declarator) 1 + debt (below r h.tag (is_using h)) ≤ field_bytes h.tag + 7 * d + debt r
unfolding own
own_paid K r h d l =
    let t = h.tag in
    let u = is_using h in
    let o = one_kind K in
    omega (
      arith,
      given_most (mentions_one t) (per_mention K),
      times (eqb t Tag.Step) (2 * per_mention K) 2 (omega arith),
      times u (context K) 12 (omega arith),
      extra_most_lem K r t u,
      below_debt r u (seen (Tag.Program ∷ Tag.Declaration ∷ Tag.Declarator ∷ Tag.ForOf ∷ Tag.ExportedDeclaration ∷ []) t),
      tag_paid (seen (Tag.Declaration ∷ Tag.Declarator ∷ Tag.ForOf ∷ Tag.Class ∷ Tag.DefaultExport ∷ Tag.Name ∷ Tag.Step ∷ []) t),
      using_tag h,
    )

-- PAID. A forest weighs no more than its bytes.
paid : (K : RowKind) (r : Role) (f : Forest) → Sound f → weigh K r f + 7 * declarators f ≤ record_bytes f + debt r
unfolding weigh record_bytes declarators
paid K r none s = omega arith
paid K r (more h k f) s =
    omega (
      arith,
      own_paid K r h (declarators k) s.0,
      next_debt r,
      paid K (below r h.tag (is_using h)) k s.2,
      paid K (next r) f s.3,
    )

-- each record counts itself
size_most : (r : Role) (f : Forest) → size f ≤ weigh records r f
unfolding size weigh own per_record
size_most r none = omega arith
size_most r (more h k f) = omega (arith, size_most (below r h.tag (is_using h)) k, size_most (next r) f)

-- THE ROOM. After any number of visits of an accepted file's walk, the tree, the scope rows and the symbol rows fit 16 bits.
pub walk_fits : (b : List ℕ) (f : File) (k : ℕ) → read_file b ≡ Ok f
    → let s = visits k (start f) in
    (size (tree_at s) ≤ 65535) × (length (store_at s).scopes ≤ 65535) × (length (store_at s).symbols ≤ 65535)
unfolding rows store_of debt
walk_fits b f k e =
    let s = visits k (start f) in
    let r = accepted_room b f e in
    omega (
      arith,
      r.bytes,
      size_most plain (tree_at s),
      walk_within records k f,
      walk_within scopes k f,
      walk_within symbols k f,
      paid records plain f.tree r.sound,
      paid scopes plain f.tree r.sound,
      paid symbols plain f.tree r.sound,
    )

-- What records mention weighs less than the file's bytes, by those of the settings.
pub mentioned_room : (b : List ℕ) (f : File) (k : ℕ) → read_file b ≡ Ok f
    → settings_bytes + weigh mentioned plain (tree_at (visits k (start f))) ≤ 65535
unfolding rows debt
mentioned_room b f k e =
    let r = accepted_room b f e in
    omega (arith, r.bytes, walk_within mentioned k f, paid mentioned plain f.tree r.sound)

-- ---- and so does every n

abbrev pub AtMost : ℕ → List Row → Type 0
AtMost b [] = Unit {0}
AtMost b (r ∷ rs) = (r.n ≤ b) × AtMost b rs

most_++ : (b : ℕ) (rs qs : List Row) → AtMost b rs → AtMost b qs → AtMost b (rs ++ qs)
most_++ b [] qs e d = d
most_++ b (r ∷ rs) qs e d = (e.0, most_++ b rs qs e.1 d)

pub rows_most_n : (b : ℕ) (f : Forest) → size f ≤ b → AtMost b (flatten f)
unfolding flatten size
rows_most_n b none e = tt
rows_most_n b (more h k r) e = (
  omega (arith, count_most k),
  most_++ b (flatten k) (flatten r) (rows_most_n b k (omega arith)) (rows_most_n b r (omega arith)),
)

pub n_fits : (b : List ℕ) (f : File) (k : ℕ) → read_file b ≡ Ok f → AtMost 65535 (flatten (tree_at (visits k (start f))))
n_fits b f k e = rows_most_n 65535 (tree_at (visits k (start f))) (walk_fits b f k e).0
