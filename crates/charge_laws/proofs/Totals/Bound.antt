-- No counter of a tally exceeds a multiple of its records, so none is capped.
-- Assumes nothing.
use Rattle.std.specs.Prelude.{if◌then◌else◌, ◌≡◌, refl, Bool, true, false, not, ◌&&◌, List, [], ◌∷◌, ℕ, suc, ◌+◌, ◌*◌, ◌≤◌, eqb, ltb}
use Rattle.std.proofs.Common.{arith}
use Rattle.meaning.specs.Numbers.Tag
use Rattle.meaning.specs.Tree.{Head, Forest, none, more, count, size}
use Rattle.meaning.specs.File.{Symbol, field_bytes}
use Rattle.meaning.specs.Statements.{is_using}
use Rattle.figures.specs.declared.tally.Tally.{Tally}
use Rattle.figures.specs.declared.tally.Role.{Role}
use Rattle.figures.specs.declared.tally.Role.TheVariants.{Item, Exported, ExportedName, Held}
use Rattle.figures.specs.Tally.{
  is_role,
  role_of,
  body_of,
  inserts_in,
  one_if,
  takes_up,
  takes_up_cases,
  is_block,
  is_body,
  gets_context,
  is_export,
  ◌⊞◌,
  cap,
  items_kept,
  own,
  tally_of,
}
use Rattle.spec_laws.specs.Tags.{Seen, other, here, there, seen}
use Rattle.spec_laws.specs.Bools.{at_most as if_most}
use Rattle.spec_laws.specs.Trees.{numbers_most}

pub one_most : (b : Bool) → one_if b ≤ 1
one_most true = omega arith
one_most false = omega arith

pub kept_most : (t usings n : ℕ) → items_kept t usings n ≤ n
unfolding items_kept
kept_most t usings n = go (eqb t Tag.Program && eqb usings 0)
  where
    go : (b : Bool) → (if b then 0 else n) ≤ n
    go true = omega arith
    go false = omega arith

-- ---- a field has at most eleven bytes

bytes_most_lem : (t : ℕ) → field_bytes t ≤ 13
unfolding field_bytes
bytes_most_lem t = omega (arith, numbers_most t)

-- ---- the counters of n records

-- An initializer is counted once: by its Declaration, by its Case, or by the context that wraps it.
pub record Small (n : ℕ) (t : Tally) : Type 0 where
  pub records : t.records ≤ n
  pub bytes : t.bytes ≤ 13 * n
  pub blocks : t.blocks ≤ 2 * n
  pub parts : t.parts ≤ 2 * n
  pub wrapped : t.wrapped + t.wraps + t.case_wraps ≤ 2 * n
  pub for_ofs : t.for_ofs ≤ n
  pub for_of_blocks : t.for_of_blocks ≤ n
  pub programs : t.programs ≤ n
  pub classes : t.classes ≤ n
  pub exports : t.exports ≤ n
  pub declarations : t.declarations ≤ n
  pub names : t.names ≤ n
  pub usings : t.usings ≤ n
  pub case_usings : t.case_usings ≤ n

wraps_small : {t : ℕ} (kids : Tally) → Seen (Tag.Declaration ∷ Tag.Switch ∷ Tag.Case ∷ []) t
    → (if takes_up t kids.usings then kids.wraps else 0)
    + (if takes_up_cases t kids.case_usings then kids.case_wraps else 0)
    + (if eqb t Tag.Declaration then kids.wraps else 0)
    + (if eqb t Tag.Case then kids.wraps else 0)
    ≤ kids.wraps + kids.case_wraps
unfolding takes_up takes_up_cases
wraps_small kids here = omega arith
wraps_small kids (there e₅ here) = omega (arith, if_most (not (eqb kids.case_usings 0)) kids.case_wraps)
wraps_small kids (there e₅ (there e₉ here)) = omega arith
wraps_small {t} kids (there e₅ (there e₉ (there e₁₀ other))) =
    rw (e₅, e₉, e₁₀) (omega (arith, if_most (takes_up t kids.usings) kids.wraps))

own_small : (u : Role) (inserts : Bool) (h : Head) (n m : ℕ) (kids : Tally) → Small m kids → Small (suc m) (own u inserts h n kids)
unfolding own
own_small u inserts h n m kids s =
    let t = h.tag in
    let takes = takes_up t kids.usings in
    record {
      records = omega arith;
      bytes = omega (arith, bytes_most_lem t);
      blocks = omega (arith, one_most (takes && is_block u t), one_most (gets_context u inserts kids.usings));
      parts = omega (arith, one_most (takes && not (is_block u t)), one_most (takes_up_cases t kids.case_usings));
      wrapped =
          omega (
            arith,
            wraps_small kids (seen (Tag.Declaration ∷ Tag.Switch ∷ Tag.Case ∷ []) t),
            one_most (is_body u),
            one_most (is_role u Held && eqb t Tag.Declarator && ltb h.b n),
          );
      for_ofs = omega (arith, one_most (is_body u && inserts));
      for_of_blocks = omega (arith, one_most (is_body u && not inserts));
      programs = omega (arith, one_most (takes && eqb t Tag.Program));
      classes = omega (arith, kept_most t kids.usings kids.classes, one_most (is_role u Item && eqb t Tag.Class));
      exports = omega (arith, kept_most t kids.usings kids.exports, one_most (is_export u h));
      declarations = omega (arith, kept_most t kids.usings kids.declarations, one_most (is_role u Exported && eqb t Tag.Declaration));
      names = omega (arith, kept_most t kids.usings kids.names, one_most (is_role u ExportedName && eqb t Tag.Name));
      usings = omega (arith, one_most (is_using h));
      case_usings = omega (arith, if_most (eqb t Tag.Case) kids.usings);
    }

sum_small : (m n : ℕ) (s t : Tally) → Small (suc m) s → Small n t → Small (suc (m + n)) (s ⊞ t)
sum_small m n s t a b = omega arith

-- ROOM. No counter exceeds eleven times the records.
pub tally_small : (as_read : List Symbol) (f : Forest) (ups : ℕ → Role) (i : ℕ) → Small (size f) (tally_of as_read ups i f)
unfolding tally_of size
tally_small as_read none ups i = omega arith
tally_small as_read (more h k r) ups i =
    let below = role_of (ups i) h.tag (is_using h) (body_of k) in
    sum_small (size k) (size r) _ _
    (own_small (ups i) (inserts_in as_read (ups i) h) h (count k) (size k) (tally_of as_read below 0 k) (tally_small as_read k below 0))
    (tally_small as_read r ups (suc i))

-- The records that are counted are all there are.
pub tally_records : (as_read : List Symbol) (f : Forest) (roles : ℕ → Role) (i : ℕ) → (tally_of as_read roles i f).records ≡ size f
unfolding tally_of own size
tally_records as_read none roles i = refl
tally_records as_read (more h k r) roles i =
    omega (arith, tally_records as_read k (role_of (roles i) h.tag (is_using h) (body_of k)) 0, tally_records as_read r roles (suc i))

-- ---- no cap

tally_same : (s t : Tally)
    → (s.records ≡ t.records) × (s.bytes ≡ t.bytes) × (s.blocks ≡ t.blocks) × (s.parts ≡ t.parts) × (s.wrapped ≡ t.wrapped)
    × (s.for_ofs ≡ t.for_ofs) × (s.for_of_blocks ≡ t.for_of_blocks) × (s.programs ≡ t.programs)
    × (s.classes ≡ t.classes) × (s.exports ≡ t.exports) × (s.declarations ≡ t.declarations) × (s.names ≡ t.names)
    × (s.usings ≡ t.usings) × (s.wraps ≡ t.wraps) × (s.case_usings ≡ t.case_usings) × (s.case_wraps ≡ t.case_wraps)
    → s ≡ t
tally_same s t e =
    λ i. record {
      records = e.0 i;
      bytes = e.1 i;
      blocks = e.2 i;
      parts = e.3 i;
      wrapped = e.4 i;
      for_ofs = e.5 i;
      for_of_blocks = e.6 i;
      programs = e.7 i;
      classes = e.8 i;
      exports = e.9 i;
      declarations = e.10 i;
      names = e.11 i;
      usings = e.12 i;
      wraps = e.13 i;
      case_usings = e.14 i;
      case_wraps = e.15 i;
    }

small_cap : (n : ℕ) (t : Tally) → n ≤ 65535 → Small n t → cap t ≡ t
small_cap n t l s = tally_same (cap t) t (omega arith)

-- of as many records as a file may have, no counter is capped
pub tally_cap : (as_read : List Symbol) (f : Forest) (ups : ℕ → Role) (i : ℕ) → size f ≤ 65535
    → cap (tally_of as_read ups i f) ≡ tally_of as_read ups i f
tally_cap as_read f ups i l = small_cap (size f) (tally_of as_read ups i f) l (tally_small as_read f ups i)
