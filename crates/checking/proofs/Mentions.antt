-- The counters behind the pass over the records of a tree that was read: how often these name each symbol.
-- Assumes nothing.
use Rattle.std.specs.Prelude.{if◌then◌else◌}
use mathlib.Core.Path.{◌≡◌, refl, sym, ap, ◌∙◌}
use mathlib.Core.List.{List, [], ◌∷◌}
use Prim.Native.Nat.{ℕ, zero, suc, ◌+◌, ◌≤◌, ◌<◌}
use native.Mathlib.Omega.{arith}
use lib.Dec.{eqb}
use lib.ListN.{length, replicate}
use Rattle.meaning.specs.Numbers.Tag
use Rattle.meaning.specs.Tree.{Head, hd, Forest, size}
use Rattle.meaning.specs.File.{numbers_of, has_children, own_numbers, symbol_bytes}
use Rattle.meaning.specs.Mentions.{first_named, second_named, mentions}
use Rattle.meaning.specs.Grammar.{two, field_of, head_of}
use Rattle.meaning.specs.Reading.{wrong_count}
use Rattle.meaning.specs.declared.Place.{Place}
use Rattle.meaning.specs.declared.Field.{Field}
use Rattle.spec_laws.specs.Tags.{Seen, other, here, there, seen}
use Rattle.parsing.specs.Parsed.{RecordAt, Parsed, parsed_none, parsed_more}
use Rattle.parsing.specs.Counts.{parsed_bytes, parsed_ends, size_bytes}
use Rattle.tables.specs.Loops.{turns, turns_more}
use Rattle.mentions.specs.Counters.{add_record_f}
use Rattle.mentions.specs.Sums.{heads_of, all, all_++, two_a_record, counts_from, count_at, counts_length, counted_tree}
use Rattle.checking.specs.declared.Layout.{Layout}
use Rattle.checking.specs.Flat.{Counting, counting, next_count, count_f, wrong_in, wrong_f}
use Rattle.checking.proofs.Counts.{counters}

-- ---- one record

-- the tags of the records that name a symbol
abbrev naming_tags : List ℕ
naming_tags = Tag.Function ∷ Tag.Class ∷ Tag.Specifier ∷ Tag.Read ∷ Tag.Name ∷ Tag.Call ∷ Tag.Load ∷ Tag.Step ∷ []

abbrev SameNames : Head → Head → Type 0
SameNames h g = (first_named h ≡ first_named g) × (second_named h ≡ second_named g)

-- the numbers of a field name what the record's own numbers do
names_of_lem : {t : ℕ} (a b c d next : ℕ) → Seen naming_tags t
    → SameNames (hd t a b c) (head_of (record { tag = t; a = a; b = b; c = c; d = d; next = next }))
unfolding first_named second_named head_of own_numbers has_children numbers_of
names_of_lem a b c d next here = (refl, refl)
names_of_lem a b c d next (there e₁ here) = (refl, refl)
names_of_lem a b c d next (there e₁ (there e₂ here)) = (refl, refl)
names_of_lem a b c d next (there e₁ (there e₂ (there e₃ here))) = (refl, refl)
names_of_lem a b c d next (there e₁ (there e₂ (there e₃ (there e₄ here)))) = (refl, refl)
names_of_lem a b c d next (there e₁ (there e₂ (there e₃ (there e₄ (there e₅ here))))) = (refl, refl)
names_of_lem a b c d next (there e₁ (there e₂ (there e₃ (there e₄ (there e₅ (there e₆ here)))))) = (refl, refl)
names_of_lem a b c d next (there e₁ (there e₂ (there e₃ (there e₄ (there e₅ (there e₆ (there e₇ here))))))) = (refl, refl)
names_of_lem a b c d next (there e₁ (there e₂ (there e₃ (there e₄ (there e₅ (there e₆ (there e₇ (there e₈ other)))))))) =
    (rw (e₁, e₂, e₃, e₄, e₅, e₆, e₇, e₈), rw e₈)

names_are : (x : Field) → SameNames (hd x.tag x.a x.b x.c) (head_of x)
names_are x = names_of_lem x.a x.b x.c x.d x.next (seen naming_tags x.tag)

added_same : (t : List ℕ) (h g : Head) → SameNames h g → add_record_f t h ≡ add_record_f t g
unfolding add_record_f
added_same t h g e = rw (e.0, e.1)

-- ---- the records

module _ {f : List ℕ} {syms : ℕ} where
  count_one : {p : Place} {cur at : ℕ} {m : List ℕ} {h : Head} {k : Forest} (c : List ℕ) → RecordAt f syms p cur at m h k
      → next_count f (counting c at) ≡ counting (add_record_f c h) (field_of f at).next
  unfolding next_count
  count_one {at = at} {h = h} c y =
      let x = field_of f at in
      ap (λ (t : List ℕ). counting t x.next)
      (added_same c _ _ (names_are x) ∙ ap (add_record_f c) (sym y.head))

  -- A TURN FOR EACH RECORD of a tree that was read adds them all, and ends behind them.
  pub count_parsed : {place : ℕ → Place} {i cur at next : ℕ} {m o : List ℕ} {t : Forest} (c : List ℕ)
      → Parsed f syms place i cur at m t next o → turns (size t) (next_count f) (counting c at) ≡ counting (all add_record_f c (heads_of t)) next
  unfolding size heads_of all turns
  count_parsed c parsed_none = refl
  count_parsed c (parsed_more {next = last} {h = h} {k = kids} {r = beside} y k r) =
      let c₁ = add_record_f c h in
      ap (turns (size kids + size beside) (next_count f)) (count_one c y)
      ∙ turns_more (size kids) (size beside) (next_count f) _
      ∙ ap (turns (size beside) (next_count f)) (count_parsed c₁ k)
      ∙ count_parsed (all add_record_f c₁ (heads_of kids)) r
      ∙ ap (λ (t : List ℕ). counting t last) (sym (all_++ add_record_f c₁ (heads_of kids) (heads_of beside)))

-- ---- the counters

module _ {f : List ℕ} {syms : ℕ} {place : ℕ → Place} {i cur at next : ℕ} {m o : List ℕ} {t : Forest}
    (small : length f ≤ 65535) (inside : at ≤ length f) (tree : Parsed f syms place i cur at m t next o) where
  -- not more than two for three bytes
  few_mentions : (y : ℕ) → mentions y t ≤ 65535
  few_mentions y = omega (arith, two_a_record y t, size_bytes t, parsed_bytes tree, parsed_ends tree inside)

  counted_is : (n : ℕ) → count_f f (size t) at (replicate n 0) ≡ counts_from (λ y. mentions y t) n 1
  unfolding count_f
  counted_is n = ap (λ (s : Counting). s.t) (count_parsed (replicate n 0) tree) ∙ counted_tree t n (λ y _. few_mentions y)

  counted_length : (n : ℕ) → length (count_f f (size t) at (replicate n 0)) ≡ n
  counted_length n = ap length (counted_is n) ∙ counts_length (λ y. mentions y t) n 1

  counted_at : (n y : ℕ) → 1 ≤ y → y ≤ n → counters (count_f f (size t) at (replicate n 0)) y ≡ mentions y t
  counted_at n y some in_table = ap (λ (c : List ℕ). counters c y) (counted_is n) ∙ count_at (λ y. mentions y t) n y some in_table

  -- ---- the lowest wrong count

  same_wrong : (c d : ℕ → ℕ) (n y p : ℕ) → ((j : ℕ) → y ≤ j → j < y + n → c j ≡ d j) → wrong_count f c n y p ≡ wrong_count f d n y p
  unfolding wrong_count
  same_wrong c d zero y p e = refl
  same_wrong c d (suc n) y p e =
      ap (λ (v : ℕ). if eqb (two f (p + 11)) v then 1 + wrong_count f c n (suc y) (p + symbol_bytes) else 0) (e y (omega arith) (omega arith))
      ∙ ap (λ (w : ℕ). if eqb (two f (p + 11)) (d y) then 1 + w else 0)
      (same_wrong c d n (suc y) (p + symbol_bytes) (λ j a b. e j (omega arith) (omega arith)))

  -- THE LOWEST ROW whose fifth number is not its counter is the lowest one with a wrong count.
  pub wrong_is : (l : Layout) → l.records ≡ size t → l.tree ≡ at
      → wrong_f f l ≡ wrong_count f (λ y. mentions y t) l.symbols 1 l.first
  unfolding wrong_f wrong_in
  wrong_is l records from =
      let n = l.symbols in
      rw (records, from, counted_length n)
      (same_wrong (counters (count_f f (size t) at (replicate n 0))) (λ y. mentions y t) n 1 l.first
      (λ j a b. counted_at n j a (omega arith)))
