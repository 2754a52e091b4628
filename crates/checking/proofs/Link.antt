-- What the check computes is what the reader answers, with the tally of its tree in place of the tree.
-- Assumes nothing.
use Rattle.meaning.specs.declared.Reason.TheVariants as Reason
use Rattle.meaning.specs.Refusals.{Outcome}
use Rattle.std.specs.Prelude.{Ok, Err}
use mathlib.Core.Path.{◌≡◌, refl, sym, ap, ◌∙◌}
use mathlib.Core.Bool.{Bool, true, false, ◌&&◌}
use mathlib.Core.List.{List}
use Prim.Native.Nat.{ℕ, zero, suc, ◌+◌, ◌*◌}
use native.Mathlib.Omega.{arith}
use lib.Dec.{eqb, leb}
use Rattle.meaning.specs.Numbers.Tag
use Rattle.meaning.specs.Tree.{Head, Forest, more, count}
use Rattle.meaning.specs.File.{Symbol, numbers_of, has_children, own_numbers}
use Rattle.meaning.specs.Grammar.{
  field_at,
  right,
  scope_of,
  below,
  children_of,
  place_of,
  head_of,
  may_name,
  naming,
}
use Rattle.meaning.specs.Reading.{
  ◌>>=◌,
  ◌>>◌,
  ensure,
  Records,
  symbols_in,
  read_list,
  read_forest,
}
use Rattle.meaning.specs.Statements.{is_using}
use Rattle.meaning.specs.declared.Place.{Place}
use Rattle.meaning.specs.declared.Place.TheVariants.{ForOfLeft}
use Rattle.meaning.specs.declared.Field.{Field}
use Rattle.parsing.specs.Parsed.{Parsed}
use Rattle.parsing.specs.Records.{forest_parsed}
use Rattle.figures.specs.Tally.{role_of, body_of, body_role, inserts_in, no_tally, ◌⊞◌, cap, own, tally_of}
use Rattle.figures.specs.declared.tally.Tally.{Tally}
use Rattle.figures.specs.declared.tally.Role.{Role}
use Rattle.checking.specs.Flat.{Entered, Past, enter_f, ups_f, add_f, list_f, record_f}
use Rattle.checking.proofs.Cap.{⊞-assoc, none_⊞, ⊞-none, add_cap}
use Rattle.checking.proofs.Body.{is_eq, and_inv, body_is}

-- ---- what an accepted list of children tells

-- only a ForOf looks at what its body is
ups_same : (u : Role) (t : ℕ) (held : Bool) (b₁ b₂ : Role) (is : Bool) → eqb t Tag.ForOf ≡ is → (eqb t Tag.ForOf ≡ true → b₁ ≡ b₂) → role_of u t held b₁ ≡ role_of u t held b₂
unfolding role_of
ups_same u t held b₁ b₂ true e h = ap (role_of u t held) (h e)
ups_same u t held b₁ b₂ false e h = λ i k. pointwise k i
  where
    pointwise : (k : ℕ) → role_of u t held b₁ k ≡ role_of u t held b₂ k
    pointwise k = rw e

-- a ForOf has three children, and a Declaration or an expression first
for_of_kids : (p : Place) (syms : ℕ) (x : Field) → x.tag ≡ Tag.ForOf → right p syms x ≡ true → children_of x ≡ 3
unfolding right children_of numbers_of has_children own_numbers
for_of_kids p syms x t e = rw t (is_eq x.c 3 (and_inv (leb 1 x.a && leb x.b 1) (eqb x.c 3) (rw t at e)).1)

for_of_place : (p : Place) (x : Field) → x.tag ≡ Tag.ForOf → place_of p x 0 ≡ ForOfLeft
unfolding place_of
for_of_place p x t = rw t

-- what the children of a record are to it, in the bytes and in the tree
ups_are : (f : List ℕ) (syms : ℕ) (p : Place) (u : Role) (x : Field) {cur next : ℕ} {m o : List ℕ} {t : Forest} → right p syms x ≡ true
    → count t ≡ children_of x → Parsed f syms (place_of p x) 0 cur x.next m t next o
    → role_of u x.tag (is_using (head_of x)) (body_of t) ≡ ups_f f u x
ups_are f syms p u x {t = t} r n k =
    ups_same u x.tag (is_using (head_of x)) (body_of t) (body_role f x.next) (eqb x.tag Tag.ForOf) refl (λ e.
    let tag = is_eq x.tag Tag.ForOf e in
    body_is (for_of_place p x tag) (omega (arith, n, for_of_kids p syms x tag r)) k)

-- ---- answers

abbrev pub forget : List Symbol → (ℕ → Role) → ℕ → Tally → Outcome Records → Outcome Past
forget ys ups k t (Ok r) = Ok (record { next = r.next; marks = r.marks; tally = cap (t ⊞ tally_of ys ups k r.forest) })
forget ys ups k t (Err r) = Err r

abbrev join : Head → Records → Records → Records
join h k b = record { forest = more h k.forest b.forest; next = b.next; marks = b.marks }

-- a record's own tally, from the tree
abbrev own_in : List Symbol → Role → Head → Forest → Tally
own_in ys u h kids = own u (inserts_in ys u h) h (count kids) (tally_of ys (role_of u h.tag (is_using h) (body_of kids)) 0 kids)

module _ (ys : List Symbol) (ups : ℕ → Role) (k : ℕ) (t : Tally) where
  joined : (h : Head) (kids : Records) (o : Outcome Records)
      → forget ys ups k t (o >>= (λ b. Ok (join h kids b))) ≡ forget ys ups (suc k) (t ⊞ own_in ys (ups k) h kids.forest) o
  unfolding tally_of
  joined h kids (Ok b) =
      ap (λ (s : Tally). Ok (record { next = b.next; marks = b.marks; tally = cap s }))
      (sym (⊞-assoc t (own_in ys (ups k) h kids.forest) (tally_of ys ups (suc k) b.forest)))
  joined h kids (Err r) = refl

  -- `added` adds the record to the tally before it, from the tally of its children
  after_kids : (h : Head) (ups_in : ℕ → Role) (o : Outcome Records) (o_f : Outcome Past) (added : Tally → Tally)
      (rest : Records → Outcome Records) (rest_f : Past → Outcome Past)
      → forget ys ups_in 0 no_tally o ≡ o_f
      → ((kids : Records) → o ≡ Ok kids → cap (t ⊞ own_in ys (ups k) h kids.forest) ≡ added (cap (no_tally ⊞ tally_of ys ups_in 0 kids.forest)))
      → ((kids : Records) → forget ys ups (suc k) (t ⊞ own_in ys (ups k) h kids.forest) (rest kids)
      ≡ rest_f (record { next = kids.next; marks = kids.marks; tally = cap (t ⊞ own_in ys (ups k) h kids.forest) }))
      → forget ys ups k t (o >>= (λ kids. rest kids >>= (λ b. Ok (join h kids b))))
      ≡ o_f >>= (λ q. Ok (record { next = q.next; marks = q.marks; tally = added q.tally })) >>= rest_f
  after_kids h ups_in (Ok kids) o_f added rest rest_f e a i =
      joined h kids (rest kids)
      ∙ i kids
      ∙ ap (λ (s : Tally). rest_f (record { next = kids.next; marks = kids.marks; tally = s })) (a kids refl)
      ∙ ap (λ (q : Outcome Past). q >>= (λ q. Ok (record { next = q.next; marks = q.marks; tally = added q.tally })) >>= rest_f) e
  after_kids h ups_in (Err r) o_f added rest rest_f e a i =
      ap (λ (q : Outcome Past). q >>= (λ q. Ok (record { next = q.next; marks = q.marks; tally = added q.tally })) >>= rest_f) e

  after_tests : (b₁ b₂ : Bool) (at : ℕ) (e : Entered) (o : Outcome Records) (kids_f : Entered → Outcome Past) (rest_f : Past → Outcome Past)
      → (b₁ ≡ true → forget ys ups k t o ≡ kids_f e >>= rest_f)
      → forget ys ups k t (ensure b₁ Reason.WrongNumber at >> (ensure b₂ Reason.WrongNumber at >> o))
      ≡ (ensure b₁ Reason.WrongNumber at >> (ensure b₂ Reason.WrongNumber at >> Ok e)) >>= kids_f >>= rest_f
  after_tests true true at e o kids_f rest_f h = h refl
  after_tests true false at e o kids_f rest_f h = refl
  after_tests false b₂ at e o kids_f rest_f h = refl

  after_field : (r : Outcome Field) (g : Field → Outcome Records) (g_f : Field → Outcome Entered) (kids_f : Entered → Outcome Past) (rest_f : Past → Outcome Past)
      → ((x : Field) → forget ys ups k t (g x) ≡ g_f x >>= kids_f >>= rest_f)
      → forget ys ups k t (r >>= g) ≡ r >>= g_f >>= kids_f >>= rest_f
  after_field (Ok x) g g_f kids_f rest_f h = h x
  after_field (Err r) g g_f kids_f rest_f h = refl

-- ---- lists

abbrev Inside : Type 0
Inside = Place → Field → ℕ → List ℕ → Outcome Records

abbrev InsideF : Type 0
InsideF = Place → Role → ℕ → Entered → Outcome Past

module _ (f : List ℕ) (scopes syms : ℕ) where
  abbrev pub as_read : List Symbol
  as_read = symbols_in f syms (7 + 7 * scopes)

  -- one record by `enter_f` and what its children answer
  abbrev one_f : InsideF → Place → Role → ℕ → Tally → ℕ → List ℕ → Outcome Past
  one_f inside_f p u cur t at m =
      enter_f f syms p cur at m >>= (λ e.
      inside_f p u cur e >>= (λ q.
      Ok (record { next = q.next; marks = q.marks; tally = add_f f scopes syms u e.field t q.tally })))

  -- the record's own tally, from the tree and in the code
  Sums : Inside → Type 0
  Sums inside =
      (p : Place) (u : Role) (x : Field) (cur : ℕ) (m : List ℕ) (t : Tally) (kids : Records)
      → right p syms x ≡ true
      → inside p x cur m ≡ Ok kids
      → cap (t ⊞ own_in as_read u (head_of x) kids.forest)
      ≡ add_f f scopes syms u x (cap t) (cap (no_tally ⊞ tally_of as_read (ups_f f u x) 0 kids.forest))

  link_list : (inside : Inside) (inside_f : InsideF)
      → ((p : Place) (u : Role) (x : Field) (cur : ℕ) (m : List ℕ)
      → forget as_read (ups_f f u x) 0 no_tally (inside p x (below cur (scope_of (head_of x))) m)
      ≡ inside_f p u cur (record { field = x; marks = m }))
      → Sums inside
      → (place : ℕ → Place) (ups : ℕ → Role) (cur n k : ℕ) (t : Tally) (at : ℕ) (m : List ℕ)
      → forget as_read ups k t (read_list inside f syms place cur k n at m)
      ≡ list_f (λ j s a m₁. one_f inside_f (place j) (ups j) cur s a m₁) n k (cap t) at m
  unfolding read_list list_f enter_f Sums tally_of
  link_list inside inside_f hk hs place ups cur zero k t at m =
      ap (λ (s : Tally). Ok (record { next = at; marks = m; tally = cap s })) (⊞-none t)
  link_list inside inside_f hk hs place ups cur (suc n) k t at m =
      after_field as_read ups k t (field_at f (place k) at) _ _ _ _ (λ x.
      after_tests as_read ups k t (right (place k) syms x) (may_name f cur m (scope_of (head_of x))) at _ _ _ _ (λ r.
      after_kids as_read ups k t (head_of x) (ups_f f (ups k) x)
      (inside (place k) x (below cur (scope_of (head_of x))) (naming m (scope_of (head_of x))))
      _
      (add_f f scopes syms (ups k) x (cap t))
      (λ q. read_list inside f syms place cur (suc k) n q.next q.marks)
      _
      (hk (place k) (ups k) x cur (naming m (scope_of (head_of x))))
      (λ kids e. hs (place k) (ups k) x (below cur (scope_of (head_of x))) (naming m (scope_of (head_of x))) t kids r e)
      (λ kids.
      link_list inside inside_f hk hs place ups cur n (suc k) (t ⊞ own_in as_read (ups k) (head_of x) kids.forest) kids.next kids.marks
      ∙ ap (λ (j : ℕ). list_f (λ j s a m₁. one_f inside_f (place j) (ups j) cur s a m₁) n j
      (cap (t ⊞ own_in as_read (ups k) (head_of x) kids.forest)) kids.next kids.marks) (one_more_lem k))))
    where
      one_more_lem : (k : ℕ) → suc k ≡ k + 1
      one_more_lem k = omega arith

  -- ---- with levels left

  sums : (l : ℕ) → Sums (λ p x cur m. read_forest l f syms (place_of p x) cur 0 (children_of x) x.next m)
  unfolding Sums head_of
  sums l p u x cur m t kids r e =
      let q = forest_parsed f syms l (place_of p x) cur 0 (children_of x) x.next m kids e in
      ap (λ (n : ℕ). cap (t ⊞ own u (inserts_in as_read u (head_of x)) (head_of x) n (tally_of as_read (role_of u x.tag (is_using (head_of x)) (body_of kids.forest)) 0 kids.forest)))
      q.1
      ∙ ap (λ (v : ℕ → Role). cap (t ⊞ own u (inserts_in as_read u (head_of x)) (head_of x) (children_of x) (tally_of as_read v 0 kids.forest)))
      (ups_are f syms p u x r q.1 q.0)
      ∙ sym (add_cap t u (inserts_in as_read u (head_of x)) (head_of x) (children_of x) (tally_of as_read (ups_f f u x) 0 kids.forest))
      ∙ ap (λ (s : Tally). add_f f scopes syms u x (cap t) (cap s)) (sym (none_⊞ (tally_of as_read (ups_f f u x) 0 kids.forest)))

  pub link_forest : (l : ℕ) (place : ℕ → Place) (ups : ℕ → Role) (cur n k : ℕ) (t : Tally) (at : ℕ) (m : List ℕ)
      → forget as_read ups k t (read_forest l f syms place cur k n at m)
      ≡ list_f (λ j s a m₁. record_f l f scopes syms (place j) (ups j) cur s a m₁) n k (cap t) at m
  unfolding read_forest record_f list_f tally_of
  link_forest zero place ups cur zero k t at m = ap (λ (s : Tally). Ok (record { next = at; marks = m; tally = cap s })) (⊞-none t)
  link_forest zero place ups cur (suc n) k t at m = refl
  link_forest (suc l) place ups cur n k t at m =
      link_list
      (λ p x cur m. read_forest l f syms (place_of p x) cur 0 (children_of x) x.next m)
      (λ p u cur e.
      list_f
      (λ j s a m₁. record_f l f scopes syms (place_of p e.field j) (ups_f f u e.field j) (below cur (scope_of (head_of e.field))) s a m₁)
      (children_of e.field) 0 no_tally e.field.next e.marks)
      (λ p u x cur m. link_forest l (place_of p x) (ups_f f u x) (below cur (scope_of (head_of x))) (children_of x) 0 no_tally x.next m)
      (sums l)
      place ups cur n k t at m
