-- THE LAST CHECK EXACTLY: when the fifth numbers of the symbol rows refuse a file, and at which row (02, request 7).
-- Assumes nothing.
use Rattle.meaning.specs.declared.Reason.{Reason}
use Rattle.meaning.specs.declared.Reason.TheVariants as Reason
use Rattle.meaning.specs.Refusals.{Outcome, refused}
use Rattle.std.specs.Prelude.{Ok, Err, if◌then◌else◌, ◌≡◌, Bool, true, false, ◌&&◌, List, length, replicate, eqb, leb}
use Rattle.std.proofs.Math.Path.{refl}
use Rattle.std.proofs.Common.{sym, ap, ◌∙◌, le_antisymm, lt_of_not-le, le_of_suc-le-suc, arith, eqb-true, leb-true, leb-false, le-leb}
use Prim.Native.Nat.{ℕ, zero, suc, ◌+◌, ◌*◌, ◌-◌, ◌≤◌, ◌<◌}
use Rattle.std.proofs.lemmas.Bool.{eqb-false, lt-leb}
use Rattle.meaning.specs.Numbers.Mode
use Rattle.meaning.specs.File.{File, settings_bytes, scope_bytes, symbol_bytes}
use Rattle.meaning.specs.Mentions.{mentions}
use Rattle.meaning.specs.Grammar.{two, field_at, unnamed}
use Rattle.meaning.specs.Reading.{
  ◌>>=◌,
  ◌>>◌,
  ensure,
  read_scopes,
  read_symbols,
  read_forest,
  wrong_count,
  check_counts,
  most_bytes,
  most_levels,
  read_through,
  read_file,
}
use Rattle.meaning.specs.declared.Place.TheVariants.{Settings, Program}
use Rattle.meaning.specs.declared.Field.{Field}
use Rattle.meaning.specs.declared.Rows.{Rows}
use Rattle.spec_laws.specs.Refused.{same_refused}
use Rattle.parsing.specs.Fields.{field_is, scopes_are}
use Rattle.parsing.specs.Files.{settings_are, scopes_length, symbols_length}

-- Reading without its last check.
unfoldable pub read_uncounted : List ℕ → Outcome File
read_uncounted f = read_through (read_forest most_levels) (λ tree n at. Ok tt) f

-- the offset of the first symbol row, behind the settings and the scope rows; that of row y, counted from 1
abbrev pub first_symbol : File → ℕ
first_symbol g = settings_bytes + scope_bytes * length g.scopes

abbrev pub symbol_offset : File → ℕ → ℕ
symbol_offset g y = first_symbol g + symbol_bytes * (y - 1)

-- the fifth number of symbol row y in the bytes, behind a head of three and four numbers of two
abbrev pub fifth_number : List ℕ → File → ℕ → ℕ
fifth_number f g y = two f (symbol_offset g y + 11)

-- it is how often the tree names the row
abbrev pub CountRight : List ℕ → File → ℕ → Type 0
CountRight f g y = fifth_number f g y ≡ mentions y g.tree

-- every row's count is right
abbrev pub CountsRight : List ℕ → File → Type 0
CountsRight f g = (y : ℕ) → 1 ≤ y → y ≤ length g.symbols → CountRight f g y

-- row y is the lowest whose count is wrong
pub record LowestWrong (f : List ℕ) (g : File) (y : ℕ) : Type 0 where
  pub from_one : 1 ≤ y
  pub a_row : y ≤ length g.symbols
  pub wrong : CountRight f g y → ⊥
  pub below : (j : ℕ) → 1 ≤ j → j < y → CountRight f g j

-- a refusal of the last check: 5 at that row
pub record CountRefused (f : List ℕ) (g : File) (c : Reason) (p : ℕ) : Type 0 where
  pub row : ℕ
  pub lowest_wrong : LowestWrong f g row
  pub number : c ≡ Reason.WrongNumber
  pub place : p ≡ symbol_offset g row

-- ---- the search for a wrong count

module _ (f : List ℕ) (count : ℕ → ℕ) where
  -- of rows from row y at an offset on, the one that is j rows behind it has its count
  abbrev RightAt : ℕ → ℕ → ℕ → Type 0
  RightAt y at j = two f (at + symbol_bytes * j + 11) ≡ count (y + j)

  -- of n such rows, the first k have theirs, and the next one, if there is one, has not
  record Lowest (n y at k : ℕ) : Type 0 where
    most : k ≤ n
    below : (j : ℕ) → j < k → RightAt y at j
    here : k < n → RightAt y at k → ⊥

  -- the first row
  first_is : (y at : ℕ) → RightAt y at 0 ≡ (two f (at + 11) ≡ count y)
  first_is y at =
      let place : at + 0 ≡ at = omega arith in
      let row : y + 0 ≡ y = omega arith in
      rw (place, row)

  -- the rows behind it are those from the next row on
  next_is : (y at j : ℕ) → RightAt y at (suc j) ≡ RightAt (suc y) (at + symbol_bytes) j
  next_is y at j =
      let place : at + symbol_bytes * suc j ≡ at + symbol_bytes + symbol_bytes * j = omega arith in
      let row : y + suc j ≡ suc y + j = omega arith in
      rw (place, row)

  by_first : (b : Bool) (n y at w : ℕ) → eqb (two f (at + 11)) (count y) ≡ b → Lowest n (suc y) (at + symbol_bytes) w
      → Lowest (suc n) y at (if b then 1 + w else 0)
  by_first true n y at w e q =
      let one : 1 + w ≡ suc w = omega arith in
      record { most = omega arith; below = rights; here = λ l r. q.here (omega arith) (rw (one, next_is y at w) at r) }
    where
      rights : (j : ℕ) → j < 1 + w → RightAt y at j
      rights zero l = rw (first_is y at) (eqb-true _ _ e)
      rights (suc j) l = rw (next_is y at j) (q.below j (omega arith))
  by_first false n y at w e q =
      record { most = omega arith; below = λ j l. absurd (omega arith); here = λ l r. eqb-false _ _ e (rw (first_is y at) at r) }

  -- the search finds that row
  lowest : (n y at : ℕ) → Lowest n y at (wrong_count f count n y at)
  unfolding wrong_count
  lowest zero y at = record { most = omega arith; below = λ j l. absurd (omega arith); here = λ l. absurd (omega arith) }
  lowest (suc n) y at = by_first (eqb (two f (at + 11)) (count y)) n y at _ refl (lowest n (suc y) (at + symbol_bytes))

  -- there is one such row
  not_above : {n y at k w : ℕ} → Lowest n y at k → Lowest n y at w → k ≤ w
  not_above {n} {y} {at} {k} {w} p q =
      le_of_suc-le-suc (lt_of_not-le (λ (l : w < k). q.here (omega arith) (p.below w l)))

  only_lowest : {n y at k : ℕ} → Lowest n y at k → wrong_count f count n y at ≡ k
  only_lowest {n} {y} {at} p = le_antisymm (not_above (lowest n y at) p) (not_above p (lowest n y at))

-- ---- reading, step by step

-- two readings whose steps are alike
alike : {A B C : Type 0} (m : Outcome A) (g : A → Outcome C) (h : A → Outcome B) (k : B → Outcome C)
    → ((a : A) → m ≡ Ok a → g a ≡ (h a >>= k)) → (m >>= g) ≡ ((m >>= h) >>= k)
alike (Ok a) g h k e = e a refl
alike (Err r) g h k e = refl

-- the first symbol row stands behind the settings and the scope rows
behind_scopes : (f : List ℕ) (x : Field) (r : Rows) → field_at f Settings 0 ≡ Ok x
    → read_scopes f x.next ≡ Ok r → r.next ≡ settings_bytes + scope_bytes * r.count
behind_scopes f x r e d =
    let (same, y) = field_is f Settings 0 x e in
    let next : x.next ≡ settings_bytes = ap (λ (v : Field). v.next) same ∙ (settings_are f y).2 in
    let inside : x.next ≤ length f = omega (arith, ap (λ (v : Field). v.next) same, y.ends) in
    omega (arith, (scopes_are f x.next r.count r.next inside d).next_is)

-- the last check, of a file that the others accept
abbrev pub counts_checked : List ℕ → File → Outcome File
counts_checked f g = do
  check_counts f (λ y. mentions y g.tree) (length g.symbols) (first_symbol g)
  Ok g

-- READING IS READING WITHOUT THE LAST CHECK, and then that check.
pub counts_last : (f : List ℕ) → read_file f ≡ (read_uncounted f >>= counts_checked f)
unfolding read_file read_uncounted
counts_last f =
    alike (ensure (leb (length f) most_bytes) Reason.TooLong most_bytes) _ _ _ (λ _ _.
    alike (field_at f Settings 0) _ _ _ (λ x ex.
    alike (ensure (leb x.a Mode.Inline && leb x.b 1) Reason.WrongNumber 0) _ _ _ (λ _ _.
    alike (read_scopes f x.next) _ _ _ (λ s es.
    alike (read_symbols f s.count s.next) _ _ _ (λ y _.
    alike (read_forest most_levels f y.count (λ _. Program) 0 0 1 y.next (replicate s.count 0)) _ _ _ (λ p _.
    alike (ensure (leb (length f) p.next) Reason.BytesBehind p.next) _ _ _ (λ _ _.
    alike
    (ensure (leb s.count (unnamed p.marks)) Reason.WrongNumber (settings_bytes + scope_bytes * unnamed p.marks)) _ _ _ (λ _ _.
    rw (symbols_length f y.count s.next, scopes_length f s.count 1, behind_scopes f x s ex es)))))))))

-- reading answers what the last check makes of it
if_uncounted : (f : List ℕ) {o : Outcome File} → read_uncounted f ≡ o → read_file f ≡ (o >>= counts_checked f)
if_uncounted f e = counts_last f ∙ ap (λ (o : Outcome File). o >>= counts_checked f) e

-- a test that passed, and one that failed
by_passed : (b : Bool) (q : ℕ) (h g : File) → (ensure b Reason.WrongNumber q >> Ok h) ≡ Ok g → (b ≡ true) × (h ≡ g)
by_passed true q h g e = (refl, cc)
by_passed false q h g e = (cc, cc)

by_failed : (b : Bool) (q : ℕ) (c : Reason) (p : ℕ) (g : File) → (ensure b Reason.WrongNumber q >> Ok g) ≡ refused c p
    → (b ≡ false) × (c ≡ Reason.WrongNumber) × (p ≡ q)
by_failed true q c p g e = (cc, cc, cc)
by_failed false q c p g e = let (reason, place) = same_refused e in (refl, sym reason, sym place)

-- ---- the search in a file

module _ (f : List ℕ) (g : File) where
  -- the row that is found, counted from 0
  abbrev searched : ℕ
  searched = wrong_count f (λ y. mentions y g.tree) (length g.symbols) 1 (first_symbol g)

  abbrev LowestIn : ℕ → Type 0
  LowestIn k = Lowest f (λ y. mentions y g.tree) (length g.symbols) 1 (first_symbol g) k

  -- row j counted from 0 is row j + 1
  row_is : (j : ℕ) → RightAt f (λ y. mentions y g.tree) 1 (first_symbol g) j ≡ CountRight f g (suc j)
  row_is j =
      let row : 1 + j ≡ suc j = omega arith in
      let back : suc j - 1 ≡ j = omega arith in
      rw (row, back)

  all_right : CountsRight f g → LowestIn (length g.symbols)
  all_right h = record { most = omega arith; below = λ j l. rw (row_is j) (h (suc j) (omega arith) l); here = λ l. absurd (omega arith) }

  lowest_in : (k : ℕ) → LowestWrong f g (suc k) → LowestIn k
  lowest_in k q =
      record {
        most = omega (arith, q.a_row);
        below = λ j l. rw (row_is j) (q.below (suc j) (omega arith) (omega arith));
        here = λ _ r. q.wrong (rw (row_is k) at r);
      }

  right_below : (k : ℕ) → LowestIn k → (j : ℕ) → 1 ≤ j → j ≤ k → CountRight f g j
  right_below k q zero l m = absurd (omega arith)
  right_below k q (suc j) l m = rw (row_is j) at (q.below j m)

  in_lowest : (k : ℕ) → k < length g.symbols → LowestIn k → LowestWrong f g (suc k)
  in_lowest k l q =
      record {
        from_one = omega arith;
        a_row = l;
        wrong = λ r. q.here l (rw (row_is k) r);
        below = λ j m n. right_below k q j m (omega arith);
      }

  -- the check passes, or refuses; and what it tells if it does

  passes : length g.symbols ≤ searched → counts_checked f g ≡ Ok g
  passes l = rw (le-leb (length g.symbols) searched l)

  refuses : searched < length g.symbols → counts_checked f g ≡ refused Reason.WrongNumber (first_symbol g + symbol_bytes * searched)
  refuses l = rw (lt-leb (length g.symbols) searched l)

  passed : counts_checked f g ≡ Ok g → CountsRight f g
  passed e =
      let n = length g.symbols in
      let all : n ≤ searched = leb-true n searched (by_passed (leb n searched) (first_symbol g + symbol_bytes * searched) g g e).0 in
      λ j l m. right_below searched (lowest f _ n 1 (first_symbol g)) j l (omega arith)

  failed : (c : Reason) (p : ℕ) → counts_checked f g ≡ refused c p → CountRefused f g c p
  failed c p e =
      let n = length g.symbols in
      let (b, number, place) = by_failed (leb n searched) (first_symbol g + symbol_bytes * searched) c p g e in
      let back : suc searched - 1 ≡ searched = omega arith in
      record {
        row = suc searched;
        lowest_wrong = in_lowest searched (leb-false n searched b) (lowest f _ n 1 (first_symbol g));
        number = number;
        place = rw back place;
      }

-- the last check hands on the file that it was given
uncounted_is : (f : List ℕ) (g : File) (o : Outcome File) → (o >>= counts_checked f) ≡ Ok g → o ≡ Ok g
uncounted_is f g (Ok h) e =
    ap Ok (by_passed (leb (length h.symbols) (searched f h)) (first_symbol h + symbol_bytes * searched f h) h g e).1
uncounted_is f g (Err r) e = e

-- ---- when it refuses, and where

-- What the checks before it refuse is refused as before.
pub count_refused : (f : List ℕ) (c : Reason) (p : ℕ) → read_uncounted f ≡ refused c p → read_file f ≡ refused c p
count_refused f c p e = if_uncounted f e

-- A file that they accept is accepted if every symbol row has its count,
pub counts_right : (f : List ℕ) (g : File) → read_uncounted f ≡ Ok g → CountsRight f g → read_file f ≡ Ok g
counts_right f g e h = if_uncounted f e ∙ passes f g (omega (arith, only_lowest f _ (all_right f g h)))

-- and else refused with 5 at the lowest row that has not.
pub count_wrong : (f : List ℕ) (g : File) (y : ℕ) → read_uncounted f ≡ Ok g → LowestWrong f g y
    → read_file f ≡ refused Reason.WrongNumber (symbol_offset g y)
count_wrong f g zero e q = absurd (omega (arith, q.from_one))
count_wrong f g (suc k) e q =
    let w : searched f g ≡ k = only_lowest f _ (lowest_in f g k q) in
    let back : suc k - 1 ≡ k = omega arith in
    if_uncounted f e ∙ refuses f g (omega (arith, q.a_row)) ∙ rw (w, back)

-- So an accepted file passes them, and its counts are right;
pub counts_accepted : (f : List ℕ) (g : File) → read_file f ≡ Ok g → (read_uncounted f ≡ Ok g) × CountsRight f g
counts_accepted f g e =
    let u = uncounted_is f g (read_uncounted f) (sym (counts_last f) ∙ e) in
    (u, passed f g (sym (if_uncounted f u) ∙ e))

-- and a file that they accept is refused for a wrong count only.
pub count_lowest : (f : List ℕ) (g : File) (c : Reason) (p : ℕ) → read_uncounted f ≡ Ok g → read_file f ≡ refused c p → CountRefused f g c p
count_lowest f g c p u e = failed f g c p (sym (if_uncounted f u) ∙ e)
